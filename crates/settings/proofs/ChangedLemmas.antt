-- What a table under changes gives for a key.
use Rattle.std.proofs.Common.{◌≡◌, ℕ, Bool, true, false, ◌&&◌, List, [], ◌∷◌, Option, Some, None, refl}
use Rattle.std.proofs.Common.{ap, ◌∙◌, drop, take, option_map, true≢false, Ordering, Less, Equal}
use Rattle.std.proofs.Common.{Greater}
use Rattle.std.proofs.lemmas.Bool.{and_parts}
use Rattle.std.specs.Cmp.Lexicographic.{slice_cmp}
use Rattle.std.specs.Option.{option_map_or, option_or}
use Rattle.std.specs.Ordering.{is_eq, nat_cmp, match_ordering}
use Rattle.std.specs.Prelude.{not, pos}
use Rattle.toml.specs.Data.{Data, Members, get_member, integer, member, same_key}
use Rattle.settings.specs.declared.changes.Changes.{Changes}
use Rattle.settings.specs.declared.key.Key.{Key}
use Rattle.settings.specs.declared.key.Key.TheVariants.{Harts, Memory, Stack, Tracking, Prediction}
use Rattle.settings.specs.declared.key.Key.TheVariants.{Report, Quantum, Budget, Line, Seed}
use Rattle.settings.specs.Changed.{behind_changes, change_of, changed_table, no_changes}
use Rattle.settings.specs.Keys.{key_name, keys_in_order, rule_of}
use Rattle.settings.specs.Tables.{number_beside, number_of_form, whole_of_form}

abbrev whole : ℕ → Data
whole n = integer (pos n)

taken_past : (o : Ordering) (later : Option Data) (d : Data) → is_eq o ≡ false
    → match_ordering o later (Some d) later ≡ later
taken_past Less later d other = refl
taken_past Equal later d other = absurd (true≢false other)
taken_past Greater later d other = refl

taken_here : (o : Ordering) (later : Option Data) (d : Data) → is_eq o ≡ true
    → match_ordering o later (Some d) later ≡ Some d
taken_here Less later d same = absurd cc
taken_here Equal later d same = refl
taken_here Greater later d same = absurd cc

-- behind the change of another key, and of the key itself
past_one : (a b : List ℕ) (o : Option ℕ) (t : Members) → same_key a b ≡ false
    → get_member a (option_map_or (λ n. member b (integer (pos n)) t) o t) ≡ get_member a t
past_one a b None t other = refl
past_one a b (Some n) t other =
    taken_past (slice_cmp nat_cmp a b) (get_member a t) (whole n) other

here : (a : List ℕ) (o : Option ℕ) (t : Members) → same_key a a ≡ true
    → get_member a (option_map_or (λ n. member a (integer (pos n)) t) o t)
    ≡ option_or (option_map whole o) (get_member a t)
here a None t same = refl
here a (Some n) t same = taken_here (slice_cmp nat_cmp a a) (get_member a t) (whole n) same

-- the keys have other names
abbrev are_others : List ℕ → List Key → Bool
are_others a [] = true
are_others a (key ∷ keys) = not (same_key a (key_name key)) && are_others a keys

denied : (b : Bool) → not b ≡ true → b ≡ false
denied true h = absurd cc
denied false h = refl

past_all : (c : Changes) (a : List ℕ) (keys : List Key) (t : Members) → are_others a keys ≡ true
    → get_member a (behind_changes c keys t) ≡ get_member a t
past_all c a [] t others = refl
past_all c a (key ∷ keys) t others =
    let parts = and_parts (not (same_key a (key_name key))) (are_others a keys) others in
    past_one a (key_name key) (change_of c key) (behind_changes c keys t)
    (denied (same_key a (key_name key)) parts.0)
    ∙ past_all c a keys t parts.1

-- behind the changes of the keys before it, its own, and those of the keys after it
at_key : (c : Changes) (key : Key) (before after : List Key) (t : Members)
    → are_others (key_name key) before ≡ true → same_key (key_name key) (key_name key) ≡ true
    → are_others (key_name key) after ≡ true
    → get_member (key_name key) (behind_changes c before (behind_changes c (key ∷ after) t))
    ≡ option_or (option_map whole (change_of c key)) (get_member (key_name key) t)
at_key c key before after t first same last =
    past_all c (key_name key) before (behind_changes c (key ∷ after) t) first
    ∙ here (key_name key) (change_of c key) (behind_changes c after t) same
    ∙ ap (option_or (option_map whole (change_of c key))) (past_all c (key_name key) after t last)

get-changed : (c : Changes) (t : Members) (key : Key)
    → get_member (key_name key) (changed_table c t)
    ≡ option_or (option_map whole (change_of c key)) (get_member (key_name key) t)
unfolding changed_table
get-changed c t Harts =
    at_key c Harts (take 0 keys_in_order) (drop 1 keys_in_order) t refl refl refl
get-changed c t Memory =
    at_key c Memory (take 1 keys_in_order) (drop 2 keys_in_order) t refl refl refl
get-changed c t Stack =
    at_key c Stack (take 2 keys_in_order) (drop 3 keys_in_order) t refl refl refl
get-changed c t Tracking =
    at_key c Tracking (take 3 keys_in_order) (drop 4 keys_in_order) t refl refl refl
get-changed c t Prediction =
    at_key c Prediction (take 4 keys_in_order) (drop 5 keys_in_order) t refl refl refl
get-changed c t Report =
    at_key c Report (take 5 keys_in_order) (drop 6 keys_in_order) t refl refl refl
get-changed c t Quantum =
    at_key c Quantum (take 6 keys_in_order) (drop 7 keys_in_order) t refl refl refl
get-changed c t Budget =
    at_key c Budget (take 7 keys_in_order) (drop 8 keys_in_order) t refl refl refl
get-changed c t Line =
    at_key c Line (take 8 keys_in_order) (drop 9 keys_in_order) t refl refl refl
get-changed c t Seed =
    at_key c Seed (take 9 keys_in_order) (drop 10 keys_in_order) t refl refl refl

-- what is given under a rule
abbrev given_under : ℕ → Key → Option Data → Option ℕ
given_under tracking key given =
    option_map_or (number_of_form (rule_of tracking key).form) given
    (Some (rule_of tracking key).usual)

-- a key that is changed, and one that isn't
pub number-changed : (c : Changes) (t : Members) (key : Key) (tracking n : ℕ)
    → change_of c key ≡ Some n
    → number_beside tracking (changed_table c t) key
    ≡ whole_of_form (rule_of tracking key).form (pos n)
number-changed c t key tracking n changed =
    ap (given_under tracking key) (get-changed c t key
    ∙ ap (λ o. option_or (option_map whole o) (get_member (key_name key) t)) changed)

pub number-kept : (c : Changes) (t : Members) (key : Key) (tracking : ℕ)
    → change_of c key ≡ None
    → number_beside tracking (changed_table c t) key ≡ number_beside tracking t key
number-kept c t key tracking kept =
    ap (given_under tracking key) (get-changed c t key
    ∙ ap (λ o. option_or (option_map whole o) (get_member (key_name key) t)) kept)

pub changed-none : (t : Members) → changed_table no_changes t ≡ t
unfolding changed_table
changed-none t = refl
