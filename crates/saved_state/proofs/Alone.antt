-- A track by itself: its head, and then its words.
use Rattle.std.proofs.Common.{◌≡◌, ℕ, ◌+◌, ◌-◌, ◌*◌, ◌/◌, ◌<◌, ◌≤◌, Bool, true, false, ◌&&◌, leb}
use Rattle.std.proofs.Common.{ltb, eqb, List, []}
use Rattle.std.proofs.Common.{◌∷◌, length, drop, replicate, refl, sym, ap, ◌∙◌, subst, arith}
use Rattle.std.proofs.lemmas.Bool.{and_parts, eqb-true, leb-true, ltb-true}
use Rattle.std.proofs.lemmas.Bool.Decides.{nat_tests}
use Rattle.std.proofs.lemmas.List.Sums.{sum_by-cons}
use Rattle.std.proofs.lemmas.Option.{none-some, same_Some}
use Rattle.std.specs.Prelude.{IfSome, flat_map, nat_eq, nat_lt, nat_le, Option, None, Some}
use Rattle.std.specs.Prelude.{if◌then◌else◌, option_and_then, slice_index}
use Rattle.std.specs.Prelude.{sum_by}
use Rattle.std.specs.List.{list_all, starts_with}
use Rattle.std.specs.Option.{SomeIff}
use Rattle.sharing_rules.specs.Words.{accesses, tally}
use Rattle.sharing_rules.specs.declared.word.Owner.{Owner}
use Rattle.sharing_rules.specs.declared.word.Owner.TheVariants as owner
use Rattle.sharing_rules.specs.declared.word.Word.{Word}
use Rattle.line_tracks.specs.RangeWords.{can_own, is_possible}
use Rattle.line_tracks.specs.Laws.Words.{map_below_same}
use Rattle.line_tracks.specs.TrackValue.{IsBlank, IsSince, TrackValue}
use Rattle.saved_state.specs.Laws.Lengths.{length-head, length-track}
use Rattle.saved_state.proofs.Spelled.{if_spelled-short}
use Rattle.saved_state.specs.Parts.{are_words, head_at, head_in, most_of}
use Rattle.saved_state.specs.Spelling.{Header, spell_head, spell_track, spell_word}
use Rattle.saved_state.specs.Units.{are_entries, is_good_track, is_good_word, is_owner, is_since}
use Rattle.saved_state.specs.Units.{kind_of, size_of, track_alone, track_at}
use Rattle.saved_state.specs.Units.{words_at}
use Rattle.saved_state.proofs.Words.{length-words_at, starts_append}

-- a head with its words
abbrev pub with_words : Header → List ℕ → TrackValue → Option TrackValue
with_words h bytes x =
    if are_words h.harts (most_of h.position x.start) (size_of h.grid x.kind / 4) bytes
    then Some (record x { words = words_at (size_of h.grid x.kind / 4) bytes }) else None

-- bytes that are fewer than the head or the words take
pub alone-short : (h : Header) (bytes : List ℕ)
    → length bytes < 32 + 20 * (size_of h.grid (kind_of (slice_index bytes 0)) / 4)
    → track_alone h bytes ≡ None
unfolding track_alone
alone-short h bytes few =
    let x = track_at h.grid bytes in
    if_spelled-short spell_track (is_good_track h x) x bytes
    (omega (
      arith,
      few,
      length-track x,
      length-words_at
          (size_of h.grid (kind_of (slice_index bytes 0)) / 4) bytes,
    ))

none_few : (e c : Bool) (n : ℕ) → (e && c && eqb n 0) ≡ ((e && c && eqb 0 0) && leb n 0)
none_few e c n = grind (arith, nat_tests)

some_few : (e : Bool) (c s n p : ℕ) → (e && ltb (c + s) p && leb (n + s) p)
    ≡ ((e && ltb (c + s) p && leb (0 + s) p) && leb n (p - s))
some_few e c s n p = grind (arith, nat_tests)

-- the rule of a track's head, and of how many accesses its words have
since-parts : (h : Header) (x : TrackValue) (start : Option ℕ) → is_since h x start
    ≡ (is_since h (record x { words = [] }) start && nat_le (sum_by accesses x.words)
    (most_of h.position start))
since-parts h x None = none_few (eqb (length x.entries) 0) (eqb x.count 0) (sum_by accesses x.words)
since-parts h x (Some s) = some_few (are_entries h.harts x.entries) x.count s
    (sum_by accesses x.words) h.position

head-same : (x : TrackValue) → spell_head x ≡ spell_head (record x { words = [] })
unfolding spell_head
head-same x = refl

by_parts : (a g l b c : Bool) → ((a && (g && l)) && (b && c)) ≡ ((g && b) && ((a && l) && c))
by_parts true true true b c = refl
by_parts true true false true c = refl
by_parts true true false false c = refl
by_parts true false l b c = refl
by_parts false true l true c = refl
by_parts false true l false c = refl
by_parts false false l b c = refl

then_words : (b w : Bool) (x y : TrackValue) (f : TrackValue → Option TrackValue) → f y ≡ (if w then Some x else None)
    → (if b && w then Some x else None) ≡ option_and_then f (if b then Some y else None)
then_words true w x y f is = sym is
then_words false w x y f is = refl

-- a head that is read, and then its words
pub alone-then : (h : Header) (bytes : List ℕ) → track_alone h bytes
    ≡ option_and_then (with_words h bytes) (head_in h bytes)
unfolding track_alone head_in are_words
alone-then h bytes =
    let x = track_at h.grid bytes in
    let y = head_at h.grid bytes in
    let ws = x.words in
    let all = list_all (is_good_word h.harts) ws in
    let good = is_since h y x.start in
    let low = nat_le (sum_by accesses ws) (most_of h.position x.start) in
    let head = starts_with nat_eq bytes (spell_head y) in
    let rest = starts_with nat_eq (drop 32 bytes) (flat_map spell_word ws) in
    let spelled : starts_with nat_eq bytes (spell_track x) ≡ (head && rest) =
    starts_append bytes (spell_head x) (flat_map spell_word ws)
    ∙ ap (λ n. starts_with nat_eq bytes (spell_head x) && starts_with nat_eq (drop n bytes)
    (flat_map spell_word ws)) (length-head x)
    ∙ ap (λ t. starts_with nat_eq bytes t && rest) (head-same x) in
    let test : (is_good_track h x && starts_with nat_eq bytes (spell_track x))
    ≡ ((good && head) && ((all && low) && rest)) =
    (λ i. (all && since-parts h x x.start i) && spelled i) ∙ by_parts all good low head rest in
    ap (λ b. if b then Some x else None) test
    ∙ then_words (good && head) ((all && low) && rest) x y (with_words h bytes) refl

-- ---- words without an access

untouched : (harts : ℕ) (w : Word) → is_good_word harts w ≡ true → accesses w ≡ 0 → w ≡ tally []
untouched harts w good none =
    let possible = (and_parts (is_possible w) (is_owner harts w.owner) good).0 in
    let reads : w.reads ≡ 0 = omega (arith, none) in
    let writes : w.writes ≡ 0 = omega (arith, none) in
    let mine : w.owner ≡ owner.None = unowned w.owner (accesses w) possible none in
    λ i. record { reads = reads i; writes = writes i; owner = mine i }
  where
    unowned : (o : Owner) (n : ℕ) → can_own o n ≡ true → n ≡ 0 → o ≡ owner.None
    unowned owner.None n can none = refl
    unowned (owner.One h) n can none = absurd (omega (arith, leb-true 1 n can, none))
    unowned owner.Many n can none = absurd (omega (arith, leb-true 2 n can, none))

pub all_untouched : (harts : ℕ) (ws : List Word) → list_all (is_good_word harts) ws ≡ true
    → sum_by accesses ws ≤ 0
    → ws ≡ replicate (length ws) (tally [])
all_untouched harts [] good none = refl
all_untouched harts (w ∷ ws) good none =
    let parts = and_parts (is_good_word harts w) (list_all (is_good_word harts) ws) good in
    let sum = sum_by-cons accesses w ws in
    let first = untouched harts w parts.0 (omega (arith, sum, none)) in
    let rest = all_untouched harts ws parts.1 (omega (arith, sum, none)) in
    λ i. first i ∷ rest i

-- ---- what is true of a head that is read, and of its track

some_by : {X : Type 0} (g b : Bool) (x y : X) → (if g && b then Some x else None) ≡ Some y
    → (g ≡ true) × (x ≡ y)
some_by true true x y is = (refl, same_Some x y is)
some_by true false x y is = absurd (none-some y is)
some_by false b x y is = absurd (none-some y is)

pub head-is : (h : Header) (bytes : List ℕ) (x : TrackValue) → head_in h bytes ≡ Some x
    → (is_since h x x.start ≡ true) × (x.kind ≡ kind_of (slice_index bytes 0))
unfolding head_in
head-is h bytes x is =
    let y = head_at h.grid bytes in
    let found = some_by (is_since h y y.start) (starts_with nat_eq bytes (spell_head y)) y x is in (
      subst (λ (z : TrackValue). is_since h z z.start ≡ true) found.1 found.0,
      ap (λ (z : TrackValue). z.kind) (sym found.1),
    )

-- what is true of words that are at no fault
pub words-are : (harts most n : ℕ) (bytes : List ℕ) → are_words harts most n bytes ≡ true
    → (list_all (is_good_word harts) (words_at n bytes) ≡ true)
    × (sum_by accesses (words_at n bytes) ≤ most)
unfolding are_words
words-are harts most n bytes passes =
    let parts = and_parts (list_all (is_good_word harts) (words_at n bytes) && nat_le
    (sum_by accesses (words_at n bytes)) most) _ passes in
    let inner = and_parts (list_all (is_good_word harts) (words_at n bytes))
    (nat_le (sum_by accesses (words_at n bytes)) most) parts.0 in
    (inner.0, leb-true (sum_by accesses (words_at n bytes)) most inner.1)

pub in_time-from : (h : Header) (x : TrackValue) (ws : List Word) (o : Option ℕ) → is_since h x o ≡ true
    → sum_by accesses ws ≤ most_of h.position o → IfSome o
    (IsSince (record x { words = ws }) h.position)
in_time-from h x ws None since few = tt
in_time-from h x ws (Some s) since few =
    let parts = and_parts _ (nat_le (sum_by accesses x.words + s) h.position) since in
    let inner = and_parts (are_entries h.harts x.entries)
    (nat_lt (x.count + s) h.position) parts.0 in
    let counted = ltb-true (x.count + s) h.position inner.1 in
    record {
      later = omega (arith, counted);
      accessed = omega (arith, counted, few);
      counted = counted;
    }

pub blank-from : (h : Header) (x : TrackValue) (ws : List Word) (o : Option ℕ) → is_since h x o ≡ true → o
    ≡ None
    → list_all (is_good_word h.harts) ws ≡ true → sum_by accesses ws ≤ most_of h.position o
    → length ws ≡ x.range.size / 4
    → IsBlank (record x { words = ws })
blank-from h x ws (Some s) since none good few long = absurd (none-some s (sym none))
blank-from h x ws None since none good few long =
    let parts = and_parts _ (eqb (sum_by accesses x.words) 0) since in
    let inner = and_parts (eqb (length x.entries) 0) (eqb x.count 0) parts.0 in
    record {
      count = eqb-true x.count 0 inner.1;
      words = all_untouched h.harts ws good few ∙ ap (λ n. replicate n (tally [])) long
          ∙ map_below_same (x.range.size / 4) (tally []);
    }

-- what there is, and what there isn't
pub there-is : {X : Type 0} (o : Option X) (P : Type 0) (v x : X) → o ≡ Some x → SomeIff o P v → P
    × (x ≡ v)
there-is (Some y) P v x is stated = (stated.0, same_Some x y (sym is) ∙ stated.1)
there-is None P v x is stated = absurd (none-some x is)

pub there-is_none : {X : Type 0} (o : Option X) (P : Type 0) (v : X) → o ≡ None → SomeIff o P v
    → ¬ P
there-is_none (Some y) P v is stated = absurd (none-some y (sym is))
there-is_none None P v is stated = stated
