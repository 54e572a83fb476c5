-- What words ask for is within its bounds.
use Rattle.std.proofs.Common.{◌≡◌, ◌≤◌, ◌^◌, ℕ, Bool, true, false, List, [], ◌∷◌, Option, None}
use Rattle.std.proofs.Common.{Some}
use Rattle.std.proofs.Common.{arith, inl, inr, refl, subst}
use Rattle.std.proofs.lemmas.Bool.Decides.{nat_tests}
use Rattle.std.proofs.lemmas.Bool.{and_parts, cases_Bool}
use Rattle.std.proofs.lemmas.Option.{none-some, option_and_then_some, same_Some}
use Rattle.std.specs.List.{AllByRecursion, list_all}
use Rattle.std.specs.Prelude.{◌&&◌, IsTrue, codes, eqb, find, if◌then◌else◌, nat_le}
use Rattle.std.specs.Prelude.{option_and_then, option_map}
use Rattle.std.specs.Str.{bytes_eq}
use Rattle.base.specs.Lines.{is_line_size}
use Rattle.clap.specs.Walk.{is_empty}
use Rattle.clap.specs.Words.{App, Row, Text, fault_of, first_of, matches_of}
use Rattle.command_line.specs.Asked.{asked}
use Rattle.command_line.specs.Blame.{asked_of_blame}
use Rattle.command_line.specs.Caches.{asked_of_caches}
use Rattle.command_line.specs.Check.{asked_of_check}
use Rattle.command_line.specs.Convert.{asked_of_convert}
use Rattle.command_line.specs.Explain.{asked_of_explain}
use Rattle.command_line.specs.Filter.{FilterDemand, asked_of_filter, filter_app, filter_of}
use Rattle.command_line.specs.Filter.{filter_with, given_near, near_at}
use Rattle.command_line.specs.Gen.{GenDemand, allowed_count, asked_of_gen, count_in, gen_app}
use Rattle.command_line.specs.Gen.{gen_of}
use Rattle.command_line.specs.Gen.{gen_with}
use Rattle.command_line.specs.Layouts.{given_size, size_at}
use Rattle.command_line.specs.Misses.{asked_of_misses}
use Rattle.command_line.specs.Names.{are_apart}
use Rattle.command_line.specs.Numbers.{number_of, number_or}
use Rattle.command_line.specs.Place.{PlaceDemand, asked_of_place, place_app, place_demand_of}
use Rattle.command_line.specs.Place.{place_with}
use Rattle.command_line.specs.Relocate.{asked_of_move}
use Rattle.command_line.specs.Replay.{asked_of_replay}
use Rattle.command_line.specs.Run.{asked_of_run}
use Rattle.command_line.specs.Split.{asked_of_split}
use Rattle.command_line.specs.Sweep.{SweepDemand, allowed_size, asked_of_sweep, is_swept_size}
use Rattle.command_line.specs.Sweep.{size_in, sweep_app, sweep_of, sweep_with}
use Rattle.command_line.specs.Words.{Demand, Named, asked_among, asked_of, blame, caches, check}
use Rattle.command_line.specs.Words.{commands, convert, demand_of, explain, filter, gen, inputs}
use Rattle.command_line.specs.Words.{misses}
use Rattle.command_line.specs.Words.{outputs, place, relocate, replay, run, split, sweep, terms_of}
use Rattle.command_line.specs.Words.{with_names_apart}

-- what a test lets through
let_through : {A : Type 0} (b : Bool) (o : Option A) (x : A) → (if b then o else None) ≡ Some x
    → o ≡ Some x
let_through true o x is = is
let_through false o x is = absurd (none-some x is)

mapped : {A B : Type 0} (f : A → B) (P : B → Type 0) (o : Option A)
    → ((x : A) → o ≡ Some x → P (f x)) → (y : B) → option_map f o ≡ Some y → P y
mapped f P None all y is = absurd (none-some y is)
mapped f P (Some x) all y is = subst P (same_Some (f x) y is) (all x refl)

-- a number that passes a test
passed : (test : ℕ → Bool) (m n : ℕ) → (if test m then Some m else None) ≡ Some n
    → IsTrue (test n)
passed test m n is =
    elim (cases_Bool (test m)) [
      | inl fits ↦
          let same : m ≡ n = same_Some m n (rw fits at is) in
          subst (λ (k : ℕ). IsTrue (test k)) same fits
      | inr other ↦ absurd (none-some n (rw other at is))
    ]

-- what is found among numbers that all pass a test
found : (test p : ℕ → Bool) (ns : List ℕ) (n : ℕ) → list_all test ns ≡ true → find p ns ≡ Some n
    → test n ≡ true
found test p [] n all is = absurd (none-some n is)
found test p (m ∷ ns) n all is =
    let both = and_parts (test m) (list_all test ns) all in
    elim (cases_Bool (p m)) [
      | inl this ↦ subst (λ (k : ℕ). test k ≡ true) (same_Some m n (rw this at is)) both.0
      | inr other ↦ found test p ns n both.1 (rw other at is)
    ]

-- what the values of words ask for, where `clap` has no fault of them
module _ {D : Type 0} (P : D → Type 0) (app : App) (of : List Row → Option D)
    (each : (rows : List Row) (d : D) → of rows ≡ Some d → P d)
  where
    of_words : (words : List Text) (d : D) → asked app of words ≡ Some d → P d
    unfolding asked
    of_words words d is =
        each (matches_of app words) d
        (let_through (is_empty (fault_of app words)) (of (matches_of app words)) d is)

-- ---- of the commands that have bounds

abbrev IsGood : Demand → Type 0
IsGood d = (terms_of d).IsWithin

few : (n : ℕ) → IsTrue (nat_le n (10 ^ 9)) → n ≤ 10 ^ 9
few n is = grind (arith, nat_tests)

gen_bounded : (rows : List Row) (d : GenDemand) → gen_of rows ≡ Some d → IsGood (gen d)
gen_bounded rows d is =
    option_and_then_some _ (first_of (codes "file") rows) d is (λ file _ last.
    mapped (gen_with file) (λ (x : GenDemand). IsGood (gen x))
    (count_in (first_of (codes "count") rows))
    (λ n given. option_and_then_some allowed_count
    (option_and_then number_of (first_of (codes "count") rows)) n given
    (λ m _ taken. few n (passed (λ k. nat_le k (10 ^ 9)) m n taken))) d last)

sweep_bounded : (rows : List Row) (d : SweepDemand) → sweep_of rows ≡ Some d → IsGood (sweep d)
sweep_bounded rows d is =
    option_and_then_some _ (first_of (codes "trace") rows) d is (λ trace _ last.
    mapped (sweep_with trace) (λ (x : SweepDemand). IsGood (sweep x))
    (size_in (first_of (codes "size") rows))
    (λ n given. option_and_then_some allowed_size
    (option_and_then number_of (first_of (codes "size") rows)) n given
    (λ m _ taken. passed is_swept_size m n taken)) d last)

place_bounded : (rows : List Row) (d : PlaceDemand) → place_demand_of rows ≡ Some d → IsGood (place d)
place_bounded rows d is =
    option_and_then_some _ (first_of (codes "trace") rows) d is (λ trace _ named.
    option_and_then_some _ (first_of (codes "name") rows) d named (λ name _ last.
    mapped (place_with trace name) (λ (x : PlaceDemand). IsGood (place x))
    (given_size (first_of (codes "size") rows))
    (λ n given. option_and_then_some size_at (number_or 64 (first_of (codes "size") rows)) n given
    (λ m _ taken. passed is_line_size m n taken)) d last))

abbrev from_6_to_16 : ℕ → Bool
from_6_to_16 k = nat_le 6 k && nat_le k 16

near_bounded : (n k : ℕ) → near_at n ≡ Some k → (6 ≤ k) × (k ≤ 16)
near_bounded n k is =
    let fits : from_6_to_16 k ≡ true =
    found from_6_to_16 (λ j. eqb n (2 ^ j))
    (6 ∷ 7 ∷ 8 ∷ 9 ∷ 10 ∷ 11 ∷ 12 ∷ 13 ∷ 14 ∷ 15 ∷ 16 ∷ []) k refl is in
    let both = and_parts (nat_le 6 k) (nat_le k 16) fits in
    grind (arith, nat_tests, both)

filter_bounded : (rows : List Row) (d : FilterDemand) → filter_of rows ≡ Some d → IsGood (filter d)
filter_bounded rows d is =
    option_and_then_some _ (first_of (codes "trace") rows) d is (λ trace _ named.
    option_and_then_some _ (first_of (codes "file") rows) d named (λ file _ last.
    mapped (filter_with trace file) (λ (x : FilterDemand). IsGood (filter x))
    (given_near (first_of (codes "near") rows))
    (λ k given. option_and_then_some near_at (number_or 4096 (first_of (codes "near") rows)) k given
    (λ n _ taken. near_bounded n k taken)) d last))

-- ---- of all commands

-- what is asked of one of some commands
abbrev IsAsked : List Text → Named → Type 0
IsAsked words c = (d : Demand) → c.asked words ≡ Some d → IsGood d

among : (cs : List Named) (command : Text) (words : List Text) (d : Demand)
    → AllByRecursion (IsAsked words) cs → asked_among cs command words ≡ Some d → IsGood d
among [] command words d all is = absurd (none-some d is)
among (c ∷ cs) command words d all is =
    elim (cases_Bool (bytes_eq command c.name)) [
      | inl this ↦ all.0 d (rw this at is)
      | inr other ↦ among cs command words d all.1 (rw other at is)
    ]

also : {P Q : Type 0} → P → Q → P × Q
also p q = (p, q)

each_bounded : (words : List Text) → AllByRecursion (IsAsked words) commands
each_bounded words =
    also (mapped run IsGood (asked_of_run words) (λ d is. tt))
    (also (mapped replay IsGood (asked_of_replay words) (λ d is. tt))
    (also (mapped check IsGood (asked_of_check words) (λ d is. tt))
    (also (mapped split IsGood (asked_of_split words) (λ d is. tt))
    (also (mapped gen IsGood (asked_of_gen words)
    (of_words (λ (d : GenDemand). IsGood (gen d)) gen_app gen_of gen_bounded words))
    (also (mapped convert IsGood (asked_of_convert words) (λ d is. tt))
    (also (mapped sweep IsGood (asked_of_sweep words)
    (of_words (λ (d : SweepDemand). IsGood (sweep d)) sweep_app sweep_of sweep_bounded words))
    (also (mapped caches IsGood (asked_of_caches words) (λ d is. tt))
    (also (mapped place IsGood (asked_of_place words)
    (of_words (λ (d : PlaceDemand). IsGood (place d)) place_app place_demand_of place_bounded words))
    (also (mapped relocate IsGood (asked_of_move words) (λ d is. tt))
    (also (mapped filter IsGood (asked_of_filter words)
    (of_words (λ (d : FilterDemand). IsGood (filter d)) filter_app filter_of filter_bounded words))
    (also (mapped misses IsGood (asked_of_misses words) (λ d is. tt))
    (also (mapped blame IsGood (asked_of_blame words) (λ d is. tt))
    (also (mapped explain IsGood (asked_of_explain words) (λ d is. tt)) tt)))))))))))))

pub words_bounded : (words : List Text) (d : Demand) → demand_of words ≡ Some d
    → (terms_of d).IsWithin
words_bounded [] d is = absurd (none-some d is)
words_bounded (command ∷ rest) d is =
    let words : List Text = command ∷ rest in
    option_and_then_some with_names_apart (asked_of command words) d is (λ x named kept.
    let same : x ≡ d =
    same_Some x d (let_through (are_apart (outputs x) (inputs x)) (Some x) d kept) in
    subst IsGood same (among commands command words x (each_bounded words) named))
