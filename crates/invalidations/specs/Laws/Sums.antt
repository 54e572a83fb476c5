-- The numbers of all pairs add up to the count, and so do those of all harts.
use Rattle.std.proofs.Common.{◌≡◌, ℕ, List, [], ◌∷◌, ◌++◌, Option, Some, None, length}
use Rattle.std.proofs.Common.{refl, ap, ◌∙◌, arith, inl, inr}
use Rattle.std.proofs.lemmas.List.{append-nil}
use Rattle.std.proofs.lemmas.List.Sums.{sum_by_push}
use Rattle.std.proofs.lemmas.Bool.{cases_Bool}
use Rattle.std.specs.Prelude.{cond, option_to_list, sum_by}
use Rattle.std.proofs.lemmas.List.{length-append}
use Rattle.sharing_rules.specs.Lines.{Line}
use Rattle.sharing_rules.specs.Laws.Lists.{by_push}
use Rattle.sharing_rules.specs.Places.{count_places}
use Rattle.invalidations.specs.declared.sited.Sides.{Sides}
use Rattle.invalidations.specs.declared.sited.Sited.{Sited}
use Rattle.invalidations.specs.declared.sited.Invalidation.{Invalidation}
use Rattle.invalidations.specs.declared.tables.Taken.{Taken}
use Rattle.invalidations.specs.Groups.{group_of, groups}
use Rattle.invalidations.specs.LineInvalidations.{none_taken, note_sides, note_taken}
use Rattle.invalidations.specs.LineInvalidations.{note_invalidation, taken_at}
use Rattle.invalidations.specs.Laws.Groups.{groups-push, looked-up, sides_eq-exact, sum-inserted}
use Rattle.invalidations.specs.Laws.Invalidations.{count-push, invalidations-counted-push}
use Rattle.invalidations.specs.Laws.Invalidations.{invalidations-empty}
use Rattle.invalidations.specs.Invalidations.{hart_pairs, harts_of, is_of_one_word, pairs, pcs_of}
use Rattle.invalidations.specs.Invalidations.{sides_eq}
use Rattle.invalidations.specs.Invalidations.{invalidation_count, invalidations, tally_taken}

same_taken : (x y : Taken) → x.taken ≡ y.taken → x.same ≡ y.same → x ≡ y
same_taken x y e f =
    ap (λ k. record { taken = k; same = x.same }) e
    ∙ ap (λ k. record { taken = y.taken; same = k }) f

-- an invalidation more in a group
tally-push : (ks : List Invalidation) (k : Invalidation)
    → tally_taken (ks ++ k ∷ []) ≡ note_taken (tally_taken ks) (is_of_one_word k)
tally-push ks k =
    same_taken _ _
    (length-append ks (k ∷ []))
    (sum_by_push (λ x. cond (is_of_one_word x) 1 0) ks k
    ∙ elim (cases_Bool (is_of_one_word k)) [
      | inl e ↦ rw e refl
      | inr e ↦ rw e (omega arith)
    ])

-- the table of invalidations by their sides
abbrev pub table : (Invalidation → Sides) → List Invalidation → List (Sides × Taken)
table by ks = groups sides_eq by tally_taken ks

pub table-at : (by : Invalidation → Sides) (ks : List Invalidation) (x : Sides)
    → taken_at (table by ks) x ≡ tally_taken (group_of sides_eq by ks x)
table-at by ks x = looked-up sides_eq sides_eq-exact by tally_taken ks x

pub table-push : (by : Invalidation → Sides) (ks : List Invalidation) (k : Invalidation)
    → table by (ks ++ k ∷ []) ≡ note_invalidation (table by ks) (by k) (is_of_one_word k)
table-push by ks k =
    groups-push sides_eq sides_eq-exact by tally_taken ks k
    ∙ rw (tally-push (group_of sides_eq by ks (by k)) k, table-at by ks (by k)) refl

pub table-more : (by : Invalidation → Sides) (ks : List Invalidation) (o : Option Invalidation)
    → table by (ks ++ option_to_list o) ≡ note_sides by (table by ks) o
table-more by ks None = ap (table by) (append-nil ks)
table-more by ks (Some k) = table-push by ks k

-- how many invalidations a table has
abbrev pub taken_in : List (Sides × Taken) → ℕ
taken_in es = sum_by (λ e. e.1.taken) es

pub table-sum : (by : Invalidation → Sides) (ks : List Invalidation) → taken_in (table by ks) ≡ length ks
table-sum by ks =
    by_push (λ (ks : List Invalidation). taken_in (table by ks) ≡ length ks) refl
    (λ ks k ih.
    let es = table by ks in
    let now = note_taken (taken_at (table by ks) (by k)) (is_of_one_word k) in
    let grown = sum-inserted sides_eq (λ (w : Taken). w.taken) none_taken refl es (by k) now in
    rw (table-push by ks k)
    (omega (arith, grown, ih, length-append ks (k ∷ []))))
    ks

-- the invalidations are as many as are counted
pub invalidations-counted : (l : Line) (start : ℕ) (u : List Sited)
    → length (invalidations l start u) ≡ invalidation_count l start u
unfolding count_places
invalidations-counted l start u =
    by_push (λ (u : List Sited). length (invalidations l start u) ≡ invalidation_count l start u)
    (rw (invalidations-empty l start) refl)
    (λ u s ih. rw (invalidations-counted-push l start u s, count-push l start u s, ih) refl)
    u

pub pairs-sum : (l : Line) (start : ℕ) (u : List Sited)
    → taken_in (pairs l start u) ≡ invalidation_count l start u
pairs-sum l start u = table-sum pcs_of (invalidations l start u) ∙ invalidations-counted l start u

pub harts-sum : (l : Line) (start : ℕ) (u : List Sited)
    → taken_in (hart_pairs l start u) ≡ invalidation_count l start u
harts-sum l start u = table-sum harts_of (invalidations l start u) ∙ invalidations-counted l start u
