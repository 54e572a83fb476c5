-- No number of a table is above the number of accesses.
use Rattle.std.proofs.Common.{◌≡◌, ℕ, ◌<◌, ◌≤◌, ◌^◌, Bool, List, [], ◌∷◌, length, drop}
use Rattle.std.proofs.Common.{refl, ap, ◌∙◌, arith, inl, inr, Option, Some, None}
use Rattle.std.proofs.lemmas.Bool.{cases_Bool}
use Rattle.std.proofs.lemmas.List.{length-append, length-drop}
use Rattle.std.proofs.lemmas.List.Sums.{count_by-le-length}
use Rattle.std.specs.Prelude.{IfSome, filter, is_some, nat_eq}
use Rattle.sharing_rules.specs.Lines.{Line}
use Rattle.sharing_rules.specs.Laws.Lists.{by_push}
use Rattle.sharing_rules.specs.Laws.Words.{tally-push}
use Rattle.sharing_rules.specs.Words.{accesses, tally}
use Rattle.base.specs.Touch.{Touch, is_write}
use Rattle.invalidations.specs.declared.sited.Sides.{Sides}
use Rattle.invalidations.specs.declared.sited.Sited.{Sited}
use Rattle.invalidations.specs.declared.sited.Invalidation.{Invalidation}
use Rattle.invalidations.specs.Groups.{group_of}
use Rattle.invalidations.specs.LineInvalidations.{CanNote, IsFew, LineInvalidations, StandsFor}
use Rattle.invalidations.specs.LineInvalidations.{taken_at, word_at}
use Rattle.invalidations.specs.Latest.{accesses_of}
use Rattle.invalidations.specs.Laws.Groups.{looked-up, nat_eq-exact}
use Rattle.invalidations.specs.Laws.Latest.{length-accesses_of}
use Rattle.invalidations.specs.Laws.Sums.{table, table-at, invalidations-counted}
use Rattle.invalidations.specs.Laws.Invalidations.{invalidations-counted-push, invalidations-empty}
use Rattle.invalidations.specs.Invalidations.{harts_of, is_in, is_of_one_word, pcs_of, sides_eq}
use Rattle.invalidations.specs.Invalidations.{sites, invalidation_of}
use Rattle.invalidations.specs.Invalidations.{invalidations, visits}

filtered-shorter : {X : Type 0} (p : X → Bool) (xs : List X) → length (filter p xs) ≤ length xs
filtered-shorter p [] = omega arith
filtered-shorter p (x ∷ xs) =
    let ih = filtered-shorter p xs in
    elim (cases_Bool (p x)) [
      | inl e ↦ rw e (omega (arith, ih))
      | inr e ↦ rw e (omega (arith, ih))
    ]

pub invalidations-shorter : (l : Line) (start : ℕ) (u : List Sited) → length (invalidations l start u) ≤ length u
invalidations-shorter l start u =
    by_push (λ (u : List Sited). length (invalidations l start u) ≤ length u)
    (rw (invalidations-empty l start) (omega arith))
    (λ u s ih.
    let len = length-append u (s ∷ []) in
    rw (invalidations-counted-push l start u s)
    (elim (cases_Bool (is_some (invalidation_of l start u s))) [
      | inl e ↦ rw e (omega (arith, ih, len))
      | inr e ↦ rw e (omega (arith, ih, len))
    ]))
    u

pub few-at : (by : Invalidation → Sides) (ks : List Invalidation) (x : Sides) → length ks < 2 ^ 40
    → IsFew (taken_at (table by ks) x)
few-at by ks x few =
    let g = group_of sides_eq by ks x in
    let le = filtered-shorter (λ k. sides_eq x (by k)) ks in
    let same = count_by-le-length is_of_one_word g in
    rw (table-at by ks x)
    (record { taken = omega (arith, few, le); same = omega (arith, few, le, same) })

pub tally-accesses : (u : List Touch) → accesses (tally u) ≡ length u
tally-accesses u =
    by_push (λ (u : List Touch). accesses (tally u) ≡ length u) refl
    (λ u a ih.
    let len = length-append u (a ∷ []) in
    ap accesses (tally-push u a)
    ∙ elim (cases_Bool (is_write a.kind)) [
      | inl e ↦ rw e (omega (arith, ih, len))
      | inr e ↦ rw e (omega (arith, ih, len))
    ])
    u

abbrev pub reported_word : List Sited → Rattle.sharing_rules.specs.declared.word.Word.Word
reported_word v = tally (accesses_of v)

pub sites-at : (l : Line) (start : ℕ) (u : List Sited) (pc : ℕ)
    → word_at (sites l start u) pc
    ≡ reported_word (group_of nat_eq (λ s. s.pc) (visits l start u) pc)
sites-at l start u pc =
    looked-up nat_eq nat_eq-exact (λ (s : Sited). s.pc) reported_word (visits l start u) pc

site-few : (l : Line) (start : ℕ) (u : List Sited) (pc : ℕ)
    → accesses (word_at (sites l start u) pc) ≤ length u
site-few l start u pc =
    let v = visits l start u in
    let g = group_of nat_eq (λ s. s.pc) v pc in
    let one = filtered-shorter (λ s. nat_eq pc s.pc) v in
    let two = filtered-shorter (is_in l) (drop start u) in
    let three = length-drop start u in
    rw (sites-at l start u pc, tally-accesses (accesses_of g), length-accesses_of g)
    (omega (arith, one, two, three))

few-sides : (by : Invalidation → Sides) (ks : List Invalidation) (o : Option Invalidation) → length ks < 2 ^ 40
    → IfSome o (λ k. IsFew (taken_at (table by ks) (by k)))
few-sides by ks None few = tt
few-sides by ks (Some k) few = few-at by ks (by k) few

pub count-few : (u : List Sited) (k : LineInvalidations) → StandsFor u k → k.count ≤ k.position
count-few u k stands =
    let le = invalidations-shorter k.line k.start u in
    let counted = invalidations-counted k.line k.start u in
    rw stands (omega (arith, le, counted))

-- so each access can be counted
pub can-note : (u : List Sited) (k : LineInvalidations) (s : Sited) (o : Option Invalidation) → StandsFor u k
    → k.position < 2 ^ 40 → CanNote k.sites k.pairs k.harts s o
can-note u k s o stands early =
    let few : length u < 2 ^ 40 = omega (arith, early, ap (λ (x : LineInvalidations). x.position) stands) in
    let le = invalidations-shorter k.line k.start u in
    let site = site-few k.line k.start u s.pc in
    rw stands
    (record {
      site = omega (arith, few, site);
      few_pairs = few-sides pcs_of (invalidations k.line k.start u) o (omega (arith, few, le));
      few_harts = few-sides harts_of (invalidations k.line k.start u) o (omega (arith, few, le));
    })
