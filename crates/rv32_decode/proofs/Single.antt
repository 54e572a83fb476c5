-- No word meets two rows of the table, and the instruction of a word is what its row makes.
use Rattle.std.proofs.Common.{◌≡◌, ℕ, ◌≤◌, Bool, true, ◌&&◌, Option, Some, List, [], ◌∷◌, length}
use Rattle.std.proofs.Common.{refl, ap, ◌∙◌, arith, find, inl, inr}
use Rattle.std.specs.Prelude.{All, filter, ◌↔◌, IsNone, slice_get}
use Rattle.std.specs.Option.{option_map}
use Rattle.std.specs.List.{list_all, AllByRecursion}
use Rattle.std.proofs.lemmas.Bool.{cases_Bool, and_parts}
use Rattle.std.proofs.lemmas.List.Elements.{All-from_recursion}
use Rattle.rv32_decode.specs.Table.{Row, meets, table, decoded, rows_of}
use Rattle.rv32_decode.specs.declared.instruction.Instr.{Instr}
use Rattle.rv32_decode.proofs.Meeting.{clash, meets-clash}

-- each row clashes with those after it
abbrev apart : List Row → Bool
apart [] = true
apart (r ∷ rows) = list_all (λ s. clash s r) rows && apart rows

-- a word that meets r meets none that clashes with it
filter-clash : (w : ℕ) (r : Row) (rows : List Row) → list_all (λ s. clash s r) rows ≡ true
    → meets w r ≡ true → filter (meets w) rows ≡ []
filter-clash w r [] a m = refl
filter-clash w r (s ∷ rows) a m =
    let p = and_parts (clash s r) (list_all (λ s. clash s r) rows) a in
    rw (meets-clash w s r p.0 m) (filter-clash w r rows p.1 m)

length-filter_apart : (w : ℕ) (rows : List Row) → apart rows ≡ true
    → length (filter (meets w) rows) ≤ 1
length-filter_apart w [] a = omega arith
length-filter_apart w (r ∷ rows) a =
    let p = and_parts (list_all (λ s. clash s r) rows) (apart rows) a in
    elim (cases_Bool (meets w r)) [
      | inl t ↦ rw (t, filter-clash w r rows p.0 t) (omega arith)
      | inr f ↦ rw f (length-filter_apart w rows p.1)
    ]

pub length-rows_of : (w : ℕ) → length (rows_of w) ≤ 1
unfolding table rows_of
length-rows_of w = length-filter_apart w table refl

-- what is found is the first of what is kept
find-filter : {X : Type 0} (p : X → Bool) (xs : List X) → find p xs ≡ slice_get (filter p xs) 0
find-filter p [] = refl
find-filter p (x ∷ xs) =
    elim (cases_Bool (p x)) [
      | inl t ↦ rw t refl
      | inr f ↦ rw f (find-filter p xs)
    ]

pub decoded-rows_of : (w : ℕ) → decoded w ≡ option_map (λ r. r.make w) (slice_get (rows_of w) 0)
unfolding decoded rows_of
decoded-rows_of w = ap (option_map (λ r. r.make w)) (find-filter (meets w) table)

made_by_first : (w : ℕ) (rows : List Row) → length rows ≤ 1 → AllByRecursion
    (λ r. option_map (λ s. s.make w) (slice_get rows 0) ≡ Some (r.make w)) rows
made_by_first w [] h = tt
made_by_first w (r ∷ []) h = (refl, tt)
made_by_first w (r ∷ s ∷ rows) h = absurd (omega arith)

-- the row that a word meets makes its instruction
pub made : (w : ℕ) (o : Option Instr) → o ≡ decoded w → All (λ r. o ≡ Some (r.make w)) (rows_of w)
made w o e =
    let all = All-from_recursion _ _ (made_by_first w (rows_of w) (length-rows_of w)) in
    λ k d h. e ∙ decoded-rows_of w ∙ all k d h

first_none : (w : ℕ) (rows : List Row) → IsNone (option_map (λ r. r.make w) (slice_get rows 0))
    ↔ (rows ≡ [])
first_none w [] = (λ _. refl, λ _. refl)
first_none w (r ∷ rows) = (λ h. absurd (cc), λ e. absurd (cc))

-- a word without an instruction meets no row
pub none : (w : ℕ) (o : Option Instr) → o ≡ decoded w → IsNone o ↔ (rows_of w ≡ [])
none w o e = rw (e, decoded-rows_of w) (first_none w (rows_of w))
