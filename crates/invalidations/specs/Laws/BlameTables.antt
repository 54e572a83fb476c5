-- The rows of a line in a table of all lines.
use Rattle.std.proofs.Common.{◌≡◌, ℕ, false, eqb, ◌&&◌, List, [], ◌∷◌}
use Rattle.std.proofs.Common.{Option, Some, None, refl, ap, ◌∙◌, subst, inl, inr}
use Rattle.std.proofs.lemmas.Bool.{and_parts, cases_Bool, eq-eqb, eqb-true}
use Rattle.indexmap.specs.IndexMap.{insert_entry}
use Rattle.invalidations.specs.declared.blame_tables.InLine.{InLine}
use Rattle.invalidations.specs.declared.sited.Sides.{Sides}
use Rattle.invalidations.specs.declared.sited.Invalidation.{Invalidation}
use Rattle.invalidations.specs.declared.tables.Taken.{Taken}
use Rattle.invalidations.specs.BlameKept.{in_line, in_line_eq, note_sides_in, rows_in}
use Rattle.invalidations.specs.BlameKept.{taken_in_line}
use Rattle.invalidations.specs.LineInvalidations.{note_sides, note_taken, taken_at}
use Rattle.invalidations.specs.Invalidations.{is_of_one_word, sides_eq}

-- one is found in the table where it is found among its line's rows
pub taken-in_line : (es : List (InLine × Taken)) (r : ℕ) (x : Sides)
    → taken_in_line es (in_line r x) ≡ taken_at (rows_in r es) x
taken-in_line [] r x = refl
taken-in_line (e ∷ es) r x =
    elim (cases_Bool (eqb r e.0.line)) [
      | inl here ↦ elim (cases_Bool (sides_eq x e.0.sides)) [
        | inl same ↦ rw (here, same) refl
        | inr other ↦ rw (here, other) (taken-in_line es r x)
      ]
      | inr away ↦ rw away (taken-in_line es r x)
    ]

-- a row that is put in is put among its line's rows, and among no other's
put-own : (es : List (InLine × Taken)) (r : ℕ) (x : Sides) (v : Taken)
    → rows_in r (insert_entry in_line_eq es (in_line r x) v)
    ≡ insert_entry sides_eq (rows_in r es) x v
put-own [] r x v = rw (eq-eqb r r refl) refl
put-own (e ∷ es) r x v =
    elim (cases_Bool (eqb r e.0.line)) [
      | inl here ↦ elim (cases_Bool (sides_eq x e.0.sides)) [
        | inl same ↦ rw (here, same) (rw here refl)
        | inr other ↦ rw (here, other)
            (rw here (ap (λ xs. (e.0.sides, e.1) ∷ xs) (put-own es r x v)))
      ]
      | inr away ↦ rw away (rw away (put-own es r x v))
    ]

put-other : (es : List (InLine × Taken)) (r q : ℕ) (x : Sides) (v : Taken) → eqb q r ≡ false
    → rows_in q (insert_entry in_line_eq es (in_line r x) v) ≡ rows_in q es
put-other [] r q x v apart = rw apart refl
put-other (e ∷ es) r q x v apart =
    elim (cases_Bool (eqb r e.0.line && sides_eq x e.0.sides)) [
      | inl same ↦
          let here = eqb-true r e.0.line (and_parts _ _ same).0 in
          let away : eqb q e.0.line ≡ false = subst (λ n. eqb q n ≡ false) here apart in
          rw (same, away) refl
      | inr other ↦ rw other
          (elim (cases_Bool (eqb q e.0.line)) [
            | inl here ↦ rw here (ap (λ xs. (e.0.sides, e.1) ∷ xs) (put-other es r q x v apart))
            | inr away ↦ rw away (put-other es r q x v apart)
          ])
    ]

pub noted-own : (by : Invalidation → Sides) (es : List (InLine × Taken)) (r : ℕ) (o : Option Invalidation)
    → rows_in r (note_sides_in by r es o) ≡ note_sides by (rows_in r es) o
noted-own by es r None = refl
noted-own by es r (Some k) =
    put-own es r (by k) (note_taken (taken_in_line es (in_line r (by k))) (is_of_one_word k))
    ∙ ap (λ (w : Taken). insert_entry sides_eq (rows_in r es) (by k)
    (note_taken w (is_of_one_word k))) (taken-in_line es r (by k))

pub noted-other : (by : Invalidation → Sides) (es : List (InLine × Taken)) (r q : ℕ)
    (o : Option Invalidation) → eqb q r ≡ false → rows_in q (note_sides_in by r es o) ≡ rows_in q es
noted-other by es r q None apart = refl
noted-other by es r q (Some k) apart = put-other es r q (by k) _ apart
