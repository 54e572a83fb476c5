-- One line and one row more of what is gathered for the text, and texts put together.
use Rattle.std.proofs.Common.{◌≡◌, ℕ, ◌+◌, true, false, eqb, List, [], ◌∷◌, ◌++◌}
use Rattle.std.proofs.Common.{Some, refl, sym, ap, ◌∙◌, subst, inl, inr, take}
use Rattle.std.proofs.Common.{slice_get}
use Rattle.std.proofs.Common.{append_assoc, codes}
use Rattle.std.proofs.Common.{Result, Ok, Err}
use Rattle.std.proofs.lemmas.Bool.{cases_Bool, eqb-true, false≢true}
use Rattle.std.proofs.lemmas.Grind.{flat_map-append}
use Rattle.std.proofs.lemmas.List.{take_more}
use Rattle.std.proofs.lemmas.Option.{get_or_from_slice_get, slice_get_within}
use Rattle.std.specs.List.{position}
use Rattle.std.specs.Map.{keys_of, lookup, values_of}
use Rattle.std.specs.Prelude.{IfSome, OnOk, if◌then◌else◌, is_some, nat_eq}
use Rattle.indexmap.specs.IndexMap.{insert_entry, set_value_at}
use Rattle.base.specs.TextLines.{line_text, text_of}
use Rattle.report.specs.Lines.{TextLine}
use Rattle.sharing_rules.specs.Laws.Lists.{slice_cases}
use Rattle.invalidations.specs.declared.blame_tables.InLine.{InLine}
use Rattle.invalidations.specs.declared.sited.Sides.{Sides}
use Rattle.invalidations.specs.declared.tables.Taken.{Taken}
use Rattle.invalidations.specs.BlameKept.{rows_in}
use Rattle.invalidations.specs.BlameRows.{gathered_at}
use Rattle.invalidations.specs.Laws.BlameFits.{insert_entry-at}
use Rattle.invalidations.specs.Laws.BlameText.{put-gathered}

rows_in-push : (r : ℕ) (es : List (InLine × Taken)) (e : InLine × Taken)
    → rows_in r (es ++ e ∷ [])
    ≡ if eqb r e.0.line then rows_in r es ++ (e.0.sides, e.1) ∷ [] else rows_in r es
rows_in-push r [] e =
    elim (cases_Bool (eqb r e.0.line)) [ inl t ↦ rw t refl | inr t ↦ rw t refl ]
rows_in-push r (x ∷ es) e =
    elim (cases_Bool (eqb r x.0.line)) [
      | inl here ↦ rw here
          (ap (λ xs. (x.0.sides, x.1) ∷ xs) (rows_in-push r es e)
          ∙ elim (cases_Bool (eqb r e.0.line)) [ inl t ↦ rw t refl | inr t ↦ rw t refl ])
      | inr away ↦ rw away (rows_in-push r es e)
    ]

-- a row more of a table
pub gathered_more : (es : List (InLine × Taken)) (old new : List (ℕ × List (Sides × Taken))) (i : ℕ)
    (e : InLine × Taken) (line : ℕ) → slice_get es i ≡ Some e → line ≡ e.0.line
    → ((r : ℕ) → gathered_at old r ≡ rows_in r (take i es))
    → new ≡ insert_entry nat_eq old line (gathered_at old line ++ (e.0.sides, e.1) ∷ [])
    → (r : ℕ) → gathered_at new r ≡ rows_in r (take (i + 1) es)
gathered_more es old new i e line there same so_far put r =
    let row : Sides × Taken = (e.0.sides, e.1) in
    let more : take (i + 1) es ≡ take i es ++ e ∷ [] =
    take_more es i e (slice_get_within es i e there)
    ∙ ap (λ y. take i es ++ y ∷ []) (get_or_from_slice_get es i e e there) in
    ap (λ xs. gathered_at xs r) put
    ∙ put-gathered old line r (gathered_at old line ++ row ∷ [])
    ∙ elim (cases_Bool (eqb r line)) [
      | inl t ↦
          let here : eqb r e.0.line ≡ true = subst (λ n. eqb r n ≡ true) same t in
          rw t
          (ap (λ rows. rows ++ row ∷ []) (ap (gathered_at old) (sym (eqb-true r line t)) ∙ so_far r)
          ∙ sym (ap (rows_in r) more ∙ rows_in-push r (take i es) e ∙ rw here refl))
      | inr t ↦
          let away : eqb r e.0.line ≡ false = subst (λ n. eqb r n ≡ false) same t in
          rw t
          (so_far r ∙ sym (ap (rows_in r) more ∙ rows_in-push r (take i es) e ∙ rw away refl))
    ]

-- a row more of the line at an index
pub pushed-in : {T E : Type 0} (result : Result T E) (es new : List (ℕ × List (Sides × Taken)))
    (r i : ℕ) (row : Sides × Taken) → position (eqb r) (keys_of es) ≡ Some i
    → slice_get (values_of es) i ≡ lookup (eqb r) es → true ≡ is_some (lookup (eqb r) es)
    → OnOk result (IfSome (slice_get (values_of es) i)
    (λ rows. new ≡ set_value_at es i (rows ++ row ∷ [])))
    → OnOk result (new ≡ insert_entry nat_eq es r (gathered_at es r ++ row ∷ []))
pushed-in (Err e) es new r i row at value found pushed = tt
pushed-in (Ok x) es new r i row at value found pushed =
    elim (slice_cases (lookup (eqb r) es)) [
      | inl none ↦ let k : true ≡ false = rw none at found in absurd (false≢true (sym k))
      | inr some ↦
          let there : slice_get (values_of es) i ≡ Some some.0 = value ∙ some.1 in
          let set : new ≡ set_value_at es i (some.0 ++ row ∷ []) = rw there at pushed in
          rw some.1 (set ∙ sym (insert_entry-at nat_eq es r i (some.0 ++ row ∷ []) at))
    ]

-- ---- texts put together

pub three_pieces : (whole : List ℕ) (a b c : List TextLine)
    → whole ++ text_of a ++ text_of b ++ text_of c ≡ whole ++ text_of (a ++ b ++ c)
three_pieces whole a b c =
    ap (λ t. t ++ text_of c) (append_assoc whole (text_of a) (text_of b)
    ∙ ap (λ t. whole ++ t) (sym (flat_map-append line_text a b)))
    ∙ append_assoc whole (text_of (a ++ b)) (text_of c)
    ∙ ap (λ t. whole ++ t) (sym (flat_map-append line_text (a ++ b) c))

pub line_pieces : (whole : List ℕ) (a : TextLine) (b c : List TextLine)
    → whole ++ line_text a ++ text_of b ++ text_of c ≡ whole ++ text_of (a ∷ (b ++ c))
line_pieces whole a b c =
    ap (λ t. t ++ text_of c) (append_assoc whole (line_text a) (text_of b))
    ∙ append_assoc whole (line_text a ++ text_of b) (text_of c)
    ∙ ap (λ t. whole ++ t) (append_assoc (line_text a) (text_of b) (text_of c)
    ∙ ap (λ t. line_text a ++ t) (sym (flat_map-append line_text b c)))

-- the first lines, and the last ones
pub headed_by : (whole : List ℕ) (b : List TextLine)
    → whole ++ codes "predator blame 1\n" ++ text_of b
    ≡ whole ++ text_of ((codes "predator" ∷ codes "blame" ∷ codes "1" ∷ []) ∷ b)
headed_by whole b =
    append_assoc whole (line_text (codes "predator" ∷ codes "blame" ∷ codes "1" ∷ [])) (text_of b)

pub ended_by : (whole d : List ℕ)
    → whole ++ (codes "total takings " ++ d ++ codes "\n") ++ codes "end\n"
    ≡ whole ++ text_of ((codes "total" ∷ codes "takings" ∷ d ∷ []) ∷ (codes "end" ∷ []) ∷ [])
ended_by whole d =
    append_assoc whole (line_text (codes "total" ∷ codes "takings" ∷ d ∷ [])) (codes "end\n")
