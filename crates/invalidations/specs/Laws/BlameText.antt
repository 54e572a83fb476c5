-- The text of what is kept is that of the list that it stands for.
use Rattle.std.specs.Prelude.{Option}
use Rattle.std.proofs.Common.{◌≡◌, ℕ, false, eqb, List, [], ◌∷◌, ◌++◌, length, refl, sym, ap}
use Rattle.std.proofs.Common.{◌∙◌, arith, inl, inr, map, filter}
use Rattle.std.proofs.lemmas.Bool.{cases_Bool, eqb-true}
use Rattle.std.proofs.lemmas.Bool.Decides.{nat_tests}
use Rattle.std.proofs.lemmas.List.{length-map}
use Rattle.std.specs.Prelude.{flat_map, if◌then◌else◌, nat_eq}
use Rattle.indexmap.specs.IndexMap.{insert_entry}
use Rattle.base.specs.TextLines.{text_of}
use Rattle.misses.specs.Laws.Entered.{entries}
use Rattle.report.specs.Laws.Shown.{in_order-map}
use Rattle.report.specs.Lines.{TextLine}
use Rattle.sharing_rules.specs.Lines.{grid_line}
use Rattle.sharing_rules.specs.Listed.{in_order}
use Rattle.invalidations.specs.declared.blame_rows.TakenHead.{TakenHead}
use Rattle.invalidations.specs.declared.blame_tables.LineTaken.{LineTaken}
use Rattle.invalidations.specs.declared.sited.Sides.{Sides}
use Rattle.invalidations.specs.declared.sited.Sited.{Sited}
use Rattle.invalidations.specs.declared.tables.Taken.{Taken}
use Rattle.invalidations.specs.Blame.{TakenLine, all_invalidations, is_taken, is_taken_more}
use Rattle.invalidations.specs.Blame.{most_taken, taken_line}
use Rattle.invalidations.specs.BlameKept.{ArePartsOf, Blamed, StandsFor, rows_in, taken_in_list}
use Rattle.invalidations.specs.BlameRows.{gathered_at, gathered_lines, has_invalidations, head_of}
use Rattle.invalidations.specs.BlameRows.{heads_in_order}
use Rattle.invalidations.specs.BlameRows.{heads_of, kept_text, with_rows}
use Rattle.invalidations.specs.BlameText.{blame_ends, blame_heads, blame_lines, blame_text}
use Rattle.invalidations.specs.BlameText.{lines_of_line}
use Rattle.invalidations.specs.Laws.BlameLines.{lines_in}
use Rattle.invalidations.specs.Invalidations.{pairs}

abbrev Rows : Type 0
Rows = List (Sides × Taken)

-- ---- gathered rows

pub put-gathered : (es : List (ℕ × Rows)) (r q : ℕ) (v : Rows)
    → gathered_at (insert_entry nat_eq es r v) q ≡ if eqb q r then v else gathered_at es q
put-gathered [] r q v =
    elim (cases_Bool (eqb q r)) [ inl e ↦ rw e refl | inr e ↦ rw e refl ]
put-gathered (e ∷ es) r q v =
    elim (cases_Bool (eqb r e.0)) [
      | inl here ↦ rw (here, eqb-true r e.0 here)
          (elim (cases_Bool (eqb q e.0)) [ inl t ↦ rw t refl | inr t ↦ rw t refl ])
      | inr away ↦ rw away
          (elim (cases_Bool (eqb q e.0)) [
            | inl t ↦
                let apart : eqb q r ≡ false = grind (arith, nat_tests) in
                rw (t, apart) refl
            | inr t ↦ rw t (put-gathered es r q v)
          ])
    ]

same_row : (p q : ℕ → Rows) (x y : ℕ → Rows) (h : TakenHead) → ((r : ℕ) → p r ≡ x r)
    → ((r : ℕ) → q r ≡ y r) → with_rows p q h ≡ with_rows x y h
same_row p q x y h e f =
    ap (λ (rows : Rows). with_rows (λ r. rows) q h) (e h.line.number)
    ∙ ap (λ (rows : Rows). with_rows x (λ r. rows) h) (f h.line.number)

rows-gathered : (p q : ℕ → Rows) (x y : ℕ → Rows) (hs : List TakenHead)
    → ((r : ℕ) → p r ≡ x r) → ((r : ℕ) → q r ≡ y r)
    → flat_map (λ h. lines_of_line (with_rows p q h)) hs
    ≡ flat_map lines_of_line (map (with_rows x y) hs)
rows-gathered p q x y [] e f = refl
rows-gathered p q x y (h ∷ hs) e f =
    ap (λ (row : TakenLine). lines_of_line row
    ++ flat_map (λ j. lines_of_line (with_rows p q j)) hs) (same_row p q x y h e f)
    ∙ ap (λ (ls : List TextLine). lines_of_line (with_rows x y h) ++ ls)
    (rows-gathered p q x y hs e f)

-- the text of gathered rows is that of what is kept
pub text-gathered : (k : Blamed) (whole : Option ℕ) (hs : List TakenHead) (ps qs : List (ℕ × Rows))
    → hs ≡ heads_in_order k.grid k.parts.lines
    → ((r : ℕ) → gathered_at ps r ≡ rows_in r k.parts.pairs)
    → ((r : ℕ) → gathered_at qs r ≡ rows_in r k.parts.harts)
    → text_of (gathered_lines k whole hs ps qs) ≡ kept_text k whole
text-gathered k whole hs ps qs e f g =
    let pairs : ℕ → Rows = λ r. rows_in r k.parts.pairs in
    let harts : ℕ → Rows = λ r. rows_in r k.parts.harts in
    ap (λ (ls : List TextLine). text_of (blame_heads k.grid k.position whole (length hs) ++ ls
    ++ blame_ends k.total)) (rows-gathered (gathered_at ps) (gathered_at qs) pairs harts hs f g)
    ∙ ap (λ (n : ℕ). text_of (blame_heads k.grid k.position whole n
    ++ flat_map lines_of_line (map (with_rows pairs harts) hs) ++ blame_ends k.total))
    (sym (length-map hs (with_rows pairs harts)))
    ∙ ap (λ (xs : List TakenHead). text_of (blame_lines k.grid k.position whole
    (map (with_rows pairs harts) xs) k.total)) e

-- ---- what is kept, and the list

rows-made : (k : Blamed) (u : List Sited) → ArePartsOf k.grid u k.parts → (ks : List ℕ)
    → map (with_rows (λ r. rows_in r k.parts.pairs) (λ r. rows_in r k.parts.harts))
    (map (head_of k.grid) (entries (taken_in_list k.grid u) ks))
    ≡ map (λ r. taken_line u (grid_line k.grid r)) ks
rows-made k u are [] = refl
rows-made k u are (r ∷ ks) =
    let head : TakenHead = head_of k.grid (r, taken_in_list k.grid u r) in
    let rest : List TakenLine =
    map (with_rows (λ q. rows_in q k.parts.pairs) (λ q. rows_in q k.parts.harts))
    (map (head_of k.grid) (entries (taken_in_list k.grid u) ks)) in
    ap (λ (rows : Rows). with_rows (λ q. rows) (λ q. rows_in r k.parts.harts) head ∷ rest)
    (are.pairs r)
    ∙ ap (λ (rows : Rows). with_rows (λ q. pairs (grid_line k.grid r) 0 u) (λ q. rows) head ∷ rest)
    (are.harts r)
    ∙ ap (λ (xs : List TakenLine). taken_line u (grid_line k.grid r) ∷ xs) (rows-made k u are ks)

filter-rows : (p q : ℕ → Rows) (hs : List TakenHead)
    → map (with_rows p q) (filter has_invalidations hs) ≡ filter is_taken (map (with_rows p q) hs)
filter-rows p q [] = refl
filter-rows p q (h ∷ hs) =
    elim (cases_Bool (has_invalidations h)) [
      | inl e ↦ rw e (ap (λ xs. with_rows p q h ∷ xs) (filter-rows p q hs))
      | inr e ↦ rw e (filter-rows p q hs)
    ]

most-taken : (k : Blamed) (u : List Sited) → ArePartsOf k.grid u k.parts
    → map (with_rows (λ r. rows_in r k.parts.pairs) (λ r. rows_in r k.parts.harts))
    (heads_in_order k.grid k.parts.lines) ≡ most_taken k.grid u
most-taken k u are =
    let rows : TakenHead → TakenLine =
    with_rows (λ r. rows_in r k.parts.pairs) (λ r. rows_in r k.parts.harts) in
    in_order-map rows is_taken_more (heads_of k.grid k.parts.lines)
    ∙ ap (in_order is_taken_more)
    (filter-rows (λ r. rows_in r k.parts.pairs) (λ r. rows_in r k.parts.harts)
    (map (head_of k.grid) k.parts.lines)
    ∙ ap (filter is_taken)
    (ap (λ (es : List (ℕ × LineTaken)). map rows (map (head_of k.grid) es)) are.lines
    ∙ rows-made k u are (lines_in k.grid u)))

pub text-stands : (k : Blamed) (whole : Option ℕ) (u : List Sited) → StandsFor u k
    → kept_text k whole ≡ blame_text k.grid whole u
unfolding blame_text
text-stands k whole u stands =
    ap (λ (n : ℕ). text_of (blame_lines k.grid n whole
    (map (with_rows (λ r. rows_in r k.parts.pairs) (λ r. rows_in r k.parts.harts))
    (heads_in_order k.grid k.parts.lines)) k.total)) stands.position
    ∙ ap (λ (n : ℕ). text_of (blame_lines k.grid (length u) whole
    (map (with_rows (λ r. rows_in r k.parts.pairs) (λ r. rows_in r k.parts.harts))
    (heads_in_order k.grid k.parts.lines)) n)) stands.total
    ∙ ap (λ (rows : List TakenLine). text_of (blame_lines k.grid (length u) whole rows
    (all_invalidations k.grid u))) (most-taken k u stands.parts)
