-- One access more of a list is one access more of what is kept of it.
use Rattle.std.proofs.Common.{◌≡◌, ℕ, ◌+◌, ◌≤◌, Bool, true, false, eqb, List, [], ◌∷◌, ◌++◌}
use Rattle.std.proofs.Common.{length, refl, sym, ap, ◌∙◌, subst, arith, inl, inr}
use Rattle.std.proofs.Common.{Result, Ok, Err}
use Rattle.std.proofs.lemmas.Bool.{cases_Bool, eq-eqb, eqb-true}
use Rattle.std.proofs.lemmas.Bool.Decides.{nat_tests}
use Rattle.std.proofs.lemmas.List.{append-nil, length-append}
use Rattle.std.proofs.lemmas.List.Sums.{sum_by-cons}
use Rattle.std.specs.Prelude.{OnOk, if◌then◌else◌, is_some, nat_eq, sum_by}
use Rattle.indexmap.specs.IndexMap.{insert_entry}
use Rattle.base.specs.Lines.{Grid}
use Rattle.misses.specs.Laws.Entered.{entries}
use Rattle.sharing_rules.specs.Lines.{grid_line}
use Rattle.sharing_rules.specs.Laws.Lists.{by_push}
use Rattle.invalidations.specs.declared.blame_tables.InLine.{InLine}
use Rattle.invalidations.specs.declared.blame_tables.LineTaken.{LineTaken}
use Rattle.invalidations.specs.declared.sited.Sides.{Sides}
use Rattle.invalidations.specs.declared.sited.Sited.{Sited}
use Rattle.invalidations.specs.declared.sited.Invalidation.{Invalidation}
use Rattle.invalidations.specs.declared.tables.Taken.{Taken}
use Rattle.invalidations.specs.Blame.{all_invalidations}
use Rattle.invalidations.specs.BlameKept.{ArePartsOf, Blamed, Parts, StandsFor, line_of}
use Rattle.invalidations.specs.BlameKept.{note_access}
use Rattle.invalidations.specs.BlameKept.{note_line, note_parts, note_sides_in, nothing_blamed}
use Rattle.invalidations.specs.BlameKept.{rows_in}
use Rattle.invalidations.specs.BlameKept.{taken_in_list, taken_of, invalidation_in, untouched}
use Rattle.invalidations.specs.LineInvalidations.{note_sides, invalidation_by, two_of}
use Rattle.invalidations.specs.Laws.BlameLines.{lines_in, lines_made, lines_made-push}
use Rattle.invalidations.specs.Laws.BlameLines.{taken_of-made}
use Rattle.invalidations.specs.Laws.BlameTables.{noted-other, noted-own}
use Rattle.invalidations.specs.Laws.Groups.{sum-inserted}
use Rattle.invalidations.specs.Laws.Sums.{table, table-more}
use Rattle.invalidations.specs.Laws.Invalidations.{invalidations-push}
use Rattle.invalidations.specs.Laws.Two.{invalidation-elsewhere, invalidation-two}
use Rattle.invalidations.specs.Invalidations.{harts_of, is_in, pcs_of, invalidation_of}
use Rattle.invalidations.specs.Invalidations.{invalidations}

-- what an access takes is what it takes in the list
taken-now : (g : Grid) (u : List Sited) (p : Parts) (s : Sited) → ArePartsOf g u p
    → invalidation_in p (line_of g s) (length u) s ≡ invalidation_of (grid_line g (line_of g s)) 0 u s
taken-now g u p s are =
    ap (λ (es : List (ℕ × LineTaken)). invalidation_by (taken_of es (line_of g s)).two 0 (length u) s)
    are.lines
    ∙ ap (λ (l : LineTaken). invalidation_by l.two 0 (length u) s) (taken_of-made g u (line_of g s))
    ∙ sym (invalidation-two (grid_line g (line_of g s)) 0 u s
    (eq-eqb (line_of g s) (line_of g s) refl))

-- the table of a line after an access, by one of the two sides
abbrev rows_made : (Invalidation → Sides) → Grid → List Sited → ℕ → List (Sides × Taken)
rows_made by g u r = table by (invalidations (grid_line g r) 0 u)

rows-push : (by : Invalidation → Sides) (g : Grid) (u : List Sited) (p : Parts) (s : Sited)
    (es : List (InLine × Taken)) → ArePartsOf g u p
    → ((r : ℕ) → rows_in r es ≡ rows_made by g u r) → (q : ℕ)
    → rows_in q (note_sides_in by (line_of g s) es (invalidation_in p (line_of g s) (length u) s))
    ≡ rows_made by g (u ++ s ∷ []) q
rows-push by g u p s es are rows q =
    let r = line_of g s in
    let o = invalidation_in p r (length u) s in
    elim (cases_Bool (eqb q r)) [
      | inl here ↦
          let same = eqb-true q r here in
          subst (λ j. rows_in j (note_sides_in by r es o) ≡ rows_made by g (u ++ s ∷ []) j)
          (sym same)
          (noted-own by es r o
          ∙ ap (λ xs. note_sides by xs o) (rows r)
          ∙ ap (note_sides by (rows_made by g u r)) (taken-now g u p s are)
          ∙ sym (ap (table by) (invalidations-push (grid_line g r) 0 u s)
          ∙ table-more by (invalidations (grid_line g r) 0 u) (invalidation_of (grid_line g r) 0 u s)))
      | inr away ↦
          let out : is_in (grid_line g q) s ≡ false = away_from g q s away in
          noted-other by es r q o away
          ∙ rows q
          ∙ sym (ap (table by) (invalidations-push (grid_line g q) 0 u s
          ∙ rw (invalidation-elsewhere (grid_line g q) 0 u s out)
          (append-nil (invalidations (grid_line g q) 0 u))))
    ]
  where
    away_from : (g : Grid) (q : ℕ) (s : Sited) → eqb q (line_of g s) ≡ false
        → is_in (grid_line g q) s ≡ false
    away_from g q s e = grind (arith, nat_tests)

pub parts-push : (g : Grid) (u : List Sited) (p : Parts) (s : Sited) → ArePartsOf g u p
    → ArePartsOf g (u ++ s ∷ []) (note_parts p (line_of g s) (length u) s)
parts-push g u p s are = record {
  lines = lines-noted g u p s are;
  pairs = rows-push pcs_of g u p s p.pairs are are.pairs;
  harts = rows-push harts_of g u p s p.harts are are.harts;
}
  where
    lines-noted : (g : Grid) (u : List Sited) (p : Parts) (s : Sited) → ArePartsOf g u p
        → (note_parts p (line_of g s) (length u) s).lines ≡ lines_made g (u ++ s ∷ [])
    lines-noted g u p s are =
        let r = line_of g s in
        ap (λ (es : List (ℕ × LineTaken)). insert_entry nat_eq es r
        (note_line (taken_of es r) s (is_some (invalidation_by (taken_of es r).two 0 (length u) s))))
        are.lines
        ∙ ap (λ (l : LineTaken). insert_entry nat_eq (lines_made g u) r
        (note_line l s (is_some (invalidation_by l.two 0 (length u) s)))) (taken_of-made g u r)
        ∙ sym (lines_made-push g u s)

-- ---- the invalidations of all lines

abbrev total_in : List (ℕ × LineTaken) → ℕ
total_in es = sum_by (λ e. e.1.invalidations) es

entries-total : (f : ℕ → LineTaken) (ks : List ℕ)
    → total_in (entries f ks) ≡ sum_by (λ r. (f r).invalidations) ks
entries-total f [] = refl
entries-total f (k ∷ ks) =
    let ih = entries-total f ks in
    let one = sum_by-cons (λ (e : ℕ × LineTaken). e.1.invalidations) (k, f k) (entries f ks) in
    let other = sum_by-cons (λ r. (f r).invalidations) k ks in
    omega (arith, ih, one, other)

one-more : (l : LineTaken) (s : Sited) (b : Bool)
    → (note_line l s b).invalidations ≡ l.invalidations + (if b then 1 else 0)
one-more l s true = refl
one-more l s false = omega arith

all-push : (g : Grid) (u : List Sited) (s : Sited)
    → all_invalidations g (u ++ s ∷ []) ≡ all_invalidations g u
    + (if is_some (invalidation_of (grid_line g (line_of g s)) 0 u s) then 1 else 0)
all-push g u s =
    let r = line_of g s in
    let old = taken_in_list g u r in
    let stated = invalidation-two (grid_line g r) 0 u s (eq-eqb r r refl) in
    let b = is_some (invalidation_by (two_of (grid_line g r) u) 0 (length u) s) in
    let grown = sum-inserted nat_eq (λ (l : LineTaken). l.invalidations) untouched refl (lines_made g u) r
    (note_line old s b) in
    let before = entries-total (taken_in_list g u) (lines_in g u) in
    let after = entries-total (taken_in_list g (u ++ s ∷ [])) (lines_in g (u ++ s ∷ [])) in
    let inserted = ap total_in (lines_made-push g u s) in
    let own = ap (λ (l : LineTaken). l.invalidations) (taken_of-made g u r) in
    let more = one-more old s b in
    rw stated (omega (arith, grown, before, after, inserted, own, more))

pub all-shorter : (g : Grid) (u : List Sited) → all_invalidations g u ≤ length u
all-shorter g u =
    by_push (λ (u : List Sited). all_invalidations g u ≤ length u) (omega arith)
    (λ u s ih.
    let len = length-append u (s ∷ []) in
    rw (all-push g u s)
    (elim (cases_Bool (is_some (invalidation_of (grid_line g (line_of g s)) 0 u s))) [
      | inl e ↦ rw e (omega (arith, ih, len))
      | inr e ↦ rw e (omega (arith, ih, len))
    ]))
    u

count-if : (b : Bool) (n : ℕ) → (if b then n + 1 else n) ≡ n + (if b then 1 else 0)
count-if true n = refl
count-if false n = omega arith

-- ---- all of it

pub stands-push : (u : List Sited) (k : Blamed) (s : Sited) → StandsFor u k
    → StandsFor (u ++ s ∷ []) (note_access k s)
stands-push u k s stands = record {
  position = rw stands.position (sym (length-append u (s ∷ [])));
  total = rw (stands.position, taken-now k.grid u k.parts s stands.parts, stands.total)
      (count-if _ (all_invalidations k.grid u) ∙ sym (all-push k.grid u s));
  parts = rw stands.position (parts-push k.grid u k.parts s stands.parts);
}

pub stands-noted : {T E : Type 0} (result : Result T E) (u : List Sited) (k new : Blamed)
    (s : Sited) → StandsFor u k → OnOk result (new ≡ note_access k s)
    → OnOk result (StandsFor (u ++ s ∷ []) new)
stands-noted (Ok x) u k new s stands noted =
    subst (StandsFor (u ++ s ∷ [])) (sym noted) (stands-push u k s stands)
stands-noted (Err e) u k new s stands noted = tt

-- what was noted part by part
pub noted-by : (k : Blamed) (s : Sited) (line n : ℕ) (taken : Bool) (p : Parts)
    → line ≡ line_of k.grid s → taken ≡ is_some (invalidation_in k.parts line k.position s)
    → n ≡ (if taken then 1 else 0) → p ≡ note_parts k.parts line k.position s
    → record { grid = k.grid; position = k.position + 1; total = k.total + n; parts = p }
    ≡ note_access k s
noted-by k s line n taken p own stated counted noted =
    let more : k.total + n ≡ (if is_some (invalidation_in k.parts (line_of k.grid s) k.position s)
    then k.total + 1 else k.total) =
    ap (λ m. k.total + m) (counted
    ∙ ap (λ (b : Bool). if b then 1 else 0) (stated
    ∙ ap (λ (r : ℕ). is_some (invalidation_in k.parts r k.position s)) own))
    ∙ sym (count-if (is_some (invalidation_in k.parts (line_of k.grid s) k.position s)) k.total) in
    ap (λ (m : ℕ). record { grid = k.grid; position = k.position + 1; total = m; parts = p }) more
    ∙ ap (λ (q : Parts). record {
      grid = k.grid;
      position = k.position + 1;
      total = if is_some (invalidation_in k.parts (line_of k.grid s) k.position s)
          then k.total + 1 else k.total;
      parts = q;
    }) (noted ∙ ap (λ (r : ℕ). note_parts k.parts r k.position s) own)

-- the empty list
pub stands-empty : (g : Grid) → StandsFor [] (nothing_blamed g)
unfolding invalidations
stands-empty g = record {
  position = refl;
  total = refl;
  parts = record { lines = refl; pairs = λ r. refl; harts = λ r. refl };
}
