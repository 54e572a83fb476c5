-- No number that is kept of all lines is above that of accesses; and entries by their indices.
use Rattle.std.proofs.Common.{◌≡◌, ℕ, zero, suc, ◌<◌, ◌≤◌, ◌^◌, Bool, true, false, List, [], ◌∷◌}
use Rattle.std.proofs.Common.{length, refl, sym, ap, ◌∙◌, subst, arith, Option, Some, None, get_or}
use Rattle.std.proofs.lemmas.List.Quantifiers.{position-Some}
use Rattle.std.proofs.Math.Bool.{and-false}
use Rattle.std.proofs.lemmas.Option.{none-some, same_Some}
use Rattle.std.specs.List.{position}
use Rattle.std.specs.Map.{keys_of, lookup, values_of}
use Rattle.std.specs.Option.{option_map_or}
use Rattle.std.specs.Prelude.{◌&&◌, eqb, nat_eq, nat_lt, slice_get}
use Rattle.base.specs.Lines.{Grid}
use Rattle.base.specs.Touch.{is_write}
use Rattle.indexmap.specs.IndexMap.{insert_entry, set_value_at}
use Rattle.sharing_rules.specs.Lines.{grid_line}
use Rattle.invalidations.specs.declared.blame_tables.InLine.{InLine}
use Rattle.invalidations.specs.declared.blame_tables.LineTaken.{LineTaken}
use Rattle.invalidations.specs.declared.sited.Sides.{Sides}
use Rattle.invalidations.specs.declared.sited.Sited.{Sited}
use Rattle.invalidations.specs.declared.sited.Invalidation.{Invalidation}
use Rattle.invalidations.specs.declared.tables.Taken.{Taken}
use Rattle.invalidations.specs.BlameFits.{AreFew, AreFewTaken}
use Rattle.invalidations.specs.BlameKept.{Blamed, Parts, StandsFor, in_line_eq, note_line}
use Rattle.invalidations.specs.BlameKept.{note_parts}
use Rattle.invalidations.specs.BlameKept.{note_invalidation_in, rows_in, invalidation_in}
use Rattle.invalidations.specs.BlameKept.{taken_in_line, taken_in_list, taken_of, untouched}
use Rattle.invalidations.specs.LineInvalidations.{IsFew, none_taken, note_taken, taken_at}
use Rattle.invalidations.specs.Laws.BlameKept.{all-shorter}
use Rattle.invalidations.specs.Laws.BlameLines.{taken_of-made}
use Rattle.invalidations.specs.Laws.BlameTables.{taken-in_line}
use Rattle.invalidations.specs.Laws.Bounds.{few-at, invalidations-shorter}
use Rattle.invalidations.specs.Laws.Sums.{table, invalidations-counted}
use Rattle.invalidations.specs.Invalidations.{harts_of, pcs_of, invalidations}

-- an entry is put where its key stands first
insert_entry-first : {K V : Type 0} (eq : K → K → Bool) (es : List (K × V)) (k : K) (i : ℕ) (v : V)
    → i < length (keys_of es) → eq k (get_or (keys_of es) i k) ≡ true
    → ((j : ℕ) → j < i → eq k (get_or (keys_of es) j k) ≡ false)
    → insert_entry eq es k v ≡ set_value_at es i v
insert_entry-first eq [] k i v within here none = absurd (omega (arith, within))
insert_entry-first eq (e ∷ es) k zero v within here none = rw here refl
insert_entry-first eq (e ∷ es) k (suc i) v within here none =
    let other : eq k e.0 ≡ false = none 0 (omega arith) in
    rw other (ap (λ xs. e ∷ xs) (insert_entry-first eq es k i v (omega (arith, within)) here
    (λ j lt. none (suc j) (omega (arith, lt)))))

pub insert_entry-at : {K V : Type 0} (eq : K → K → Bool) (es : List (K × V)) (k : K) (i : ℕ) (v : V)
    → position (eq k) (keys_of es) ≡ Some i → insert_entry eq es k v ≡ set_value_at es i v
insert_entry-at eq es k i v e =
    let at = position-Some (eq k) (keys_of es) i k e in
    insert_entry-first eq es k i v at.0 at.1 at.2

value-first : {K V : Type 0} (eq : K → K → Bool) (es : List (K × V)) (k : K) (i : ℕ)
    → i < length (keys_of es) → eq k (get_or (keys_of es) i k) ≡ true
    → ((j : ℕ) → j < i → eq k (get_or (keys_of es) j k) ≡ false)
    → slice_get (values_of es) i ≡ lookup (eq k) es
value-first eq [] k i within here none = absurd (omega (arith, within))
value-first eq (e ∷ es) k zero within here none = rw here refl
value-first eq (e ∷ es) k (suc i) within here none =
    let other : eq k e.0 ≡ false = none 0 (omega arith) in
    rw other (value-first eq es k i (omega (arith, within)) here
    (λ j lt. none (suc j) (omega (arith, lt))))

-- what stands at the index of a key is found under it
pub found-at : {K V : Type 0} (eq : K → K → Bool) (es : List (K × V)) (k : K) (i : ℕ) (v d : V)
    → position (eq k) (keys_of es) ≡ Some i → slice_get (values_of es) i ≡ Some v
    → option_map_or (λ w. w) (lookup (eq k) es) d ≡ v
found-at {K} {V} eq es k i v d e there =
    let at = position-Some (eq k) (keys_of es) i k e in
    let same : lookup (eq k) es ≡ Some v =
    sym (value-first eq es k i at.0 at.1 at.2) ∙ there in
    ap (λ (o : Option V). option_map_or (λ w. w) o d) same

pub value-at : {K V : Type 0} (es : List (K × V)) (i : ℕ) (e : K × V) → slice_get es i ≡ Some e
    → slice_get (values_of es) i ≡ Some e.1
value-at [] i e there = absurd (none-some e there)
value-at {K} {V} (x ∷ es) zero e there = ap (λ (y : K × V). Some y.1) (same_Some x e there)
value-at (x ∷ es) (suc i) e there = value-at es i e there

pub counted-at : (es new : List (InLine × Taken)) (x : InLine) (i : ℕ) (k : Taken) (same : Bool)
    → position (in_line_eq x) (keys_of es) ≡ Some i → slice_get (values_of es) i ≡ Some k
    → new ≡ set_value_at es i (note_taken k same) → new ≡ note_invalidation_in es x same
counted-at es new x i k same at there set =
    set
    ∙ sym (insert_entry-at in_line_eq es x i (note_taken (taken_in_line es x) same) at
    ∙ ap (λ (w : Taken). set_value_at es i (note_taken w same))
    (found-at in_line_eq es x i k none_taken at there))

pub noted-at : (es new : List (ℕ × LineTaken)) (r i : ℕ) (l : LineTaken) (s : Sited) (taken : Bool)
    → position (eqb r) (keys_of es) ≡ Some i → slice_get (values_of es) i ≡ Some l
    → new ≡ set_value_at es i (note_line l s taken)
    → new ≡ insert_entry nat_eq es r (note_line (taken_of es r) s taken)
noted-at es new r i l s taken at there set =
    set
    ∙ sym (insert_entry-at nat_eq es r i (note_line (taken_of es r) s taken) at
    ∙ ap (λ (w : LineTaken). set_value_at es i (note_line w s taken))
    (found-at eqb es r i l untouched at there))

-- sides that are new in a line, and a line that is new
pub counted-new : (es new : List (InLine × Taken)) (x : InLine) (same : Bool)
    → lookup (in_line_eq x) es ≡ None
    → new ≡ insert_entry in_line_eq es x (note_taken none_taken same)
    → new ≡ note_invalidation_in es x same
counted-new es new x same none put =
    put
    ∙ ap (λ (o : Option Taken). insert_entry in_line_eq es x
    (note_taken (option_map_or (λ k. k) o none_taken) same))
    (sym none)

pub invalidation-new : (p : Parts) (r n : ℕ) (s : Sited) → lookup (eqb r) p.lines ≡ None
    → invalidation_in p r n s ≡ None
invalidation-new p r n s none =
    rw (none, and-false (nat_lt 0 n && is_write s.access.kind)) refl

pub parts-new : (p : Parts) (r n : ℕ) (s : Sited) (lines : List (ℕ × LineTaken))
    → lookup (eqb r) p.lines ≡ None
    → lines ≡ insert_entry nat_eq p.lines r (note_line untouched s false)
    → record p { lines = lines } ≡ note_parts p r n s
parts-new p r n s lines none put =
    let quiet = invalidation-new p r n s none in
    rw (quiet, none) (ap (λ (es : List (ℕ × LineTaken)). record p { lines = es }) put)

-- the line at an index has few invalidations
pub few-line_at : (es : List (ℕ × LineTaken)) (r i : ℕ) (l : LineTaken)
    → position (eqb r) (keys_of es) ≡ Some i → slice_get (values_of es) i ≡ Some l
    → AreFewTaken es → l.invalidations < 2 ^ 40
few-line_at es r i l at there few =
    subst (λ (w : LineTaken). w.invalidations < 2 ^ 40) (found-at eqb es r i l untouched at there) (few r)

pub few-taken_at : (es : List (InLine × Taken)) (x : InLine) (i : ℕ) (k : Taken)
    → position (in_line_eq x) (keys_of es) ≡ Some i → slice_get (values_of es) i ≡ Some k
    → IsFew (taken_in_line es x) → IsFew k
few-taken_at es x i k at there few =
    subst IsFew (found-at in_line_eq es x i k none_taken at there) few

few-in : (by : Invalidation → Sides) (g : Grid) (u : List Sited) (es : List (InLine × Taken))
    → ((r : ℕ) → rows_in r es ≡ table by (invalidations (grid_line g r) 0 u)) → length u < 2 ^ 40
    → AreFew es
few-in by g u es rows early = λ x.
    let r = x.line in
    let le = invalidations-shorter (grid_line g r) 0 u in
    subst IsFew
    (sym (taken-in_line es r x.sides
    ∙ ap (λ xs. taken_at xs x.sides) (rows r)))
    (few-at by (invalidations (grid_line g r) 0 u) x.sides (omega (arith, early, le)))

early-list : (u : List Sited) (k : Blamed) → StandsFor u k → k.position < 2 ^ 40
    → length u < 2 ^ 40
early-list u k stands early = let e = stands.position in omega (arith, early, e)

pub few-pairs : (u : List Sited) (k : Blamed) → StandsFor u k → k.position < 2 ^ 40
    → AreFew k.parts.pairs
few-pairs u k stands early =
    few-in pcs_of k.grid u k.parts.pairs stands.parts.pairs (early-list u k stands early)

pub few-harts : (u : List Sited) (k : Blamed) → StandsFor u k → k.position < 2 ^ 40
    → AreFew k.parts.harts
few-harts u k stands early =
    few-in harts_of k.grid u k.parts.harts stands.parts.harts (early-list u k stands early)

pub few-lines : (u : List Sited) (k : Blamed) → StandsFor u k → k.position < 2 ^ 40
    → AreFewTaken k.parts.lines
few-lines u k stands early = λ r.
    let le = invalidations-shorter (grid_line k.grid r) 0 u in
    let counted = invalidations-counted (grid_line k.grid r) 0 u in
    let few = early-list u k stands early in
    let here : taken_of k.parts.lines r ≡ taken_in_list k.grid u r =
    ap (λ (es : List (ℕ × LineTaken)). taken_of es r) stands.parts.lines
    ∙ taken_of-made k.grid u r in
    let same = ap (λ (l : LineTaken). l.invalidations) here in
    omega (arith, le, counted, few, same)

pub total-few : (u : List Sited) (k : Blamed) → StandsFor u k → k.total ≤ k.position
total-few u k stands =
    let le = all-shorter k.grid u in
    let total = stands.total in
    let position = stands.position in
    omega (arith, le, total, position)
