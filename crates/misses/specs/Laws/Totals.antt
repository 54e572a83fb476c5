-- What is reported of the lines is what the definitions say, and the totals are the sums.
use Rattle.std.proofs.Common.{◌≡◌, ℕ, zero, suc, ◌-◌, ◌≤◌}
use Rattle.std.proofs.Common.{true, false, eqb, List, [], ◌∷◌, ◌++◌, refl, sym, ap}
use Rattle.std.proofs.Common.{◌∙◌, arith, map}
use Rattle.std.proofs.lemmas.Bool.Decides.{nat_tests}
use Rattle.std.proofs.lemmas.List.Sums.{sum_by-cons}
use Rattle.std.specs.List.{list_any}
use Rattle.std.specs.Prelude.{if◌then◌else◌, option_map, slice_get, sum_by}
use Rattle.base.specs.Lines.{Grid, is_layout}
use Rattle.base.specs.Touch.{Touch}
use Rattle.sharing_rules.specs.Laws.Arrivals.{each_once-distinct}
use Rattle.sharing_rules.specs.Laws.Lists.{by_push}
use Rattle.sharing_rules.specs.Laws.Places.{count_places-empty, count_places-push}
use Rattle.sharing_rules.specs.Places.{Question, count_places}
use Rattle.misses.specs.MissCounts.{MissCounts, LineEntry, StandsFor, accessed_lines, all_counted}
use Rattle.misses.specs.MissCounts.{kept_line, lines_of}
use Rattle.misses.specs.Laws.Costs.{costs-ordered}
use Rattle.sharing_rules.specs.Laws.Sums.{AgreeBut, sum-noted}
use Rattle.misses.specs.Laws.KeptOf.{lines-push, never-accessed}
use Rattle.misses.specs.Laws.WordLines.{layout-keeps}
use Rattle.misses.specs.Misses.{is_cold, is_in, is_miss, is_needed}
use Rattle.misses.specs.Rows.{all_costs, costs_of, line_costs, row_of, rows_of}
use Rattle.misses.specs.declared.line_misses.Costs.{Costs}

mapped-at : {X Y : Type 0} (f : X → Y) (xs : List X) (i : ℕ)
    → option_map f (slice_get xs i) ≡ slice_get (map f xs) i
mapped-at f [] i = refl
mapped-at f (x ∷ xs) zero = refl
mapped-at f (x ∷ xs) (suc i) = mapped-at f xs i

rows-mapped : (g : Grid) (t : List Touch) (ks : List ℕ)
    → map (row_of g) (map (λ r. (r, kept_line g t r)) ks)
    ≡ map (λ r. record { line = (row_of g (r, kept_line g t r)).line; costs = line_costs g t r }) ks
rows-mapped g t [] = refl
rows-mapped g t (k ∷ ks) = ap (λ rs. row_of g (k, kept_line g t k) ∷ rs) (rows-mapped g t ks)

-- what is reported of all lines, and of one
pub rows-stand : (k : MissCounts) (t : List Touch) → StandsFor t k
    → map (row_of k.grid) k.lines ≡ rows_of k.grid t
rows-stand k t stands =
    ap (map (row_of k.grid)) (ap (λ (x : MissCounts). x.lines) stands)
    ∙ rows-mapped k.grid t (accessed_lines k.grid t)

pub row-stands : (k : MissCounts) (t : List Touch) (i : ℕ) → StandsFor t k
    → option_map (row_of k.grid) (slice_get k.lines i) ≡ slice_get (rows_of k.grid t) i
row-stands k t i stands =
    mapped-at (row_of k.grid) k.lines i ∙ ap (λ rs. slice_get rs i) (rows-stand k t stands)

-- counted at each access's own line it is the sum over the lines
pub own-sum : (g : Grid) (asked : ℕ → Question)
    → ((r : ℕ) (t : List Touch) (a : Touch) → is_in (lines_of g) r a ≡ false → asked r t a ≡ false)
    → ((r : ℕ) (t : List Touch) → list_any (eqb r) (accessed_lines g t) ≡ false
    → count_places (asked r) t ≡ 0) → (t : List Touch)
    → count_places (λ before a. asked (lines_of g a.addr) before a) t
    ≡ sum_by (λ r. count_places (asked r) t) (accessed_lines g t)
own-sum g asked inside blank t =
    by_push (λ (t : List Touch). count_places (λ before a. asked (lines_of g a.addr) before a) t
    ≡ sum_by (λ r. count_places (asked r) t) (accessed_lines g t))
    (count_places-empty (λ before a. asked (lines_of g a.addr) before a))
    (λ t a ih.
    let x = lines_of g a.addr in
    let later : ℕ → ℕ = λ r. count_places (asked r) (t ++ a ∷ []) in
    let before : ℕ → ℕ = λ r. count_places (asked r) t in
    let agree : AgreeBut x before later = λ j other.
    let out : is_in (lines_of g) j a ≡ false = grind (arith, nat_tests) in
    let no_count : asked j t a ≡ false = inside j t a out in
    rw (count_places-push (asked j) t a, no_count) (omega arith) in
    let sum = sum-noted before later x (if asked x t a then 1 else 0) (accessed_lines g t)
    (each_once-distinct _) agree (count_places-push (asked x) t a) (blank x t) in
    rw (
      count_places-push (λ before a. asked (lines_of g a.addr) before a) t a,
      lines-push g t a,
      ih,
    )
    (sym sum))
    t

sum-minus : (f g : ℕ → ℕ) → ((r : ℕ) → f r ≤ g r) → (ks : List ℕ)
    → (sum_by f ks ≤ sum_by g ks) × (sum_by (λ r. g r - f r) ks ≡ sum_by g ks - sum_by f ks)
sum-minus f g le [] = (omega arith, refl)
sum-minus f g le (k ∷ ks) =
    let rest = sum-minus f g le ks in
    let low = rest.0 in
    let same = rest.1 in
    let here = le k in
    let cf = sum_by-cons f k ks in
    let cg = sum_by-cons g k ks in
    let cd = sum_by-cons (λ r. g r - f r) k ks in (
      omega (arith, low, here, cf, cg),
      omega (arith, low, here, same, cf, cg, cd),
    )

not_in : (line_of : ℕ → ℕ) (r : ℕ) (t : List Touch) (a : Touch) → is_in line_of r a ≡ false
    → (is_cold line_of r t a ≡ false) × (is_miss line_of r t a ≡ false)
    × (is_needed line_of r t a ≡ false)
not_in line_of r t a out = (rw out refl, rw out refl, rw out refl)

all-cold : (g : Grid) (t : List Touch)
    → (all_counted g t).cold
    ≡ sum_by (λ r. count_places (is_cold (lines_of g) r) t) (accessed_lines g t)
all-cold g t = own-sum g (is_cold (lines_of g)) (λ r t a out. (not_in (lines_of g) r t a out).0)
    (λ r t never. ap (λ (l : LineEntry). l.counts.cold) (never-accessed g r t never)) t

all-missed : (g : Grid) (t : List Touch)
    → (all_counted g t).misses
    ≡ sum_by (λ r. count_places (is_miss (lines_of g) r) t) (accessed_lines g t)
all-missed g t = own-sum g (is_miss (lines_of g)) (λ r t a out. (not_in (lines_of g) r t a out).1)
    (λ r t never. ap (λ (l : LineEntry). l.counts.misses) (never-accessed g r t never)) t

all-needed : (g : Grid) (t : List Touch)
    → (all_counted g t).needed
    ≡ sum_by (λ r. count_places (is_needed (lines_of g) r) t) (accessed_lines g t)
all-needed g t = own-sum g (is_needed (lines_of g)) (λ r t a out. (not_in (lines_of g) r t a out).2)
    (λ r t never. ap (λ (l : LineEntry). l.counts.needed) (never-accessed g r t never)) t

same_costs : (x y : Costs) → x.cold ≡ y.cold → x.useful ≡ y.useful → x.useless ≡ y.useless → x ≡ y
same_costs x y e f g =
    ap (λ k. record { cold = k; useful = x.useful; useless = x.useless }) e
    ∙ ap (λ k. record { cold = y.cold; useful = k; useless = x.useless }) f
    ∙ ap (λ k. record { cold = y.cold; useful = y.useful; useless = k }) g

-- the totals are the sums over the lines
pub all_costs-sum : (g : Grid) (t : List Touch) → is_layout g.size g.offset ≡ true
    → costs_of (all_counted g t) ≡ all_costs g t
all_costs-sum g t good =
    let L = lines_of g in
    let ordered = λ (r : ℕ). costs-ordered L r t (layout-keeps g.size g.offset good) in
    let brought = sum-minus (λ r. count_places (is_cold L r) t)
    (λ r. count_places (is_needed L r) t)
    (λ r. (ordered r).needed) (accessed_lines g t) in
    let wasted = sum-minus (λ r. count_places (is_needed L r) t) (λ r. count_places (is_miss L r) t)
    (λ r. (ordered r).missed) (accessed_lines g t) in
    let c = all-cold g t in
    let n = all-needed g t in
    let m = all-missed g t in
    same_costs _ _ c (rw (c, n) (sym brought.1)) (rw (n, m) (sym wasted.1))

pub totals-stand : (k : MissCounts) (t : List Touch) → is_layout k.grid.size k.grid.offset ≡ true
    → StandsFor t k → costs_of k.totals ≡ all_costs k.grid t
totals-stand k t good stands =
    ap costs_of (ap (λ (x : MissCounts). x.totals) stands) ∙ all_costs-sum k.grid t good
