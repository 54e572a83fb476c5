-- The lines that are saved are those that were written.
use Rattle.std.proofs.Common.{◌≡◌, ℕ, ◌<◌, Bool, true, false, eqb, T, ◌&&◌, List, [], ◌∷◌, map}
use Rattle.std.proofs.Common.{filter, refl, sym, ap, ◌∙◌, subst, arith, inl, inr, nat_lt}
use Rattle.std.proofs.lemmas.Bool.{cases_Bool, eqb-true, lt-ltb, ltb-true}
use Rattle.std.proofs.lemmas.Bool.Decides.{nat_tests}
use Rattle.std.proofs.lemmas.Option.{same_Some, none-some}
use Rattle.std.specs.Prelude.{cond, IsTrue, Some, unwrap_or}
use Rattle.std.specs.Ordering.{nat_cmp, is_lt, eq_by_cmp}
use Rattle.std.specs.Cmp.{unsigned_tied}
use Rattle.std.specs.declared.cmp.Ordering.TheVariants.{Less, Equal, Greater}
use Rattle.std.specs.List.{AllByRecursion}
use Rattle.std.specs.FinMap as finite
use Rattle.std.specs.FinMap.Entries.{below_all, find, is_sorted}
use Rattle.base.specs.Lines.{is_layout}
use Rattle.sharing_rules.specs.AccessLists.{AccessList}
use Rattle.sharing_rules.specs.Listed.{may_predict}
use Rattle.sharing_rules.specs.Members.{IsRising, Member}
use Rattle.sharing_rules.specs.Laws.Lists.{all_at, slice_cases}
use Rattle.saved_state.specs.declared.state_parts.CountedLine.{CountedLine}
use Rattle.saved_state.specs.Counted.{AreCounted, has_lower_number}
use Rattle.saved_state.specs.Laws.Counted.{counted_alike, same_counted}
use Rattle.saved_state.specs.Laws.OfLists.{spell_state-of_list}
use Rattle.saved_state.specs.OfLists.{state_of_list, writes_of}
use Rattle.saved_state.specs.Spelling.{spell_state}
use Rattle.detector.specs.Counts.{Counts, count_at}
use Rattle.saved_state.specs.Saving.{counted_lines, state_of}
use Rattle.detector.specs.Standing.{StandsFor}
use Rattle.detector.specs.Watch.{Watch}

both_parts : (a b : Bool) → T (a && b) → T a × T b
both_parts true b h = (tt, h)
both_parts false b h = absurd h

is_less : (a b : ℕ) → T (is_lt (nat_cmp a b)) → nat_lt a b ≡ true
is_less a b = elim (nat_lt a b) as (λ t. T (is_lt (cond t Less (cond (eqb a b) Equal Greater))) → t
    ≡ true) [
      | true ↦ λ _. refl
      | false ↦ elim (eqb a b) as (λ u. T (is_lt (cond u Equal Greater)) → false ≡ true) [
        | true ↦
            λ h. absurd h
        | false ↦ λ h. absurd h
      ]
    ]

abbrev line : ℕ × ℕ → CountedLine
line e = record { number = e.0; writes = e.1 }

abbrev lines_in : List (ℕ × ℕ) → List CountedLine
lines_in es = map line (filter (λ e. nat_lt 0 e.1) es)

lower_all : (x : ℕ) (es : List (ℕ × ℕ)) → T (below_all nat_cmp x es)
    → AllByRecursion (λ (l : CountedLine). nat_lt x l.number ≡ true) (lines_in es)
lower_all x [] h = tt
lower_all x (e ∷ es) h =
    let parts = both_parts _ _ h in
    elim (cases_Bool (nat_lt 0 e.1)) [
      | inl some ↦ rw some (is_less x e.0 parts.0, lower_all x es parts.1)
      | inr none ↦ rw none (lower_all x es parts.1)
    ]

rising_lines : (es : List (ℕ × ℕ)) → T (is_sorted nat_cmp es)
    → IsRising has_lower_number (lines_in es)
rising_lines [] h = tt
rising_lines (e ∷ es) h =
    let parts = both_parts _ _ h in
    elim (cases_Bool (nat_lt 0 e.1)) [
      | inl some ↦ rw some (lower_all e.0 es parts.0, rising_lines es parts.1)
      | inr none ↦ rw none (rising_lines es parts.1)
    ]

tied_itself : (n : ℕ) → eq_by_cmp nat_cmp n n ≡ true
tied_itself n = unsigned_tied n n ∙ same n
  where
    same : (n : ℕ) → eqb n n ≡ true
    same n = grind (arith, nat_tests)

apart_above : (a b : ℕ) → nat_lt a b ≡ true → eq_by_cmp nat_cmp b a ≡ false
apart_above a b h = unsigned_tied b a ∙ other a b h
  where
    other : (a b : ℕ) → nat_lt a b ≡ true → eqb b a ≡ false
    other a b h = grind (arith, nat_tests)

-- a line of sorted entries is found by its number
is_found : (es : List (ℕ × ℕ)) → T (is_sorted nat_cmp es) → (l : CountedLine)
    → Member l (lines_in es)
    → (0 < l.writes) × (find nat_cmp l.number es ≡ Some l.writes)
is_found [] h l m = absurd m
is_found (e ∷ es) h l m =
    let parts = both_parts _ _ h in
    let later_one : Member l (lines_in es) → (0 < l.writes)
    × (find nat_cmp l.number (e ∷ es) ≡ Some l.writes) = λ later.
    let found = is_found es parts.1 l later in
    let above = all_at (λ (z : CountedLine). nat_lt e.0 z.number ≡ true) (lines_in es) l
    (lower_all e.0 es parts.0) later in (
      found.0,
      ap (λ t. cond t (Some e.1) (find nat_cmp l.number es))
          (apart_above e.0 l.number above) ∙ found.1,
    ) in
    elim (cases_Bool (nat_lt 0 e.1)) [
      | inl some ↦
          let k : Member l (line e ∷ lines_in es) = rw some at m in
          elim k [
            | inl is ↦ (
              subst (λ (z : CountedLine). 0 < z.writes) (sym is) (ltb-true 0 e.1 some),
              subst (λ (z : CountedLine). find nat_cmp z.number (e ∷ es) ≡ Some z.writes) (sym is)
                  (ap (λ t. cond t (Some e.1) (find nat_cmp e.0 es)) (tied_itself e.0)),
            )
            | inr later ↦ later_one later
          ]
      | inr none ↦ let k : Member l (lines_in es) = rw none at m in later_one k
    ]

-- what is found, and was written, is one of the lines
found_in : (es : List (ℕ × ℕ)) (k n : ℕ) → find nat_cmp k es ≡ Some n → 0 < n
    → Member (line (k, n)) (lines_in es)
found_in [] k n found some = absurd (none-some n found)
found_in (e ∷ es) k n found some =
    elim (cases_Bool (eq_by_cmp nat_cmp k e.0)) [
      | inl here ↦
          let number : k ≡ e.0 = eqb-true k e.0 (sym (unsigned_tied k e.0) ∙ here) in
          let writes : e.1 ≡ n = same_Some e.1 n (rw here at found) in
          let written : nat_lt 0 e.1 ≡ true = lt-ltb 0 e.1 (subst (λ w. 0 < w) (sym writes) some) in
          rw written (inl (λ i. record { number = number i; writes = sym writes i }))
      | inr other ↦
          let rest = found_in es k n (rw other at found) some in
          elim (cases_Bool (nat_lt 0 e.1)) [
            | inl written ↦ rw written (inr rest)
            | inr none ↦
                rw none rest
          ]
    ]

-- the lines of a count of writes
pub counted_lines-counted : (writes : Counts) → AreCounted (count_at writes) (counted_lines writes)
counted_lines-counted writes =
    let sorted = finite.entries_sorted writes in
    record {
      rising = rising_lines (finite.entries writes) sorted;
      counted = λ l m.
          let found = is_found (finite.entries writes) sorted l m in
          (found.0, sym (ap (λ o. unwrap_or o 0) (finite.get-entries writes l.number ∙ found.1)));
      all = λ k some. elim (slice_cases (finite.get writes k)) [
        | inl none ↦ absurd (let nothing : count_at writes k ≡ 0 = ap (λ o. unwrap_or o 0) none in
            omega arith)
        | inr there ↦
            let is : count_at writes k ≡ there.0 = ap (λ o. unwrap_or o 0) there.1 in
            found_in (finite.entries writes) k (count_at writes k)
            (sym (finite.get-entries writes k) ∙ there.1 ∙ ap Some (sym is)) some
      ];
    }

-- what stands for a list has the state of the list
pub stands_saved : (t : AccessList) (w : Watch) (harts : ℕ) → is_layout w.grid.size w.grid.offset
    ≡ true
    → IsTrue (may_predict w.grid w.levels) → StandsFor t w → spell_state (state_of harts w)
    ≡ state_of_list w.grid w.levels harts t
stands_saved t w harts good native stands =
    ap (λ (p : ℕ). spell_state (record {
      grid = w.grid;
      tracking = w.levels.tracking;
      prediction = w.levels.prediction;
      harts = harts;
      position = p;
      lines = counted_lines w.writes;
      tracks = w.tracks;
    })) stands.position
    ∙ spell_state-of_list w.grid w.levels harts t (counted_lines w.writes) w.tracks good native
    (counted_alike (count_at w.writes) (writes_of w.grid t) (counted_lines w.writes) stands.writes
    (counted_lines-counted w.writes))
    stands.tracks

-- the saved lines of a count
pub saved_lines : (writes : Counts) (lines : List CountedLine) → AreCounted (count_at writes) lines
    → lines ≡ counted_lines writes
saved_lines writes lines counted = same_counted (count_at writes) lines
    (counted_lines writes) counted (counted_lines-counted writes)
