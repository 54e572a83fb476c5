-- Written lines, one by one: what is counted once a line is added above all others.
use Rattle.std.proofs.Common.{◌≡◌, ℕ, ◌<◌, ◌≤◌, Bool, true, false, eqb, List, [], ◌∷◌, ◌++◌, map}
use Rattle.std.proofs.Common.{refl, sym, ap, ◌∙◌, subst, arith, inl, inr}
use Rattle.std.proofs.lemmas.Bool.{and_parts, cases_Bool, eqb-true, false≢true}
use Rattle.std.proofs.lemmas.Bool.Decides.{nat_tests}
use Rattle.std.proofs.lemmas.List.{map-append}
use Rattle.std.specs.Prelude.{cond, nat_le, nat_lt, None, Some, unwrap_or}
use Rattle.std.specs.List.{list_all, list_any}
use Rattle.std.specs.Ordering.{nat_cmp}
use Rattle.std.specs.Cmp.{nat_cmp_total, unsigned_tied}
use Rattle.std.specs.FinMap as finite
use Rattle.sharing_rules.specs.Members.{Member}
use Rattle.sharing_rules.specs.Laws.Kinds.{Member-append, append-Member_left, append-Member_right}
use Rattle.sharing_rules.specs.Laws.Lists.{Member-filter, filter-Member}
use Rattle.saved_state.specs.declared.state_parts.CountedLine.{CountedLine}
use Rattle.saved_state.specs.Counted.{AreCounted, counted_line, has_lower_number}
use Rattle.saved_state.specs.Laws.Counted.{rising-push, same_counted}
use Rattle.saved_state.specs.Laws.Reading.{each_passes}
use Rattle.saved_state.specs.Spelling.{Header}
use Rattle.saved_state.specs.Units.{due}
use Rattle.detector.specs.Counts.{Counts, count_at}
use Rattle.saved_state.specs.Resuming.{counts_in}
use Rattle.saved_state.specs.Saving.{counted_lines}
use Rattle.saved_state.proofs.SaveLaws.{counted_lines-counted}
use Rattle.sharing_rules.specs.Laws.Held.{same_bool}
use Rattle.sharing_rules.specs.Laws.Grown.{eqb-same}
use Rattle.saved_state.specs.Laws.Lists.{one_passes}

-- all lines have lower numbers than k
abbrev pub are_below : ℕ → List CountedLine → Bool
are_below k lines = list_all (λ l. nat_lt l.number k) lines

-- nothing but written lines is counted
abbrev pub CountsLines : Counts → Type 0
CountsLines writes = writes ≡ counts_in (counted_lines writes)

abbrev pairs : List CountedLine → List (ℕ × ℕ)
pairs lines = map (λ l. (l.number, l.writes)) lines

higher : (n k : ℕ) → nat_lt n k ≡ true → eqb k n ≡ false
higher n k h = grind (arith, nat_tests)

lower : (n k : ℕ) → nat_lt n k ≡ true → eqb n k ≡ false
lower n k h = grind (arith, nat_tests)

find_below : (k : ℕ) (lines : List CountedLine) → are_below k lines ≡ true
    → finite.find nat_cmp k (pairs lines) ≡ None
find_below k [] h = refl
find_below k (l ∷ lines) h =
    let parts = and_parts (nat_lt l.number k) (are_below k lines) h in
    ap (λ t. cond t (Some l.writes) (finite.find nat_cmp k (pairs lines)))
    (unsigned_tied k l.number ∙ higher l.number k parts.0) ∙ find_below k lines parts.1

count_other : (writes : Counts) (k n q : ℕ) → eqb q k ≡ false
    → count_at (finite.insert writes k n) q ≡ count_at writes q
count_other writes k n q other = ap (λ o. unwrap_or o 0)
    (finite.get-insert nat_cmp_total writes k n q
    ∙ ap (λ t. cond t (Some n) (finite.get writes q)) (unsigned_tied q k ∙ other))

count_here : (writes : Counts) (k n : ℕ) → count_at (finite.insert writes k n) k ≡ n
count_here writes k n = ap (λ o. unwrap_or o 0)
    (finite.get-insert nat_cmp_total writes k n k
    ∙ ap (λ t. cond t (Some n) (finite.get writes k)) (unsigned_tied k k ∙ eqb-same k))

inserted-counted : (writes : Counts) (l : CountedLine)
    → are_below l.number (counted_lines writes) ≡ true → 0 < l.writes
    → AreCounted (count_at (finite.insert writes l.number l.writes))
    (counted_lines writes ++ l ∷ [])
inserted-counted writes l below some =
    let c = counted_lines-counted writes in
    let after = finite.insert writes l.number l.writes in
    let here = count_here writes l.number l.writes in
    record {
      rising = rising-push has_lower_number (counted_lines writes) l c.rising
          (each_passes (λ x. nat_lt x.number l.number) (counted_lines writes) below);
      counted = λ x m. elim (Member-append (counted_lines writes) (l ∷ []) x m) [
        | inl front ↦
            let is = c.counted x front in
            let under = each_passes (λ z. nat_lt z.number l.number) (counted_lines writes) below x
            front in (
              is.0,
              is.1 ∙ sym (count_other writes l.number l.writes x.number
                  (lower x.number l.number under)),
            )
        | inr last ↦ elim last [
          | inl is ↦ (
            subst (λ (z : CountedLine). 0 < z.writes) (sym is) some,
            subst (λ (z : CountedLine). z.writes ≡ count_at after z.number) (sym is) (sym here),
          )
          | inr never ↦ absurd never
        ]
      ];
      all = λ k there. elim (cases_Bool (eqb k l.number)) [
        | inl is ↦
            let number = eqb-true k l.number is in
            let count : count_at after k ≡ l.writes = ap (count_at after) number ∙ here in
            let line : counted_line (count_at after) k ≡ l =
            λ i. record { number = number i; writes = count i } in
            append-Member_right (counted_lines writes) (l ∷ []) (counted_line (count_at after) k)
            (inl line)
        | inr other ↦
            let same = count_other writes l.number l.writes k other in
            append-Member_left (counted_lines writes) (l ∷ []) (counted_line (count_at after) k)
            (subst (λ n. Member (record { number = k; writes = n }) (counted_lines writes))
            (sym same) (c.all k (subst (λ n. 0 < n) same there)))
      ];
    }

-- a line above all others stands behind them
pub counted-insert : (writes : Counts) (l : CountedLine)
    → are_below l.number (counted_lines writes) ≡ true → 0 < l.writes
    → counted_lines (finite.insert writes l.number l.writes) ≡ counted_lines writes ++ l ∷ []
counted-insert writes l below some =
    let after = finite.insert writes l.number l.writes in
    same_counted (count_at after) (counted_lines after) (counted_lines writes ++ l ∷ [])
    (counted_lines-counted after) (inserted-counted writes l below some)

pub counts-insert : (writes : Counts) (l : CountedLine)
    → are_below l.number (counted_lines writes) ≡ true → 0 < l.writes → CountsLines writes
    → CountsLines (finite.insert writes l.number l.writes)
counts-insert writes l below some is =
    let lines = counted_lines writes in
    ap (λ m. finite.insert m l.number l.writes) is
    ∙ sym (finite.from_entries_push nat_cmp_total finite.nat_cmp-IsAntisymmetric (pairs lines)
    l.number l.writes (find_below l.number lines below))
    ∙ ap finite.from_entries (sym (map-append (λ (z : CountedLine). (z.number, z.writes)) lines
    (l ∷ [])))
    ∙ ap counts_in (sym (counted-insert writes l below some))

-- a line above all others wasn't counted yet
pub fresh_above : (writes : Counts) (k : ℕ) → are_below k (counted_lines writes) ≡ true
    → CountsLines writes → count_at writes k ≡ 0
fresh_above writes k below is =
    let lines = counted_lines writes in
    ap (λ m. count_at m k) is
    ∙ ap (λ o. unwrap_or o 0) (finite.get-from_entries nat_cmp_total (pairs lines) k
    ∙ find_below k lines below)

-- ---- the lines that are due

any_member : {X : Type 0} (p : X → Bool) (xs : List X) → list_any p xs ≡ true
    → (x : X) × Member x xs × (p x ≡ true)
any_member p [] h = absurd (false≢true h)
any_member p (x ∷ xs) h =
    elim (cases_Bool (p x)) [
      | inl here ↦ (x, inl refl, here)
      | inr other ↦ let w = any_member p xs (rw other at h) in (w.0, inr w.1, w.2)
    ]

pub some_due : (T n : ℕ) → 1 ≤ T → nat_le T n ≡ true → 0 < n
some_due T n some h = grind (arith, nat_tests)

-- a line is due where it was written often enough
pub any_due : (h : Header) (writes : Counts) (k : ℕ) → 1 ≤ h.tracking
    → list_any (λ l. eqb l.number k) (due h (counted_lines writes))
    ≡ nat_le h.tracking (count_at writes k)
any_due h writes k some =
    let c = counted_lines-counted writes in
    let lines = counted_lines writes in
    let often : CountedLine → Bool = λ l. nat_le h.tracking l.writes in
    same_bool (list_any (λ l. eqb l.number k) (due h lines))
    (nat_le h.tracking (count_at writes k))
    (λ there.
    let w = any_member (λ l. eqb l.number k) (due h lines) there in
    let f = Member-filter often lines w.0 w.1 in
    let count : w.0.writes ≡ count_at writes k =
    (c.counted w.0 f.0).1 ∙ ap (count_at writes) (eqb-true w.0.number k w.2) in
    ap (nat_le h.tracking) (sym count) ∙ f.1)
    (λ enough.
    let line = counted_line (count_at writes) k in
    let there = c.all k (some_due h.tracking (count_at writes k) some enough) in
    one_passes (λ l. eqb l.number k) (due h lines) line
    (filter-Member often lines line there enough)
    (eqb-same k))
