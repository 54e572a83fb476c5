-- What the counts of an index are once an entry was replaced.
use Rattle.std.proofs.Common.{◌≡◌, ◌≢◌, ℕ, ◌+◌, ◌<◌, Bool, true, false, eqb, List, [], ◌∷◌}
use Rattle.std.proofs.Common.{Option, Some, None, map, refl, sym, ap}
use Rattle.std.proofs.Common.{◌∙◌, arith, inl, inr}
use Rattle.std.proofs.lemmas.Bool.{cases_Bool, and_left, eqb-true}
use Rattle.std.proofs.lemmas.Bool.Decides.{nat_tests}
use Rattle.std.specs.Prelude.{if◌then◌else◌, cond, option_map, unwrap_or, is_none, IfSome}
use Rattle.std.specs.Ordering.{nat_cmp, eq_by_cmp}
use Rattle.std.specs.Cmp.{nat_cmp_total, unsigned_tied}
use Rattle.std.specs.FinMap as finite
use Rattle.detector.specs.declared.line_entry.LineEntry.{LineEntry}
use Rattle.detector.specs.Entries.{Entries, IsEntry, blank_entry, entry_at, is_blank, with_entry}
use Rattle.detector.specs.Laws.Entries.{get-with_entry, kept, kept_is}
use Rattle.detector.specs.Counts.{Counts, count_at, counts_of, no_writes, with_write}

find-counts : (es : List (ℕ × LineEntry)) (q : ℕ)
    → finite.find nat_cmp q (map (λ e. (e.0, e.1.writes)) es) ≡ option_map
    (λ (e : LineEntry). e.writes) (finite.find nat_cmp q es)
find-counts [] q = refl
find-counts (e ∷ es) q = elim (cases_Bool (eq_by_cmp nat_cmp q e.0)) [
  | inl here ↦
      rw here
  | inr other ↦ rw other (find-counts es q)
]

get-counts_of : (m : Entries) (q : ℕ) → finite.get (counts_of m) q
    ≡ option_map (λ (e : LineEntry). e.writes) (finite.get m q)
get-counts_of m q =
    finite.get-from_entries nat_cmp_total (map (λ e. (e.0, e.1.writes)) (finite.entries m)) q
    ∙ find-counts (finite.entries m) q
    ∙ ap (option_map (λ (e : LineEntry). e.writes)) (sym (finite.get-entries m q))

-- the count of a line is that of its entry
pub count_at-counts_of : (m : Entries) (k : ℕ) → count_at (counts_of m) k ≡ (entry_at m k).writes
count_at-counts_of m k = ap (λ o. unwrap_or o 0) (get-counts_of m k) ∙ through (finite.get m k)
  where
    through : (o : Option LineEntry) → unwrap_or (option_map (λ (e : LineEntry). e.writes) o) 0
        ≡ (unwrap_or o blank_entry).writes
    through None = refl
    through (Some e) = refl

-- the same for all lines
pub counts-as : (m : Entries) (writes : Counts) → counts_of m ≡ writes
    → ◌≡◌ {A = ℕ → ℕ} (λ k. (entry_at m k).writes) (count_at writes)
counts-as m writes is = λ i k. (sym (count_at-counts_of m k)
    ∙ ap (λ (w : Counts). count_at w k) is) i

above_zero : (n : ℕ) → 0 < n → eqb n 0 ≡ false
above_zero n h = grind (arith, nat_tests)

kept-written : (e : LineEntry) → 0 < e.writes → kept e ≡ Some e
kept-written e h =
    let there : is_blank e ≡ false = and_left _ (is_none e.doubled)
    (and_left _ (is_none e.shifted) (and_left (eqb e.writes 0) (is_none e.track)
    (above_zero e.writes h))) in
    rw there

-- an entry with some writes counts them
pub counts-written : (m : Entries) (k n : ℕ) (e : LineEntry) → e.writes ≡ n → 0 < n
    → counts_of (with_entry m k e) ≡ finite.insert (counts_of m) k n
counts-written m k n e h some =
    finite.same_map nat_cmp_total finite.nat_cmp-IsAntisymmetric _ _
    (λ q.
    get-counts_of (with_entry m k e) q ∙ ap (option_map (λ (x : LineEntry). x.writes))
    (get-with_entry m k e q) ∙ picked q (eqb q k)
    ∙ sym (finite.get-insert nat_cmp_total (counts_of m) k n q
    ∙ ap (λ t. cond t (Some n) (finite.get (counts_of m) q)) (unsigned_tied q k)))
  where
    picked : (q : ℕ) (t : Bool) → option_map (λ (x : LineEntry). x.writes)
        (if t then kept e else finite.get m q) ≡
        (if t then Some n else finite.get (counts_of m) q)
    picked q true = ap (option_map (λ (x : LineEntry). x.writes)) (kept-written e (omega arith))
        ∙ ap Some h
    picked q false = sym (get-counts_of m q)

-- an entry with one write more counts one write more
pub counts-with_entry : (m : Entries) (k : ℕ) (e : LineEntry) → e.writes ≡ (entry_at m k).writes + 1
    → counts_of (with_entry m k e) ≡ with_write (counts_of m) k
counts-with_entry m k e h = counts-written m k (count_at (counts_of m) k + 1) e
    (h ∙ ap (λ n. n + 1) (sym (count_at-counts_of m k))) (omega arith)

-- an entry with as many writes, of which there are some, counts the same
pub counts-same : (m : Entries) (k : ℕ) (e : LineEntry) → e.writes ≡ (entry_at m k).writes
    → 0 < (entry_at m k).writes
    → counts_of (with_entry m k e) ≡ counts_of m
counts-same m k e h some =
    finite.same_map nat_cmp_total finite.nat_cmp-IsAntisymmetric _ _
    (λ q.
    get-counts_of (with_entry m k e) q ∙ ap (option_map (λ (x : LineEntry). x.writes))
    (get-with_entry m k e q)
    ∙ elim (cases_Bool (eqb q k)) [
      | inl here ↦ rw (here, eqb-true q k here) (there (finite.get m k) refl)
      | inr other ↦ rw other
    ]
    ∙ sym (get-counts_of m q))
  where
    there : (o : Option LineEntry) → finite.get m k ≡ o
        → option_map (λ (x : LineEntry). x.writes) (kept e) ≡ option_map
        (λ (x : LineEntry). x.writes) (finite.get m k)
    there None is = let none : (entry_at m k).writes ≡ 0 =
        ap (λ o. (unwrap_or o blank_entry).writes) is in absurd (omega arith)
    there (Some x) is =
        let was : (entry_at m k).writes ≡ x.writes =
        ap (λ o. (unwrap_or o blank_entry).writes) is in
        ap (option_map (λ (z : LineEntry). z.writes)) (kept-written e (omega arith))
        ∙ ap Some (h ∙ was)
        ∙ sym (ap (option_map (λ (z : LineEntry). z.writes)) is)

-- an entry that is left as it was leaves the map as it was
pub with_entry-same : (m : Entries) (k : ℕ) → ((q : ℕ) → IfSome (finite.get m q) (IsEntry q))
    → with_entry m k (entry_at m k) ≡ m
with_entry-same m k only =
    finite.same_map nat_cmp_total finite.nat_cmp-IsAntisymmetric _ _
    (λ q.
    get-with_entry m k (entry_at m k) q
    ∙ elim (cases_Bool (eqb q k)) [
      | inl here ↦ rw (here, eqb-true q k here) (held (finite.get m k) (only k))
      | inr other ↦ rw other
    ])
  where
    not_blank : (e : LineEntry) (b : Bool) → is_blank e ≡ b → e ≢ blank_entry
        → (if b then None else Some e) ≡ Some e
    not_blank e true is other = absurd (other (sym
        (ap (λ b. unwrap_or (if b then None else Some e) blank_entry) (sym is) ∙ kept_is e)))
    not_blank e false is other = refl

    held : (o : Option LineEntry) → IfSome o (IsEntry k) → kept (unwrap_or o blank_entry) ≡ o
    held None only = refl
    held (Some e) only = not_blank e (is_blank e) refl only.not_blank

-- an index with no entry counts nothing
pub counts-empty : counts_of finite.empty ≡ no_writes
counts-empty = finite.same_map nat_cmp_total finite.nat_cmp-IsAntisymmetric _ _
    (λ q. get-counts_of finite.empty q
    ∙ ap (option_map (λ (e : LineEntry). e.writes)) (finite.get-empty nat_cmp q)
    ∙ sym (finite.get-empty nat_cmp q))

pub entry_at-empty : (k : ℕ) → entry_at finite.empty k ≡ blank_entry
entry_at-empty k = ap (λ o. unwrap_or o blank_entry) (finite.get-empty nat_cmp k)

-- one write of line k more
pub count_at-with_write : (writes : Counts) (k q : ℕ) → count_at (with_write writes k) q
    ≡ (if eqb q k then count_at writes k + 1
    else count_at writes q)
count_at-with_write writes k q =
    ap (λ o. unwrap_or o 0) (finite.get-insert nat_cmp_total writes k (count_at writes k + 1) q
    ∙ ap (λ t. cond t (Some (count_at writes k + 1)) (finite.get writes q)) (unsigned_tied q k))
    ∙ through (eqb q k)
  where
    through : (t : Bool) → unwrap_or (cond t (Some (count_at writes k + 1)) (finite.get writes q)) 0
        ≡ (if t then count_at writes k + 1
        else count_at writes q)
    through true = refl
    through false = refl

-- an entry that was lent and left as it was leaves all
pub left-alone : (m n : Entries) (k : ℕ) (e : LineEntry)
    → ((q : ℕ) → IfSome (finite.get m q) (IsEntry q)) → n ≡ with_entry m k e
    → e ≡ entry_at m k → n ≡ m
left-alone m n k e only is same = is ∙ ap (with_entry m k) same ∙ with_entry-same m k only
