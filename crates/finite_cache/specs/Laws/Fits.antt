-- An access leaves what is kept fit: lists in their sets, harts noted, and counts within the
-- position.
use Rattle.std.proofs.Common.{◌≡◌, ℕ, zero, suc, ◌+◌, ◌<◌, ◌≤◌, ◌^◌, Bool, true, false, eqb}
use Rattle.std.proofs.Common.{◌||◌, List, [], ◌∷◌, length, take, refl, sym, ap, ◌∙◌, subst, arith}
use Rattle.std.proofs.Common.{inl}
use Rattle.std.proofs.Common.{inr, Option, Some, None}
use Rattle.std.proofs.lemmas.Bool.{cases_Bool, eq-eqb, eqb-true, false≢true, or_cases, or_left}
use Rattle.std.proofs.lemmas.Bool.{or_right}
use Rattle.std.proofs.lemmas.List.Sums.{sum_by-cons}
use Rattle.std.proofs.lemmas.Option.{none-some, same_Some}
use Rattle.std.proofs.Math.Bool.{or-true}
use Rattle.std.specs.List.{AllByRecursion, list_any}
use Rattle.std.specs.Map.{lookup}
use Rattle.std.specs.Option.{option_map_or}
use Rattle.std.specs.Prelude.{if◌then◌else◌, nat_eq, option_map, slice_get, sum_by}
use Rattle.indexmap.specs.IndexMap.{insert_entry}
use Rattle.base.specs.Touch.{Touch, is_write}
use Rattle.sharing_rules.specs.Arrivals.{note_arrival}
use Rattle.finite_cache.specs.Bounded.{bounded_step, has, in_front, left, line_in, set_of}
use Rattle.finite_cache.specs.Bounded.{without}
use Rattle.finite_cache.specs.Fits.{AreFit, AreNoted, HaveWays, bounded_sum, unbounded_sum}
use Rattle.finite_cache.specs.Counts.{one_if}
use Rattle.finite_cache.specs.CacheState.{IsStep, LineUse, MeanTheSame, Parts, WaySet, evicted_now}
use Rattle.finite_cache.specs.CacheState.{harts_after, harts_of}
use Rattle.finite_cache.specs.CacheState.{is_cached_now, is_held_now, lists_of}
use Rattle.finite_cache.specs.CacheState.{tally_after, use_of}
use Rattle.finite_cache.specs.Laws.Cells.{has-kept}
use Rattle.finite_cache.specs.Laws.Standing.{arrival-any}
use Rattle.finite_cache.specs.Laws.Steps.{flip}
use Rattle.base.specs.Shapes.{CacheShape}
use Rattle.finite_cache.specs.declared.rows.Tally.{Tally}

-- ---- lines in lists

pub has-take : (n q : ℕ) (ls : List ℕ) → has q (take n ls) ≡ true → has q ls ≡ true
has-take zero q ls e = absurd (false≢true e)
has-take (suc n) q [] e = absurd (false≢true e)
has-take (suc n) q (x ∷ ls) e =
    elim (or_cases (eqb q x) (has q (take n ls)) e) [
      | inl here ↦ or_left (eqb q x) (has q ls) here
      | inr later ↦ or_right (eqb q x) (has q ls) (has-take n q ls later)
    ]

has-at : (ls : List ℕ) (n q : ℕ) → slice_get ls n ≡ Some q → has q ls ≡ true
has-at [] n q e = absurd (none-some q e)
has-at (x ∷ ls) zero q e = or_left (eqb q x) (has q ls) (eq-eqb q x (sym (same_Some x q e)))
has-at (x ∷ ls) (suc n) q e = or_right (eqb q x) (has q ls) (has-at ls n q e)

-- the line that leaves was in the list
pub left-there : (k : CacheShape) (r q : ℕ) (ls : List ℕ) → 0 < k.ways
    → left k r ls ≡ Some q → has q ls ≡ true
left-there k r q ls some e = behind k.ways some e
  where
    behind : (n : ℕ) → 0 < n → slice_get (in_front r ls) n ≡ Some q → has q ls ≡ true
    behind zero some e = absurd (omega (arith, some))
    behind (suc n) some e = (has-kept r q ls (has-at (without r ls) n q e)).0

stays : (k : CacheShape) (a : Touch) (h q : ℕ) (hs : List ℕ) → eqb q (line_in k a.addr) ≡ false
    → list_any (eqb h) hs ≡ true → list_any (eqb h) (harts_after k a q hs) ≡ true
stays k a h q hs other e = rw (flip (line_in k a.addr) q, other) e

module _ (k : CacheShape) (lists : ℕ → ℕ → List ℕ) (harts : ℕ → List ℕ) (a : Touch)
    (noted : AreNoted k lists harts)
  where
    abbrev r : ℕ
    r = line_in k a.addr

    comes : (h q : ℕ) → eqb h a.hart ≡ true → eqb q r ≡ true
        → list_any (eqb h) (harts_after k a q (harts q)) ≡ true
    comes h q f e =
        elim (cases_Bool (is_write a.kind)) [
          | inl w ↦ rw (flip r q, e, w, f) refl
          | inr w ↦ rw (flip r q, e, w, arrival-any h a.hart (harts q), f) refl
        ]

    read-stays : (h q : ℕ) → is_write a.kind ≡ false → list_any (eqb h) (harts q) ≡ true
        → list_any (eqb h) (harts_after k a q (harts q)) ≡ true
    read-stays h q w e =
        elim (cases_Bool (eqb q r)) [
          | inl same ↦
              rw (flip r q, same, w, arrival-any h a.hart (harts q), e, or-true) refl
          | inr other ↦ stays k a h q (harts q) other e
        ]

    pub noted-step : (h s q : ℕ) → s < k.sets → has q (bounded_step k lists a h s) ≡ true
        → (set_of k q ≡ s) × (list_any (eqb h) (harts_after k a q (harts q)) ≡ true)
    noted-step h s q s_in there =
        elim (cases_Bool (eqb (set_of k r) s)) [
          | inl here ↦ elim (cases_Bool (eqb h a.hart)) [
            | inl own ↦
                let front : (eqb q r || has q (without r (lists h s))) ≡ true =
                has-take k.ways q (in_front r (lists h s)) (rw (here, own) at there) in
                elim (or_cases (eqb q r) (has q (without r (lists h s))) front) [
                  | inl same ↦ (
                    ap (set_of k) (eqb-true q r same) ∙ eqb-true (set_of k r) s here,
                    comes h q own same,
                  )
                  | inr behind ↦
                      let w = has-kept r q (lists h s) behind in
                      let old = noted h s q s_in w.0 in
                      (old.0, stays k a h q (harts q) w.1 old.1)
                ]
            | inr other ↦ elim (cases_Bool (is_write a.kind)) [
              | inl writes ↦
                  let rest : has q (without r (lists h s)) ≡ true =
                  rw (here, other, writes) at there in
                  let w = has-kept r q (lists h s) rest in
                  let old = noted h s q s_in w.0 in
                  (old.0, stays k a h q (harts q) w.1 old.1)
              | inr reads ↦
                  let same : has q (lists h s) ≡ true = rw (here, other, reads) at there in
                  let old = noted h s q s_in same in
                  (old.0, read-stays h q reads old.1)
            ]
          ]
          | inr elsewhere ↦
              let same : has q (lists h s) ≡ true = rw elsewhere at there in
              let old = noted h s q s_in same in
              elim (cases_Bool (eqb q r)) [
                | inl e ↦
                    let set : eqb (set_of k r) s ≡ true =
                    eq-eqb (set_of k r) s (ap (set_of k) (sym (eqb-true q r e)) ∙ old.0) in
                    absurd (false≢true (sym elsewhere ∙ set))
                | inr e ↦ (old.0, stays k a h q (harts q) e old.1)
              ]
        ]

-- ---- sums

module _ (f : Tally → ℕ) where
  abbrev sum : List (ℕ × Tally) → ℕ
  sum es = sum_by (λ (e : ℕ × Tally). f e.1) es

  abbrev value_at : List (ℕ × Tally) → ℕ → ℕ
  value_at es r = option_map_or f (lookup (eqb r) es) 0

  pub sum-insert : (es : List (ℕ × Tally)) (r : ℕ) (v : Tally)
      → sum (insert_entry nat_eq es r v) + value_at es r ≡ sum es + f v
  sum-insert [] r v =
      let cons = sum_by-cons (λ (e : ℕ × Tally). f e.1) (r, v) [] in omega (arith, cons)
  sum-insert (e ∷ es) r v =
      let old = sum_by-cons (λ (e : ℕ × Tally). f e.1) e es in
      elim (cases_Bool (eqb r e.0)) [
        | inl here ↦
            let new = sum_by-cons (λ (e : ℕ × Tally). f e.1) (e.0, v) es in
            rw here (omega (arith, old, new))
        | inr there ↦
            let ih = sum-insert es r v in
            let new = sum_by-cons (λ (e : ℕ × Tally). f e.1) e (insert_entry nat_eq es r v) in
            rw there (omega (arith, old, new, ih))
      ]

  pub sum-at : (es : List (ℕ × Tally)) (r : ℕ) → value_at es r ≤ sum es
  sum-at [] r = omega arith
  sum-at (e ∷ es) r =
      let old = sum_by-cons (λ (e : ℕ × Tally). f e.1) e es in
      elim (cases_Bool (eqb r e.0)) [
        | inl here ↦ rw here (omega (arith, old))
        | inr there ↦ let ih = sum-at es r in rw there (omega (arith, old, ih))
      ]

  -- a row more
  pub sum-more : (es : List (ℕ × Tally)) (i : ℕ) (w : Tally)
      → option_map (λ (e : ℕ × Tally). e.1) (slice_get es i) ≡ Some w
      → sum (take (i + 1) es) ≡ sum (take i es) + f w
  sum-more [] i w e = absurd (none-some w e)
  sum-more (x ∷ es) zero w e =
      let cons = sum_by-cons (λ (e : ℕ × Tally). f e.1) x [] in
      let value = ap f (same_Some x.1 w e) in
      omega (arith, cons, value)
  sum-more (x ∷ es) (suc i) w e =
      let ih = sum-more es i w e in
      let later = sum_by-cons (λ (e : ℕ × Tally). f e.1) x (take (i + 1) es) in
      let before = sum_by-cons (λ (e : ℕ × Tally). f e.1) x (take i es) in
      let one_more : suc (i + 1) ≡ suc i + 1 = omega arith in
      subst (λ n. sum (take n (x ∷ es)) ≡ sum (take (suc i) (x ∷ es)) + f w) one_more
      (omega (arith, ih, later, before))

  pub sum-within : (es : List (ℕ × Tally)) (i : ℕ) → sum (take i es) ≤ sum es
  sum-within [] zero = omega arith
  sum-within [] (suc i) = omega arith
  sum-within (x ∷ es) zero = omega arith
  sum-within (x ∷ es) (suc i) =
      let ih = sum-within es i in
      let part = sum_by-cons (λ (e : ℕ × Tally). f e.1) x (take i es) in
      let all = sum_by-cons (λ (e : ℕ × Tally). f e.1) x es in
      omega (arith, ih, part, all)

  pub sum-value : (es : List (ℕ × Tally)) (r : ℕ) (w : Tally) → Some w ≡ lookup (eqb r) es
      → f w ≤ sum es
  sum-value es r w e =
      let value : option_map_or f (lookup (eqb r) es) 0 ≡ f w =
      ap (λ o. option_map_or f o 0) (sym e) in
      omega (arith, value, sum-at es r)

pub one-most : (b : Bool) → one_if b ≤ 1
one-most true = omega arith
one-most false = omega arith

more-bounded : (o : Option Tally) (position : ℕ) (cached held : Bool)
    → (tally_after o position cached held).bounded
    ≤ option_map_or (λ (w : Tally). w.bounded) o 0 + 1
more-bounded None position cached held = omega arith
more-bounded (Some w) position cached held = omega (arith, one-most cached)

more-unbounded : (o : Option Tally) (position : ℕ) (cached held : Bool)
    → (tally_after o position cached held).unbounded
    ≤ option_map_or (λ (w : Tally). w.unbounded) o 0 + 1
more-unbounded None position cached held = omega arith
more-unbounded (Some w) position cached held = omega (arith, one-most held)

all-keys : (P : ℕ → Type 0) (es : List (ℕ × Tally)) (r : ℕ) (v : Tally) → P r
    → AllByRecursion (λ e. P e.0) es → AllByRecursion (λ e. P e.0) (insert_entry nat_eq es r v)
all-keys P [] r v here all = (here, tt)
all-keys P (e ∷ es) r v here all =
    elim (cases_Bool (eqb r e.0)) [
      | inl same ↦ rw same (all.0, all.1)
      | inr other ↦ rw other (all.0, all-keys P es r v here all.1)
    ]

module _ (k : CacheShape) (position : ℕ) (a : Touch) (p new : Parts)
    (fit : AreFit k position p) (step : IsStep k position a p new)
    (ways : HaveWays k.ways new.sets) (small : line_in k a.addr ≤ 2 ^ 32)
  where
    fit-noted : AreNoted k (lists_of k new.sets) (harts_of new.lines)
    fit-noted h s q s_in there =
        let w = noted-step k (lists_of k p.sets) (harts_of p.lines) a fit.noted h s q s_in
        (subst (λ ls. has q ls ≡ true) (step.lists h s s_in) there) in
        (w.0, subst (λ hs. list_any (eqb h) hs ≡ true) (sym (step.harts q)) w.1)

    fit-evicted : (r : ℕ) → (use_of new.lines r).evicted ≤ position + 1
    fit-evicted r =
        omega (
          arith,
          step.evicted r,
          fit.evicted r,
          one-most (option_map_or (eqb r) (evicted_now k p a) false),
        )

    abbrev next : Tally
    next =
        tally_after (lookup (eqb (line_in k a.addr)) p.rows) position
        (is_cached_now k p a.hart (line_in k a.addr)) (is_held_now p a.hart (line_in k a.addr))

    fit-bounded : bounded_sum new.rows ≤ position + 1
    fit-bounded =
        subst (λ es. bounded_sum es ≤ position + 1) (sym step.rows)
        (elim (cases_Bool (is_write a.kind)) [
          | inl w ↦
              let sum = sum-insert (λ w. w.bounded) p.rows (line_in k a.addr) next in
              let more = more-bounded (lookup (eqb (line_in k a.addr)) p.rows) position
              (is_cached_now k p a.hart (line_in k a.addr))
              (is_held_now p a.hart (line_in k a.addr)) in
              rw w (omega (arith, sum, more, fit.bounded))
          | inr w ↦ rw w (omega (arith, fit.bounded))
        ])

    fit-unbounded : unbounded_sum new.rows ≤ position + 1
    fit-unbounded =
        subst (λ es. unbounded_sum es ≤ position + 1) (sym step.rows)
        (elim (cases_Bool (is_write a.kind)) [
          | inl w ↦
              let sum = sum-insert (λ w. w.unbounded) p.rows (line_in k a.addr) next in
              let more = more-unbounded (lookup (eqb (line_in k a.addr)) p.rows) position
              (is_cached_now k p a.hart (line_in k a.addr))
              (is_held_now p a.hart (line_in k a.addr)) in
              rw w (omega (arith, sum, more, fit.unbounded))
          | inr w ↦ rw w (omega (arith, fit.unbounded))
        ])

    fit-small : AllByRecursion (λ e. e.0 ≤ 2 ^ 32) new.rows
    fit-small =
        subst (AllByRecursion (λ e. e.0 ≤ 2 ^ 32)) (sym step.rows)
        (elim (cases_Bool (is_write a.kind)) [
          | inl w ↦ rw w
              (all-keys (λ n. n ≤ 2 ^ 32) p.rows (line_in k a.addr) next small fit.small)
          | inr w ↦ rw w fit.small
        ])

    -- one access more leaves all fit
    pub fit-step : AreFit k (position + 1) new
    fit-step = record {
      ways = ways;
      noted = fit-noted;
      evicted = fit-evicted;
      bounded = fit-bounded;
      unbounded = fit-unbounded;
      small = fit-small;
    }

-- what means the same is fit where it was
pub fit-same : (k : CacheShape) (position : ℕ) (p new : Parts) → AreFit k position p
    → MeanTheSame k p new → HaveWays k.ways new.sets → AreFit k position new
fit-same k position p new fit same ways = record {
  ways = ways;
  noted = λ h s q s_in there.
      let old = fit.noted h s q s_in
      (subst (λ ls. has q ls ≡ true) (same.lists h s s_in) there) in (
        old.0,
        subst (λ (l : LineUse). list_any (eqb h) l.harts ≡ true) (sym (same.lines q)) old.1,
      );
  evicted = λ r. subst (λ (l : LineUse). l.evicted ≤ position) (sym (same.lines r))
      (fit.evicted r);
  bounded = subst (λ es. bounded_sum es ≤ position) (sym same.rows) fit.bounded;
  unbounded = subst (λ es. unbounded_sum es ≤ position) (sym same.rows) fit.unbounded;
  small = subst (AllByRecursion (λ e. e.0 ≤ 2 ^ 32)) (sym same.rows) fit.small;
}

-- no access so far
pub fit-none : (k : CacheShape) (sets : List (ℕ × WaySet)) (lines : List (ℕ × LineUse))
    (rows : List (ℕ × Tally)) → sets ≡ [] → lines ≡ [] → rows ≡ []
    → AreFit k 0 (record { sets = sets; lines = lines; rows = rows })
fit-none k sets lines rows e f g =
    subst (λ xs. AreFit k 0 (record { sets = xs; lines = lines; rows = rows })) (sym e)
    (subst (λ xs. AreFit k 0 (record { sets = []; lines = xs; rows = rows })) (sym f)
    (subst (λ xs. AreFit k 0 (record { sets = []; lines = []; rows = xs })) (sym g) (record {
      ways = tt;
      noted = λ h s q s_in there. absurd (false≢true there);
      evicted = λ r. omega arith;
      bounded = omega arith;
      unbounded = omega arith;
      small = tt;
    })))

-- some hart is among those of a list
pub some-harts : (h : ℕ) (hs : List ℕ) → list_any (eqb h) hs ≡ true → 0 < length hs
some-harts h [] e = absurd (false≢true e)
some-harts h (x ∷ hs) e = omega arith

-- the line that leaves has some harts, also once one more came
pub gone-noted : (k : CacheShape) (lists : ℕ → ℕ → List ℕ) (old new : List (ℕ × LineUse))
    (r h q : ℕ) → 0 < k.ways → 0 < k.sets → AreNoted k lists (harts_of old)
    → ((x : ℕ) → use_of new x ≡ if eqb x r
    then record (use_of old r) { harts = note_arrival (harts_of old r) h } else use_of old x)
    → left k r (lists h (set_of k r)) ≡ Some q → 0 < length (harts_of new q)
gone-noted k lists old new r h q ways sets noted came gone =
    let inside : set_of k r < k.sets = omega (arith, sets) in
    let there = left-there k r q (lists h (set_of k r)) ways gone in
    let before = (noted h (set_of k r) q inside there).1 in
    some-harts h (harts_of new q)
    (subst (λ (l : LineUse). list_any (eqb h) l.harts ≡ true) (sym (came q))
    (elim (cases_Bool (eqb q r)) [
      | inl same ↦ rw (same, arrival-any h h (harts_of old r), eq-eqb h h refl) refl
      | inr other ↦ rw other before
    ]))
