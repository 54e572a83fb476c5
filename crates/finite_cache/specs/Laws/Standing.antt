-- One access more: what stood for a list stands for the list with the access.
use Rattle.std.proofs.Common.{◌≡◌, ℕ, ◌+◌, ◌<◌, ◌≤◌, Bool, true, false, eqb, ltb, not, ◌&&◌, ◌||◌}
use Rattle.std.proofs.Common.{List, [], ◌∷◌, ◌++◌, length, map, refl, sym, ap, ◌∙◌, subst, arith}
use Rattle.std.proofs.Common.{inl, inr}
use Rattle.std.proofs.Common.{Option, Some, None, length-append}
use Rattle.std.proofs.lemmas.Bool.{and_parts, cases_Bool, eq-eqb, eqb-true, false≢true}
use Rattle.std.proofs.lemmas.Bool.{le-leb, lt-ltb}
use Rattle.std.proofs.lemmas.Bool.Decides.{nat_tests}
use Rattle.std.proofs.lemmas.List.Folds.{list_any-append}
use Rattle.std.proofs.lemmas.List.Sums.{fold-append}
use Rattle.std.proofs.Math.Bool.{and-false, or-false, or_comm}
use Rattle.std.specs.List.{list_any}
use Rattle.std.specs.Map.{lookup}
use Rattle.std.specs.Option.{option_map_or, option_or}
use Rattle.std.specs.Prelude.{if◌then◌else◌, nat_eq, is_some}
use Rattle.indexmap.specs.IndexMap.{insert_entry}
use Rattle.base.specs.Touch.{Touch, is_write}
use Rattle.sharing_rules.specs.AccessLists.{writes_to}
use Rattle.sharing_rules.specs.Arrivals.{note_arrival}
use Rattle.sharing_rules.specs.Holders.{count_since, holders, is_held_by_another, is_invalidation}
use Rattle.sharing_rules.specs.Laws.Arrivals.{each_once-distinct}
use Rattle.sharing_rules.specs.Laws.Counts.{count_since-push, holders-push}
use Rattle.sharing_rules.specs.Laws.Held.{any_at, any_of, any_within, holds-touched}
use Rattle.sharing_rules.specs.Laws.Held.{list_any-map_congr, same_bool}
use Rattle.sharing_rules.specs.Laws.Holders.{holders-holds}
use Rattle.sharing_rules.specs.Laws.Lists.{by_push, map_same, slice_cases}
use Rattle.sharing_rules.specs.Laws.Observed.{written_lines-any, written_lines-push}
use Rattle.sharing_rules.specs.Laws.Places.{count_places-none}
use Rattle.sharing_rules.specs.Laws.Places.{count_places-push, first_place-empty}
use Rattle.sharing_rules.specs.Laws.Places.{first_place-within}
use Rattle.sharing_rules.specs.Laws.Recounts.{count_since-end}
use Rattle.sharing_rules.specs.Laws.Starts.{first_write_from-push, observed_start-one}
use Rattle.sharing_rules.specs.Lines.{grid_line, is_inside}
use Rattle.sharing_rules.specs.Observed.{written_lines}
use Rattle.misses.specs.Laws.Entered.{entries, insert-entries, lookup-entries}
use Rattle.sharing_rules.specs.Laws.Sums.{AgreeBut}
use Rattle.finite_cache.specs.Bounded.{bounded, bounded_step, evicts, has, is_any_eviction}
use Rattle.finite_cache.specs.Bounded.{is_bounded_invalidation, is_cached_by_another, is_eviction}
use Rattle.finite_cache.specs.Bounded.{left, line_in, set_of, used, without}
use Rattle.finite_cache.specs.Fits.{AreNoted}
use Rattle.finite_cache.specs.Counts.{one_if}
use Rattle.finite_cache.specs.CacheState.{ArePartsOf, IsStep}
use Rattle.finite_cache.specs.CacheState.{Parts, evicted_now, harts_of}
use Rattle.finite_cache.specs.CacheState.{is_cached_now, is_held_now, lists_of}
use Rattle.finite_cache.specs.CacheState.{tally_after, tally_in, use_of}
use Rattle.finite_cache.specs.Rows.{all_evicted, bounded_count, bounded_since, evicted_count}
use Rattle.finite_cache.specs.Rows.{first_write, start_of, unbounded_count}
use Rattle.base.specs.Shapes.{CacheShape, grid_of}
use Rattle.finite_cache.specs.declared.rows.Tally.{Tally}

pub bounded-push : (k : CacheShape) (t : List Touch) (a : Touch) (h s : ℕ)
    → bounded k (t ++ a ∷ []) h s ≡ bounded_step k (bounded k t) a h s
bounded-push k t a h s = ap (λ (f : ℕ → ℕ → List ℕ). f h s)
    (fold-append (bounded_step k) (λ g u. []) t (a ∷ []))

-- a step asks of no other list
abbrev step_of : CacheShape → Touch → ℕ → ℕ → List ℕ → List ℕ
step_of k a h s ls =
    let r = line_in k a.addr in
    if eqb (set_of k r) s
    then (if eqb h a.hart then used k r ls else if is_write a.kind then without r ls else ls)
    else ls

step-same : (k : CacheShape) (f g : ℕ → ℕ → List ℕ) (a : Touch) (h s : ℕ) → f h s ≡ g h s
    → bounded_step k f a h s ≡ bounded_step k g a h s
step-same k f g a h s e = ap (step_of k a h s) e

pub arrival-any : (g x : ℕ) (hs : List ℕ)
    → list_any (eqb g) (note_arrival hs x) ≡ (eqb g x || list_any (eqb g) hs)
arrival-any g x hs =
    elim (cases_Bool (list_any (eqb x) hs)) [
      | inl u ↦ elim (cases_Bool (eqb g x)) [
        | inl t ↦ rw (u, t) (subst (λ z. list_any (eqb z) hs ≡ true) (sym (eqb-true g x t)) u)
        | inr t ↦ rw (u, t) refl
      ]
      | inr u ↦ rw (u, list_any-append (eqb g) hs (x ∷ []), or-false)
          (or_comm (list_any (eqb g) hs) (eqb g x))
    ]

-- ---- counts after one access more

pub start-push : (k : CacheShape) (t : List Touch) (a : Touch) (r : ℕ)
    → first_write k (t ++ a ∷ []) r ≡ option_or (first_write k t r)
    (if is_write a.kind && eqb (line_in k a.addr) r then Some (length t) else None)
start-push k t a r =
    let inside : ℕ → Bool = is_inside (grid_line (grid_of k) r) in
    observed_start-one inside (t ++ a ∷ [])
    ∙ first_write_from-push 0 inside t a
    ∙ rw (← observed_start-one inside t, le-leb 0 (length t) (omega arith)) refl

-- it lies in the list
start-within : (k : CacheShape) (t : List Touch) (r s : ℕ) → first_write k t r ≡ Some s
    → s < length t
start-within k t r s e = first_place-within _ t s e

or-none : {X : Type 0} (o : Option X) → option_or o None ≡ o
or-none None = refl
or-none (Some x) = refl

pub bounded-since_push : (k : CacheShape) (r s : ℕ) (t : List Touch) (a : Touch)
    → bounded_since k r s (t ++ a ∷ []) ≡ bounded_since k r s t
    + (if ltb s (length t) && is_bounded_invalidation k r t a then 1 else 0)
bounded-since_push k r s t a = count_places-push
    (λ before b. ltb s (length before) && is_bounded_invalidation k r before b) t a

pub bounded-since_end : (k : CacheShape) (r s : ℕ) (t : List Touch) → length t ≤ s
    → bounded_since k r s t ≡ 0
bounded-since_end k r s t short =
    count_places-none (λ before a. ltb s (length before) && is_bounded_invalidation k r before a) t
    (λ before a l.
    let late : ltb s (length before) ≡ false = grind (arith, nat_tests) in rw late refl)

same_tally : (x y : Tally) → x.start ≡ y.start → x.bounded ≡ y.bounded
    → x.unbounded ≡ y.unbounded → x ≡ y
same_tally x y e f g =
    ap (λ n. record { start = n; bounded = x.bounded; unbounded = x.unbounded }) e
    ∙ ap (λ n. record { start = y.start; bounded = n; unbounded = x.unbounded }) f
    ∙ ap (λ n. record { start = y.start; bounded = y.bounded; unbounded = n }) g

add-none : (n : ℕ) (b : Bool) → b ≡ false → n + (if b then 1 else 0) ≡ n
add-none n b e = rw e (omega arith)

abbrev place_or : Option ℕ → ℕ
place_or o = option_map_or (λ s. s) o 0

-- an access that doesn't write line r leaves what is counted of it
pub tally-elsewhere : (k : CacheShape) (t : List Touch) (a : Touch) (r : ℕ)
    → (is_write a.kind && eqb (line_in k a.addr) r) ≡ false
    → tally_in k (t ++ a ∷ []) r ≡ tally_in k t r
tally-elsewhere k t a r other =
    let first : first_write k (t ++ a ∷ []) r ≡ first_write k t r =
    start-push k t a r ∙ rw other (or-none (first_write k t r)) in
    let start : start_of k (t ++ a ∷ []) r ≡ start_of k t r = ap place_or first in
    let quiet : (x : Bool) → (is_write a.kind && eqb (line_in k a.addr) r && x) ≡ false =
    λ x. no-more (is_write a.kind) (eqb (line_in k a.addr) r) x other in
    same_tally _ _ start
    (ap (λ s. bounded_since k r s (t ++ a ∷ [])) start
    ∙ bounded-since_push k r (start_of k t r) t a
    ∙ add-none _ _ (rw (quiet (is_cached_by_another k t a.hart r)) (and-false _)))
    (ap (λ s. count_since (line_in k) r s (t ++ a ∷ [])) start
    ∙ count_since-push (line_in k) r (start_of k t r) t a
    ∙ add-none _ _ (rw (quiet (is_held_by_another (line_in k) t a.hart r)) (and-false _)))
  where
    no-more : (x y z : Bool) → (x && y) ≡ false → (x && y && z) ≡ false
    no-more x y z e = rw e refl

-- a line has a first write exactly where it was written
pub first-written : (k : CacheShape) (r : ℕ) (t : List Touch)
    → is_some (first_write k t r)
    ≡ list_any (writes_to (λ x. eqb (line_in k x) r)) t
first-written k r t =
    by_push (λ (t : List Touch). is_some (first_write k t r)
    ≡ list_any (writes_to (λ x. eqb (line_in k x) r)) t)
    (ap is_some (observed_start-one (λ x. eqb (line_in k x) r) [] ∙ first_place-empty _))
    (λ t a ih.
    rw (
      start-push k t a r,
      list_any-append (writes_to (λ x. eqb (line_in k x) r)) t (a ∷ []),
      or-false,
      ← ih,
    )
    (either (first_write k t r) (is_write a.kind && eqb (line_in k a.addr) r)
    (length t)))
    t
  where
    either : (o : Option ℕ) (b : Bool) (n : ℕ)
        → is_some (option_or o (if b then Some n else None)) ≡ (is_some o || b)
    either None true n = refl
    either None false n = refl
    either (Some x) b n = refl

pub line-written : (k : CacheShape) (r : ℕ) (t : List Touch)
    → is_some (first_write k t r)
    ≡ list_any (eqb r) (written_lines (grid_of k) t)
line-written k r t = first-written k r t ∙ sym (written_lines-any (grid_of k) t r)

module _ (k : CacheShape) (t : List Touch) (a : Touch) (w : is_write a.kind ≡ true) where
  abbrev r : ℕ
  r = line_in k a.addr

  own : (is_write a.kind && eqb (line_in k a.addr) r) ≡ true
  own = rw (w, eq-eqb (line_in k a.addr) (line_in k a.addr) refl) refl

  asks-bounded : is_bounded_invalidation k r t a ≡ is_cached_by_another k t a.hart r
  asks-bounded = rw own refl

  asks-unbounded : is_invalidation (line_in k) r t a
      ≡ is_held_by_another (line_in k) t a.hart r
  asks-unbounded = rw own refl

  -- the first write of a line starts its row
  first-tally : first_write k t r ≡ None
      → tally_in k (t ++ a ∷ []) r ≡ record { start = length t; bounded = 0; unbounded = 0 }
  first-tally none =
      let first : first_write k (t ++ a ∷ []) r ≡ Some (length t) =
      start-push k t a r ∙ rw (none, own) refl in
      let start : start_of k (t ++ a ∷ []) r ≡ length t = ap place_or first in
      let len : length (t ++ a ∷ []) ≡ length t + 1 = length-append t (a ∷ []) in
      let late : ltb (length t) (length t) ≡ false = grind (arith, nat_tests) in
      same_tally _ _ start
      (ap (λ s. bounded_since k r s (t ++ a ∷ [])) start
      ∙ bounded-since_push k r (length t) t a ∙ add-none _ _ (rw late refl)
      ∙ bounded-since_end k r (length t) t (omega arith))
      (ap (λ s. count_since (line_in k) r s (t ++ a ∷ [])) start
      ∙ count_since-end (line_in k) r (length t) (t ++ a ∷ []) (omega (arith, len)))

  -- a later one counts where it finds the line elsewhere
  next-tally : (s : ℕ) → first_write k t r ≡ Some s
      → tally_in k (t ++ a ∷ []) r ≡ record {
        start = start_of k t r;
        bounded = bounded_count k t r + one_if (is_cached_by_another k t a.hart r);
        unbounded = unbounded_count k t r + one_if (is_held_by_another (line_in k) t a.hart r);
      }
  next-tally s some =
      let first : first_write k (t ++ a ∷ []) r ≡ Some s =
      start-push k t a r ∙ rw some refl in
      let start : start_of k (t ++ a ∷ []) r ≡ start_of k t r = ap place_or (first ∙ sym some) in
      let is_start : start_of k t r ≡ s = ap place_or some in
      let within : s < length t = start-within k t r s some in
      let early : ltb (start_of k t r) (length t) ≡ true =
      lt-ltb (start_of k t r) (length t) (omega (arith, is_start, within)) in
      same_tally _ _ start
      (ap (λ x. bounded_since k r x (t ++ a ∷ [])) start
      ∙ bounded-since_push k r (start_of k t r) t a
      ∙ rw (early, asks-bounded) refl)
      (ap (λ x. count_since (line_in k) r x (t ++ a ∷ [])) start
      ∙ count_since-push (line_in k) r (start_of k t r) t a
      ∙ rw (early, asks-unbounded) refl)

  abbrev ks : List ℕ
  ks = written_lines (grid_of k) t

  pub own-tally : (cached held : Bool) → cached ≡ is_cached_by_another k t a.hart r
      → held ≡ is_held_by_another (line_in k) t a.hart r
      → tally_after (lookup (eqb r) (entries (tally_in k t) ks)) (length t) cached held
      ≡ tally_in k (t ++ a ∷ []) r
  own-tally cached held e f =
      rw (lookup-entries (tally_in k t) ks r)
      (elim (cases_Bool (list_any (eqb r) ks)) [
        | inl known ↦
            rw known
            (elim (slice_cases (first_write k t r)) [
              | inl none ↦
                  let no : false ≡ true = sym (ap is_some none) ∙ line-written k r t ∙ known in
                  absurd (false≢true no)
              | inr some ↦ same_tally _ _ refl
                  (ap (λ b. bounded_count k t r + one_if b) e)
                  (ap (λ b. unbounded_count k t r + one_if b) f)
                  ∙ sym (next-tally some.0 some.1)
            ])
        | inr new ↦
            rw new
            (elim (slice_cases (first_write k t r)) [
              | inl none ↦ sym (first-tally none)
              | inr some ↦
                  let no : true ≡ false = sym (ap is_some some.1) ∙ line-written k r t ∙ new in
                  absurd (false≢true (sym no))
            ])
      ])

  agree : AgreeBut r (tally_in k t) (tally_in k (t ++ a ∷ []))
  agree j other =
      let apart : eqb (line_in k a.addr) j ≡ false = other in
      tally-elsewhere k t a j (rw (apart, and-false (is_write a.kind)) refl)

  pub write-rows : (cached held : Bool) → cached ≡ is_cached_by_another k t a.hart r
      → held ≡ is_held_by_another (line_in k) t a.hart r
      → insert_entry nat_eq (entries (tally_in k t) ks) r
      (tally_after (lookup (eqb r) (entries (tally_in k t) ks)) (length t) cached held)
      ≡ entries (tally_in k (t ++ a ∷ [])) (written_lines (grid_of k) (t ++ a ∷ []))
  write-rows cached held e f =
      ap (insert_entry nat_eq (entries (tally_in k t) ks) r) (own-tally cached held e f)
      ∙ insert-entries (tally_in k t) (tally_in k (t ++ a ∷ [])) ks r (each_once-distinct _) agree
      ∙ ap (entries (tally_in k (t ++ a ∷ [])))
      (sym (written_lines-push (grid_of k) t a ∙ rw w refl))

pub read-rows : (k : CacheShape) (t : List Touch) (a : Touch) → is_write a.kind ≡ false
    → entries (tally_in k t) (written_lines (grid_of k) t)
    ≡ entries (tally_in k (t ++ a ∷ [])) (written_lines (grid_of k) (t ++ a ∷ []))
read-rows k t a w =
    map_same (λ r. (r, tally_in k t r)) (λ r. (r, tally_in k (t ++ a ∷ []) r))
    (λ r. ap (λ x. (r, x)) (sym (tally-elsewhere k t a r (rw w refl))))
    (written_lines (grid_of k) t)
    ∙ ap (entries (tally_in k (t ++ a ∷ [])))
    (sym (written_lines-push (grid_of k) t a ∙ rw w refl))

-- ---- what another hart has

-- a test that passes in two lists where it passes at all
both-any : (q : ℕ → Bool) (A B : List ℕ)
    → ((x : ℕ) → q x ≡ true → (list_any (eqb x) A ≡ true) × (list_any (eqb x) B ≡ true))
    → list_any q A ≡ list_any q B
both-any q A B within =
    same_bool _ _
    (λ e. let w = any_of q A e in any_at q B w.0 (within w.0 w.2).1 w.2)
    (λ e. let w = any_of q B e in any_at q A w.0 (within w.0 w.2).0 w.2)

module _ (k : CacheShape) (t : List Touch) (p : Parts) (stands : ArePartsOf k t p) where
  touched : (h r : ℕ) → list_any (eqb h) (harts_of p.lines r) ≡ true
      → list_any (eqb h) (map (λ (b : Touch). b.hart) t) ≡ true
  touched h r e =
      holds-touched (λ x. eqb (line_in k x) r) t h
      (sym (holders-holds (line_in k) r t h) ∙ sym (stands.harts h r) ∙ e)

  pub held-stands : (h r : ℕ) → is_held_now p h r ≡ is_held_by_another (line_in k) t h r
  held-stands h r =
      sym (list_any-map_congr (λ b. not (eqb b.hart h) && holders (line_in k) t b.hart r)
      (λ g. not (eqb g h) && list_any (eqb g) (harts_of p.lines r))
      (λ b. ap (λ x. not (eqb b.hart h) && x) (sym (stands.harts b.hart r))) t
      ∙ any_within (λ g. not (eqb g h)) (harts_of p.lines r) (map (λ b. b.hart) t)
      (λ g e. touched g r e))

  pub cached-stands : AreNoted k (lists_of k p.sets) (harts_of p.lines) → (h r : ℕ)
      → set_of k r < k.sets → is_cached_now k p h r ≡ is_cached_by_another k t h r
  cached-stands noted h r inside =
      let q : ℕ → Bool = λ g. not (eqb g h) && has r (lists_of k p.sets g (set_of k r)) in
      both-any q (harts_of p.lines r) (map (λ (b : Touch). b.hart) t)
      (λ g e.
      let there = (and_parts (not (eqb g h)) (has r (lists_of k p.sets g (set_of k r))) e).1 in
      let came = (noted g (set_of k r) r inside there).1 in (came, touched g r came))
      ∙ sym (list_any-map_congr
      (λ b. not (eqb b.hart h) && has r (bounded k t b.hart (set_of k r))) q
      (λ b. ap (λ ls. not (eqb b.hart h) && has r ls)
      (sym (stands.lists b.hart (set_of k r) inside))) t)

  evicts-stands : (a : Touch) → set_of k (line_in k a.addr) < k.sets
      → evicted_now k p a ≡ evicts k t a
  evicts-stands a inside =
      ap (left k (line_in k a.addr)) (stands.lists a.hart (set_of k (line_in k a.addr)) inside)

  module _ (a : Touch) (new : Parts) (some : 0 < k.sets)
      (noted : AreNoted k (lists_of k p.sets) (harts_of p.lines))
      (step : IsStep k (length t) a p new)
    where
      inside : set_of k (line_in k a.addr) < k.sets
      inside = omega (arith, some)

      next-lists : (h s : ℕ) → s < k.sets
          → lists_of k new.sets h s ≡ bounded k (t ++ a ∷ []) h s
      next-lists h s s_in =
          step.lists h s s_in
          ∙ step-same k (lists_of k p.sets) (bounded k t) a h s (stands.lists h s s_in)
          ∙ sym (bounded-push k t a h s)

      next-harts : (h r : ℕ) → list_any (eqb h) (harts_of new.lines r)
          ≡ holders (line_in k) (t ++ a ∷ []) h r
      next-harts h r =
          ap (list_any (eqb h)) (step.harts r)
          ∙ elim (cases_Bool (eqb (line_in k a.addr) r)) [
            | inl here ↦ elim (cases_Bool (is_write a.kind)) [
              | inl w ↦ rw (here, w, or-false)
                  (sym (holders-push (line_in k) t a h r ∙ rw (here, w, or-false) refl))
              | inr w ↦ rw (here, w)
                  (arrival-any h a.hart (harts_of p.lines r)
                  ∙ ap (λ b. eqb h a.hart || b) (stands.harts h r)
                  ∙ sym (holders-push (line_in k) t a h r ∙ rw (here, w) refl))
            ]
            | inr there ↦ rw there
                (stands.harts h r ∙ sym (holders-push (line_in k) t a h r ∙ rw there refl))
          ]

      next-evicted : (r : ℕ) → (use_of new.lines r).evicted ≡ evicted_count k (t ++ a ∷ []) r
      next-evicted r =
          step.evicted r
          ∙ ap (λ n. n + one_if (option_map_or (eqb r) (evicted_now k p a) false))
          (stands.evicted r)
          ∙ ap (λ o. evicted_count k t r + one_if (option_map_or (eqb r) o false))
          (evicts-stands a inside)
          ∙ sym (count_places-push (is_eviction k r) t a)

      next-rows : new.rows
          ≡ entries (tally_in k (t ++ a ∷ [])) (written_lines (grid_of k) (t ++ a ∷ []))
      next-rows =
          step.rows
          ∙ elim (cases_Bool (is_write a.kind)) [
            | inl w ↦
                let r = line_in k a.addr in
                rw w
                (ap (λ es. insert_entry nat_eq es r
                (tally_after (lookup (eqb r) es) (length t) (is_cached_now k p a.hart r)
                (is_held_now p a.hart r))) stands.rows
                ∙ write-rows k t a w (is_cached_now k p a.hart r) (is_held_now p a.hart r)
                (cached-stands noted a.hart r inside) (held-stands a.hart r))
            | inr w ↦ rw w (stands.rows ∙ read-rows k t a w)
          ]

      pub next-parts : ArePartsOf k (t ++ a ∷ []) new
      next-parts = record {
        lists = next-lists;
        harts = next-harts;
        evicted = next-evicted;
        rows = next-rows;
      }

      pub any-evicted : (n : ℕ) → n ≡ all_evicted k t
          → n + one_if (is_some (evicted_now k p a)) ≡ all_evicted k (t ++ a ∷ [])
      any-evicted n e =
          ap (λ m. m + one_if (is_some (evicted_now k p a))) e
          ∙ ap (λ o. all_evicted k t + one_if (is_some o)) (evicts-stands a inside)
          ∙ sym (count_places-push (is_any_eviction k) t a)
