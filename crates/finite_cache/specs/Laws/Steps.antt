-- What an access makes of the tables, part by part, is one step.
use Rattle.std.proofs.Common.{◌≡◌, ℕ, ◌+◌, ◌<◌, Bool, true, false, eqb, not, ◌&&◌}
use Rattle.std.proofs.Common.{List, [], ◌∷◌, refl, sym, ap, ◌∙◌, subst, arith, inl, inr}
use Rattle.std.proofs.lemmas.Bool.{and_from, and_parts, cases_Bool, eq-eqb, eqb-true, false≢true}
use Rattle.std.proofs.lemmas.Bool.{or_parts}
use Rattle.std.proofs.lemmas.Bool.Decides.{nat_tests}
use Rattle.std.proofs.lemmas.List.Folds.{list_any-append}
use Rattle.std.proofs.Math.Bool.{or-false, or-true}
use Rattle.std.specs.List.{list_any}
use Rattle.std.specs.Map.{lookup}
use Rattle.std.specs.Option.{option_map_or}
use Rattle.std.specs.Prelude.{if◌then◌else◌, nat_eq, is_some, OnOk, Result, Ok, Err}
use Rattle.indexmap.specs.IndexMap.{insert_entry}
use Rattle.base.specs.Touch.{Touch, is_write}
use Rattle.sharing_rules.specs.Arrivals.{note_arrival}
use Rattle.sharing_rules.specs.Laws.Held.{any_at, any_of, same_bool}
use Rattle.misses.specs.Laws.KeptLines.{note_arrival-any}
use Rattle.finite_cache.specs.Bounded.{bounded_step, has, left, line_in, set_of, used, without}
use Rattle.finite_cache.specs.Fits.{AreNoted}
use Rattle.finite_cache.specs.Counts.{one_if}
use Rattle.finite_cache.specs.CacheState.{IsStep, LineUse, Parts, WaySet, cell_of}
use Rattle.finite_cache.specs.CacheState.{evicted_now, harts_after, harts_of, is_cached_now}
use Rattle.finite_cache.specs.CacheState.{is_held_now}
use Rattle.finite_cache.specs.CacheState.{lines_at, lists_of, tally_after, use_of, wants_memory}
use Rattle.finite_cache.specs.Laws.Cells.{cell-same}
use Rattle.finite_cache.specs.Laws.Ways.{without-none}
use Rattle.base.specs.Shapes.{CacheShape}
use Rattle.finite_cache.specs.Sweeps.{had_by_another, is_cell_of_another}
use Rattle.finite_cache.specs.declared.rows.Tally.{Tally}

pub flip : (q r : ℕ) → eqb q r ≡ eqb r q
flip q r = grind (arith, nat_tests)

list_any-congr : (p q : ℕ → Bool) → ((x : ℕ) → p x ≡ q x) → (xs : List ℕ)
    → list_any p xs ≡ list_any q xs
list_any-congr p q same [] = refl
list_any-congr p q same (x ∷ xs) = rw (same x, list_any-congr p q same xs) refl

-- an arrival that doesn't pass changes no answer
any-arrival : (p : ℕ → Bool) (hs : List ℕ) (h : ℕ) → p h ≡ false
    → list_any p (note_arrival hs h) ≡ list_any p hs
any-arrival p hs h none =
    elim (cases_Bool (list_any (eqb h) hs)) [
      | inl there ↦ rw there refl
      | inr new ↦ rw (new, list_any-append p hs (h ∷ []), none, or-false) refl
    ]

-- cells of the harts of a list but one
pub another-cell : (k : CacheShape) (hs : List ℕ) (h r g s : ℕ) → s < k.sets → 0 < k.sets
    → is_cell_of_another k hs h r (cell_of k g s)
    ≡ (eqb s (set_of k r) && (not (eqb g h) && list_any (eqb g) hs))
another-cell k hs h r g s s_in some =
    let inside : set_of k r < k.sets = omega (arith, some) in
    let cells = λ (x : ℕ). cell-same k g s x (set_of k r) s_in inside in
    list_any-congr _ (λ x. not (eqb x h) && (eqb g x && eqb s (set_of k r)))
    (λ x. ap (λ b. not (eqb x h) && b) (cells x)) hs
    ∙ same_bool _ _
    (λ e.
    let w = any_of (λ x. not (eqb x h) && (eqb g x && eqb s (set_of k r))) hs e in
    let parts = and_parts (not (eqb w.0 h)) (eqb g w.0 && eqb s (set_of k r)) w.2 in
    let inner = and_parts (eqb g w.0) (eqb s (set_of k r)) parts.1 in
    let same = eqb-true g w.0 inner.0 in
    and_from _ _ inner.1 (and_from _ _
    (subst (λ x. not (eqb x h) ≡ true) (sym same) parts.0)
    (subst (λ x. list_any (eqb x) hs ≡ true) (sym same) w.1)))
    (λ e.
    let parts = and_parts (eqb s (set_of k r)) (not (eqb g h) && list_any (eqb g) hs) e in
    let inner = and_parts (not (eqb g h)) (list_any (eqb g) hs) parts.1 in
    any_at (λ x. not (eqb x h) && (eqb g x && eqb s (set_of k r))) hs g inner.1
    (and_from _ _ inner.0 (and_from _ _ (eq-eqb g g refl) parts.0)))

-- what the tables show once a hart came to a line
pub record Came (k : CacheShape) (p : Parts) (r h : ℕ) (sets : List (ℕ × WaySet))
    (lines : List (ℕ × LineUse)) : Type 0 where
  pub used_there : (c : ℕ) → lines_at sets c ≡ if eqb c (cell_of k h (set_of k r))
      then used k r (lists_of k p.sets h (set_of k r)) else lines_at p.sets c
  pub harts : (q : ℕ) → harts_of lines q ≡ if eqb q r
      then note_arrival (harts_of p.lines r) h else harts_of p.lines q
  pub evicted : (q : ℕ) → (use_of lines q).evicted ≡ (use_of p.lines q).evicted
      + one_if (option_map_or (eqb q) (left k r (lists_of k p.sets h (set_of k r))) false)

-- and once it took the line from all others
pub record Taken (k : CacheShape) (r h : ℕ) (sets : List (ℕ × WaySet))
    (lines : List (ℕ × LineUse)) (swept : List (ℕ × WaySet)) (settled : List (ℕ × LineUse))
    (cached held : Bool) : Type 0 where
  pub was_cached : cached ≡ had_by_another k (harts_of lines r) h r (lines_at sets)
  pub was_held : held ≡ list_any (λ g. not (eqb g h)) (harts_of lines r)
  pub out : (c : ℕ) → lines_at swept c ≡ if is_cell_of_another k (harts_of lines r) h r c
      then without r (lines_at sets c) else lines_at sets c
  pub alone : (q : ℕ) → use_of settled q ≡ if eqb q r
      then record (use_of lines r) { harts = h ∷ [] } else use_of lines q

module _ (k : CacheShape) (p : Parts) (a : Touch) (some : 0 < k.sets)
    (sets : List (ℕ × WaySet)) (lines : List (ℕ × LineUse))
    (came : (c : ℕ) → lines_at sets c
    ≡ if eqb c (cell_of k a.hart (set_of k (line_in k a.addr)))
    then used k (line_in k a.addr)
    (lists_of k p.sets a.hart (set_of k (line_in k a.addr))) else lines_at p.sets c)
    (harts : (q : ℕ) → harts_of lines q ≡ if eqb q (line_in k a.addr)
    then note_arrival (harts_of p.lines (line_in k a.addr)) a.hart else harts_of p.lines q)
    (evicted : (q : ℕ) → (use_of lines q).evicted
    ≡ (use_of p.lines q).evicted + one_if (option_map_or (eqb q) (evicted_now k p a) false))
  where
    abbrev r : ℕ
    r = line_in k a.addr

    abbrev s0 : ℕ
    s0 = set_of k (line_in k a.addr)

    inside : s0 < k.sets
    inside = omega (arith, some)

    list-now : (g s : ℕ) → s < k.sets → lines_at sets (cell_of k g s)
        ≡ if eqb g a.hart && eqb s s0 then used k r (lists_of k p.sets a.hart s0)
        else lists_of k p.sets g s
    list-now g s s_in =
        came (cell_of k g s)
        ∙ ap (λ b. if b then used k r (lists_of k p.sets a.hart s0) else lists_of k p.sets g s)
        (cell-same k g s a.hart s0 s_in inside)

    own-list : (g s : ℕ) → eqb g a.hart ≡ true → eqb s s0 ≡ true
        → used k r (lists_of k p.sets a.hart s0) ≡ used k r (lists_of k p.sets g s)
    own-list g s f e =
        ap (λ x. used k r (lists_of k p.sets x s0)) (sym (eqb-true g a.hart f))
        ∙ ap (λ x. used k r (lists_of k p.sets g x)) (sym (eqb-true s s0 e))

    read-lists : is_write a.kind ≡ false → (g s : ℕ) → s < k.sets
        → lines_at sets (cell_of k g s) ≡ bounded_step k (lists_of k p.sets) a g s
    read-lists w g s s_in =
        list-now g s s_in
        ∙ elim (cases_Bool (eqb g a.hart)) [
          | inl f ↦ elim (cases_Bool (eqb s s0)) [
            | inl e ↦ rw (f, e, flip s0 s, e) (own-list g s f e)
            | inr e ↦ rw (f, e, flip s0 s, e) refl
          ]
          | inr f ↦ elim (cases_Bool (eqb s s0)) [
            | inl e ↦ rw (f, flip s0 s, e, w) refl
            | inr e ↦ rw (f, flip s0 s, e) refl
          ]
        ]

    read-harts : is_write a.kind ≡ false → (q : ℕ)
        → harts_of lines q ≡ harts_after k a q (harts_of p.lines q)
    read-harts w q =
        harts q
        ∙ elim (cases_Bool (eqb q r)) [
          | inl e ↦ rw (e, flip r q, e, w)
              (ap (λ x. note_arrival (harts_of p.lines x) a.hart) (sym (eqb-true q r e)))
          | inr e ↦ rw (e, flip r q, e) refl
        ]

    -- a read is one step
    pub read-step : (position : ℕ) → is_write a.kind ≡ false
        → IsStep k position a p (record { sets = sets; lines = lines; rows = p.rows })
    read-step position w = record {
      lists = read-lists w;
      harts = read-harts w;
      evicted = evicted;
      rows = rw w refl;
    }

    abbrev now : List ℕ
    now = harts_of lines r

    now-arrived : now ≡ note_arrival (harts_of p.lines r) a.hart
    now-arrived =
        harts r ∙ rw (eq-eqb r r refl) refl

    pub now-there : list_any (eqb a.hart) now ≡ true
    now-there =
        rw now-arrived (arrived (harts_of p.lines r) a.hart)
      where
        arrived : (hs : List ℕ) (h : ℕ) → list_any (eqb h) (note_arrival hs h) ≡ true
        arrived hs h =
            elim (cases_Bool (list_any (eqb h) hs)) [
              | inl there ↦ rw there there
              | inr new ↦ rw (new, list_any-append (eqb h) hs (h ∷ []), eq-eqb h h refl, or-true)
                  refl
            ]

    held-same : list_any (λ g. not (eqb g a.hart)) now ≡ is_held_now p a.hart r
    held-same =
        ap (list_any (λ g. not (eqb g a.hart))) now-arrived
        ∙ any-arrival (λ g. not (eqb g a.hart)) (harts_of p.lines r) a.hart
        (rw (eq-eqb a.hart a.hart refl) refl)

    cached-at : (g : ℕ) → (not (eqb g a.hart) && has r (lines_at sets (cell_of k g s0)))
        ≡ (not (eqb g a.hart) && has r (lists_of k p.sets g s0))
    cached-at g =
        elim (cases_Bool (eqb g a.hart)) [
          | inl f ↦ rw f refl
          | inr f ↦
              let list : lines_at sets (cell_of k g s0) ≡ lists_of k p.sets g s0 =
              list-now g s0 inside ∙ rw f refl in
              ap (λ ls. not (eqb g a.hart) && has r ls) list
        ]

    cached-same : had_by_another k now a.hart r (lines_at sets) ≡ is_cached_now k p a.hart r
    cached-same =
        list_any-congr (λ g. not (eqb g a.hart) && has r (lines_at sets (cell_of k g s0)))
        (λ g. not (eqb g a.hart) && has r (lists_of k p.sets g s0)) cached-at now
        ∙ ap (list_any (λ g. not (eqb g a.hart) && has r (lists_of k p.sets g s0))) now-arrived
        ∙ any-arrival (λ g. not (eqb g a.hart) && has r (lists_of k p.sets g s0))
        (harts_of p.lines r) a.hart (rw (eq-eqb a.hart a.hart refl) refl)

    module _ (noted : AreNoted k (lists_of k p.sets) (harts_of p.lines))
        (w : is_write a.kind ≡ true) (swept : List (ℕ × WaySet)) (settled : List (ℕ × LineUse))
        (out : (c : ℕ) → lines_at swept c ≡ if is_cell_of_another k now a.hart r c
        then without r (lines_at sets c) else lines_at sets c)
        (alone : (q : ℕ) → use_of settled q ≡ if eqb q r
        then record (use_of lines r) { harts = a.hart ∷ [] } else use_of lines q)
      where
        -- a hart that didn't come has no list with the line
        not-there : (g s : ℕ) → s < k.sets → list_any (eqb g) now ≡ false
            → has r (lists_of k p.sets g s) ≡ false
        not-there g s s_in none =
            elim (cases_Bool (has r (lists_of k p.sets g s))) [
              | inr gone ↦ gone
              | inl there ↦
                  let before = (note_arrival-any g a.hart (harts_of p.lines r)
                  (subst (λ hs. list_any (eqb g) hs ≡ false) now-arrived none)).1 in
                  absurd (false≢true (sym before ∙ (noted g s r s_in there).1))
            ]

        other-list : (g s : ℕ) → s < k.sets
            → (if list_any (eqb g) now then without r (lists_of k p.sets g s)
            else lists_of k p.sets g s) ≡ without r (lists_of k p.sets g s)
        other-list g s s_in =
            elim (cases_Bool (list_any (eqb g) now)) [
              | inl there ↦ rw there refl
              | inr gone ↦ rw gone
                  (sym (without-none r (lists_of k p.sets g s) (not-there g s s_in gone)))
            ]

        write-lists : (g s : ℕ) → s < k.sets
            → lines_at swept (cell_of k g s) ≡ bounded_step k (lists_of k p.sets) a g s
        write-lists g s s_in =
            out (cell_of k g s)
            ∙ ap (λ b. if b then without r (lines_at sets (cell_of k g s))
            else lines_at sets (cell_of k g s)) (another-cell k now a.hart r g s s_in some)
            ∙ ap (λ ls. if eqb s s0 && (not (eqb g a.hart) && list_any (eqb g) now)
            then without r ls else ls) (list-now g s s_in)
            ∙ elim (cases_Bool (eqb s s0)) [
              | inl e ↦ elim (cases_Bool (eqb g a.hart)) [
                | inl f ↦ rw (e, f, flip s0 s, e) (own-list g s f e)
                | inr f ↦ rw (e, f, flip s0 s, e, w) (other-list g s s_in)
              ]
              | inr e ↦ elim (cases_Bool (eqb g a.hart)) [
                | inl f ↦ rw (e, f, flip s0 s, e) refl
                | inr f ↦ rw (e, f, flip s0 s, e) refl
              ]
            ]

        write-harts : (q : ℕ) → harts_of settled q ≡ harts_after k a q (harts_of p.lines q)
        write-harts q =
            ap (λ (l : LineUse). l.harts) (alone q)
            ∙ elim (cases_Bool (eqb q r)) [
              | inl e ↦ rw (e, flip r q, e, w) refl
              | inr e ↦ rw (e, flip r q, e) (harts q ∙ rw e refl)
            ]

        write-evicted : (q : ℕ) → (use_of settled q).evicted
            ≡ (use_of p.lines q).evicted
            + one_if (option_map_or (eqb q) (evicted_now k p a) false)
        write-evicted q =
            ap (λ (l : LineUse). l.evicted) (alone q)
            ∙ elim (cases_Bool (eqb q r)) [
              | inl e ↦ rw e (ap (λ x. (use_of lines x).evicted) (sym (eqb-true q r e)) ∙ evicted q)
              | inr e ↦ rw e (evicted q)
            ]

        -- and so is a write
        pub write-step : (position : ℕ) (cached held : Bool) (rows new : List (ℕ × Tally))
            → cached ≡ had_by_another k now a.hart r (lines_at sets)
            → held ≡ list_any (λ g. not (eqb g a.hart)) now → rows ≡ p.rows
            → new ≡ insert_entry nat_eq rows r
            (tally_after (lookup (eqb r) rows) position cached held)
            → IsStep k position a p (record { sets = swept; lines = settled; rows = new })
        write-step position cached held rows new e f same counted = record {
          lists = write-lists;
          harts = write-harts;
          evicted = write-evicted;
          rows = counted
              ∙ ap (λ xs. insert_entry nat_eq xs r
              (tally_after (lookup (eqb r) xs) position cached held)) same
              ∙ ap (λ b. insert_entry nat_eq p.rows r
              (tally_after (lookup (eqb r) p.rows) position b held)) (e ∙ cached-same)
              ∙ ap (λ b. insert_entry nat_eq p.rows r
              (tally_after (lookup (eqb r) p.rows) position (is_cached_now k p a.hart r) b))
              (f ∙ held-same)
              ∙ sym (rw w refl);
        }

-- ---- the same of a line and a hart that are the access's

module _ (k : CacheShape) (p : Parts) (a : Touch) (some : 0 < k.sets) (line hart : ℕ)
    (at : line ≡ line_in k a.addr) (by : hart ≡ a.hart)
    (sets : List (ℕ × WaySet)) (lines : List (ℕ × LineUse))
    (came : Came k p line hart sets lines)
  where
    own : Came k p (line_in k a.addr) a.hart sets lines
    own = subst (λ x. Came k p x a.hart sets lines) at
        (subst (λ h. Came k p line h sets lines) by came)

    pub read-at : (position : ℕ) → is_write a.kind ≡ false
        → IsStep k position a p (record { sets = sets; lines = lines; rows = p.rows })
    read-at position w =
        read-step k p a some sets lines own.used_there own.harts own.evicted position w

    pub there-at : list_any (eqb hart) (harts_of lines line) ≡ true
    there-at =
        subst (λ x. list_any (eqb hart) (harts_of lines x) ≡ true) (sym at)
        (subst (λ h. list_any (eqb h) (harts_of lines (line_in k a.addr)) ≡ true) (sym by)
        (now-there k p a some sets lines own.used_there own.harts own.evicted))

    pub write-at : AreNoted k (lists_of k p.sets) (harts_of p.lines) → is_write a.kind ≡ true
        → (swept : List (ℕ × WaySet)) (settled : List (ℕ × LineUse)) (cached held : Bool)
        → Taken k line hart sets lines swept settled cached held
        → (position : ℕ) (rows new : List (ℕ × Tally)) → rows ≡ p.rows
        → new ≡ insert_entry nat_eq rows line
        (tally_after (lookup (eqb line) rows) position cached held)
        → IsStep k position a p (record { sets = swept; lines = settled; rows = new })
    write-at noted w swept settled cached held taken position rows new same counted =
        let there : Taken k (line_in k a.addr) a.hart sets lines swept settled cached held =
        subst (λ x. Taken k x a.hart sets lines swept settled cached held) at
        (subst (λ h. Taken k line h sets lines swept settled cached held) by taken) in
        write-step k p a some sets lines own.used_there own.harts own.evicted noted w swept settled
        there.out there.alone position cached held rows new there.was_cached there.was_held same
        (subst (λ x. new ≡ insert_entry nat_eq rows x
        (tally_after (lookup (eqb x) rows) position cached held)) at counted)

-- an access that wants no memory finds its line
pub quiet-has : (k : CacheShape) (p : Parts) (a : Touch) (line hart : ℕ)
    → line ≡ line_in k a.addr → hart ≡ a.hart → wants_memory k p a ≡ false
    → has line (lists_of k p.sets hart (set_of k line)) ≡ true
quiet-has k p a line hart at by quiet =
    let r = line_in k a.addr in
    let parts = or_parts (not (has r (lists_of k p.sets a.hart (set_of k r))))
    (is_write a.kind && not (is_some (lookup (eqb r) p.rows))) quiet in
    subst (λ x. has x (lists_of k p.sets hart (set_of k x)) ≡ true) (sym at)
    (subst (λ h. has r (lists_of k p.sets h (set_of k r)) ≡ true) (sym by)
    (not-not (has r (lists_of k p.sets a.hart (set_of k r))) parts.0))
  where
    not-not : (b : Bool) → not b ≡ false → b ≡ true
    not-not true e = refl
    not-not false e = sym e

-- what came of a result
pub read-on : {T E : Type 0} (result : Result T E) (k : CacheShape) (p : Parts) (a : Touch)
    (line hart : ℕ) (sets : List (ℕ × WaySet)) (lines : List (ℕ × LineUse)) (position : ℕ)
    → 0 < k.sets → line ≡ line_in k a.addr → hart ≡ a.hart → is_write a.kind ≡ false
    → OnOk result ((c : ℕ) → lines_at sets c ≡ if eqb c (cell_of k hart (set_of k line))
    then used k line (lists_of k p.sets hart (set_of k line)) else lines_at p.sets c)
    → OnOk result ((q : ℕ) → harts_of lines q ≡ if eqb q line
    then note_arrival (harts_of p.lines line) hart else harts_of p.lines q)
    → OnOk result ((q : ℕ) → (use_of lines q).evicted ≡ (use_of p.lines q).evicted
    + one_if (option_map_or (eqb q) (left k line (lists_of k p.sets hart (set_of k line))) false))
    → OnOk result (IsStep k position a p (record { sets = sets; lines = lines; rows = p.rows }))
read-on (Err e) k p a line hart sets lines position some at by w x y z = tt
read-on (Ok v) k p a line hart sets lines position some at by w x y z =
    read-at k p a some line hart at by sets lines
    (record { used_there = x; harts = y; evicted = z }) position w
