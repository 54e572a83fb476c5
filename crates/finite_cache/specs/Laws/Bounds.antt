-- Bounded caches have no line that unbounded ones lack, and lack none of those that they never
-- evicted.
use Rattle.std.proofs.Common.{◌≡◌, ℕ, zero, suc, ◌+◌, ◌<◌, ◌≤◌, Bool, true, false, eqb, ltb, not, ◌&&◌}
use Rattle.std.proofs.Common.{◌||◌, List, [], ◌∷◌, ◌++◌, length, take, refl, sym, ap, ◌∙◌, subst, arith}
use Rattle.std.proofs.Common.{inl, inr, Some, length-take}
use Rattle.std.proofs.lemmas.Bool.{and_from, and_parts, cases_Bool, eq-eqb, eqb-true, false≢true}
use Rattle.std.proofs.lemmas.Bool.{or_cases, or_left, or_parts, or_right}
use Rattle.std.specs.List.{list_any}
use Rattle.std.specs.Option.{option_map_or}
use Rattle.std.specs.Prelude.{if◌then◌else◌, slice_get}
use Rattle.base.specs.Touch.{Touch, is_write}
use Rattle.sharing_rules.specs.Holders.{count_since, holders, is_invalidation}
use Rattle.sharing_rules.specs.Laws.Counts.{count_since-push, holders-push}
use Rattle.sharing_rules.specs.Laws.Held.{same_bool}
use Rattle.sharing_rules.specs.Laws.Lists.{by_push}
use Rattle.sharing_rules.specs.Laws.Places.{count_places-empty, count_places-push}
use Rattle.misses.specs.Laws.Sums.{count_places-le}
use Rattle.finite_cache.specs.Bounded.{bounded, evicts, has, in_front, is_bounded_invalidation}
use Rattle.finite_cache.specs.Bounded.{is_cached_by_another, is_eviction, left, line_in, set_of}
use Rattle.finite_cache.specs.Bounded.{used, without}
use Rattle.finite_cache.specs.Laws.Cells.{has-kept, has-others}
use Rattle.finite_cache.specs.Laws.Fits.{has-take}
use Rattle.finite_cache.specs.Laws.Standing.{bounded-push, bounded-since_push}
use Rattle.finite_cache.specs.Laws.Steps.{flip}
use Rattle.finite_cache.specs.Laws.Ways.{length-without}
use Rattle.finite_cache.specs.Rows.{bounded_count, bounded_since, evicted_count, start_of}
use Rattle.finite_cache.specs.Rows.{unbounded_count}
use Rattle.base.specs.Shapes.{CacheShape}

-- ---- no line that unbounded caches lack

module _ (k : CacheShape) (t : List Touch) (a : Touch)
    (ih : (h s q : ℕ) → has q (bounded k t h s) ≡ true
    → (set_of k q ≡ s) × (holders (line_in k) t h q ≡ true))
  where
    abbrev r : ℕ
    r = line_in k a.addr

    -- of another line the holders stay
    still : (h q : ℕ) → eqb q r ≡ false → holders (line_in k) t h q ≡ true
        → holders (line_in k) (t ++ a ∷ []) h q ≡ true
    still h q other e = holders-push (line_in k) t a h q ∙ rw (flip r q, other) e

    in-step : (h s q : ℕ) → has q (bounded k (t ++ a ∷ []) h s) ≡ true
        → (set_of k q ≡ s) × (holders (line_in k) (t ++ a ∷ []) h q ≡ true)
    in-step h s q there =
        let now = subst (λ ls. has q ls ≡ true) (bounded-push k t a h s) there in
        elim (cases_Bool (eqb (set_of k r) s)) [
          | inl here ↦ elim (cases_Bool (eqb h a.hart)) [
            | inl own ↦
                let front : (eqb q r || has q (without r (bounded k t h s))) ≡ true =
                has-take k.ways q (in_front r (bounded k t h s)) (rw (here, own) at now) in
                elim (or_cases (eqb q r) (has q (without r (bounded k t h s))) front) [
                  | inl same ↦ (
                    ap (set_of k) (eqb-true q r same) ∙ eqb-true (set_of k r) s here,
                    holders-push (line_in k) t a h q ∙ rw (flip r q, same, own) refl,
                  )
                  | inr behind ↦
                      let w = has-kept r q (bounded k t h s) behind in
                      let old = ih h s q w.0 in (old.0, still h q w.1 old.1)
                ]
            | inr other ↦ elim (cases_Bool (is_write a.kind)) [
              | inl writes ↦
                  let rest : has q (without r (bounded k t h s)) ≡ true =
                  rw (here, other, writes) at now in
                  let w = has-kept r q (bounded k t h s) rest in
                  let old = ih h s q w.0 in (old.0, still h q w.1 old.1)
              | inr reads ↦
                  let same : has q (bounded k t h s) ≡ true = rw (here, other, reads) at now in
                  let old = ih h s q same in
                  elim (cases_Bool (eqb q r)) [
                    | inl e ↦ (
                      old.0,
                      holders-push (line_in k) t a h q
                          ∙ rw (flip r q, e, other, reads) old.1,
                    )
                    | inr e ↦ (old.0, still h q e old.1)
                  ]
            ]
          ]
          | inr elsewhere ↦
              let same : has q (bounded k t h s) ≡ true = rw elsewhere at now in
              let old = ih h s q same in
              elim (cases_Bool (eqb q r)) [
                | inl e ↦
                    let set : eqb (set_of k r) s ≡ true =
                    eq-eqb (set_of k r) s (ap (set_of k) (sym (eqb-true q r e)) ∙ old.0) in
                    absurd (false≢true (sym elsewhere ∙ set))
                | inr e ↦ (old.0, still h q e old.1)
              ]
        ]

pub bounded-held : (k : CacheShape) (t : List Touch) (h s q : ℕ) → has q (bounded k t h s) ≡ true
    → (set_of k q ≡ s) × (holders (line_in k) t h q ≡ true)
bounded-held k t =
    by_push (λ (t : List Touch). (h s q : ℕ) → has q (bounded k t h s) ≡ true
    → (set_of k q ≡ s) × (holders (line_in k) t h q ≡ true))
    (λ h s q there. absurd (false≢true there)) (in-step k) t

any-weaker : (p q : Touch → Bool) → ((b : Touch) → p b ≡ true → q b ≡ true) → (t : List Touch)
    → list_any p t ≡ true → list_any q t ≡ true
any-weaker p q weaker [] e = absurd (false≢true e)
any-weaker p q weaker (b ∷ t) e =
    elim (or_cases (p b) (list_any p t) e) [
      | inl here ↦ or_left (q b) (list_any q t) (weaker b here)
      | inr later ↦ or_right (q b) (list_any q t) (any-weaker p q weaker t later)
    ]

pub invalidates-too : (k : CacheShape) (r : ℕ) (before : List Touch) (a : Touch)
    → is_bounded_invalidation k r before a ≡ true
    → is_invalidation (line_in k) r before a ≡ true
invalidates-too k r before a e =
    let parts = and_parts (is_write a.kind && eqb (line_in k a.addr) r)
    (is_cached_by_another k before a.hart r) e in
    and_from _ _ parts.0
    (any-weaker (λ b. not (eqb b.hart a.hart) && has r (bounded k before b.hart (set_of k r)))
    (λ b. not (eqb b.hart a.hart) && holders (line_in k) before b.hart r)
    (λ b there.
    let w = and_parts (not (eqb b.hart a.hart)) (has r (bounded k before b.hart (set_of k r)))
    there in
    and_from _ _ w.0 (bounded-held k before b.hart (set_of k r) r w.1).1) before parts.1)

-- bounded is never above unbounded
pub bounded-below : (k : CacheShape) (t : List Touch) (r : ℕ)
    → bounded_count k t r ≤ unbounded_count k t r
bounded-below k t r =
    let s = start_of k t r in
    count_places-le (λ before a. ltb s (length before) && is_bounded_invalidation k r before a)
    (λ before a. ltb s (length before) && is_invalidation (line_in k) r before a) t
    (λ before a e.
    let parts = and_parts (ltb s (length before)) (is_bounded_invalidation k r before a) e in
    and_from _ _ parts.0 (invalidates-too k r before a parts.1))

-- ---- and none that they never evicted

-- a list has no more lines than there are ways
length-used : (k : CacheShape) (r : ℕ) (ls : List ℕ) → length (used k r ls) ≤ k.ways
length-used k r ls = omega (arith, length-take k.ways (in_front r ls))

pub length-bounded : (k : CacheShape) (t : List Touch) (h s : ℕ)
    → length (bounded k t h s) ≤ k.ways
length-bounded k t =
    by_push (λ (t : List Touch). (h s : ℕ) → length (bounded k t h s) ≤ k.ways)
    (λ h s. omega arith)
    (λ t a ih h s.
    let r = line_in k a.addr in
    subst (λ ls. length ls ≤ k.ways) (sym (bounded-push k t a h s))
    (elim (cases_Bool (eqb (set_of k r) s)) [
      | inl here ↦ elim (cases_Bool (eqb h a.hart)) [
        | inl own ↦ rw (here, own) (length-used k r (bounded k t h s))
        | inr other ↦ elim (cases_Bool (is_write a.kind)) [
          | inl w ↦
              let less = length-without r (bounded k t h s) in
              let old = ih h s in
              rw (here, other, w) (omega (arith, less, old))
          | inr w ↦ rw (here, other, w) (ih h s)
        ]
      ]
      | inr there ↦ rw there (ih h s)
    ]))
    t

-- what isn't among the first n of n + 1 is the last one
take-or-last : (n q : ℕ) (ls : List ℕ) → length ls ≤ suc n → has q ls ≡ true
    → has q (take n ls) ≡ false → slice_get ls n ≡ Some q
take-or-last n q [] short there none = absurd (false≢true there)
take-or-last zero q (x ∷ []) short there none =
    elim (or_cases (eqb q x) false there) [
      | inl here ↦ ap Some (sym (eqb-true q x here))
      | inr later ↦ absurd (false≢true later)
    ]
take-or-last zero q (x ∷ y ∷ ls) short there none = absurd (omega (arith, short))
take-or-last (suc n) q (x ∷ ls) short there none =
    let parts = or_parts (eqb q x) (has q (take n ls)) none in
    let later : has q ls ≡ true = rw parts.0 at there in
    take-or-last n q ls (omega (arith, short)) later parts.1

module _ (k : CacheShape) (r : ℕ) (ways : 0 < k.ways) where
  abbrev own_set : ℕ
  own_set = set_of k r

  has-front : (n : ℕ) (ls : List ℕ) → 0 < n → has r (take n (in_front r ls)) ≡ true
  has-front zero ls some = absurd (omega (arith, some))
  has-front (suc n) ls some = or_left (eqb r r) (has r (take n (without r ls))) (eq-eqb r r refl)

  keeps-step : (t : List Touch) (a : Touch) → is_eviction k r t a ≡ false
      → ((h : ℕ) → holders (line_in k) t h r ≡ true → has r (bounded k t h own_set) ≡ true)
      → (h : ℕ) → holders (line_in k) (t ++ a ∷ []) h r ≡ true
      → has r (bounded k (t ++ a ∷ []) h own_set) ≡ true
  keeps-step t a stays ih h held =
      let x = line_in k a.addr in
      let now = sym (holders-push (line_in k) t a h r) ∙ held in
      subst (λ ls. has r ls ≡ true) (sym (bounded-push k t a h own_set))
      (elim (cases_Bool (eqb x r)) [
        | inl same ↦
            let here : eqb (set_of k x) own_set ≡ true =
            eq-eqb (set_of k x) own_set (ap (set_of k) (eqb-true x r same)) in
            elim (cases_Bool (eqb h a.hart)) [
              | inl own ↦
                  rw (here, own)
                  (subst (λ y. has r (used k y (bounded k t h own_set)) ≡ true)
                  (sym (eqb-true x r same)) (has-front k.ways (bounded k t h own_set) ways))
              | inr other ↦
                  let kept : (not (is_write a.kind) && holders (line_in k) t h r) ≡ true =
                  rw (same, other) at now in
                  let parts = and_parts (not (is_write a.kind)) (holders (line_in k) t h r) kept in
                  elim (cases_Bool (is_write a.kind)) [
                    | inl w ↦
                        let gone : false ≡ true = rw w at parts.0 in absurd (false≢true gone)
                    | inr w ↦ rw (here, other, w) (ih h parts.1)
                  ]
            ]
        | inr apart ↦
            let before : has r (bounded k t h own_set) ≡ true =
            ih h (let e : holders (line_in k) t h r ≡ true = rw apart at now in e) in
            let other_line : eqb r x ≡ false = flip r x ∙ apart in
            let behind : has r (without x (bounded k t h own_set)) ≡ true =
            has-others x r (bounded k t h own_set) other_line ∙ before in
            elim (cases_Bool (eqb (set_of k x) own_set)) [
              | inl here ↦ elim (cases_Bool (eqb h a.hart)) [
                | inl own ↦
                    rw (here, own)
                    (elim (cases_Bool (has r (used k x (bounded k t h own_set)))) [
                      | inl there ↦ there
                      | inr gone ↦
                          let short : length (in_front x (bounded k t h own_set)) ≤ suc k.ways =
                          omega (
                            arith,
                            length-without x (bounded k t h own_set),
                            length-bounded k t h own_set,
                          ) in
                          let last : left k x (bounded k t h own_set) ≡ Some r =
                          take-or-last k.ways r (in_front x (bounded k t h own_set)) short
                          (or_right (eqb r x) (has r (without x (bounded k t h own_set))) behind)
                          gone in
                          let out : evicts k t a ≡ Some r =
                          ap (λ g. left k x (bounded k t g (set_of k x)))
                          (sym (eqb-true h a.hart own))
                          ∙ ap (λ s. left k x (bounded k t h s))
                          (eqb-true (set_of k x) own_set here)
                          ∙ last in
                          let is : is_eviction k r t a ≡ true =
                          ap (λ o. option_map_or (eqb r) o false) out ∙ eq-eqb r r refl in
                          absurd (false≢true (sym stays ∙ is))
                    ])
                | inr other ↦ elim (cases_Bool (is_write a.kind)) [
                  | inl w ↦ rw (here, other, w) behind
                  | inr w ↦ rw (here, other, w) before
                ]
              ]
              | inr there ↦ rw there before
            ]
      ])

  any-same : (p q : Touch → Bool) → ((b : Touch) → p b ≡ q b) → (t : List Touch)
      → list_any p t ≡ list_any q t
  any-same p q same [] = refl
  any-same p q same (b ∷ t) = rw (same b, any-same p q same t) refl

  -- where nothing was evicted of the line, its holders have it
  abbrev KeepsAll : List Touch → Type 0
  KeepsAll t = (h : ℕ) → holders (line_in k) t h r ≡ true → has r (bounded k t h own_set) ≡ true

  invalidates-alike : (t : List Touch) (a : Touch) → KeepsAll t
      → is_bounded_invalidation k r t a ≡ is_invalidation (line_in k) r t a
  invalidates-alike t a keeps =
      ap (λ b. is_write a.kind && eqb (line_in k a.addr) r && b)
      (any-same (λ b. not (eqb b.hart a.hart) && has r (bounded k t b.hart own_set))
      (λ b. not (eqb b.hart a.hart) && holders (line_in k) t b.hart r)
      (λ b. ap (λ x. not (eqb b.hart a.hart) && x)
      (same_bool _ _ (λ e. (bounded-held k t b.hart own_set r e).1) (keeps b.hart))) t)

  no-sum : (n : ℕ) (b : Bool) → n + (if b then 1 else 0) ≡ 0 → (n ≡ 0) × (b ≡ false)
  no-sum n true e = absurd (omega (arith, e))
  no-sum n false e = (omega (arith, e), refl)

  abbrev CountsAlike : List Touch → Type 0
  CountsAlike t = evicted_count k t r ≡ 0
      → KeepsAll t × ((s : ℕ) → bounded_since k r s t ≡ count_since (line_in k) r s t)

  alike : (t : List Touch) → CountsAlike t
  alike t =
      by_push CountsAlike
      (λ none. (
        λ h e. absurd (false≢true e),
        λ s. count_places-empty _ ∙ sym (count_places-empty _),
      ))
      (λ t a ih none.
      let parts = no-sum (evicted_count k t r) (is_eviction k r t a)
      (sym (count_places-push (is_eviction k r) t a) ∙ none) in
      let old = ih parts.0 in (
        keeps-step t a parts.1 old.0,
        λ s. bounded-since_push k r s t a
            ∙ ap (λ n. n + (if ltb s (length t) && is_bounded_invalidation k r t a then 1 else 0))
            (old.1 s)
            ∙ ap (λ b. count_since (line_in k) r s t + (if ltb s (length t) && b then 1 else 0))
            (invalidates-alike t a old.0)
            ∙ sym (count_since-push (line_in k) r s t a),
      ))
      t

  pub bounded-alike : (t : List Touch) → evicted_count k t r ≡ 0
      → bounded_count k t r ≡ unbounded_count k t r
  bounded-alike t none = (alike t none).1 (start_of k t r)
