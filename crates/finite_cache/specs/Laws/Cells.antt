-- Each hart and set has a cell of its own, and what is swept out of the cells.
use Rattle.std.proofs.Common.{◌≡◌, ℕ, ◌+◌, ◌*◌, ◌/◌, ◌<◌, Bool, true, false, eqb, not}
use Rattle.std.proofs.Common.{◌&&◌, ◌||◌, List, [], ◌∷◌, ◌++◌, refl, sym, ap, ◌∙◌, subst, arith}
use Rattle.std.proofs.Common.{inl, inr}
use Rattle.std.proofs.lemmas.Bool.{and_from, and_parts, cases_Bool, eq-eqb, eqb-true, false≢true}
use Rattle.std.proofs.lemmas.Bool.{or_cases, or_left, or_right}
use Rattle.std.proofs.lemmas.Bool.Decides.{nat_tests}
use Rattle.std.proofs.lemmas.List.Folds.{list_any-append}
use Rattle.std.proofs.lemmas.Nat.{div-mul-add}
use Rattle.std.proofs.Math.Bool.{or-false}
use Rattle.std.specs.List.{list_any}
use Rattle.std.specs.Prelude.{if◌then◌else◌}
use Rattle.sharing_rules.specs.Laws.Held.{any_at, any_of, same_bool}
use Rattle.finite_cache.specs.Bounded.{has, set_of, without}
use Rattle.finite_cache.specs.CacheState.{cell_of}
use Rattle.base.specs.Shapes.{CacheShape}
use Rattle.finite_cache.specs.Sweeps.{is_cell_of_another}

-- a product with a rest determines both numbers
same-hart : (n g h s u : ℕ) → s < n → u < n → g * n + s ≡ h * n + u → g ≡ h
same-hart n g h s u s_in u_in e =
    sym (div-mul-add g n s s_in) ∙ ap (λ c. c / n) e ∙ div-mul-add h n u u_in

pub cell-same : (k : CacheShape) (h s g u : ℕ) → s < k.sets → u < k.sets
    → eqb (cell_of k h s) (cell_of k g u) ≡ (eqb h g && eqb s u)
cell-same k h s g u s_in u_in =
    same_bool _ _
    (λ e.
    let cells : h * k.sets + s ≡ g * k.sets + u = eqb-true _ _ e in
    let harts = same-hart k.sets h g s u s_in u_in cells in
    let rows = ap (λ x. x * k.sets) harts in
    and_from _ _ (eq-eqb h g harts) (eq-eqb s u (omega (arith, cells, rows))))
    (λ e.
    let parts = and_parts (eqb h g) (eqb s u) e in
    let harts = eqb-true h g parts.0 in
    let sets = eqb-true s u parts.1 in
    eq-eqb _ _ (ap (λ x. x * k.sets + s) harts ∙ ap (λ x. g * k.sets + x) sets))

-- what is out is out
pub has-without : (r : ℕ) (ls : List ℕ) → has r (without r ls) ≡ false
has-without r [] = refl
has-without r (q ∷ ls) =
    elim (cases_Bool (eqb q r)) [
      | inl same ↦ rw same (has-without r ls)
      | inr other ↦
          let flipped : eqb r q ≡ false = grind (arith, nat_tests) in
          rw (other, flipped) (has-without r ls)
    ]

pub without-twice : (r : ℕ) (ls : List ℕ) → without r (without r ls) ≡ without r ls
without-twice r [] = refl
without-twice r (q ∷ ls) =
    elim (cases_Bool (eqb q r)) [
      | inl same ↦ rw same (without-twice r ls)
      | inr other ↦ rw (other, other) (ap (λ xs. q ∷ xs) (without-twice r ls))
    ]

-- a line that stays is another one, and was there
pub has-kept : (r q : ℕ) (ls : List ℕ) → has q (without r ls) ≡ true
    → (has q ls ≡ true) × (eqb q r ≡ false)
has-kept r q [] there = absurd (false≢true there)
has-kept r q (x ∷ ls) there =
    elim (cases_Bool (eqb x r)) [
      | inl same ↦
          let later : has q (without r ls) ≡ true = rw same at there in
          let w = has-kept r q ls later in (or_right (eqb q x) (has q ls) w.0, w.1)
      | inr other ↦
          let here : (eqb q x || has q (without r ls)) ≡ true = rw other at there in
          elim (or_cases (eqb q x) (has q (without r ls)) here) [
            | inl first ↦
                let apart : eqb q r ≡ false = grind (arith, nat_tests) in
                (or_left (eqb q x) (has q ls) first, apart)
            | inr later ↦
                let w = has-kept r q ls later in (or_right (eqb q x) (has q ls) w.0, w.1)
          ]
    ]

pub has-others : (r q : ℕ) (ls : List ℕ) → eqb q r ≡ false
    → has q (without r ls) ≡ has q ls
has-others r q [] other = refl
has-others r q (x ∷ ls) other =
    elim (cases_Bool (eqb x r)) [
      | inl same ↦
          let apart : eqb q x ≡ false = grind (arith, nat_tests) in
          rw (same, apart) (has-others r q ls other)
      | inr there ↦ rw there (ap (λ b. eqb q x || b) (has-others r q ls other))
    ]

module _ (k : CacheShape) (h r : ℕ) (lists : ℕ → List ℕ) where
  -- the lists once the line is out of those of some harts
  abbrev pub swept : List ℕ → ℕ → List ℕ
  swept harts c = if is_cell_of_another k harts h r c then without r (lists c) else lists c

  abbrev cell : ℕ → ℕ
  cell g = cell_of k g (set_of k r)

  abbrev had : ℕ → Bool
  had g = not (eqb g h) && has r (lists (cell g))

  -- one hart more
  pub found-more : (harts : List ℕ) (x : ℕ) (here : Bool)
      → here ≡ (not (eqb x h) && has r (swept harts (cell x)))
      → (list_any had harts || here) ≡ list_any had (harts ++ x ∷ [])
  found-more harts x here e =
      rw (list_any-append had harts (x ∷ []), or-false, e)
      (elim (cases_Bool (is_cell_of_another k harts h r (cell x))) [
        | inr none ↦ rw none refl
        | inl swept_too ↦
            let w = any_of (λ g. not (eqb g h) && eqb (cell x) (cell g)) harts swept_too in
            let parts = and_parts (not (eqb w.0 h)) (eqb (cell x) (cell w.0)) w.2 in
            let cells : cell x ≡ cell w.0 = eqb-true _ _ parts.1 in
            elim (cases_Bool (has r (lists (cell x)))) [
              | inr gone ↦ rw (swept_too, has-without r (lists (cell x)), gone) refl
              | inl there ↦
                  let there_too : has r (lists (cell w.0)) ≡ true =
                  subst (λ c. has r (lists c) ≡ true) cells there in
                  let all : list_any had harts ≡ true =
                  any_at had harts w.0 w.1 (and_from _ _ parts.0 there_too) in
                  rw all refl
            ]
      ])

  pub swept-more : (harts : List ℕ) (x c : ℕ) (now : List ℕ)
      → now ≡ (if not (eqb x h) && eqb c (cell x) then without r (swept harts c)
      else swept harts c)
      → now ≡ swept (harts ++ x ∷ []) c
  swept-more harts x c now e =
      e
      ∙ rw (
        list_any-append (λ g. not (eqb g h) && eqb c (cell g)) harts (x ∷ []),
        or-false,
      )
      (elim (cases_Bool (not (eqb x h) && eqb c (cell x))) [
        | inl here ↦ elim (cases_Bool (is_cell_of_another k harts h r c)) [
          | inl before ↦ rw (here, before) (without-twice r (lists c))
          | inr new ↦ rw (here, new) refl
        ]
        | inr other ↦ elim (cases_Bool (is_cell_of_another k harts h r c)) [
          | inl before ↦ rw (other, before) refl
          | inr never ↦ rw (other, never) refl
        ]
      ])
