-- What one access more makes of the arrivals.
use Rattle.std.proofs.Common.{◌≡◌, ℕ, Bool, true, false, eqb, not, List, [], ◌∷◌, ◌++◌, refl, arith}
use Rattle.std.proofs.Common.{inl, inr}
use Rattle.std.proofs.lemmas.List.{append-nil, map-append}
use Rattle.std.proofs.lemmas.List.Folds.{list_any-append}
use Rattle.std.proofs.lemmas.List.Elements.{filter-append}
use Rattle.std.proofs.lemmas.Bool.{cases_Bool, false≢true, or_parts, and_parts, and_right}
use Rattle.std.proofs.Math.Bool.{or-false}
use Rattle.std.proofs.lemmas.Bool.Decides.{nat_tests}
use Rattle.std.specs.Prelude.{if◌then◌else◌, filter}
use Rattle.std.specs.List.{list_any, IsDistinct}
use Rattle.std.specs.Cmp.{nat_eq_equiv}
use Rattle.std.proofs.lemmas.Map.Keys.{IsDistinct-push}
use Rattle.base.specs.Touch.{Touch, is_write}
use Rattle.sharing_rules.specs.AccessLists.{touches, writes_to}
use Rattle.sharing_rules.specs.Arrivals.{note_arrival, each_once, since_last_write, arrivals}
use Rattle.sharing_rules.specs.Arrivals.{arrivals_after}
use Rattle.sharing_rules.specs.Laws.Lists.{by_push}

-- leaving out y hides no other number
list_any-without : (x y : ℕ) (xs : List ℕ) → eqb x y ≡ false
    → list_any (eqb x) (filter (λ z. not (eqb z y)) xs) ≡ list_any (eqb x) xs
list_any-without x y [] e = refl
list_any-without x y (z ∷ xs) e =
    let ih = list_any-without x y xs e in
    elim (cases_Bool (eqb z y)) [
      | inl t ↦ let other : eqb x z ≡ false = grind (arith, nat_tests) in rw (t, other, ih)
      | inr f ↦ rw (f, ih)
    ]

pub each_once-push : (xs : List ℕ) (x : ℕ) → each_once (xs ++ x ∷ []) ≡ note_arrival
    (each_once xs) x
each_once-push [] x = refl
each_once-push (y ∷ xs) x =
    rw (each_once-push xs x)
    (elim (cases_Bool (eqb x y)) [
      | inl t ↦ elim (cases_Bool (list_any (eqb x) (each_once xs))) [
        | inl u ↦ rw (t, u)
        | inr u ↦ rw (t, u, filter-append (λ z. not (eqb z y)) (each_once xs) (x ∷ []), t)
            (append-nil _)
      ]
      | inr f ↦ elim (cases_Bool (list_any (eqb x) (each_once xs))) [
        | inl u ↦ rw (f, list_any-without x y (each_once xs) f, u)
        | inr u ↦ rw (
          f,
          list_any-without x y (each_once xs) f,
          u,
          filter-append (λ z. not (eqb z y)) (each_once xs) (x ∷ []),
          f,
        )
      ]
    ])

pub since-push : (inside : ℕ → Bool) (t : List Touch) (a : Touch)
    → since_last_write inside (t ++ a ∷ []) ≡ if writes_to inside a then a ∷ []
    else if list_any (writes_to inside) t then since_last_write inside t ++ a ∷ [] else []
since-push inside [] a = refl
since-push inside (b ∷ t) a =
    rw (list_any-append (writes_to inside) t (a ∷ []), since-push inside t a)
    (elim (cases_Bool (writes_to inside a)) [
      | inl wa ↦ elim (cases_Bool (list_any (writes_to inside) t)) [
        | inl u ↦ rw (wa, u)
        | inr u ↦
            rw (wa, u)
      ]
      | inr wa ↦ elim (cases_Bool (list_any (writes_to inside) t)) [
        | inl u ↦ elim (cases_Bool (writes_to inside b)) [
          | inl wb ↦ rw (wa, u, wb)
          | inr wb ↦
              rw (wa, u, wb)
        ]
        | inr u ↦ elim (cases_Bool (writes_to inside b)) [
          | inl wb ↦ rw (wa, u, wb)
          | inr wb ↦
              rw (wa, u, wb)
        ]
      ]
    ])

-- what stands from the last write on begins with it
since-some : (inside : ℕ → Bool) (t : List Touch) → list_any (writes_to inside) t ≡ true
    → (b : Touch) × (u : List Touch) × (since_last_write inside t ≡ b ∷ u)
    × (writes_to inside b ≡ true)
since-some inside [] e = absurd (false≢true e)
since-some inside (a ∷ t) e =
    elim (cases_Bool (list_any (writes_to inside) t)) [
      | inl u ↦ rw u (since-some inside t u)
      | inr u ↦ let wa : writes_to inside a ≡ true = rw (u, or-false) at e
          in rw (u, wa) (a, t, refl, wa)
    ]

since-none : (inside : ℕ → Bool) (t : List Touch) → list_any (writes_to inside) t ≡ false
    → since_last_write inside t ≡ []
since-none inside [] e = refl
since-none inside (a ∷ t) e =
    let parts = or_parts (writes_to inside a) (list_any (writes_to inside) t) e in
    rw (parts.1, parts.0)

-- after a write there is a first arrival
pub arrivals-some : (inside : ℕ → Bool) (t : List Touch) → list_any (writes_to inside) t ≡ true
    → (g : ℕ) × (gs : List ℕ) × (arrivals inside t ≡ g ∷ gs)
unfolding arrivals
arrivals-some inside t e =
    let s = since-some inside t e in
    let inside_b = (and_parts (is_write s.0.kind) (inside s.0.addr) s.3).1 in
    rw (s.2, inside_b) (s.0.hart, _, refl)

-- one access more
pub arrivals-push : (inside : ℕ → Bool) (t : List Touch) (a : Touch)
    → arrivals inside (t ++ a ∷ []) ≡ arrivals_after inside (arrivals inside t) a
unfolding arrivals
arrivals-push inside t a =
    rw (since-push inside t a)
    (elim (cases_Bool (inside a.addr)) [
      | inl i ↦ elim (cases_Bool (is_write a.kind)) [
        | inl w ↦ rw (i, w, i)
        | inr w ↦ elim (cases_Bool (list_any (writes_to inside) t)) [
          | inl u ↦
              let s = arrivals-some inside t u in
              rw (
                i,
                w,
                u,
                filter-append (touches inside) (since_last_write inside t) (a ∷ []),
                i,
                map-append (λ (b : Touch). b.hart)
                    (filter (touches inside) (since_last_write inside t)) (a ∷ []),
                each_once-push,
              )
              (rw s.2 refl)
          | inr u ↦ rw (i, w, u, since-none inside t u)
        ]
      ]
      | inr i ↦
          let quiet : writes_to inside a ≡ false = and_right (is_write a.kind) (inside a.addr) i in
          elim (cases_Bool (list_any (writes_to inside) t)) [
            | inl u ↦ rw (
              quiet,
              u,
              filter-append (touches inside) (since_last_write inside t)
                  (a ∷ []),
              i,
              append-nil (filter (touches inside) (since_last_write inside t)),
            )
            | inr u ↦ rw (quiet, u, i, since-none inside t u)
          ]
    ])

note_arrival-distinct : (hs : List ℕ) (h : ℕ) → IsDistinct eqb hs
    → IsDistinct eqb (note_arrival hs h)
note_arrival-distinct hs h d =
    elim (cases_Bool (list_any (eqb h) hs)) [
      | inl e ↦ rw e d
      | inr e ↦
          rw e (IsDistinct-push nat_eq_equiv hs h d e)
    ]

-- no arrival comes twice
pub each_once-distinct : (xs : List ℕ) → IsDistinct eqb (each_once xs)
unfolding IsDistinct
each_once-distinct xs = by_push (λ xs. IsDistinct eqb (each_once xs)) tt
    (λ xs x d. rw (each_once-push xs x) (note_arrival-distinct (each_once xs) x d)) xs

pub arrivals-distinct : (inside : ℕ → Bool) (t : List Touch) → IsDistinct eqb (arrivals inside t)
unfolding arrivals
arrivals-distinct inside t = each_once-distinct _

pub arrivals-empty : (inside : ℕ → Bool) → arrivals inside [] ≡ []
unfolding arrivals
arrivals-empty inside = refl
