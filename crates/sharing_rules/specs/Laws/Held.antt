-- The arrivals of a line are the harts that hold it, and determine whether a write finds another
-- hart.
use Rattle.std.proofs.Common.{◌≡◌, ℕ, Bool, true, false, eqb, not, ◌&&◌, ◌||◌, List, [], ◌∷◌, map}
use Rattle.std.proofs.Common.{refl, sym, ap, ◌∙◌, subst, inl, inr}
use Rattle.std.proofs.lemmas.List.Folds.{list_any-append}
use Rattle.std.proofs.lemmas.List.{map-append}
use Rattle.std.proofs.lemmas.Bool.{cases_Bool, false≢true, or_cases, and_parts, and_right, and_from}
use Rattle.std.proofs.lemmas.Bool.{or_left, or_right, eqb-true, eq-eqb}
use Rattle.std.proofs.Math.Bool.{or-false, or_comm}
use Rattle.std.specs.List.{list_any}
use Rattle.base.specs.Touch.{Touch, is_write}
use Rattle.sharing_rules.specs.AccessLists.{writes_to}
use Rattle.sharing_rules.specs.Arrivals.{note_arrival, arrivals}
use Rattle.sharing_rules.specs.Holders.{holders, is_held_by_another}
use Rattle.sharing_rules.specs.Laws.Holders.{holds, held_after, holds-push, holders-holds}
use Rattle.sharing_rules.specs.Laws.Arrivals.{arrivals-push, arrivals-some}
use Rattle.sharing_rules.specs.Laws.Lists.{by_push}

pub same_bool : (x y : Bool) → (x ≡ true → y ≡ true) → (y ≡ true → x ≡ true) → x ≡ y
same_bool true y f g = sym (f refl)
same_bool false true f g = g refl
same_bool false false f g = refl

-- a test that passes somewhere passes at an element, and the converse
pub any_of : (p : ℕ → Bool) (xs : List ℕ) → list_any p xs ≡ true → (x : ℕ)
    × (list_any (eqb x) xs ≡ true) × (p x ≡ true)
any_of p [] e = absurd (false≢true e)
any_of p (y ∷ xs) e =
    elim (or_cases (p y) (list_any p xs) e) [
      | inl here ↦ (y, or_left _ _ (eq-eqb y y refl), here)
      | inr later ↦ let w = any_of p xs later in (w.0, or_right _ _ w.1, w.2)
    ]

pub any_at : (p : ℕ → Bool) (xs : List ℕ) (x : ℕ) → list_any (eqb x) xs ≡ true → p x ≡ true
    → list_any p xs ≡ true
any_at p [] x e h = absurd (false≢true e)
any_at p (y ∷ xs) x e h =
    elim (or_cases (eqb x y) (list_any (eqb x) xs) e) [
      | inl here ↦ or_left _ _ (subst (λ z. p z ≡ true) (eqb-true x y here) h)
      | inr later ↦ or_right _ _ (any_at p xs x later h)
    ]

-- a test of those of B that are in A, where A is within B
pub any_within : (p : ℕ → Bool) (A B : List ℕ)
    → ((x : ℕ) → list_any (eqb x) A ≡ true → list_any (eqb x) B ≡ true)
    → list_any (λ x. p x && list_any (eqb x) A) B ≡ list_any p A
any_within p A B within =
    same_bool _ _
    (λ e. let w = any_of (λ x. p x && list_any (eqb x) A) B e
    in let b = and_parts (p w.0) (list_any (eqb w.0) A) w.2 in any_at p A w.0 b.1 b.0)
    (λ e. let w = any_of p A e in any_at (λ x. p x && list_any (eqb x) A) B w.0 (within w.0 w.1)
    (and_from _ _ w.2 w.1))

-- an arrival more holds the line beside the earlier ones
note_arrival-any : (h x : ℕ) (hs : List ℕ) → list_any (eqb h) (note_arrival hs x) ≡
    (eqb h x || list_any (eqb h) hs)
note_arrival-any h x hs =
    elim (cases_Bool (list_any (eqb x) hs)) [
      | inl u ↦ elim (cases_Bool (eqb h x)) [
        | inl t ↦ rw (u, t) (subst (λ z. list_any (eqb z) hs ≡ true) (sym (eqb-true h x t)) u)
        | inr t ↦ rw (u, t)
      ]
      | inr u ↦ rw (u, list_any-append (eqb h) hs (x ∷ []), or-false)
          (or_comm (list_any (eqb h) hs) (eqb h x))
    ]

-- after a write the arrivals are the holders
pub arrivals-holds : (inside : ℕ → Bool) (t : List Touch) → list_any (writes_to inside) t ≡ true
    → (h : ℕ) → list_any (eqb h) (arrivals inside t) ≡ holds inside t h
arrivals-holds inside t =
    by_push (λ (t : List Touch). list_any (writes_to inside) t ≡ true → (h : ℕ)
    → list_any (eqb h) (arrivals inside t) ≡ holds inside t h)
    (λ e. absurd (false≢true e))
    (λ t a ih e h.
    rw (arrivals-push inside t a, holds-push inside t a h)
    (elim (cases_Bool (inside a.addr)) [
      | inl i ↦ elim (cases_Bool (is_write a.kind)) [
        | inl w ↦ rw (i, w)
        | inr w ↦
            let before : list_any (writes_to inside) t ≡ true =
            rw (list_any-append (writes_to inside) t (a ∷ []), w, or-false) at e in
            let s = arrivals-some inside t before in
            rw (i, w, s.2, note_arrival-any h a.hart (s.0 ∷ s.1))
            (ap (λ z. eqb h a.hart || z) (ap (list_any (eqb h)) (sym s.2) ∙ ih before h))
      ]
      | inr i ↦
          let before : list_any (writes_to inside) t ≡ true =
          rw (
            list_any-append (writes_to inside) t (a ∷ []),
            and_right (is_write a.kind)
                (inside a.addr) i,
            or-false,
          ) at e in
          rw i (ih before h)
    ]))
    t

held_before : (inside : ℕ → Bool) (held : ℕ → Bool) (a : Touch) (h : ℕ) → eqb h a.hart ≡ false
    → held_after inside held a h ≡ true → held h ≡ true
held_before inside held a h other e =
    elim (cases_Bool (inside a.addr)) [
      | inl i ↦ let k : (not (is_write a.kind) && held h) ≡ true = rw (i, other) at e
          in (and_parts _ _ k).1
      | inr i ↦ rw i at e
    ]

pub list_any-map_congr : (p : Touch → Bool) (q : ℕ → Bool) → ((b : Touch) → p b ≡ q b.hart)
    → (t : List Touch) → list_any p t ≡ list_any q (map (λ b. b.hart) t)
list_any-map_congr p q same [] = refl
list_any-map_congr p q same (b ∷ t) = rw (same b, list_any-map_congr p q same t)

-- who holds a line has touched it
pub holds-touched : (inside : ℕ → Bool) (t : List Touch) (h : ℕ) → holds inside t h ≡ true
    → list_any (eqb h) (map (λ a. a.hart) t) ≡ true
holds-touched inside t h =
    by_push (λ (t : List Touch). holds inside t h ≡ true → list_any (eqb h) (map (λ a. a.hart) t)
    ≡ true)
    (λ e. absurd (false≢true e))
    (λ t a ih e.
    let held : held_after inside (holds inside t) a h ≡ true = sym (holds-push inside t a h) ∙ e in
    rw (
      map-append (λ (b : Touch). b.hart) t (a ∷ []),
      list_any-append (eqb h) (map (λ (b : Touch). b.hart) t) (a.hart ∷ []),
    )
    (elim (cases_Bool (eqb h a.hart)) [
      | inl here ↦ or_right _ _ (or_left _ _ here)
      | inr there ↦ or_left _ _ (ih (held_before inside (holds inside t) a h there held))
    ]))
    t

-- whether another hart holds line r
pub another-arrived : (line_of : ℕ → ℕ) (r : ℕ) (t : List Touch) (h : ℕ)
    → list_any (writes_to (λ a. eqb (line_of a) r)) t ≡ true → is_held_by_another line_of t h r
    ≡ list_any (λ g. not (eqb g h)) (arrivals (λ a. eqb (line_of a) r) t)
another-arrived line_of r t h written =
    let inside : ℕ → Bool = λ a. eqb (line_of a) r in
    let same : (g : ℕ) → holders line_of t g r ≡ list_any (eqb g) (arrivals inside t) =
    λ g. holders-holds line_of r t g ∙ sym (arrivals-holds inside t written g) in
    list_any-map_congr (λ b. not (eqb b.hart h) && holders line_of t b.hart r)
    (λ g. not (eqb g h) && list_any (eqb g) (arrivals inside t))
    (λ b. ap (λ x. not (eqb b.hart h) && x) (same b.hart)) t
    ∙ any_within (λ g. not (eqb g h)) (arrivals inside t) (map (λ b. b.hart) t)
    (λ g e. holds-touched inside t g (sym (arrivals-holds inside t written g) ∙ e))
