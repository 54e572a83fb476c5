-- Two lists after which the caches and the copies are alike, and that a redundant access leaves
-- them as they are.
use Rattle.std.proofs.Common.{◌≡◌, ℕ, Bool, true, false, eqb, not, ◌&&◌, ◌||◌, List, []}
use Rattle.std.proofs.Common.{◌∷◌, ◌++◌, map, refl, sym, ap, ◌∙◌, inl, inr}
use Rattle.std.proofs.lemmas.Bool.{cases_Bool, false≢true, and_parts, and_from, and_right}
use Rattle.std.proofs.lemmas.Bool.{or_left, eqb-true}
use Rattle.std.proofs.Math.Bool.{or-false}
use Rattle.std.proofs.lemmas.List.Folds.{list_any-append}
use Rattle.std.specs.Prelude.{if◌then◌else◌}
use Rattle.std.specs.List.{list_any}
use Rattle.base.specs.Touch.{Touch, is_write, word_of}
use Rattle.sharing_rules.specs.AccessLists.{AccessList, writes_to}
use Rattle.sharing_rules.specs.Holders.{holders, is_held_by_another}
use Rattle.sharing_rules.specs.Laws.Counts.{holders-push}
use Rattle.sharing_rules.specs.Laws.Held.{any_at, any_of, holds-touched, list_any-map_congr}
use Rattle.sharing_rules.specs.Laws.Held.{same_bool}
use Rattle.sharing_rules.specs.Laws.Holders.{holders-holds}
use Rattle.misses.specs.Misses.{changes, is_by_in, wants}
use Rattle.misses.specs.Laws.Copies.{wants-push}
use Rattle.misses.specs.WordLines.{KeepsWords}
use Rattle.sharing_rules.specs.Filtered.{IsWithoutRedundant}
use Rattle.filtered_counts.specs.Laws.Settled.{IsSettled, LiesNear, settled}
use Rattle.filtered_counts.specs.Laws.Walk.{walk-lists}

-- After both lists the same harts hold the same lines, their copies lack the same words, they have
-- come to the same lines, and the same lines were written.
pub record IsAlike (line_of : ℕ → ℕ) (t v : AccessList) : Type 0 where
  pub held : (h r : ℕ) → holders line_of v h r ≡ holders line_of t h r
  pub wanted : (h x : ℕ) → wants line_of v h x ≡ wants line_of t h x
  pub come : (h r : ℕ) → list_any (is_by_in line_of h r) v ≡ list_any (is_by_in line_of h r) t
  pub written : (r : ℕ) → list_any (writes_to (λ b. eqb (line_of b) r)) v
      ≡ list_any (writes_to (λ b. eqb (line_of b) r)) t

pub alike-none : (line_of : ℕ → ℕ) → IsAlike line_of [] []
alike-none line_of = record {
  held = λ h r. refl;
  wanted = λ h x. refl;
  come = λ h r. refl;
  written = λ r. refl;
}

-- what an access makes of what is wanted, by what was
wanted-push : (line_of : ℕ → ℕ) (t : List Touch) (c : Touch) (h x : ℕ)
    → wants line_of (t ++ c ∷ []) h x
    ≡ if is_by_in line_of h (line_of x) c && wants line_of t h c.addr then false
    else (wants line_of t h x || changes h x c)
wanted-push line_of t c h x =
    wants-push line_of t c h x
    ∙ elim (cases_Bool (is_by_in line_of h (line_of x) c)) [
      | inl e ↦
          let line : line_of c.addr ≡ line_of x =
          eqb-true _ _ (and_parts (eqb h c.hart) (eqb (line_of c.addr) (line_of x)) e).1 in
          rw (e, line) refl
      | inr e ↦ rw e refl
    ]

pub not-yes : (x : Bool) → not x ≡ true → x ≡ false
not-yes true e = absurd (false≢true e)
not-yes false e = refl

-- an access more in both
pub alike-both : (line_of : ℕ → ℕ) (t v : AccessList) (c : Touch) → IsAlike line_of t v
    → IsAlike line_of (t ++ c ∷ []) (v ++ c ∷ [])
alike-both line_of t v c s = record {
  held = λ h r. rw (holders-push line_of t c h r, holders-push line_of v c h r, s.held h r) refl;
  wanted = λ h x. rw (
    wanted-push line_of t c h x,
    wanted-push line_of v c h x,
    s.wanted h c.addr,
    s.wanted h x,
  ) refl;
  come = λ h r. rw (
    list_any-append (is_by_in line_of h r) t (c ∷ []),
    list_any-append (is_by_in line_of h r) v (c ∷ []),
    s.come h r,
  ) refl;
  written = λ r. rw (
    list_any-append (writes_to (λ b. eqb (line_of b) r)) t (c ∷ []),
    list_any-append (writes_to (λ b. eqb (line_of b) r)) v (c ∷ []),
    s.written r,
  ) refl;
}

-- ---- what a redundant access leaves as it is

still-held : (line_of : ℕ → ℕ) (t : List Touch) (a : Touch)
    → IsSettled line_of (is_write a.kind) a.hart a.addr t → (h r : ℕ)
    → holders line_of (t ++ a ∷ []) h r ≡ holders line_of t h r
still-held line_of t a s h r =
    holders-push line_of t a h r
    ∙ elim (cases_Bool (eqb (line_of a.addr) r)) [
      | inl here ↦
          let line : line_of a.addr ≡ r = eqb-true _ _ here in
          elim (cases_Bool (eqb h a.hart)) [
            | inl mine ↦
                let same : a.hart ≡ h = sym (eqb-true h a.hart mine) in
                let holds : holders line_of t h r ≡ true =
                ap (λ q. holders line_of t h q) (sym line)
                ∙ ap (λ g. holders line_of t g (line_of a.addr)) (sym same) ∙ s.holds in
                rw (here, mine) (sym holds)
            | inr other ↦ elim (cases_Bool (is_write a.kind)) [
              | inl w ↦
                  let none : holders line_of t h r ≡ false =
                  ap (λ q. holders line_of t h q) (sym line) ∙ s.alone w h other in
                  rw (here, other, w) (sym none)
              | inr w ↦ rw (here, other, w) refl
            ]
          ]
      | inr there ↦ rw there refl
    ]

still-wanted : (line_of : ℕ → ℕ) (t : List Touch) (a : Touch)
    → IsSettled line_of (is_write a.kind) a.hart a.addr t → (h x : ℕ)
    → wants line_of (t ++ a ∷ []) h x ≡ wants line_of t h x
still-wanted line_of t a s h x =
    let no_load : (is_by_in line_of h (line_of x) a && wants line_of t h a.addr) ≡ false =
    elim (cases_Bool (eqb h a.hart)) [
      | inl mine ↦ and_right _ _ (ap (λ g. wants line_of t g a.addr) (eqb-true h a.hart mine)
          ∙ s.complete)
      | inr other ↦ rw other refl
    ] in
    wanted-push line_of t a h x
    ∙ rw no_load
    (elim (cases_Bool (changes h x a)) [
      | inl e ↦
          let outer = and_parts (is_write a.kind && not (eqb h a.hart))
          (eqb (word_of a.addr) (word_of x)) e in
          let inner = and_parts (is_write a.kind) (not (eqb h a.hart)) outer.0 in
          let lacking : wants line_of t h x ≡ true =
          s.lacking inner.0 h x (not-yes (eqb h a.hart) inner.1)
          (sym (eqb-true (word_of a.addr) (word_of x) outer.1)) in
          rw lacking refl
      | inr e ↦ ap (λ z. wants line_of t h x || z) e ∙ or-false _
    ])

still-come : (line_of : ℕ → ℕ) (t : List Touch) (a : Touch)
    → IsSettled line_of (is_write a.kind) a.hart a.addr t → (h r : ℕ)
    → list_any (is_by_in line_of h r) (t ++ a ∷ []) ≡ list_any (is_by_in line_of h r) t
still-come line_of t a s h r =
    list_any-append (is_by_in line_of h r) t (a ∷ [])
    ∙ elim (cases_Bool (is_by_in line_of h r a)) [
      | inl e ↦
          let p = and_parts (eqb h a.hart) (eqb (line_of a.addr) r) e in
          let there : list_any (is_by_in line_of h r) t ≡ true =
          ap (λ q. list_any (is_by_in line_of h q) t) (sym (eqb-true (line_of a.addr) r p.1))
          ∙ ap (λ g. list_any (is_by_in line_of g (line_of a.addr)) t) (eqb-true h a.hart p.0)
          ∙ s.come in
          or_left _ _ there ∙ sym there
      | inr e ↦ ap (λ z. list_any (is_by_in line_of h r) t || (z || false)) e ∙ or-false _
    ]

still-written : (line_of : ℕ → ℕ) (t : List Touch) (a : Touch)
    → IsSettled line_of (is_write a.kind) a.hart a.addr t → (r : ℕ)
    → list_any (writes_to (λ b. eqb (line_of b) r)) (t ++ a ∷ [])
    ≡ list_any (writes_to (λ b. eqb (line_of b) r)) t
still-written line_of t a s r =
    list_any-append (writes_to (λ b. eqb (line_of b) r)) t (a ∷ [])
    ∙ elim (cases_Bool (is_write a.kind && eqb (line_of a.addr) r)) [
      | inl e ↦
          let p = and_parts (is_write a.kind) (eqb (line_of a.addr) r) e in
          let there : list_any (writes_to (λ b. eqb (line_of b) r)) t ≡ true =
          ap (λ q. list_any (writes_to (λ b. eqb (line_of b) q)) t)
          (sym (eqb-true (line_of a.addr) r p.1)) ∙ s.written p.0 in
          or_left _ _ there ∙ sym there
      | inr e ↦ ap (λ z. list_any (writes_to (λ b. eqb (line_of b) r)) t || (z || false)) e
          ∙ or-false _
    ]

pub alike-left : (line_of : ℕ → ℕ) (t v : AccessList) (a : Touch)
    → IsSettled line_of (is_write a.kind) a.hart a.addr t → IsAlike line_of t v
    → IsAlike line_of (t ++ a ∷ []) v
alike-left line_of t v a s before = record {
  held = λ h r. before.held h r ∙ sym (still-held line_of t a s h r);
  wanted = λ h x. before.wanted h x ∙ sym (still-wanted line_of t a s h x);
  come = λ h r. before.come h r ∙ sym (still-come line_of t a s h r);
  written = λ r. before.written r ∙ sym (still-written line_of t a s r);
}

-- a walk over two lists that are alike, where each access that is left out finds its hart settled
pub walk-alike : (k : ℕ) (line_of : ℕ → ℕ) (P : AccessList → AccessList → Type 0)
    → KeepsWords line_of → LiesNear k line_of
    → P [] []
    → ((t v : AccessList) (a : Touch) → IsAlike line_of t v → P t v
    → P (t ++ a ∷ []) (v ++ a ∷ []))
    → ((t v : AccessList) (a : Touch) → IsAlike line_of t v
    → IsSettled line_of (is_write a.kind) a.hart a.addr t → P t v → P (t ++ a ∷ []) v)
    → (t v : AccessList) → IsWithoutRedundant k t v → P t v
walk-alike k line_of P keeps near none both left t v w =
    (walk-lists k (λ t v. IsAlike line_of t v × P t v)
    (alike-none line_of, none)
    (λ t v a before. (alike-both line_of t v a before.0, both t v a before.0 before.1))
    (λ t v a e before.
    let s = settled k line_of t a keeps near e in
    (alike-left line_of t v a s before.0, left t v a before.0 s before.1))
    t v w).1

-- a list and it without redundant accesses are alike
pub alike : (k : ℕ) (line_of : ℕ → ℕ) → KeepsWords line_of → LiesNear k line_of
    → (t v : AccessList) → IsWithoutRedundant k t v → IsAlike line_of t v
alike k line_of keeps near =
    walk-alike k line_of (IsAlike line_of) keeps near
    (alike-none line_of)
    (λ t v a s before. alike-both line_of t v a before)
    (λ t v a s settled before. alike-left line_of t v a settled before)

-- ---- other harts

another-from : (line_of : ℕ → ℕ) (t v : AccessList) (h r : ℕ)
    → ((g : ℕ) → holders line_of v g r ≡ holders line_of t g r)
    → is_held_by_another line_of v h r ≡ true → is_held_by_another line_of t h r ≡ true
another-from line_of t v h r held e =
    let q : AccessList → ℕ → Bool = λ u g. not (eqb g h) && holders line_of u g r in
    let hart : (u : AccessList) → is_held_by_another line_of u h r
    ≡ list_any (q u) (map (λ b. b.hart) u) =
    λ u. list_any-map_congr (λ b. not (eqb b.hart h) && holders line_of u b.hart r) (q u)
    (λ b. refl) u in
    let some = any_of (q v) (map (λ b. b.hart) v) (sym (hart v) ∙ e) in
    let parts = and_parts (not (eqb some.0 h)) (holders line_of v some.0 r) some.2 in
    let holds : holders line_of t some.0 r ≡ true = sym (held some.0) ∙ parts.1 in
    let touched = holds-touched (λ a. eqb (line_of a) r) t some.0
    (sym (holders-holds line_of r t some.0) ∙ holds) in
    hart t ∙ any_at (q t) (map (λ b. b.hart) t) some.0 touched (and_from _ _ parts.0 holds)

-- after both lists another hart holds a line or none does
pub alike-another : (line_of : ℕ → ℕ) (t v : AccessList) (h r : ℕ) → IsAlike line_of t v
    → is_held_by_another line_of v h r ≡ is_held_by_another line_of t h r
alike-another line_of t v h r s = same_bool _ _
    (another-from line_of t v h r (λ g. s.held g r))
    (another-from line_of v t h r (λ g. sym (s.held g r)))

none-any : (p : Touch → Bool) → ((b : Touch) → p b ≡ false) → (t : List Touch)
    → list_any p t ≡ false
none-any p none [] = refl
none-any p none (b ∷ t) = rw (none b, none-any p none t) refl

-- a redundant write finds no other hart holding its line
pub settled-another : (line_of : ℕ → ℕ) (t : List Touch) (h x : ℕ)
    → IsSettled line_of true h x t → is_held_by_another line_of t h (line_of x) ≡ false
settled-another line_of t h x s =
    none-any (λ b. not (eqb b.hart h) && holders line_of t b.hart (line_of x))
    (λ b. elim (cases_Bool (eqb b.hart h)) [
      | inl e ↦ rw e refl
      | inr e ↦ rw (s.alone refl b.hart e) (and_right _ _ refl)
    ])
    t
