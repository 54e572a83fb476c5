-- A key that stands at an index of a table is found at it, since the keys are distinct.
use Rattle.std.proofs.Common.{◌≡◌, ℕ, zero, suc, ◌+◌, ◌<◌, Bool, true, false, eqb, List, [], ◌∷◌}
use Rattle.std.proofs.Common.{length, refl, sym, ap, ◌∙◌, subst, arith, inl, inr, Some}
use Rattle.std.proofs.lemmas.Bool.{and_parts, cases_Bool, eqb-true, false≢true, lt-ltb}
use Rattle.std.proofs.lemmas.Option.{none-some, same_Some}
use Rattle.std.specs.List.{AllByRecursion, IsDistinct, position, position_or_len}
use Rattle.std.specs.Map.{keys_of}
use Rattle.std.specs.Prelude.{slice_get}
use Rattle.invalidations.specs.declared.blame_tables.InLine.{InLine}
use Rattle.invalidations.specs.declared.sited.Sides.{Sides}
use Rattle.invalidations.specs.BlameKept.{in_line, in_line_eq}
use Rattle.invalidations.specs.Laws.Groups.{sides_eq-exact}

apart : {K V : Type 0} (eq : K → K → Bool) (q : K) (es : List (K × V)) (i : ℕ) (k : K) (v : V)
    → AllByRecursion (λ y. eq q y ≡ false) (keys_of es) → slice_get es i ≡ Some (k, v)
    → eq q k ≡ false
apart eq q [] i k v all at = absurd (none-some (k, v) at)
apart {K} {V} eq q (e ∷ es) zero k v all at =
    subst (λ (x : K × V). eq q x.0 ≡ false) (same_Some e (k, v) at) all.0
apart eq q (e ∷ es) (suc i) k v all at = apart eq q es i k v all.1 at

within : {K V : Type 0} (es : List (K × V)) (i : ℕ) (e : K × V) → slice_get es i ≡ Some e
    → i < length (keys_of es)
within [] i e at = absurd (none-some e at)
within (x ∷ es) zero e at = omega arith
within (x ∷ es) (suc i) e at = let lt = within es i e at in omega (arith, lt)

-- no key before it is equal to it
first : {K V : Type 0} (eq : K → K → Bool) → ((x y : K) → eq x y ≡ true → x ≡ y)
    → (es : List (K × V)) (i : ℕ) (k : K) (v : V) → IsDistinct eq (keys_of es)
    → slice_get es i ≡ Some (k, v) → eq k k ≡ true → position_or_len (eq k) (keys_of es) ≡ i
unfolding IsDistinct
first eq same [] i k v keys at own = absurd (none-some (k, v) at)
first {K} {V} eq same (e ∷ es) zero k v keys at own =
    let here : eq k e.0 ≡ true =
    subst (λ (x : K × V). eq k x.0 ≡ true) (sym (same_Some e (k, v) at)) own in
    rw here refl
first {K} {V} eq same (e ∷ es) (suc i) k v keys at own =
    let other : eq e.0 k ≡ false = apart eq e.0 es i k v keys.0 at in
    let no : eq k e.0 ≡ false =
    elim (cases_Bool (eq k e.0)) [
      | inl t ↦ absurd (false≢true
          (sym (subst (λ (x : K). eq x k ≡ false) (sym (same k e.0 t)) other) ∙ own))
      | inr f ↦ f
    ] in
    let before = first eq same es i k v keys.1 at own in
    let more : 1 + position_or_len (eq k) (keys_of es) ≡ suc i = omega (arith, before) in
    rw no more

found-at : {K V : Type 0} (eq : K → K → Bool) → ((x y : K) → eq x y ≡ true → x ≡ y)
    → (es : List (K × V)) (i : ℕ) (k r : K) (v : V) → IsDistinct eq (keys_of es)
    → slice_get es i ≡ Some (k, v) → eq k r ≡ true → position (eq r) (keys_of es) ≡ Some i
found-at {K} {V} eq same es i k r v keys at t =
    let own : eq k k ≡ true = subst (λ (x : K). eq k x ≡ true) (sym (same k r t)) t in
    let here : position_or_len (eq k) (keys_of es) ≡ i = first eq same es i k v keys at own in
    let lt = lt-ltb i (length (keys_of es)) (within es i (k, v) at) in
    subst (λ (x : K). position (eq x) (keys_of es) ≡ Some i) (same k r t) (rw (here, lt) refl)

-- a line, and two sides in a line
pub line-found : {V : Type 0} (es : List (ℕ × V)) (i k r : ℕ) (v : V)
    → IsDistinct eqb (keys_of es) → slice_get es i ≡ Some (k, v) → eqb k r ≡ true
    → position (eqb r) (keys_of es) ≡ Some i
line-found es i k r v keys at t = found-at eqb eqb-true es i k r v keys at t

same_in_line : (x y : InLine) → in_line_eq x y ≡ true → x ≡ y
same_in_line x y t =
    let parts = and_parts _ _ t in
    let sides = sides_eq-exact.same x.sides y.sides parts.1 in
    ap (λ (s : Sides). in_line x.line s) sides
    ∙ ap (λ (n : ℕ). in_line n y.sides) (eqb-true x.line y.line parts.0)

pub sides-found : {V : Type 0} (es : List (InLine × V)) (i : ℕ) (k r : InLine) (v : V)
    → IsDistinct in_line_eq (keys_of es) → slice_get es i ≡ Some (k, v) → in_line_eq k r ≡ true
    → position (in_line_eq r) (keys_of es) ≡ Some i
sides-found es i k r v keys at t = found-at in_line_eq same_in_line es i k r v keys at t
