-- The lines of a layout hold whole words, and those of 4 bytes one each.
use Rattle.std.proofs.Common.{◌≡◌, ℕ, ◌+◌, ◌-◌, ◌*◌, ◌/◌, ◌%◌, ◌<◌, ◌≤◌, true, eqb, ltb, ◌&&◌}
use Rattle.std.proofs.Common.{List, [], ◌∷◌, sym, ap, ◌∙◌, refl, arith, inl, inr}
use Rattle.std.proofs.Math.Nat.{div-add-mod, div-div-eq-div-mul, mul_assoc}
use Rattle.std.proofs.lemmas.Bool.{and_from, and_parts, eq-eqb, eqb-true, false≢true}
use Rattle.std.proofs.lemmas.Bool.{ltb-true, or_cases}
use Rattle.std.specs.List.{list_all, list_any}
use Rattle.base.specs.Lines.{Grid, is_layout, is_line_size, line_number}
use Rattle.base.specs.Touch.{word_of}
use Rattle.sharing_rules.specs.Laws.Held.{same_bool}
use Rattle.sharing_rules.specs.Lines.{grid_line, word_place}
use Rattle.misses.specs.WordLines.{KeepsWords, PartsWords}

multiple : (n : ℕ) (ns : List ℕ) → list_all (λ m. eqb (m % 4) 0) ns ≡ true
    → list_any (eqb n) ns ≡ true → n % 4 ≡ 0
multiple n [] all h = absurd (false≢true h)
multiple n (m ∷ ms) all h =
    let k = and_parts (eqb (m % 4) 0) (list_all (λ m. eqb (m % 4) 0) ms) all in
    elim (or_cases (eqb n m) (list_any (eqb n) ms) h) [
      | inl e ↦ ap (λ z. z % 4) (eqb-true n m e) ∙ eqb-true (m % 4) 0 k.0
      | inr e ↦ multiple n ms k.1 e
    ]

-- a layout's lines begin and end between words
record IsEven (n o : ℕ) : Type 0 where
  below : o < n
  size : n % 4 ≡ 0
  offset : o % 4 ≡ 0

layout-even : (n o : ℕ) → is_layout n o ≡ true → IsEven n o
layout-even n o h =
    let outer = and_parts (is_line_size n && ltb o n) (eqb (o % 4) 0) h in
    let inner = and_parts (is_line_size n) (ltb o n) outer.0 in record {
      below = ltb-true o n inner.1;
      size = multiple n (4 ∷ 8 ∷ 16 ∷ 32 ∷ 64 ∷ 128 ∷ 256 ∷ 512 ∷ 1024 ∷ []) refl inner.0;
      offset = eqb-true (o % 4) 0 outer.1;
    }

pub layout-sized : (n o : ℕ) → is_layout n o ≡ true → (0 < n) × (n % 4 ≡ 0)
layout-sized n o h =
    let even = layout-even n o h in (omega (arith, even.below), even.size)

by_word : (m k x : ℕ) → k ≤ m → line_number (4 * m) (4 * k) x ≡ (x / 4 + (m - k)) / m
by_word m k x le =
    let in_words : (x + 4 * m - 4 * k) / 4 ≡ x / 4 + (m - k) = omega (arith, le) in
    sym (div-div-eq-div-mul (x + 4 * m - 4 * k) 4 m) ∙ ap (λ z. z / m) in_words

same_quarter : (x y : ℕ) → word_of x ≡ word_of y → x / 4 ≡ y / 4
same_quarter x y e = omega (arith, e)

pub layout-keeps : (n o : ℕ) → is_layout n o ≡ true → KeepsWords (line_number n o)
layout-keeps n o h x y same =
    let even = layout-even n o h in
    let sized : n ≡ 4 * (n / 4) = omega (arith, even.size) in
    let placed : o ≡ 4 * (o / 4) = omega (arith, even.offset) in
    let le : o / 4 ≤ n / 4 = omega (arith, even.below) in
    let at : (z : ℕ) → line_number n o z ≡ (z / 4 + (n / 4 - o / 4)) / (n / 4) =
    λ z. ap (λ s. line_number s o z) sized ∙ ap (λ s. line_number (4 * (n / 4)) s z) placed
    ∙ by_word (n / 4) (o / 4) z le in
    at x ∙ ap (λ q. (q + (n / 4 - o / 4)) / (n / 4)) (same_quarter x y same) ∙ sym (at y)

-- lines of 4 bytes
pub word_lines-part : PartsWords (line_number 4 0)
word_lines-part x y same = omega (arith, same)

-- A word's number is determined by its line and its place there.
quarter : (n k x : ℕ) → n ≡ 4 * k → x / 4 ≡ k * (x / n) + x % n / 4
quarter n k x e =
    let whole : n * (x / n) + x % n ≡ x = div-add-mod x n in
    let product : n * (x / n) ≡ 4 * (k * (x / n)) =
    ap (λ z. z * (x / n)) e ∙ mul_assoc 4 k (x / n) in
    omega (arith, whole, product)

stated : (n o x : ℕ) → IsEven n o → x / 4 + (n / 4 - o / 4)
    ≡ n / 4 * line_number n o x + (x + n - o) % n / 4
stated n o x even =
    let sized : n ≡ 4 * (n / 4) = omega (arith, even.size) in
    let in_words : (x + n - o) / 4 ≡ x / 4 + (n / 4 - o / 4) =
    omega (arith, even.size, even.offset, even.below) in
    sym in_words ∙ quarter n (n / 4) (x + n - o) sized

-- two addresses of a line are in one word where their places are the same
pub same_word : (g : Grid) (r x y : ℕ) → is_layout g.size g.offset ≡ true
    → line_number g.size g.offset x ≡ r
    → (eqb (line_number g.size g.offset y) r
    && eqb (word_place (grid_line g r) y) (word_place (grid_line g r) x))
    ≡ eqb (word_of y) (word_of x)
same_word g r x y h here =
    let even = layout-even g.size g.offset h in
    let tx = stated g.size g.offset x even in
    let ty = stated g.size g.offset y even in
    same_bool _ _
    (λ e.
    let parts = and_parts (eqb (line_number g.size g.offset y) r)
    (eqb (word_place (grid_line g r) y) (word_place (grid_line g r) x)) e in
    let line : line_number g.size g.offset y ≡ line_number g.size g.offset x =
    eqb-true _ _ parts.0 ∙ sym here in
    let product = ap (λ z. g.size / 4 * z) line in
    let place = eqb-true _ _ parts.1 in
    let same : y / 4 ≡ x / 4 = omega (arith, tx, ty, product, place) in
    eq-eqb _ _ (ap (λ z. z * 4) same))
    (λ e.
    let word : word_of y ≡ word_of x = eqb-true _ _ e in
    let line = layout-keeps g.size g.offset h y x word in
    let product = ap (λ z. g.size / 4 * z) line in
    let same = same_quarter y x word in
    and_from _ _ (eq-eqb _ _ (line ∙ here))
    (eq-eqb _ _ (omega (arith, tx, ty, product, same))))
