-- Which addresses are near.
use Rattle.std.proofs.Common.{◌≡◌, ℕ, zero, suc, ◌+◌, ◌-◌, ◌*◌, ◌/◌, ◌^◌, ◌<◌, ◌≤◌, true}
use Rattle.std.proofs.Common.{eqb, not, ap, sym, ◌∙◌, arith}
use Rattle.std.proofs.lemmas.Bool.{and_from, and_parts, le-leb}
use Rattle.std.proofs.lemmas.Bool.Decides.{nat_tests}
use Rattle.std.proofs.lemmas.Nat.{le-div}
use Rattle.std.proofs.Math.Nat.{add-div_right, div-div-eq-div-mul, div-mul-le_self, lt-div-mul-add}
use Rattle.std.proofs.Math.Nat.{pow-succ'}
use Rattle.std.specs.Prelude.{nat_le}
use Rattle.base.specs.Lines.{line_number}
use Rattle.base.specs.Touch.{Touch, word_of}
use Rattle.sharing_rules.specs.Filtered.{comes_near, is_near}

-- a range of at least 4 bytes holds whole words
fours : (k : ℕ) → 2 ≤ k → (m : ℕ) × (2 ^ k ≡ 4 * m)
fours zero le = absurd (omega (arith, le))
fours (suc zero) le = absurd (omega (arith, le))
fours (suc (suc j)) le =
    (2 ^ j, omega (arith, pow-succ' 2 (suc j), pow-succ' 2 j))

pub word-range : (k x y : ℕ) → 2 ≤ k → word_of x ≡ word_of y → x / 2 ^ k ≡ y / 2 ^ k
word-range k x y le same =
    let m = fours k le in
    let quarter : x / 4 ≡ y / 4 = omega (arith, same) in
    let at : (z : ℕ) → z / 2 ^ k ≡ z / 4 / m.0 =
    λ z. ap (λ n. z / n) m.1 ∙ sym (div-div-eq-div-mul z 4 m.0) in
    at x ∙ ap (λ q. q / m.0) quarter ∙ sym (at y)

-- an access comes near all of a word or near nothing of it
pub comes_near-word : (k h x y : ℕ) (c : Touch) → 2 ≤ k → word_of x ≡ word_of y
    → comes_near k h x c ≡ comes_near k h y c
comes_near-word k h x y c le same =
    let range = word-range k x y le same in
    rw range

pub near-symmetric : (k x y : ℕ) → is_near k x y ≡ true → is_near k y x ≡ true
near-symmetric k x y e =
    let low = nat_le (x / 2 ^ k) (y / 2 ^ k + 1) in
    let high = nat_le (y / 2 ^ k) (x / 2 ^ k + 1) in
    let parts = and_parts low high e in
    and_from high low parts.1 parts.0

pub comes-parts : (k h x : ℕ) (c : Touch) → comes_near k h x c ≡ true
    → (not (eqb c.hart h) ≡ true) × (is_near k c.addr x ≡ true)
comes-parts k h x c e = and_parts (not (eqb c.hart h)) (is_near k c.addr x) e

-- Of two harts that touched words near each other, each came near the other's.
pub near-both : (k : ℕ) (a c d : Touch) → 2 ≤ k → comes_near k a.hart a.addr c ≡ true
    → eqb d.hart a.hart ≡ true → word_of d.addr ≡ word_of a.addr
    → comes_near k c.hart c.addr d ≡ true
near-both k a c d le near hart word =
    let parts = comes-parts k a.hart a.addr c near in
    let other : not (eqb d.hart c.hart) ≡ true = grind (arith, nat_tests, hart, parts.0) in
    let range = word-range k d.addr a.addr le word in
    let back : is_near k a.addr c.addr ≡ true = near-symmetric k c.addr a.addr parts.1 in
    and_from (not (eqb d.hart c.hart)) (is_near k d.addr c.addr) other (rw range back)

pub div-mono : (m n d : ℕ) → 0 < d → m ≤ n → m / d ≤ n / d
div-mono m n d some le =
    let whole = div-mul-le_self m d in
    le-div (m / d) n d some (omega (arith, whole, le))

-- two addresses that are less than a range apart are near
less-apart : (m x y : ℕ) → 0 < m → x < y + m → x / m ≤ y / m + 1
less-apart m x y some close =
    let mono = div-mono x (y + m) m some (omega (arith, close)) in
    let next = add-div_right y some in
    omega (arith, mono, next)

-- the distance of two addresses in one line
line-apart : (n o x y : ℕ) → 0 < n → o ≤ n → line_number n o x ≡ line_number n o y → x < y + n
line-apart n o x y some le same =
    let above = lt-div-mul-add {a = x + n - o} some in
    let below = div-mul-le_self (y + n - o) n in
    let product = ap (λ q. q * n) same in
    omega (arith, above, below, product, le)

-- two addresses in one line of at most 2^k bytes are near
pub line-near : (k n o x y : ℕ) → 0 < n → o ≤ n → n ≤ 2 ^ k
    → line_number n o x ≡ line_number n o y → is_near k x y ≡ true
line-near k n o x y some le within same =
    let there = less-apart (2 ^ k) x y (omega (arith, some, within))
    (omega (arith, within, line-apart n o x y some le same)) in
    let back = less-apart (2 ^ k) y x (omega (arith, some, within))
    (omega (arith, within, line-apart n o y x some le (sym same))) in
    and_from _ _ (le-leb _ _ there) (le-leb _ _ back)
