-- Windows are the lines of the shifts: which addresses they hold, and which of them lie in a page.
use Rattle.std.proofs.Common.{◌≡◌, ℕ, ◌+◌, ◌-◌, ◌*◌, ◌/◌, ◌%◌, ◌<◌, ◌≤◌, true, false, eqb, leb, ltb, ◌&&◌}
use Rattle.std.proofs.Common.{[], ◌∷◌, refl, sym, ap, ◌∙◌, subst, arith, inl, inr, ◌⊎◌}
use Rattle.std.proofs.Math.Nat.{div-div-eq-div-mul, mod-lt}
use Rattle.std.proofs.lemmas.Bool.{cases_lt, eq-eqb, eqb-true, false≢true, le-leb, le-ltb, lt-leb}
use Rattle.std.proofs.lemmas.Bool.{lt-ltb, ne_eqb, or_cases}
use Rattle.std.proofs.lemmas.Nat.{div-add-mod', div-mul-add, mod-mul-add}
use Rattle.std.specs.List.{list_any}
use Rattle.base.specs.Lines.{line_number}
use Rattle.sharing_rules.specs.Lines.{grid_line, is_inside, line_at}
use Rattle.layout_sweep.specs.Windows.{is_swept_size, shifted_grid, window_line}

-- what holds of each size holds of a size that can be swept
pub at_size : (P : ℕ → Type 0) → P 4 → P 8 → P 16 → P 32 → P 64 → P 128 → P 256 → (n : ℕ)
    → is_swept_size n ≡ true → P n
at_size P a b c d e f g n h =
    elim (or_cases (eqb n 4) (list_any (eqb n) (8 ∷ 16 ∷ 32 ∷ 64 ∷ 128 ∷ 256 ∷ [])) h) [
      | inl is ↦ subst P (sym (eqb-true n 4 is)) a
      | inr h ↦ elim (or_cases (eqb n 8) (list_any (eqb n) (16 ∷ 32 ∷ 64 ∷ 128 ∷ 256 ∷ [])) h) [
        | inl is ↦ subst P (sym (eqb-true n 8 is)) b
        | inr h ↦ elim (or_cases (eqb n 16) (list_any (eqb n) (32 ∷ 64 ∷ 128 ∷ 256 ∷ [])) h) [
          | inl is ↦ subst P (sym (eqb-true n 16 is)) c
          | inr h ↦ elim (or_cases (eqb n 32) (list_any (eqb n) (64 ∷ 128 ∷ 256 ∷ [])) h) [
            | inl is ↦ subst P (sym (eqb-true n 32 is)) d
            | inr h ↦ elim (or_cases (eqb n 64) (list_any (eqb n) (128 ∷ 256 ∷ [])) h) [
              | inl is ↦ subst P (sym (eqb-true n 64 is)) e
              | inr h ↦ elim (or_cases (eqb n 128) (list_any (eqb n) (256 ∷ [])) h) [
                | inl is ↦ subst P (sym (eqb-true n 128 is)) f
                | inr h ↦ elim (or_cases (eqb n 256) (list_any (eqb n) []) h) [
                  | inl is ↦ subst P (sym (eqb-true n 256 is)) g
                  | inr none ↦ absurd (false≢true none)
                ]
              ]
            ]
          ]
        ]
      ]
    ]

-- a size of whole words
pub record IsWhole (n : ℕ) : Type 0 where
  pub some : 0 < n / 4
  pub words : n ≡ 4 * (n / 4)
  pub few : n / 4 ≤ 64

pub size-whole : (n : ℕ) → is_swept_size n ≡ true → IsWhole n
size-whole = at_size IsWhole (whole 1 (omega arith) (omega arith)) (whole 2 (omega arith) (omega arith))
    (whole 4 (omega arith) (omega arith)) (whole 8 (omega arith) (omega arith))
    (whole 16 (omega arith) (omega arith)) (whole 32 (omega arith) (omega arith))
    (whole 64 (omega arith) (omega arith))
  where
    whole : (m : ℕ) → 0 < m → m ≤ 64 → IsWhole (4 * m)
    whole m some few = record {
      some = omega (arith, some);
      words = omega arith;
      few = omega (arith, few);
    }

-- the line of an address by its word
by_word : (m s x : ℕ) → s ≤ m → line_number (4 * m) (4 * s) x ≡ (x / 4 + (m - s)) / m
by_word m s x le =
    let in_words : (x + 4 * m - 4 * s) / 4 ≡ x / 4 + (m - s) = omega (arith, le) in
    sym (div-div-eq-div-mul (x + 4 * m - 4 * s) 4 m) ∙ ap (λ z. z / m) in_words

number_of : (n s x : ℕ) → IsWhole n → s ≤ n / 4
    → line_number n (4 * s) x ≡ (x / 4 + (n / 4 - s)) / (n / 4)
number_of n s x whole le = ap (λ z. line_number z (4 * s) x) whole.words ∙ by_word (n / 4) s x le

-- the windows that hold an address are those that end after its word and begin no later
in_numbers : (m w q k s : ℕ) → k * m + s ≡ q → s < m → w < q → q ≤ w + m
    → (w + (m - s)) / m ≡ k
in_numbers m w q k s split less above below =
    let parts : w + (m - s) ≡ k * m + (w + m - q) = omega (arith, split, less, above, below) in
    ap (λ z. z / m) parts ∙ div-mul-add k m (w + m - q) (omega (arith, less, above, below))

out_numbers : (m w q k s : ℕ) → k * m + s ≡ q → s < m → (w + (m - s)) / m ≡ k
    → (w < q) × (q ≤ w + m)
out_numbers m w q k s split less is =
    let v : ℕ = w + (m - s) in
    let parts : k * m + v % m ≡ v = ap (λ z. z * m + v % m) (sym is) ∙ div-add-mod' v m in
    let rest : v % m < m = mod-lt v (omega (arith, less)) in (
      omega (arith, parts, rest, split, less),
      omega (arith, parts, rest, split, less),
    )

pub window-inside : (n q x : ℕ) → IsWhole n → x / 4 < q → q ≤ x / 4 + n / 4
    → line_number n (4 * (q % (n / 4))) x ≡ q / (n / 4)
window-inside n q x whole above below =
    let m : ℕ = n / 4 in
    let less : q % m < m = mod-lt q whole.some in
    number_of n (q % m) x whole (omega (arith, less))
    ∙ in_numbers m (x / 4) q (q / m) (q % m) (div-add-mod' q m) less above below

pub window-holds : (n q x : ℕ) → IsWhole n → x / 4 < q → q ≤ x / 4 + n / 4
    → is_inside (window_line n q) x ≡ true
window-holds n q x whole above below = eq-eqb _ _ (window-inside n q x whole above below)

pub window-lacks : (n q x : ℕ) → IsWhole n → (q ≤ x / 4) ⊎ (x / 4 + n / 4 < q)
    → is_inside (window_line n q) x ≡ false
window-lacks n q x whole away =
    let m : ℕ = n / 4 in
    let less : q % m < m = mod-lt q whole.some in
    ne_eqb _ _ (λ is.
    let around = out_numbers m (x / 4) q (q / m) (q % m) (div-add-mod' q m) less
    (sym (number_of n (q % m) x whole (omega (arith, less))) ∙ is) in
    elim away [
      | inl low ↦ let a = around.0 in absurd (omega (arith, a, low))
      | inr high ↦ let b = around.1 in absurd (omega (arith, b, high))
    ])

-- of each shift the one window that holds an address
pub window-of_shift : (n q i x : ℕ) → IsWhole n → x / 4 < q → q ≤ x / 4 + n / 4 → q % (n / 4) ≡ i
    → window_line n q ≡ line_at (shifted_grid n i) x
window-of_shift n q i x whole above below is =
    ap (λ (k : ℕ). record { size = n; offset = 4 * (q % (n / 4)); number = k })
    (sym (window-inside n q x whole above below))
    ∙ ap (λ (s : ℕ). record { size = n; offset = 4 * s; number = line_number n (4 * s) x }) is

-- the windows of one line number lie in one page
page_fits : (n k r : ℕ) → is_swept_size n ≡ true → r < n / 4
    → (k * (n / 4) + r) % 4096 + (n / 4 - r) ≤ 4096
page_fits n k r sized = at_size
    (λ n. r < n / 4 → (k * (n / 4) + r) % 4096 + (n / 4 - r) ≤ 4096)
    (λ less. omega (arith, less)) (λ less. omega (arith, less)) (λ less. omega (arith, less))
    (λ less. omega (arith, less)) (λ less. omega (arith, less)) (λ less. omega (arith, less))
    (λ less. omega (arith, less)) n sized

pub fits_in_words : (m k r : ℕ) → is_swept_size (4 * m) ≡ true → r < m
    → (k * m + r) % 4096 + (m - r) ≤ 4096
fits_in_words m k r sized less =
    subst (λ z. r < z → (k * z + r) % 4096 + (z - r) ≤ 4096) (omega arith)
    (page_fits (4 * m) k r sized) less

-- places behind one in its page
pub in_page : (b i d : ℕ) → b % 4096 + d ≤ 4096 → i < d
    → ((b + i) / 4096 ≡ b / 4096) × ((b + i) % 4096 ≡ b % 4096 + i)
in_page b i d fits less = (omega (arith, fits, less), omega (arith, fits, less))

-- The windows that hold word w, of m words each, from the first on and from the next line number
-- on: cut is the least multiple of m above w.
pub record IsCut (m w cut : ℕ) : Type 0 where
  pub some : 0 < m
  pub place : w % m < m
  pub low : cut + w % m ≡ w + m
  pub parts : w / m * m + w % m ≡ w
  pub lower : (w + 1) % 4096 + (m - (w % m + 1)) ≤ 4096
  pub upper : cut % 4096 + (w % m + 1) ≤ 4096

lower_fits : (m w k p : ℕ) → is_swept_size (4 * m) ≡ true → k * m + p ≡ w → p < m
    → (w + 1) % 4096 + (m - (p + 1)) ≤ 4096
lower_fits m w k p sized split less =
    elim (cases_lt (p + 1) m) [
      | inl more ↦
          let at : w + 1 ≡ k * m + (p + 1) = omega (arith, split) in
          subst (λ z. z % 4096 + (m - (p + 1)) ≤ 4096) (sym at)
          (fits_in_words m k (p + 1) sized more)
      | inr last ↦ let none : m - (p + 1) ≡ 0 = omega (arith, last) in omega (arith, none)
    ]

pub cut_is : (m w : ℕ) → is_swept_size (4 * m) ≡ true → IsCut m w (w - w % m + m)
cut_is m w sized =
    let whole = size-whole (4 * m) sized in
    let some : 0 < m = omega (arith, whole.some) in
    let split : w / m * m + w % m ≡ w = div-add-mod' w m in
    let less : w % m < m = mod-lt w some in
    let cut : (w / m + 1) * m + 0 ≡ w - w % m + m = omega (arith, split) in
    let fits : ((w / m + 1) * m + 0) % 4096 + (m - 0) ≤ 4096 =
    fits_in_words m (w / m + 1) 0 sized some in
    let fits_there : (w - w % m + m) % 4096 + (m - 0) ≤ 4096 =
    subst (λ z. z % 4096 + (m - 0) ≤ 4096) cut fits in
    record {
      some = some;
      place = less;
      low = omega (arith, split);
      parts = split;
      lower = lower_fits m w (w / m) (w % m) sized split less;
      upper = omega (arith, fits_there, less);
    }

-- each place of a shift has its window among them
pub at_cut : (m w cut i : ℕ) → IsCut m w cut → i ≤ w % m → (cut + i) % m ≡ i
at_cut m w cut i is le =
    let parts : cut + i ≡ (w / m + 1) * m + i = omega (arith, is.parts, is.low) in
    ap (λ z. z % m) parts ∙ mod-mul-add (w / m + 1) m i (omega (arith, le, is.place))

pub after_word : (m w cut j : ℕ) → IsCut m w cut → w % m + 1 + j < m
    → (w + 1 + j) % m ≡ w % m + 1 + j
after_word m w cut j is less =
    let parts : w + 1 + j ≡ w / m * m + (w % m + 1 + j) = omega (arith, is.parts) in
    ap (λ z. z % m) parts ∙ mod-mul-add (w / m) m (w % m + 1 + j) less

-- where a window begins, one size further
four_times : (k m r : ℕ) → k * (4 * m) + 4 * r ≡ 4 * (k * m + r)
four_times k m r = omega arith

pub window-begins : (n q : ℕ) → IsWhole n → q / (n / 4) * n + 4 * (q % (n / 4)) ≡ 4 * q
window-begins n q whole =
    ap (λ z. q / (n / 4) * z + 4 * (q % (n / 4))) whole.words
    ∙ four_times (q / (n / 4)) (n / 4) (q % (n / 4))
    ∙ ap (λ z. 4 * z) (div-add-mod' q (n / 4))

-- the window of a line
pub window-numbered : (n k i : ℕ) → i < n / 4
    → window_line n (k * (n / 4) + i) ≡ grid_line (shifted_grid n i) k
window-numbered n k i less =
    let m : ℕ = n / 4 in
    ap (λ (s : ℕ). record { size = n; offset = 4 * s; number = (k * m + i) / m })
    (mod-mul-add k m i less)
    ∙ ap (λ (r : ℕ). record { size = n; offset = 4 * i; number = r }) (div-mul-add k m i less)

-- whether a window holds an address
pub window-held : (n q x : ℕ) → IsWhole n
    → is_inside (window_line n q) x ≡ (ltb (x / 4) q && leb q (x / 4 + n / 4))
window-held n q x whole =
    elim (cases_lt (x / 4) q) [
      | inl above ↦ elim (cases_lt (x / 4 + n / 4) q) [
        | inl past ↦ window-lacks n q x whole (inr past)
            ∙ sym (rw (lt-ltb _ _ above, lt-leb _ _ past) refl)
        | inr within ↦ window-holds n q x whole above within
            ∙ sym (rw (lt-ltb _ _ above, le-leb _ _ within) refl)
      ]
      | inr low ↦ window-lacks n q x whole (inl low) ∙ sym (rw (le-ltb _ _ low) refl)
    ]

-- the windows on each side of the cut lie in one page
pub lower_page : (m w cut q : ℕ) → IsCut m w cut → w < q → q < cut → q / 4096 ≡ (w + 1) / 4096
lower_page m w cut q is above below =
    let at : w + 1 + (q - (w + 1)) ≡ q = omega (arith, above) in
    let less : q - (w + 1) < m - (w % m + 1) = omega (arith, is.low, is.place, above, below) in
    ap (λ z. z / 4096) (sym at) ∙ (in_page (w + 1) (q - (w + 1)) (m - (w % m + 1)) is.lower less).0

pub upper_page : (m w cut q : ℕ) → IsCut m w cut → cut ≤ q → q ≤ w + m → q / 4096 ≡ cut / 4096
upper_page m w cut q is above below =
    let at : cut + (q - cut) ≡ q = omega (arith, above) in
    let less : q - cut < w % m + 1 = omega (arith, is.low, is.place, above, below) in
    ap (λ z. z / 4096) (sym at) ∙ (in_page cut (q - cut) (w % m + 1) is.upper less).0
