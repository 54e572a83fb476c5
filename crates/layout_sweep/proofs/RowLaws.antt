-- Windows in a row of one page, each counted at the shift behind that of the one before.
use Rattle.std.proofs.Common.{◌≡◌, ℕ, ◌+◌, ◌-◌, ◌*◌, ◌/◌, ◌%◌, ◌<◌, ◌≤◌, ◌⊎◌, true, List, length, slice_get}
use Rattle.std.proofs.Common.{refl, sym, ◌∙◌, ap, subst, arith, inl, inr, nat_lt}
use Rattle.std.specs.Prelude.{if◌then◌else◌, option_map, slice_set}
use Rattle.std.proofs.lemmas.Bool.{cases_lt, le-ltb, lt-ltb}
use Rattle.std.proofs.lemmas.List.{with_items_is}
use Rattle.std.specs.Vec.{with_items}
use Rattle.std.specs.declared.vec.Vec.{Vec}
use Rattle.std.specs.declared.alloc.Global.{Global}
use Rattle.base.specs.Touch.{Touch}
use Rattle.layout_sweep.specs.Counts.{swept_after}
use Rattle.layout_sweep.specs.Laws.Lines.{after_word, at_cut, cut_is, in_page}
use Rattle.layout_sweep.specs.Pages.{HasRow, IsTurned, page_at, window_at, window_in}
use Rattle.layout_sweep.specs.Windows.{is_swept_size, window_after}
use Rattle.layout_sweep.specs.declared.counts.Swept.{Swept}
use Rattle.layout_sweep.specs.declared.window.Window.{Window}
use Rattle.layout_sweep.proofs.PageLaws.{at_place, kept_outside, page_at-same}

-- the shift behind one of m
abbrev pub behind : ℕ → ℕ → ℕ
behind m j = if nat_lt (j + 1) m then j + 1 else 0

pub turned-next : (m f i j : ℕ) → f < m → i < m → IsTurned m f i j
    → IsTurned m f (i + 1) (behind m j)
turned-next m f i j first less at =
    elim (cases_lt (j + 1) m) [
      | inl more ↦
          let next : IsTurned m f (i + 1) (j + 1) = record {
            low = more;
            behind = elim at.behind [
              | inl h ↦ inl (omega (arith, h))
              | inr h ↦ inr (omega (arith, h))
            ];
          } in
          rw (lt-ltb _ _ more) next
      | inr last ↦
          let next : IsTurned m f (i + 1) 0 = record {
            low = omega (arith, first);
            behind = elim at.behind [
              | inl h ↦ inr (omega (arith, h, last, at.low))
              | inr h ↦ absurd (omega (arith, h, last, at.low, first, less))
            ];
          } in
          rw (le-ltb _ _ last) next
    ]

-- each window has one shift, and two windows have two
pub turned-same : (m f i j k : ℕ) → IsTurned m f i j → IsTurned m f i k → j ≡ k
turned-same m f i j k x y =
    elim x.behind [
      | inl a ↦ elim y.behind [
        | inl b ↦ omega (arith, a, b)
        | inr b ↦ absurd (omega (arith, a, b, x.low))
      ]
      | inr a ↦ elim y.behind [
        | inl b ↦ absurd (omega (arith, a, b, y.low))
        | inr b ↦ omega (arith, a, b)
      ]
    ]

pub turned-apart : (m f h i j k : ℕ) → h < i → i < m → IsTurned m f h j → IsTurned m f i k
    → j ≡ k → ⊥
turned-apart m f h i j k less within x y same =
    elim x.behind [
      | inl a ↦ elim y.behind [
        | inl b ↦ omega (arith, a, b, less, same)
        | inr b ↦ omega (arith, a, b, less, within, same)
      ]
      | inr a ↦ elim y.behind [
        | inl b ↦ omega (arith, a, b, less, same)
        | inr b ↦ omega (arith, a, b, less, same)
      ]
    ]

pub behind-low : (m j : ℕ) → j < m → behind m j < m
behind-low m j less =
    elim (cases_lt (j + 1) m) [
      | inl more ↦ rw (lt-ltb _ _ more) more
      | inr last ↦ let some : 0 < m = omega (arith, less) in rw (le-ltb _ _ last) some
    ]

-- the shift of a window that holds word w, where the row begins behind it
turned_low : (m p f j i : ℕ) → f ≡ behind m p → p + 1 + j < m → i ≡ p + 1 + j → IsTurned m f j i
turned_low m p f j i first less is =
    let more : p + 1 < m = omega (arith, less) in
    let at : f ≡ p + 1 = first ∙ rw (lt-ltb _ _ more) refl in
    record { low = omega (arith, less, is); behind = inl (omega (arith, at, is)) }

turned_high : (m p f k i : ℕ) → f ≡ behind m p → p < m → i < m → k + p + 1 ≡ m + i
    → IsTurned m f k i
turned_high m p f k i first less low is =
    elim (cases_lt (p + 1) m) [
      | inl more ↦
          let at : f ≡ p + 1 = first ∙ rw (lt-ltb _ _ more) refl in
          record { low = low; behind = inr (omega (arith, at, is)) }
      | inr last ↦
          let at : f ≡ 0 = first ∙ rw (le-ltb _ _ last) refl in
          record { low = low; behind = inl (omega (arith, at, is, last, less)) }
    ]

pub turned_place : (m w f q i : ℕ) → is_swept_size (4 * m) ≡ true → f ≡ behind m (w % m) → w < q
    → q ≤ w + m → q % m ≡ i → IsTurned m f (q - (w + 1)) i
turned_place m w f q i sized first above below shift =
    let cut : ℕ = w - w % m + m in
    let is = cut_is m w sized in
    let p : ℕ = w % m in
    elim (cases_lt q cut) [
      | inl low ↦
          let j : ℕ = q - (w + 1) in
          let at : w + 1 + j ≡ q = omega (arith, above) in
          let less : p + 1 + j < m = omega (arith, is.low, is.place, above, low) in
          turned_low m p f j i first less
          (sym shift ∙ ap (λ z. z % m) (sym at) ∙ after_word m w cut j is less)
      | inr high ↦
          let j : ℕ = q - cut in
          let at : cut + j ≡ q = omega (arith, high) in
          let within : j ≤ p = omega (arith, is.low, is.place, high, below) in
          let place : i ≡ j = sym shift ∙ ap (λ z. z % m) (sym at) ∙ at_cut m w cut j is within in
          turned_high m p f (q - (w + 1)) i first is.place
          (omega (arith, place, within, is.place))
          (omega (arith, place, at, is.low, above))
    ]

-- The windows of a page before and after those in a row from b on were noted.
pub record IsRowNoted (m b : ℕ) (a : Touch) (old new : List Window) : Type 0 where
  pub inside : (i : ℕ) → i < m
      → window_in new (b % 4096 + i) ≡ window_after (window_in old (b % 4096 + i)) a
  pub outside : (q : ℕ) → (q < b % 4096) ⊎ (b % 4096 + m ≤ q)
      → window_in new q ≡ window_in old q

pub near_inside : (pages : List (Vec Window Global)) (w m : ℕ) (v : Vec Window Global)
    (old : List Window) (a : Touch) → HasRow pages (w + 1) m → page_at pages ((w + 1) / 4096) ≡ old
    → IsRowNoted m (w + 1) a old v.items → (q : ℕ) → w < q → q ≤ w + m
    → window_at (slice_set pages ((w + 1) / 4096) v) q ≡ window_after (window_at pages q) a
near_inside pages w m v old a row held noted q first last =
    let b : ℕ = w + 1 in
    let i : ℕ = q - b in
    let at : b + i ≡ q = omega (arith, first) in
    let less : i < m = omega (arith, first, last) in
    let there = in_page b i m row.near less in
    subst (λ (k : ℕ). window_at (slice_set pages (b / 4096) v) k ≡ window_after (window_at pages k) a)
    at
    (at_place (slice_set pages (b / 4096) v) b i v.items there
    (page_at-same pages (b / 4096) v row.page)
    ∙ noted.inside i less
    ∙ ap (λ (x : Window). window_after x a) (sym (at_place pages b i old there held)))

pub near_outside : (pages : List (Vec Window Global)) (w m : ℕ) (v : Vec Window Global)
    (old : List Window) (a : Touch) → HasRow pages (w + 1) m → page_at pages ((w + 1) / 4096) ≡ old
    → IsRowNoted m (w + 1) a old v.items → (q : ℕ) → (q ≤ w) ⊎ (w + m < q)
    → window_at (slice_set pages ((w + 1) / 4096) v) q ≡ window_at pages q
near_outside pages w m v old a row held noted q away =
    kept_outside pages (w + 1) q m v row.page
    (λ k far. noted.outside k far ∙ ap (λ xs. window_in xs k) (sym held))
    (elim away [
      | inl low ↦ inl (omega (arith, low))
      | inr high ↦ inr (omega (arith, high))
    ])

-- the page is that of a vector, whose items were replaced
pub row_noted : (m b : ℕ) (a : Touch) (v : Vec Window Global) (view ws : List Window)
    → view ≡ v.items → length ws ≡ length view
    → ((i : ℕ) → i < m
    → window_in ws (b % 4096 + i) ≡ window_after (window_in view (b % 4096 + i)) a)
    → ((q : ℕ) → (q < b % 4096) ⊎ (b % 4096 + m ≤ q) → window_in ws q ≡ window_in view q)
    → IsRowNoted m b a v.items (with_items v ws).items
row_noted m b a v view ws same long inside outside =
    subst (λ (xs : List Window). IsRowNoted m b a v.items xs)
    (sym (with_items_is v ws (long ∙ ap length same ∙ sym v.ok.0)))
    (subst (λ (old : List Window). IsRowNoted m b a old ws) same
    (record { inside = inside; outside = outside }))

-- What is counted of a row at each shift.
abbrev pub AreTurned : (m f b : ℕ) (a : Touch) (old : List Window) (xs ys : List Swept) → Type 0
AreTurned m f b a old xs ys =
    (i j : ℕ) → i < m → IsTurned m f i j → slice_get ys j
    ≡ option_map (λ x. swept_after x (window_in old (b % 4096 + i)) a) (slice_get xs j)

pub near_counts : (pages : List (Vec Window Global)) (w m f : ℕ) (old : List Window) (a : Touch)
    (xs ys : List Swept) → is_swept_size (4 * m) ≡ true → f ≡ behind m (w % m)
    → HasRow pages (w + 1) m → page_at pages ((w + 1) / 4096) ≡ old
    → AreTurned m f (w + 1) a old xs ys → (i q : ℕ) → w < q → q ≤ w + m → q % m ≡ i
    → slice_get ys i ≡ option_map (λ x. swept_after x (window_at pages q) a) (slice_get xs i)
near_counts pages w m f old a xs ys sized first row held counted i q above below shift =
    let b : ℕ = w + 1 in
    let k : ℕ = q - b in
    let at : b + k ≡ q = omega (arith, above) in
    let less : k < m = omega (arith, above, below) in
    let there = in_page b k m row.near less in
    let window : window_in old (b % 4096 + k) ≡ window_at pages q =
    sym (at_place pages b k old there held) ∙ ap (window_at pages) at in
    counted k i less (turned_place m w f q i sized first above below shift)
    ∙ ap (λ (v : Window). option_map (λ x. swept_after x v a) (slice_get xs i)) window

-- a row is there as far as each of its windows is
pub row-has : (pages : List (Vec Window Global)) (w m : ℕ) → HasRow pages (w + 1) m → (q : ℕ)
    → w < q → q ≤ w + m → nat_lt (q % 4096) (length (page_at pages (q / 4096))) ≡ true
row-has pages w m row q above below =
    let b : ℕ = w + 1 in
    let i : ℕ = q - b in
    let at : b + i ≡ q = omega (arith, above) in
    let less : i < m = omega (arith, above, below) in
    let there = in_page b i m row.near less in
    let page : q / 4096 ≡ b / 4096 = ap (λ z. z / 4096) (sym at) ∙ there.0 in
    let place : q % 4096 ≡ b % 4096 + i = ap (λ z. z % 4096) (sym at) ∙ there.1 in
    let low : q % 4096 < length (page_at pages (b / 4096)) =
    omega (arith, place, row.there, less) in
    lt-ltb _ _ (subst (λ k. q % 4096 < length (page_at pages k)) (sym page) low)
