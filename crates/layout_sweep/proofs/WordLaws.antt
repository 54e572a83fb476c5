-- An access in the windows of two line numbers: those from the word on up to the cut, and those
-- from the cut on.
use Rattle.std.proofs.Common.{◌≡◌, ℕ, suc, ◌+◌, ◌-◌, ◌%◌, ◌<◌, ◌≤◌, ◌⊎◌, List, [], ◌∷◌}
use Rattle.std.proofs.Common.{◌++◌, length, slice_get, sym, ◌∙◌, ap, subst, arith}
use Rattle.std.proofs.Common.{inl, inr}
use Rattle.std.specs.Prelude.{option_map}
use Rattle.std.proofs.lemmas.Bool.{cases_lt}
use Rattle.base.specs.Touch.{Touch}
use Rattle.sharing_rules.specs.Laws.Lists.{slice_get-append_left}
use Rattle.layout_sweep.specs.Counts.{AreBelow, swept_after}
use Rattle.layout_sweep.specs.Laws.Least.{within_list}
use Rattle.layout_sweep.specs.Laws.Lines.{IsCut, after_word, at_cut}
use Rattle.layout_sweep.specs.Windows.{window_after}
use Rattle.layout_sweep.specs.declared.counts.Swept.{Swept}
use Rattle.layout_sweep.specs.declared.window.Window.{Window}

pub get-append_right : {X : Type 0} (xs ys : List X) (i : ℕ)
    → slice_get (xs ++ ys) (length xs + i) ≡ slice_get ys i
get-append_right [] ys i = let e : 0 + i ≡ i = omega arith in ap (slice_get ys) e
get-append_right (x ∷ xs) ys i =
    let e : suc (length xs) + i ≡ suc (length xs + i) = omega arith in
    ap (slice_get (x ∷ (xs ++ ys))) e ∙ get-append_right xs ys i

-- a part of numbers that are below a bound
pub front-below : (b : ℕ) (xs ys zs : List Swept) → zs ≡ xs ++ ys → AreBelow b zs → AreBelow b xs
front-below b xs ys zs parts few = λ i x at.
    few i x (ap (λ ws. slice_get ws i) parts
    ∙ slice_get-append_left xs ys i (within_list xs i x at) ∙ at)

pub back-below : (b : ℕ) (xs ys zs : List Swept) → zs ≡ xs ++ ys → AreBelow b zs → AreBelow b ys
back-below b xs ys zs parts few = λ i x at.
    few (length xs + i) x (ap (λ ws. slice_get ws (length xs + i)) parts
    ∙ get-append_right xs ys i ∙ at)

-- Windows before, after the ones from the cut on were noted, and after the others were too.
pub record AreNoted (m w cut : ℕ) (a : Touch) (old mid new : ℕ → Window) : Type 0 where
  pub upper : (i : ℕ) → i < w % m + 1 → mid (cut + i) ≡ window_after (old (cut + i)) a
  pub below : (q : ℕ) → (q < cut) ⊎ (cut + (w % m + 1) ≤ q) → mid q ≡ old q
  pub lower : (i : ℕ) → i < m - (w % m + 1) → new (w + 1 + i) ≡ window_after (mid (w + 1 + i)) a
  pub above : (q : ℕ) → (q < w + 1) ⊎ (w + 1 + (m - (w % m + 1)) ≤ q) → new q ≡ mid q

pub noted_inside : (m w cut : ℕ) (a : Touch) (old mid new : ℕ → Window) → IsCut m w cut
    → AreNoted m w cut a old mid new → (q : ℕ) → w < q → q ≤ w + m
    → new q ≡ window_after (old q) a
noted_inside m w cut a old mid new is noted q first last =
    elim (cases_lt q cut) [
      | inl low ↦
          let i : ℕ = q - (w + 1) in
          let at : w + 1 + i ≡ q = omega (arith, first) in
          let less : i < m - (w % m + 1) = omega (arith, is.low, is.place, first, low) in
          subst (λ (k : ℕ). new k ≡ window_after (old k) a) at
          (noted.lower i less ∙ ap (λ (x : Window). window_after x a)
          (noted.below (w + 1 + i) (inl (omega (arith, at, low)))))
      | inr high ↦
          let i : ℕ = q - cut in
          let at : cut + i ≡ q = omega (arith, high) in
          let less : i < w % m + 1 = omega (arith, is.low, is.place, high, last) in
          subst (λ (k : ℕ). new k ≡ window_after (old k) a) at
          (noted.above (cut + i) (inr (omega (arith, is.low, is.place))) ∙ noted.upper i less)
    ]

pub noted_outside : (m w cut : ℕ) (a : Touch) (old mid new : ℕ → Window) → IsCut m w cut
    → AreNoted m w cut a old mid new → (q : ℕ) → (q ≤ w) ⊎ (w + m < q) → new q ≡ old q
noted_outside m w cut a old mid new is noted q away =
    noted.above q (elim away [
      | inl low ↦ inl (omega (arith, low))
      | inr high ↦ inr (omega (arith, high, is.low, is.place))
    ])
    ∙ noted.below q (elim away [
      | inl low ↦ inl (omega (arith, low, is.low, is.place))
      | inr high ↦ inr (omega (arith, high, is.low, is.place))
    ])

-- What is counted at the shifts up to the word's place, and at those behind it.
pub record AreCounted (w cut : ℕ) (a : Touch) (old mid : ℕ → Window)
    (front back front_new back_new : List Swept) : Type 0 where
  pub front_long : length front_new ≡ length front
  pub upper : (i : ℕ) → slice_get front_new i
      ≡ option_map (λ x. swept_after x (old (cut + i)) a) (slice_get front i)
  pub lower : (i : ℕ) → slice_get back_new i
      ≡ option_map (λ x. swept_after x (mid (w + 1 + i)) a) (slice_get back i)

pub counted_word : (m w cut : ℕ) (a : Touch) (old mid : ℕ → Window)
    (front back front_new back_new : List Swept) → IsCut m w cut
    → length front ≡ w % m + 1
    → ((q : ℕ) → (q < cut) ⊎ (cut + (w % m + 1) ≤ q) → mid q ≡ old q)
    → AreCounted w cut a old mid front back front_new back_new
    → (i q : ℕ) → w < q → q ≤ w + m → q % m ≡ i
    → slice_get (front_new ++ back_new) i
    ≡ option_map (λ x. swept_after x (old q) a) (slice_get (front ++ back) i)
counted_word m w cut a old mid front back front_new back_new is size below counted i q first last
    shift =
    elim (cases_lt q cut) [
      | inl low ↦
          let j : ℕ = q - (w + 1) in
          let at : w + 1 + j ≡ q = omega (arith, first) in
          let less : w % m + 1 + j < m = omega (arith, is.low, is.place, first, low) in
          let place : i ≡ w % m + 1 + j = sym shift ∙ ap (λ z. z % m) (sym at)
          ∙ after_word m w cut j is less in
          let new_place : i ≡ length front_new + j =
          omega (arith, place, size, counted.front_long) in
          let old_place : i ≡ length front + j = omega (arith, place, size) in
          let window : mid (w + 1 + j) ≡ old q =
          below (w + 1 + j) (inl (omega (arith, at, low))) ∙ ap old at in
          ap (slice_get (front_new ++ back_new)) new_place
          ∙ get-append_right front_new back_new j
          ∙ counted.lower j
          ∙ ap (λ (v : Window). option_map (λ x. swept_after x v a) (slice_get back j)) window
          ∙ ap (option_map (λ x. swept_after x (old q) a))
          (sym (ap (slice_get (front ++ back)) old_place ∙ get-append_right front back j))
      | inr high ↦
          let j : ℕ = q - cut in
          let at : cut + j ≡ q = omega (arith, high) in
          let within : j ≤ w % m = omega (arith, is.low, is.place, high, last) in
          let place : i ≡ j = sym shift ∙ ap (λ z. z % m) (sym at) ∙ at_cut m w cut j is within in
          ap (slice_get (front_new ++ back_new)) place
          ∙ slice_get-append_left front_new back_new j
          (omega (arith, within, size, counted.front_long))
          ∙ counted.upper j
          ∙ ap (λ (v : Window). option_map (λ x. swept_after x v a) (slice_get front j)) (ap old at)
          ∙ ap (option_map (λ x. swept_after x (old q) a))
          (sym (ap (slice_get (front ++ back)) place
          ∙ slice_get-append_left front back j (omega (arith, within, size))))
    ]
