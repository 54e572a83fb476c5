-- How the definitions over a heap's live blocks go over a list that is joined of two.
use Rattle.std.proofs.Common.{◌≡◌, ℕ, ◌+◌, ◌-◌, ◌<◌, ◌≤◌, false, List, [], ◌∷◌, ◌++◌, max}
use Rattle.std.proofs.Common.{None, Some, refl, sym, ◌∙◌, inl, inr, arith}
use Rattle.std.specs.Prelude.{◌==◌}
use Rattle.std.specs.Option.{option_or}
use Rattle.std.proofs.lemmas.Bool.Decides.{leb_tells}
use Rattle.std.proofs.lemmas.Bool.{cases_Bool, eq-eqb, le-leb, lt-leb, ne_eqb}
use Rattle.guest.specs.declared.block_tree.LiveBlock.{LiveBlock}
use Rattle.guest.specs.LiveBlocks.{most_free, spanned, AreBehind, DoRise, DoFit, block_at}
use Rattle.guest.specs.LiveBlocks.{first_place, filled, grown, without}

pub spanned_append : (xs ys : List LiveBlock) → spanned (xs ++ ys) ≡ spanned xs + spanned ys
spanned_append [] ys = omega arith
spanned_append (x ∷ xs) ys = omega (arith, spanned_append xs ys)

pub fit_parts : (xs ys : List LiveBlock) → DoFit (xs ++ ys) → DoFit xs × DoFit ys
fit_parts [] ys h = (tt, h)
fit_parts (x ∷ xs) ys h = (let rest = fit_parts xs ys h.1 in ((h.0, rest.0), rest.1))

behind_parts : (addr : ℕ) (xs ys : List LiveBlock) → AreBehind addr (xs ++ ys) → AreBehind addr xs × AreBehind addr ys
behind_parts addr [] ys h = (tt, h)
behind_parts addr (x ∷ xs) ys h = (let rest = behind_parts addr xs ys h.1 in ((h.0, rest.0), rest.1))

pub rise_parts : (xs ys : List LiveBlock) → DoRise (xs ++ ys) → DoRise xs × DoRise ys
rise_parts [] ys h = (tt, h)
rise_parts (x ∷ xs) ys h =
    (let rest = rise_parts xs ys h.1 in (((behind_parts x.addr xs ys h.0).0, rest.0), rest.1))

pub none_behind : (addr from : ℕ) (xs : List LiveBlock) → addr ≤ from → AreBehind from xs → block_at addr xs ≡ None
none_behind addr from [] l h = refl
none_behind addr from (x ∷ xs) l h =
    rw (ne_eqb x.addr addr (omega (arith, h.0))) (none_behind addr from xs l h.1)

-- what is sought before a block isn't behind it, and what is sought behind it isn't before
pub none_right : (addr : ℕ) (xs : List LiveBlock) (b : LiveBlock) (ys : List LiveBlock)
    → DoRise (xs ++ b ∷ ys) → addr ≤ b.addr → block_at addr ys ≡ None
none_right addr xs b ys h l = none_behind addr b.addr ys l (rise_parts xs (b ∷ ys) h).1.0

pub none_left : (addr : ℕ) (xs : List LiveBlock) (b : LiveBlock) (ys : List LiveBlock)
    → DoRise (xs ++ b ∷ ys) → b.addr ≤ addr → block_at addr xs ≡ None
none_left addr [] b ys h l = refl
none_left addr (x ∷ xs) b ys h l =
    let before = (behind_parts x.addr xs (b ∷ ys) h.0).1.0 in
    rw (ne_eqb x.addr addr (omega (arith, before))) (none_left addr xs b ys h.1 l)

pub block_at_append : (addr : ℕ) (xs ys : List LiveBlock) → block_at addr (xs ++ ys)
    ≡ option_or (block_at addr xs) (block_at addr ys)
block_at_append addr [] ys = refl
block_at_append addr (x ∷ xs) ys =
    elim (cases_Bool (x.addr == addr)) [
      | inl here ↦ rw here refl
      | inr other ↦ rw other (block_at_append addr xs ys)
    ]

-- the first place in a list that is joined of two is in the first where that has room
module _ (bytes : ℕ) where
  pub place_here : (at gap : ℕ) (bs : List LiveBlock) → bytes ≤ gap → first_place bytes at gap bs ≡ Some at
  place_here at gap [] l = rw (le-leb bytes gap l) refl
  place_here at gap (b ∷ bs) l = rw (le-leb bytes gap l) refl

  pub place_left : (at gap : ℕ) (xs ys : List LiveBlock) → bytes ≤ max gap (most_free xs)
      → first_place bytes at gap (xs ++ ys) ≡ first_place bytes at gap xs
  place_left at gap [] ys h =
      (let l : bytes ≤ gap = omega (arith, h) in place_here at gap ys l ∙ sym (place_here at gap [] l))
  place_left at gap (x ∷ xs) ys h = elim (leb_tells bytes gap) [
    | inl l ↦ rw l.0 refl
    | inr m ↦ rw m.0 (place_left (x.addr + x.bytes) x.gap xs ys (omega (arith, h, m.1)))
  ]

  pub place_right : (at gap : ℕ) (xs : List LiveBlock) (b : LiveBlock) (ys : List LiveBlock) → gap < bytes
      → most_free xs < bytes
      → first_place bytes at gap (xs ++ b ∷ ys) ≡ first_place bytes (b.addr + b.bytes) b.gap ys
  place_right at gap [] b ys g h = rw (lt-leb bytes gap g) refl
  place_right at gap (x ∷ xs) b ys g h =
      rw (lt-leb bytes gap g) (place_right (x.addr + x.bytes) x.gap xs b ys (omega (arith, h)) (omega (arith, h)))

module _ (bytes number : ℕ) where
  pub filled_here : (at gap : ℕ) (bs : List LiveBlock) → bytes ≤ gap → filled bytes number at gap bs
      ≡ (0, record { addr = at; bytes = bytes; number = number; gap = gap - bytes } ∷ bs)
  filled_here at gap [] l = rw (le-leb bytes gap l) refl
  filled_here at gap (b ∷ bs) l = rw (le-leb bytes gap l) refl

  pub filled_left : (at gap : ℕ) (xs ys : List LiveBlock) → bytes ≤ max gap (most_free xs)
      → filled bytes number at gap (xs ++ ys)
      ≡ ((filled bytes number at gap xs).0, (filled bytes number at gap xs).1 ++ ys)
  filled_left at gap [] ys h =
      (let l : bytes ≤ gap = omega (arith, h) in rw (filled_here at gap ys l, filled_here at gap [] l) refl)
  filled_left at gap (x ∷ xs) ys h = elim (leb_tells bytes gap) [
    | inl l ↦ rw l.0 refl
    | inr m ↦ rw (m.0, filled_left (x.addr + x.bytes) x.gap xs ys (omega (arith, h, m.1))) refl
  ]

  pub filled_right : (at gap : ℕ) (xs : List LiveBlock) (b : LiveBlock) (ys : List LiveBlock) → gap < bytes
      → most_free xs < bytes → filled bytes number at gap (xs ++ b ∷ ys)
      ≡ (
        gap,
        xs ++ record b { gap = (filled bytes number (b.addr + b.bytes) b.gap ys).0 }
            ∷ (filled bytes number (b.addr + b.bytes) b.gap ys).1,
      )
  filled_right at gap [] b ys g h = rw (lt-leb bytes gap g) refl
  filled_right at gap (x ∷ xs) b ys g h =
      rw (
        lt-leb bytes gap g,
        filled_right (x.addr + x.bytes) x.gap xs b ys (omega (arith, h)) (omega (arith, h)),
      ) refl

pub grown_right : (bytes gap : ℕ) (xs : List LiveBlock) (b : LiveBlock) (ys : List LiveBlock)
    → grown bytes gap (xs ++ b ∷ ys)
    ≡ (gap, xs ++ record b { gap = (grown bytes b.gap ys).0 } ∷ (grown bytes b.gap ys).1)
grown_right bytes gap [] b ys = refl
grown_right bytes gap (x ∷ xs) b ys = rw (grown_right bytes x.gap xs b ys) refl

module _ (addr : ℕ) where
  pub without_none : (gap : ℕ) (bs : List LiveBlock) → block_at addr bs ≡ None → without addr gap bs ≡ (gap, bs)
  without_none gap [] none = refl
  without_none gap (b ∷ bs) none = elim (cases_Bool (b.addr == addr)) [
    | inl here ↦ absurd (some_none b (rw here at none))
    | inr other ↦ rw (other, without_none b.gap bs (rw other at none)) refl
  ]
    where
      some_none : (b : LiveBlock) → Some b ≡ None → ⊥
      some_none b e = cc

  pub without_left : (gap : ℕ) (xs ys : List LiveBlock) → block_at addr ys ≡ None → without addr gap (xs ++ ys)
      ≡ ((without addr gap xs).0, (without addr gap xs).1 ++ ys)
  without_left gap [] ys none = without_none gap ys none
  without_left gap (x ∷ xs) ys none = elim (cases_Bool (x.addr == addr)) [
    | inl here ↦ rw here refl
    | inr other ↦ rw (other, without_left x.gap xs ys none) refl
  ]

  tail_none : (x : LiveBlock) (xs : List LiveBlock) → block_at addr (x ∷ xs) ≡ None
      → ((x.addr == addr) ≡ false) × (block_at addr xs ≡ None)
  tail_none x xs none = elim (cases_Bool (x.addr == addr)) [
    | inl here ↦ absurd (some_none x (rw here at none))
    | inr other ↦ (other, rw other at none)
  ]
    where
      some_none : (b : LiveBlock) → Some b ≡ None → ⊥
      some_none b e = cc

  pub without_right : (gap : ℕ) (xs : List LiveBlock) (b : LiveBlock) (ys : List LiveBlock)
      → block_at addr xs ≡ None → b.addr < addr → without addr gap (xs ++ b ∷ ys)
      ≡ (gap, xs ++ record b { gap = (without addr b.gap ys).0 } ∷ (without addr b.gap ys).1)
  without_right gap [] b ys none l = rw (ne_eqb b.addr addr (omega (arith, l))) refl
  without_right gap (x ∷ xs) b ys none l =
      (let t = tail_none x xs none in rw (t.0, without_right x.gap xs b ys t.1 l) refl)

  pub without_here : (gap : ℕ) (xs : List LiveBlock) (b : LiveBlock) (ys : List LiveBlock)
      → block_at addr xs ≡ None → b.addr ≡ addr → without addr gap (xs ++ b ∷ ys)
      ≡ ((grown (b.bytes + b.gap) gap xs).0, (grown (b.bytes + b.gap) gap xs).1 ++ ys)
  without_here gap [] b ys none e = rw (eq-eqb b.addr addr e) refl
  without_here gap (x ∷ xs) b ys none e =
      (let t = tail_none x xs none in rw (t.0, without_here x.gap xs b ys t.1 e) refl)
