-- A heap that is tiled by its live blocks and the gaps between them.
use Rattle.std.proofs.Common.{◌≡◌, ◌≢◌, ℕ, ◌+◌, ◌-◌, ◌%◌, ◌^◌, ◌<◌, ◌≤◌, List, [], ◌∷◌, max}
use Rattle.std.proofs.Common.{Option, None, Some, refl, ap, inl, inr, arith}
use Rattle.std.specs.Prelude.{◌==◌}
use Rattle.std.specs.Option.{option_map}
use Rattle.std.proofs.lemmas.Bool.Decides.{leb_tells}
use Rattle.std.proofs.lemmas.Bool.{cases_Bool, cases_lt, eqb-true, eq-eqb, ne_eqb}
use Rattle.std.proofs.lemmas.Option.{none-some}
use Rattle.guest.specs.declared.block_tree.LiveBlock.{LiveBlock}
use Rattle.guest.specs.LiveBlocks.{most_free, spanned, AreBehind, DoRise, DoFit, block_at}
use Rattle.guest.specs.LiveBlocks.{first_place, filled, without}
use Rattle.guest.specs.HeapLayout.{IsTiled, bytes_at}
use Rattle.guest.proofs.BlockLaws.{none_behind, place_here}

-- no live block has an address in common with so many bytes from a place on
abbrev pub IsClear : (ℕ → Option ℕ) → ℕ → ℕ → Type 0
IsClear g place bytes = (p m : ℕ) → g p ≡ Some m → p < place + bytes → place < p + m → ⊥

-- the same, block for block
abbrev pub AreClear : ℕ → ℕ → List LiveBlock → Type 0
AreClear place bytes [] = Unit {0}
AreClear place bytes (b ∷ bs) =
    (b.addr < place + bytes → place < b.addr + b.bytes → ⊥) × AreClear place bytes bs

-- the gaps and the blocks make up the whole
pub tiled-span : (at gap end : ℕ) (bs : List LiveBlock) → IsTiled at gap end bs → at + gap + spanned bs ≡ end
tiled-span at gap end [] h = omega (arith, h.1)
tiled-span at gap end (b ∷ bs) h =
    omega (arith, h.1, tiled-span (b.addr + b.bytes) b.gap end bs h.3)

tiled-behind : (a at gap end : ℕ) (bs : List LiveBlock) → a < at → IsTiled at gap end bs → AreBehind a bs
tiled-behind a at gap end [] l h = tt
tiled-behind a at gap end (b ∷ bs) l h = (
  omega (arith, l, h.1),
  tiled-behind a (b.addr + b.bytes) b.gap end bs (omega (arith, l, h.1)) h.3,
)

pub tiled-rise : (at gap end : ℕ) (bs : List LiveBlock) → IsTiled at gap end bs → DoRise bs
tiled-rise at gap end [] h = tt
tiled-rise at gap end (b ∷ bs) h = (
  tiled-behind b.addr (b.addr + b.bytes) b.gap end bs (omega (arith, h.2)) h.3,
  tiled-rise (b.addr + b.bytes) b.gap end bs h.3,
)

pub tiled-fit : (at gap end : ℕ) (bs : List LiveBlock) → end < 2 ^ 32 → IsTiled at gap end bs → DoFit bs
tiled-fit at gap end [] l h = tt
tiled-fit at gap end (b ∷ bs) l h = (
  omega (arith, l, tiled-span (b.addr + b.bytes) b.gap end bs h.3),
  tiled-fit (b.addr + b.bytes) b.gap end bs l h.3,
)

-- the gap in which a block is made is split
pub tiled-filled : (bytes number at gap end : ℕ) (bs : List LiveBlock) → bytes % 16 ≡ 0 → 16 ≤ bytes
    → IsTiled at gap end bs
    → IsTiled at (filled bytes number at gap bs).0 end (filled bytes number at gap bs).1
tiled-filled bytes number at gap end [] even some h = elim (leb_tells bytes gap) [
  | inl l ↦ rw l.0 (h.0, omega arith, some, (omega (arith, h.0, even), omega (arith, h.1, l.1)))
  | inr m ↦ rw m.0 h
]
tiled-filled bytes number at gap end (b ∷ bs) even some h = elim (leb_tells bytes gap) [
  | inl l ↦ rw l.0
      (h.0, omega arith, some, (omega (arith, h.0, even), omega (arith, h.1, l.1), h.2, h.3))
  | inr m ↦ rw m.0
      (h.0, h.1, h.2, tiled-filled bytes number (b.addr + b.bytes) b.gap end bs even some h.3)
]

-- where a block dies, the gaps around it are joined
tiled-joined : (at gap end : ℕ) (b : LiveBlock) (bs : List LiveBlock) → at % 16 ≡ 0 → at + gap ≡ b.addr
    → IsTiled (b.addr + b.bytes) b.gap end bs → IsTiled at (gap + (b.bytes + b.gap)) end bs
tiled-joined at gap end b [] even is h = (even, omega (arith, is, h.1))
tiled-joined at gap end b (c ∷ bs) even is h = (even, omega (arith, is, h.1), h.2, h.3)

pub tiled-without : (addr at gap end : ℕ) (bs : List LiveBlock) → IsTiled at gap end bs
    → IsTiled at (without addr gap bs).0 end (without addr gap bs).1
tiled-without addr at gap end [] h = h
tiled-without addr at gap end (b ∷ bs) h = elim (cases_Bool (b.addr == addr)) [
  | inl here ↦ rw here (tiled-joined at gap end b bs h.0 h.1 h.3)
  | inr other ↦ rw other
      (h.0, h.1, h.2, tiled-without addr (b.addr + b.bytes) b.gap end bs h.3)
]

clear-before : (place bytes at gap end : ℕ) (bs : List LiveBlock) → place + bytes ≤ at
    → IsTiled at gap end bs → AreClear place bytes bs
clear-before place bytes at gap end [] l h = tt
clear-before place bytes at gap end (b ∷ bs) l h = (
  λ before behind. omega (arith, l, h.1, before),
  clear-before place bytes (b.addr + b.bytes) b.gap end bs (omega (arith, l, h.1)) h.3,
)

-- what the first place that is free is
pub record IsPlaced (bytes at end place : ℕ) (bs : List LiveBlock) : Type 0 where
  pub aligned : place % 16 ≡ 0
  pub begins : at ≤ place
  pub ends : place + bytes ≤ end
  pub clear : AreClear place bytes bs
  pub fresh : block_at place bs ≡ None

pub placed : (bytes at gap end place : ℕ) (bs : List LiveBlock) → 16 ≤ bytes → IsTiled at gap end bs
    → first_place bytes at gap bs ≡ Some place → IsPlaced bytes at end place bs
placed bytes at gap end place [] some h is = elim (leb_tells bytes gap) [
  | inl l ↦ let same : at ≡ place = (let e : Some at ≡ Some place = rw l.0 at is in cc) in
      record {
        aligned = rw (← same) h.0;
        begins = omega (arith, same);
        ends = omega (arith, same, l.1, h.1);
        clear = tt;
        fresh = refl;
      }
  | inr m ↦ absurd (none-some place (rw m.0 at is))
]
placed bytes at gap end place (b ∷ bs) some h is = elim (leb_tells bytes gap) [
  | inl l ↦ let same : at ≡ place = (let e : Some at ≡ Some place = rw l.0 at is in cc) in
      let before : place < b.addr = omega (arith, same, l.1, h.1, some) in
      let whole = tiled-span (b.addr + b.bytes) b.gap end bs h.3 in
      record {
        aligned = rw (← same) h.0;
        begins = omega (arith, same);
        ends = omega (arith, same, l.1, h.1, whole);
        clear = (
          λ meets behind. omega (arith, same, l.1, h.1, meets),
          clear-before place bytes (b.addr + b.bytes) b.gap end bs (omega (arith, same, l.1, h.1))
              h.3,
        );
        fresh = rw (ne_eqb b.addr place (omega (arith, before)))
            (none_behind place b.addr bs (omega (arith, before)) (tiled-rise at gap end (b ∷ bs) h).0);
      }
  | inr m ↦ let rest = placed bytes (b.addr + b.bytes) b.gap end place bs some h.3
      (rw m.0 at is) in
      record {
        aligned = rest.aligned;
        begins = omega (arith, rest.begins, h.1);
        ends = rest.ends;
        clear = (λ meets behind. omega (arith, rest.begins, behind), rest.clear);
        fresh = rw (ne_eqb b.addr place (omega (arith, rest.begins, h.2))) rest.fresh;
      }
]

pub some-place : (bytes at gap : ℕ) (bs : List LiveBlock) → bytes ≤ max gap (most_free bs)
    → (place : ℕ) × (first_place bytes at gap bs ≡ Some place)
some-place bytes at gap [] held = (at, place_here bytes at gap [] (omega (arith, held)))
some-place bytes at gap (b ∷ bs) held = elim (leb_tells bytes gap) [
  | inl l ↦ (at, rw l.0 refl)
  | inr m ↦ (let rest = some-place bytes (b.addr + b.bytes) b.gap bs (omega (arith, held, m.1)) in
      (rest.0, rw m.0 rest.1))
]

-- a clear place lies in a gap
pub none-before : (bytes at gap end place q : ℕ) (bs : List LiveBlock) → 16 ≤ bytes
    → IsTiled at gap end bs → first_place bytes at gap bs ≡ Some place → at ≤ q → q + bytes ≤ end
    → AreClear q bytes bs → place ≤ q
none-before bytes at gap end place q [] some h is from to clear = elim (leb_tells bytes gap) [
  | inl l ↦ (let same : at ≡ place = (let e : Some at ≡ Some place = rw l.0 at is in cc) in
      omega (arith, same, from))
  | inr m ↦ absurd (none-some place (rw m.0 at is))
]
none-before bytes at gap end place q (b ∷ bs) some h is from to clear = elim (leb_tells bytes gap) [
  | inl l ↦ (let same : at ≡ place = (let e : Some at ≡ Some place = rw l.0 at is in cc) in
      omega (arith, same, from))
  | inr m ↦ none-before bytes (b.addr + b.bytes) b.gap end place q bs some h.3 (rw m.0 at is)
      (elim (cases_lt q (b.addr + b.bytes)) [
        | inl less ↦ absurd (clear.0 (omega (arith, from, m.1, h.1)) less)
        | inr more ↦ more
      ]) to clear.1
]

pub none-anywhere : (bytes at gap end q : ℕ) (bs : List LiveBlock) → IsTiled at gap end bs
    → max gap (most_free bs) < bytes → at ≤ q → q + bytes ≤ end → AreClear q bytes bs → ⊥
none-anywhere bytes at gap end q [] h short from to clear = omega (arith, short, from, to, h.1)
none-anywhere bytes at gap end q (b ∷ bs) h short from to clear =
    none-anywhere bytes (b.addr + b.bytes) b.gap end q bs h.3 (omega (arith, short))
    (elim (cases_lt q (b.addr + b.bytes)) [
      | inl less ↦ absurd (clear.0 (omega (arith, from, short, h.1)) less)
      | inr more ↦ more
    ]) to clear.1

-- a test by blocks, and by the addresses at which they begin
found-behind : (a p : ℕ) (bs : List LiveBlock) (m : ℕ) → AreBehind a bs → bytes_at bs p ≡ Some m → a < p
found-behind a p [] m h is = absurd (none-some m is)
found-behind a p (b ∷ bs) m h is = elim (cases_Bool (b.addr == p)) [
  | inl here ↦ omega (arith, eqb-true b.addr p here, h.0)
  | inr other ↦ found-behind a p bs m h.1 (rw other at is)
]

pub clear-all : (place bytes : ℕ) (bs : List LiveBlock) → DoRise bs → IsClear (bytes_at bs) place bytes
    → AreClear place bytes bs
clear-all place bytes [] h clear = tt
clear-all place bytes (b ∷ bs) h clear = (
  λ before behind. clear b.addr b.bytes (rw (eq-eqb b.addr b.addr refl) refl) before behind,
  clear-all place bytes bs h.1 (λ p m is. clear p m
      (rw (ne_eqb b.addr p (omega (arith, found-behind b.addr p bs m h.0 is))) is)),
)

pub clear-each : (place bytes : ℕ) (bs : List LiveBlock) → AreClear place bytes bs
    → IsClear (bytes_at bs) place bytes
clear-each place bytes [] clear p m is = absurd (none-some m is)
clear-each place bytes (b ∷ bs) clear p m is = elim (cases_Bool (b.addr == p)) [
  | inl here ↦ (let at : b.addr ≡ p = eqb-true b.addr p here in
      let taken : b.bytes ≡ m = (let e : Some b.bytes ≡ Some m = rw here at is in cc) in
      λ before behind. clear.0 (omega (arith, at, before)) (omega (arith, at, taken, behind)))
  | inr other ↦ clear-each place bytes bs clear.1 p m (rw other at is)
]

-- what is known of a block, its gap left out, once another one is made or dies
module _ (f : LiveBlock → ℕ) (same : (b : LiveBlock) (g : ℕ) → f (record b { gap = g }) ≡ f b) where
  pub filled-others : (bytes number at gap end place q : ℕ) (bs : List LiveBlock) → q ≢ place
      → first_place bytes at gap bs ≡ Some place
      → option_map f (block_at q (filled bytes number at gap bs).1) ≡ option_map f (block_at q bs)
  filled-others bytes number at gap end place q [] apart is = elim (leb_tells bytes gap) [
    | inl l ↦ (let here : at ≡ place = (let e : Some at ≡ Some place = rw l.0 at is in cc) in
        rw (l.0, ne_eqb at q (omega (arith, here, apart))) refl)
    | inr m ↦ rw m.0 refl
  ]
  filled-others bytes number at gap end place q (b ∷ bs) apart is = elim (leb_tells bytes gap) [
    | inl l ↦ (let here : at ≡ place = (let e : Some at ≡ Some place = rw l.0 at is in cc) in
        rw (l.0, ne_eqb at q (omega (arith, here, apart))) refl)
    | inr m ↦ elim (cases_Bool (b.addr == q)) [
      | inl here ↦ rw (m.0, here) (ap Some (same b _))
      | inr other ↦ rw (m.0, other)
          (filled-others bytes number (b.addr + b.bytes) b.gap end place q bs apart (rw m.0 at is))
    ]
  ]

  pub without-others : (addr gap q : ℕ) (bs : List LiveBlock) → q ≢ addr
      → option_map f (block_at q (without addr gap bs).1) ≡ option_map f (block_at q bs)
  without-others addr gap q [] apart = refl
  without-others addr gap q (b ∷ bs) apart = elim (cases_Bool (b.addr == addr)) [
    | inl here ↦ (let at : b.addr ≡ addr = eqb-true b.addr addr here in
        rw (here, ne_eqb b.addr q (omega (arith, at, apart))) refl)
    | inr other ↦ elim (cases_Bool (b.addr == q)) [
      | inl there ↦ rw (other, there) (ap Some (same b _))
      | inr neither ↦ rw (other, neither) (without-others addr b.gap q bs apart)
    ]
  ]

pub filled-new : (bytes number at gap end place : ℕ) (bs : List LiveBlock) → 16 ≤ bytes
    → IsTiled at gap end bs → first_place bytes at gap bs ≡ Some place
    → (g : ℕ) × (block_at place (filled bytes number at gap bs).1
    ≡ Some (record { addr = place; bytes = bytes; number = number; gap = g }))
filled-new bytes number at gap end place [] some h is = elim (leb_tells bytes gap) [
  | inl l ↦ (let here : at ≡ place = (let e : Some at ≡ Some place = rw l.0 at is in cc) in
      (gap - bytes, rw (l.0, here, eq-eqb place place refl) refl))
  | inr m ↦ absurd (none-some place (rw m.0 at is))
]
filled-new bytes number at gap end place (b ∷ bs) some h is = elim (leb_tells bytes gap) [
  | inl l ↦ (let here : at ≡ place = (let e : Some at ≡ Some place = rw l.0 at is in cc) in
      (gap - bytes, rw (l.0, here, eq-eqb place place refl) refl))
  | inr m ↦
      let inner : first_place bytes (b.addr + b.bytes) b.gap bs ≡ Some place = rw m.0 at is in
      let begins = (placed bytes (b.addr + b.bytes) b.gap end place bs some h.3 inner).begins in
      let rest = filled-new bytes number (b.addr + b.bytes) b.gap end place bs some h.3 inner in
      (rest.0, rw (m.0, ne_eqb b.addr place (omega (arith, begins, h.2))) rest.1)
]

pub without-gone : (addr gap : ℕ) (bs : List LiveBlock) → DoRise bs
    → block_at addr (without addr gap bs).1 ≡ None
without-gone addr gap [] h = refl
without-gone addr gap (b ∷ bs) h = elim (cases_Bool (b.addr == addr)) [
  | inl here ↦ rw here (none_behind addr b.addr bs (omega (arith, eqb-true b.addr addr here)) h.0)
  | inr other ↦ rw (other, other) (without-gone addr b.gap bs h.1)
]
