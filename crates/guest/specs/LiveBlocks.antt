-- The live blocks of a heap in the order of addresses, each with the free bytes behind it, and the
-- free bytes before the first of them.
use Rattle.std.specs.Prelude.{ℕ, ◌+◌, ◌-◌, ◌^◌, ◌<◌, max, List, [], ◌∷◌, ◌==◌, nat_le}
use Rattle.std.specs.Prelude.{Option, Some, None, if◌then◌else◌}
use Rattle.guest.specs.declared.block_tree.LiveBlock.{LiveBlock}

-- the most bytes that are free behind one of the blocks
abbrev pub most_free : List LiveBlock → ℕ
most_free [] = 0
most_free (b ∷ bs) = max b.gap (most_free bs)

-- how many bytes the blocks take, with what is free behind each
abbrev pub spanned : List LiveBlock → ℕ
spanned [] = 0
spanned (b ∷ bs) = b.bytes + b.gap + spanned bs

-- all blocks begin behind an address
abbrev pub AreBehind : ℕ → List LiveBlock → Type 0
AreBehind addr [] = Unit {0}
AreBehind addr (b ∷ bs) = (addr < b.addr) × AreBehind addr bs

-- the addresses rise
abbrev pub DoRise : List LiveBlock → Type 0
DoRise [] = Unit {0}
DoRise (b ∷ bs) = AreBehind b.addr bs × DoRise bs

-- each block ends at an address of 32 bits
abbrev pub DoFit : List LiveBlock → Type 0
DoFit [] = Unit {0}
DoFit (b ∷ bs) = (b.addr + b.bytes < 2 ^ 32) × DoFit bs

-- the block that begins at an address
abbrev pub block_at : ℕ → List LiveBlock → Option LiveBlock
block_at addr [] = None
block_at addr (b ∷ bs) = if b.addr == addr then Some b else block_at addr bs

-- where the first bytes lie that are free, so many at once, from an address on where a gap begins
abbrev pub first_place : ℕ → ℕ → ℕ → List LiveBlock → Option ℕ
first_place bytes at gap [] = if nat_le bytes gap then Some at else None
first_place bytes at gap (b ∷ bs) =
    if nat_le bytes gap then Some at else first_place bytes (b.addr + b.bytes) b.gap bs

-- the gap and the blocks once a block stands in the first gap that holds it
abbrev pub filled : ℕ → ℕ → ℕ → ℕ → List LiveBlock → ℕ × List LiveBlock
filled bytes number at gap [] =
    if nat_le bytes gap
    then (0, record { addr = at; bytes = bytes; number = number; gap = gap - bytes } ∷ [])
    else (gap, [])
filled bytes number at gap (b ∷ bs) =
    if nat_le bytes gap
    then (0, record { addr = at; bytes = bytes; number = number; gap = gap - bytes } ∷ b ∷ bs)
    else (
    let rest : ℕ × List LiveBlock = filled bytes number (b.addr + b.bytes) b.gap bs in
    (gap, record b { gap = rest.0 } ∷ rest.1)
    )

-- the gap and the blocks once the last gap has grown
abbrev pub grown : ℕ → ℕ → List LiveBlock → ℕ × List LiveBlock
grown bytes gap [] = (gap + bytes, [])
grown bytes gap (b ∷ bs) =
    let rest : ℕ × List LiveBlock = grown bytes b.gap bs in (gap, record b { gap = rest.0 } ∷ rest.1)

-- the gap and the blocks once the block that begins at an address, if there is one, is gone
abbrev pub without : ℕ → ℕ → List LiveBlock → ℕ × List LiveBlock
without addr gap [] = (gap, [])
without addr gap (b ∷ bs) =
    if b.addr == addr
    then (gap + (b.bytes + b.gap), bs)
    else (
    let rest : ℕ × List LiveBlock = without addr b.gap bs in
    (gap, record b { gap = rest.0 } ∷ rest.1)
    )
