-- The object part of a saved state: the one spelling of each of its units. Numbers are little
-- endian.
use Rattle.std.specs.Prelude.{ℕ, List, ◌++◌, length, Option, Some, None}
use Rattle.std.specs.List.{flat_map}
use Rattle.std.specs.Int.{w64, to_le_bytes}
use Rattle.objects.specs.declared.block.Block.{Block}
use Rattle.objects.specs.Objects.{Objects}
use Rattle.objects.specs.Symbols.{Symbol}
use Rattle.trace_format.specs.Spelling.{spell_alloc, spell_symbol}

-- 16 bytes: how many symbols there are, and how many blocks
unfoldable pub spell_counts : ℕ → ℕ → List ℕ
spell_counts symbols blocks = to_le_bytes w64 symbols ++ to_le_bytes w64 blocks

-- 12 bytes and the name: as a trace spells the symbol
abbrev pub spell_saved_symbol : Symbol → List ℕ
spell_saved_symbol s = spell_symbol s.kind s.addr s.size s.name

-- the death of a block that lives: 2^64 - 1, a position that no access has
abbrev pub no_death : ℕ
no_death = 0xffff_ffff_ffff_ffff

abbrev pub death_number : Option ℕ → ℕ
death_number None = no_death
death_number (Some died) = died

-- 41 bytes: as a trace spells that the block was made, then its birth and its death
unfoldable pub spell_block : Block → List ℕ
spell_block b = spell_alloc b.addr b.size b.sites
    ++ (to_le_bytes w64 b.born ++ to_le_bytes w64 (death_number b.died))

-- the whole
unfoldable pub spell_objects : Objects → List ℕ
spell_objects o = spell_counts (length o.symbols) (length o.blocks)
    ++ (flat_map spell_saved_symbol o.symbols ++ flat_map spell_block o.blocks)
