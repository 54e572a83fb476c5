-- Worked parts, closed by computing the definitions.
use Rattle.std.proofs.Common.{◌≡◌, ℕ, zero, suc, List, [], ◌∷◌, ◌++◌, map, replicate, take, Some}
use Rattle.std.proofs.Common.{Result, Ok, Err, refl}
use Rattle.objects.specs.declared.block.Block.{Block}
use Rattle.objects.specs.declared.symbol.SymbolKind.TheVariants.{Object}
use Rattle.objects.specs.Blocks.{newborn}
use Rattle.objects.specs.Objects.{Objects, no_objects}
use Rattle.objects.specs.Symbols.{Symbol}
use Rattle.base.specs.declared.faults.ResumeFault.{ResumeFault}
use Rattle.base.specs.declared.faults.ResumeFault.TheVariants.{BadState}
use Rattle.trace_format.specs.Spelling.{spell_alloc, spell_symbol}
use Rattle.saved_state.specs.ObjectJudging.{block_at, block_in, objects_judged, symbol_at}
use Rattle.saved_state.specs.ObjectJudging.{symbol_in}
use Rattle.saved_state.specs.ObjectSpelling.{spell_block, spell_counts, spell_objects}

-- no symbols and no blocks: sixteen zero bytes
nothing_spelled : spell_objects no_objects ≡ replicate 16 0
unfolding spell_objects spell_counts
nothing_spelled = refl

nothing_said : objects_judged 40 0 (replicate 16 0) ≡ Ok no_objects
unfolding objects_judged
nothing_said = refl

-- a symbol, a block that died and one that lives at the same address
counters : Symbol
counters = record { kind = Object; addr = 0x1000; size = 32; name = 99 ∷ [] }

freed : Block
freed = record (newborn 1 0x2000 24 (0x100b0 ∷ 0 ∷ 0 ∷ 0 ∷ [])) { died = Some 5 }

living : Block
living = newborn 5 0x2000 8 (0 ∷ 0 ∷ 0 ∷ 0 ∷ [])

three : Objects
three = record { symbols = counters ∷ []; blocks = freed ∷ living ∷ [] }

bytes : List ℕ
bytes =
    1 ∷ 0 ∷ 0 ∷ 0 ∷ 0 ∷ 0 ∷ 0 ∷ 0 ∷ 2 ∷ 0 ∷ 0 ∷ 0 ∷ 0 ∷ 0 ∷ 0 ∷ 0
    ∷ 5 ∷ 1 ∷ 0 ∷ 16 ∷ 0 ∷ 0 ∷ 32 ∷ 0 ∷ 0 ∷ 0 ∷ 1 ∷ 0 ∷ 99
    ∷ 3 ∷ 0 ∷ 32 ∷ 0 ∷ 0 ∷ 24 ∷ 0 ∷ 0 ∷ 0 ∷ 176 ∷ 0 ∷ 1 ∷ 0 ∷ 0 ∷ 0 ∷ 0 ∷ 0 ∷ 0 ∷ 0 ∷ 0 ∷ 0 ∷ 0 ∷ 0
    ∷ 0 ∷ 0
    ∷ 1 ∷ 0 ∷ 0 ∷ 0 ∷ 0 ∷ 0 ∷ 0 ∷ 0 ∷ 5 ∷ 0 ∷ 0 ∷ 0 ∷ 0 ∷ 0 ∷ 0 ∷ 0
    ∷ 3 ∷ 0 ∷ 32 ∷ 0 ∷ 0 ∷ 8 ∷ 0 ∷ 0 ∷ 0 ∷ 0 ∷ 0 ∷ 0 ∷ 0 ∷ 0 ∷ 0 ∷ 0 ∷ 0 ∷ 0 ∷ 0 ∷ 0 ∷ 0 ∷ 0 ∷ 0 ∷ 0
    ∷ 0
    ∷ 5 ∷ 0 ∷ 0 ∷ 0 ∷ 0 ∷ 0 ∷ 0 ∷ 0 ∷ 255 ∷ 255 ∷ 255 ∷ 255 ∷ 255 ∷ 255 ∷ 255 ∷ 255 ∷ []

three_spelled : spell_objects three ≡ bytes
unfolding three counters freed living bytes spell_objects spell_counts spell_symbol spell_block
    spell_alloc
three_spelled = refl

three_said : objects_judged 100 7 bytes ≡ Ok three
unfolding three counters freed living bytes objects_judged symbol_in symbol_at spell_symbol
    block_in block_at spell_block spell_alloc
three_said = refl

-- a part that is cut is at fault in the unit that is cut: the counts, the symbol, a block
lengths : ℕ → List ℕ
lengths zero = []
lengths (suc n) = lengths n ++ n ∷ []

bad : ℕ → Result Objects ResumeFault
bad place = Err (BadState place)

every_cut : map (λ k. objects_judged 100 7 (take k bytes)) (lengths 111)
    ≡ replicate 16 (bad 100) ++ (replicate 13 (bad 116)
    ++ (replicate 41 (bad 129) ++ replicate 41 (bad 170)))
unfolding bytes lengths bad objects_judged symbol_in symbol_at spell_symbol
    block_in block_at spell_block spell_alloc
every_cut = refl

a_byte_too_many : objects_judged 100 7 (bytes ++ 0 ∷ []) ≡ bad 211
unfolding bytes bad objects_judged symbol_in symbol_at spell_symbol block_in
    block_at spell_block spell_alloc
a_byte_too_many = refl

-- the first block died later than the list reaches, and the second is born later
died_too_late : objects_judged 0 4 bytes ≡ bad 29
unfolding bytes bad objects_judged symbol_in symbol_at spell_symbol block_in
    block_at spell_block spell_alloc
died_too_late = refl

born_too_late : objects_judged 0 4 (spell_objects (record { symbols = []; blocks = living ∷ [] }))
    ≡ bad 16
unfolding living bad spell_objects spell_counts spell_block spell_alloc objects_judged block_in
    block_at
born_too_late = refl

-- two live blocks of one address: the second is at fault
two_live : objects_judged 0 7 (spell_objects (record {
  symbols = [];
  blocks =
      living ∷ living ∷ [];
})) ≡ bad 57
unfolding living bad spell_objects spell_counts spell_block spell_alloc objects_judged block_in
    block_at
two_live = refl

-- and so is a symbol in the place of an earlier one, whatever its name
two_alike : objects_judged 0 7 (spell_objects (record {
  symbols =
      counters ∷ record counters { name = [] } ∷ [];
  blocks = [];
})) ≡ bad 29
unfolding counters bad spell_objects spell_counts spell_symbol objects_judged symbol_in symbol_at
two_alike = refl

-- numbers that the bytes can't hold
many_symbols : objects_judged 0 7 (replicate 8 255 ++ replicate 8 0) ≡ bad 16
unfolding bad objects_judged symbol_in symbol_at spell_symbol
many_symbols = refl
