-- Worked examples, closed by computing the definitions.
use Rattle.std.proofs.Common.{◌≡◌, [], ◌∷◌, None, Some, refl}
use Rattle.objects.specs.declared.symbol.SymbolKind.TheVariants.{Object, Function}
use Rattle.objects.specs.Blocks.{blocks_after_alloc, blocks_after_free, newborn}
use Rattle.objects.specs.Symbols.{Symbol, function_at, symbols_of}

-- symbols: the later of two alike is dropped, whatever its name
counters : Symbol
counters = record { kind = Object; addr = 0x1000; size = 32; name = 99 ∷ [] }

alias : Symbol
alias = record counters { name = 97 ∷ [] }

worker : Symbol
worker = record { kind = Function; addr = 0x1000; size = 32; name = 119 ∷ [] }

alike_are_dropped : symbols_of (counters ∷ worker ∷ alias ∷ worker ∷ []) ≡ counters ∷ worker ∷ []
unfolding counters alias worker
alike_are_dropped = refl

named_by_its_function : function_at (counters ∷ worker ∷ []) 0x101F ≡ Some (119 ∷ [])
unfolding counters worker
named_by_its_function = refl

no_function_behind : function_at (counters ∷ worker ∷ []) 0x1020 ≡ None
unfolding counters worker
no_function_behind = refl

-- blocks: one that is made at the address of a live one ends that one's life
made_again : blocks_after_alloc (blocks_after_alloc [] 4 0x2000 24 []) 7 0x2000 8 []
    ≡ record (newborn 4 0x2000 24 []) { died = Some 7 } ∷ newborn 7 0x2000 8 [] ∷ []
made_again = refl

dies_once : blocks_after_free (blocks_after_free (newborn 0 0x2000 24 [] ∷ []) 2 0x2000) 3 0x2000
    ≡ record (newborn 0 0x2000 24 []) {
      died = Some 2;
    } ∷ []
dies_once = refl
