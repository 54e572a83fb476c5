-- A state has a byte at least for each symbol and for each block, so a short one has few of them.
use Rattle.std.proofs.Common.{◌≤◌, ◌<◌, ◌^◌, ℕ, List, [], ◌∷◌, ◌++◌, length, arith}
use Rattle.std.proofs.lemmas.List.{length-append}
use Rattle.std.specs.List.{flat_map}
use Rattle.base.specs.Levels.{Levels}
use Rattle.base.specs.Lines.{Grid}
use Rattle.objects.specs.Objects.{Objects}
use Rattle.objects.specs.Symbols.{Symbol}
use Rattle.objects.specs.declared.block.Block.{Block}
use Rattle.saved_state.specs.ObjectSpelling.{spell_block, spell_counts, spell_objects}
use Rattle.saved_state.specs.ObjectSpelling.{spell_saved_symbol}
use Rattle.saved_state.specs.OfLists.{state_of_list}
use Rattle.trace_passes.specs.Lives.{objects_of}
use Rattle.trace_format.specs.Rules.{touches_in}
use Rattle.trace_format.specs.Spelling.{spell_alloc, spell_symbol}
use Rattle.trace_format.specs.declared.record.TraceRecord.{TraceRecord}
use Rattle.predator_cli.specs.States.{state_of_records}

-- where each gives a byte there are no more of them than bytes
each_gives : {X : Type 0} (f : X → List ℕ) → ((x : X) → 1 ≤ length (f x)) → (xs : List X)
    → length xs ≤ length (flat_map f xs)
each_gives f some [] = omega arith
each_gives f some (x ∷ xs) =
    let this = some x in
    let rest = each_gives f some xs in
    let all = length-append (f x) (flat_map f xs) in
    omega arith

some_symbol : (s : Symbol) → 1 ≤ length (spell_saved_symbol s)
unfolding spell_symbol
some_symbol s = omega arith

some_block : (b : Block) → 1 ≤ length (spell_block b)
unfolding spell_block spell_alloc
some_block b = omega arith

pub record AreFew (o : Objects) : Type 0 where
  pub symbols : length o.symbols < 2 ^ 64
  pub blocks : length o.blocks < 2 ^ 64

few_spelled : (o : Objects) → length (spell_objects o) ≤ 2 ^ 40 → AreFew o
unfolding spell_objects
few_spelled o short =
    let symbols = each_gives spell_saved_symbol some_symbol o.symbols in
    let blocks = each_gives spell_block some_block o.blocks in
    let both = length-append (flat_map spell_saved_symbol o.symbols) (flat_map spell_block o.blocks)
    in
    let all = length-append (spell_counts (length o.symbols) (length o.blocks))
    (flat_map spell_saved_symbol o.symbols ++ flat_map spell_block o.blocks) in
    record { symbols = omega arith; blocks = omega arith }

pub few_objects : (g : Grid) (v : Levels) (harts : ℕ) (items : List TraceRecord)
    → length (state_of_records g v harts items) ≤ 2 ^ 40 → AreFew (objects_of items)
unfolding state_of_records
few_objects g v harts items short =
    let all = length-append (state_of_list g v harts (touches_in items))
    (spell_objects (objects_of items)) in
    few_spelled (objects_of items) (omega arith)
