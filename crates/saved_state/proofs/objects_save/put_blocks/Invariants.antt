-- The blocks so far are appended.
use Rattle.std.proofs.Common.{◌≡◌, ◌++◌, take}
use Rattle.std.specs.List.{flat_map}
use Rattle.saved_state.specs.ObjectSpelling.{spell_block}
use Rattle.saved_state.proofs.objects_save.put_blocks.Given as goal

abbrev pub invariant-loop-block : goal.invariant-loop-block
invariant-loop-block l = l.into.items ≡ l.initial.into.items
    ++ flat_map spell_block (take l.block-index l.blocks)
