use Rattle.std.proofs.Common.{length, rules, ap, ◌∙◌}
use Rattle.saved_state.specs.Laws.Lengths.{length-state}
use Rattle.saved_state.specs.WrittenParts.{state_of}
use Rattle.saved_state.specs.Spelling.{spell_header}
use Rattle.saved_state.proofs.state_write.write_state.Goals as goal

pub returns-clause-bytes : goal.returns-clause-bytes
unfolding spell_header
returns-clause-bytes c = search rules

pub returns-clause-length : goal.returns-clause-length
returns-clause-length c = ap length (returns-clause-bytes c)
    ∙ length-state (state_of c.args.state.now)
