use Rattle.std.proofs.Common.{◌∙◌, ap}
use Rattle.predator_page.proofs.Unwritten.{written_at}
use Rattle.predator_page.proofs.memory_call.call_in_memory.Goals as goal

pub returns-clause-only : goal.returns-clause-only
returns-clause-only c name away =
    c.predator-status.ensures.only name away ∙ ap (written_at name) c.in_ok-shelf.ensures.fresh
