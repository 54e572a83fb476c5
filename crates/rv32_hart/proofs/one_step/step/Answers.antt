use Rattle.rv32_hart.proofs.StepKeeps.{kept}
use Rattle.rv32_hart.proofs.one_step.step.Goals as goal

pub returns-clause-harts : goal.returns-clause-harts
returns-clause-harts c = (kept c.args.hart _ _ _ c.run_step.ensures).harts

pub returns-clause-pages : goal.returns-clause-pages
returns-clause-pages c = (kept c.args.hart _ _ _ c.run_step.ensures).pages
