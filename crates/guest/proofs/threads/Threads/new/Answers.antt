use Rattle.guest.proofs.FirstPhases.{first_kept}
use Rattle.guest.proofs.threads.Threads.new.Goals as goal

pub invariant_of-result : goal.invariant_of-result
invariant_of-result c =
    first_kept c.args.harts c.from-2.result c.from.result c.hart_at.result
    c.in_ok-runnable.runnable.items c.in_ok-phases.phases.items
    (c.in_ok-runnable.ensures.items_if_clones_equal (λ _ same. same))
    (c.in_ok-phases.ensures.items_if_clones_equal (λ _ same. same))
    c.from-2.ensures c.from.ensures c.hart_at.ensures c.requires.some c.requires.most
