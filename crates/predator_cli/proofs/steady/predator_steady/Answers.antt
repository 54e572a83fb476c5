use Rattle.std.proofs.Common.{refl}
use Rattle.shelf.specs.NeverFails.{never_fails_outside}
use Rattle.command_line.specs.Demands.{texts}
use Rattle.command_line.specs.Words.{demand_of}
use Rattle.predator_cli.proofs.SteadyLaws.{no_faults, no_read_fault, no_write_fault}
use Rattle.predator_cli.proofs.steady.predator_steady.Goals as goal

pub returns-clause-read : goal.returns-clause-read
returns-clause-read c =
    let demand = demand_of (texts c.args.words.now) in
    let old = never_fails_outside c.args.shelf.now in
    let new = never_fails_outside c.predator.new.shelf in
    no_read_fault demand old new c.predator.result
    (no_faults demand old new (λ n. refl) (λ n. refl) refl) c.predator.ensures.caused

pub returns-clause-write : goal.returns-clause-write
returns-clause-write c =
    let demand = demand_of (texts c.args.words.now) in
    let old = never_fails_outside c.args.shelf.now in
    let new = never_fails_outside c.predator.new.shelf in
    no_write_fault demand old new c.predator.result
    (no_faults demand old new (λ n. refl) (λ n. refl) refl) c.predator.ensures.caused

pub returns-clause-ends : goal.returns-clause-ends
returns-clause-ends c =
    let demand = demand_of (texts c.args.words.now) in
    let old = never_fails_outside c.args.shelf.now in
    let new = never_fails_outside c.predator.new.shelf in
    c.predator.ensures.complete (no_faults demand old new (λ n. refl) (λ n. refl) refl)
