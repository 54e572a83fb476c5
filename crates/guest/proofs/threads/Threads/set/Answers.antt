use Rattle.std.proofs.Common.{◌≡◌, ◌∙◌, ℕ, ap, cond, refl, set, sym, List, length, arith}
use Rattle.std.specs.List.{count_by}
use Rattle.guest.specs.declared.phase.HartPhase.{HartPhase}
use Rattle.guest.specs.Phases.{is_runnable, lone_runnable}
use Rattle.guest.proofs.LoneHart.{count_after}
use Rattle.guest.proofs.SoundChanges.{set_kept}
use Rattle.guest.proofs.threads.Threads.set.Goals as goal

pub invariant_of-self : goal.invariant_of-self
invariant_of-self c =
    let whole : length c.self.inside.phases.items ≡ length c.args.self.now =
    ap (λ (xs : List HartPhase). length xs) c.self.view_is in
    set_kept c.self.inside.runnable.items c.self.inside.phases.items c.args.self.now
    c.self.inside.running _ c.from-place.result c.args.hart
    c.self.inside.lone c.lone_in-self-inside.result c.is_runnable-runs.result c.args.phase
    c.self.invariant c.self.view_is (c.from-place.ensures ∙ c.number.ensures.value)
    c.is_runnable-runs.ensures c.requires.keeps
    (count_after c.self.inside.phases.items c.self.inside.running c.running_in-ran.result
    c.running_in.result c.from-place.result
    c.index.result.now
    c.args.phase (omega arith) c.self.invariant.counted c.index.ensures c.running_in-ran.ensures
    c.running_in.ensures).after
    (c.lone_in-self-inside.ensures ∙ ap (λ (xs : List HartPhase). lone_runnable xs)
    c.as_slice.ensures.value)

pub returns : goal.returns
returns c =
    ap (λ (place : ℕ). set c.self.inside.phases.items place c.args.phase)
    (c.from-place.ensures ∙ c.number.ensures.value)
    ∙ ap (λ (xs : List HartPhase). set xs c.args.hart c.args.phase) c.self.view_is

pub lone_in-self-inside-requires-clause-running : goal.lone_in-self-inside-requires-clause-running
lone_in-self-inside-requires-clause-running c =
    let whole : length c.self.inside.phases.items ≡ length c.args.self.now =
    ap (λ (xs : List HartPhase). length xs) c.self.view_is in
    (count_after c.self.inside.phases.items c.self.inside.running c.running_in-ran.result
    c.running_in.result c.from-place.result
    c.index.result.now
    c.args.phase (omega arith) c.self.invariant.counted c.index.ensures c.running_in-ran.ensures
    c.running_in.ensures).after
    ∙ ap (λ (xs : List HartPhase). count_by is_runnable xs) (sym c.as_slice.ensures.value)

pub overflow_sub-self : goal.overflow_sub-self
overflow_sub-self c =
    let whole : length c.self.inside.phases.items ≡ length c.args.self.now =
    ap (λ (xs : List HartPhase). length xs) c.self.view_is in
    (count_after c.self.inside.phases.items c.self.inside.running c.running_in-ran.result
    (cond (is_runnable c.args.phase) 1 0)
    c.from-place.result c.index.result.now c.args.phase (omega arith) c.self.invariant.counted
    c.index.ensures
    c.running_in-ran.ensures refl).had
