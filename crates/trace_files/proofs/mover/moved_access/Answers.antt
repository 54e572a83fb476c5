use Rattle.std.proofs.Common.{◌≡◌, ◌∙◌, ap, sym, find, option_map, None, Some}
use Rattle.base.specs.Touch.{Touch}
use Rattle.trace_files.specs.Moves.{carried, is_in_range}
use Rattle.trace_files.proofs.Lookups.{moved_found, moved_nowhere, moved_there, stays_there}
use Rattle.trace_files.proofs.mover.moved_access.Goals as goal

pub returns-in-Some-clause-access : goal.returns-in-Some-clause-access
returns-in-Some-clause-access c =
    let a = c.args.access.now in
    let found : option_map (carried a.addr) (find (is_in_range a.addr) c.args.table.now)
    ≡ Some c.in-Some.place =
    (λ i. option_map (carried (sym c.addr.ensures i))
    (find (is_in_range (sym c.addr.ensures i)) c.args.table.now))
    ∙ sym c.destination.ensures.value ∙ c.in-Some.is in
    c.at_place.ensures
    ∙ ap (λ n. let t : Touch = record a { addr = n } in t)
    (moved_found c.args.table.now a.addr c.in-Some.place found)

pub returns-in-Some-clause-moved : goal.returns-in-Some-clause-moved
returns-in-Some-clause-moved c =
    let a = c.args.access.now in
    let found : option_map (carried a.addr) (find (is_in_range a.addr) c.args.table.now)
    ≡ Some c.in-Some.place =
    (λ i. option_map (carried (sym c.addr.ensures i))
    (find (is_in_range (sym c.addr.ensures i)) c.args.table.now))
    ∙ sym c.destination.ensures.value ∙ c.in-Some.is in
    moved_there c.args.table.now a.addr c.in-Some.place found

pub returns-in-None-clause-access : goal.returns-in-None-clause-access
returns-in-None-clause-access c =
    let a = c.args.access.now in
    let found : option_map (carried a.addr) (find (is_in_range a.addr) c.args.table.now) ≡ None =
    (λ i. option_map (carried (sym c.addr.ensures i))
    (find (is_in_range (sym c.addr.ensures i)) c.args.table.now))
    ∙ sym c.destination.ensures.value ∙ c.in-None.is in
    ap (λ n. let t : Touch = record a { addr = n } in t)
    (moved_nowhere c.args.table.now a.addr found)

pub returns-in-None-clause-moved : goal.returns-in-None-clause-moved
returns-in-None-clause-moved c =
    let a = c.args.access.now in
    let found : option_map (carried a.addr) (find (is_in_range a.addr) c.args.table.now) ≡ None =
    (λ i. option_map (carried (sym c.addr.ensures i))
    (find (is_in_range (sym c.addr.ensures i)) c.args.table.now))
    ∙ sym c.destination.ensures.value ∙ c.in-None.is in
    stays_there c.args.table.now a.addr found
