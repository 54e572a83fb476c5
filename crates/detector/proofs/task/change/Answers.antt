use Rattle.std.proofs.Common.{refl, ap, ◌∙◌}
use Rattle.detector.specs.Entries.{entry_at}
use Rattle.detector.specs.Tasks.{task_opens}
use Rattle.detector.proofs.SettleLaws.{task-begun, task-below, task-doubled, task-indexed}
use Rattle.detector.proofs.SettleLaws.{task-kept, task-tracks}
use Rattle.detector.proofs.task.change.Goals as goal

pub openings_at-openings-requires-clause-named : goal.openings_at-openings-requires-clause-named
openings_at-openings-requires-clause-named g c =
    let f = entry_at (g.I.LineIndex.entries c.args.index.now) in
    (task-begun f c.args.layout c.args.tracks.now c.own_place.new.tracks c.args.line _ c.args.task
    c.args.position c.args.access c.in-Ok.own
    c.peek-named.result c.requires.task c.requires.line
    c.in-Ok.ensures.tracks c.in-Ok.ensures.place c.peek-named.ensures).named

pub settle-requires-clause-below : goal.settle-requires-clause-below
settle-requires-clause-below g c =
    let f = entry_at (g.I.LineIndex.entries c.args.index.now) in
    let b = task-begun f c.args.layout c.args.tracks.now c.own_place.new.tracks c.args.line _
    c.args.task c.args.position c.args.access
    c.in-Ok.own c.peek-named.result c.requires.task c.requires.line
    c.in-Ok.ensures.tracks c.in-Ok.ensures.place c.peek-named.ensures in
    task-below f c.args.layout c.args.tracks.now c.own_place.new.tracks c.args.line c.args.task
    c.args.position c.args.access c.in-Ok.own
    c.openings_at-openings.result c.in-Ok-open.opened c.own_place.new.tracks
    c.requires.task b c.openings_at-openings.ensures.value c.in-Ok-open.ensures.places

pub settle-requires-clause-doubled : goal.settle-requires-clause-doubled
settle-requires-clause-doubled g c =
    let f = entry_at (g.I.LineIndex.entries c.args.index.now) in
    let b = task-begun f c.args.layout c.args.tracks.now c.own_place.new.tracks c.args.line _
    c.args.task c.args.position c.args.access
    c.in-Ok.own c.peek-named.result c.requires.task c.requires.line
    c.in-Ok.ensures.tracks c.in-Ok.ensures.place c.peek-named.ensures in
    task-doubled f c.args.layout c.args.tracks.now c.own_place.new.tracks c.args.line c.args.task
    c.args.position c.args.access c.in-Ok.own
    c.openings_at-openings.result c.in-Ok-open.opened c.own_place.new.tracks
    c.requires.task b c.openings_at-openings.ensures.value c.in-Ok-open.ensures.places

pub returns-in-Ok-open-clause-tracks : goal.returns-in-Ok-open-clause-tracks
returns-in-Ok-open-clause-tracks g c =
    let f = entry_at (g.I.LineIndex.entries c.args.index.now) in
    let b = task-begun f c.args.layout c.args.tracks.now c.own_place.new.tracks c.args.line _
    c.args.task c.args.position c.args.access
    c.in-Ok.own c.peek-named.result c.requires.task c.requires.line
    c.in-Ok.ensures.tracks c.in-Ok.ensures.place c.peek-named.ensures in
    task-tracks c.args.layout c.args.tracks.now c.own_place.new.tracks c.open.new.tracks c.args.line
    c.args.position c.args.access
    c.args.task.begins c.args.task.searches c.openings_at-openings.result
    b.tracks c.openings_at-openings.ensures.value c.in-Ok-open.ensures.added

pub returns-in-Ok-open-clause-indexed : goal.returns-in-Ok-open-clause-indexed
returns-in-Ok-open-clause-indexed g c = λ T due.
    let f = entry_at (g.I.LineIndex.entries c.args.index.now) in
    let h = entry_at (g.I.LineIndex.entries c.settle.new.index) in
    let b = task-begun f c.args.layout c.args.tracks.now c.own_place.new.tracks c.args.line _
    c.args.task c.args.position c.args.access
    c.in-Ok.own c.peek-named.result c.requires.task c.requires.line
    c.in-Ok.ensures.tracks c.in-Ok.ensures.place c.peek-named.ensures in
    task-indexed f h c.args.layout c.args.tracks.now c.own_place.new.tracks c.open.new.tracks
    c.args.line c.args.task c.args.position T
    c.args.access c.in-Ok.own c.openings_at-openings.result c.in-Ok-open.opened
    c.requires.task b due c.openings_at-openings.ensures.value
    c.openings_at-openings.ensures.shaped_here c.in-Ok-open.ensures.places
    c.in-Ok-open.ensures.added
    c.settle.ensures.names c.settle.ensures.writes c.in-Ok-open.ensures.few

pub returns-in-Err-clause-known : goal.returns-in-Err-clause-known
returns-in-Err-clause-known g c = λ still none. c.in-Err.ensures.known still

pub returns-in-Ok-open-clause-known : goal.returns-in-Ok-open-clause-known
returns-in-Ok-open-clause-known g c = λ still none. refl

pub returns-in-Err-open-clause-known : goal.returns-in-Err-open-clause-known
returns-in-Err-open-clause-known g c = λ still none.
    let f = entry_at (g.I.LineIndex.entries c.args.index.now) in
    let b = task-begun f c.args.layout c.args.tracks.now c.own_place.new.tracks c.args.line _
    c.args.task c.args.position c.args.access
    c.in-Ok.own c.peek-named.result c.requires.task c.requires.line
    c.in-Ok.ensures.tracks c.in-Ok.ensures.place c.peek-named.ensures in
    c.in-Err-open.ensures.known
    (c.openings_at-openings.ensures.value ∙ ap (task_opens c.args.layout c.args.line
    c.args.task.searches) b.tracks ∙ none)

pub returns-in-Err-open-clause-kept : goal.returns-in-Err-open-clause-kept
returns-in-Err-open-clause-kept g c =
    task-kept c.args.layout c.args.tracks.now c.own_place.new.tracks c.open.new.tracks _
    c.args.position c.args.access c.args.task.begins
    c.in-Ok.ensures.tracks c.in-Err-open.ensures.kept
