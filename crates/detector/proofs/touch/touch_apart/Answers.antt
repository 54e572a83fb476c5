use Rattle.std.proofs.Common.{◌≡◌, ◌+◌, ◌≤◌, refl, sym, ap, ◌∙◌, subst, arith}
use Rattle.std.specs.Prelude.{false, not, ◌&&◌, ◌||◌}
use Rattle.detector.specs.declared.track_places.TrackNumbers.{TrackNumbers}
use Rattle.detector.specs.declared.line_entry.LineEntry.{LineEntry}
use Rattle.std.proofs.lemmas.Result.{on_ok_weaker}
use Rattle.base.specs.Touch.{is_write}
use Rattle.detector.specs.Entries.{entry_at}
use Rattle.detector.specs.Noting.{have_opened, places, places_between}
use Rattle.detector.proofs.AfterLaws.{after-idle, after-read, after-task, counts-read}
use Rattle.detector.proofs.AfterLaws.{first-written, plain-indexed, counts-write, due-at}
use Rattle.detector.proofs.AfterLaws.{native-grid, notable, quiet, read-indexed, searches-is}
use Rattle.detector.proofs.AfterLaws.{steps-within, task-lent, writes-few}
use Rattle.detector.specs.Tasks.{search_steps}
use Rattle.detector.proofs.touch.touch_apart.Goals as goal

pub note-requires-clause-notable : goal.note-requires-clause-notable
note-requires-clause-notable g c =
    let f = entry_at (g.I.LineIndex.entries c.args.index.now) in (
      f,
      c.args.layout,
      ap (λ x. places_between c.args.line x c.peek-below.result) c.peek-here.ensures
          ∙ ap (places_between c.args.line (f c.args.line)) (c.peek-below.ensures ∙ ap f c.saturating_sub.ensures),
      notable f f c.args.layout c.args.tracks.now c.args.thresholds.now.tracking c.args.position
          c.args.line c.args.access
          c.requires.indexed refl c.requires.layout c.requires.line,
    )

pub returns-in-Read-clause-tracks : goal.returns-in-Read-clause-tracks
returns-in-Read-clause-tracks g c =
    c.note.ensures.tracks ∙ after-read (g.I.LineIndex.entries c.args.index.now) c.args.tracks.now
    c.args.layout c.args.thresholds.now
    c.args.position c.args.line c.args.access (ap is_write (sym c.kind.ensures ∙ c.in-Read.is))

pub returns-in-Read-clause-counts : goal.returns-in-Read-clause-counts
returns-in-Read-clause-counts g c = counts-read
    (g.I.LineIndex.entries c.args.index.now) c.args.line c.args.access
    (ap is_write (sym c.kind.ensures ∙ c.in-Read.is))

pub returns-in-Read-clause-indexed : goal.returns-in-Read-clause-indexed
returns-in-Read-clause-indexed g c =
    read-indexed (entry_at (g.I.LineIndex.entries c.args.index.now)) c.args.layout c.args.tracks.now
    c.note.new.tracks
    c.args.thresholds.now.tracking c.args.position c.args.access c.requires.indexed
    c.note.ensures.tracks

pub returns-in-Read-clause-steps : goal.returns-in-Read-clause-steps
returns-in-Read-clause-steps g c = steps-within c.note.new.steps
    (c.args.steps.now + 4) _ c.note.ensures.steps

pub returns-in-Read-clause-known : goal.returns-in-Read-clause-known
returns-in-Read-clause-known g c = λ none. refl

pub task_of-task-requires : goal.task_of-task-requires
task_of-task-requires g c = record {
  few = writes-few (entry_at (g.I.LineIndex.entries c.args.index.now)) c.args.layout
      c.args.tracks.now c.args.thresholds.now.tracking
      c.args.position c.args.line c.peek-here.result c.requires.indexed c.requires.early
      c.peek-here.ensures;
}

pub do_task-requires-clause-task : goal.do_task-requires-clause-task
do_task-requires-clause-task g c =
    let m = g.I.LineIndex.entries c.args.index.now in
    let task = task-lent (entry_at m) c.args.line c.peek-here.result c.args.thresholds.now
    c.task_of-task.result c.peek-here.ensures c.task_of-task.ensures in
    let due = due-at (entry_at m) c.args.layout c.args.tracks.now c.args.line
    c.args.thresholds.now c.task_of-task.result c.args.position
    c.requires.indexed c.requires.some task in
    (c.args.thresholds.now.tracking, due)

pub do_task-requires-clause-native : goal.do_task-requires-clause-native
do_task-requires-clause-native g c =
    λ s.
    native-grid (λ q. c.peek-here.result) c.args.line c.args.layout c.args.thresholds.now
    c.task_of-task.result c.requires.native
    c.task_of-task.ensures s

pub returns-then-is_due_where-clause-tracks : goal.returns-then-is_due_where-clause-tracks
returns-then-is_due_where-clause-tracks g c =
    let m = g.I.LineIndex.entries c.args.index.now in
    let task = task-lent (entry_at m) c.args.line c.peek-here.result c.args.thresholds.now
    c.task_of-task.result c.peek-here.ensures c.task_of-task.ensures in
    on_ok_weaker c.do_task.result (λ e. e ∙ after-task m c.args.tracks.now c.args.layout
    c.args.thresholds.now c.args.position
    c.args.line c.args.access c.task_of-task.result
    (ap is_write (sym c.kind.ensures ∙ c.in-Write.is)) task)
    c.do_task.ensures.tracks

pub returns-then-is_due_where-clause-counts : goal.returns-then-is_due_where-clause-counts
returns-then-is_due_where-clause-counts g c =
    let m = g.I.LineIndex.entries c.args.index.now in
    on_ok_weaker c.do_task.result
    (λ e. counts-write m (g.I.LineIndex.entries c.do_task.new.index) c.args.line c.args.access
    (ap is_write (sym c.kind.ensures ∙ c.in-Write.is)) e) c.do_task.ensures.counts

pub returns-then-is_due_where-clause-indexed : goal.returns-then-is_due_where-clause-indexed
returns-then-is_due_where-clause-indexed g c =
    let m = g.I.LineIndex.entries c.args.index.now in
    let task = task-lent (entry_at m) c.args.line c.peek-here.result c.args.thresholds.now
    c.task_of-task.result c.peek-here.ensures c.task_of-task.ensures in
    let due = due-at (entry_at m) c.args.layout c.args.tracks.now c.args.line
    c.args.thresholds.now c.task_of-task.result c.args.position
    c.requires.indexed c.requires.some task in
    on_ok_weaker c.do_task.result (λ e. e c.args.thresholds.now.tracking due) c.do_task.ensures.indexed

pub returns-then-is_due_where-clause-known : goal.returns-then-is_due_where-clause-known
returns-then-is_due_where-clause-known g c =
    λ none.
    let m = g.I.LineIndex.entries c.args.index.now in
    let task = task-lent (entry_at m) c.args.line c.peek-here.result c.args.thresholds.now
    c.task_of-task.result c.peek-here.ensures c.task_of-task.ensures in
    let q = quiet m c.args.tracks.now c.args.layout c.args.thresholds.now c.args.position c.args.line
    c.args.access
    c.task_of-task.result (ap is_write (sym c.kind.ensures ∙ c.in-Write.is))
    task none in
    c.do_task.ensures.known q.begins q.written q.opens

pub returns-then-is_due_where-clause-steps : goal.returns-then-is_due_where-clause-steps
returns-then-is_due_where-clause-steps g c =
    let m = g.I.LineIndex.entries c.args.index.now in
    let task = task-lent (entry_at m) c.args.line c.peek-here.result c.args.thresholds.now
    c.task_of-task.result c.peek-here.ensures c.task_of-task.ensures in
    subst (λ b. c.do_task.new.steps ≤ c.args.steps.now + 4 + search_steps c.args.layout b)
    (searches-is m c.args.line c.args.thresholds.now c.args.access c.task_of-task.result
    (ap is_write (sym c.kind.ensures ∙
    c.in-Write.is)) task)
    c.do_task.ensures.steps

pub returns-in-Ok-clause-tracks : goal.returns-in-Ok-clause-tracks
returns-in-Ok-clause-tracks g c =
    let m = g.I.LineIndex.entries c.args.index.now in
    let task = task-lent (entry_at m) c.args.line c.peek-here.result c.args.thresholds.now
    c.task_of-task.result c.peek-here.ensures c.task_of-task.ensures in
    let idle : (c.task_of-task.result.begins || (c.task_of-task.result.searches && not
    (have_opened (places (entry_at m) c.args.line)))) ≡ false =
    ap (λ (p : TrackNumbers). c.task_of-task.result.begins || (c.task_of-task.result.searches && not
    (have_opened p))) (sym c.places_of.ensures)
    ∙ ap (λ h. c.task_of-task.result.begins || (c.task_of-task.result.searches && not h))
    (sym c.have_opened.ensures) ∙ sym c.is_due_where.ensures ∙ c.if-is_due_where.false in
    c.note-in-Ok.ensures.tracks
    ∙ after-idle m c.args.tracks.now c.args.layout c.args.thresholds.now c.args.position c.args.line
    c.args.access c.task_of-task.result
    (ap is_write (sym c.kind.ensures ∙ c.in-Write.is)) task c.requires.indexed.names idle

pub returns-in-Ok-clause-indexed : goal.returns-in-Ok-clause-indexed
returns-in-Ok-clause-indexed g c =
    let m = g.I.LineIndex.entries c.args.index.now in
    let n = g.I.LineIndex.entries c.count.new.index in
    plain-indexed (entry_at m) (entry_at n) c.args.layout c.args.tracks.now c.note-in-Ok.new.tracks
    c.args.thresholds.now.tracking
    c.args.position c.args.line c.args.access c.requires.indexed c.in-Ok.ensures.each
    c.note-in-Ok.ensures.tracks

pub returns-in-Err-clause-known : goal.returns-in-Err-clause-known
returns-in-Err-clause-known g c =
    λ none.
    let m = g.I.LineIndex.entries c.args.index.now in
    let w = first-written m c.args.tracks.now c.args.layout c.args.thresholds.now c.args.position
    c.args.line c.args.access (ap is_write
    (sym c.kind.ensures ∙ c.in-Write.is)) none in
    let zero : (entry_at m c.args.line).writes ≡ 0 =
    ap (λ (e : LineEntry). e.writes) c.in-Err.ensures.blank in
    absurd (omega arith)
