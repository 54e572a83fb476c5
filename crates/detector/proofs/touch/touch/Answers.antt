use Rattle.std.proofs.Common.{◌≡◌, ℕ, ◌+◌, ◌%◌, ◌≤◌, ◌==◌, false, refl, sym, ap, ◌∙◌, arith}
use Rattle.std.specs.Option.{option_map_or}
use Rattle.detector.specs.declared.task.Task.{Task}
use Rattle.std.proofs.lemmas.Bool.{or_parts}
use Rattle.std.specs.Prelude.{is_ok}
use Rattle.base.specs.Touch.{is_write}
use Rattle.detector.specs.Entries.{entry_at}
use Rattle.detector.specs.declared.line_entry.LineEntry.{LineEntry}
use Rattle.detector.specs.Counts.{counts_of}
use Rattle.detector.specs.Noting.{places_between}
use Rattle.detector.specs.Tasks.{IsTaskOf, counted}
use Rattle.detector.proofs.AfterLaws.{after-read, after-write, counts-read}
use Rattle.detector.proofs.AfterLaws.{counts-write, first-written, notable}
use Rattle.detector.proofs.AfterLaws.{one-more-fits, plain-indexed, read-indexed}
use Rattle.detector.proofs.AfterLaws.{steps-within, task-lent, writes-few}
use Rattle.detector.proofs.CountLaws.{counts-with_entry}
use Rattle.detector.proofs.SettleLaws.{counted-lent}
use Rattle.detector.proofs.touch.touch.Goals as goal

no-steps : (s room : ℕ) → s ≤ s + 4 + room
no-steps s room = omega arith

pub note-requires-clause-notable : goal.note-requires-clause-notable
note-requires-clause-notable g c =
    let f = entry_at (g.I.LineIndex.entries c.args.index.now) in (
      f,
      c.args.layout,
      ap (λ x. places_between c.args.line x c.in-Some.below) c.peek-here.ensures
          ∙ ap (places_between c.args.line (f c.args.line)) c.in-Some.ensures.value,
      notable f f c.args.layout c.args.tracks.now c.args.thresholds.now.tracking c.args.position
          c.args.line c.args.access
          c.requires.indexed refl c.requires.layout c.requires.line,
    )

pub returns-in-Read-clause-tracks : goal.returns-in-Read-clause-tracks
returns-in-Read-clause-tracks g c =
    c.note.ensures.tracks ∙ after-read (g.I.LineIndex.entries c.args.index.now) c.args.tracks.now
    c.args.layout c.args.thresholds.now
    c.args.position c.args.line c.args.access (ap is_write (sym c.kind.ensures ∙ c.in-Read.is))

pub returns-in-Read-clause-counts : goal.returns-in-Read-clause-counts
returns-in-Read-clause-counts g c = counts-read
    (g.I.LineIndex.entries c.args.index.now) c.args.line c.args.access
    (ap is_write (sym c.kind.ensures ∙ c.in-Read.is))

pub returns-in-Read-clause-indexed : goal.returns-in-Read-clause-indexed
returns-in-Read-clause-indexed g c =
    read-indexed (entry_at (g.I.LineIndex.entries c.args.index.now)) c.args.layout c.args.tracks.now
    c.note.new.tracks
    c.args.thresholds.now.tracking c.args.position c.args.access c.requires.indexed
    c.note.ensures.tracks

pub returns-in-Read-clause-steps : goal.returns-in-Read-clause-steps
returns-in-Read-clause-steps g c = steps-within c.note.new.steps
    (c.args.steps.now + 4) _ c.note.ensures.steps

pub returns-in-Read-clause-known : goal.returns-in-Read-clause-known
returns-in-Read-clause-known g c = λ none. refl

pub is_due-requires : goal.is_due-requires
is_due-requires g c = record {
  few = writes-few (entry_at (g.I.LineIndex.entries c.args.index.now)) c.args.layout
      c.args.tracks.now c.args.thresholds.now.tracking
      c.args.position c.args.line c.peek.result c.requires.indexed c.requires.early
      c.peek.ensures;
}

pub overflow_add-entry : goal.overflow_add-entry
overflow_add-entry g c =
    one-more-fits c.in-Ok.entry.now.writes
    (writes-few (entry_at (g.I.LineIndex.entries c.args.index.now)) c.args.layout c.args.tracks.now
    c.args.thresholds.now.tracking
    c.args.position c.args.line c.in-Ok.entry.now c.requires.indexed c.requires.early
    c.in-Ok.ensures.value)

pub note-requires-in-Ok-clause-notable : goal.note-requires-in-Ok-clause-notable
note-requires-in-Ok-clause-notable g c =
    let f = entry_at (g.I.LineIndex.entries c.args.index.now) in (
      f,
      c.args.layout,
      ap (λ x. places_between c.args.line x c.in-Some.below) c.in-Ok.ensures.value
          ∙ ap (places_between c.args.line (f c.args.line)) c.in-Some.ensures.value,
      notable f f c.args.layout c.args.tracks.now c.args.thresholds.now.tracking c.args.position
          c.args.line c.args.access
          c.requires.indexed refl c.requires.layout c.requires.line,
    )

pub returns-in-Ok-clause-tracks : goal.returns-in-Ok-clause-tracks
returns-in-Ok-clause-tracks g c =
    let m = g.I.LineIndex.entries c.args.index.now in
    let task : Task = record {
      begins = (entry_at m c.args.line).writes + 1 == c.args.thresholds.now.tracking;
      searches = option_map_or (λ P. ((entry_at m c.args.line).writes + 1) % P == 0)
          c.args.thresholds.now.prediction false;
    } in
    let is : IsTaskOf (entry_at m c.args.line) c.args.thresholds.now task =
    record { begins = refl; searches = refl } in
    let plain = or_parts task.begins task.searches
    (sym (c.is_due.ensures task (task-lent (λ q. c.peek.result) c.args.line (entry_at m c.args.line)
    c.args.thresholds.now task (sym c.peek.ensures) is)) ∙ c.if-not-is_due.true) in
    c.note-in-Ok.ensures.tracks
    ∙ after-write m c.args.tracks.now c.args.layout c.args.thresholds.now c.args.position c.args.line
    c.args.access task
    (ap is_write (sym c.kind.ensures ∙ c.in-Write.is)) is plain.0 plain.1

pub returns-in-Ok-clause-counts : goal.returns-in-Ok-clause-counts
returns-in-Ok-clause-counts g c =
    let m = g.I.LineIndex.entries c.args.index.now in
    let e = counted c.in-Ok.entry.now in
    let change = (c.entry.follows.holds e (ap is_ok c.in-Ok.is)).0 in
    let n = g.I.LineIndex.entries (c.entry.follows.lender e) in
    counts-write m n c.args.line c.args.access (ap is_write (sym c.kind.ensures ∙ c.in-Write.is))
    (ap counts_of change.whole ∙ counts-with_entry m c.args.line e
    (ap (λ (x : LineEntry). x.writes + 1) c.in-Ok.ensures.value))

pub returns-in-Ok-clause-indexed : goal.returns-in-Ok-clause-indexed
returns-in-Ok-clause-indexed g c =
    let m = g.I.LineIndex.entries c.args.index.now in
    let e = counted c.in-Ok.entry.now in
    let change = (c.entry.follows.holds e (ap is_ok c.in-Ok.is)).0 in
    let n = g.I.LineIndex.entries (c.entry.follows.lender e) in
    let each = counted-lent (entry_at m) (entry_at n) c.args.line c.in-Ok.entry.now
    c.in-Ok.ensures.value change.each in
    plain-indexed (entry_at m) (entry_at n) c.args.layout c.args.tracks.now c.note-in-Ok.new.tracks
    c.args.thresholds.now.tracking
    c.args.position c.args.line c.args.access c.requires.indexed each c.note-in-Ok.ensures.tracks

pub returns-in-Ok-clause-known : goal.returns-in-Ok-clause-known
returns-in-Ok-clause-known g c = λ none. refl

pub returns-in-Ok-clause-steps : goal.returns-in-Ok-clause-steps
returns-in-Ok-clause-steps g c = steps-within c.note-in-Ok.new.steps
    (c.args.steps.now + 4) _ c.note-in-Ok.ensures.steps

pub returns-in-Err-clause-known : goal.returns-in-Err-clause-known
returns-in-Err-clause-known g c =
    λ none.
    let m = g.I.LineIndex.entries c.args.index.now in
    let w = first-written m c.args.tracks.now c.args.layout c.args.thresholds.now c.args.position
    c.args.line c.args.access (ap is_write
    (sym c.kind.ensures ∙ c.in-Write.is)) none in
    let zero : (entry_at m c.args.line).writes ≡ 0 =
    ap (λ (e : LineEntry). e.writes) c.in-Err.ensures.blank in
    absurd (omega arith)

pub returns-in-Err-clause-steps : goal.returns-in-Err-clause-steps
returns-in-Err-clause-steps g c = no-steps c.args.steps.now _
