use Rattle.std.proofs.Common.{take, refl, sym, ap, ◌∙◌, subst}
use Rattle.detector.specs.Entries.{Entries, entry_at}
use Rattle.detector.specs.Counts.{counts_of, with_write}
use Rattle.detector.specs.Noting.{IsNotable, UndoesAll}
use Rattle.detector.specs.Tasks.{IsDue, IsTask, tracks_begun, tracks_changed, task_opens}
use Rattle.detector.proofs.AfterLaws.{notable}
use Rattle.detector.proofs.SettleLaws.{cut_within, due-after, due-few, due-none, due-task}
use Rattle.detector.proofs.UndoLaws.{four_steps}
use Rattle.detector.proofs.task.do_task.Goals as goal

pub note_undoably-undos-requires-clause-notable : goal.note_undoably-undos-requires-clause-notable
note_undoably-undos-requires-clause-notable g c =
    let f = entry_at (g.I.LineIndex.entries c.args.index.now) in (
      c.args.layout,
      subst (λ (m : Entries). IsNotable (entry_at m) c.args.layout c.args.tracks.now c.args.line
          c.args.position c.args.access) (sym c.in-Ok.ensures.same)
          (notable f f c.args.layout c.args.tracks.now c.requires.task.0 c.args.position c.args.line
          c.args.access c.requires.task.1.indexed refl c.requires.layout c.requires.line),
    )

pub count_of-len-requires : goal.count_of-len-requires
count_of-len-requires g c =
    let t = c.requires.task in
    due-few (entry_at (g.I.LineIndex.entries c.args.index.now)) c.args.layout c.args.tracks.now
    c.note_undoably-undos.new.tracks c.args.line c.args.task c.args.position t.0 c.args.access t.1
    c.note_undoably-undos.ensures.tracks

pub change-requires-clause-task : goal.change-requires-clause-task
change-requires-clause-task g c =
    let t = c.requires.task in
    subst (λ (m : Entries). IsTask (entry_at m) c.args.layout c.note_undoably-undos.new.tracks
    c.args.line c.args.task c.args.position c.args.access) (sym c.in-Ok.ensures.same)
    (due-task (entry_at (g.I.LineIndex.entries c.args.index.now)) c.args.layout c.args.tracks.now
    c.note_undoably-undos.new.tracks c.args.line c.args.task c.args.position t.0 c.args.access t.1
    c.note_undoably-undos.ensures.tracks c.requires.native c.requires.layout c.requires.small
    c.requires.reached)

pub cut-requires : goal.cut-requires
cut-requires g c = cut_within c.note_undoably-undos.new.tracks c.change.new.tracks
    c.count_of-len.result c.count_of-len.ensures c.in-Err-change.ensures.kept

pub take_all_back-requires : goal.take_all_back-requires
take_all_back-requires g c = (
  c.args.tracks.now,
  subst (λ zs. UndoesAll c.note_undoably-undos.result zs c.args.tracks.now)
      (sym (c.cut.ensures ∙ ap (λ n. take n c.change.new.tracks) c.count_of-len.ensures
      ∙ c.in-Err-change.ensures.kept)) c.note_undoably-undos.ensures.undos,
)

pub returns-in-Ok-change-clause-tracks : goal.returns-in-Ok-change-clause-tracks
returns-in-Ok-change-clause-tracks g c =
    c.in-Ok-change.ensures.tracks
    ∙ ap (λ zs. tracks_changed c.args.layout c.args.line c.args.position c.args.access
    c.args.task.begins c.args.task.searches zs) c.note_undoably-undos.ensures.tracks

pub returns-in-Ok-change-clause-counts : goal.returns-in-Ok-change-clause-counts
returns-in-Ok-change-clause-counts g c = c.in-Ok-change.ensures.counts
    ∙ ap (λ (m : Entries). with_write (counts_of m) c.args.line)
    c.in-Ok.ensures.same

pub returns-in-Ok-change-clause-indexed : goal.returns-in-Ok-change-clause-indexed
returns-in-Ok-change-clause-indexed g c = λ T due.
    c.in-Ok-change.ensures.indexed T
    (subst (λ (m : Entries). IsDue (entry_at m) c.args.layout c.note_undoably-undos.new.tracks
    c.args.line c.args.task c.args.position T) (sym c.in-Ok.ensures.same)
    (due-after (entry_at (g.I.LineIndex.entries c.args.index.now)) c.args.layout c.args.tracks.now
    c.note_undoably-undos.new.tracks c.args.line c.args.task c.args.position T c.args.access due
    c.note_undoably-undos.ensures.tracks))

pub returns-in-Ok-change-clause-steps : goal.returns-in-Ok-change-clause-steps
returns-in-Ok-change-clause-steps g c =
    let m = g.I.LineIndex.entries (c.reserve.new.index) in
    four_steps (entry_at m c.args.line).track c.args.task.begins c.args.steps.now
    c.note_undoably-undos.new.steps c.change.new.steps _
    (λ b. ap (λ (n : Entries). (entry_at n c.args.line).track) c.in-Ok.ensures.same
    ∙ due-none (entry_at (g.I.LineIndex.entries c.args.index.now)) c.args.layout c.args.tracks.now
    c.args.line c.args.task c.args.position c.requires.task.0 c.requires.task.1 b)
    c.note_undoably-undos.ensures.steps c.in-Ok-change.ensures.steps

pub returns-in-Err-change-clause-same : goal.returns-in-Err-change-clause-same
returns-in-Err-change-clause-same g c = c.in-Err-change.ensures.same ∙ c.in-Ok.ensures.same

pub returns-in-Err-change-clause-same_tracks : goal.returns-in-Err-change-clause-same_tracks
returns-in-Err-change-clause-same_tracks g c =
    c.take_all_back.ensures c.args.tracks.now
    (subst (λ zs. UndoesAll c.note_undoably-undos.result zs c.args.tracks.now)
    (sym (c.cut.ensures ∙ ap (λ n. take n c.change.new.tracks) c.count_of-len.ensures
    ∙ c.in-Err-change.ensures.kept)) c.note_undoably-undos.ensures.undos)

pub returns-in-Err-change-clause-known : goal.returns-in-Err-change-clause-known
returns-in-Err-change-clause-known g c = λ quiet some nothing.
    c.in-Err-change.ensures.known quiet
    (ap (λ zs. task_opens c.args.layout c.args.line c.args.task.searches
    (tracks_begun c.args.layout c.args.line c.args.position c.args.access c.args.task.begins zs))
    c.note_undoably-undos.ensures.tracks ∙ nothing)

pub returns-in-Err-change-clause-steps : goal.returns-in-Err-change-clause-steps
returns-in-Err-change-clause-steps g c =
    let m = g.I.LineIndex.entries (c.reserve.new.index) in
    four_steps (entry_at m c.args.line).track c.args.task.begins c.args.steps.now
    c.note_undoably-undos.new.steps c.change.new.steps _
    (λ b. ap (λ (n : Entries). (entry_at n c.args.line).track) c.in-Ok.ensures.same
    ∙ due-none (entry_at (g.I.LineIndex.entries c.args.index.now)) c.args.layout c.args.tracks.now
    c.args.line c.args.task c.args.position c.requires.task.0 c.requires.task.1 b)
    c.note_undoably-undos.ensures.steps c.in-Err-change.ensures.steps
