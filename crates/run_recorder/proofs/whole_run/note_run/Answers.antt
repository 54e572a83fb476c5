use Rattle.std.proofs.Common.{◌≤◌, ◌^◌, ◌∙◌, ◌++◌, ◌∷◌, [], ℕ, List, length, ap, subst, arith}
use Rattle.base.specs.declared.ending.Ending.{Ending}
use Rattle.trace_format.specs.declared.record.TraceEnd.{TraceEnd}
use Rattle.shelf.specs.Files.{Output as AnOutput, AreCut, AreWritten}
use Rattle.trace_format.specs.declared.record.TraceRecord.TheVariants as records
use Rattle.guest.specs.SeenTurns.{IsEndOf}
use Rattle.guest.specs.Runs.{output_of, rest_of, touches_in}
use Rattle.run_recorder.specs.Recorded.{end_for, outputs_of, records_in, records_of}
use Rattle.run_recorder.specs.Recording.{AreCutAfter, AreNoted, bytes_so_far}
use Rattle.run_recorder.proofs.Events.{whole_put}
use Rattle.run_recorder.proofs.Following.{cut_before, cut_start, first_noted, room_for_end}
use Rattle.run_recorder.proofs.Kept.{few_touches, kept_rules, untouched}
use Rattle.run_recorder.proofs.whole_run.note_run.Goals as goal

pub returns-in-Err-clause-cut : goal.returns-in-Err-clause-cut
returns-in-Err-clause-cut g c =
    let old = g.S.Shelf.outside c.args.shelf.now in
    let new = g.S.Shelf.outside c.begin.new.shelf in
    cut_start c.args.version c.args.guest.now.setup.harts c.args.symbols.now c.args.files.now
    (rest_of c.args.guest.now) old new c.in-Err.error
    (subst (λ (n : ℕ). AreCutAfter c.args.version n [] [] c.args.files.now old new c.in-Err.error)
    c.harts.ensures
    c.in-Err.ensures.cut)

pub returns-in-Err-note_symbols-clause-cut : goal.returns-in-Err-note_symbols-clause-cut
returns-in-Err-note_symbols-clause-cut g c =
    let old = g.S.Shelf.outside c.args.shelf.now in
    let v = c.args.version in
    let harts = c.args.guest.now.setup.harts in
    let files = c.args.files.now in
    let first : AreNoted v harts [] [] files c.begin.new.outputs c.args.speller.now.writer old
    (g.S.Shelf.outside c.begin.new.shelf) =
    first_noted v c.harts.result harts files c.begin.new.outputs c.args.speller.now.writer old
    (g.S.Shelf.outside c.begin.new.shelf) c.harts.ensures c.requires.writer
    c.in-Ok.ensures.outputs in
    cut_before v harts c.args.symbols.now files (rest_of c.args.guest.now) old
    (g.S.Shelf.outside c.note_symbols.new.shelf)
    c.in-Err-note_symbols.error
    (c.in-Err-note_symbols.ensures.cut v harts old first)

pub follow-requires-clause-started : goal.follow-requires-clause-started
follow-requires-clause-started g c = record {
  begun = c.args.observer.now;
  earlier = c.args.symbols.now;
  begins_there = c.requires.begins;
  given_so_far = c.in-Ok-note_symbols.ensures.given;
  untouched = untouched c.args.symbols.now c.requires.symbols;
}

pub returns-in-Err-follow-clause-cut : goal.returns-in-Err-follow-clause-cut
returns-in-Err-follow-clause-cut g c =
    let old = g.S.Shelf.outside c.args.shelf.now in
    let v = c.args.version in
    let harts = c.args.guest.now.setup.harts in
    let files = c.args.files.now in
    let first : AreNoted v harts [] [] files c.begin.new.outputs c.args.speller.now.writer old
    (g.S.Shelf.outside c.begin.new.shelf) =
    first_noted v c.harts.result harts files c.begin.new.outputs c.args.speller.now.writer old
    (g.S.Shelf.outside c.begin.new.shelf) c.harts.ensures c.requires.writer
    c.in-Ok.ensures.outputs in
    c.in-Err-follow.ensures.cut c.args.symbols.now old
    (c.in-Ok-note_symbols.ensures.noted v harts old first)

pub end-requires-clause-room : goal.end-requires-clause-room
end-requires-clause-room g c =
    let r = rest_of c.args.guest.now in
    let few : length (touches_in r.events) ≤ 2 ^ 40 =
    omega (arith, few_touches r.events, c.requires.short.events, c.requires.budget) in
    room_for_end g.O.Observer.begins g.O.Observer.given c.note_symbols.new.observer
    c.follow.new.observer c.args.version r.events c.end_for-last.result
    (record {
      begun = c.args.observer.now;
      earlier = c.args.symbols.now;
      begins_there = c.requires.begins;
      given_so_far = c.in-Ok-note_symbols.ensures.given;
      untouched = untouched c.args.symbols.now c.requires.symbols;
    }) c.in-Ok-follow.ensures.given few

pub returns-in-Ok-end-clause-good : goal.returns-in-Ok-end-clause-good
returns-in-Ok-end-clause-good g c =
    let r = rest_of c.args.guest.now in
    let harts = c.args.guest.now.setup.harts in
    kept_rules c.args.version harts c.args.symbols.now c.args.guest.now.setup r c.requires.some
    c.requires.most
    c.requires.symbols c.requires.few
    c.requires.short c.requires.budget
    c.in-Ok-follow.ensures.good (subst (λ (e : Ending). IsEndOf harts e.outcome)
    c.in-Ok-follow.ensures.ending c.in-Ok-follow.ensures.end)

pub returns-in-Ok-end-clause-written : goal.returns-in-Ok-end-clause-written
returns-in-Ok-end-clause-written g c =
    let r = rest_of c.args.guest.now in
    let v = c.args.version in
    let harts = c.args.guest.now.setup.harts in
    let files = c.args.files.now in
    let symbols = c.args.symbols.now in
    let old = g.S.Shelf.outside c.args.shelf.now in
    let new = g.S.Shelf.outside c.end.new.shelf in
    let first : AreNoted v harts [] [] files c.begin.new.outputs c.args.speller.now.writer old
    (g.S.Shelf.outside c.begin.new.shelf) =
    first_noted v c.harts.result harts files c.begin.new.outputs c.args.speller.now.writer old
    (g.S.Shelf.outside c.begin.new.shelf) c.harts.ensures c.requires.writer
    c.in-Ok.ensures.outputs in
    subst (λ (l : List AnOutput). AreWritten l old new)
    (ap (λ (e : TraceEnd). outputs_of files
    (bytes_so_far v harts (records_of v symbols r ++ records.End e ∷ []) (output_of r)))
    c.end_for-last.ensures
    ∙ ap (λ (e : Ending). outputs_of files
    (bytes_so_far v harts (records_of v symbols r ++ records.End (end_for v e) ∷ []) (output_of r)))
    c.in-Ok-follow.ensures.ending
    ∙ whole_put v harts symbols files r)
    (c.in-Ok-end.ensures.written v harts (symbols ++ records_in v r.events) (output_of r) old
    (c.in-Ok-follow.ensures.noted symbols old (c.in-Ok-note_symbols.ensures.noted v harts old
    first)))

pub returns-in-Err-end-clause-cut : goal.returns-in-Err-end-clause-cut
returns-in-Err-end-clause-cut g c =
    let r = rest_of c.args.guest.now in
    let v = c.args.version in
    let harts = c.args.guest.now.setup.harts in
    let files = c.args.files.now in
    let symbols = c.args.symbols.now in
    let old = g.S.Shelf.outside c.args.shelf.now in
    let new = g.S.Shelf.outside c.end.new.shelf in
    let first : AreNoted v harts [] [] files c.begin.new.outputs c.args.speller.now.writer old
    (g.S.Shelf.outside c.begin.new.shelf) =
    first_noted v c.harts.result harts files c.begin.new.outputs c.args.speller.now.writer old
    (g.S.Shelf.outside c.begin.new.shelf) c.harts.ensures c.requires.writer
    c.in-Ok.ensures.outputs in
    subst (λ (l : List AnOutput). AreCut l old new c.in-Err-end.error)
    (ap (λ (e : TraceEnd). outputs_of files
    (bytes_so_far v harts (records_of v symbols r ++ records.End e ∷ []) (output_of r)))
    c.end_for-last.ensures
    ∙ ap (λ (e : Ending). outputs_of files
    (bytes_so_far v harts (records_of v symbols r ++ records.End (end_for v e) ∷ []) (output_of r)))
    c.in-Ok-follow.ensures.ending
    ∙ whole_put v harts symbols files r)
    (c.in-Err-end.ensures.cut v harts (symbols ++ records_in v r.events) (output_of r) old
    (c.in-Ok-follow.ensures.noted symbols old (c.in-Ok-note_symbols.ensures.noted v harts old
    first)))
