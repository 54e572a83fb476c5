use Rattle.std.proofs.Common.{◌≡◌, ◌∙◌, ap}
use Rattle.command_line.specs.Run.{run_meaning}
use Rattle.command_line.specs.Words.{run}
use Rattle.guest.specs.Runs.{rest_of}
use Rattle.run_recorder.specs.Recorded.{trace_for}
use Rattle.shelf.specs.Laws.Known.{known_both}
use Rattle.shelf.specs.Shelf.{Known, content}
use Rattle.predator_cli.specs.Run.{symbol_records, trace_for_demand, version_with}
use Rattle.predator_cli.proofs.run.run.Goals as goal

pub returns-in-Err : goal.returns-in-Err
returns-in-Err g c = c.stop.ensures (run (run_meaning c.args.options.now))
    (g.S.Shelf.outside c.args.shelf.now) c.in-Err.ensures.stopped

pub returns-in-Ok : goal.returns-in-Ok
returns-in-Ok g c =
    let d = run_meaning c.args.options.now in
    let a = g.S.Shelf.outside c.args.shelf.now in
    let m = g.S.Shelf.outside c.load_guest.new.shelf in
    let s = c.in-Ok.loaded.settings in
    let r = rest_of c.in-Ok.loaded.guest in
    let symbols = c.in-Ok.loaded.symbols.items in
    let v = version_with d.pcs in
    let traced : Known m.held (λ files. trace_for v s.harts symbols r ≡ trace_for_demand d s files) =
    known_both m.held (λ files runs named. ap (λ x. trace_for v s.harts x r) named
    ∙ ap (trace_for v s.harts (symbol_records (content files d.program))) runs)
    c.in-Ok.ensures.run c.in-Ok.ensures.symbols in
    c.run_loaded.ensures a (record {
      read = c.in-Ok.ensures.settings;
      runs = c.in-Ok.ensures.run;
      traced = traced;
      accepted = c.in-Ok.ensures.accepted;
    })
