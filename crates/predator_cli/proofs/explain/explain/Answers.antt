use Rattle.std.proofs.Common.{◌≡◌, Ok, subst}
use Rattle.shelf.specs.Shelf.{Known, content}
use Rattle.command_line.specs.Explain.{explain_meaning}
use Rattle.command_line.specs.Run.{RunDemand}
use Rattle.command_line.specs.Words.{explain}
use Rattle.guest.specs.Runs.{rest_of}
use Rattle.command_io.specs.Readings.{IsAccepted, IsStopped}
use Rattle.command_io.specs.SettingsFiles.{settings_in}
use Rattle.predator_cli.specs.Run.{run_for_demand, run_readings, symbol_records}
use Rattle.predator_cli.proofs.ExplainEnds.{to_explain}
use Rattle.predator_cli.proofs.explain.explain.Goals as goal

pub returns-in-Err : goal.returns-in-Err
returns-in-Err g c =
    let a = g.S.Shelf.outside c.args.shelf.now in
    let b = g.S.Shelf.outside c.load_guest.new.shelf in
    c.stop.ensures (explain (explain_meaning c.args.options.now)) a
    (subst (λ (x : RunDemand). IsStopped (run_readings x) a b c.in-Err.status) c.run_of.ensures
    c.in-Err.ensures.stopped)

pub returns-in-Ok : goal.returns-in-Ok
returns-in-Ok g c =
    let d = explain_meaning c.args.options.now in
    let a = g.S.Shelf.outside c.args.shelf.now in
    let b = g.S.Shelf.outside c.load_guest.new.shelf in
    let s = c.in-Ok.loaded.settings in
    let symbols = c.in-Ok.loaded.symbols.items in
    let r = rest_of c.in-Ok.loaded.guest in
    let same = c.run_of.ensures in
    c.explain_loaded.ensures a
    (to_explain d s symbols r a b
    (subst (λ (x : RunDemand). IsAccepted (run_readings x) a b) same c.in-Ok.ensures.accepted)
    (subst (λ (x : RunDemand). Known b.held (λ files. settings_in x.settings files ≡ Ok s)) same
    c.in-Ok.ensures.settings)
    (subst (λ (x : RunDemand). Known b.held (λ files. r ≡ run_for_demand x s files)) same
    c.in-Ok.ensures.run)
    (subst (λ (x : RunDemand). Known b.held
    (λ files. symbols ≡ symbol_records (content files x.program))) same c.in-Ok.ensures.symbols))
