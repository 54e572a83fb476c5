use Rattle.std.proofs.Common.{◌≡◌, ◌∙◌, [], ◌∷◌, Ok, ap, sym}
use Rattle.command_line.specs.Check.{check_meaning}
use Rattle.shelf.specs.Shelf.{Known, content}
use Rattle.command_io.specs.ProgramFiles.{program_reading, program_refusal}
use Rattle.command_io.specs.Readings.{IsStopped}
use Rattle.command_io.specs.SettingsFiles.{chosen_settings, settings_in, settings_readings}
use Rattle.command_io.specs.Laws.Settings.{program_alike, settings_chosen}
use Rattle.command_io.specs.Laws.Readings.{accepted_behind, alike_accepted, alike_stopped}
use Rattle.command_io.specs.Laws.Readings.{stopped_behind, stopped_first}
use Rattle.command_io.specs.Works.{done_with}
use Rattle.shelf.specs.Laws.Known.{known_both, known_still}
use Rattle.settings.specs.declared.values.Settings.{Settings}
use Rattle.predator_cli.specs.Check.{checked}
use Rattle.predator_cli.proofs.check.check_text.Goals as goal

pub returns-in-Err-clause-stopped : goal.returns-in-Err-clause-stopped
returns-in-Err-clause-stopped g c =
    let d = check_meaning c.args.options.now in
    stopped_first (settings_readings d.settings)
    (program_reading d.settings d.program ∷ []) (g.S.Shelf.outside c.args.shelf.now)
    (g.S.Shelf.outside c.read_settings.new.shelf) c.in-Err.status
    c.in-Err.ensures.stopped

pub returns-in-Err-read_judged-clause-stopped : goal.returns-in-Err-read_judged-clause-stopped
returns-in-Err-read_judged-clause-stopped g c =
    let d = check_meaning c.args.options.now in
    let a = g.S.Shelf.outside c.args.shelf.now in
    let m = g.S.Shelf.outside c.read_settings.new.shelf in
    let p = g.S.Shelf.outside c.read_judged.new.shelf in
    let s = c.in-Ok.settings in
    let st = c.in-Err-read_judged.status in
    let read : Known p.held (λ files. settings_in d.settings files ≡ Ok s) = known_still
    (λ files. settings_in d.settings files ≡ Ok s) m.held p.held
    c.in-Err-read_judged.ensures.stopped.only.held c.in-Ok.ensures.read in
    let stopped : IsStopped (program_reading d.settings d.program ∷ []) m p st =
    alike_stopped d.program (λ files. program_refusal s (content files d.program))
    (λ files. program_refusal (chosen_settings d.settings files) (content files d.program)) m p st
    (program_alike d.settings d.program p.held s read) c.in-Err-read_judged.ensures.stopped in
    stopped_behind (settings_readings d.settings) (program_reading d.settings d.program ∷ []) a m p
    st c.in-Ok.ensures.accepted stopped

pub returns-in-Ok-read_judged-clause-answered : goal.returns-in-Ok-read_judged-clause-answered
returns-in-Ok-read_judged-clause-answered g c =
    let d = check_meaning c.args.options.now in
    let a = g.S.Shelf.outside c.args.shelf.now in
    let m = g.S.Shelf.outside c.read_settings.new.shelf in
    let p = g.S.Shelf.outside c.read_judged.new.shelf in
    let s = c.in-Ok.settings in
    let accepted = c.in-Ok-read_judged.ensures.accepted in
    let given = c.in-Ok-read_judged.ensures.given in
    let read : Known p.held (λ files. settings_in d.settings files ≡ Ok s) = known_still
    (λ files. settings_in d.settings files ≡ Ok s) m.held p.held accepted.read.only.held
    c.in-Ok.ensures.read in
    record {
      accepted = accepted_behind (settings_readings d.settings)
          (program_reading d.settings d.program ∷ []) a m p c.in-Ok.ensures.accepted
          (alike_accepted d.program (λ files. program_refusal s (content files d.program))
          (λ files. program_refusal (chosen_settings d.settings files) (content files d.program)) m p
          (program_alike d.settings d.program p.held s read) accepted);
      work = known_both p.held
          (λ files whole is. sym (ap done_with (given.given
          ∙ ap (checked s) whole
          ∙ ap (λ (x : Settings). checked x (content files d.program))
          (sym (settings_chosen d.settings files s is))))) given.whole read;
      again = λ files. tt;
    }
