use Rattle.std.proofs.Common.{◌≡◌, ◌∙◌, [], ◌∷◌, Ok, ap}
use Rattle.command_line.specs.Run.{run_meaning}
use Rattle.guest.specs.Runs.{rest_of}
use Rattle.program_files.specs.PlacedImages.{image_of}
use Rattle.shelf.specs.Shelf.{Narrows, Known, content}
use Rattle.command_io.specs.ProgramFiles.{program_reading, program_refusal, space_of}
use Rattle.command_io.specs.Readings.{IsAccepted, IsStopped}
use Rattle.command_io.specs.SettingsFiles.{chosen_settings, settings_in, settings_readings}
use Rattle.command_io.specs.Laws.Settings.{program_alike}
use Rattle.command_io.specs.Laws.Readings.{accepted_behind, alike_accepted, alike_stopped}
use Rattle.command_io.specs.Laws.Readings.{memory_stopped, stopped_behind}
use Rattle.command_io.specs.Laws.Readings.{stopped_first, known_again}
use Rattle.shelf.specs.Laws.Known.{known_map, known_still}
use Rattle.predator_cli.specs.Run.{run_readings, schedule_readings, symbol_records}
use Rattle.predator_cli.proofs.RunLaws.{run_known}
use Rattle.predator_cli.proofs.run.load_guest.Given.{Over}
use Rattle.predator_cli.proofs.run.load_guest.Goals as goal
use Rattle.predator_cli.proofs.run.load_guest.Goals.{After-make_guest}

pub returns-in-Err-clause-stopped : goal.returns-in-Err-clause-stopped
returns-in-Err-clause-stopped g c =
    let d = run_meaning c.args.options.now in
    stopped_first (settings_readings d.settings)
    (program_reading d.settings d.program ∷ schedule_readings d.settings d.schedule)
    (g.S.Shelf.outside c.args.shelf.now) (g.S.Shelf.outside c.read_settings.new.shelf)
    c.in-Err.status c.in-Err.ensures.stopped

pub returns-in-Err-read_judged-clause-stopped : goal.returns-in-Err-read_judged-clause-stopped
returns-in-Err-read_judged-clause-stopped g c =
    let d = run_meaning c.args.options.now in
    let later = schedule_readings d.settings d.schedule in
    let a = g.S.Shelf.outside c.args.shelf.now in
    let m = g.S.Shelf.outside c.read_settings.new.shelf in
    let p = g.S.Shelf.outside c.read_judged.new.shelf in
    let s = c.in-Ok.settings in
    let st = c.in-Err-read_judged.status in
    let read : Known m.held (λ files. settings_in d.settings files ≡ Ok s) = c.in-Ok.ensures.read in
    let stopped : IsStopped (program_reading d.settings d.program ∷ []) m p st =
    alike_stopped d.program (λ files. program_refusal s (content files d.program))
    (λ files. program_refusal (chosen_settings d.settings files) (content files d.program)) m p st
    (program_alike d.settings d.program p.held s
    (known_still (λ files. settings_in d.settings files ≡ Ok s) m.held p.held
    c.in-Err-read_judged.ensures.stopped.only.held read)) c.in-Err-read_judged.ensures.stopped in
    stopped_behind (settings_readings d.settings) (program_reading d.settings d.program ∷ later) a m
    p st c.in-Ok.ensures.accepted
    (stopped_first (program_reading d.settings d.program ∷ []) later m p st stopped)

pub returns-in-Err-read_schedule-clause-stopped : goal.returns-in-Err-read_schedule-clause-stopped
returns-in-Err-read_schedule-clause-stopped g c =
    let d = run_meaning c.args.options.now in
    let later = schedule_readings d.settings d.schedule in
    let a = g.S.Shelf.outside c.args.shelf.now in
    let m = g.S.Shelf.outside c.read_settings.new.shelf in
    let p = g.S.Shelf.outside c.read_judged.new.shelf in
    let b = g.S.Shelf.outside c.read_schedule.new.shelf in
    let s = c.in-Ok.settings in
    let st = c.in-Err-read_schedule.status in
    let read : Known m.held (λ files. settings_in d.settings files ≡ Ok s) = c.in-Ok.ensures.read in
    let at_p : Known p.held (λ files. settings_in d.settings files ≡ Ok s) = known_again
    (λ files. settings_in d.settings files ≡ Ok s) m p c.in-Ok-read_judged.ensures.accepted.read
    read in
    let placed : IsAccepted (program_reading d.settings d.program ∷ []) m p =
    alike_accepted d.program (λ files. program_refusal s (content files d.program))
    (λ files. program_refusal (chosen_settings d.settings files) (content files d.program)) m p
    (program_alike d.settings d.program p.held s at_p) c.in-Ok-read_judged.ensures.accepted in
    let stopped : IsStopped later p b st = c.in-Err-read_schedule.ensures.stopped d.settings at_p
    in
    stopped_behind (settings_readings d.settings) (program_reading d.settings d.program ∷ later) a m
    b st c.in-Ok.ensures.accepted
    (stopped_behind (program_reading d.settings d.program ∷ []) later m p b st placed stopped)

-- where all three are read, each is accepted
all_accepted : (g : Over) (c : After-make_guest g)
    → IsAccepted (run_readings (run_meaning c.args.options.now))
    (g.S.Shelf.outside c.args.shelf.now)
    (g.S.Shelf.outside c.read_schedule.new.shelf)
all_accepted g c =
    let d = run_meaning c.args.options.now in
    let later = schedule_readings d.settings d.schedule in
    let a = g.S.Shelf.outside c.args.shelf.now in
    let m = g.S.Shelf.outside c.read_settings.new.shelf in
    let p = g.S.Shelf.outside c.read_judged.new.shelf in
    let b = g.S.Shelf.outside c.read_schedule.new.shelf in
    let s = c.in-Ok.settings in
    let read : Known m.held (λ files. settings_in d.settings files ≡ Ok s) = c.in-Ok.ensures.read in
    let at_p : Known p.held (λ files. settings_in d.settings files ≡ Ok s) = known_again
    (λ files. settings_in d.settings files ≡ Ok s) m p c.in-Ok-read_judged.ensures.accepted.read
    read in
    let placed : IsAccepted (program_reading d.settings d.program ∷ []) m p =
    alike_accepted d.program (λ files. program_refusal s (content files d.program))
    (λ files. program_refusal (chosen_settings d.settings files) (content files d.program)) m p
    (program_alike d.settings d.program p.held s at_p) c.in-Ok-read_judged.ensures.accepted in
    accepted_behind (settings_readings d.settings) (program_reading d.settings d.program ∷ later) a
    m b c.in-Ok.ensures.accepted
    (accepted_behind (program_reading d.settings d.program ∷ []) later m p b placed
    (c.in-Ok-read_schedule.ensures.accepted d.settings at_p))

pub returns-in-Ok-make_guest-clause-accepted : goal.returns-in-Ok-make_guest-clause-accepted
returns-in-Ok-make_guest-clause-accepted g c =
    all_accepted g (goal.at.returns-in-Ok-make_guest-clause-accepted g c).After-make_guest

pub returns-in-Err-make_guest-clause-stopped : goal.returns-in-Err-make_guest-clause-stopped
returns-in-Err-make_guest-clause-stopped g c =
    let all = all_accepted g (goal.at.returns-in-Err-make_guest-clause-stopped g c).After-make_guest
    in
    let a = g.S.Shelf.outside c.args.shelf.now in
    let b = g.S.Shelf.outside c.read_schedule.new.shelf in
    memory_stopped (run_readings (run_meaning c.args.options.now)) a b all.read.faults
    all.read.only

-- ---- what is known still once the schedule was read

settings_last : (g : Over) (c : After-make_guest g)
    → Known (g.S.Shelf.outside c.read_judged.new.shelf).held
    (λ files. settings_in (run_meaning c.args.options.now).settings files ≡ Ok c.in-Ok.settings)
settings_last g c =
    let d = run_meaning c.args.options.now in
    known_again (λ files. settings_in d.settings files ≡ Ok c.in-Ok.settings)
    (g.S.Shelf.outside c.read_settings.new.shelf) (g.S.Shelf.outside c.read_judged.new.shelf)
    c.in-Ok-read_judged.ensures.accepted.read c.in-Ok.ensures.read

still_last : (g : Over) (c : After-make_guest g)
    → Narrows (g.S.Shelf.outside c.read_judged.new.shelf).held
    (g.S.Shelf.outside c.read_schedule.new.shelf).held
still_last g c =
    (c.in-Ok-read_schedule.ensures.accepted (run_meaning c.args.options.now).settings
    (settings_last g c)).read.only.held

pub returns-in-Ok-make_guest-clause-settings : goal.returns-in-Ok-make_guest-clause-settings
returns-in-Ok-make_guest-clause-settings g c =
    let at = (goal.at.returns-in-Ok-make_guest-clause-settings g c).After-make_guest in
    let d = run_meaning c.args.options.now in
    rw c.in-Ok-make_guest.ensures.settings
    (known_still (λ files. settings_in d.settings files ≡ Ok c.in-Ok.settings)
    (g.S.Shelf.outside c.read_judged.new.shelf).held
    (g.S.Shelf.outside c.read_schedule.new.shelf).held (still_last g at) (settings_last g at))

pub returns-in-Ok-make_guest-clause-run : goal.returns-in-Ok-make_guest-clause-run
returns-in-Ok-make_guest-clause-run g c =
    let at = (goal.at.returns-in-Ok-make_guest-clause-run g c).After-make_guest in
    let d = run_meaning c.args.options.now in
    let p = (g.S.Shelf.outside c.read_judged.new.shelf).held in
    let b = (g.S.Shelf.outside c.read_schedule.new.shelf).held in
    let s = c.in-Ok.settings in
    let loading = c.in-Ok-read_judged.loading in
    let given = c.in-Ok-read_judged.ensures.given in
    let whole : Known b (λ files. given.bytes ≡ content files d.program) =
    known_still (λ files. given.bytes ≡ content files d.program) p b (still_last g at) given.whole in
    let image : Known b (λ files. loading.image ≡ image_of (space_of s) (content files d.program)) =
    known_map b (λ files is. given.given.image ∙ ap (image_of (space_of s)) is) whole in
    rw c.in-Ok-make_guest.ensures.settings
    (run_known d s b loading.image c.in-Ok-read_schedule.schedule
    (rest_of c.in-Ok-make_guest.loaded.guest) image c.in-Ok-read_schedule.ensures.plan
    c.in-Ok-make_guest.ensures.run)

pub returns-in-Ok-make_guest-clause-symbols : goal.returns-in-Ok-make_guest-clause-symbols
returns-in-Ok-make_guest-clause-symbols g c =
    let at = (goal.at.returns-in-Ok-make_guest-clause-symbols g c).After-make_guest in
    let name = c.args.options.now.program.now in
    let b = (g.S.Shelf.outside c.read_schedule.new.shelf).held in
    let given = c.in-Ok-read_judged.ensures.given in
    known_map b (λ files is. rw c.in-Ok-make_guest.ensures.symbols
    (given.given.symbols ∙ ap symbol_records is))
    (known_still (λ files. given.bytes ≡ content files name)
    (g.S.Shelf.outside c.read_judged.new.shelf).held b (still_last g at) given.whole)
