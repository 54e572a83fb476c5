-- What a replay reads and gives, and how the command ends after it.
use Rattle.std.proofs.Common.{◌≡◌, ℕ, List, [], ◌∷◌, ◌++◌, Option, Some, None, Ok, refl, sym, ap}
use Rattle.std.proofs.Common.{◌∙◌}
use Rattle.std.specs.Option.{option_map_or}
use Rattle.command_line.specs.Names.{given}
use Rattle.command_line.specs.Replay.{ReplayDemand}
use Rattle.command_line.specs.Words.{replay}
use Rattle.shelf.specs.Files.{AreCut, AreWritten}
use Rattle.base.specs.Levels.{Levels}
use Rattle.base.specs.Lines.{Grid}
use Rattle.settings.specs.declared.values.Settings.{Settings}
use Rattle.shelf.specs.Shelf.{Files, Narrows, Outside, Known, content}
use Rattle.shelf.specs.declared.shelf.ShelfError.{ShelfError}
use Rattle.trace_passes.specs.Passes.{Trace, trace_of}
use Rattle.command_io.specs.Readings.{IsAccepted, IsReadFrom, IsStopped, Reading}
use Rattle.command_io.specs.SettingsFiles.{layout_of, levels_of, settings_in, settings_readings}
use Rattle.command_io.specs.Statuses.{status_of_writing}
use Rattle.command_io.specs.Works.{done_with, output_for}
use Rattle.command_io.specs.declared.status.Status.{Status}
use Rattle.command_io.specs.declared.status.Status.TheVariants as status
use Rattle.command_io.specs.Laws.Settings.{settings_chosen}
use Rattle.command_io.specs.Laws.Readings.{accepted_behind, alike_accepted, alike_stopped}
use Rattle.command_io.specs.Laws.Readings.{stopped_behind, stopped_first, known_again}
use Rattle.shelf.specs.Laws.Files.{AreCut-behind, AreWritten-behind}
use Rattle.shelf.specs.Laws.Known.{if_known, known_both, known_map, known_still}
use Rattle.predator_cli.specs.Meets.{IsFaulty, IsWorked}
use Rattle.predator_cli.specs.Replay.{IsCounted, IsToShow, begun_in, begun_under, grid_in}
use Rattle.predator_cli.specs.Replay.{levels_in, refuses_trace, replay_readings}
use Rattle.predator_cli.specs.Replay.{replay_work, shown, state_readings, trace_reading}
use Rattle.predator_cli.specs.Replay.{wanted_after, wanted_in, work_after}
use Rattle.predator_cli.specs.declared.state_file.Begun.{Begun}
use Rattle.predator_cli.proofs.StateFiles.{states_accepted, states_stopped}
use Rattle.predator_cli.proofs.WriteEnds.{IsToWrite, names_in, still_to_write, writing_cut}
use Rattle.predator_cli.proofs.WriteEnds.{written_worked}

-- ---- what is read

-- the settings are refused
pub settings_stopped : (d : ReplayDemand) (a b : Outside) (s : Status)
    → IsStopped (settings_readings d.settings) a b s
    → IsStopped (replay_readings d) a b s
settings_stopped d a b s stopped =
    stopped_first (settings_readings d.settings) (state_readings (grid_in d) (levels_in d) d.resume
    ++ trace_reading (wanted_in d) d.trace ∷ []) a b s stopped

-- the layout and the thresholds are those of the settings, which were read
module _ (d : ReplayDemand) (s : Settings) (g : Grid) (v : Levels)
    (grid_is : g ≡ layout_of d.layout s)
    (levels_is : v ≡ levels_of d.layout s)
  where
    chosen : (a : Outside) → Known a.held (λ files. settings_in d.settings files ≡ Ok s)
        → Known a.held (λ files. (grid_in d files ≡ g) × (levels_in d files ≡ v))
    chosen a read = known_map a.held (λ files is. (
      ap (layout_of d.layout) (settings_chosen d.settings files s is) ∙ sym grid_is,
      ap (levels_of d.layout) (settings_chosen d.settings files s is) ∙ sym levels_is,
    )) read

    begun_alike : (files : Files) → (grid_in d files ≡ g) × (levels_in d files ≡ v)
        → begun_in d files ≡ begun_under g v d.resume files
    begun_alike files same =
        ap (λ (x : Grid). begun_under x (levels_in d files) d.resume files) same.0
        ∙ ap (λ (x : Levels). begun_under g x d.resume files) same.1

    abbrev states : List Reading
    states = state_readings (grid_in d) (levels_in d) d.resume

    abbrev traces : List Reading
    traces = trace_reading (wanted_in d) d.trace ∷ []

    wanted_alike : (begun : Option Begun) (a : Outside)
        → Known a.held (λ files. settings_in d.settings files ≡ Ok s)
        → Known a.held (λ files. begun_under g v d.resume files ≡ begun)
        → Known a.held (λ files. refuses_trace (wanted_in d files) d.trace files
        ≡ refuses_trace (wanted_after d.save g begun) d.trace files)
    wanted_alike begun a read is =
        known_both a.held (λ files same e.
        ap (λ (x : Grid). refuses_trace (wanted_after d.save x (begun_in d files)) d.trace files)
        same.0
        ∙ ap (λ (x : Option Begun). refuses_trace (wanted_after d.save g x) d.trace files)
        (begun_alike files same ∙ e))
        (chosen a read) is

    -- the state is refused, behind the settings
    pub state_stopped : (a m p : Outside) (st : Status)
        → Known m.held (λ files. settings_in d.settings files ≡ Ok s)
        → IsAccepted (settings_readings d.settings) a m
        → IsStopped (state_readings (λ x. g) (λ x. v) d.resume) m p st
        → IsStopped (replay_readings d) a p st
    state_stopped a m p st read first stopped =
        let at_p = known_still (λ files. settings_in d.settings files ≡ Ok s) m.held p.held
        stopped.only.held read in
        stopped_behind (settings_readings d.settings) (states ++ traces) a m p st first
        (stopped_first states traces m p st
        (states_stopped (grid_in d) (levels_in d) g v d.resume m p st (chosen p at_p) stopped))

    module _ (begun : Option Begun) (a m p b : Outside)
        (read : Known m.held (λ files. settings_in d.settings files ≡ Ok s))
        (first : IsAccepted (settings_readings d.settings) a m)
        (then : IsAccepted (state_readings (λ x. g) (λ x. v) d.resume) m p)
        (is : Known p.held (λ files. begun_under g v d.resume files ≡ begun))
      where
        at_p : Known p.held (λ files. settings_in d.settings files ≡ Ok s)
        at_p = known_again (λ files. settings_in d.settings files ≡ Ok s) m p then.read read

        behind : IsAccepted states m p
        behind = states_accepted (grid_in d) (levels_in d) g v d.resume m p (chosen p at_p) then

        -- the same once the trace was read
        module _ (narrow : Narrows p.held b.held) where
          at_b : Known b.held (λ files. settings_in d.settings files ≡ Ok s)
          at_b = known_still (λ files. settings_in d.settings files ≡ Ok s) p.held b.held narrow at_p

          begun_at_b : Known b.held (λ files. begun_under g v d.resume files ≡ begun)
          begun_at_b = known_still (λ files. begun_under g v d.resume files ≡ begun) p.held b.held
              narrow is

        -- the trace is refused, behind both
        pub trace_stopped : (st : Status)
            → IsStopped (trace_reading (λ x. wanted_after d.save g begun) d.trace ∷ []) p b st
            → IsStopped (replay_readings d) a b st
        trace_stopped st stopped =
            stopped_behind (settings_readings d.settings) (states ++ traces) a m b st first
            (stopped_behind states traces m p b st behind
            (alike_stopped d.trace
            (λ files. refuses_trace (wanted_after d.save g begun) d.trace files)
            (λ files. refuses_trace (wanted_in d files) d.trace files) p b st
            (wanted_alike begun b (at_b stopped.only.held) (begun_at_b stopped.only.held))
            stopped))

        all_accepted : IsAccepted (trace_reading (λ x. wanted_after d.save g begun) d.trace ∷ [])
            p b → IsAccepted (replay_readings d) a b
        all_accepted last =
            accepted_behind (settings_readings d.settings) (states ++ traces) a m b first
            (accepted_behind states traces m p b behind
            (alike_accepted d.trace
            (λ files. refuses_trace (wanted_after d.save g begun) d.trace files)
            (λ files. refuses_trace (wanted_in d files) d.trace files) p b
            (wanted_alike begun b (at_b last.read.only.held) (begun_at_b last.read.only.held))
            last))

        work_is : (files : Files) (bytes text state : List ℕ) → (grid_in d files ≡ g)
            × (levels_in d files ≡ v)
            → begun_under g v d.resume files ≡ begun → bytes ≡ content files d.trace
            → IsCounted d.save g v begun bytes text state
            → replay_work d files ≡ shown d.save text state
        work_is files bytes text state same e whole counted =
            ap (λ (x : Grid). option_map_or
            (work_after d.save x (levels_in d files) (begun_in d files))
            (trace_of (content files d.trace))
            (done_with [])) same.0
            ∙ ap (λ (x : Levels). option_map_or (work_after d.save g x (begun_in d files))
            (trace_of (content files d.trace))
            (done_with []))
            same.1
            ∙ ap (λ (x : Option Begun). option_map_or (work_after d.save g v x)
            (trace_of (content files d.trace)) (done_with []))
            (begun_alike files same ∙ e)
            ∙ ap (λ (x : List ℕ). option_map_or (work_after d.save g v begun) (trace_of x)
            (done_with [])) (sym whole)
            ∙ ap (λ (x : Option Trace). option_map_or (work_after d.save g v begun) x
            (done_with [])) counted.1 ∙ counted.2

        -- all three are read
        pub trace_counted : (text state : List ℕ)
            → IsAccepted (trace_reading (λ x. wanted_after d.save g begun) d.trace ∷ []) p b
            → IsReadFrom b.held d.trace (λ bytes. IsCounted d.save g v begun bytes text state)
            → IsToShow d a b text state
        trace_counted text state last counted =
            let narrow = last.read.only.held in
            let ready : Known b.held (λ files. counted.bytes ≡ content files d.trace
            → replay_work d files ≡ shown d.save text state) =
            known_both b.held (λ files same e whole. work_is files counted.bytes text state same e
            whole counted.given)
            (chosen b (at_b narrow)) (begun_at_b narrow)
            in
            record {
              accepted = all_accepted last;
              work = known_both b.held (λ files f whole. f whole) ready counted.whole;
            }

-- ---- how the command ends

named : (save : Option (List ℕ)) (bytes : List ℕ) → names_in (output_for save bytes) ≡ given save []
named None bytes = refl
named (Some name) bytes = refl

module _ (d : ReplayDemand) (text state : List ℕ) (old m b : Outside)
    (ready : IsToShow d old m text state) where
  to_write : IsToWrite (replay d) (shown d.save text state) m.held
  to_write = record {
    accepts = ready.accepted.accepts;
    works = ready.work;
    names =
        named d.save state;
  }

  pub saved_worked : AreWritten (output_for d.save state) m b
      → IsWorked (replay d) old b status.Done text
  saved_worked written =
      written_worked (replay d) (shown d.save text state) old b status.Done text
      (still_to_write (replay d) (shown d.save text state) m.held b.held written.only.held to_write)
      refl refl (if_known b.held (λ files. tt))
      (AreWritten-behind (output_for d.save state) old m b ready.accepted.read written)

  pub saved_cut : (error : ShelfError) → AreCut (output_for d.save state) m b error
      → IsFaulty (Some (replay d)) old b (status_of_writing error)
  saved_cut error cut =
      writing_cut (replay d) (shown d.save text state) old b error
      (still_to_write (replay d) (shown d.save text state) m.held b.held cut.only.held to_write)
      (AreCut-behind (output_for d.save state) old m b error ready.accepted.read cut)
