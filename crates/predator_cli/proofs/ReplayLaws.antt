-- The state of what was seen, and the recount of what is reported.
use Rattle.std.proofs.Common.{◌≡◌, ℕ, List, ◌++◌, ap, ◌∙◌}
use Rattle.command_line.specs.Replay.{ReplayDemand}
use Rattle.sharing_rules.specs.Laws.Recounts.{listed_are_recounted}
use Rattle.shelf.specs.Shelf.{Files}
use Rattle.trace_passes.specs.Passes.{all_records}
use Rattle.predator_cli.specs.Recounts.{ReplayIsRecounted}
use Rattle.predator_cli.specs.Replay.{grid_in, levels_in}
use Rattle.detector.specs.Watch.{Watch}
use Rattle.saved_state.specs.Saving.{state_of}
use Rattle.objects.specs.Objects.{Objects}
use Rattle.saved_state.specs.ObjectSpelling.{spell_objects}
use Rattle.base.specs.Levels.{Levels}
use Rattle.base.specs.Lines.{Grid}
use Rattle.observations.specs.Seen.{HasSeen}
use Rattle.observations.specs.ObservedTraces.{ObservedTrace, nothing_observed}
use Rattle.saved_state.specs.OfLists.{state_of_list}
use Rattle.saved_state.specs.Spelling.{spell_state}
use Rattle.trace_format.specs.Rules.{touches_in}
use Rattle.trace_format.specs.declared.record.TraceRecord.{TraceRecord}
use Rattle.predator_cli.specs.States.{state_of_records, state_of_observed}

-- every line that the report of a replay lists is recounted
pub replay_recounted : (d : ReplayDemand) (files : Files) → ReplayIsRecounted d files
replay_recounted d files =
    let g = grid_in d files in
    let v = levels_in d files in
    record {
      whole = λ alone t read. listed_are_recounted g v (touches_in (all_records t));
      behind = λ harts before t so. listed_are_recounted g v
          (touches_in (before ++ all_records t));
    }

module _ (harts : ℕ) (s : ObservedTrace) (w : Watch) (o : Objects) (all first second : List ℕ)
    (both : all ≡ first ++ second)
    (objects : second ≡ spell_objects o) (watch_is : w ≡ s.watch) (objects_are : o ≡ s.objects)
  where
    pub held_state : first ≡ spell_state (state_of harts w) → all ≡ state_of_observed harts s
    unfolding state_of_observed
    held_state spelled =
        both ∙ ap (λ (b : List ℕ). b ++ second) spelled
        ∙ ap (λ (b : List ℕ). spell_state (state_of harts w) ++ b) objects
        ∙ ap (λ (x : Watch). spell_state (state_of harts x) ++ spell_objects o) watch_is
        ∙ ap (λ (x : Objects). spell_state (state_of harts s.watch) ++ spell_objects x) objects_are

    pub seen_state : (g : Grid) (v : Levels) (items : List TraceRecord)
        → HasSeen (nothing_observed g v) s items
        → first ≡ state_of_list w.grid w.levels harts (touches_in items) → all
        ≡ state_of_records g v harts items
    unfolding state_of_records
    seen_state g v items seen spelled =
        let setting_of : Watch → Grid × Levels = λ x. (x.grid, x.levels) in
        both ∙ ap (λ (b : List ℕ). b ++ second) spelled
        ∙ ap (λ (b : List ℕ). state_of_list w.grid w.levels harts (touches_in items) ++ b) objects
        ∙ ap (λ (x : Grid × Levels). state_of_list x.0 x.1 harts (touches_in items)
        ++ spell_objects o) (ap setting_of watch_is ∙ seen.accesses.setting)
        ∙ ap (λ (x : Objects). state_of_list g v harts (touches_in items) ++ spell_objects x)
        (objects_are ∙ seen.objects)
