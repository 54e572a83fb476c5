-- What a trace changes of the tracks behind any state that is taken up.
use Rattle.std.proofs.Common.{◌≡◌, List, [], ◌∷◌, map, Option, Some, refl, ap, ◌∙◌}
use Rattle.std.specs.Option.{option_map_or}
use Rattle.base.specs.Touch.{Touch}
use Rattle.command_io.specs.Works.{done_with}
use Rattle.command_line.specs.Replay.{ReplayDemand}
use Rattle.detector.specs.Changes.{AddNoTracks, touched_all, watched_all}
use Rattle.detector.specs.Watch.{Watch}
use Rattle.shelf.specs.Shelf.{Files, content}
use Rattle.observations.specs.ObservedTraces.{ObservedTrace, noted, observed_after}
use Rattle.trace_format.specs.Rules.{touches_in}
use Rattle.trace_format.specs.declared.record.TraceRecord.{TraceRecord}
use Rattle.trace_format.specs.declared.record.TraceRecord.TheVariants as records
use Rattle.trace_passes.specs.Passes.{Trace, all_records, trace_of}
use Rattle.predator_cli.specs.GoesOn.{NotesAlone}
use Rattle.predator_cli.specs.Replay.{begun_in, grid_in, levels_in, work_after}
use Rattle.predator_cli.specs.declared.state_file.Begun.{Begun}

-- records show what their accesses do
watch_after : (items : List TraceRecord) (s : ObservedTrace)
    → (observed_after s items).watch ≡ watched_all s.watch (touches_in items)
watch_after [] s = refl
watch_after (records.Touch a pc ∷ items) s = watch_after items (noted s (records.Touch a pc))
watch_after (records.Alloc addr size sites ∷ items) s =
    watch_after items (noted s (records.Alloc addr size sites))
watch_after (records.Free addr ∷ items) s = watch_after items (noted s (records.Free addr))
watch_after (records.Symbol kind addr size name ∷ items) s =
    watch_after items (noted s (records.Symbol kind addr size name))
watch_after (records.End e ∷ items) s = watch_after items (noted s (records.End e))

pub notes_alone : ((w : Watch) (t : List Touch) → AddNoTracks w t
    → (watched_all w t).tracks ≡ map (touched_all w.position t) w.tracks)
    → (demand : ReplayDemand) (files : Files) (begun : Begun) (t : Trace)
    → begun_in demand files ≡ Some begun → trace_of (content files demand.trace) ≡ Some t
    → AddNoTracks begun.observations.watch (touches_in (all_records t))
    → NotesAlone demand files begun t
notes_alone law demand files begun t taken trace none =
    let g = grid_in demand files in
    let v = levels_in demand files in
    let w = begun.observations.watch in
    record {
      tracks = ap (λ (x : Watch). x.tracks) (watch_after (all_records t) begun.observations)
          ∙ law w (touches_in (all_records t)) none;
      work = ap (λ (b : Option Begun). option_map_or (work_after demand.save g v b)
          (trace_of (content files demand.trace)) (done_with [])) taken
          ∙ ap (λ (o : Option Trace). option_map_or
          (work_after demand.save g v (Some begun)) o (done_with [])) trace;
    }
