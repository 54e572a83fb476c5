-- What has been seen, with one record more.
use Rattle.std.proofs.Common.{◌≡◌, ℕ, ◌≤◌, List, [], ◌∷◌, ◌++◌, map, refl, sym, ap}
use Rattle.std.proofs.Common.{◌∙◌, Option, Result, Ok, Err}
use Rattle.std.proofs.lemmas.List.{append-nil}
use Rattle.std.specs.Prelude.{OnOk}
use Rattle.base.specs.Levels.{Levels}
use Rattle.base.specs.Lines.{Grid}
use Rattle.base.specs.Touch.{Touch}
use Rattle.base.specs.declared.ending.Ending.{Ending}
use Rattle.sharing_rules.specs.AccessLists.{AccessList}
use Rattle.objects.specs.Objects.{Objects}
use Rattle.objects.specs.Symbols.{NoTwoAlike, symbols_of}
use Rattle.detector.specs.Watch.{Watch, watched}
use Rattle.detector.specs.Standing.{StandsFor}
use Rattle.trace_format.specs.Reading.{counted_after}
use Rattle.trace_format.specs.Rules.{last_position, touches_in}
use Rattle.trace_format.specs.declared.record.TraceRecord.{TraceRecord}
use Rattle.trace_format.specs.declared.record.TraceRecord.TheVariants as records
use Rattle.trace_passes.specs.Accounts.{CameBy}
use Rattle.trace_passes.specs.Rooms.{GivenNext, HasRoom}
use Rattle.trace_format.specs.Laws.Touches.{counted-one, room-next, stands-quiet}
use Rattle.trace_passes.specs.Laws.Accounts.{came-none, came-on, objects-beside}
use Rattle.trace_passes.specs.Laws.Noting.{none_left, same_objects}
use Rattle.trace_passes.specs.Lives.{lived, objects_after}
use Rattle.report.specs.OfLists.{report_of}
use Rattle.observations.specs.Seen.{HasSeen, begins_at, report_of_records, watch_account}
use Rattle.report.specs.Reports.{report_lines}
use Rattle.report.specs.Shown.{listed_tracks}
use Rattle.base.specs.TextLines.{text_of}
use Rattle.line_tracks.specs.TrackValue.{TrackValue}
use Rattle.observations.specs.ObservedTraces.{ObservedTrace, noted, nothing_observed}
use Rattle.trace_passes.specs.Lives.{objects_noted}
use Rattle.observations.specs.ObservedTraces.{report_of_observed, watch_noted}
use Rattle.observations.specs.Laws.Seen.{observed_after-push}
use Rattle.detector.specs.Laws.Standing.{stands_nothing}

-- what one record leaves as it is
noted_position : (w : Watch) (x : TraceRecord) → (watch_noted w x).position
    ≡ counted_after w.position x
noted_position w (records.Touch a pc) = refl
noted_position w (records.Alloc addr size sites) = refl
noted_position w (records.Free addr) = refl
noted_position w (records.Symbol kind addr size name) = refl
noted_position w (records.End e) = refl

abbrev setting_of : Watch → Grid × Levels
setting_of w = (w.grid, w.levels)

noted_setting : (w : Watch) (x : TraceRecord) → setting_of (watch_noted w x) ≡ setting_of w
noted_setting w (records.Touch a pc) = refl
noted_setting w (records.Alloc addr size sites) = refl
noted_setting w (records.Free addr) = refl
noted_setting w (records.Symbol kind addr size name) = refl
noted_setting w (records.End e) = refl

-- a record that was noted
pub sees_next : (old new : ObservedTrace) (x : TraceRecord) → new ≡ noted old x
    → ((t : AccessList) → StandsFor t old.watch → StandsFor (t ++ touches_in (x ∷ [])) new.watch)
    → GivenNext HasSeen old new x
sees_next old new x is stands begun xs so_far =
    let one : CameBy watch_account old new (x ∷ []) = record {
      stands = stands;
      position = ap (λ (s : ObservedTrace). s.watch.position) is ∙ noted_position old.watch x
          ∙ counted-one old.watch.position x;
      setting = ap (λ (s : ObservedTrace). setting_of s.watch) is ∙ noted_setting old.watch x;
    } in
    record {
      value = is ∙ ap (λ (s : ObservedTrace). noted s x) so_far.value
          ∙ sym (observed_after-push begun xs x);
      accesses = came-on watch_account begun old new xs (x ∷ []) so_far.accesses one;
      objects = objects-beside watch_account (λ s. s.objects) begun old new xs x so_far.accesses
          so_far.objects (ap (λ (s : ObservedTrace). s.objects) is);
    }

abbrev observed_trace : Watch → Objects → ObservedTrace
observed_trace w o = record { watch = w; objects = o }

-- an access, over any objects
pub next_access : (o : Objects) (old new : Watch) (a : Touch) (pc : Option ℕ) → new ≡ watched old a
    → ((t : AccessList) → StandsFor t old → StandsFor (t ++ a ∷ []) new)
    → GivenNext HasSeen (observed_trace old o) (observed_trace new o) (records.Touch a pc)
next_access o old new a pc is stands =
    sees_next (observed_trace old o) (observed_trace new o) (records.Touch a pc)
    (ap (λ (w : Watch). observed_trace w o) is) stands

-- a record that is no access, over anything that the accesses show
pub next_other : (w : Watch) (old new : Objects) (x : TraceRecord) → touches_in (x ∷ []) ≡ []
    → watch_noted w x ≡ w → new ≡ objects_noted old x w.position
    → GivenNext HasSeen (observed_trace w old) (observed_trace w new) x
next_other w old new x none unseen is =
    sees_next (observed_trace w old) (observed_trace w new) x
    (ap (λ (o : Objects). observed_trace w o) is
    ∙ ap (λ (v : Watch). observed_trace v (objects_noted old x w.position)) (sym unseen))
    (λ t. stands-quiet StandsFor w t x none)

-- two facts about a call that ended well
pub on_both : {T E P Q R : Type 0} (r : Result T E) → (P → Q → R) → OnOk r P → OnOk r Q → OnOk r R
on_both (Ok x) f p q = f p q
on_both (Err e) f p q = tt

-- before any record
pub seen_nothing : (s : ObservedTrace) → NoTwoAlike s.objects.symbols → HasSeen s s []
seen_nothing s apart = record {
  value = refl;
  accesses = came-none watch_account s;
  objects = same_objects s.objects (objects_after s.objects s.watch.position [])
      (sym (ap symbols_of (append-nil s.objects.symbols) ∙ apart))
      (sym (append-nil (map (lived s.watch.position []) s.objects.blocks)
      ∙ none_left s.watch.position s.objects.blocks));
}

-- what was seen from the beginning stands for the accesses, under the layout and thresholds of the
-- beginning
pub seen_whole : (g : Grid) (v : Levels) (now : ObservedTrace) (items : List TraceRecord)
    → HasSeen (nothing_observed g v) now items
    → StandsFor (touches_in items) now.watch
seen_whole g v now items so_far = so_far.accesses.stands [] (stands_nothing g v)

-- the report of what was seen from the beginning
pub reported : (e : Ending) (g : Grid) (v : Levels) (now : ObservedTrace) (items : List TraceRecord)
    → HasSeen (nothing_observed g v) now items
    → report_of e now.watch.grid now.watch.levels now.objects (touches_in items)
    ≡ report_of_records e g v items
unfolding report_of_records
reported e g v now items so_far =
    ap (λ (q : Grid × Levels). report_of e q.0 q.1 now.objects (touches_in items))
    so_far.accesses.setting
    ∙ ap (λ (o : Objects). report_of e g v o (touches_in items)) so_far.objects

-- the report of what is held
pub reported_held : (e : Ending) (g : Grid) (v : Levels) (tracks : List TrackValue) (s : ObservedTrace) → g
    ≡ s.watch.grid → v ≡ s.watch.levels
    → tracks ≡ s.watch.tracks → text_of (report_lines e g v s.objects
    (listed_tracks v.report tracks)) ≡ report_of_observed e s
unfolding report_of_observed
reported_held e g v tracks s grid levels kept =
    ap (λ (q : Grid). text_of (report_lines e q v s.objects (listed_tracks v.report tracks))) grid
    ∙ ap (λ (q : Levels). text_of (report_lines e s.watch.grid q s.objects
    (listed_tracks q.report tracks))) levels
    ∙ ap (λ (q : List TrackValue). text_of (report_lines e s.watch.grid s.watch.levels s.objects
    (listed_tracks s.watch.levels.report q))) kept

-- where a list has room for one record more, the position that is next has
pub room_for_one : (now : ObservedTrace) (x : TraceRecord) → HasRoom begins_at HasSeen now (x ∷ [])
    → counted_after now.watch.position x ≤ last_position
room_for_one now x room =
    room-next room.begun.watch.position now.watch.position room.seen x
    room.given_so_far.accesses.position room.first room.begins_there room.room
