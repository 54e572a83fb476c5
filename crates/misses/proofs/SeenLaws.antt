-- What is seen of misses, with one record more.
use Rattle.std.specs.Prelude.{ℕ, Option}
use Rattle.std.proofs.Common.{◌≡◌, ◌≤◌, List, [], ◌∷◌, ◌++◌, length, map, refl, sym, ap, ◌∙◌}
use Rattle.std.proofs.Common.{Result, Ok, Err}
use Rattle.std.proofs.lemmas.Result.{on_ok_weaker}
use Rattle.std.specs.Prelude.{OnOk}
use Rattle.std.proofs.lemmas.List.{append-nil}
use Rattle.base.specs.Lines.{Grid}
use Rattle.base.specs.TextLines.{text_of}
use Rattle.misses.specs.MissCounts.{MissCounts, StandsFor}
use Rattle.misses.specs.Laws.Totals.{rows-stand}
use Rattle.misses.specs.Rows.{all_costs, row_of, rows_of}
use Rattle.misses.specs.declared.all_lines.Row.{Row}
use Rattle.misses.specs.declared.line_misses.Costs.{Costs}
use Rattle.objects.specs.Objects.{Objects, no_objects}
use Rattle.sharing_rules.specs.AccessLists.{AccessList}
use Rattle.trace_format.specs.Reading.{counted_after}
use Rattle.trace_format.specs.Rules.{last_position, touches_in}
use Rattle.trace_format.specs.declared.record.TraceRecord.{TraceRecord}
use Rattle.trace_format.specs.declared.record.TraceRecord.TheVariants as records
use Rattle.trace_passes.specs.Accounts.{CameBy}
use Rattle.trace_passes.specs.Rooms.{GivenNext, HasRoom}
use Rattle.trace_passes.specs.Lives.{objects_after}
use Rattle.misses.specs.Seen.{HasMissed, miss_account, missed, misses_begin_at}
use Rattle.misses.specs.Seen.{misses_noted, nothing_missed}
use Rattle.misses.specs.Texts.{misses_lines, misses_of_records, reported_rows}
use Rattle.trace_passes.specs.Lives.{objects_noted}
use Rattle.misses.specs.declared.observer.MissObservations.{MissObservations}
use Rattle.trace_format.specs.Laws.Touches.{counted-one, room-next}
use Rattle.trace_passes.specs.Laws.Accounts.{came-none, came-on, objects-beside}
use Rattle.trace_passes.specs.Laws.Noting.{none_left, same_objects}

-- ---- one record more

noted_position : (k : MissCounts) (x : TraceRecord) → (misses_noted k x).position
    ≡ counted_after k.position x
noted_position k (records.Touch a pc) = refl
noted_position k (records.Alloc addr size sites) = refl
noted_position k (records.Free addr) = refl
noted_position k (records.Symbol kind addr size name) = refl
noted_position k (records.End e) = refl

noted_grid : (k : MissCounts) (x : TraceRecord) → (misses_noted k x).grid ≡ k.grid
noted_grid k (records.Touch a pc) = refl
noted_grid k (records.Alloc addr size sites) = refl
noted_grid k (records.Free addr) = refl
noted_grid k (records.Symbol kind addr size name) = refl
noted_grid k (records.End e) = refl

pub misses_next : (old new : MissObservations) (x : TraceRecord) → new ≡ missed old x
    → ((t : AccessList) → StandsFor t old.misses
    → StandsFor (t ++ touches_in (x ∷ [])) new.misses)
    → GivenNext HasMissed old new x
misses_next old new x is stands begun xs so_far =
    let one : CameBy miss_account old new (x ∷ []) = record {
      stands = stands;
      position = ap (λ (s : MissObservations). s.misses.position) is
          ∙ noted_position old.misses x ∙ counted-one old.misses.position x;
      setting = ap (λ (s : MissObservations). s.misses.grid) is ∙ noted_grid old.misses x;
    } in
    record {
      accesses = came-on miss_account begun old new xs (x ∷ []) so_far.accesses one;
      objects = objects-beside miss_account (λ s. s.objects) begun old new xs x so_far.accesses
          so_far.objects (ap (λ (s : MissObservations). s.objects) is);
    }

-- both parts with one record more
module _ {T E : Type 0} (r : Result T E) (old : MissObservations) (k : MissCounts) (o : Objects)
    (x : TraceRecord) (misses : k ≡ misses_noted old.misses x)
    (objects : OnOk r (o ≡ objects_noted old.objects x old.misses.position))
  where
    abbrev now : MissObservations
    now = record { misses = k; objects = o }

    noted_both : o ≡ objects_noted old.objects x old.misses.position → now ≡ missed old x
    noted_both is =
        ap (λ (m : MissCounts). record { misses = m; objects = o }) misses
        ∙ ap (λ (os : Objects). record { misses = misses_noted old.misses x; objects = os }) is

    pub both_noted : OnOk r (now ≡ missed old x)
    both_noted = on_ok_weaker r noted_both objects

    pub both_seen : ((t : AccessList) → StandsFor t old.misses
        → StandsFor (t ++ touches_in (x ∷ [])) k)
        → OnOk r (GivenNext HasMissed old now x)
    both_seen stands =
        on_ok_weaker r (λ is. misses_next old now x (noted_both is) stands) objects

pub ok_always : {T E P : Type 0} (r : Result T E) → P → OnOk r P
ok_always (Ok x) p = p
ok_always (Err e) p = tt

-- ---- the beginning, and the room

pub nothing_missed_yet : (g : Grid) → HasMissed (nothing_missed g) (nothing_missed g) []
nothing_missed_yet g = record {
  accesses = came-none miss_account (nothing_missed g);
  objects = same_objects no_objects (objects_after no_objects 0 []) refl
      (sym (append-nil _ ∙ none_left 0 []));
}

pub room_for_miss : (now : MissObservations) (x : TraceRecord)
    → HasRoom misses_begin_at HasMissed now (x ∷ [])
    → counted_after now.misses.position x ≤ last_position
room_for_miss now x room =
    room-next room.begun.misses.position now.misses.position room.seen x
    room.given_so_far.accesses.position room.first room.begins_there room.room

-- ---- the text
pub missed_text : (g : Grid) (whole : Option ℕ) (now : MissObservations) (items : List TraceRecord) (total : Costs)
    → HasMissed (nothing_missed g) now items
    → ((t : AccessList) → StandsFor t now.misses → total ≡ all_costs now.misses.grid t)
    → text_of (misses_lines now.misses.grid now.misses.position whole now.objects
    (reported_rows (map (row_of now.misses.grid) now.misses.lines)) total) ≡ misses_of_records g whole items
unfolding misses_of_records
missed_text g whole now items total so_far costs =
    let t : AccessList = touches_in items in
    let k : MissCounts = now.misses in
    let stands : StandsFor t k = so_far.accesses.stands [] refl in
    ap (λ (rs : List Row). text_of (misses_lines k.grid k.position whole now.objects (reported_rows rs) total))
    (rows-stand k t stands)
    ∙ ap (λ (c : Costs). text_of (misses_lines k.grid k.position whole now.objects
    (reported_rows (rows_of k.grid t)) c)) (costs t stands)
    ∙ ap (λ (q : Grid). text_of (misses_lines q k.position whole now.objects (reported_rows (rows_of q t))
    (all_costs q t))) so_far.accesses.setting
    ∙ ap (λ p. text_of (misses_lines g p whole now.objects (reported_rows (rows_of g t)) (all_costs g t)))
    (ap (λ (x : MissCounts). x.position) stands)
    ∙ ap (λ (o : Objects). text_of (misses_lines g (length t) whole o (reported_rows (rows_of g t))
    (all_costs g t))) so_far.objects
