-- The records of a run: one event more, and their accesses and bytes.
use Rattle.std.proofs.Common.{◌≡◌, ℕ, List, [], ◌∷◌, ◌++◌, refl, sym, ap, ◌∙◌}
use Rattle.std.proofs.Common.{append_assoc}
use Rattle.std.proofs.lemmas.List.{append-nil}
use Rattle.std.proofs.lemmas.List.Elements.{filter_map-append}
use Rattle.base.specs.Touch.{Touch as ATouch}
use Rattle.trace_format.specs.declared.record.TraceRecord.{TraceRecord}
use Rattle.trace_format.specs.declared.record.Version.{Version}
use Rattle.trace_format.specs.Rules.{touch_in as touch_of, touches_in as touches_among}
use Rattle.trace_format.specs.declared.before.Before.{Before}
use Rattle.trace_format.specs.Spelling.{before_after, spell_record, spell_records}
use Rattle.trace_format.specs.Writing.{before_behind}
use Rattle.guest.specs.GuestCalls.{RunEvent, quiet, touch, alloc, free, output}
use Rattle.guest.specs.Runs.{touch_in, touches_in, bytes_in, output_in}
use Rattle.run_recorder.specs.Recorded.{record_in, records_in}

pub records-append : (v : Version) (xs ys : List RunEvent) → records_in v (xs ++ ys)
    ≡ records_in v xs ++ records_in v ys
records-append v [] ys = refl
records-append v (x ∷ xs) ys =
    ap (λ (l : List TraceRecord). record_in v x ++ l) (records-append v xs ys)
    ∙ sym (append_assoc (record_in v x) (records_in v xs) (records_in v ys))

pub output-append : (xs ys : List RunEvent) → output_in (xs ++ ys) ≡ output_in xs ++ output_in ys
output-append [] ys = refl
output-append (x ∷ xs) ys =
    ap (λ (l : List ℕ). bytes_in x ++ l) (output-append xs ys)
    ∙ sym (append_assoc (bytes_in x) (output_in xs) (output_in ys))

pub touches-append : (xs ys : List RunEvent) → touches_in (xs ++ ys)
    ≡ touches_in xs ++ touches_in ys
touches-append [] ys = refl
touches-append (x ∷ xs) ys =
    ap (λ (l : List ATouch). touch_in x ++ l) (touches-append xs ys)
    ∙ sym (append_assoc (touch_in x) (touches_in xs) (touches_in ys))

-- one event more
pub records-more : (v : Version) (events : List RunEvent) (e : RunEvent)
    → records_in v (events ++ e ∷ []) ≡ records_in v events ++ record_in v e
records-more v events e =
    records-append v events (e ∷ []) ∙ ap (λ (l : List TraceRecord). records_in v events ++ l)
    (append-nil (record_in v e))

pub output-more : (events : List RunEvent) (e : RunEvent) → output_in (events ++ e ∷ [])
    ≡ output_in events ++ bytes_in e
output-more events e =
    output-append events (e ∷ []) ∙ ap (λ (l : List ℕ). output_in events ++ l)
    (append-nil (bytes_in e))

touch-in : (v : Version) (e : RunEvent) → touches_among (record_in v e) ≡ touch_in e
touch-in v quiet = refl
touch-in v (touch a pc) = refl
touch-in v (alloc at size sites) = refl
touch-in v (free at) = refl
touch-in v (output at bytes) = refl

-- the accesses among the records are those of the events
pub touches-in : (v : Version) (events : List RunEvent)
    → touches_among (records_in v events) ≡ touches_in events
touches-in v [] = refl
touches-in v (e ∷ events) =
    filter_map-append touch_of (record_in v e) (records_in v events)
    ∙ ap (λ (l : List ATouch). l ++ touches_among (records_in v events)) (touch-in v e)
    ∙ ap (λ (l : List ATouch). touch_in e ++ l) (touches-in v events)

pub touches-among : (xs ys : List TraceRecord) → touches_among (xs ++ ys)
    ≡ touches_among xs ++ touches_among ys
touches-among xs ys = filter_map-append touch_of xs ys

-- some records and then others, each spelled against those before it
pub spell-append : (v : Version) (before : Before) (xs ys : List TraceRecord)
    → spell_records v before (xs ++ ys)
    ≡ spell_records v before xs ++ spell_records v (before_behind before xs) ys
spell-append v before [] ys = refl
spell-append v before (x ∷ xs) ys =
    ap (λ (l : List ℕ). spell_record v before x ++ l)
    (spell-append v (before_after before x) xs ys)
    ∙ sym (append_assoc (spell_record v before x) (spell_records v (before_after before x) xs)
    (spell_records v (before_behind (before_after before x) xs) ys))
