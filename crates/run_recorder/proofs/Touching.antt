-- Accesses that were put by, and noted one after another.
use Rattle.std.proofs.Common.{◌≡◌, ◌∙◌, ℕ, suc, ◌+◌, ◌<◌, ◌≤◌, List, [], ◌∷◌, ◌++◌, length, take, drop}
use Rattle.std.proofs.Common.{get_or, map, ap, append_assoc, arith, refl, subst, sym}
use Rattle.std.specs.List.{All}
use Rattle.std.proofs.lemmas.List.{append-nil, length-append, map-append, take-append-drop}
use Rattle.std.proofs.lemmas.List.{take_all, take_more}
use Rattle.std.proofs.lemmas.List.Elements.{All-append, All-cons, All-get_or, All-nil}
use Rattle.shelf.specs.Files.{AreCut}
use Rattle.shelf.specs.Shelf.{Outside}
use Rattle.shelf.specs.declared.shelf.ShelfError.{ShelfError}
use Rattle.shelf.specs.OneFile.{Waiting}
use Rattle.shelf.specs.OnTheirWay.{AreBegun, names_of as waiting_names}
use Rattle.trace_format.specs.declared.record.TraceRecord.{TraceRecord}
use Rattle.trace_format.specs.declared.record.TraceRecord.TheVariants as records
use Rattle.trace_format.specs.declared.record.Version.{Version}
use Rattle.trace_format.specs.declared.record.Version.TheVariants.{One}
use Rattle.trace_format.specs.Rules.{IsGoodRecord, last_position, touches_in as touches_among}
use Rattle.trace_format.specs.Writing.{Writing}
use Rattle.trace_passes.specs.Rooms.{HasRoom}
use Rattle.guest.specs.GuestCalls.{RunEvent, quiet, touch, alloc, free, output}
use Rattle.guest.specs.Runs.{Progress, Run, bytes_in, led_by, led_with, output_in, rest_of}
use Rattle.guest.specs.Runs.{touch_in, touches_in}
use Rattle.guest.specs.SeenTurns.{AreOfHarts, AreTouches, IsLedTo, event_of, seen_among}
use Rattle.guest.specs.declared.turn.Touched.{Touched}
use Rattle.run_recorder.specs.declared.run_file.RunFile.{RunFile}
use Rattle.run_recorder.specs.Recorded.{outputs_for, pc_for, record_in, records_in}
use Rattle.run_recorder.specs.Recording.{AreCutAfter, AreNoted, touch_records}
use Rattle.run_recorder.proofs.Events.{cut_on}
use Rattle.run_recorder.proofs.Following.{Follows, IsGivenOn, cut_seen, follows_more, given_more}
use Rattle.run_recorder.proofs.Records.{output-append, output-more, records-append, records-more}
use Rattle.run_recorder.proofs.Records.{touches-among, touches-append, touches-in}

abbrev pub touch_record : Version → Touched → TraceRecord
touch_record v t = records.Touch t.access (pc_for v t.pc)

-- ---- what such steps leave

records-seen : (v : Version) (events : List RunEvent)
    → records_in v events ≡ records_in v (seen_among events)
records-seen v [] = refl
records-seen v (quiet ∷ events) = records-seen v events
records-seen v (touch a pc ∷ events) =
    ap (λ (l : List TraceRecord). records.Touch a (pc_for v pc) ∷ l) (records-seen v events)
records-seen v (alloc at size sites ∷ events) =
    ap (λ (l : List TraceRecord). records.Alloc at size sites ∷ l) (records-seen v events)
records-seen v (free at ∷ events) =
    ap (λ (l : List TraceRecord). records.Free at ∷ l) (records-seen v events)
records-seen v (output at bytes ∷ events) = records-seen v events

records-put : (v : Version) (ts : List Touched)
    → records_in v (map event_of ts) ≡ touch_records v ts
records-put v [] = refl
records-put v (t ∷ ts) = ap (λ (l : List TraceRecord). touch_record v t ∷ l) (records-put v ts)

pub touched_records : (v : Version) (events : List RunEvent) (ts : List Touched)
    → AreTouches events ts
    → records_in v events ≡ touch_records v ts
touched_records v events ts touched =
    records-seen v events ∙ ap (records_in v) touched ∙ records-put v ts

output-seen : (events : List RunEvent) → output_in events ≡ output_in (seen_among events)
output-seen [] = refl
output-seen (quiet ∷ events) = output-seen events
output-seen (touch a pc ∷ events) = output-seen events
output-seen (alloc at size sites ∷ events) = output-seen events
output-seen (free at ∷ events) = output-seen events
output-seen (output at bytes ∷ events) = ap (λ (l : List ℕ). bytes ++ l) (output-seen events)

output-put : (ts : List Touched) → output_in (map event_of ts) ≡ []
output-put [] = refl
output-put (t ∷ ts) = output-put ts

pub touched_output : (events : List RunEvent) (ts : List Touched) → AreTouches events ts
    → output_in events ≡ []
touched_output events ts touched = output-seen events ∙ ap output_in touched ∙ output-put ts

pub touches_put : (v : Version) (ts : List Touched) → length (touches_among (touch_records v ts))
    ≡ length ts
touches_put v [] = refl
touches_put v (t ∷ ts) = ap (λ (n : ℕ). suc n) (touches_put v ts)

-- and with one event more, its records, its bytes and how many accesses there are

pub turn_records : (v : Version) (events : List RunEvent) (ts : List Touched) (e : RunEvent)
    → AreTouches events ts → records_in v (events ++ e ∷ []) ≡ touch_records v ts ++ record_in v e
turn_records v events ts e touched =
    records-more v events e
    ∙ ap (λ (l : List TraceRecord). l ++ record_in v e) (touched_records v events ts touched)

pub turn_output : (events : List RunEvent) (ts : List Touched) (e : RunEvent)
    → AreTouches events ts → output_in (events ++ e ∷ []) ≡ bytes_in e
turn_output events ts e touched =
    output-more events e ∙ ap (λ (l : List ℕ). l ++ bytes_in e) (touched_output events ts touched)

pub touched_count : (events : List RunEvent) (ts : List Touched) → AreTouches events ts
    → length (touches_in events) ≡ length ts
touched_count events ts touched =
    ap length (sym (touches-in One events))
    ∙ ap (λ (l : List TraceRecord). length (touches_among l)) (touched_records One events ts
    touched)
    ∙ touches_put One ts

touch-among : (v : Version) (e : RunEvent) → length (touches_among (record_in v e))
    ≡ length (touch_in e)
touch-among v quiet = refl
touch-among v (touch a pc) = refl
touch-among v (alloc at size sites) = refl
touch-among v (free at) = refl
touch-among v (output at bytes) = refl

pub turn_count : (v : Version) (ts : List Touched) (e : RunEvent)
    → length (touches_among (touch_records v ts ++ record_in v e)) ≡ length ts + length (touch_in e)
turn_count v ts e =
    let all : length (touches_among (touch_records v ts ++ record_in v e))
    ≡ length (touches_among (touch_records v ts)) + length (touches_among (record_in v e)) =
    ap length (touches-among (touch_records v ts) (record_in v e))
    ∙ length-append (touches_among (touch_records v ts)) (touches_among (record_in v e)) in
    omega (arith, all, touches_put v ts, touch-among v e)

-- a run that begins so, with the event behind
pub turn_led : (events : List RunEvent) (e : RunEvent) (rest : Run)
    → led_with events (led_by e rest) ≡ led_with (events ++ e ∷ []) rest
turn_led events e rest =
    ap (λ (l : List RunEvent). let r : Run = record { events = l; ending = rest.ending } in r)
    (sym (append_assoc events (e ∷ []) rest.events))

-- ---- room for some of the records

pub room_front : {A : Type 0} (begins : A → ℕ → Type 0)
    (given : A → A → List TraceRecord → Type 0) (now : A) (xs ys : List TraceRecord)
    → HasRoom begins given now (xs ++ ys)
    → HasRoom begins given now xs
room_front begins given now xs ys r = record {
  begun = r.begun;
  first = r.first;
  seen = r.seen;
  begins_there = r.begins_there;
  given_so_far = r.given_so_far;
  room =
      let all : length (touches_among (r.seen ++ (xs ++ ys)))
      ≡ length (touches_among (r.seen ++ xs)) + length (touches_among ys) =
      ap (λ (l : List TraceRecord). length (touches_among l)) (sym (append_assoc r.seen xs ys))
      ∙ ap length (touches-among (r.seen ++ xs) ys)
      ∙ length-append (touches_among (r.seen ++ xs)) (touches_among ys) in
      omega (arith, all, r.room);
}

pub room_rest : {A : Type 0} (begins : A → ℕ → Type 0)
    (given : A → A → List TraceRecord → Type 0) (now later : A) (xs ys : List TraceRecord)
    → HasRoom begins given now (xs ++ ys) → IsGivenOn given now later xs
    → HasRoom begins given later ys
room_rest begins given now later xs ys r on = record {
  begun = r.begun;
  first = r.first;
  seen = r.seen ++ xs;
  begins_there = r.begins_there;
  given_so_far = on r.begun r.seen r.given_so_far;
  room = subst (λ (l : List TraceRecord). r.first + length (touches_among l) ≤ last_position)
      (sym (append_assoc r.seen xs ys)) r.room;
}

-- ---- the first so many are seen

pub record TouchesSeen {A : Type 0} (given : A → A → List TraceRecord → Type 0) (v : Version)
    (touches : List Touched) (place : ℕ) (first now : A) : Type 0 where
  pub given_on : IsGivenOn given first now (touch_records v (take place touches))
  pub good : (harts : ℕ) → AreOfHarts harts touches
      → All (IsGoodRecord v harts) (touch_records v (take place touches))

pub no_touches : {A : Type 0} (given : A → A → List TraceRecord → Type 0) (v : Version)
    (touches : List Touched) (first : A) → TouchesSeen given v touches 0 first first
no_touches given v touches first = record {
  given_on = λ b earlier so. subst (given b first) (sym (append-nil earlier)) so;
  good = λ harts theirs. All-nil (IsGoodRecord v harts);
}

pub one_more : (v : Version) (touches : List Touched) (i : ℕ) (t : Touched) (item : TraceRecord)
    → i < length touches → t ≡ get_or touches i t → item ≡ touch_record v t
    → touch_records v (take i touches) ++ item ∷ [] ≡ touch_records v (take (i + 1) touches)
one_more v touches i t item below is stated =
    ap (λ (x : TraceRecord). touch_records v (take i touches) ++ x ∷ []) stated
    ∙ sym (map-append (touch_record v) (take i touches) (t ∷ []))
    ∙ ap (λ (x : Touched). touch_records v (take i touches ++ x ∷ [])) is
    ∙ ap (touch_records v) (sym (take_more touches i t below))

pub touches_more : {A : Type 0} (given : A → A → List TraceRecord → Type 0) (v : Version)
    (touches : List Touched) (i : ℕ) (t : Touched) (item : TraceRecord) (first now later : A)
    → i < length touches → t ≡ get_or touches i t → item ≡ touch_record v t
    → ((harts : ℕ) → t.access.hart < harts → IsGoodRecord v harts item)
    → TouchesSeen given v touches i first now → IsGivenOn given now later (item ∷ [])
    → TouchesSeen given v touches (i + 1) first later
touches_more given v touches i t item first now later below is stated its so given_on =
    let more = one_more v touches i t item below is stated in
    record {
      given_on = subst (IsGivenOn given first later) more
          (given_more given first now later (touch_records v (take i touches)) (item ∷ [])
          so.given_on given_on);
      good = λ harts theirs.
          let P : TraceRecord → Type 0 = IsGoodRecord v harts in
          let Q : Touched → Type 0 = λ x. x.access.hart < harts in
          let at : Q (get_or touches i t) = All-get_or Q touches i t below theirs in
          subst (All P) more
          (All-append P (touch_records v (take i touches)) (item ∷ []) (so.good harts theirs)
          (All-cons P item [] (its harts (subst Q (sym is) at)) (All-nil P)));
    }

-- there is room for one more
pub touch_room : {A : Type 0} (begins : A → ℕ → Type 0)
    (given : A → A → List TraceRecord → Type 0) (v : Version) (touches : List Touched) (i : ℕ)
    (t : Touched) (item : TraceRecord) (first now : A) → i < length touches → t ≡ get_or touches i t
    → item ≡ touch_record v t → HasRoom begins given first (touch_records v touches)
    → IsGivenOn given first now (touch_records v (take i touches))
    → HasRoom begins given now (item ∷ [])
touch_room begins given v touches i t item first now below is stated r on =
    let front = touch_records v (take i touches) in
    let more = one_more v touches i t item below is stated in
    let whole : (front ++ item ∷ []) ++ touch_records v (drop (i + 1) touches)
    ≡ touch_records v touches =
    ap (λ (l : List TraceRecord). l ++ touch_records v (drop (i + 1) touches)) more
    ∙ sym (map-append (touch_record v) (take (i + 1) touches) (drop (i + 1) touches))
    ∙ ap (touch_records v) (take-append-drop (i + 1) touches) in
    let all : HasRoom begins given first ((front ++ item ∷ [])
    ++ touch_records v (drop (i + 1) touches)) = subst (HasRoom begins given first) (sym whole) r in
    room_rest begins given first now front (item ∷ [])
    (room_front begins given first (front ++ item ∷ []) (touch_records v (drop (i + 1) touches))
    all)
    on

-- all of them are seen
pub record AllSeen {A : Type 0} (given : A → A → List TraceRecord → Type 0) (v : Version)
    (touches : List Touched) (first now : A) : Type 0 where
  pub given_on : IsGivenOn given first now (touch_records v touches)
  pub good : (harts : ℕ) → AreOfHarts harts touches
      → All (IsGoodRecord v harts) (touch_records v touches)

pub touches_seen : {A : Type 0} (given : A → A → List TraceRecord → Type 0) (v : Version)
    (touches : List Touched) (place : ℕ) (first now : A) → length touches ≤ place
    → TouchesSeen given v touches place first now → AllSeen given v touches first now
touches_seen given v touches place first now all so =
    let whole = take_all place touches all in
    record {
      given_on = subst (λ (ts : List Touched). IsGivenOn given first now (touch_records v ts))
          whole so.given_on;
      good = λ harts theirs.
          subst (λ (ts : List Touched). All (IsGoodRecord v harts) (touch_records v ts)) whole
          (so.good harts theirs);
    }

-- what is noted behind them

pub noted_behind : (v : Version) (harts : ℕ) (files : List RunFile) (waiting : List Waiting)
    (w : Writing) (items xs ys : List TraceRecord) (put : List ℕ) (before now : Outside)
    → AreNoted v harts ((items ++ xs) ++ ys) put files waiting w before now
    → AreNoted v harts (items ++ (xs ++ ys)) put files waiting w before now
noted_behind v harts files waiting w items xs ys put before now on =
    subst (λ (l : List TraceRecord). AreNoted v harts l put files waiting w before now)
    (append_assoc items xs ys) on

pub cut_behind : (v : Version) (harts : ℕ) (files : List RunFile) (items xs ys : List TraceRecord)
    (put : List ℕ) (before now : Outside) (e : ShelfError)
    → AreCutAfter v harts ((items ++ xs) ++ ys) put files before now e
    → AreCutAfter v harts (items ++ (xs ++ ys)) put files before now e
cut_behind v harts files items xs ys put before now e cut =
    subst (λ (l : List TraceRecord). AreCutAfter v harts l put files before now e)
    (append_assoc items xs ys) cut

pub cut_in_front : (v : Version) (harts : ℕ) (files : List RunFile) (items xs ys : List TraceRecord)
    (put out : List ℕ) (before now : Outside) (e : ShelfError)
    → AreCutAfter v harts (items ++ xs) put files before now e
    → AreCutAfter v harts (items ++ (xs ++ ys)) (put ++ out) files before now e
cut_in_front v harts files items xs ys put out before now e cut =
    cut_behind v harts files items xs ys (put ++ out) before now e
    (cut_on v harts files (items ++ xs) ys put out before now e cut)

-- ---- a run that is followed so far

pub turn_touches : (events : List RunEvent) (ts : List Touched) (e : RunEvent)
    → AreTouches events ts
    → length (touches_in (events ++ e ∷ [])) ≡ length ts + length (touch_in e)
turn_touches events ts e touched =
    let all : length (touches_in (events ++ e ∷ []))
    ≡ length (touches_in events) + length (touches_in (e ∷ [])) =
    ap length (touches-append events (e ∷ []))
    ∙ length-append (touches_in events) (touches_in (e ∷ [])) in
    let one : length (touches_in (e ∷ [])) ≡ length (touch_in e) =
    ap length (append-nil (touch_in e)) in
    omega (arith, all, one, touched_count events ts touched)

-- the accesses and an event behind them
pub follows_turn : {A : Type 0} (given : A → A → List TraceRecord → Type 0) (v : Version)
    (start guest after : Progress) (first now later : A) (files : List RunFile)
    (one two three : List Waiting) (w1 w2 w3 : Writing) (old mid new : Outside)
    (ts : List Touched) (e : RunEvent) (n : ℕ)
    → Follows given v start guest (rest_of guest) first now files one two w1 w2 old mid
    → IsLedTo (rest_of guest) ts (led_by e (rest_of after))
    → IsGivenOn given now later (touch_records v ts ++ record_in v e)
    → All (IsGoodRecord v start.setup.harts) (touch_records v ts ++ record_in v e)
    → ((items : List TraceRecord) (put : List ℕ) (before : Outside)
    → AreNoted v start.setup.harts items put files two w2 before mid
    → AreNoted v start.setup.harts (items ++ (touch_records v ts ++ record_in v e))
    (put ++ bytes_in e) files three w3 before new)
    → after.setup ≡ guest.setup → length (touch_in e) ≡ n
    → after.config.accesses ≡ guest.config.accesses + length ts + n
    → length three ≡ length two → AreBegun (waiting_names three) new
    → Follows given v start after (rest_of after) first later files one three w1 w3 old new
follows_turn given v start guest after first now later files one two three w1 w2 w3 old mid new ts
    e n x led on good noted_on same is accesses count begun =
    let harts = start.setup.harts in
    let events : List RunEvent = led.events ++ e ∷ [] in
    let stated = turn_records v led.events ts e led.touched in
    let out = turn_output led.events ts e led.touched in
    follows_more given v start guest after (rest_of guest) (rest_of after) first now later files
    one two three w1 w2 w3 old mid new events x
    (led.led ∙ turn_led led.events e (rest_of after))
    (subst (IsGivenOn given now later) (sym stated) on)
    (subst (All (IsGoodRecord v harts)) (sym stated) good)
    (λ items put before is_so.
    subst (λ (l : List TraceRecord). AreNoted v harts (items ++ l) (put ++ output_in events) files
    three w3 before new) (sym stated)
    (subst (λ (l : List ℕ). AreNoted v harts (items ++ (touch_records v ts ++ record_in v e))
    (put ++ l) files three w3 before new) (sym out) (noted_on items put before is_so)))
    same (omega (arith, turn_touches led.events ts e led.touched, is, accesses)) count begun

-- the accesses alone
pub follows_touches : {A : Type 0} (given : A → A → List TraceRecord → Type 0) (v : Version)
    (start guest after : Progress) (rest : Run) (first now later : A) (files : List RunFile)
    (one two three : List Waiting) (w1 w2 w3 : Writing) (old mid new : Outside)
    (ts : List Touched)
    → Follows given v start guest (rest_of guest) first now files one two w1 w2 old mid
    → IsLedTo (rest_of guest) ts rest → IsGivenOn given now later (touch_records v ts)
    → All (IsGoodRecord v start.setup.harts) (touch_records v ts)
    → ((items : List TraceRecord) (put : List ℕ) (before : Outside)
    → AreNoted v start.setup.harts items put files two w2 before mid
    → AreNoted v start.setup.harts (items ++ touch_records v ts) put files three w3 before new)
    → after.setup ≡ guest.setup
    → after.config.accesses ≡ guest.config.accesses + length ts
    → length three ≡ length two → AreBegun (waiting_names three) new
    → Follows given v start after rest first later files one three w1 w3 old new
follows_touches given v start guest after rest first now later files one two three w1 w2 w3 old
    mid new ts x led on good noted_on same accesses count begun =
    let harts = start.setup.harts in
    let stated = touched_records v led.events ts led.touched in
    let out = touched_output led.events ts led.touched in
    follows_more given v start guest after (rest_of guest) rest first now later files one
    two three w1 w2 w3 old mid new led.events x led.led
    (subst (IsGivenOn given now later) (sym stated) on)
    (subst (All (IsGoodRecord v harts)) (sym stated) good)
    (λ items put before is_so.
    subst (λ (l : List TraceRecord). AreNoted v harts (items ++ l) (put ++ output_in led.events)
    files three w3 before new) (sym stated)
    (subst (λ (l : List ℕ). AreNoted v harts (items ++ touch_records v ts) l
    files three w3 before new) (sym (ap (λ (l : List ℕ). put ++ l) out ∙ append-nil put))
    (noted_on items put before is_so)))
    same (omega (arith, touched_count led.events ts led.touched, accesses)) count begun

-- what is cut in the middle of them is cut of the whole run
pub cut_more : (v : Version) (harts : ℕ) (earlier : List TraceRecord) (files : List RunFile)
    (xs ys : List RunEvent) (stated : List TraceRecord) (out : List ℕ) (whole rest later : Run)
    (before now : Outside) (e : ShelfError) → whole ≡ led_with xs rest → rest ≡ led_with ys later
    → records_in v ys ≡ stated → output_in ys ≡ out
    → AreCutAfter v harts ((earlier ++ records_in v xs) ++ stated) (output_in xs
    ++ out) files before now
    e
    → AreCut (outputs_for v harts earlier whole files) before now e
cut_more v harts earlier files xs ys stated out whole rest later before now e goes led is put cut =
    cut_seen v harts earlier files (xs ++ ys) whole later before now e
    (goes ∙ ap (led_with xs) led
    ∙ ap (λ (l : List RunEvent). let r : Run = record { events = l; ending = later.ending } in r)
    (sym (append_assoc xs ys later.events)))
    (subst (λ (l : List TraceRecord). AreCutAfter v harts l (output_in (xs ++ ys)) files before now
    e)
    (append_assoc earlier (records_in v xs) stated
    ∙ ap (λ (l : List TraceRecord). earlier ++ (records_in v xs ++ l)) (sym is)
    ∙ ap (λ (l : List TraceRecord). earlier ++ l) (sym (records-append v xs ys)))
    (subst (λ (l : List ℕ). AreCutAfter v harts ((earlier ++ records_in v xs)
    ++ stated) l files before
    now e)
    (ap (λ (l : List ℕ). output_in xs ++ l) (sym put) ∙ sym (output-append xs ys)) cut))

pub cut_turn : (v : Version) (harts : ℕ) (earlier : List TraceRecord) (files : List RunFile)
    (xs : List RunEvent) (ts : List Touched) (event : RunEvent) (whole rest later : Run)
    (before now : Outside) (e : ShelfError) → whole ≡ led_with xs rest
    → IsLedTo rest ts (led_by event later)
    → AreCutAfter v harts ((earlier ++ records_in v xs) ++ (touch_records v ts
    ++ record_in v event))
    (output_in xs ++ bytes_in event) files before now e
    → AreCut (outputs_for v harts earlier whole files) before now e
cut_turn v harts earlier files xs ts event whole rest later before now e goes led cut =
    cut_more v harts earlier files xs (led.events ++ event ∷ [])
    (touch_records v ts ++ record_in v event) (bytes_in event) whole rest later before now e goes
    (led.led ∙ turn_led led.events event later) (turn_records v led.events ts event led.touched)
    (turn_output led.events ts event led.touched) cut

pub cut_touches : (v : Version) (harts : ℕ) (earlier : List TraceRecord) (files : List RunFile)
    (xs : List RunEvent) (ts : List Touched) (whole rest later : Run)
    (before now : Outside) (e : ShelfError) → whole ≡ led_with xs rest → IsLedTo rest ts later
    → AreCutAfter v harts ((earlier ++ records_in v xs) ++ touch_records v ts) (output_in xs) files
    before now e
    → AreCut (outputs_for v harts earlier whole files) before now e
cut_touches v harts earlier files xs ts whole rest later before now e goes led cut =
    cut_more v harts earlier files xs led.events (touch_records v ts) [] whole rest later before now
    e
    goes led.led (touched_records v led.events ts led.touched)
    (touched_output led.events ts led.touched)
    (subst (λ (l : List ℕ). AreCutAfter v harts ((earlier ++ records_in v xs)
    ++ touch_records v ts) l
    files before now e) (sym (append-nil (output_in xs))) cut)
