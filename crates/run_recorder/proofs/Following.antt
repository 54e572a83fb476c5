-- A run, as far as it is recorded.
use Rattle.std.proofs.Common.{◌≡◌, ℕ, ◌≤◌, ◌+◌, ◌^◌, List, [], ◌∷◌, ◌++◌, length, refl, sym}
use Rattle.std.proofs.Common.{ap, ◌∙◌, subst, append_assoc, arith}
use Rattle.std.specs.List.{All}
use Rattle.std.proofs.lemmas.List.{append-nil, length-append}
use Rattle.std.proofs.lemmas.List.Elements.{All-append, All-nil}
use Rattle.base.specs.Touch.{Touch as ATouch}
use Rattle.base.specs.declared.ending.Ending.{Ending}
use Rattle.trace_format.specs.declared.record.TraceEnd.{TraceEnd}
use Rattle.shelf.specs.Shelf.{Outside}
use Rattle.shelf.specs.declared.shelf.ShelfError.{ShelfError}
use Rattle.shelf.specs.Files.{AreCut}
use Rattle.shelf.specs.OneFile.{Waiting}
use Rattle.shelf.specs.OnTheirWay.{AreBegun, IsOutputs, names_of as waiting_names}
use Rattle.trace_format.specs.declared.record.TraceRecord.{TraceRecord}
use Rattle.trace_format.specs.declared.record.TraceRecord.TheVariants as records
use Rattle.trace_format.specs.declared.record.Version.{Version}
use Rattle.trace_format.specs.Rules.{IsGoodRecord, touches_in as touches_among, last_position}
use Rattle.trace_format.specs.Writing.{Writing, begin_writing}
use Rattle.trace_passes.specs.Rooms.{HasRoom}
use Rattle.guest.specs.GuestCalls.{RunEvent}
use Rattle.guest.specs.Configs.{Config}
use Rattle.guest.specs.SeenTurns.{accesses_in, seen}
use Rattle.guest.specs.Runs.{Run, Progress, rest_of, ended_run, touch_in, touches_in}
use Rattle.guest.specs.Runs.{led_with, output_in}
use Rattle.guest.specs.declared.turn.Event.{Event}
use Rattle.guest.specs.declared.turn.Event.TheVariants.{Quiet, Touch as Touched, Alloc, Free}
use Rattle.guest.specs.declared.turn.Event.TheVariants.{Output}
use Rattle.run_recorder.specs.declared.run_file.RunFile.{RunFile}
use Rattle.run_recorder.specs.Recorded.{end_for, outputs_for, outputs_of, records_in, records_of}
use Rattle.run_recorder.specs.Recording.{AreCutAfter, AreNoted, HasStarted, bytes_so_far}
use Rattle.run_recorder.proofs.Events.{cut_whole}
use Rattle.run_recorder.proofs.Records.{output-append, records-append}
use Rattle.run_recorder.proofs.Records.{touches-append, touches-among, touches-in}

-- an observer that was given some records was given these too
abbrev pub IsGivenOn : {A : Type 0} → (A → A → List TraceRecord → Type 0) → A → A → List TraceRecord
    → Type 0
IsGivenOn {A} given first now more = (begun : A) (earlier : List TraceRecord)
    → given begun first earlier
    → given begun now (earlier ++ more)

-- the run from the start is what was seen, all of which is noted, and then the rest
pub record Follows {A : Type 0} (given : A → A → List TraceRecord → Type 0) (v : Version)
    (start guest : Progress) (rest : Run) (first now : A) (files : List RunFile)
    (one two : List Waiting) (w later : Writing) (old new : Outside) : Type 0 where
  pub events : List RunEvent
  pub given_on : IsGivenOn given first now (records_in v events)
  pub good : All (IsGoodRecord v start.setup.harts) (records_in v events)
  pub noted : (earlier : List TraceRecord) (before : Outside)
      → AreNoted v start.setup.harts earlier [] files one w before old
      → AreNoted v start.setup.harts (earlier ++ records_in v events)
      (output_in events) files two later before new
  pub goes : rest_of start ≡ led_with events rest
  pub setup : guest.setup ≡ start.setup
  pub early : length (touches_in events) ≤ guest.config.accesses
  pub count : length two ≡ length one
  pub begun : AreBegun (waiting_names two) new

-- what a shelf hears changes nothing outside
pub shown : {A : Type 0} {given : A → A → List TraceRecord → Type 0} {v : Version}
    {start guest : Progress} {rest : Run} {first now : A} {files : List RunFile}
    {one two : List Waiting} {w x : Writing} {old new later : Outside}
    → Follows given v start guest rest first now files one two w x old new → later ≡ new
    → Follows given v start guest rest first now files one two w x old later
shown {A} {given} {v} {start} {guest} {rest} {first} {now} {files} {one} {two} {w} {x} {old} on
    same =
    subst (Follows given v start guest rest first now files one two w x old) (sym same) on

pub follows_start : {A : Type 0} (given : A → A → List TraceRecord → Type 0) (v : Version)
    (start : Progress) (first : A) (files : List RunFile)
    (one : List Waiting) (w : Writing) (outside : Outside) → AreBegun (waiting_names one) outside
    → Follows given v start start (rest_of start) first first files one one w w outside outside
follows_start given v start first files one w outside begun = record {
  events = [];
  given_on = λ b earlier so. subst (given b first) (sym (append-nil earlier)) so;
  good = All-nil (IsGoodRecord v start.setup.harts);
  noted = λ earlier before on. subst (λ (l : List TraceRecord). AreNoted v start.setup.harts l []
      files one w before outside)
      (sym (append-nil earlier)) on;
  goes = refl;
  setup = refl;
  early = omega arith;
  count = refl;
  begun = begun;
}

-- the files are begun, and nothing is noted yet
pub first_noted : (v : Version) (n harts : ℕ) (files : List RunFile) (waiting : List Waiting)
    (w : Writing) (old now : Outside) → n ≡ harts → w ≡ begin_writing v
    → IsOutputs waiting (outputs_of files (bytes_so_far v n [] [])) old now
    → AreNoted v harts [] [] files waiting w old now
first_noted v n harts files waiting w old now same is begun = record {
  outputs = subst (λ (k : ℕ). IsOutputs waiting (outputs_of files (bytes_so_far v k [] [])) old now)
      same begun;
  writer = λ traced. is;
}

-- more records are given
pub given_more : {A : Type 0} (given : A → A → List TraceRecord → Type 0) (first now later : A)
    (xs ys : List TraceRecord)
    → IsGivenOn given first now xs → IsGivenOn given now later ys
    → IsGivenOn given first later (xs ++ ys)
given_more given first now later xs ys one two begun earlier so =
    subst (given begun later) (append_assoc earlier xs ys)
    (two begun (earlier ++ xs) (one begun earlier so))

-- some events more, all of which are noted
pub follows_more : {A : Type 0} (given : A → A → List TraceRecord → Type 0) (v : Version)
    (start guest after : Progress) (whole rest : Run) (first now later : A) (files : List RunFile)
    (one two three : List Waiting) (w1 w2 w3 : Writing) (old mid new : Outside)
    (events : List RunEvent)
    → Follows given v start guest whole first now files one two w1 w2 old mid
    → whole ≡ led_with events rest → IsGivenOn given now later (records_in v events)
    → All (IsGoodRecord v start.setup.harts) (records_in v events)
    → ((items : List TraceRecord) (put : List ℕ) (before : Outside)
    → AreNoted v start.setup.harts items put files two w2 before mid
    → AreNoted v start.setup.harts (items ++ records_in v events) (put ++ output_in events) files
    three w3 before new)
    → after.setup ≡ guest.setup
    → after.config.accesses ≡ guest.config.accesses + length (touches_in events)
    → length three ≡ length two → AreBegun (waiting_names three) new
    → Follows given v start after rest first later files one three w1 w3 old new
follows_more given v start guest after whole rest first now later files one two three w1 w2 w3 old
    mid new events x led on good noted_on same accesses count begun =
    let harts = start.setup.harts in
    let records = records-append v x.events events in
    record {
      events = x.events ++ events;
      given_on = subst (IsGivenOn given first later) (sym records)
          (given_more given first now later (records_in v x.events) (records_in v events)
          x.given_on on);
      good = subst (All (IsGoodRecord v harts)) (sym records)
          (All-append (IsGoodRecord v harts) (records_in v x.events) (records_in v events) x.good
          good);
      noted = λ earlier before is.
          subst (λ (l : List TraceRecord). AreNoted v harts l (output_in (x.events ++ events)) files
          three w3 before new)
          (append_assoc earlier (records_in v x.events) (records_in v events)
          ∙ ap (λ (l : List TraceRecord). earlier ++ l) (sym records))
          (subst (λ (l : List ℕ). AreNoted v harts
          ((earlier ++ records_in v x.events) ++ records_in v events) l files three w3 before new)
          (sym (output-append x.events events))
          (noted_on (earlier ++ records_in v x.events) (output_in x.events) before
          (x.noted earlier before is)));
      goes = x.goes ∙ ap (led_with x.events) led
          ∙ ap (λ (l : List RunEvent).
          let r : Run = record { events = l; ending = rest.ending } in r)
          (sym (append_assoc x.events events rest.events));
      setup = same ∙ x.setup;
      early =
          let all : length (touches_in (x.events ++ events))
          ≡ length (touches_in x.events) + length (touches_in events) =
          ap length (touches-append x.events events)
          ∙ length-append (touches_in x.events) (touches_in events) in
          omega (arith, all, x.early, accesses);
      count = count ∙ x.count;
      begun = begun;
    }

pub touches-seen : (d : Config) (e : Event) → length (touch_in (seen d.memory e)) ≡ accesses_in e
touches-seen d Quiet = refl
touches-seen d (Touched a pc) = refl
touches-seen d (Alloc addr size sites) = refl
touches-seen d (Free addr) = refl
touches-seen d (Output addr len) = refl

-- there is room for more records with so few accesses
pub room_more : {A : Type 0} (begins : A → ℕ → Type 0) (given : A → A → List TraceRecord → Type 0)
    (first now : A)
    (v : Version) (events : List RunEvent) (more : List TraceRecord)
    → HasStarted begins given first → IsGivenOn given first now (records_in v events)
    → length (touches_in events) + length (touches_among more) ≤ last_position
    → HasRoom begins given now more
room_more begins given first now v events more start on few =
    let seen_so_far : List TraceRecord = start.earlier ++ records_in v events in
    record {
      begun = start.begun;
      first = 0;
      seen = seen_so_far;
      begins_there = start.begins_there;
      given_so_far = on start.begun start.earlier start.given_so_far;
      room =
          let all : length (touches_among (seen_so_far ++ more))
          ≡ length (touches_among seen_so_far) + length (touches_among more) =
          ap length (touches-among seen_so_far more) ∙ length-append (touches_among seen_so_far)
          (touches_among more) in
          let front : length (touches_among seen_so_far) ≡ length (touches_in events) =
          ap length (touches-among start.earlier (records_in v events)
          ∙ ap (λ (l : List ATouch). l ++ touches_among (records_in v events))
          start.untouched ∙ touches-in v events) in
          omega (arith, all, front, few);
    }

-- and for the end
pub room_for_end : {A : Type 0} (begins : A → ℕ → Type 0)
    (given : A → A → List TraceRecord → Type 0) (first now : A)
    (v : Version) (events : List RunEvent) (e : TraceEnd) → HasStarted begins given first
    → IsGivenOn given first now (records_in v events)
    → length (touches_in events) ≤ 2 ^ 40 → HasRoom begins given now (records.End e ∷ [])
room_for_end begins given first now v events e start on few =
    room_more begins given first now v events (records.End e ∷ []) start on (omega (arith, few))

-- at the end what was seen is all
pub all_seen : (events : List RunEvent) (whole rest : Run) (e : Ending) → whole
    ≡ led_with events rest → rest ≡ ended_run e
    → whole.events ≡ events
all_seen events whole rest e goes ends = ap (λ (r : Run). r.events)
    (goes ∙ ap (led_with events) ends) ∙ append-nil events

pub same_end : (events : List RunEvent) (whole rest : Run) (e : Ending)
    → whole ≡ led_with events rest → rest ≡ ended_run e → e ≡ whole.ending
same_end events whole rest e goes ends =
    sym (ap (λ (r : Run). r.ending) (goes ∙ ap (led_with events) ends))

-- what is cut after some events is cut of the whole run
pub cut_seen : (v : Version) (harts : ℕ) (symbols : List TraceRecord) (files : List RunFile)
    (events : List RunEvent) (whole later : Run)
    (before now : Outside) (e : ShelfError) → whole ≡ led_with events later
    → AreCutAfter v harts (symbols ++ records_in v events) (output_in events) files before now e
    → AreCut (outputs_for v harts symbols whole files) before now e
cut_seen v harts symbols files events whole later before now e goes cut =
    let end : List TraceRecord = records.End (end_for v whole.ending) ∷ [] in
    let is : whole.events ≡ events ++ later.events = ap (λ (r : Run). r.events) goes in
    let all : (symbols ++ records_in v events) ++ (records_in v later.events ++ end)
    ≡ (symbols ++ records_in v whole.events) ++ end =
    sym (append_assoc (symbols ++ records_in v events) (records_in v later.events) end)
    ∙ ap (λ (l : List TraceRecord). l ++ end)
    (append_assoc symbols (records_in v events) (records_in v later.events)
    ∙ ap (λ (l : List TraceRecord). symbols ++ l) (sym (records-append v events later.events)
    ∙ ap (records_in v) (sym is))) in
    let outs : output_in events ++ output_in later.events ≡ output_in whole.events =
    sym (output-append events later.events) ∙ ap output_in (sym is) in
    cut_whole v harts symbols files whole (symbols ++ records_in v events)
    (records_in v later.events ++ end) (output_in events)
    (output_in later.events) before now e all outs cut

-- what is cut at the symbols is cut of the whole run
pub cut_before : (v : Version) (harts : ℕ) (symbols : List TraceRecord) (files : List RunFile)
    (whole : Run)
    (before now : Outside) (e : ShelfError)
    → AreCutAfter v harts symbols [] files before now e
    → AreCut (outputs_for v harts symbols whole files) before now e
cut_before v harts symbols files whole before now e cut =
    cut_whole v harts symbols files whole symbols
    (records_in v whole.events ++ records.End (end_for v whole.ending) ∷ []) [] (output_in whole.events)
    before now e (sym (append_assoc symbols (records_in v whole.events)
    (records.End (end_for v whole.ending) ∷ []))) refl cut

pub cut_start : (v : Version) (harts : ℕ) (symbols : List TraceRecord) (files : List RunFile) (whole
    : Run)
    (before now : Outside) (e : ShelfError)
    → AreCutAfter v harts [] [] files before now e
    → AreCut (outputs_for v harts symbols whole files) before now e
cut_start v harts symbols files whole before now e cut =
    cut_whole v harts symbols files whole []
    (records_of v symbols whole ++ records.End (end_for v whole.ending) ∷ []) [] (output_in whole.events)
    before now e refl refl cut
