-- Reading one part after the other, as a loop does.
use Rattle.std.proofs.Common.{◌≡◌, ◌≢◌, ℕ, ◌+◌, ◌≤◌, ◌<◌, ◌⊎◌, inl, inr, false, List, [], ◌++◌}
use Rattle.std.proofs.Common.{length, take, drop, Option, Some, None}
use Rattle.std.proofs.Common.{IsSome, refl, sym, ap, subst, ◌∙◌, append_assoc, arith}
use Rattle.std.proofs.lemmas.List.{append-nil, length-take-le, take_all}
use Rattle.std.specs.Prelude.{is_some}
use Rattle.std.proofs.Math.Seq.{take-append_seam}
use Rattle.trace_format.specs.declared.record.TraceEnd.{TraceEnd}
use Rattle.trace_format.specs.declared.fault.TraceFault.{TraceFault}
use Rattle.trace_format.specs.declared.fault.TraceFault.TheVariants as faults
use Rattle.trace_format.specs.declared.record.TraceRecord.{TraceRecord}
use Rattle.trace_format.specs.declared.read_so_far.ReadSoFar.{ReadSoFar}
use Rattle.trace_format.specs.Rules.{longest_trace}
use Rattle.trace_format.specs.Reading.{Reading, extent_at, part_at, place_reached, read_on}
use Rattle.trace_format.specs.Laws.Reading.{all_wait, part_then, read_on-append, read_on-fault}
use Rattle.trace_format.specs.Laws.Reading.{then_read}
use Rattle.trace_format.specs.Laws.Extents.{extent_is_some, fronts_wait_at}
use Rattle.trace_format.specs.declared.reader_state.State.{State}
use Rattle.trace_format.specs.ReaderStates.{AddsSome, KeepsHead, ReadsBut, ReadsOn, ReadsPart}
use Rattle.trace_format.specs.ReaderStates.{SameHead, extent_in, reading_with}
use Rattle.trace_format.specs.Laws.Pieces.{part_at-head, read_on-head}
use Rattle.trace_format.proofs.Heads.{as_before, keeps_with, same_back, same_both, stated_too}

abbrev pub WantsMemory : State → Type 0
WantsMemory s = s.fault ≡ Some faults.NoMemory

-- the bytes of a part are all that it has
pub front_extent : (p : Option ReadSoFar) (e : Option TraceEnd) (rest front : List ℕ) (n : ℕ) → front
    ≡ take n rest → n ≡ extent_at p e rest
    → n ≤ length rest → length front ≡ extent_at p e front
front_extent p e rest front n cut is le =
    let some : 1 ≤ n = omega (arith, extent_is_some p e rest) in
    let whole : extent_at p e (take n rest)
    ≡ extent_at p e rest = (fronts_wait_at p e rest).whole n some le is in
    rw cut (length-take-le n rest le ∙ is ∙ sym whole)

pub part_is_some : (p : Option ReadSoFar) (e : Option TraceEnd) (rest : List ℕ) (n : ℕ) → n
    ≡ extent_at p e rest → 1 ≤ n
part_is_some p e rest n is = omega (arith, extent_is_some p e rest)

pub none_there : {A : Type 0} (o : Option A) → false ≡ is_some o → o ≡ None
none_there None e = refl
none_there (Some x) e = cc

wants_or_not : (f : Option TraceFault) → (f ≡ Some faults.NoMemory) ⊎ (f ≢ Some faults.NoMemory)
wants_or_not None = inr (λ e. cc)
wants_or_not (Some faults.BadMagic) = inr (λ e. cc)
wants_or_not (Some faults.BadHarts) = inr (λ e. cc)
wants_or_not (Some (faults.BadTag place)) = inr (λ e. cc)
wants_or_not (Some (faults.BadField place)) = inr (λ e. cc)
wants_or_not (Some (faults.Truncated size)) = inr (λ e. cc)
wants_or_not (Some (faults.CountMismatch stated counted)) = inr (λ e. cc)
wants_or_not (Some (faults.AfterEnd place)) = inr (λ e. cc)
wants_or_not (Some faults.TooLong) = inr (λ e. cc)
wants_or_not (Some faults.NoMemory) = inl refl

-- Some bytes are read but for the rest of them, and records stand behind those before.
pub record IsReadTo (start : Reading) (bytes : List ℕ) (before : List TraceRecord) (state : State)
    (rest : List ℕ)
    (items : List TraceRecord) : Type 0 where
  pub since : List TraceRecord
  pub added : items ≡ before ++ since
  pub goes : (WantsMemory state → ⊥)
      → read_on start bytes ≡ (
        since ++ (read_on (reading_with state []) rest).0,
        (read_on (reading_with state []) rest).1,
      )
  pub some : WantsMemory state → (k : ℕ) × (since ≡ take k (read_on start bytes).0)
  pub keeps : KeepsHead start bytes (reading_with state [])

pub nothing_read : (s : State) (bytes : List ℕ) (before : List TraceRecord) → s.fault ≡ None
    → IsReadTo (reading_with s []) bytes before s bytes before
nothing_read s bytes before clean = record {
  since = [];
  added = sym (append-nil before);
  goes = λ _. refl;
  some = λ wants. cc;
  keeps = as_before (reading_with s []) (reading_with s []) bytes refl;
}

pub one_part : (p : Option ReadSoFar) (e : Option TraceEnd) (f : Option TraceFault) (rest : List ℕ)
    (n : ℕ) → f ≡ None → n ≡ extent_at p e rest
    → n ≤ length rest → place_reached p + n ≤ longest_trace
    → read_on (record { progress = p; pending = []; ending = e; fault = f }) rest ≡ then_read
    (part_at (record { progress = p; pending = []; ending = e; fault = f }) p e (take n rest))
    (drop n rest)
one_part p e f rest n clean is le low =
    let family : Option TraceFault → Type 0 = λ f. read_on
    (record { progress = p; pending = []; ending = e; fault = f }) rest ≡ then_read
    (part_at (record { progress = p; pending = []; ending = e; fault = f }) p e (take n rest))
    (drop n rest) in
    subst family (sym clean) (part_then p e rest (fronts_wait_at p e rest) n is
    (omega (arith, extent_is_some p e rest)) le low)

module _ (start : Reading) (bytes : List ℕ) (before : List TraceRecord) (s : State) (rest : List ℕ)
    (items : List TraceRecord)
    (clean : s.fault ≡ None) (to : IsReadTo start bytes before s rest items) where
  no_want : WantsMemory s → ⊥
  no_want wants = cc

  goes_on : (n : ℕ) (now : State) (after : List TraceRecord) → n ≡ extent_in s rest
      → n ≤ length rest
      → place_reached s.progress + n ≤ longest_trace → (WantsMemory now → ⊥)
      → ReadsPart s (take n rest) now items after
      → IsReadTo start bytes before now (drop n rest) after
  goes_on n now after is le low enough part =
      let one = part_at (reading_with s []) s.progress s.ending (take n rest) in
      let step : read_on (reading_with s []) rest ≡ then_read one (drop n rest) =
      one_part s.progress s.ending s.fault rest n clean is le
      low in
      let later : List TraceRecord × Reading = read_on (reading_with now []) (drop n rest) in
      let same : then_read one (drop n rest) ≡ (one.0 ++ later.0, later.1) =
      ap (λ (r : Reading). (one.0 ++ (read_on r (drop n rest)).0, (read_on r (drop n rest)).1))
      (sym part.reading) in
      record {
        since = to.since ++ one.0;
        added = part.records ∙ ap (λ (xs : List TraceRecord). xs ++ one.0) to.added
            ∙ append_assoc before to.since one.0;
        goes = λ _. to.goes no_want ∙ ap (λ (r : List TraceRecord × Reading).
            (to.since ++ r.0, r.1)) (step ∙ same)
            ∙ ap (λ (xs : List TraceRecord). (xs, later.1))
            (sym (append_assoc to.since one.0 later.0));
        some = λ wants. absurd (enough wants);
        keeps = record {
          stays = λ stated.
              let before = to.keeps.stays stated in
              let on = part_at-head (reading_with s []) (take n rest) (stated_too _ _ before stated) in
              let is : now.progress ≡ one.1.progress = ap (λ (r : Reading). r.progress) part.reading
              in
              same_both _ _ _ (subst (λ (p : Option ReadSoFar). SameHead p s.progress) (sym is) on)
              before;
          stated = λ stated.
              let last : (read_on start bytes).1.progress ≡ later.1.progress =
              ap (λ (r : List TraceRecord × Reading). r.1.progress) (to.goes no_want)
              ∙ ap (λ (r : List TraceRecord × Reading). r.1.progress) (step ∙ same) in
              subst (λ (p : Option ReadSoFar). SameHead now.progress p) (sym last)
              (same_back _ _ (read_on-head (reading_with now []) (drop n rest) stated));
        };
      }

  stops : (now : State) (behind : List ℕ) (after : List TraceRecord) → WantsMemory now → after
      ≡ items
      → now.progress ≡ s.progress → IsReadTo start bytes before now behind after
  stops now behind after wants same kept =
      let whole : (read_on start bytes).0 ≡ to.since ++ (read_on (reading_with s []) rest).0 =
      ap (λ (r : List TraceRecord × Reading). r.0)
      (to.goes no_want) in
      record {
        since = to.since;
        added = same ∙ to.added;
        goes = λ enough. absurd (enough wants);
        some = λ _. (
          length to.since,
          sym (ap (take (length to.since)) whole
              ∙ take-append_seam to.since (read_on (reading_with s []) rest).0),
        );
        keeps = keeps_with start (reading_with s []) (reading_with now []) bytes kept to.keeps;
      }

  parted : (n : ℕ) (now : State) (after : List TraceRecord) → n ≡ extent_in s rest → n ≤ length rest
      → place_reached s.progress + n ≤ longest_trace
      → (now.fault ≢ Some faults.NoMemory → ReadsPart s (take n rest) now items after)
      → (now.fault ≡ Some faults.NoMemory → after ≡ items)
      → (now.fault ≡ Some faults.NoMemory → now.progress ≡ s.progress)
      → IsReadTo start bytes before now (drop n rest) after
  parted n now after is le low part same kept =
      elim (wants_or_not now.fault) [
        | inl wants ↦ stops now (drop n rest) after wants (same wants) (kept wants)
        | inr enough ↦ goes_on n now after is le low enough (part enough)
      ]

  pub part_is_read : (n : ℕ) (front back : List ℕ) (now : State) (after : List TraceRecord) → front
      ≡ take n rest → back ≡ drop n rest
      → n ≡ extent_in s rest → n ≤ length rest → place_reached s.progress + n ≤ longest_trace
      → (now.fault ≢ Some faults.NoMemory → ReadsPart s front now items after)
      → (now.fault ≡ Some faults.NoMemory → after ≡ items)
      → (now.fault ≡ Some faults.NoMemory → now.progress ≡ s.progress)
      → IsReadTo start bytes before now back after
  part_is_read n front back now after front_is back_is is le low part same kept =
      let at_front : now.fault ≢ Some faults.NoMemory → ReadsPart s (take n rest) now items after =
      λ enough. subst (λ (xs : List ℕ). ReadsPart s xs now items after) front_is (part enough) in
      subst (λ (xs : List ℕ). IsReadTo start bytes before now xs after) (sym back_is)
      (parted n now after is le low at_front same kept)

  -- a run of accesses is read
  pub run_is_read : (now : State) (behind : List ℕ) (after : List TraceRecord) → now.fault ≡ None
      → SameHead now.progress s.progress
      → ReadsBut (reading_with s []) rest (reading_with now []) behind items after
      → IsReadTo start bytes before now behind after
  run_is_read now behind after still same but =
      let later : List TraceRecord × Reading = read_on (reading_with now []) behind in
      let whole : read_on start bytes ≡ ((to.since ++ but.since) ++ later.0, later.1) =
      to.goes no_want
      ∙ ap (λ (r : List TraceRecord × Reading). (to.since ++ r.0, r.1)) but.reading
      ∙ ap (λ (xs : List TraceRecord). (xs, later.1))
      (sym (append_assoc to.since but.since later.0)) in
      record {
        since = to.since ++ but.since;
        added = but.records ∙ ap (λ (xs : List TraceRecord). xs ++ but.since) to.added
            ∙ append_assoc before to.since but.since;
        goes = λ _. whole;
        some = λ wants. cc;
        keeps = record {
          stays = λ stated. same_both _ _ _ same (to.keeps.stays stated);
          stated = λ stated.
              subst (λ (p : Option ReadSoFar). SameHead now.progress p)
              (sym (ap (λ (r : List TraceRecord × Reading). r.1.progress) whole))
              (same_back _ _ (read_on-head (reading_with now []) behind stated));
        };
      }

  -- what is left waits
  pub rest_waits : length rest < extent_in s rest
      → place_reached s.progress + length rest ≤ longest_trace
      → ReadsOn start bytes (reading_with s rest) before items
  rest_waits short low =
      let family : Option TraceFault → Type 0 = λ f. read_on
      (record { progress = s.progress; pending = []; ending = s.ending; fault = f })
      rest ≡ ([], record { progress = s.progress; pending = rest; ending = s.ending; fault = f }) in
      let last : read_on (reading_with s []) rest ≡ ([], reading_with s rest) = subst family
      (sym clean)
      (all_wait s.progress s.ending rest (fronts_wait_at s.progress s.ending rest) short low) in
      let whole : read_on start bytes ≡ (to.since ++ [], reading_with s rest) = to.goes no_want
      ∙ ap (λ (r : List TraceRecord × Reading). (to.since ++ r.0, r.1)) last in
      record {
        reading = sym (ap (λ (r : List TraceRecord × Reading). r.1) whole);
        records = to.added
            ∙ ap (λ (xs : List TraceRecord). before ++ xs) (sym (append-nil to.since)
            ∙ sym (ap (λ (r : List TraceRecord × Reading). r.0) whole));
      }

-- a fault ends it
pub fault_ends : (start : Reading) (bytes : List ℕ) (before : List TraceRecord) (s : State)
    (rest : List ℕ) (items : List TraceRecord)
    → IsReadTo start bytes before s rest items → IsSome s.fault → s.fault ≢ Some faults.NoMemory
    → ReadsOn start bytes (reading_with s []) before items
fault_ends start bytes before s rest items to there enough =
    let stays : (f : Option TraceFault) → IsSome f
    → read_on (record { progress = s.progress; pending = []; ending = s.ending; fault = f })
    rest ≡ ([], record { progress = s.progress; pending = []; ending = s.ending; fault = f }) =
    λ f. elim f as (λ f. IsSome f → read_on
    (record { progress = s.progress; pending = []; ending = s.ending; fault = f }) rest ≡
    ([], record { progress = s.progress; pending = []; ending = s.ending; fault = f })) [
      | None ↦ λ h. cc
      | Some fault ↦ λ h. read_on-fault s.progress [] s.ending fault rest
    ] in
    let whole : read_on start bytes ≡ (to.since ++ [], reading_with s []) = to.goes enough
    ∙ ap (λ (r : List TraceRecord × Reading). (to.since ++ r.0, r.1)) (stays s.fault there) in
    record {
      reading = sym (ap (λ (r : List TraceRecord × Reading). r.1) whole);
      records = to.added
          ∙ ap (λ (xs : List TraceRecord). before ++ xs) (sym (append-nil to.since)
          ∙ sym (ap (λ (r : List TraceRecord × Reading). r.0) whole));
    }

pending_read : (s : State) (pending piece : List ℕ) → s.fault ≡ None
    → length pending < extent_in s pending
    → place_reached s.progress + length pending ≤ longest_trace
    → read_on (reading_with s []) (pending ++ piece) ≡ read_on (reading_with s pending) piece
pending_read s pending piece clean short low =
    let family : Option TraceFault → Type 0 = λ f. read_on
    (record { progress = s.progress; pending = []; ending = s.ending; fault = f })
    pending ≡ (
      [],
      record {
        progress = s.progress;
        pending = pending;
        ending = s.ending;
        fault =
            f;
      },
    ) in
    let kept : read_on (reading_with s []) pending ≡ ([], reading_with s pending) = subst family
    (sym clean)
    (all_wait s.progress s.ending pending (fronts_wait_at s.progress s.ending pending) short low) in
    read_on-append (reading_with s []) pending piece
    ∙ ap (λ (now : List TraceRecord × Reading). then_read now piece) kept

-- what was left over stands before the next piece
pub pending_first : (s : State) (pending piece : List ℕ) (new : Reading)
    (before after : List TraceRecord) → s.fault ≡ None
    → length pending < extent_in s pending → place_reached s.progress + length pending ≤ longest_trace
    → ReadsOn (reading_with s []) (pending ++ piece) new before after
    → ReadsOn (reading_with s pending) piece new before after
pending_first s pending piece new before after clean short low on =
    let same = pending_read s pending piece clean short low in
    record {
      reading = on.reading ∙ ap (λ (r : List TraceRecord × Reading). r.1) same;
      records = on.records ∙ ap (λ (r : List TraceRecord × Reading). before ++ r.0) same;
    }

pub head_first : (s : State) (pending piece : List ℕ) (new : Reading) → s.fault ≡ None
    → length pending < extent_in s pending → place_reached s.progress + length pending ≤ longest_trace
    → KeepsHead (reading_with s []) (pending ++ piece) new
    → KeepsHead (reading_with s pending) piece new
head_first s pending piece new clean short low keeps =
    let same = pending_read s pending piece clean short low in
    let last : (read_on (reading_with s []) (pending ++ piece)).1.progress
    ≡ (read_on (reading_with s pending) piece).1.progress =
    ap (λ (r : List TraceRecord × Reading). r.1.progress) same in
    record {
      stays = keeps.stays;
      stated = λ some. subst
          (λ (p : Option ReadSoFar). SameHead new.progress p) last (keeps.stated some);
    }

pub some_first : (s : State) (pending piece : List ℕ) (before after : List TraceRecord) → s.fault
    ≡ None
    → length pending < extent_in s pending → place_reached s.progress + length pending ≤ longest_trace
    → AddsSome (reading_with s []) (pending ++ piece) before after
    → AddsSome (reading_with s pending) piece before after
some_first s pending piece before after clean short low some =
    let same = pending_read s pending piece clean short low in
    (some.0, some.1 ∙ ap (λ (r : List TraceRecord × Reading). before ++ take some.0 r.0) same)

-- all records that became whole are some of them
pub all_added : (start new : Reading) (bytes : List ℕ) (before after : List TraceRecord)
    → ReadsOn start bytes new before after
    → AddsSome start bytes before after
all_added start new bytes before after on =
    let all = (read_on start bytes).0 in (
      length all,
      on.records ∙ ap (λ (xs : List TraceRecord). before ++ xs)
          (sym (take_all (length all) all (omega arith))),
    )
