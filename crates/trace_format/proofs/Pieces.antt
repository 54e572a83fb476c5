-- A piece behind what was left over.
use Rattle.std.proofs.Common.{◌≡◌, ◌≢◌, ℕ, ◌+◌, ◌≤◌, ◌<◌, ◌⊎◌, inl, inr, List, [], ◌++◌, length}
use Rattle.std.proofs.Common.{Option, Some, None, IsSome, refl, sym, ap}
use Rattle.std.proofs.Common.{subst, ◌∙◌, arith}
use Rattle.std.specs.Option.{ForSome}
use Rattle.trace_format.specs.declared.fault.TraceFault.{TraceFault}
use Rattle.trace_format.specs.declared.fault.TraceFault.TheVariants as faults
use Rattle.trace_format.specs.declared.read_so_far.ReadSoFar.{ReadSoFar}
use Rattle.trace_format.specs.declared.record.TraceRecord.{TraceRecord}
use Rattle.trace_format.specs.Rules.{longest_trace}
use Rattle.trace_format.specs.Reading.{Reading, extent_at, place_reached}
use Rattle.trace_format.specs.Laws.Extents.{extent_is_some}
use Rattle.trace_format.specs.declared.reader_state.State.{State}
use Rattle.trace_format.specs.Sound.{IsSound}
use Rattle.trace_format.specs.ReaderStates.{AddsSome, ReadsOn, extent_in, reading_with}
use Rattle.trace_format.proofs.ReadParts.{all_added, pending_first, some_first}

-- what is kept of the bytes left over
pub record Keeps (mid new : State) (rest kept : List ℕ) : Type 0 where
  pub rest_kept : new.fault ≡ None → kept ≡ rest
  pub fault : IsSome new.fault → kept ≡ []
  pub progress : new.progress ≡ mid.progress
  pub ending : new.ending ≡ mid.ending
  pub same : new.fault ≢ Some faults.NoMemory → new.fault ≡ mid.fault
  pub was : new.fault ≡ None → mid.fault ≡ None
  pub wanted : new.fault ≡ Some faults.NoMemory → (mid.fault ≡ None)
      ⊎ (mid.fault ≡ Some faults.NoMemory)

-- what reading all of some bytes gave
pub record GaveOf (s : State) (bytes : List ℕ) (mid : State) (rest : List ℕ)
    (before after : List TraceRecord) : Type 0 where
  pub read : mid.fault ≡ None → ReadsOn (reading_with s []) bytes (reading_with mid rest) before
      after
  pub fault : IsSome mid.fault → mid.fault ≢ Some faults.NoMemory
      → ReadsOn (reading_with s []) bytes (reading_with mid []) before after
  pub no_memory : mid.fault ≡ Some faults.NoMemory → AddsSome (reading_with s []) bytes before after

-- what a piece gives, where what is kept is added to what was read
pub record GivesOf (r : Reading) (piece : List ℕ) (new : State) (kept : List ℕ)
    (before after : List TraceRecord) : Type 0 where
  pub read : new.fault ≢ Some faults.NoMemory → ReadsOn r piece (reading_with new kept) before after
  pub no_memory : new.fault ≡ Some faults.NoMemory → AddsSome r piece before after

none_or_some : (f : Option TraceFault) → (f ≡ None) ⊎ IsSome f
none_or_some None = inl refl
none_or_some (Some fault) = inr refl

module _ (mid new : State) (rest kept : List ℕ) (keeps : Keeps mid new rest kept) where
  pub kept_waits : (mid.fault ≡ None → length rest < extent_in mid rest)
      → length kept < extent_at new.progress new.ending kept
  kept_waits waits =
      elim (none_or_some new.fault) [
        | inl none ↦ let e = keeps.rest_kept none in
            let short : length rest < extent_at new.progress new.ending rest =
            rw (keeps.progress, keeps.ending) (waits (keeps.was none)) in
            rw e short
        | inr some ↦ let e = keeps.fault some in rw e
            (omega (arith, extent_is_some new.progress new.ending []))
      ]

  pub kept_low : place_reached mid.progress + length rest ≤ longest_trace
      → place_reached new.progress + length kept ≤ longest_trace
  kept_low fits =
      elim (none_or_some new.fault) [
        | inl none ↦ omega (arith, ap place_reached keeps.progress, ap length (keeps.rest_kept none))
        | inr some ↦ omega (arith, ap place_reached keeps.progress, ap length (keeps.fault some))
      ]

  pub kept_sound : ForSome mid.progress IsSound → ForSome new.progress IsSound
  kept_sound sound = subst (λ (p : Option ReadSoFar). ForSome p IsSound) (sym keeps.progress) sound

module _ (s : State) (pending piece : List ℕ) (mid new : State) (rest kept : List ℕ)
    (before after : List TraceRecord)
    (keeps : Keeps mid new rest kept) where
  reading_same : (xs : List ℕ) → kept ≡ xs → new.fault ≡ mid.fault → reading_with mid xs
      ≡ reading_with new kept
  reading_same xs e f = λ i. record {
    progress = sym keeps.progress i;
    pending = sym e i;
    ending =
        sym keeps.ending i;
    fault = sym f i;
  }

  module _ (clean : s.fault ≡ None) (short : length pending < extent_in s pending)
      (low : place_reached s.progress + length pending ≤ longest_trace)
      (gave : GaveOf s (pending ++ piece) mid rest before after) where
    piece_read : new.fault ≢ Some faults.NoMemory → ReadsOn (reading_with s pending) piece
        (reading_with new kept) before after
    piece_read enough =
        let same = keeps.same enough in
        let whole : ReadsOn (reading_with s []) (pending ++ piece) (reading_with new kept) before
        after =
        elim (none_or_some new.fault) [
          | inl none ↦ subst (λ (r : Reading). ReadsOn (reading_with s [])
              (pending ++ piece) r before after)
              (reading_same rest (keeps.rest_kept none) same) (gave.read (keeps.was none))
          | inr some ↦ subst (λ (r : Reading). ReadsOn (reading_with s [])
              (pending ++ piece) r before after)
              (reading_same [] (keeps.fault some) same)
              (gave.fault (subst (λ (f : Option TraceFault). IsSome f) same some)
              (λ wants. enough (same ∙ wants)))
        ] in
        pending_first s pending piece (reading_with new kept) before after clean short low whole

    piece_wants : new.fault ≡ Some faults.NoMemory
        → AddsSome (reading_with s pending) piece before after
    piece_wants wants =
        some_first s pending piece before after clean short low (elim (keeps.wanted wants) [
          | inl none ↦ all_added (reading_with s []) (reading_with mid rest)
              (pending ++ piece) before after (gave.read none)
          | inr gone ↦ gave.no_memory gone
        ])

    pub piece_gives : GivesOf (reading_with s pending) piece new kept before after
    piece_gives = record { read = piece_read; no_memory = piece_wants }
