-- How far a named trace is read, piece after piece, and what stands at its end.
use Rattle.std.specs.Prelude.{◌≡◌, ℕ, ◌+◌, ◌-◌, ◌<◌, ◌≤◌, List, ◌++◌, length, Option, Some}
use Rattle.std.specs.Prelude.{None, option_map, true}
use Rattle.shelf.specs.Agreeing.{HasReadFront}
use Rattle.shelf.specs.Shelf.{Files, Given, Outside, Known, content}
use Rattle.shelf.specs.Fetch.{IsFront}
use Rattle.trace_format.specs.declared.read_so_far.ReadSoFar.{ReadSoFar}
use Rattle.trace_format.specs.declared.record.TraceRecord.{TraceRecord}
use Rattle.trace_format.specs.declared.fault.TraceFault.{TraceFault}
use Rattle.trace_format.specs.declared.record.Header.{Header}
use Rattle.trace_format.specs.declared.record.Version.{Version}
use Rattle.trace_format.specs.Reading.{Reading, reading_of}
use Rattle.trace_format.specs.Rules.{IsGoodHeader, longest_trace}
use Rattle.trace_passes.specs.declared.passes.Passed.{Passed}
use Rattle.trace_passes.specs.declared.wanted.Refusal.{Refusal}
use Rattle.trace_passes.specs.declared.wanted.Wanted.{Wanted}
use Rattle.trace_passes.specs.Passes.{IsWanted, head_of, header_refusal, pcs_refusal, refusal_of}
use Rattle.trace_passes.specs.Passes.{HasPcs, near_refusal, trace_of, trace_with}

-- These bytes are read with no fault, and neither their version nor their header is refused.
pub record IsRead (w : Wanted) (bytes : List ℕ) (now : Reading) : Type 0 where
  pub reading : now ≡ (reading_of bytes).1
  pub clean : now.fault ≡ None
  pub sited : pcs_refusal w bytes ≡ None
  pub unrefused : header_refusal w (head_of now.progress) ≡ None

abbrev pub magic_length : ℕ
magic_length = 8

-- the most bytes of a trace that are asked for at once: 16 KiB
abbrev pub longest_piece : ℕ
longest_piece = 16384

-- The bytes so far aren't refused for having no pcs, and where pcs are wanted, a piece behind them
-- doesn't go beyond the magic before that is whole.
pub record StopsAtMagic (w : Wanted) (bytes piece : List ℕ) : Type 0 where
  pub sited : pcs_refusal w bytes ≡ None
  pub stops : w.pcs ≡ true → length bytes < magic_length
      → length bytes + length piece ≤ magic_length

-- the version and the header, once the header is accepted
abbrev pub version_and_header : Option ReadSoFar → Option (Version × Header)
version_and_header progress = option_map (λ p. (p.version, p.header)) progress

-- The bytes have this fault, and the records that became whole in them came behind those of the
-- first ones.
pub record StopsIn (all bytes : List ℕ) (fault : TraceFault) (now : Reading)
    (items : List TraceRecord) : Type 0 where
  pub reading : now ≡ (reading_of all).1
  pub fault_there : now.fault ≡ Some fault
  pub records : (reading_of all).0 ≡ (reading_of bytes).0 ++ items

-- what is given of a header that was accepted
pub record IsHeadOf (progress : Option ReadSoFar) (passed : Passed) : Type 0 where
  pub now : ReadSoFar
  pub known : progress ≡ Some now
  pub version : passed.version ≡ now.version
  pub header : passed.header ≡ now.header

-- how far a cursor is
pub record Reached : Type 0 where
  -- what the bytes so far say
  pub reading : Reading
  -- how many they are
  pub count : ℕ
  -- the records that became whole in the last piece
  pub items : List TraceRecord
  -- how many bytes a piece has at most
  pub piece : ℕ

-- how many bytes a trace may have behind those that are read
abbrev pub bytes_left : Reached → ℕ
bytes_left now = longest_trace - now.count

-- The cursor has read these bytes, which the name's begin with where these are known. It has room
-- for more, and asks for few at once.
pub record HasCome (held : Option Files) (name : List ℕ) (w : Wanted) (bytes : List ℕ)
    (now : Reached) : Type 0 where
  pub size : length bytes ≡ now.count
  pub room : 0 < now.piece
  pub few : now.piece ≤ longest_piece
  pub front : Known held (λ files. IsFront (content files name) bytes)
  pub read : IsRead w bytes now.reading

-- It has read more bytes than these, and holds the records that became whole in them. Where reads
-- have given these bytes, they have given them all once they have given the new ones.
pub record GoesOn (old new : Outside) (name : List ℕ) (w : Wanted) (bytes : List ℕ)
    (now : Reached) : Type 0 where
  pub more : List ℕ
  pub come : HasCome new.held name w (bytes ++ more) now
  pub records : (reading_of (bytes ++ more)).0 ≡ (reading_of bytes).0 ++ now.items
  pub front : (before : List Given) → HasReadFront name bytes before old.given
      → HasReadFront name (bytes ++ more) before new.given

-- These bytes are all of the name's, where these are known, and they are a trace of these parts, as
-- wanted.
pub record HasEnded (held : Option Files) (name : List ℕ) (w : Wanted) (bytes : List ℕ)
    (passed : Passed) : Type 0 where
  pub whole : Known held (λ files. bytes ≡ content files name)
  pub items : List TraceRecord
  pub is : trace_of bytes ≡ Some (trace_with passed items)
  pub header : IsGoodHeader passed.header
  pub wanted : IsWanted w passed.header
  pub sited : w.pcs ≡ true → HasPcs passed.version
  pub near : near_refusal w.lines passed.header.near ≡ None
  pub accepted : refusal_of w bytes ≡ None

-- These bytes are all of the name's, where these are known, and are refused so. The cursor holds
-- the records that became whole in them behind those before, and knows their header.
pub record HasStopped (held : Option Files) (name : List ℕ) (w : Wanted) (bytes : List ℕ)
    (refusal : Refusal) (now : Reached) : Type 0 where
  pub all : List ℕ
  pub behind : (more : List ℕ) × (all ≡ bytes ++ more)
  pub whole : Known held (λ files. all ≡ content files name)
  pub refused : refusal_of w all ≡ Some refusal
  pub reading : now.reading ≡ (reading_of all).1
  pub records : (reading_of all).0 ≡ (reading_of bytes).0 ++ now.items
