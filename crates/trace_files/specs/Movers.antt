-- How far a trace is moved, in the clauses of this crate's own functions.
use Rattle.std.specs.Prelude.{◌≡◌, ℕ, ◌<◌, ◌≤◌, ◌^◌, false, List, [], ◌++◌, length, Option, Some, None}
use Rattle.std.specs.Prelude.{is_some}
use Rattle.std.specs.List.{list_any}
use Rattle.std.specs.Option.{IfSome}
use Rattle.shelf.specs.declared.shelf.ShelfError.{ShelfError}
use Rattle.shelf.specs.declared.shelf.ShelfError.TheVariants as errors
use Rattle.shelf.specs.Files.{AreCut, AreWritten}
use Rattle.shelf.specs.OnTheirWay.{IsOutputs}
use Rattle.shelf.specs.Shelf.{Outside}
use Rattle.trace_format.specs.declared.record.Header.{Header}
use Rattle.trace_format.specs.declared.record.TraceRecord.{TraceRecord}
use Rattle.trace_format.specs.declared.record.Version.{Version}
use Rattle.trace_format.specs.Rules.{IsGoodHeader, touches_in}
use Rattle.trace_format.specs.Spelling.{nothing_before}
use Rattle.trace_format.specs.Writing.{before_behind}
use Rattle.trace_passes.specs.declared.wanted.Refusal.{Refusal}
use Rattle.trace_files.specs.declared.move_fault.MoveFault.{MoveFault}
use Rattle.trace_files.specs.declared.move_fault.MoveFault.TheVariants as faults
use Rattle.trace_files.specs.declared.move_row.Move.{Move}
use Rattle.trace_files.specs.declared.mover.Mover.{Mover}
use Rattle.trace_files.specs.Moves.{count_moved}
use Rattle.trace_files.specs.Moving.{before_the_first, first_fault, is_at_fault, moved_items}
use Rattle.trace_files.specs.Moving.{moved_so_far, near_of}

-- These records were put with their accesses moved, none of which is refused, into the file that the
-- header began; without a header nothing is begun. It is known under what the list is filtered.
pub record HasMoved (table : List Move) (name : List ℕ) (m : Mover)
    (head : Option (Version × Header)) (seen : List TraceRecord) (before now : Outside) : Type 0
  where
    pub named : m.name.now ≡ name
    pub outputs : IsOutputs m.files (moved_so_far table name head seen) before now
    pub begun : m.begun ≡ is_some head
    pub near : m.near ≡ near_of head
    pub small : near_of head ≤ 16
    pub writer : IfSome head (λ h. m.writer
        ≡ record { version = h.0; before = before_behind nothing_before (moved_items table seen) })
    pub free : list_any (is_at_fault (near_of head) table) seen ≡ false
    pub moved : m.moved ≡ count_moved table (touches_in seen)

-- more records may be put, of fewer accesses than can be counted
pub record MayPut (table : List Move) (m : Mover) (more : List TraceRecord) (now : Outside) : Type 0
  where
    pub name : List ℕ
    pub head : Version × Header
    pub seen : List TraceRecord
    pub before : Outside
    pub has : HasMoved table name m (Some head) seen before now
    pub room : length (touches_in (seen ++ more)) < 2 ^ 63

-- ---- where it gives up

-- The file was cut as these records were put, which are the first of all, and none of which is
-- refused.
pub record IsCutAt (table : List Move) (name : List ℕ) (head : Option (Version × Header))
    (all : List TraceRecord) (before now : Outside) (error : ShelfError) : Type 0 where
  pub put : List TraceRecord
  pub more : List TraceRecord
  pub free : list_any (is_at_fault (near_of head) table) put ≡ false
  pub first : all ≡ put ++ more
  pub cut : AreCut (moved_so_far table name head put) before now error

-- An access of these records is refused so, and the file has all that is before it.
pub record IsHeldUp (table : List Move) (name : List ℕ) (head : Option (Version × Header))
    (all : List TraceRecord) (before now : Outside) (fault : MoveFault) : Type 0 where
  pub first : first_fault (near_of head) table all ≡ Some fault
  pub written : AreWritten
      (moved_so_far table name head (before_the_first (near_of head) table all)) before now
  pub cut : IsCutAt table name head all before now errors.NoMemory

-- what is known where these records were to be put, and a fault came
abbrev pub StopsAt : List Move → List ℕ → Option (Version × Header) → List TraceRecord → Outside
    → Outside → MoveFault → Type 0
StopsAt table name head all before now (faults.Occupied addr) =
    IsHeldUp table name head all before now (faults.Occupied addr)
StopsAt table name head all before now (faults.Far addr) =
    IsHeldUp table name head all before now (faults.Far addr)
StopsAt table name head all before now faults.WriteFault =
    IsCutAt table name head all before now errors.Failed
StopsAt table name head all before now faults.NoMemory =
    IsCutAt table name head all before now errors.NoMemory
StopsAt table name head all before now faults.ReadFault = ⊥
StopsAt table name head all before now (faults.Refused refusal) = ⊥

abbrev pub write_fault : ShelfError → MoveFault
write_fault errors.Failed = faults.WriteFault
write_fault errors.NoMemory = faults.NoMemory

-- ---- the header

-- How the header that is known once more records came follows what was known: it stays, and before
-- it is known no record comes.
abbrev pub Follows : Option (Version × Header) → List TraceRecord → Option (Version × Header)
    → List TraceRecord → Type 0
Follows None seen None more = (seen ≡ []) × (more ≡ [])
Follows None seen (Some head) more = seen ≡ []
Follows (Some known) seen None more = ⊥
Follows (Some known) seen (Some head) more = known ≡ head

-- a header with regions of at most 2^16 bytes
pub record IsWell (h : Version × Header) : Type 0 where
  pub good : IsGoodHeader h.1
  pub small : h.1.near ≤ 16

-- some records were put, and more may be once their header is known
pub record MayTake (table : List Move) (m : Mover) (head : Option (Version × Header))
    (more : List TraceRecord) (now : Outside) : Type 0 where
  pub name : List ℕ
  pub known : Option (Version × Header)
  pub seen : List TraceRecord
  pub before : Outside
  pub has : HasMoved table name m known seen before now
  pub follows : Follows known seen head more
  pub room : length (touches_in (seen ++ more)) < 2 ^ 63
  pub good : IfSome head IsWell

-- All records were put, none of which is refused, and are written.
pub record IsAllWritten (table : List Move) (name : List ℕ) (head : Option (Version × Header))
    (all : List TraceRecord) (before now : Outside) : Type 0 where
  pub free : list_any (is_at_fault (near_of head) table) all ≡ false
  pub written : AreWritten (moved_so_far table name head all) before now
  pub cut : IsCutAt table name head all before now errors.NoMemory

-- the same where a trace ends that is refused so, once its records were put
abbrev pub EndsAt : List Move → List ℕ → Option (Version × Header) → List TraceRecord → Outside
    → Outside → Refusal → MoveFault → Type 0
EndsAt table name head all before now why (faults.Refused refusal) =
    (refusal ≡ why) × IsAllWritten table name head all before now
EndsAt table name head all before now why (faults.Occupied addr) =
    IsHeldUp table name head all before now (faults.Occupied addr)
EndsAt table name head all before now why (faults.Far addr) =
    IsHeldUp table name head all before now (faults.Far addr)
EndsAt table name head all before now why faults.WriteFault =
    IsCutAt table name head all before now errors.Failed
EndsAt table name head all before now why faults.NoMemory =
    IsCutAt table name head all before now errors.NoMemory
EndsAt table name head all before now why faults.ReadFault = ⊥
