-- Where the first fault of some bytes stands: they are the spelling of a good beginning, then one
-- unit that is judged at fault, whatever follows.
use Rattle.std.specs.Prelude.{◌≡◌, ◌⊎◌, ℕ, ◌+◌, ◌<◌, ◌≤◌, List, [], ◌∷◌, ◌++◌, length, Err}
use Rattle.std.specs.List.{All}
use Rattle.trace_format.specs.declared.record.TraceEnd.{TraceEnd}
use Rattle.trace_format.specs.declared.fault.TraceFault.{TraceFault}
use Rattle.trace_format.specs.declared.fault.TraceFault.TheVariants as faults
use Rattle.trace_format.specs.declared.record.Header.{Header}
use Rattle.trace_format.specs.declared.record.Version.{Version}
use Rattle.trace_format.specs.declared.record.TraceRecord.{TraceRecord}
use Rattle.trace_format.specs.declared.record.TraceRecord.TheVariants as records
use Rattle.trace_format.specs.declared.read_so_far.ReadSoFar.{ReadSoFar}
use Rattle.trace_format.specs.Spelling.{nothing_before, spell}
use Rattle.trace_format.specs.Rules.{HasRegions, IsGoodHeader, IsGoodRecord, IsGoodTrace, IsInner}
use Rattle.trace_format.specs.Rules.{last_position, longest_trace, touches_in}
use Rattle.trace_format.specs.Judging.{header_judged, header_length, record_extent, record_judged}
use Rattle.trace_format.specs.Writing.{before_behind, begun_with}

-- ---- what stands before the unit

pub data Beginning : Type 0 where
  -- the unit is the header
  nothing : Beginning
  -- the unit is a record, or the end
  unended : Version → Header → List TraceRecord → Beginning
  -- the unit is a byte too many
  ended : Version → Header → List TraceRecord → TraceEnd → Beginning

abbrev pub spell_beginning : Beginning → List ℕ
spell_beginning nothing = []
spell_beginning (unended v h items) = begun_with v h items
spell_beginning (ended v h items e) = spell v h items e

abbrev pub records_in : Beginning → List TraceRecord
records_in nothing = []
records_in (unended v h items) = items
records_in (ended v h items e) = items ++ records.End e ∷ []

-- a header and records of a trace, which no end follows yet
pub record IsOpenTrace (v : Version) (h : Header) (items : List TraceRecord) : Type 0 where
  pub header : IsGoodHeader h
  pub regions : HasRegions v h
  pub records : All (IsGoodRecord v h.harts) items
  pub inner : All IsInner items
  pub positions : h.first + length (touches_in items) ≤ last_position

abbrev pub KeepsRules : Beginning → Type 0
KeepsRules nothing = Unit {0}
KeepsRules (unended v h items) = IsOpenTrace v h items
KeepsRules (ended v h items e) = IsGoodTrace v h items e

-- ---- the unit

-- a record comes behind so many accesses, its own is spelled against these, and at this place
abbrev pub behind : Version → Header → List TraceRecord → ReadSoFar
behind v h items = record {
  version = v;
  header = h;
  counted = length (touches_in items);
  before = before_behind nothing_before items;
  place = length (begun_with v h items);
}

-- how many bytes the unit has that some bytes begin
abbrev pub unit_extent : Beginning → List ℕ → ℕ
unit_extent nothing bytes = header_length
unit_extent (unended v h items) bytes = record_extent v bytes
unit_extent (ended v h items e) bytes = 1

-- the fault of a unit that has all its bytes
abbrev pub Says : Beginning → List ℕ → TraceFault → Type 0
Says nothing unit f = header_judged unit ≡ Err f
Says (unended v h items) unit f = record_judged (behind v h items) unit ≡ Err f
Says (ended v h items e) unit f = faults.AfterEnd (length (spell v h items e)) ≡ f

-- a unit is wanted: no end was read
abbrev pub WantsMore : Beginning → Type 0
WantsMore (ended v h items e) = ⊥
WantsMore _ = Unit {0}

-- All its bytes are there, at places of a trace, and what they say is this fault.
pub record IsRefused (before : Beginning) (unit : List ℕ) (f : TraceFault) : Type 0 where
  pub whole : length unit ≡ unit_extent before unit
  pub places : length (spell_beginning before ++ unit) ≤ longest_trace
  pub says : Says before unit f

-- It is wanted, and the bytes end before it does.
pub record IsCutShort (before : Beginning) (unit rest : List ℕ) (f : TraceFault) : Type 0 where
  pub wanted : WantsMore before
  pub part : length unit < unit_extent before unit
  pub places : length (spell_beginning before ++ unit) ≤ longest_trace
  pub no_more : rest ≡ []
  pub fault : f ≡ faults.Truncated (length (spell_beginning before ++ unit))

-- It isn't whole where a trace has its last place, and a byte follows.
pub record IsTooLong (before : Beginning) (unit rest : List ℕ) (f : TraceFault) : Type 0 where
  pub part : length unit < unit_extent before unit
  pub last : length (spell_beginning before ++ unit) ≡ longest_trace
  pub more : 0 < length rest
  pub fault : f ≡ faults.TooLong

-- ---- the first fault

-- a unit is judged at fault, and what follows it matters only where it isn't whole
abbrev pub IsAtFault : Beginning → List ℕ → List ℕ → TraceFault → Type 0
IsAtFault before unit rest f =
    IsRefused before unit f ⊎ (IsCutShort before unit rest f ⊎ IsTooLong before unit rest f)

-- The bytes have these records, and behind them this fault.
pub record HasFault (bytes : List ℕ) (items : List TraceRecord) (f : TraceFault) : Type 0 where
  pub before : Beginning
  pub unit : List ℕ
  pub rest : List ℕ
  pub good : KeepsRules before
  pub records : items ≡ records_in before
  pub spelled : bytes ≡ spell_beginning before ++ (unit ++ rest)
  pub judged : IsAtFault before unit rest f
