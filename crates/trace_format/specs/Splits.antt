-- A trace cut in two at an access.
use Rattle.std.specs.Prelude.{◌≡◌, ℕ, ◌+◌, ◌-◌, nat_le, min, if◌then◌else◌, List, [], ◌∷◌, ◌++◌}
use Rattle.std.specs.Prelude.{length, take, drop, None}
use Rattle.trace_format.specs.declared.record.TraceEnd.{TraceEnd}
use Rattle.base.specs.declared.ending.Outcome.TheVariants.{Part}
use Rattle.trace_format.specs.declared.record.Header.{Header}
use Rattle.trace_format.specs.declared.record.TraceRecord.{TraceRecord}
use Rattle.trace_format.specs.declared.record.TraceRecord.TheVariants as records
use Rattle.trace_format.specs.Rules.{touches_in}
use Rattle.trace_format.specs.declared.splitter.Side.{Side}
use Rattle.trace_format.specs.declared.splitter.Side.TheVariants.{First, Second, Neither}

pub record Split : Type 0 where
  pub header : Header
  pub total : ℕ
  pub cut : ℕ
  -- how many accesses were met, up to one more than the cut
  pub met : ℕ

abbrev pub begin_split : Header → ℕ → ℕ → Split
begin_split header total at = record { header = header; total = total; cut = min at total; met = 0 }

-- the second half begins at the position of the access at the cut
abbrev pub headers_of : Split → Header × Header
headers_of s = (
  s.header,
  record { first = s.header.first + s.cut; harts = s.header.harts; near = s.header.near },
)

-- the first half has not ended, and the second ends as the whole
abbrev pub endings_of : Split → TraceEnd → TraceEnd × TraceEnd
endings_of s whole = (
  record { outcome = Part; steps = 0; accesses = s.cut; whole = None },
  record {
    outcome = whole.outcome;
    steps = whole.steps;
    accesses = s.total - s.cut;
    whole = None;
  },
)

-- ---- the side of each record

-- The side of a record that comes behind others: the first where at most `cut` accesses stand among
-- them and it. An end goes to neither side.
abbrev pub side_after : ℕ → List TraceRecord → TraceRecord → Side
side_after cut seen (records.End e) = Neither
side_after cut seen item =
    if nat_le (length (touches_in (seen ++ item ∷ []))) cut then First else Second

-- these records were seen so far
pub record HasSeen (seen : List TraceRecord) (s : Split) : Type 0 where
  pub met : s.met ≡ min (length (touches_in seen)) (s.cut + 1)

-- a call changes neither the headers nor the ends
pub record SameCut (old new : Split) : Type 0 where
  pub header : new.header ≡ old.header
  pub total : new.total ≡ old.total
  pub cut : new.cut ≡ old.cut

-- ---- the two halves of a list

-- a record before the others of its half
abbrev pub put_on : Side → TraceRecord → List TraceRecord × List TraceRecord
    → List TraceRecord × List TraceRecord
put_on First item halves = (item ∷ halves.0, halves.1)
put_on Second item halves = (halves.0, item ∷ halves.1)
put_on Neither item halves = halves

-- a record behind the others of its half
abbrev pub put_behind : Side → TraceRecord → List TraceRecord × List TraceRecord
    → List TraceRecord × List TraceRecord
put_behind First item halves = (halves.0 ++ item ∷ [], halves.1)
put_behind Second item halves = (halves.0, halves.1 ++ item ∷ [])
put_behind Neither item halves = halves

-- Records that come behind others, each on its side, in order.
abbrev pub halves_behind : ℕ → List TraceRecord → List TraceRecord
    → List TraceRecord × List TraceRecord
halves_behind cut seen [] = ([], [])
halves_behind cut seen (item ∷ items) =
    put_on (side_after cut seen item) item (halves_behind cut (seen ++ item ∷ []) items)

abbrev pub halves_of : ℕ → List TraceRecord → List TraceRecord × List TraceRecord
halves_of cut items = halves_behind cut [] items

-- no record, or an access first
abbrev pub BeginsWithTouch : List TraceRecord → Type 0
BeginsWithTouch [] = Unit {0}
BeginsWithTouch (records.Touch a pc ∷ items) = Unit {0}
BeginsWithTouch (item ∷ items) = ⊥

-- The halves are the records in order. The first has the accesses before the cut, and the second
-- begins with the access at the cut.
pub record IsCutInTwo (cut : ℕ) (items : List TraceRecord)
    (halves : List TraceRecord × List TraceRecord) : Type 0 where
  pub whole : halves.0 ++ halves.1 ≡ items
  pub first : touches_in halves.0 ≡ take cut (touches_in items)
  pub second : touches_in halves.1 ≡ drop cut (touches_in items)
  pub begins : BeginsWithTouch halves.1
