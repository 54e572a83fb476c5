-- The rules that the parts of a trace keep.
use Rattle.std.specs.Prelude.{◌≡◌, ◌≢◌, ℕ, ◌+◌, ◌%◌, ◌^◌, ◌<◌, ◌≤◌, List, length}
use Rattle.std.specs.List.{All, filter_map}
use Rattle.std.specs.Prelude.{Option, Some, None}
use Rattle.base.specs.Names.{longest_name}
use Rattle.base.specs.Touch.{Touch, IsAllowed}
use Rattle.base.specs.declared.ending.Outcome.{Outcome}
use Rattle.base.specs.declared.ending.Outcome.TheVariants.{Exit, Budget, Deadlock, Trap}
use Rattle.base.specs.declared.ending.Outcome.TheVariants.{Part}
use Rattle.trace_format.specs.declared.record.TraceEnd.{TraceEnd}
use Rattle.trace_format.specs.declared.before.Before.{Before}
use Rattle.trace_format.specs.declared.record.Version.{Version}
use Rattle.trace_format.specs.declared.record.Version.TheVariants.{Three, Four}
use Rattle.trace_format.specs.declared.record.Header.{Header}
use Rattle.trace_format.specs.declared.record.TraceRecord.{TraceRecord}
use Rattle.trace_format.specs.declared.record.TraceRecord.TheVariants as records
use Rattle.trace_format.specs.Spelling.{spell}

pub record IsGoodHeader (h : Header) : Type 0 where
  pub position : h.first ≤ 2 ^ 40
  pub some : 1 ≤ h.harts
  pub few : h.harts ≤ 256

-- In version 4 positions begin at 0, and regions have from 2^6 to 2^16 bytes. The others have no
-- regions.
abbrev pub HasRegions : Version → Header → Type 0
HasRegions Four h = (h.first ≡ 0) × ((6 ≤ h.near) × (h.near ≤ 16))
HasRegions _ h = h.near ≡ 0

-- an access of one of so many harts
pub record IsGoodTouch (harts : ℕ) (a : Touch) : Type 0 where
  pub hart : a.hart < harts
  pub allowed : IsAllowed a

-- a pc of 32 bits, where there is one
abbrev pub IsPc : Option ℕ → Type 0
IsPc None = ⊥
IsPc (Some pc) = pc < 2 ^ 32

-- an access has a pc in versions 3 and 4 alone
abbrev pub IsGoodPc : Version → Option ℕ → Type 0
IsGoodPc Three pc = IsPc pc
IsGoodPc Four pc = IsPc pc
IsGoodPc _ pc = pc ≡ None

-- what an access is spelled against: numbers of 32 bits
pub record IsGoodBefore (before : Before) : Type 0 where
  pub last : before.last < 2 ^ 32
  pub pcs : All (λ pc. pc < 2 ^ 32) before.pcs

-- it has bytes, and a name that fits, with no zero byte
pub record IsGoodSymbol (addr size : ℕ) (name : List ℕ) : Type 0 where
  pub addr_in_range : addr < 2 ^ 32
  pub size_in_range : size < 2 ^ 32
  pub some : 1 ≤ size
  pub short : length name ≤ longest_name
  pub bytes : All (λ b. b < 256) name
  pub no_zero : All (λ b. b ≢ 0) name

-- a trap is at a multiple of 4, and a part takes no steps
abbrev pub IsAllowedEnd : ℕ → Outcome → Type 0
IsAllowedEnd steps (Exit code) = Unit {0}
IsAllowedEnd steps Budget = Unit {0}
IsAllowedEnd steps Deadlock = Unit {0}
IsAllowedEnd steps (Trap hart pc cause) = pc % 4 ≡ 0
IsAllowedEnd steps Part = steps ≡ 0

-- its numbers have a place in the fields, and a trap's hart is one of so many
abbrev pub FitsFields : ℕ → Outcome → Type 0
FitsFields harts (Exit code) = code < 2 ^ 32
FitsFields harts Budget = Unit {0}
FitsFields harts Deadlock = Unit {0}
FitsFields harts (Trap hart pc cause) = (hart < harts) × (pc < 2 ^ 32)
FitsFields harts Part = Unit {0}

-- Version 4 says how many accesses there were before the list was filtered: at least those of the
-- trace, and at most 2^40.
abbrev pub IsGoodWhole : Version → ℕ → Option ℕ → Type 0
IsGoodWhole Four accesses (Some whole) = (accesses ≤ whole) × (whole ≤ 2 ^ 40)
IsGoodWhole Four accesses None = ⊥
IsGoodWhole _ accesses whole = whole ≡ None

pub record IsGoodEnding (v : Version) (harts : ℕ) (e : TraceEnd) : Type 0 where
  pub allowed : IsAllowedEnd e.steps e.outcome
  pub outcome : FitsFields harts e.outcome
  pub steps : e.steps < 2 ^ 64
  pub accesses : e.accesses < 2 ^ 64
  pub whole : IsGoodWhole v e.accesses e.whole

-- A record of a trace of a version with so many harts. An end comes last, and alone.
abbrev pub IsGoodRecord : Version → ℕ → TraceRecord → Type 0
IsGoodRecord v harts (records.Touch a pc) = IsGoodTouch harts a × IsGoodPc v pc
IsGoodRecord v harts (records.Alloc addr size sites) = (addr < 2 ^ 32) × (size < 2 ^ 32)
    × (length sites ≡ 4) × All (λ site. site < 2 ^ 32) sites
IsGoodRecord v harts (records.Free addr) = addr < 2 ^ 32
IsGoodRecord v harts (records.Symbol kind addr size name) = IsGoodSymbol addr size name
IsGoodRecord v harts (records.End e) = IsGoodEnding v harts e

abbrev pub IsInner : TraceRecord → Type 0
IsInner (records.End e) = ⊥
IsInner _ = Unit {0}

-- the accesses among records, in order
abbrev pub touch_in : TraceRecord → Option Touch
touch_in (records.Touch a pc) = Some a
touch_in _ = None

abbrev pub touches_in : List TraceRecord → List Touch
touches_in items = filter_map touch_in items

-- no byte of a trace has this place
abbrev pub longest_trace : ℕ
longest_trace = 2 ^ 44

-- no access of a trace has this position
abbrev pub last_position : ℕ
last_position = 2 ^ 40

-- The parts keep the rules: positions are below 2^40, the end states how many accesses there are,
-- and there are at most 2^44 bytes.
pub record IsGoodTrace (v : Version) (h : Header) (items : List TraceRecord) (e : TraceEnd) : Type 0
  where
    pub header : IsGoodHeader h
    pub regions : HasRegions v h
    pub records : All (IsGoodRecord v h.harts) items
    pub inner : All IsInner items
    pub ending : IsGoodEnding v h.harts e
    pub positions : h.first + length (touches_in items) ≤ last_position
    pub counted : e.accesses ≡ length (touches_in items)
    pub short : length (spell v h items e) ≤ longest_trace

-- the bytes are a trace of these parts
pub record IsTrace (bytes : List ℕ) (v : Version) (h : Header) (items : List TraceRecord)
    (e : TraceEnd) : Type 0 where
  pub good : IsGoodTrace v h items e
  pub spelled : bytes ≡ spell v h items e

-- What the types of a record's parts don't say: an end keeps its rules, and a symbol has bytes and
-- no zero byte in its name.
abbrev pub IsWritable : TraceRecord → Type 0
IsWritable (records.Touch a pc) = Unit {0}
IsWritable (records.Alloc addr size sites) = Unit {0}
IsWritable (records.Free addr) = Unit {0}
IsWritable (records.Symbol kind addr size name) = (1 ≤ size) × All (λ b. b ≢ 0) name
IsWritable (records.End e) = IsAllowedEnd e.steps e.outcome
