-- What the bytes of one record say, or which of its fields is the first at fault. Fields stand at
-- their places in the record,
-- and are judged in the order written here, once all of them are there.
use Rattle.std.specs.Prelude.{ℕ, ◌+◌, ◌%◌, ◌==◌, ◌&&◌, nat_eq, nat_lt, nat_le, List, [], ◌∷◌}
use Rattle.std.specs.Prelude.{Bool, true}
use Rattle.std.specs.Prelude.{length, take, drop, find, slice_index, Option, Some, None, Result, Ok}
use Rattle.std.specs.Prelude.{Err, if◌then◌else◌}
use Rattle.std.specs.List.{starts_with, list_any}
use Rattle.std.specs.Int.{w16, w32, w64}
use Rattle.base.specs.Fields.{number_at}
use Rattle.base.specs.Names.{longest_name}
use Rattle.objects.specs.declared.symbol.SymbolKind.{SymbolKind}
use Rattle.objects.specs.declared.symbol.SymbolKind.TheVariants.{Object, Function}
use Rattle.base.specs.Touch.{Touch, is_access_size}
use Rattle.base.specs.Levels.{is_from_to}
use Rattle.base.specs.declared.access.Kind.{Kind}
use Rattle.base.specs.declared.ending.Cause.{Cause}
use Rattle.base.specs.declared.ending.Cause.TheVariants.{Illegal, Breakpoint}
use Rattle.base.specs.declared.ending.Cause.TheVariants.{FetchMisaligned, FetchOutside}
use Rattle.base.specs.declared.ending.Cause.TheVariants.{LoadMisaligned, LoadOutside}
use Rattle.base.specs.declared.ending.Cause.TheVariants.{StoreMisaligned, StoreOutside}
use Rattle.base.specs.declared.ending.Outcome.{Outcome}
use Rattle.base.specs.declared.ending.Outcome.TheVariants.{Exit, Budget, Deadlock, Trap}
use Rattle.base.specs.declared.ending.Outcome.TheVariants.{Part}
use Rattle.trace_format.specs.declared.record.TraceEnd.{TraceEnd}
use Rattle.trace_format.specs.declared.before.Before.{Before}
use Rattle.trace_format.specs.declared.fault.TraceFault.{TraceFault}
use Rattle.trace_format.specs.declared.fault.TraceFault.TheVariants as faults
use Rattle.trace_format.specs.declared.record.Version.{Version}
use Rattle.trace_format.specs.declared.record.Version.TheVariants.{One, Two, Three, Four}
use Rattle.trace_format.specs.declared.record.Header.{Header}
use Rattle.trace_format.specs.declared.record.TraceRecord.{TraceRecord}
use Rattle.trace_format.specs.declared.record.TraceRecord.TheVariants as records
use Rattle.trace_format.specs.declared.tag.Tag.{Tag}
use Rattle.trace_format.specs.declared.tag.Tag.TheVariants as tags
use Rattle.trace_format.specs.declared.read_so_far.ReadSoFar.{ReadSoFar}
use Rattle.trace_format.specs.Tags.{tag_of}
use Rattle.trace_format.specs.Numbers.{address_at, are_groups, group_count, number_in}
use Rattle.trace_format.specs.Spelling.{cause_number, magic_of, nothing_before, pc_before}
use Rattle.trace_format.specs.Rules.{last_position}

-- ---- how many bytes there are to judge

abbrev pub header_length : ℕ
header_length = 20

-- A symbol's name is as long as the symbol states. One that is too long is judged without it.
unfoldable pub symbol_extent : List ℕ → ℕ
symbol_extent bytes =
    if nat_lt (length bytes) 12 then 12
    else (if nat_lt longest_name (number_at w16 10 bytes) then 12
    else 12 + number_at w16 10 bytes)

-- how many bytes an access has up to the end of its distance: a tag, its hart, and the groups
abbrev pub short_touch_extent : List ℕ → ℕ
short_touch_extent bytes = 2 + group_count (drop 2 bytes)

-- its pc is behind that
abbrev pub sited_touch_extent : List ℕ → ℕ
sited_touch_extent bytes =
    let front = short_touch_extent bytes in front + group_count (drop front bytes)

abbrev pub end_extent : Version → ℕ
end_extent Four = 33
end_extent _ = 25

-- a record of a tag, as far as its bytes state it
abbrev pub extent_of : Version → Tag → List ℕ → ℕ
extent_of v (tags.Touch kind) bytes = 8
extent_of v (tags.ShortTouch kind size) bytes = short_touch_extent bytes
extent_of v (tags.SitedTouch kind size) bytes = sited_touch_extent bytes
extent_of v tags.Alloc bytes = 25
extent_of v tags.Free bytes = 5
extent_of v tags.Symbol bytes = symbol_extent bytes
extent_of v tags.End bytes = end_extent v

-- The record that begins here is judged once so many bytes are there. A byte that is no tag is
-- judged at once.
abbrev pub extent_if : Version → Option Tag → List ℕ → ℕ
extent_if v None bytes = 1
extent_if v (Some tag) bytes = extent_of v tag bytes

unfoldable pub record_extent : Version → List ℕ → ℕ
record_extent v bytes = extent_if v (tag_of v (slice_index bytes 0)) bytes

-- ---- the header

-- the version whose magic some bytes begin with
abbrev pub version_at : List ℕ → Option Version
version_at bytes =
    if starts_with nat_eq bytes (magic_of One) then Some One
    else (if starts_with nat_eq bytes (magic_of Two) then Some Two
    else (if starts_with nat_eq bytes (magic_of Three) then Some Three
    else (if starts_with nat_eq bytes (magic_of Four) then Some Four
    else None)))

-- the beginning of a trace with this header
abbrev pub begun : Version → Header → ReadSoFar
begun v h = record {
  version = v;
  header = h;
  counted = 0;
  before = nothing_before;
  place = header_length;
}

-- the greatest first position: in version 4 positions begin at 0
abbrev pub highest_first : Version → ℕ
highest_first Four = 0
highest_first _ = last_position

-- the last field is zero where a version has no regions
abbrev pub is_unused : Version → ℕ → Bool
is_unused Four near = true
is_unused _ near = near == 0

-- it is from 6 to 16 where a version has them
abbrev pub is_near : Version → ℕ → Bool
is_near Four near = is_from_to 6 16 near
is_near _ near = true

-- what the fields of a header say
abbrev pub fields_judged : Option Version → ℕ → ℕ → ℕ → Result ReadSoFar TraceFault
fields_judged None first harts near = Err faults.BadMagic
fields_judged (Some v) first harts near =
    if nat_lt (highest_first v) first then Err (faults.BadField 8)
    else (if is_from_to 1 256 harts && is_unused v near
    then (if is_near v near
    then Ok (begun v (record { first = first; harts = harts; near = near }))
    else Err (faults.BadField 18))
    else Err faults.BadHarts)

-- what 20 bytes say of version and header
unfoldable pub header_judged : List ℕ → Result ReadSoFar TraceFault
header_judged bytes = fields_judged (version_at bytes) (number_at w64 8 bytes)
    (number_at w16 16 bytes) (number_at w16 18 bytes)

-- ---- accesses

-- version 1: its hart is one of so many, and its size is allowed and divides its address
unfoldable pub touch_judged : Kind → ℕ → ℕ → List ℕ → Result Touch TraceFault
touch_judged kind harts place bytes =
    let hart = number_at w16 1 bytes in
    let addr = number_at w32 3 bytes in
    let size = slice_index bytes 7 in
    if nat_le harts hart then Err (faults.BadField (place + 1))
    else (if is_access_size size
    then (if addr % size == 0 then Ok (record {
      hart = hart;
      addr = addr;
      kind = kind;
      size = size;
    }) else Err (faults.BadField (place + 3)))
    else Err (faults.BadField (place + 7)))

-- version 2: its distance is spelled in the one way too
unfoldable pub short_touch_judged : Kind → ℕ → ℕ → ℕ → ℕ → List ℕ → Result Touch TraceFault
short_touch_judged kind size harts last place bytes =
    let hart = slice_index bytes 1 in
    let stated = drop 2 bytes in
    let addr = address_at last (number_in stated) in
    if nat_le harts hart then Err (faults.BadField (place + 1))
    else (if are_groups stated && (addr % size == 0)
    then Ok (record { hart = hart; addr = addr; kind = kind; size = size })
    else Err (faults.BadField (place + 2)))

abbrev pub without_pc : Result Touch TraceFault → Result (Touch × Option ℕ) TraceFault
without_pc (Err fault) = Err fault
without_pc (Ok touch) = Ok (touch, None)

-- An access that is good in itself has a pc behind it, whose distance is spelled in the one way.
abbrev pub with_pc : Before → ℕ → List ℕ → Result Touch TraceFault
    → Result (Touch × Option ℕ) TraceFault
with_pc before place stated (Err fault) = Err fault
with_pc before place stated (Ok touch) = if are_groups stated then Ok (
  touch,
  Some (address_at (pc_before before touch.hart) (number_in stated)),
) else Err (faults.BadField place)

-- versions 3 and 4: an access of version 2, and its pc
unfoldable pub sited_touch_judged : Kind → ℕ → ℕ → Before → ℕ → List ℕ
    → Result (Touch × Option ℕ) TraceFault
sited_touch_judged kind size harts before place bytes =
    let front = short_touch_extent bytes in
    with_pc before (place + front) (drop front bytes)
    (short_touch_judged kind size harts before.last place (take front bytes))

-- ---- blocks and symbols

unfoldable pub alloc_at : List ℕ → TraceRecord
alloc_at bytes =
    records.Alloc (number_at w32 1 bytes) (number_at w32 5 bytes)
    (number_at w32 9 bytes ∷ number_at w32 13 bytes ∷ number_at w32 17 bytes ∷ number_at w32 21
    bytes ∷ [])

abbrev pub symbol_kind_of : ℕ → Option SymbolKind
symbol_kind_of n = if n == 1 then Some Object else (if n == 2 then Some Function else None)

-- its kind is known, it has bytes, and its name fits and has no zero byte
abbrev pub symbol_with : ℕ → List ℕ → Option SymbolKind → Result TraceRecord TraceFault
symbol_with place bytes None = Err (faults.BadField (place + 1))
symbol_with place bytes (Some kind) =
    if number_at w32 6 bytes == 0 then Err (faults.BadField (place + 6))
    else (if nat_lt longest_name (number_at w16 10 bytes) then Err (faults.BadField (place + 10))
    else (if list_any (nat_eq 0) (drop 12 bytes) then Err (faults.BadField (place + 12))
    else Ok (records.Symbol kind (number_at w32 2 bytes) (number_at w32 6 bytes) (drop 12 bytes))))

unfoldable pub symbol_judged : ℕ → List ℕ → Result TraceRecord TraceFault
symbol_judged place bytes = symbol_with place bytes (symbol_kind_of (slice_index bytes 1))

-- ---- the end

-- the cause of a number
abbrev pub cause_of : ℕ → Option Cause
cause_of n = find (λ c. cause_number c == n) (Illegal ∷ Breakpoint ∷ FetchMisaligned ∷ FetchOutside
    ∷ LoadMisaligned ∷ LoadOutside ∷ StoreMisaligned ∷ StoreOutside ∷ [])

-- a trap: its cause is known, its hart is one of so many, and its pc is a multiple of 4
abbrev pub trap_for : Option Cause → ℕ → ℕ → ℕ → ℕ → Result Outcome TraceFault
trap_for None harts place hart value = Err (faults.BadField (place + 2))
trap_for (Some why) harts place hart value =
    if nat_le harts hart then Err (faults.BadField (place + 3))
    else (if value % 4 == 0 then Ok (Trap hart value why) else Err (faults.BadField (place + 5)))

unfoldable pub trap_judged : ℕ → ℕ → ℕ → ℕ → ℕ → Result Outcome TraceFault
trap_judged harts place cause hart value = trap_for (cause_of cause) harts place hart value

-- the other outcomes by their numbers
abbrev pub plain_outcome_of : ℕ → ℕ → Option Outcome
plain_outcome_of which value =
    if which == 0 then Some (Exit value)
    else (if which == 1 then Some Budget
    else (if which == 2 then Some Deadlock
    else (if which == 4 then Some Part
    else None)))

-- They have no cause and no hart, only an exit has a value, and a part takes no steps.
abbrev pub plain_with : Option Outcome → ℕ → ℕ → ℕ → ℕ → ℕ → ℕ → Result Outcome TraceFault
plain_with None place which cause hart value steps = Err (faults.BadField (place + 1))
plain_with (Some outcome) place which cause hart value steps =
    if nat_lt 0 cause then Err (faults.BadField (place + 2))
    else (if nat_lt 0 hart then Err (faults.BadField (place + 3))
    else (if nat_lt 0 which && nat_lt 0 value then Err (faults.BadField (place + 5))
    else (if (which == 4) && nat_lt 0 steps then Err (faults.BadField (place + 9))
    else Ok outcome)))

unfoldable pub plain_judged : ℕ → ℕ → ℕ → ℕ → ℕ → ℕ → Result Outcome TraceFault
plain_judged place which cause hart value steps =
    plain_with (plain_outcome_of which value) place which cause hart value steps

unfoldable pub outcome_judged : ℕ → ℕ → List ℕ → Result Outcome TraceFault
outcome_judged harts place bytes =
    if slice_index bytes 1 == 3
    then trap_judged harts place (slice_index bytes 2) (number_at w16 3 bytes)
    (number_at w32 5 bytes)
    else plain_judged place (slice_index bytes 1) (slice_index bytes 2) (number_at w16 3 bytes)
    (number_at w32 5 bytes) (number_at w64 9 bytes)

-- how many accesses there were before the list was filtered, which version 4 alone says
abbrev pub whole_at : Version → List ℕ → Option ℕ
whole_at Four bytes = Some (number_at w64 25 bytes)
whole_at _ bytes = None

-- an end of such an outcome
abbrev pub end_with : Version → List ℕ → Outcome → TraceEnd
end_with v bytes outcome = record {
  outcome = outcome;
  steps = number_at w64 9 bytes;
  accesses = number_at w64 17 bytes;
  whole = whole_at v bytes;
}

-- where that is said, it is at least as many as there are, and at most 2^40
abbrev pub is_whole : ℕ → Option ℕ → Bool
is_whole accesses None = true
is_whole accesses (Some whole) = nat_le accesses whole && nat_le whole last_position

-- ---- one record

-- An access that is good in itself has a position below 2^40.
abbrev pub touch_counted : ReadSoFar → Result (Touch × Option ℕ) TraceFault
    → Result TraceRecord TraceFault
touch_counted p (Err fault) = Err fault
touch_counted p (Ok sited) = if nat_lt (p.header.first + p.counted) last_position then Ok
    (records.Touch sited.0 sited.1) else Err faults.TooLong

-- An end that is good in itself states how many accesses there were.
abbrev pub end_counted : ReadSoFar → List ℕ → Result Outcome TraceFault
    → Result TraceRecord TraceFault
end_counted p bytes (Err fault) = Err fault
end_counted p bytes (Ok outcome) =
    let ending = end_with p.version bytes outcome in
    if ending.accesses == p.counted
    then (if is_whole ending.accesses ending.whole then Ok (records.End ending) else Err
    (faults.BadField (p.place + 25)))
    else Err (faults.CountMismatch ending.accesses p.counted)

abbrev pub tagged_judged : ReadSoFar → Tag → List ℕ → Result TraceRecord TraceFault
tagged_judged p (tags.Touch kind) bytes = touch_counted p
    (without_pc (touch_judged kind p.header.harts p.place bytes))
tagged_judged p (tags.ShortTouch kind size) bytes = touch_counted p
    (without_pc (short_touch_judged kind size p.header.harts p.before.last p.place bytes))
tagged_judged p (tags.SitedTouch kind size) bytes =
    touch_counted p (sited_touch_judged kind size p.header.harts p.before p.place bytes)
tagged_judged p tags.Alloc bytes = Ok (alloc_at bytes)
tagged_judged p tags.Free bytes = Ok (records.Free (number_at w32 1 bytes))
tagged_judged p tags.Symbol bytes = symbol_judged p.place bytes
tagged_judged p tags.End bytes = end_counted p bytes (outcome_judged p.header.harts p.place bytes)

abbrev pub tagged_if : ReadSoFar → Option Tag → List ℕ → Result TraceRecord TraceFault
tagged_if p None bytes = Err (faults.BadTag p.place)
tagged_if p (Some tag) bytes = tagged_judged p tag bytes

-- what the bytes of one record say, all of which are there
unfoldable pub record_judged : ReadSoFar → List ℕ → Result TraceRecord TraceFault
record_judged p bytes = tagged_if p (tag_of p.version (slice_index bytes 0)) bytes
