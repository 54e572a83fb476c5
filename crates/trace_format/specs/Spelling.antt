-- A trace: the one spelling of each of its parts, in every version. Numbers are little endian.
use Rattle.std.specs.Prelude.{ℕ, List, [], ◌∷◌, ◌++◌, length, codes, slice_index, slice_set}
use Rattle.std.specs.Prelude.{Option, Some, None, replicate}
use Rattle.std.specs.List.{flat_map}
use Rattle.std.specs.Int.{w16, w32, w64, to_le_bytes}
use Rattle.objects.specs.declared.symbol.SymbolKind.{SymbolKind}
use Rattle.objects.specs.declared.symbol.SymbolKind.TheVariants.{Object, Function}
use Rattle.base.specs.Touch.{Touch}
use Rattle.base.specs.declared.ending.Cause.{Cause}
use Rattle.base.specs.declared.ending.Cause.TheVariants.{Illegal, Breakpoint}
use Rattle.base.specs.declared.ending.Cause.TheVariants.{FetchMisaligned, FetchOutside}
use Rattle.base.specs.declared.ending.Cause.TheVariants.{LoadMisaligned, LoadOutside}
use Rattle.base.specs.declared.ending.Cause.TheVariants.{StoreMisaligned, StoreOutside}
use Rattle.base.specs.declared.ending.Outcome.{Outcome}
use Rattle.base.specs.declared.ending.Outcome.TheVariants.{Exit, Budget, Deadlock, Trap}
use Rattle.base.specs.declared.ending.Outcome.TheVariants.{Part}
use Rattle.trace_format.specs.declared.record.TraceEnd.{TraceEnd}
use Rattle.trace_format.specs.declared.before.Before.{Before}
use Rattle.trace_format.specs.declared.record.Version.{Version}
use Rattle.trace_format.specs.declared.record.Version.TheVariants.{One, Two, Three, Four}
use Rattle.trace_format.specs.declared.record.Header.{Header}
use Rattle.trace_format.specs.declared.record.TraceRecord.{TraceRecord}
use Rattle.trace_format.specs.declared.record.TraceRecord.TheVariants as records
use Rattle.trace_format.specs.declared.tag.Tag.TheVariants as tags
use Rattle.trace_format.specs.Tags.{number_of}
use Rattle.trace_format.specs.Numbers.{distance, groups}

abbrev pub magic_of : Version → List ℕ
magic_of One = codes "PRDTRC01"
magic_of Two = codes "PRDTRC02"
magic_of Three = codes "PRDTRC03"
magic_of Four = codes "PRDTRC04"

-- 20 bytes: the magic, the first position, how many harts there are, and the size of the regions,
-- which is zero but in version 4
unfoldable pub spell_header : Version → Header → List ℕ
spell_header v h = magic_of v ++ (to_le_bytes w64
    h.first ++ (to_le_bytes w16 h.harts ++ to_le_bytes w16 h.near))

-- ---- accesses

unfoldable pub no_pcs : List ℕ
no_pcs = replicate 256 0

-- What the first access is spelled against. `last` is the address of the access before, and `pcs`
-- has the pc of each hart's access before.
abbrev pub nothing_before : Before
nothing_before = record { last = 0; pcs = no_pcs }

abbrev pub pc_before : Before → ℕ → ℕ
pc_before before hart = slice_index before.pcs hart

-- a pc that is missing is spelled as 0
abbrev pub pc_or_zero : Option ℕ → ℕ
pc_or_zero None = 0
pc_or_zero (Some pc) = pc

-- a tag that states the size, the hart in one byte, and the distance from the address of the access
-- before
abbrev pub spell_short_touch : ℕ → Touch → List ℕ
spell_short_touch last a = number_of (tags.ShortTouch a.kind a.size) ∷ a.hart ∷ groups
    (distance last a.addr)

-- a short touch, and behind it the distance of the pc from that of the hart's access before
abbrev pub spell_sited_touch : Before → Touch → Option ℕ → List ℕ
spell_sited_touch before a pc = spell_short_touch before.last a
    ++ groups (distance (pc_before before a.hart) (pc_or_zero pc))

-- Version 1: 8 bytes, a tag, then hart, address and size. Version 2: a short touch. Versions 3 and
-- 4: a short touch and its pc.
unfoldable pub spell_touch : Version → Before → Touch → Option ℕ → List ℕ
spell_touch One before a pc = number_of (tags.Touch a.kind)
    ∷ (to_le_bytes w16 a.hart ++ (to_le_bytes w32 a.addr ++ a.size ∷ []))
spell_touch Two before a pc = spell_short_touch before.last a
spell_touch Three before a pc = spell_sited_touch before a pc
spell_touch Four before a pc = spell_sited_touch before a pc

-- ---- other records

-- 25 bytes: a tag, address, size and four call sites
unfoldable pub spell_alloc : ℕ → ℕ → List ℕ → List ℕ
spell_alloc addr size sites = number_of tags.Alloc
    ∷ (to_le_bytes w32 addr ++ (to_le_bytes w32 size ++ flat_map (to_le_bytes w32) sites))

-- 5 bytes: a tag and the address
unfoldable pub spell_free : ℕ → List ℕ
spell_free addr = number_of tags.Free ∷ to_le_bytes w32 addr

abbrev pub kind_number : SymbolKind → ℕ
kind_number Object = 1
kind_number Function = 2

-- 12 bytes and the name: a tag, kind, address, size, and the name's length
unfoldable pub spell_symbol : SymbolKind → ℕ → ℕ → List ℕ → List ℕ
spell_symbol kind addr size name =
    number_of tags.Symbol ∷ kind_number kind ∷ (to_le_bytes w32
    addr ++ (to_le_bytes w32 size ++ (to_le_bytes w16 (length name) ++ name)))

abbrev pub cause_number : Cause → ℕ
cause_number Illegal = 1
cause_number Breakpoint = 2
cause_number FetchMisaligned = 3
cause_number FetchOutside = 4
cause_number LoadMisaligned = 5
cause_number LoadOutside = 6
cause_number StoreMisaligned = 7
cause_number StoreOutside = 8

-- 8 bytes: which outcome, then cause, hart and value, each 0 where the outcome has none
abbrev pub outcome_fields : ℕ → ℕ → ℕ → ℕ → List ℕ
outcome_fields which cause hart value = which ∷ cause
    ∷ (to_le_bytes w16 hart ++ to_le_bytes w32 value)

abbrev pub spell_outcome : Outcome → List ℕ
spell_outcome (Exit code) = outcome_fields 0 0 0 code
spell_outcome Budget = outcome_fields 1 0 0 0
spell_outcome Deadlock = outcome_fields 2 0 0 0
spell_outcome (Trap hart pc cause) = outcome_fields 3 (cause_number cause) hart pc
spell_outcome Part = outcome_fields 4 0 0 0

-- Where an end doesn't say how many accesses there were before the list was filtered, none was left
-- out.
abbrev pub whole_or : ℕ → Option ℕ → ℕ
whole_or accesses None = accesses
whole_or accesses (Some whole) = whole

-- only version 4 says it
abbrev pub spell_whole : Version → TraceEnd → List ℕ
spell_whole Four e = to_le_bytes w64 (whole_or e.accesses e.whole)
spell_whole _ e = []

-- 25 bytes: the tag, the outcome, then how many steps and accesses there were
abbrev pub spell_run_end : TraceEnd → List ℕ
spell_run_end e = number_of tags.End ∷ (spell_outcome
    e.outcome ++ (to_le_bytes w64 e.steps ++ to_le_bytes w64 e.accesses))

-- and in version 4 there are 8 more
unfoldable pub spell_ending : Version → TraceEnd → List ℕ
spell_ending v e = spell_run_end e ++ spell_whole v e

-- ---- the whole

-- a record behind others
abbrev pub spell_record : Version → Before → TraceRecord → List ℕ
spell_record v before (records.Touch a pc) = spell_touch v before a pc
spell_record v before (records.Alloc addr size sites) = spell_alloc addr size sites
spell_record v before (records.Free addr) = spell_free addr
spell_record v before (records.Symbol kind addr size name) = spell_symbol kind addr size name
spell_record v before (records.End e) = spell_ending v e

-- what the next access is spelled against
abbrev pub before_after : Before → TraceRecord → Before
before_after before (records.Touch a pc) = record {
  last = a.addr;
  pcs = slice_set before.pcs a.hart (pc_or_zero pc);
}
before_after before _ = before

abbrev pub spell_records : Version → Before → List TraceRecord → List ℕ
spell_records v before [] = []
spell_records v before (item ∷ items) = spell_record v before item ++ spell_records v
    (before_after before item) items

unfoldable pub spell : Version → Header → List TraceRecord → TraceEnd → List ℕ
spell v header items ending = spell_header v header
    ++ (spell_records v nothing_before items ++ spell_ending v ending)
