-- The made trace of so many accesses: they look random, and are the same at each making.
use Rattle.std.specs.Prelude.{ℕ, zero, suc, ◌+◌, ◌*◌, ◌/◌, ◌%◌, ◌^◌, ◌==◌, List, map, None}
use Rattle.std.specs.Prelude.{if◌then◌else◌}
use Rattle.std.specs.List.{range_with_len}
use Rattle.base.specs.Touch.{Touch}
use Rattle.base.specs.declared.access.Kind.{Kind}
use Rattle.base.specs.declared.access.Kind.TheVariants.{Read, Write}
use Rattle.base.specs.declared.ending.Outcome.TheVariants.{Exit}
use Rattle.shelf.specs.Files.{Output, one_file}
use Rattle.trace_format.specs.declared.record.Header.{Header}
use Rattle.trace_format.specs.declared.record.TraceRecord.{TraceRecord}
use Rattle.trace_format.specs.declared.record.TraceRecord.TheVariants as records
use Rattle.trace_format.specs.declared.record.Version.TheVariants.{One}
use Rattle.trace_passes.specs.Passes.{Trace, spell_trace}

-- ---- the congruence

-- the states of a linear congruence modulo 2^64, from 1 on
abbrev pub state : ℕ → ℕ
state zero = 1
state (suc n) = (state n * 6364136223846793005 + 1442695040888963407) % 2 ^ 64

-- the number that access k is made of: the high half of the state after the one of access k - 1
abbrev pub number : ℕ → ℕ
number k = state (k + 1) / 2 ^ 32

-- ---- an access

-- one of 8 harts
abbrev pub hart_of : ℕ → ℕ
hart_of r = r % 8

-- one of 64 lines of 64 bytes, from 0x10000 on
abbrev pub line_of : ℕ → ℕ
line_of r = 0x10000 + 64 * (r / 8 % 64)

-- the word of the hart in one half of the line, so that each word has one hart
abbrev pub word_in_line : ℕ → ℕ
word_in_line r = hart_of r + 8 * (r / 512 % 2)

-- one of four accesses is a read
abbrev pub kind_of : ℕ → Kind
kind_of r = if r / 1024 % 4 == 0 then Read else Write

-- the access that a number says, which takes a whole word
abbrev pub touch_of : ℕ → Touch
touch_of r = record {
  hart = hart_of r;
  addr = line_of r + 4 * word_in_line r;
  kind = kind_of r;
  size = 4;
}

-- ---- the trace

-- the record of access k
abbrev pub made_item : ℕ → TraceRecord
made_item k = records.Touch (touch_of (number k)) None

-- those of the first so many accesses
abbrev pub made_items : ℕ → List TraceRecord
made_items count = map made_item (range_with_len 0 count)

abbrev pub made_header : Header
made_header = record { first = 0; harts = 8; near = 0 }

-- the trace of so many accesses: each took a step, and the exit is 0
abbrev pub made : ℕ → Trace
made count = record {
  version = One;
  header = made_header;
  items = made_items count;
  ending = record { outcome = Exit 0; steps = count; accesses = count; whole = None };
}

-- ---- its file

-- the file of a name with the made trace of so many accesses
abbrev pub made_file : List ℕ → ℕ → List Output
made_file name count = one_file name (spell_trace (made count))
