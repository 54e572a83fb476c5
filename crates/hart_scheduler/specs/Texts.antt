-- What the text of a schedule says: on each line a hart, one space, and how often it runs.
use Rattle.std.specs.Prelude.{ℕ, ◌^◌, Bool, nat_eq, nat_lt, nat_le, if◌then◌else◌, List, [], ◌∷◌}
use Rattle.std.specs.Prelude.{length, replicate, Option, Some, None, option_and_then, Result, Ok}
use Rattle.std.specs.Prelude.{Err}
use Rattle.std.specs.Option.{option_map, option_map_or}
use Rattle.std.specs.List.{filter_map, flat_map, before_first, after_first, slice_split}
use Rattle.std.specs.List.{enumerate_from}
use Rattle.hart_scheduler.specs.ScheduleParts.{ListEntry}
use Rattle.hart_scheduler.specs.declared.fault.ScheduleFault.{ScheduleFault}
use Rattle.hart_scheduler.specs.declared.fault.ScheduleFault.TheVariants.{BadLine, HartOutOfRange}
use Rattle.hart_scheduler.specs.declared.fault.ScheduleFault.TheVariants.{ZeroCount, TooLong}
use Rattle.hart_scheduler.specs.declared.fault.ScheduleFault.TheVariants.{NoMemory}
use Rattle.hart_scheduler.specs.Choices.{Plan}
use Rattle.hart_scheduler.specs.Numbers.{number_of}

-- how many bytes a schedule may have
abbrev pub longest_content : ℕ
longest_content = 2 ^ 20

abbrev pub is_byte : ℕ → ℕ → Bool
is_byte code byte = nat_eq byte code

abbrev pub line_feed : ℕ
line_feed = 10

abbrev pub space : ℕ
space = 32

-- the lines of a text, the empty ones too
abbrev pub lines_of : List ℕ → List (List ℕ)
lines_of content = slice_split (is_byte line_feed) content

-- the entry of a hart and a count
abbrev pub entry_with : ℕ → ℕ → ListEntry
entry_with hart count = record { hart = hart; count = count }

-- the hart and the count that a line says, None where it has another form
unfoldable pub entry_of : List ℕ → Option ListEntry
entry_of line =
    option_and_then
    (λ hart. option_map (entry_with hart) (number_of (after_first (is_byte space) line)))
    (number_of (before_first (is_byte space) line))

-- the fault of an entry on the line of a number, if it has one
abbrev pub entry_fault : ℕ → ℕ → ListEntry → Option ScheduleFault
entry_fault harts number entry =
    if nat_le harts entry.hart then Some (HartOutOfRange number)
    else (if nat_eq entry.count 0 then Some (ZeroCount number) else None)

-- the fault of a numbered line, if it has one: an empty line has none
abbrev pub line_fault : ℕ → ℕ × List ℕ → Option ScheduleFault
line_fault harts line =
    if nat_eq (length line.1) 0 then None
    else option_map_or (entry_fault harts line.0) (entry_of line.1) (Some (BadLine line.0))

-- the faults of the lines of a text whose first has a number, in the order of the lines
abbrev pub faults_from : ℕ → ℕ → List ℕ → List ScheduleFault
faults_from harts number content = filter_map (line_fault harts)
    (enumerate_from number (lines_of content))

abbrev pub entries_of : List ℕ → List ListEntry
entries_of content = filter_map entry_of (lines_of content)

-- the harts of a list of entries, each as often as it counts
abbrev pub harts_of : List ListEntry → List ℕ
harts_of entries = flat_map (λ entry. replicate entry.count entry.hart) entries

-- the state before the first draw of a seed: a seed of 0 draws nothing
abbrev pub draws_of : ℕ → Option ℕ
draws_of seed = if nat_eq seed 0 then None else Some seed

-- the plan of a list of entries, with no choice made yet
abbrev pub plan_of : ℕ → ℕ → ℕ → List ListEntry → Plan
plan_of harts quantum seed entries = record {
  listed = harts_of entries;
  streak = None;
  harts = harts;
  quantum = quantum;
  draws = draws_of seed;
}

-- the plan unless there is a fault, which is the first
abbrev pub plan_unless : Plan → List ScheduleFault → Result Plan ScheduleFault
plan_unless plan [] = Ok plan
plan_unless plan (fault ∷ faults) = Err fault

-- the plan that the content of a schedule file gives, or its first fault; its lines are numbered
-- from 1
abbrev pub schedule_of : ℕ → ℕ → ℕ → List ℕ → Result Plan ScheduleFault
schedule_of harts quantum seed content =
    if nat_lt longest_content (length content) then Err TooLong
    else plan_unless (plan_of harts quantum seed (entries_of content)) (faults_from harts 1 content)

-- the fact holds unless the fault is want of memory
abbrev pub UnlessMemory : ScheduleFault → Type 0 → Type 0
UnlessMemory NoMemory P = Unit {0}
UnlessMemory TooLong P = P
UnlessMemory (BadLine number) P = P
UnlessMemory (HartOutOfRange number) P = P
UnlessMemory (ZeroCount number) P = P
