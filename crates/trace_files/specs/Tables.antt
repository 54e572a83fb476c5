-- What the text of a table says: on each line a range of memory, and the place that its bytes go to.
use Rattle.std.specs.Prelude.{◌≡◌, ℕ, ◌+◌, ◌-◌, ◌%◌, ◌^◌, ◌≤◌, Bool, true, false, not, ◌&&◌, nat_eq}
use Rattle.std.specs.Prelude.{nat_le, nat_lt}
use Rattle.std.specs.Prelude.{if◌then◌else◌, List, [], ◌∷◌, length, take, Option, Some, None}
use Rattle.std.specs.Prelude.{Result, Ok, Err}
use Rattle.std.specs.Option.{option_and_then, option_map_or}
use Rattle.std.specs.List.{All, AllPairs, after_first, before_first, enumerate_from, filter_map, list_all}
use Rattle.std.specs.List.{slice_split}
use Rattle.trace_files.specs.declared.table_fault.TableFault.{TableFault}
use Rattle.trace_files.specs.declared.table_fault.TableFault.TheVariants.{TooLong, BadLine, Overlap}
use Rattle.trace_files.specs.declared.table_fault.TableFault.TheVariants.{NoMemory}
use Rattle.trace_files.specs.declared.move_row.Move.{Move}
use Rattle.trace_files.specs.Numerals.{number_of}

-- ---- a line

abbrev pub is_byte : ℕ → ℕ → Bool
is_byte code byte = nat_eq byte code

abbrev pub line_feed : ℕ
line_feed = 10

abbrev pub space : ℕ
space = 32

-- the lines of a text, the empty ones too
abbrev pub lines_of : List ℕ → List (List ℕ)
lines_of text = slice_split (is_byte line_feed) text

abbrev pub move_with : Option ℕ → Option ℕ → Option ℕ → Option Move
move_with (Some from) (Some size) (Some to) = Some (record { from = from; size = size; to = to })
move_with _ _ _ = None

-- what stands before the first space, and behind it
abbrev pub word_before : List ℕ → List ℕ
word_before text = before_first (is_byte space) text

abbrev pub behind_word : List ℕ → List ℕ
behind_word text = after_first (is_byte space) text

-- the range and the place that a line says, None where it has another form
unfoldable pub move_of : List ℕ → Option Move
move_of line =
    move_with (number_of (word_before line)) (number_of (word_before (behind_word line)))
    (number_of (behind_word (behind_word line)))

-- those of some lines, in order
abbrev pub moves_of : List (List ℕ) → List Move
moves_of lines = filter_map move_of lines

-- ---- its rules

abbrev pub is_of_words : ℕ → Bool
is_of_words n = nat_eq (n % 4) 0

-- all three are multiples of 4, there are bytes, and both range and place lie below 2^32
abbrev pub keeps_rules : Move → Bool
keeps_rules m = is_of_words m.from && (is_of_words m.size && (is_of_words m.to &&
    (nat_le 4 m.size && (nat_le (m.from + m.size) (2 ^ 32) && nat_le (m.to + m.size) (2 ^ 32)))))

-- the move that a line says, where it keeps them
abbrev pub kept_move_of : List ℕ → Option Move
kept_move_of line = option_and_then (λ m. if keeps_rules m then Some m else None) (move_of line)

-- the range begins at or above the end of each earlier one
abbrev pub is_behind : List Move → Move → Bool
is_behind earlier m = list_all (λ e. nat_le (e.from + e.size) m.from) earlier

-- two places have a byte in common
abbrev pub meets : Move → Move → Bool
meets a b = nat_lt a.to (b.to + b.size) && nat_lt b.to (a.to + a.size)

-- the place meets that of no earlier line
abbrev pub is_apart : List Move → Move → Bool
is_apart earlier m = list_all (λ e. not (meets e m)) earlier

-- ---- the whole text

-- the fault of the move on the line of a number, behind those of the lines before it
abbrev pub move_fault : List Move → ℕ → Move → Option TableFault
move_fault earlier number m =
    if keeps_rules m && is_behind earlier m
    then (if is_apart earlier m then None else Some (Overlap number))
    else Some (BadLine number)

-- the fault of a line so, if it has one: an empty line has none
abbrev pub line_fault : List Move → ℕ → List ℕ → Option TableFault
line_fault earlier number line =
    if nat_eq (length line) 0 then None
    else option_map_or (move_fault earlier number) (move_of line) (Some (BadLine number))

-- the fault of a numbered line behind the lines before it; the first line has the number 1
abbrev pub fault_among : List (List ℕ) → ℕ × List ℕ → Option TableFault
fault_among lines line = line_fault (moves_of (take (line.0 - 1) lines)) line.0 line.1

-- the faults of all lines, in their order
abbrev pub faults_of : List (List ℕ) → List TableFault
faults_of lines = filter_map (fault_among lines) (enumerate_from 1 lines)

-- how many bytes a table may have
abbrev pub longest_table : ℕ
longest_table = 2 ^ 20

abbrev pub table_unless : List Move → List TableFault → Result (List Move) TableFault
table_unless moves [] = Ok moves
table_unless moves (fault ∷ faults) = Err fault

-- the table that a text is, or its first fault
abbrev pub table_of : List ℕ → Result (List Move) TableFault
table_of text =
    if nat_lt longest_table (length text) then Err TooLong
    else table_unless (moves_of (lines_of text)) (faults_of (lines_of text))

-- the fact holds unless the fault is want of memory
abbrev pub UnlessMemory : TableFault → Type 0 → Type 0
UnlessMemory NoMemory P = Unit {0}
UnlessMemory TooLong P = P
UnlessMemory (BadLine number) P = P
UnlessMemory (Overlap number) P = P

-- ---- what is true of each table

-- a later range begins at or above the end of an earlier one, and their places are apart
pub record AreInOrder (a b : Move) : Type 0 where
  pub rising : a.from + a.size ≤ b.from
  pub apart : meets a b ≡ false

-- each move keeps its own rules, and each two are in order
pub record IsTable (table : List Move) : Type 0 where
  pub rules : All (λ m. keeps_rules m ≡ true) table
  pub order : AllPairs AreInOrder table
