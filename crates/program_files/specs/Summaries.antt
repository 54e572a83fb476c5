-- The text that describes a program. Every line ends with a line feed.
use Rattle.std.specs.Prelude.{ℕ, pos, ◌-◌, ◌*◌, ◌/◌, ◌%◌, ◌==◌, Bool, if◌then◌else◌, List, [], ◌∷◌}
use Rattle.std.specs.Prelude.{◌++◌, codes}
use Rattle.std.specs.Fmt.{decimal}
use Rattle.std.specs.List.{flat_map}
use Rattle.base.specs.Addresses.{address_text}
use Rattle.objects.specs.declared.symbol.SymbolKind.TheVariants.{Object, Function}
use Rattle.objects.specs.Symbols.{Symbol}
use Rattle.program_files.specs.declared.image.Space.{Space}
use Rattle.program_files.specs.Fields.{entry_of}
use Rattle.program_files.specs.Programs.{Loaded, segments_of}
use Rattle.program_files.specs.Images.{may_run, may_write, heap_start_of, top_of}
use Rattle.program_files.specs.Symbols.{symbols_of}
use Rattle.program_files.specs.NotedSymbols.{count_of, noted}

abbrev pub line : List ℕ → List ℕ
line text = text ++ 10 ∷ []

abbrev pub address : ℕ → List ℕ
address a = address_text (pos a)

-- PF_R
abbrev pub may_read : Loaded → Bool
may_read s = s.flags / 4 % 2 == 1

-- the letter of a right, or `-` where it isn't given
abbrev pub right_text : Bool → List ℕ → List ℕ
right_text given letter = if given then letter else codes "-"

abbrev pub rights_text : Loaded → List ℕ
rights_text s = right_text (may_read s) (codes "r") ++ right_text (may_write s) (codes "w")
    ++ right_text (may_run s) (codes "x")

-- a segment: where it begins, how many bytes it has in memory, and its rights
abbrev pub segment_text : Loaded → List ℕ
segment_text s =
    line (codes "segment " ++ address s.addr ++ codes " " ++ decimal s.size ++ codes " "
    ++ rights_text s)

-- how many things of a name there are
abbrev pub count_text : List ℕ → ℕ → List ℕ
count_text name n = line (name ++ decimal n)

-- a range of a name: its first address, and its end
abbrev pub range_text : List ℕ → ℕ → ℕ → List ℕ
range_text name first end = line (name ++ address first ++ codes " " ++ address end)

-- the summary of a program file whose heap and stacks lie so, and of a table of its symbols
abbrev pub summary_text : List ℕ → ℕ → ℕ → ℕ → List Symbol → List ℕ
summary_text file heap_start heap_end top symbols =
    line (codes "entry " ++ address (entry_of file))
    ++ flat_map segment_text (segments_of file)
    ++ count_text (codes "objects ") (count_of Object symbols)
    ++ count_text (codes "functions ") (count_of Function symbols)
    ++ range_text (codes "heap ") heap_start heap_end
    ++ range_text (codes "stacks ") heap_end top
    ++ line (codes "end")

-- where the stacks begin in the memory of a program file in a space: they end at the top
abbrev pub stacks_of : Space → List ℕ → ℕ
stacks_of space file = top_of space.memory (segments_of file) - space.harts * space.stack

-- the summary of a program file that is placed in a space
abbrev pub placed_text : Space → List ℕ → List ℕ
placed_text space file =
    summary_text file (heap_start_of (segments_of file)) (stacks_of space file)
    (top_of space.memory (segments_of file)) (noted (symbols_of file))
