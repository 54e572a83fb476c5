-- First faults of tables.
use Rattle.std.proofs.Common.{◌≡◌, ℕ, ◌≤◌, List, [], ◌∷◌, ◌++◌, Bool, true, false, ◌||◌, cond}
use Rattle.std.proofs.Common.{nat_lt, Option, Some, None, length, refl, ap}
use Rattle.std.proofs.Common.{sym, ◌∙◌, arith}
use Rattle.std.proofs.lemmas.List.Folds.{find-append}
use Rattle.std.proofs.lemmas.Bool.{or_parts}
use Rattle.std.proofs.lemmas.Bool.Decides.{nat_tests}
use Rattle.std.specs.List.{find, list_any}
use Rattle.std.specs.Option.{option_map, option_or}
use Rattle.program_files.specs.declared.fault.ElfFault.{ElfFault}
use Rattle.program_files.specs.Fields.{program_count, program_offset, section_count, section_offset}
use Rattle.program_files.specs.Programs.{program_headers, is_outside, segments_of}
use Rattle.program_files.specs.PlacedSegments.{AreApart}
use Rattle.program_files.proofs.SegmentsApart.{are_apart}
use Rattle.program_files.specs.Faults.{Faults, first_fault, header_faults, table_faults}
use Rattle.program_files.specs.Faults.{segment_faults, read_fault, is_table_outside}

map-or : {A B : Type 0} (f : A → B) (o p : Option A) → option_map f (option_or o p)
    ≡ option_or (option_map f o) (option_map f p)
map-or f None p = refl
map-or f (Some x) p = refl

-- the first fault of two tables
first_fault-append : (a b : Faults) (file : List ℕ) → first_fault (a ++ b) file
    ≡ option_or (first_fault a file) (first_fault b file)
first_fault-append a b file =
    ap (option_map (λ row. row.0)) (find-append (λ row. row.1 file) a b)
    ∙ map-or (λ row. row.0) (find (λ row. row.1 file) a) (find (λ row. row.1 file) b)

none_first : (b : Bool) (x : ElfFault × (List ℕ → Bool)) (o : Option (ElfFault × (List ℕ → Bool)))
    → option_map (λ row. row.0) (cond b (Some x) o) ≡ None → (b ≡ false)
    × (option_map (λ row. row.0) o ≡ None)
none_first true x o h = absurd (cc)
none_first false x o h = (refl, h)

-- a file with no first fault has no fault of the table
abbrev pub HasNone : Faults → List ℕ → Type 0
HasNone [] file = Unit {0}
HasNone (row ∷ rest) file = (row.1 file ≡ false) × HasNone rest file

pub no_fault : (table : Faults) (file : List ℕ) → first_fault table file ≡ None → HasNone table file
no_fault [] file h = tt
no_fault (row ∷ rest) file h =
    let parts = none_first (row.1 file) row (find (λ r. r.1 file) rest) h in
    (parts.0, no_fault rest file parts.1)

-- a file whose header has no fault is long enough for it
pub long_enough : (file : List ℕ) → first_fault header_faults file ≡ None → 52 ≤ length file
long_enough file h =
    let all = no_fault header_faults file h in
    let test : nat_lt (length file) 52 ≡ false = all.0 in
    grind (arith, nat_tests)

outside : (file : List ℕ) → (is_table_outside 32 (program_count file) (program_offset file) file
    || is_table_outside 40 (section_count file) (section_offset file) file) ≡ false
    → (is_table_outside 32 (program_count file) (program_offset file) file ≡ false)
    × (is_table_outside 40 (section_count file) (section_offset file) file ≡ false)
outside file h = or_parts _ _ h

-- and its tables lie in the file
pub programs_inside : (file : List ℕ) → first_fault table_faults file ≡ None
    → is_table_outside 32 (program_count file) (program_offset file) file ≡ false
programs_inside file h =
    let all = no_fault table_faults file h in
    (outside file all.1.0).0

pub sections_inside : (file : List ℕ) → first_fault table_faults file ≡ None
    → is_table_outside 40 (section_count file) (section_offset file) file ≡ false
sections_inside file h =
    let all = no_fault table_faults file h in
    (outside file all.1.0).1

-- no segment has bytes outside the file
pub segments_inside : (file : List ℕ) → first_fault segment_faults file ≡ None
    → list_any (is_outside file) (program_headers file) ≡ false
segments_inside file h =
    let all = no_fault segment_faults file h in
    all.1.0

-- the first fault of the three tables one after another
read_fault-is : (file : List ℕ) → read_fault file
    ≡ option_or (option_or (first_fault header_faults file) (first_fault table_faults file))
    (first_fault segment_faults file)
read_fault-is file =
    first_fault-append (header_faults ++ table_faults) segment_faults file
    ∙ ap (λ o. option_or o (first_fault segment_faults file))
    (first_fault-append header_faults table_faults file)

pub first_of_header : (file : List ℕ) (fault : ElfFault) → Some fault
    ≡ first_fault header_faults file → Some fault ≡ read_fault file
first_of_header file fault h = sym (rw (read_fault-is file, ← h) refl)

pub first_of_tables : (file : List ℕ) (fault : ElfFault) → None ≡ first_fault header_faults file
    → Some fault ≡ first_fault table_faults file → Some fault ≡ read_fault file
first_of_tables file fault none h = sym (rw (read_fault-is file, ← none, ← h) refl)

pub first_of_segments : (file : List ℕ) (r : Option ElfFault) → None
    ≡ first_fault header_faults file → None ≡ first_fault table_faults file
    → r ≡ first_fault segment_faults file → r ≡ read_fault file
first_of_segments file r none neither h = sym (rw (read_fault-is file, ← none, ← neither, ← h) refl)

-- what the reading of a file cites
pub ruleset firsts = (
  long_enough,
  programs_inside,
  first_of_header,
  first_of_tables,
  first_of_segments,
)

none_of_parts : (o p q : Option ElfFault) → option_or (option_or o p) q ≡ None → (o ≡ None)
    × (p ≡ None) × (q ≡ None)
none_of_parts None None None h = (refl, refl, refl)
none_of_parts None None (Some x) h = absurd (cc)
none_of_parts None (Some x) q h = absurd (cc)
none_of_parts (Some x) p q h = absurd (cc)

none_of_tables : (file : List ℕ) → read_fault file ≡ None → (first_fault header_faults file ≡ None)
    × (first_fault table_faults file ≡ None)
    × (first_fault segment_faults file ≡ None)
none_of_tables file h =
    none_of_parts (first_fault header_faults file) (first_fault table_faults file)
    (first_fault segment_faults file)
    (sym (read_fault-is file) ∙ h)

-- what a file that was read promises
pub view_long : (file : List ℕ) → read_fault file ≡ None → 52 ≤ length file
view_long file h = long_enough file (none_of_tables file h).0

pub view_programs : (file : List ℕ) → read_fault file ≡ None
    → is_table_outside 32 (program_count file) (program_offset file) file ≡ false
view_programs file h = programs_inside file (none_of_tables file h).1

pub view_sections : (file : List ℕ) → read_fault file ≡ None
    → is_table_outside 40 (section_count file) (section_offset file) file ≡ false
view_sections file h = sections_inside file (none_of_tables file h).1

pub view_segments : (file : List ℕ) → read_fault file ≡ None → list_any (is_outside file)
    (program_headers file) ≡ false
view_segments file h = segments_inside file (none_of_tables file h).2

pub view_apart : (file : List ℕ) → read_fault file ≡ None → AreApart (segments_of file)
view_apart file h =
    let all = no_fault segment_faults file (none_of_tables file h).2 in
    are_apart file (program_headers file) all.1.1.0 all.1.1.1.0

pub ruleset views = (view_long, view_programs, view_sections, view_segments, view_apart)
