-- Reading a text line by line, and a number digit by digit.
use Rattle.std.proofs.Common.{◌≡◌, ℕ, ◌+◌, ◌<◌, ◌≤◌, Bool, true, List, [], ◌∷◌, ◌++◌, length}
use Rattle.std.proofs.Common.{Option, Some, None, refl, sym, ◌∙◌, ap, inl}
use Rattle.std.proofs.Common.{inr, arith, append-nil, append_assoc, length-drop, slice_get}
use Rattle.std.proofs.lemmas.Bool.{cases_lt}
use Rattle.std.proofs.lemmas.Bool.Decides.{nat_tests}
use Rattle.std.specs.Prelude.{nat_eq}
use Rattle.std.specs.Option.{option_and_then, option_map, option_to_list}
use Rattle.std.proofs.lemmas.List.{take_all, drop_all}
use Rattle.std.proofs.lemmas.List.Splits.{slice_split_first, slice_split_none}
use Rattle.std.proofs.lemmas.List.Sums.{fails_before_first}
use Rattle.std.specs.List.{filter_map, cons_option, before_first, after_first, position_or_len}
use Rattle.std.specs.List.{enumerate_from}
use Rattle.hart_scheduler.specs.ScheduleParts.{ListEntry}
use Rattle.hart_scheduler.specs.declared.fault.ScheduleFault.{ScheduleFault}
use Rattle.hart_scheduler.specs.declared.fault.ScheduleFault.TheVariants.{BadLine, HartOutOfRange}
use Rattle.hart_scheduler.specs.declared.fault.ScheduleFault.TheVariants.{ZeroCount, TooLong}
use Rattle.hart_scheduler.specs.declared.fault.ScheduleFault.TheVariants.{NoMemory}
use Rattle.hart_scheduler.specs.Numbers.{number_of}
use Rattle.hart_scheduler.specs.Texts.{is_byte, line_feed, space, entry_with, UnlessMemory}
use Rattle.hart_scheduler.specs.Texts.{lines_of, entry_of, line_fault, faults_from}
use Rattle.hart_scheduler.specs.Texts.{entries_of}

abbrev line_end : ℕ → Bool
line_end = is_byte line_feed

-- where no line feed is left, the text is one line, and nothing stands after it
module _ (text : List ℕ) (none : length text ≤ position_or_len line_end text) where
  whole_before : before_first line_end text ≡ text
  whole_before = take_all (position_or_len line_end text) text none

  nothing_after : after_first line_end text ≡ []
  nothing_after = drop_all (position_or_len line_end text + 1) text (omega arith)

  one_line : lines_of text ≡ text ∷ []
  one_line = slice_split_none line_end text
      (λ k d inside. fails_before_first line_end text k d (omega arith))

no_entry : entry_of [] ≡ None
unfolding entry_of number_of
no_entry = refl

pub faults_more : (harts number : ℕ) (text : List ℕ)
    → faults_from harts number text
    ≡ cons_option (line_fault harts (number, before_first line_end text))
    (faults_from harts (number + 1) (after_first line_end text))
faults_more harts number text =
    elim (cases_lt (position_or_len line_end text) (length text)) [
      | inl some ↦ ap (λ (lines : List (List ℕ)). filter_map (line_fault harts)
          (enumerate_from number lines))
          (slice_split_first line_end text 0 some)
      | inr none ↦
          ap (λ (lines : List (List ℕ)). filter_map (line_fault harts)
          (enumerate_from number lines)) (one_line text none)
          ∙ sym (rw (whole_before text none, nothing_after text none))
    ]

pub entries_more : (text : List ℕ) → entries_of text
    ≡ cons_option (entry_of (before_first line_end text))
    (entries_of (after_first line_end text))
entries_more text =
    elim (cases_lt (position_or_len line_end text) (length text)) [
      | inl some ↦ ap (λ (lines : List (List ℕ)). filter_map entry_of lines)
          (slice_split_first line_end text 0 some)
      | inr none ↦
          ap (λ (lines : List (List ℕ)). filter_map entry_of lines) (one_line text none)
          ∙ sym (rw (whole_before text none, nothing_after text none, no_entry))
    ]

pub entries_none : (text : List ℕ) → nat_eq (length text) 0 ≡ true → entries_of text ≡ []
entries_none [] empty = rw no_entry
entries_none (x ∷ xs) empty = absurd (grind (arith, nat_tests))

-- an empty line has no fault and no entry
pub empty_line : (harts number : ℕ) (line : List ℕ) → nat_eq (length line) 0 ≡ true
    → (line_fault harts (number, line) ≡ None)
    × (None ≡ entry_of line)
empty_line harts number [] empty = (refl, sym no_entry)
empty_line harts number (x ∷ xs) empty = absurd (grind (arith, nat_tests))

-- a line that was read, with what stands after it
pub faults_on : (harts number : ℕ) (text line after : List ℕ) → line ≡ before_first line_end text
    → after ≡ after_first line_end text
    → line_fault harts (number, line) ≡ None → faults_from harts number text
    ≡ faults_from harts (number + 1) after
faults_on harts number text line after is_line is_after good =
    let here : line_fault harts (number, before_first line_end text) ≡ None = rw is_line at good in
    faults_more harts number text
    ∙ ap (λ (o : Option ScheduleFault).
    cons_option o (faults_from harts (number + 1) (after_first line_end text))) here
    ∙ ap (λ (rest : List ℕ). faults_from harts (number + 1) rest) (sym is_after)

pub faults_here : (harts number : ℕ) (text line : List ℕ) (fault : ScheduleFault) → line
    ≡ before_first line_end text
    → line_fault harts (number, line) ≡ Some fault → slice_get (faults_from harts number text) 0
    ≡ Some fault
faults_here harts number text line fault is_line bad =
    let here : line_fault harts (number, before_first line_end text) ≡ Some fault =
    rw is_line at bad in
    ap (λ (faults : List ScheduleFault). slice_get faults 0)
    (faults_more harts number text
    ∙ ap (λ (o : Option ScheduleFault).
    cons_option o (faults_from harts (number + 1) (after_first line_end text))) here)

one_before : (o : Option ListEntry) (front back : List ListEntry) → front ++ cons_option o back
    ≡ (front ++ option_to_list o) ++ back
one_before None front back = ap (λ (xs : List ListEntry). xs ++ back) (sym (append-nil front))
one_before (Some entry) front back = sym (append_assoc front (entry ∷ []) back)

pub entries_on : (text line after : List ℕ) (front : List ListEntry) → line
    ≡ before_first line_end text → after ≡ after_first line_end text
    → front ++ entries_of text ≡ (front ++ option_to_list (entry_of line)) ++ entries_of after
entries_on text line after front is_line is_after =
    rw (is_line, is_after) (ap (λ (xs : List ListEntry). front ++ xs) (entries_more text)
    ∙ one_before (entry_of (before_first line_end text)) front
    (entries_of (after_first line_end text)))

pub shorter_after : (text after : List ℕ) → after ≡ after_first line_end text → 0 < length text
    → length after < length text
shorter_after text after is_after some =
    rw is_after (omega (arith, length-drop (position_or_len line_end text + 1) text))

pub unless_memory : {P Q : Type 0} (fault : ScheduleFault) → (P → Q) → UnlessMemory fault P
    → UnlessMemory fault Q
unless_memory NoMemory f p = tt
unless_memory TooLong f p = f p
unless_memory (BadLine number) f p = f p
unless_memory (HartOutOfRange number) f p = f p
unless_memory (ZeroCount number) f p = f p

-- the hart and the count of a line, from what its two parts write
pub entry_parts : (line : List ℕ) (hart count : Option ℕ)
    → number_of (before_first (is_byte space) line) ≡ hart
    → number_of (after_first (is_byte space) line) ≡ count
    → entry_of line ≡ option_and_then (λ h. option_map (entry_with h) count) hart
unfolding entry_of
entry_parts line hart count is_hart is_count =
    ap (λ (o : Option ℕ). option_and_then
    (λ h. option_map (entry_with h) (number_of (after_first (is_byte space) line))) o) is_hart
    ∙ ap (λ (o : Option ℕ). option_and_then (λ h. option_map (entry_with h) o) hart) is_count
