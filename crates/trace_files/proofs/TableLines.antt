-- A table that is read line by line.
use Rattle.std.proofs.Common.{◌≡◌, ℕ, zero, suc, ◌+◌, ◌-◌, ◌<◌, ◌≤◌, Bool, true, false, List, [], ◌∷◌}
use Rattle.std.proofs.Common.{◌++◌, length, take, drop, Option, Some, None, refl, sym, ap, ◌∙◌, subst}
use Rattle.std.proofs.Common.{inl, inr, arith, append-nil, append_assoc, length-drop, slice_get}
use Rattle.std.specs.Prelude.{nat_eq, if◌then◌else◌}
use Rattle.std.specs.Option.{option_and_then, option_to_list}
use Rattle.std.specs.List.{after_first, before_first, cons_option, enumerate_from, filter_map}
use Rattle.std.specs.List.{position_or_len}
use Rattle.std.proofs.lemmas.Bool.{cases_lt}
use Rattle.std.proofs.lemmas.Bool.Decides.{nat_tests}
use Rattle.std.proofs.lemmas.List.{drop_all, take_all}
use Rattle.std.proofs.lemmas.List.Splits.{slice_split_first, slice_split_none}
use Rattle.std.proofs.lemmas.List.Sums.{fails_before_first}
use Rattle.trace_files.specs.declared.move_row.Move.{Move}
use Rattle.trace_files.specs.declared.table_fault.TableFault.{TableFault}
use Rattle.trace_files.specs.declared.table_fault.TableFault.TheVariants.{TooLong, BadLine, Overlap}
use Rattle.trace_files.specs.declared.table_fault.TableFault.TheVariants.{NoMemory}
use Rattle.trace_files.specs.Numerals.{decimal_of, hexadecimal_of, number_of}
use Rattle.trace_files.specs.Tables.{UnlessMemory, fault_among, faults_of, is_byte, keeps_rules}
use Rattle.trace_files.specs.Tables.{kept_move_of, line_fault, line_feed, lines_of, move_of, moves_of}

-- ---- one line

pub no_move : move_of [] ≡ None
unfolding move_of number_of decimal_of hexadecimal_of
no_move = refl

pub empty_adds : (rows : List Move) (line : List ℕ) → nat_eq (length line) 0 ≡ true
    → rows ≡ rows ++ option_to_list (move_of line)
empty_adds rows [] empty =
    sym (append-nil rows) ∙ ap (λ (o : Option Move). rows ++ option_to_list o) (sym no_move)
empty_adds rows (x ∷ xs) empty = absurd (grind (arith, nat_tests))

if_kept : (m row : Move) (b : Bool) → keeps_rules m ≡ b
    → Some row ≡ (if b then Some m else None) → keeps_rules row ≡ true
if_kept m row true is some = let same : row ≡ m = cc in ap keeps_rules same ∙ is
if_kept m row false is some = absurd cc

rules_in : (o : Option Move) (row : Move)
    → Some row ≡ option_and_then (λ m. if keeps_rules m then Some m else None) o
    → keeps_rules row ≡ true
rules_in None row some = absurd cc
rules_in (Some m) row some = if_kept m row (keeps_rules m) refl some

-- a row that a line says keeps the rules
pub row_rules : (line : List ℕ) (row : Move) → Some row ≡ kept_move_of line
    → keeps_rules row ≡ true
row_rules line row some = rules_in (move_of line) row some

-- ---- the lines that are left

abbrev line_end : ℕ → Bool
line_end = is_byte line_feed

-- where no line feed is left, the text is one line, and nothing stands after it
module _ (text : List ℕ) (none : length text ≤ position_or_len line_end text) where
  whole_before : before_first line_end text ≡ text
  whole_before = take_all (position_or_len line_end text) text none

  nothing_after : after_first line_end text ≡ []
  nothing_after = drop_all (position_or_len line_end text + 1) text (omega arith)

  one_line : lines_of text ≡ text ∷ []
  one_line = slice_split_none line_end text
      (λ k d inside. fails_before_first line_end text k d (omega arith))

faults_more : (lines : List (List ℕ)) (number : ℕ) (text : List ℕ)
    → filter_map (fault_among lines) (enumerate_from number (lines_of text))
    ≡ cons_option (fault_among lines (number, before_first line_end text))
    (filter_map (fault_among lines)
    (enumerate_from (number + 1) (lines_of (after_first line_end text))))
faults_more lines number text =
    elim (cases_lt (position_or_len line_end text) (length text)) [
      | inl some ↦ ap (λ (ls : List (List ℕ)). filter_map (fault_among lines)
          (enumerate_from number ls))
          (slice_split_first line_end text 0 some)
      | inr none ↦
          ap (λ (ls : List (List ℕ)). filter_map (fault_among lines)
          (enumerate_from number ls)) (one_line text none)
          ∙ sym (rw (whole_before text none, nothing_after text none))
    ]

moves_more : (text : List ℕ) → moves_of (lines_of text)
    ≡ cons_option (move_of (before_first line_end text))
    (moves_of (lines_of (after_first line_end text)))
moves_more text =
    elim (cases_lt (position_or_len line_end text) (length text)) [
      | inl some ↦ ap moves_of (slice_split_first line_end text 0 some)
      | inr none ↦
          ap moves_of (one_line text none)
          ∙ sym (rw (whole_before text none, nothing_after text none, no_move))
    ]

one_before : (o : Option Move) (front back : List Move) → front ++ cons_option o back
    ≡ (front ++ option_to_list o) ++ back
one_before None front back = ap (λ (xs : List Move). xs ++ back) (sym (append-nil front))
one_before (Some entry) front back = sym (append_assoc front (entry ∷ []) back)

pub shorter_after : (text after : List ℕ) → after ≡ after_first line_end text → 0 < length text
    → length after < length text
shorter_after text after is_after some =
    rw is_after (omega (arith, length-drop (position_or_len line_end text + 1) text))

-- ---- the lines that were read

-- a list behind its first elements, by what stands there
take_next : {X : Type 0} (k : ℕ) (xs ys : List X) (x : X) → drop k xs ≡ x ∷ ys
    → take (suc k) xs ≡ take k xs ++ x ∷ []
take_next zero [] ys x is = absurd cc
take_next zero (z ∷ zs) ys x is = let same : z ≡ x = cc in ap (λ v. v ∷ []) same
take_next (suc k) [] ys x is = absurd cc
take_next {X} (suc k) (z ∷ zs) ys x is = ap (λ (l : List X). z ∷ l) (take_next k zs ys x is)

drop_next : {X : Type 0} (k : ℕ) (xs ys : List X) (x : X) → drop k xs ≡ x ∷ ys
    → drop (suc k) xs ≡ ys
drop_next zero [] ys x is = absurd cc
drop_next zero (z ∷ zs) ys x is = cc
drop_next (suc k) [] ys x is = absurd cc
drop_next (suc k) (z ∷ zs) ys x is = drop_next k zs ys x is

cons_none : (o : Option Move) → cons_option o [] ≡ option_to_list o
cons_none None = refl
cons_none (Some m) = refl

cons_behind : (o : Option Move) (xs ys : List Move)
    → cons_option o (xs ++ ys) ≡ cons_option o xs ++ ys
cons_behind None xs ys = refl
cons_behind (Some m) xs ys = refl

moves_push : (lines : List (List ℕ)) (line : List ℕ)
    → moves_of (lines ++ line ∷ []) ≡ moves_of lines ++ option_to_list (move_of line)
moves_push [] line = cons_none (move_of line)
moves_push (l ∷ lines) line =
    ap (cons_option (move_of l)) (moves_push lines line)
    ∙ cons_behind (move_of l) (moves_of lines) (option_to_list (move_of line))

-- Some lines are read: no fault stands among them, and they say these rows.
pub record IsRead (text : List ℕ) (number : ℕ) (rest : List ℕ) (rows : List Move) : Type 0 where
  pub faults : faults_of (lines_of text)
      ≡ filter_map (fault_among (lines_of text)) (enumerate_from number (lines_of rest))
  pub moves : moves_of (lines_of text) ≡ rows ++ moves_of (lines_of rest)
  pub left : 0 < length rest → drop (number - 1) (lines_of text) ≡ lines_of rest
  pub before : moves_of (take (number - 1) (lines_of text)) ≡ rows
  pub some : 1 ≤ number
  pub room : number + length rest ≤ 1 + length text

pub read_none : (text : List ℕ) → IsRead text 1 text []
read_none text = record {
  faults = refl;
  moves = refl;
  left = λ some. refl;
  before = refl;
  some = omega arith;
  room = omega arith;
}

module _ (text : List ℕ) (number : ℕ) (rest : List ℕ) (rows : List Move)
    (read : IsRead text number rest rows) (line after : List ℕ)
    (is_line : line ≡ before_first line_end rest) (is_after : after ≡ after_first line_end rest)
  where
    abbrev pub lines : List (List ℕ)
    lines = lines_of text

    -- its fault is that behind the rows so far
    fault_here : fault_among lines (number, before_first line_end rest)
        ≡ line_fault rows number line
    fault_here = λ i. line_fault (read.before i) number (sym is_line i)

    pub first_fault : (fault : TableFault) → line_fault rows number line ≡ Some fault
        → slice_get (faults_of lines) 0 ≡ Some fault
    first_fault fault bad =
        ap (λ (faults : List TableFault). slice_get faults 0)
        (read.faults ∙ faults_more lines number rest
        ∙ ap (λ (o : Option TableFault). cons_option o
        (filter_map (fault_among lines)
        (enumerate_from (number + 1) (lines_of (after_first line_end rest))))) (fault_here ∙ bad))

    module _ (some : 0 < length rest) (good : line_fault rows number line ≡ None)
        (now : List Move) (added : now ≡ rows ++ option_to_list (move_of line))
      where
        faults_on : faults_of lines
            ≡ filter_map (fault_among lines) (enumerate_from (number + 1) (lines_of after))
        faults_on =
            read.faults ∙ faults_more lines number rest
            ∙ ap (λ (o : Option TableFault). cons_option o
            (filter_map (fault_among lines)
            (enumerate_from (number + 1) (lines_of (after_first line_end rest)))))
            (fault_here ∙ good)
            ∙ ap (λ (l : List ℕ). filter_map (fault_among lines)
            (enumerate_from (number + 1) (lines_of l))) (sym is_after)

        moves_on : moves_of lines ≡ now ++ moves_of (lines_of after)
        moves_on =
            read.moves ∙ ap (λ (l : List Move). rows ++ l) (moves_more rest)
            ∙ one_before (move_of (before_first line_end rest)) rows
            (moves_of (lines_of (after_first line_end rest)))
            ∙ (λ i. (rows ++ option_to_list (move_of (sym is_line i)))
            ++ moves_of (lines_of (sym is_after i)))
            ∙ ap (λ (l : List Move). l ++ moves_of (lines_of after)) (sym added)

        -- the first of the lines that are left, and what stands behind it
        one_and_more : (more : List (List ℕ))
            × (lines_of rest ≡ line ∷ more)
            × (0 < length after → more ≡ lines_of after)
        one_and_more =
            elim (cases_lt (position_or_len line_end rest) (length rest)) [
              | inl there ↦ (
                lines_of (after_first line_end rest),
                slice_split_first line_end rest 0 there
                    ∙ ap (λ (l : List ℕ). l ∷ lines_of (after_first line_end rest)) (sym is_line),
                λ more. ap lines_of (sym is_after),
              )
              | inr none ↦ (
                [],
                one_line rest none
                    ∙ ap (λ (l : List ℕ). let ls : List (List ℕ) = l ∷ [] in ls)
                    (sym (whole_before rest none) ∙ sym is_line),
                λ more. absurd (omega (
                  arith,
                  more,
                  ap length (is_after ∙ nothing_after rest none),
                )),
              )
            ]

        pub read_on : IsRead text (number + 1) after now
        read_on =
            let next = one_and_more in
            let at : drop (number - 1) lines ≡ line ∷ next.0 = read.left some ∙ next.1 in
            let one_more : suc (number - 1) ≡ number + 1 - 1 = omega (arith, read.some) in
            record {
              faults = faults_on;
              moves = moves_on;
              left = λ more. subst (λ (k : ℕ). drop k lines ≡ lines_of after) one_more
                  (drop_next (number - 1) lines next.0 line at ∙ next.2 more);
              before = subst (λ (k : ℕ). moves_of (take k lines) ≡ now) one_more
                  (ap moves_of (take_next (number - 1) lines next.0 line at)
                  ∙ moves_push (take (number - 1) lines) line
                  ∙ ap (λ (l : List Move). l ++ option_to_list (move_of line)) read.before
                  ∙ sym added);
              some = omega arith;
              room = omega (arith, read.room, shorter_after rest after is_after some);
            }

-- ---- once no line is left

pub none_left : (text : List ℕ) (number : ℕ) (rest : List ℕ) (rows : List Move)
    → IsRead text number rest rows → nat_eq (length rest) 0 ≡ true
    → (faults_of (lines_of text) ≡ []) × (rows ≡ moves_of (lines_of text))
none_left text number [] rows read empty = (
  read.faults,
  sym (read.moves ∙ ap (λ (o : Option Move). rows ++ cons_option o []) no_move ∙ append-nil rows),
)
none_left text number (x ∷ xs) rows read empty = absurd (grind (arith, nat_tests))

pub unless_memory : {P Q : Type 0} (fault : TableFault) → (P → Q) → UnlessMemory fault P
    → UnlessMemory fault Q
unless_memory NoMemory f p = tt
unless_memory TooLong f p = f p
unless_memory (BadLine number) f p = f p
unless_memory (Overlap number) f p = f p
