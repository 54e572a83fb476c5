-- Worked schedules and choices: what the definitions give for them.
use Rattle.std.proofs.Common.{◌≡◌, ℕ, true, false, List, [], ◌∷◌, Some, None, Ok, Err, refl}
use Rattle.hart_scheduler.specs.declared.fault.ScheduleFault.TheVariants.{BadLine, HartOutOfRange}
use Rattle.hart_scheduler.specs.declared.fault.ScheduleFault.TheVariants.{ZeroCount}
use Rattle.hart_scheduler.specs.Choices.{Plan, choice, plan_after}
use Rattle.hart_scheduler.specs.Numbers.{number_of}
use Rattle.hart_scheduler.specs.Texts.{entry_of, schedule_of}

listing : List ℕ → Plan
listing listed = record { listed = listed; streak = None; harts = 8; quantum = 3; draws = None }

-- `0 5` and `x`
bad_line : schedule_of 8 3 0 (48 ∷ 32 ∷ 53 ∷ 10 ∷ 120 ∷ []) ≡ Err (BadLine 2)
unfolding entry_of number_of
bad_line = refl

-- `8 1`
out_of_range : schedule_of 8 3 0 (56 ∷ 32 ∷ 49 ∷ []) ≡ Err (HartOutOfRange 1)
unfolding entry_of number_of
out_of_range = refl

-- two empty lines and `0 0`
zero_count : schedule_of 8 3 0 (10 ∷ 10 ∷ 48 ∷ 32 ∷ 48 ∷ 10 ∷ []) ≡ Err (ZeroCount 3)
unfolding entry_of number_of
zero_count = refl

empty : schedule_of 8 3 0 [] ≡ Ok (listing [])
unfolding entry_of number_of listing
empty = refl

-- `1 2`, an empty line and `0 1`
accepted : schedule_of 8 3 0 (49 ∷ 32 ∷ 50 ∷ 10 ∷ 10 ∷ 48 ∷ 32 ∷ 49 ∷ [])
    ≡ Ok (listing (1 ∷ 1 ∷ 0 ∷ []))
unfolding entry_of number_of listing
accepted = refl

-- `01 1`, `1  1`, `1 1 ` and ` 1 1` are none
leading_zero : entry_of (48 ∷ 49 ∷ 32 ∷ 49 ∷ []) ≡ None
unfolding entry_of number_of
leading_zero = refl

two_spaces : entry_of (49 ∷ 32 ∷ 32 ∷ 49 ∷ []) ≡ None
unfolding entry_of number_of
two_spaces = refl

space_last : entry_of (49 ∷ 32 ∷ 49 ∷ 32 ∷ []) ≡ None
unfolding entry_of number_of
space_last = refl

space_first : entry_of (32 ∷ 49 ∷ 32 ∷ 49 ∷ []) ≡ None
unfolding entry_of number_of
space_first = refl

-- 4294967295 is a number, and 4294967296 is none
largest : number_of (52 ∷ 50 ∷ 57 ∷ 52 ∷ 57 ∷ 54 ∷ 55 ∷ 50 ∷ 57 ∷ 53 ∷ []) ≡ Some 4294967295
unfolding number_of
largest = refl

above : number_of (52 ∷ 50 ∷ 57 ∷ 52 ∷ 57 ∷ 54 ∷ 55 ∷ 50 ∷ 57 ∷ 54 ∷ []) ≡ None
unfolding number_of
above = refl

-- after the list 1, 0, 2 with a quantum of 2, while hart 1 is blocked
before : Plan
before = record { listed = 1 ∷ 0 ∷ 2 ∷ []; streak = None; harts = 3; quantum = 2; draws = None }

in_turn : List ℕ → ℕ → ℕ → Plan
in_turn listed hart left =
    record {
      listed = listed;
      streak = Some (record { hart = hart; left = left });
      harts =
          3;
      quantum = 2;
      draws = None;
    }

passes_over : plan_after (true ∷ false ∷ true ∷ []) before
    ≡ record { listed = 2 ∷ []; streak = None; harts = 3; quantum = 2; draws = None }
unfolding before
passes_over = refl

drops_all : choice (false ∷ false ∷ true ∷ [])
    (record { listed = 1 ∷ 0 ∷ []; streak = None; harts = 3; quantum = 2; draws = None }) ≡ Some 2
drops_all = refl

starts_lowest : plan_after (false ∷ true ∷ true ∷ [])
    (record { listed = 0 ∷ []; streak = None; harts = 3; quantum = 2; draws = None }) ≡ in_turn [] 1 1
unfolding in_turn
starts_lowest = refl

goes_on_once : plan_after (true ∷ true ∷ true ∷ []) (in_turn [] 1 1) ≡ in_turn [] 1 0
unfolding in_turn
goes_on_once = refl

then_the_next : plan_after (true ∷ true ∷ true ∷ []) (in_turn [] 1 0) ≡ in_turn [] 2 1
unfolding in_turn
then_the_next = refl

round_the_end : choice (true ∷ true ∷ true ∷ []) (in_turn [] 2 0) ≡ Some 0
unfolding in_turn
round_the_end = refl

-- a lone hart follows itself, and has had its turns where another comes up
alone : plan_after (false ∷ true ∷ false ∷ []) (in_turn [] 1 0) ≡ in_turn [] 1 0
unfolding in_turn
alone = refl

none_runnable : plan_after (false ∷ false ∷ false ∷ []) (in_turn (0 ∷ []) 1 1)
    ≡ in_turn (0 ∷ []) 1 1
unfolding in_turn
none_runnable = refl
