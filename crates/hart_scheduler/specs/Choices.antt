-- Which hart runs next: the one that the list names, and after the list the one that is in turn, or
-- the one that is drawn.
use Rattle.std.specs.Prelude.{◌≡◌, ◌≢◌, ℕ, zero, suc, ◌+◌, ◌-◌, ◌*◌, ◌%◌, ◌<◌, max, Bool, false}
use Rattle.std.specs.Prelude.{◌&&◌, nat_eq, nat_lt}
use Rattle.std.specs.Prelude.{if◌then◌else◌, List, ◌++◌, length, slice_get, Option, None, Some}
use Rattle.std.specs.Prelude.{is_some, slice_index_or, IsFalse, IsTrue}
use Rattle.std.specs.List.{find, filter, after_first, range_with_len}
use Rattle.std.specs.Option.{option_or, option_map, option_map_or}
use Rattle.hart_scheduler.specs.ScheduleParts.{AStreak}
use Rattle.hart_scheduler.specs.Draws.{next_state, number_in}

-- What a schedule has still to say: the harts that its list still names, in their order, who is in
-- turn after them, from the first such choice on, and the state of the numbers that turns are drawn
-- by, None where they aren't drawn.
pub record Plan : Type 0 where
  pub listed : List ℕ
  pub streak : Option AStreak
  pub harts : ℕ
  pub quantum : ℕ
  pub draws : Option ℕ

abbrev pub is_runnable : List Bool → ℕ → Bool
is_runnable runnable hart = slice_index_or runnable hart false

abbrev pub NoneRunnable : List Bool → Type 0
NoneRunnable runnable = (hart : ℕ) → IsFalse (is_runnable runnable hart)

-- this hart is runnable, and no other is
pub record IsLone (runnable : List Bool) (hart : ℕ) : Type 0 where
  pub runs : IsTrue (is_runnable runnable hart)
  pub others : (k : ℕ) → k ≢ hart → IsFalse (is_runnable runnable k)

-- so many harts, from the lowest on
abbrev pub harts_in_order : ℕ → List ℕ
harts_in_order harts = range_with_len 0 harts

-- so many harts in cyclic order, from the one after a hart on: itself is last
abbrev pub harts_after : ℕ → ℕ → List ℕ
harts_after harts hart = range_with_len (hart + 1) (harts - (hart + 1)) ++ range_with_len 0
    (hart + 1)

-- the hart of a streak goes on: it is runnable, and has turns left of its quantum, so never where
-- that is 0 or 1
abbrev pub goes_on : List Bool → AStreak → Bool
goes_on runnable streak = is_runnable runnable streak.hart && nat_lt 0 streak.left

-- how many turns in a row a hart has left after the list: those of the streak, if it is its hart
abbrev pub turns_left : Plan → ℕ → ℕ
turns_left plan hart = option_map_or (λ s. if nat_eq s.hart hart then s.left else 0) plan.streak 0

-- the choice in turn after a streak
abbrev pub choice_after : List Bool → ℕ → AStreak → Option ℕ
choice_after runnable harts streak =
    if goes_on runnable streak then Some streak.hart
    else find (is_runnable runnable) (harts_after harts streak.hart)

-- The choice in turn: at first the lowest runnable hart.
abbrev pub choice_in_turn : List Bool → Plan → Option ℕ
choice_in_turn runnable plan =
    option_map_or (choice_after runnable plan.harts) plan.streak
    (find (is_runnable runnable) (harts_in_order plan.harts))

-- the choice from the list: the first runnable hart that it still names
abbrev pub choice_listed : List Bool → Plan → Option ℕ
choice_listed runnable plan = find (is_runnable runnable) plan.listed

-- the runnable harts of so many, from the lowest on
abbrev pub runnable_harts : List Bool → ℕ → List ℕ
runnable_harts runnable harts = filter (is_runnable runnable) (harts_in_order harts)

-- The hart that a number draws: of m runnable harts the one below which there are as many of them
-- as the number leaves divided by m.
abbrev pub drawn_hart : List Bool → ℕ → ℕ → Option ℕ
drawn_hart runnable harts number =
    slice_get (runnable_harts runnable harts) (number % length (runnable_harts runnable harts))

-- how many turns in a row a number draws: from 1 to twice the quantum less 1
abbrev pub drawn_turns : ℕ → ℕ → ℕ
drawn_turns quantum number = 1 + number % max 1 (2 * quantum - 1)

-- the streak that goes on, if one does
abbrev pub going_on : List Bool → Option AStreak → Option AStreak
going_on runnable streak =
    option_map_or (λ s. if goes_on runnable s then Some s else None) streak None

-- The choice by drawn numbers whose state is this: the hart in turn while it goes on, or else one
-- that is drawn by the next number.
abbrev pub choice_drawn : List Bool → Plan → ℕ → Option ℕ
choice_drawn runnable plan state =
    option_map_or (λ s. Some s.hart) (going_on runnable plan.streak)
    (drawn_hart runnable plan.harts (number_in (next_state state)))

-- the choice after the list: in turn where no numbers are drawn
abbrev pub choice_after_list : List Bool → Plan → Option ℕ
choice_after_list runnable plan =
    option_map_or (choice_drawn runnable plan) plan.draws (choice_in_turn runnable plan)

-- the hart that runs next: the choice from the list, or else the choice after it
abbrev pub choice : List Bool → Plan → Option ℕ
choice runnable plan = option_or (choice_listed runnable plan) (choice_after_list runnable plan)

-- How many turns in a row a hart has left once it was chosen: of a hart that follows itself one
-- less, and of another one less than the quantum. Where none is left, none is.
abbrev pub left_with : ℕ → ℕ → AStreak → ℕ
left_with quantum hart streak = if nat_eq streak.hart hart then streak.left - 1 else quantum - 1

-- the streak once a hart was chosen in turn
abbrev pub streak_with : ℕ → Plan → AStreak
streak_with hart plan =
    record {
      hart = hart;
      left = option_map_or (left_with plan.quantum hart) plan.streak
          (plan.quantum - 1);
    }

-- The streak once a hart was chosen by drawn numbers: it goes on with one turn less, or the number
-- after that which drew the hart draws how many turns it has, of which this is one.
abbrev pub streak_drawn : List Bool → Plan → ℕ → ℕ → AStreak
streak_drawn runnable plan hart state =
    option_map_or (λ s. record { hart = s.hart; left = s.left - 1 }) (going_on runnable plan.streak)
    (record {
      hart = hart;
      left = drawn_turns plan.quantum (number_in (next_state (next_state state))) - 1;
    })

-- the state of the drawn numbers once a hart was chosen by them: two are drawn where none goes on
abbrev pub state_drawn : List Bool → Plan → ℕ → ℕ
state_drawn runnable plan state =
    option_map_or (λ s. state) (going_on runnable plan.streak) (next_state (next_state state))

-- the streak once a hart was chosen after the list
abbrev pub streak_after_list : List Bool → Plan → ℕ → AStreak
streak_after_list runnable plan hart =
    option_map_or (streak_drawn runnable plan hart) plan.draws (streak_with hart plan)

-- The plan once a hart was chosen: what the list names up to its first runnable hart is used up,
-- and all of it where none is runnable. A choice from the list leaves the streak and draws nothing.
abbrev pub plan_with : List Bool → Plan → ℕ → Plan
plan_with runnable plan hart = record plan {
  listed = after_first (is_runnable runnable) plan.listed;
  streak = if is_some (choice_listed runnable plan) then plan.streak
      else Some (streak_after_list runnable plan hart);
  draws = if is_some (choice_listed runnable plan) then plan.draws
      else option_map (state_drawn runnable plan) plan.draws;
}

-- the plan after a choice: where there is none it stays
abbrev pub plan_after : List Bool → Plan → Plan
plan_after runnable plan = option_map_or (plan_with runnable plan) (choice runnable plan) plan

-- the plan after so many choices
abbrev pub plan_after_all : List Bool → ℕ → Plan → Plan
plan_after_all runnable zero plan = plan
plan_after_all runnable (suc n) plan = plan_after runnable (plan_after_all runnable n plan)

-- the next so many choices are all of this hart
abbrev pub AreOf : List Bool → Plan → ℕ → ℕ → Type 0
AreOf runnable plan n hart =
    (k : ℕ) → k < n → choice runnable (plan_after_all runnable k plan) ≡ Some hart

-- a plan whose streak has so many turns less, or none
abbrev pub shortened : ℕ → Plan → Plan
shortened n plan = record plan {
  streak = option_map (λ (s : AStreak). record { hart = s.hart; left = s.left - n }) plan.streak;
}
