-- What is true of every schedule.
use Rattle.std.specs.Prelude.{◌≡◌, ℕ, ◌≤◌, ◌<◌, List, [], Option, Some, None}
use Rattle.hart_scheduler.specs.ScheduleParts.{AStreak}
use Rattle.hart_scheduler.specs.declared.schedule.Schedule.TheInside.{Inside}
use Rattle.hart_scheduler.specs.declared.turns.Turns.{Turns}
use Rattle.hart_scheduler.specs.declared.turns.Turns.TheVariants.{Round, Drawn, First}
use Rattle.hart_scheduler.specs.Choices.{Plan}

-- who had the last turn after the list, if one was taken: this streak
abbrev pub streak_in : Turns → AStreak → Option AStreak
streak_in (First draws) latest = None
streak_in Round latest = Some latest
streak_in (Drawn draws) latest = Some latest

-- the state of the numbers that turns are drawn by
abbrev pub draws_in : Turns → Option ℕ
draws_in (First draws) = draws
draws_in Round = None
draws_in (Drawn draws) = Some draws

abbrev pub plan_in : Inside → Plan
plan_in a = record {
  listed = a.listed;
  streak = streak_in a.turns a.latest;
  harts = a.harts;
  quantum = a.quantum;
  draws = draws_in a.turns;
}

-- before the first turn after the list no hart has turns left; from it on the list is used up
abbrev pub IsInOrder : Turns → List ℕ → AStreak → Type 0
IsInOrder (First draws) listed latest = latest.left ≡ 0
IsInOrder Round listed latest = listed ≡ []
IsInOrder (Drawn draws) listed latest = listed ≡ []

pub record IsGood (a : Inside) : Type 0 where
  pub harts : a.harts ≤ 256
  pub latest : a.latest.hart < a.harts
  pub order : IsInOrder a.turns a.listed a.latest
