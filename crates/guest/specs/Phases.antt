-- The phases of harts: a list, with one phase for each hart from hart 0 on.
use Rattle.std.specs.Prelude.{ℕ, Bool, true, false, List, replicate, nat_eq, count_by, position}
use Rattle.std.specs.Prelude.{Option, Some, None, slice_index_or, slice_set, if◌then◌else◌}
use Rattle.guest.specs.declared.phase.HartPhase.{HartPhase}
use Rattle.guest.specs.declared.phase.HartPhase.TheVariants.{Free, Runnable, Joining}
use Rattle.guest.specs.declared.phase.HartPhase.TheVariants.{Waiting, Ended}

-- whether a hart in this phase can be spawned
abbrev pub is_free : HartPhase → Bool
is_free Free = true
is_free Runnable = false
is_free (Joining hart) = false
is_free (Waiting addr) = false
is_free (Ended code) = false

-- whether it can run
abbrev pub is_runnable : HartPhase → Bool
is_runnable Free = false
is_runnable Runnable = true
is_runnable (Joining hart) = false
is_runnable (Waiting addr) = false
is_runnable (Ended code) = false

abbrev pub is_joining : ℕ → HartPhase → Bool
is_joining target Free = false
is_joining target Runnable = false
is_joining target (Joining hart) = nat_eq hart target
is_joining target (Waiting addr) = false
is_joining target (Ended code) = false

abbrev pub is_waiting_at : ℕ → HartPhase → Bool
is_waiting_at addr Free = false
is_waiting_at addr Runnable = false
is_waiting_at addr (Joining hart) = false
is_waiting_at addr (Waiting at) = nat_eq at addr
is_waiting_at addr (Ended code) = false

abbrev pub ended_code : HartPhase → Option ℕ
ended_code Free = None
ended_code Runnable = None
ended_code (Joining hart) = None
ended_code (Waiting addr) = None
ended_code (Ended code) = Some code

-- whether it is free or has ended
abbrev pub is_over : HartPhase → Bool
is_over Free = true
is_over Runnable = false
is_over (Joining hart) = false
is_over (Waiting addr) = false
is_over (Ended code) = true

abbrev pub phase_of : List HartPhase → ℕ → HartPhase
phase_of phases hart = slice_index_or phases hart Free

-- at the beginning hart 0 is runnable, and the others are free
abbrev pub first_phases : ℕ → List HartPhase
first_phases harts = slice_set (replicate harts Free) 0 Runnable

-- the only hart that can run: None where none can, or more than one
abbrev pub lone_runnable : List HartPhase → Option ℕ
lone_runnable phases =
    if nat_eq (count_by is_runnable phases) 1 then position is_runnable phases else None
