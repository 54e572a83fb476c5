-- The sited list of a run: its accesses in order, each with the pc of its instruction.
use Rattle.std.specs.Prelude.{ℕ, List, map}
use Rattle.base.specs.Touch.{Touch}
use Rattle.guest.specs.GuestCalls.{RunEvent}
use Rattle.guest.specs.Runs.{Run, sited_in, sited_of}
use Rattle.guest.specs.declared.turn.Touched.{Touched}
use Rattle.invalidations.specs.declared.sited.Sited.{Sited}

abbrev pub sited : Touch × ℕ → Sited
sited p = record { access = p.0; pc = p.1 }

-- of an access that was put by
abbrev pub sited_touch : Touched → Sited
sited_touch t = record { access = t.access; pc = t.pc }

-- of a step, and of a whole run
abbrev pub sited_at : RunEvent → List Sited
sited_at e = map sited (sited_in e)

abbrev pub sited_run : Run → List Sited
sited_run r = map sited (sited_of r)
