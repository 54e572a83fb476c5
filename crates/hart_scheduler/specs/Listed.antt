-- The list of harts that the entries of a schedule stand for.
use Rattle.std.specs.Prelude.{ℕ, Bool, ◌&&◌, nat_lt, List, drop}
use Rattle.hart_scheduler.specs.ScheduleParts.{ListEntry}
use Rattle.hart_scheduler.specs.declared.listed.Listed.TheInside.{Inside}
use Rattle.hart_scheduler.specs.Choices.{is_runnable}
use Rattle.hart_scheduler.specs.Texts.{harts_of}

-- an entry's count isn't used up, and its hart is runnable
abbrev pub is_able : List Bool → ListEntry → Bool
is_able runnable entry = nat_lt 0 entry.count && is_runnable runnable entry.hart

-- the harts of the entries from a place on
abbrev pub harts_from : List ListEntry → ℕ → List ℕ
harts_from entries place = harts_of (drop place entries)

abbrev pub harts_in : Inside → List ℕ
harts_in a = harts_from a.entries.items a.place
