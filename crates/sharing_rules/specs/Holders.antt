-- The simulation: one unbounded write-invalidate cache for each hart. line_of gives the line of an
-- address.
use Rattle.std.specs.Prelude.{ℕ, Bool, false, not, ◌&&◌, ◌||◌, ◌==◌, nat_lt, if◌then◌else◌, length}
use Rattle.std.specs.Prelude.{fold}
use Rattle.std.specs.List.{list_any}
use Rattle.base.specs.Touch.{Touch, is_write}
use Rattle.base.specs.Lines.{line_number}
use Rattle.sharing_rules.specs.AccessLists.{AccessList}
use Rattle.sharing_rules.specs.Places.{Question, count_places}
use Rattle.sharing_rules.specs.Lines.{Line}

-- What the caches hold after one access more, as a test of a hart and a line.
-- A read adds its hart's copy of its line. A write removes every copy of its line and adds its
-- hart's.
abbrev pub after_access : (ℕ → ℕ) → (ℕ → ℕ → Bool) → Touch → ℕ → ℕ → Bool
after_access line_of held a h r =
    if line_of a.addr == r then (h == a.hart || (not (is_write a.kind) && held h r)) else held h r

-- which hart's cache has which line after a list; they begin empty
abbrev pub holders : (ℕ → ℕ) → AccessList → ℕ → ℕ → Bool
holders line_of t = fold (after_access line_of) (λ h r. false) t

-- after t a hart other than h, one of those that t names, holds line r
abbrev pub is_held_by_another : (ℕ → ℕ) → AccessList → ℕ → ℕ → Bool
is_held_by_another line_of t h r = list_any (λ b. not (b.hart == h) && holders line_of t b.hart r) t

-- a write of line r that finds another hart holding it
abbrev pub is_invalidation : (ℕ → ℕ) → ℕ → Question
is_invalidation line_of r before a = is_write a.kind && (line_of a.addr == r) && is_held_by_another
    line_of before a.hart r

-- the invalidations of line r at positions above s
abbrev pub count_since : (ℕ → ℕ) → ℕ → ℕ → AccessList → ℕ
count_since line_of r s t =
    count_places (λ before a. nat_lt s (length before) && is_invalidation line_of r before a) t

-- the same for a line with its layout
abbrev pub line_count_since : Line → ℕ → AccessList → ℕ
line_count_since l s t = count_since (line_number l.size l.offset) l.number s t
