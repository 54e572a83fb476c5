-- Private caches of a stated shape: each hart has, for each set, a list of lines, the most recently
-- used first, from which the least recently used one leaves where there are too many.
use Rattle.std.specs.Prelude.{ℕ, ◌-◌, ◌%◌, Bool, false, not, ◌&&◌, ◌==◌, if◌then◌else◌, eqb}
use Rattle.std.specs.Prelude.{List, [], ◌∷◌, filter, fold, take, slice_get, is_some, Option}
use Rattle.std.specs.List.{list_any}
use Rattle.std.specs.Option.{option_map_or}
use Rattle.base.specs.Lines.{line_number}
use Rattle.base.specs.Touch.{Touch, is_write}
use Rattle.sharing_rules.specs.AccessLists.{AccessList}
use Rattle.sharing_rules.specs.Places.{Question}
use Rattle.base.specs.Shapes.{CacheShape}

-- the line of an address; line 1 begins at address 0
abbrev pub line_in : CacheShape → ℕ → ℕ
line_in k = line_number k.size 0

-- the set of a line: its base by the size, modulo the number of sets
abbrev pub set_of : CacheShape → ℕ → ℕ
set_of k r = (r - 1) % k.sets

abbrev pub has : ℕ → List ℕ → Bool
has r lines = list_any (eqb r) lines

abbrev pub without : ℕ → List ℕ → List ℕ
without r lines = filter (λ q. not (q == r)) lines

-- line r is used: it comes to the front, wherever it was
abbrev pub in_front : ℕ → List ℕ → List ℕ
in_front r lines = r ∷ without r lines

-- as many as there are ways stay
abbrev pub used : CacheShape → ℕ → List ℕ → List ℕ
used k r lines = take k.ways (in_front r lines)

-- and what stands behind them leaves
abbrev pub left : CacheShape → ℕ → List ℕ → Option ℕ
left k r lines = slice_get (in_front r lines) k.ways

-- The lists of each hart and set after one access more: its line comes to the front of its hart's
-- list, and a write takes it out of every other hart's.
abbrev pub bounded_step : CacheShape → (ℕ → ℕ → List ℕ) → Touch → ℕ → ℕ → List ℕ
bounded_step k lists a h s =
    let r = line_in k a.addr in
    if set_of k r == s
    then (if h == a.hart then used k r (lists h s)
    else if is_write a.kind then without r (lists h s) else lists h s)
    else lists h s

-- the list of each hart and set after a list of accesses; they begin empty
abbrev pub bounded : CacheShape → AccessList → ℕ → ℕ → List ℕ
bounded k t = fold (bounded_step k) (λ h s. []) t

-- after t a hart other than h, one of those that t names, has line r in its cache
abbrev pub is_cached_by_another : CacheShape → AccessList → ℕ → ℕ → Bool
is_cached_by_another k t h r =
    list_any (λ b. not (b.hart == h) && has r (bounded k t b.hart (set_of k r))) t

-- a write of line r before which another hart's list has it
abbrev pub is_bounded_invalidation : CacheShape → ℕ → Question
is_bounded_invalidation k r before a =
    is_write a.kind && (line_in k a.addr == r) && is_cached_by_another k before a.hart r

-- the line that an access evicts, where it evicts one
abbrev pub evicts : CacheShape → AccessList → Touch → Option ℕ
evicts k before a =
    let r = line_in k a.addr in left k r (bounded k before a.hart (set_of k r))

-- an access that evicts line r, and one that evicts any
abbrev pub is_eviction : CacheShape → ℕ → Question
is_eviction k r before a = option_map_or (eqb r) (evicts k before a) false

abbrev pub is_any_eviction : CacheShape → Question
is_any_eviction k before a = is_some (evicts k before a)
