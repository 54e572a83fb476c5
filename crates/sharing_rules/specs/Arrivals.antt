-- The harts of a set of addresses in the order in which they came since its last write.
use Rattle.std.specs.Prelude.{ℕ, Bool, not, ◌==◌, if◌then◌else◌, List, [], ◌∷◌, ◌++◌, eqb, map}
use Rattle.std.specs.Prelude.{filter}
use Rattle.std.specs.List.{list_any}
use Rattle.base.specs.Touch.{Touch, is_write}
use Rattle.sharing_rules.specs.AccessLists.{AccessList, touches, writes_to}

-- each number once, where it stands first
abbrev pub each_once : List ℕ → List ℕ
each_once [] = []
each_once (x ∷ xs) = x ∷ filter (λ y. not (y == x)) (each_once xs)

-- the accesses from the last write on, none without a write
abbrev pub since_last_write : (ℕ → Bool) → AccessList → AccessList
since_last_write inside [] = []
since_last_write inside (a ∷ t) =
    if list_any (writes_to inside) t then since_last_write inside t
    else if writes_to inside a then a ∷ t else []

-- the harts that touched these addresses since their last write, in the order of their first such
-- access
unfoldable pub arrivals : (ℕ → Bool) → AccessList → List ℕ
arrivals inside t =
    each_once (map (λ a. a.hart) (filter (touches inside) (since_last_write inside t)))

-- the harts in order of arrival after hart h came
abbrev pub note_arrival : List ℕ → ℕ → List ℕ
note_arrival hs h = if list_any (eqb h) hs then hs else hs ++ h ∷ []

-- what an access makes of the arrivals; empty means that there was no write
abbrev pub arrivals_after : (ℕ → Bool) → List ℕ → Touch → List ℕ
arrivals_after inside hs a =
    if inside a.addr
    then (if is_write a.kind then a.hart ∷ []
    else elim hs [ [] ↦ [] | g ∷ gs ↦ note_arrival (g ∷ gs) a.hart ]) else hs
