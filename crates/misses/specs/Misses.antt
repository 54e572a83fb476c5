-- The misses of a line in caches from which a write takes the line, and the loads of it that are
-- needed, after Dubois, Skeppstedt, Ricciulli, Ramamurthy and Stenström, "The detection and
-- elimination of useless misses in multiprocessors" (ISCA 1993). There a miss is useful or not by
-- what its hart does until it loses the line; here a needed load is an access of its own, and may
-- come later than the miss that brought the line. line_of gives the line of an address.
use Rattle.std.specs.Prelude.{ℕ, ◌+◌, ◌-◌, Bool, true, not, ◌&&◌, ◌==◌, if◌then◌else◌, []}
use Rattle.std.specs.Prelude.{◌∷◌, ◌++◌, Option, None, Some, length, drop}
use Rattle.std.specs.List.{list_any}
use Rattle.base.specs.Touch.{Touch, is_write, word_of}
use Rattle.sharing_rules.specs.AccessLists.{AccessList}
use Rattle.sharing_rules.specs.Holders.{holders}
use Rattle.sharing_rules.specs.Places.{Question, count_places}

-- an access in line r, and one by hart h in it
abbrev pub is_in : (ℕ → ℕ) → ℕ → Touch → Bool
is_in line_of r a = line_of a.addr == r

abbrev pub is_by_in : (ℕ → ℕ) → ℕ → ℕ → Touch → Bool
is_by_in line_of h r a = (h == a.hart) && (line_of a.addr == r)

-- a miss: the hart's cache doesn't hold the line
abbrev pub is_miss : (ℕ → ℕ) → ℕ → Question
is_miss line_of r before a = is_in line_of r a && not (holders line_of before a.hart r)

-- a cold miss: the hart comes to the line for the first time
abbrev pub is_cold : (ℕ → ℕ) → ℕ → Question
is_cold line_of r before a =
    is_miss line_of r before a && not (list_any (is_by_in line_of a.hart r) before)

-- a write by another hart than h of the word that holds address x
abbrev pub changes : ℕ → ℕ → Touch → Bool
changes h x b = is_write b.kind && not (h == b.hart) && (word_of b.addr == word_of x)

-- Copies that nobody takes away. A copy is the position of the access that last loaded it. With no
-- copy each word is lacking; a copy lacks a word that another hart wrote after that load.
abbrev pub lacks : Option ℕ → AccessList → ℕ → ℕ → Bool
lacks None before h x = true
lacks (Some load) before h x = list_any (changes h x) (drop (load + 1) before)

-- An access to a word that its hart's copy lacks loads the copy, all of the line. Nothing else
-- does.
abbrev pub after_load : (ℕ → ℕ) → AccessList → (ℕ → ℕ → Option ℕ) → Touch → ℕ → ℕ → Option ℕ
after_load line_of before loaded a h r =
    if is_by_in line_of h r a && lacks (loaded h r) before h a.addr then Some (length before)
    else loaded h r

abbrev pub copies_from : (ℕ → ℕ) → AccessList → (ℕ → ℕ → Option ℕ) → AccessList → ℕ → ℕ
    → Option ℕ
copies_from line_of before loaded [] = loaded
copies_from line_of before loaded (a ∷ t) =
    copies_from line_of (before ++ a ∷ []) (after_load line_of before loaded a) t

-- the copy of each hart and line after a list; there are none at the beginning
unfoldable pub copies : (ℕ → ℕ) → AccessList → ℕ → ℕ → Option ℕ
copies line_of t = copies_from line_of [] (λ h r. None) t

-- after a list, hart h's copy lacks the word that holds address x
abbrev pub wants : (ℕ → ℕ) → AccessList → ℕ → ℕ → Bool
wants line_of t h x = lacks (copies line_of t h (line_of x)) t h x

-- a needed load: the hart's copy lacks the word
abbrev pub is_needed : (ℕ → ℕ) → ℕ → Question
is_needed line_of r before a = is_in line_of r a && wants line_of before a.hart a.addr

-- of a line: its cold misses, its needed loads that aren't cold, and its misses for nothing
abbrev pub cold : (ℕ → ℕ) → ℕ → AccessList → ℕ
cold line_of r t = count_places (is_cold line_of r) t

abbrev pub useful : (ℕ → ℕ) → ℕ → AccessList → ℕ
useful line_of r t = count_places (is_needed line_of r) t - cold line_of r t

abbrev pub useless : (ℕ → ℕ) → ℕ → AccessList → ℕ
useless line_of r t = count_places (is_miss line_of r) t - count_places (is_needed line_of r) t
