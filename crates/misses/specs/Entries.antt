-- What has to be kept of a list, so that each miss and each needed load can be determined.
use Rattle.std.specs.Prelude.{ℕ, ◌+◌, Bool, ◌&&◌, ◌==◌, nat_lt, if◌then◌else◌, [], ◌∷◌, Option, None}
use Rattle.std.specs.Prelude.{Some}
use Rattle.std.specs.List.{list_any}
use Rattle.base.specs.Touch.{Touch, is_write, word_of}
use Rattle.sharing_rules.specs.AccessLists.{AccessList}

-- the position right after the last access that passes, 0 where none does
abbrev pub behind : (Touch → Bool) → AccessList → ℕ
behind p [] = 0
behind p (a ∷ t) = if nat_lt 0 (behind p t) then behind p t + 1 else if p a then 1 else 0

-- the same of a position that is known
abbrev pub right_after : Option ℕ → ℕ
right_after None = 0
right_after (Some position) = position + 1

-- the hart of the last access that passes, 0 where none does
abbrev pub last_hart : (Touch → Bool) → AccessList → ℕ
last_hart p [] = 0
last_hart p (a ∷ t) = if list_any p t then last_hart p t else if p a then a.hart else 0

-- a write in line r, and one of the word that holds address x
abbrev pub writes_in : (ℕ → ℕ) → ℕ → Touch → Bool
writes_in line_of r a = is_write a.kind && (line_of a.addr == r)

abbrev pub writes_word : ℕ → Touch → Bool
writes_word x a = is_write a.kind && (word_of a.addr == word_of x)
