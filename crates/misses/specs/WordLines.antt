-- Lines that hold whole words, lines of one word each, and lines of one hart.
use Rattle.std.specs.Prelude.{◌≡◌, ℕ, false, not, ◌&&◌, ◌==◌}
use Rattle.std.specs.List.{list_any}
use Rattle.base.specs.Touch.{word_of}
use Rattle.sharing_rules.specs.AccessLists.{AccessList}

-- no word lies in two lines
abbrev pub KeepsWords : (ℕ → ℕ) → Type 0
KeepsWords line_of = (x y : ℕ) → word_of x ≡ word_of y → line_of x ≡ line_of y

-- and each line is one word
abbrev pub PartsWords : (ℕ → ℕ) → Type 0
PartsWords line_of = (x y : ℕ) → line_of x ≡ line_of y → word_of x ≡ word_of y

-- nobody but hart h accesses line r
abbrev pub IsAlone : (ℕ → ℕ) → ℕ → ℕ → AccessList → Type 0
IsAlone line_of h r t = list_any (λ a. not (h == a.hart) && (line_of a.addr == r)) t ≡ false
