-- The words of an object in groups: those of hart 0, of hart 1 and so on up to hart 255, those that
-- many harts touch, and those that none does.
use Rattle.std.specs.Prelude.{ℕ, ◌+◌, ◌-◌, ◌*◌, ◌/◌, Bool, ◌==◌, List, count_by, sum_by}
use Rattle.sharing_rules.specs.Places.{below}
use Rattle.sharing_rules.specs.declared.word.Owner.{Owner}
use Rattle.sharing_rules.specs.declared.word.Owner.TheVariants as owner

unfoldable pub many_group : ℕ
many_group = 256

unfoldable pub untouched_group : ℕ
untouched_group = 257

unfoldable pub group_count : ℕ
group_count = 258

abbrev pub group_of : Owner → ℕ
group_of (owner.One h) = h
group_of owner.Many = many_group
group_of owner.None = untouched_group

abbrev pub is_in : ℕ → Owner → Bool
is_in g o = group_of o == g

-- how many words a group has
abbrev pub group_size : List Owner → ℕ → ℕ
group_size owners g = count_by (is_in g) owners

-- the least multiple of n from a number on
abbrev pub rounded : ℕ → ℕ → ℕ
rounded n x = (x + (n - 1)) / n * n

-- how many bytes a group takes, in whole lines of n bytes
abbrev pub group_room : ℕ → List Owner → ℕ → ℕ
group_room n owners g = rounded n (4 * group_size owners g)

-- where a group begins behind the beginning of the first
abbrev pub group_start : ℕ → List Owner → ℕ → ℕ
group_start n owners g = sum_by (group_room n owners) (below g)

-- how many bytes all groups take
abbrev pub area_length : ℕ → List Owner → ℕ
area_length n owners = group_start n owners group_count
