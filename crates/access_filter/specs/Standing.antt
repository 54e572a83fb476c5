-- Which lists a filter stands for.
use Rattle.std.specs.Prelude.{◌≡◌, ℕ, length}
use Rattle.sharing_rules.specs.AccessLists.{AccessList}
use Rattle.access_filter.specs.Pages.{stamp_at}
use Rattle.access_filter.specs.Rules.{HasStamps}
use Rattle.access_filter.specs.declared.filter.Filter.{Filter}

-- It was given the list's accesses, and its stamps say what is redundant next.
pub record StandsFor (t : AccessList) (f : Filter) : Type 0 where
  pub position : f.position ≡ length t
  pub stamps : HasStamps f.near t (stamp_at f.words.items) (stamp_at f.regions.items)

-- the logarithm of its regions' bytes, and how many accesses it was given
abbrev pub near_of : Filter → ℕ
near_of f = f.near

abbrev pub position_of : Filter → ℕ
position_of f = f.position
