-- The blocks that a guest notes beside those of its heap: how many were noted, and where they
-- live.
use Rattle.std.specs.Prelude.{ℕ, ◌+◌, ◌^◌, Bool, List, []}
use Rattle.std.specs.Ordering.{nat_cmp}
use Rattle.std.specs.List.{list_any}
use Rattle.std.specs.BTreeSet.{insert_key}
use Rattle.std.specs.BTreeMap.{is_at}
use Rattle.std.specs.Set.{remove_key}

-- how many were ever noted, and the addresses at which noted blocks live, rising
pub record Noted : Type 0 where
  pub made : ℕ
  pub live : List ℕ

-- how many blocks a guest ever notes
abbrev pub most_noted : ℕ
most_noted = 2 ^ 20

abbrev pub none_noted : Noted
none_noted = record { made = 0; live = [] }

-- a block is noted at an address: one that lives there dies
abbrev pub after_noting : Noted → ℕ → Noted
after_noting n addr = record { made = n.made + 1; live = insert_key nat_cmp n.live addr }

-- whether a noted block lives at an address
abbrev pub is_noted : Noted → ℕ → Bool
is_noted n addr = list_any (is_at (nat_cmp addr)) n.live

-- the noted block at an address, if there is one, died
abbrev pub after_dying : Noted → ℕ → Noted
after_dying n addr = record n { live = remove_key (is_at (nat_cmp addr)) n.live }
