-- What two sited lists have in common, one of which is the other without redundant accesses: of
-- each line the invalidations by pairs of harts. The victim is a hart's latest access of the line
-- among those that are kept, so its pc and its word may differ.
use Rattle.std.specs.Prelude.{◌≡◌, ℕ, Bool, true, List, [], map}
use Rattle.base.specs.Lines.{Grid}
use Rattle.sharing_rules.specs.Lines.{grid_line}
use Rattle.invalidations.specs.Blame.{TakenLine, all_invalidations, most_taken}
use Rattle.invalidations.specs.Invalidations.{hart_pairs}
use Rattle.invalidations.specs.Latest.{accesses_of}
use Rattle.invalidations.specs.declared.sited.Sides.{Sides}
use Rattle.invalidations.specs.declared.sited.Sited.{Sited}
use Rattle.invalidations.specs.declared.tables.Taken.{Taken}
use Rattle.sharing_rules.specs.Filtered.{at_places, is_kept_at}

-- a sited list w is u without some of its redundant accesses, or all; each has its pc
pub record IsSitedWithoutRedundant (k : ℕ) (u w : List Sited) : Type 0 where
  pub kept : ℕ → Bool
  pub needed : (i : ℕ) → is_kept_at k (accesses_of u) i ≡ true → kept i ≡ true
  pub rest : w ≡ at_places kept u

-- the filtered list with its pcs: without all of them
abbrev pub filtered_sited : ℕ → List Sited → List Sited
filtered_sited k u = at_places (is_kept_at k (accesses_of u)) u

-- the invalidations of one hart by another, however many of them are of one word
abbrev pub without_same : Sides × Taken → Sides × Taken
without_same p = (p.0, record { taken = p.1.taken; same = 0 })

-- a line with its invalidations, all of them and by pairs of harts
abbrev pub without_sites : TakenLine → TakenLine
without_sites x = record {
  line = x.line;
  invalidations = x.invalidations;
  pairs = [];
  harts = map without_same x.harts;
}

-- Of a layout: the pairs of harts of each line, in the order in which they came, the lines with
-- invalidations from the most on, and the invalidations of all lines.
pub record SameHarts (g : Grid) (u w : List Sited) : Type 0 where
  pub lines : (r : ℕ) → map without_same (hart_pairs (grid_line g r) 0 w)
      ≡ map without_same (hart_pairs (grid_line g r) 0 u)
  pub most : map without_sites (most_taken g w) ≡ map without_sites (most_taken g u)
  pub all : all_invalidations g w ≡ all_invalidations g u
