-- What contracts see of the invalidations of all lines.
use Rattle.std.specs.Prelude.{List}
use Rattle.invalidations.specs.BlameFits.{parts_of}
use Rattle.invalidations.specs.BlameKept.{Blamed, StandsFor}
use Rattle.invalidations.specs.declared.blame.Blame.TheInside.{Inside}
use Rattle.invalidations.specs.declared.sited.Sited.{Sited}

abbrev pub blamed_in : Inside → Blamed
blamed_in b = record {
  grid = b.layout;
  position = b.position;
  total = b.total;
  parts = parts_of b.tables;
}

-- it stands for some list, since it began before its first access
abbrev pub IsOfSome : Inside → Type 0
IsOfSome b = (u : List Sited) × StandsFor u (blamed_in b)
