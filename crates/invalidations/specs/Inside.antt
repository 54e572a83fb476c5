-- What contracts see of an explainer.
use Rattle.std.specs.Prelude.{List}
use Rattle.invalidations.specs.LineInvalidations.{LineInvalidations, StandsFor}
use Rattle.invalidations.specs.declared.explainer.Explainer.TheInside.{Inside}
use Rattle.invalidations.specs.declared.sited.Sited.{Sited}

abbrev pub kept_in : Inside → LineInvalidations
kept_in e = record {
  line = e.line;
  start = e.start;
  position = e.position;
  count = e.count;
  two = e.two;
  sites = e.tables.sites.entries;
  pairs = e.tables.pairs.entries;
  harts = e.tables.harts.entries;
}

-- it stands for some list, since it began before its first access
abbrev pub IsOfSome : Inside → Type 0
IsOfSome e = (u : List Sited) × StandsFor u (kept_in e)
