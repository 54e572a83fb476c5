use Rattle.std.proofs.Common.{not, refl}
use Rattle.std.proofs.Math.Bool.{and-false}
use Rattle.base.specs.Touch.{is_write}
use Rattle.invalidations.proofs.blame_tables.LineTaken.first.Goals as goal

pub returns : goal.returns
returns c = rw (and-false (not (is_write c.args.sited.access.kind))) refl
