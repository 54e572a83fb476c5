-- no word so far is truly shared
use Rattle.std.proofs.Common.{◌≡◌, false, take}
use Rattle.std.specs.List.{list_any}
use Rattle.sharing_rules.specs.Verdicts.{is_truly_shared}
use Rattle.line_tracks.proofs.line_verdict.is_any_shared.Given as goal

abbrev pub invariant-loop-i : goal.invariant-loop-i
invariant-loop-i l = list_any is_truly_shared (take l.i l.shadow.words) ≡ false
