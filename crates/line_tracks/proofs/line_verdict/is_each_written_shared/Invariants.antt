-- each written word so far is truly shared
use Rattle.std.proofs.Common.{◌≡◌, true, ◌||◌, eqb, take}
use Rattle.std.specs.List.{list_all}
use Rattle.sharing_rules.specs.Verdicts.{is_truly_shared}
use Rattle.line_tracks.proofs.line_verdict.is_each_written_shared.Given as goal

abbrev pub invariant-loop-i : goal.invariant-loop-i
invariant-loop-i l = list_all (λ w. is_truly_shared w || eqb w.writes 0) (take l.i l.shadow.words)
    ≡ true
