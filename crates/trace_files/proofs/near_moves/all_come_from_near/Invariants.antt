use Rattle.std.proofs.Common.{◌≡◌, take, true}
use Rattle.std.specs.List.{list_all}
use Rattle.trace_files.specs.NearMoves.{comes_from_near}
use Rattle.trace_files.specs.Rows.{turned}
use Rattle.trace_files.proofs.near_moves.all_come_from_near.Given as goal

-- the places so far pass
abbrev pub invariant-loop-back : goal.invariant-loop-back
invariant-loop-back l =
    list_all (λ m. comes_from_near l.near l.moved l.addr (turned m)) (take l.back-index l.places) ≡ true
