use Rattle.std.proofs.Common.{arith, rules}
use Rattle.std.specs.Prelude.{nat_lt}
use Rattle.std.proofs.lemmas.Bool.Decides.{nat_tests}
use Rattle.std.proofs.lemmas.List.Sorted.{IsPartitionPoint-from_clause}
use Rattle.trace_files.proofs.Ranges.{parted_below}
use Rattle.trace_files.proofs.near_moves.begun_below.Goals as goal

pub returns-clause-below : goal.returns-clause-below
returns-clause-below c =
    let point = IsPartitionPoint-from_clause (λ m. nat_lt m.from c.args.end) _ _
    c.partition_point.ensures.partitioned (parted_below c.args.rows.now c.args.end c.requires)
    (λ a r q k. search rules) in
    λ k d low high. let e = point.0 k d low high in grind (arith, nat_tests)

pub returns-clause-above : goal.returns-clause-above
returns-clause-above c =
    let point = IsPartitionPoint-from_clause (λ m. nat_lt m.from c.args.end) _ _
    c.partition_point.ensures.partitioned (parted_below c.args.rows.now c.args.end c.requires)
    (λ a r q k. search rules) in
    λ k d low high. let e = point.1 k d low high in grind (arith, nat_tests)
