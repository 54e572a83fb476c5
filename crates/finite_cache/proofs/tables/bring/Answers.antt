use Rattle.std.specs.NonZero.{non_zero_usize_get}
use Rattle.finite_cache.specs.Laws.Stated.{kept-known, kept-new, known-known, known-new, left-known}
use Rattle.finite_cache.specs.Laws.Stated.{left-new, used-known, used-new}
use Rattle.finite_cache.proofs.tables.bring.Goals as goal

pub returns-in-Some-clause-left : goal.returns-in-Some-clause-left
returns-in-Some-clause-left c =
    left-known c.args.sets.now.entries c.args.cell c.in-Some.index c.in-Some.ensures.index
    c.in-Some.ensures.value c.in-Some.ensures.found c.bring_known.result
    (non_zero_usize_get c.args.ways) c.args.line c.requires.ways c.bring_known.ensures.left

pub returns-in-Some-clause-used : goal.returns-in-Some-clause-used
returns-in-Some-clause-used c =
    used-known c.args.sets.now.entries c.args.cell c.in-Some.index c.in-Some.ensures.index
    c.in-Some.ensures.value c.in-Some.ensures.found c.bring_known.result
    c.bring_known.new.sets.entries (non_zero_usize_get c.args.ways) c.args.line c.requires.ways
    c.bring_known.ensures.used

pub returns-in-Some-clause-known : goal.returns-in-Some-clause-known
returns-in-Some-clause-known c =
    known-known c.args.sets.now.entries c.args.cell c.in-Some.index c.in-Some.ensures.index
    c.in-Some.ensures.value c.in-Some.ensures.found c.bring_known.result c.args.line
    c.bring_known.ensures.known

pub returns-in-Some-clause-kept : goal.returns-in-Some-clause-kept
returns-in-Some-clause-kept c =
    kept-known c.args.sets.now.entries c.args.cell c.in-Some.index c.in-Some.ensures.index
    c.in-Some.ensures.value c.in-Some.ensures.found c.bring_known.result
    c.bring_known.new.sets.entries (non_zero_usize_get c.args.ways) c.args.line c.requires.ways
    c.bring_known.ensures.used c.bring_known.ensures.refused

pub returns-in-None-clause-left : goal.returns-in-None-clause-left
returns-in-None-clause-left c =
    left-new c.args.sets.now.entries c.args.cell c.in-None.ensures.found c.bring_new.result
    (non_zero_usize_get c.args.ways) c.args.line c.bring_new.ensures.left

pub returns-in-None-clause-used : goal.returns-in-None-clause-used
returns-in-None-clause-used c =
    used-new c.args.sets.now.entries c.args.cell c.in-None.ensures.found c.bring_new.result
    c.bring_new.new.sets.entries (non_zero_usize_get c.args.ways) c.args.line
    c.bring_new.ensures.used

pub returns-in-None-clause-known : goal.returns-in-None-clause-known
returns-in-None-clause-known c =
    known-new c.args.sets.now.entries c.args.cell c.in-None.ensures.found c.bring_new.result
    c.args.line

pub returns-in-None-clause-kept : goal.returns-in-None-clause-kept
returns-in-None-clause-kept c =
    kept-new c.args.sets.now.entries c.args.cell c.in-None.ensures.found c.bring_new.result
    c.bring_new.new.sets.entries (non_zero_usize_get c.args.ways) c.args.line c.requires.ways
    c.bring_new.ensures.used c.bring_new.ensures.refused
