use Rattle.finite_cache.specs.Laws.Stated.{found-none, found-out, out-none, taken-out, ways-out}
use Rattle.finite_cache.proofs.tables.take_out.Goals as goal

pub returns-in-Some-clause-found : goal.returns-in-Some-clause-found
returns-in-Some-clause-found c =
    found-out c.args.sets.now.entries c.args.cell c.in-Some.index c.in-Some.ensures.index
    c.in-Some.ensures.value c.in-Some.ensures.found c.take_out_at.result c.args.line
    c.take_out_at.ensures.found

pub returns-in-Some-clause-out : goal.returns-in-Some-clause-out
returns-in-Some-clause-out c =
    taken-out c.args.sets.now.entries c.args.cell c.in-Some.index c.in-Some.ensures.index
    c.in-Some.ensures.value c.in-Some.ensures.found c.take_out_at.new.sets.entries c.args.line
    c.take_out_at.ensures.out

pub returns-in-Some-clause-kept : goal.returns-in-Some-clause-kept
returns-in-Some-clause-kept c =
    ways-out c.args.sets.now.entries c.args.cell c.in-Some.index c.in-Some.ensures.index
    c.in-Some.ensures.value c.in-Some.ensures.found c.take_out_at.new.sets.entries c.args.line
    c.take_out_at.ensures.out

pub returns-in-None-clause-found : goal.returns-in-None-clause-found
returns-in-None-clause-found c =
    found-none c.args.sets.now.entries c.args.cell c.in-None.ensures.found c.args.line

pub returns-in-None-clause-out : goal.returns-in-None-clause-out
returns-in-None-clause-out c =
    out-none c.args.sets.now.entries c.args.cell c.in-None.ensures.found c.args.line
