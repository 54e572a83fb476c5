use Rattle.std.proofs.Common.{ap, ◌∙◌}
use Rattle.finite_cache.specs.Bounded.{line_in}
use Rattle.finite_cache.specs.KeptParts.{parts_of}
use Rattle.finite_cache.specs.Laws.Shapes.{some-sets}
use Rattle.finite_cache.specs.Laws.Steps.{quiet-has, there-at, write-at}
use Rattle.finite_cache.proofs.step.write.Goals as goal

pub returns-in-Err-come-clause-known : goal.returns-in-Err-come-clause-known
returns-in-Err-come-clause-known c = λ quiet.
    c.in-Err-come.ensures.known
    (quiet-has c.args.shape (parts_of c.args.sets.now c.args.lines.now c.args.rows.now)
    c.args.access.now c.line_of-line.result c.hart-hart.result
    (c.line_of-line.ensures.value ∙ ap (line_in c.args.shape) c.addr.ensures)
    c.hart-hart.ensures.value quiet)

pub take_line-cached-requires : goal.take_line-cached-requires
take_line-cached-requires c =
    there-at c.args.shape (parts_of c.args.sets.now c.args.lines.now c.args.rows.now)
    c.args.access.now (some-sets c.args.shape c.requires.shaped) c.line_of-line.result
    c.hart-hart.result (c.line_of-line.ensures.value ∙ ap (line_in c.args.shape) c.addr.ensures)
    c.hart-hart.ensures.value c.come.new.sets.entries c.come.new.lines.entries (record {
      used_there = c.in-Ok-come.ensures.used;
      harts = c.in-Ok-come.ensures.harts;
      evicted = c.in-Ok-come.ensures.evicted;
    })

pub returns-clause-stepped : goal.returns-clause-stepped
returns-clause-stepped c =
    write-at c.args.shape (parts_of c.args.sets.now c.args.lines.now c.args.rows.now)
    c.args.access.now (some-sets c.args.shape c.requires.shaped) c.line_of-line.result
    c.hart-hart.result (c.line_of-line.ensures.value ∙ ap (line_in c.args.shape) c.addr.ensures)
    c.hart-hart.ensures.value c.come.new.sets.entries c.come.new.lines.entries (record {
      used_there = c.in-Ok-come.ensures.used;
      harts = c.in-Ok-come.ensures.harts;
      evicted = c.in-Ok-come.ensures.evicted;
    }) c.requires.fit.noted c.requires.writes c.take_line-cached.new.sets.entries
    c.take_line-cached.new.lines.entries c.take_line-cached.result.0
    c.take_line-cached.result.1 (record {
      was_cached = c.take_line-cached.ensures.cached;
      was_held = c.take_line-cached.ensures.held;
      out = c.take_line-cached.ensures.out;
      alone = c.take_line-cached.ensures.settled;
    }) c.args.position c.make_room.new.rows.entries c.count_write.new.rows.entries
    c.in-Ok.ensures.same c.count_write.ensures

pub returns-clause-kept : goal.returns-clause-kept
returns-clause-kept c =
    c.take_line-cached.ensures.kept c.args.shape.ways c.in-Ok-come.ensures.kept
