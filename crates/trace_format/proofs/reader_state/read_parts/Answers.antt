use Rattle.std.proofs.Common.{◌≡◌, ◌≤◌, ◌+◌, None, length, refl, sym, arith}
use Rattle.trace_format.specs.Rules.{longest_trace}
use Rattle.trace_format.specs.Reading.{place_reached}
use Rattle.trace_format.proofs.ReadParts.{fault_ends, front_extent, none_there, nothing_read}
use Rattle.trace_format.proofs.ReadParts.{part_is_read, part_is_some, rest_waits}
use Rattle.trace_format.proofs.ReadParts.{run_is_read}
use Rattle.trace_format.proofs.reader_state.read_parts.Goals as goal

pub read_part-requires-clause-long : goal.read_part-requires-clause-long
read_part-requires-clause-long c =
    front_extent c.read_accesses-front.new.state.progress c.read_accesses-front.new.state.ending
    c.read_accesses-front.result.now _
    c.extent_in-size.result c.split_at.ensures.front c.extent_in-size.ensures (omega arith)

pub read_part-requires-clause-some : goal.read_part-requires-clause-some
read_part-requires-clause-some c =
    omega (
      arith,
      c.split_at.ensures.front_len,
      part_is_some c.read_accesses-front.new.state.progress c.read_accesses-front.new.state.ending
          c.read_accesses-front.result.now
          c.extent_in-size.result c.extent_in-size.ensures,
    )

pub loop-alloc-smaller : goal.loop-alloc-smaller
loop-alloc-smaller c =
    omega (
      arith,
      c.split_at.ensures.back_len,
      c.read_accesses-front.ensures.fewer,
      part_is_some c.read_accesses-front.new.state.progress c.read_accesses-front.new.state.ending
          c.read_accesses-front.result.now
          c.extent_in-size.result c.extent_in-size.ensures,
    )

pub loop-alloc-preserved : goal.loop-alloc-preserved
loop-alloc-preserved c =
    let clean : c.loop-alloc.state.fault ≡ None = none_there _ (sym c.loop-alloc-test.ensures) in
    let run = c.read_accesses-front in
    let size : c.extent_in-size.result ≤ length run.result.now = omega arith in
    let low : place_reached run.new.state.progress + length run.result.now ≤ longest_trace = omega (
      arith,
      run.ensures.exact,
      c.loop-alloc.invariant.low,
    ) in
    let fits : place_reached run.new.state.progress + c.extent_in-size.result ≤ longest_trace =
    omega arith in
    let to = run_is_read _ _ _ c.loop-alloc.state c.loop-alloc.rest.now c.loop-alloc.into.items
    clean c.loop-alloc.invariant.read
    run.new.state run.result.now run.new.into.items run.ensures.clean run.ensures.head
    run.ensures.read in
    record {
      sound = c.read_part.ensures.sound;
      low = omega (
        arith,
        c.split_at.ensures.back_len,
        c.split_at.ensures.front_len,
        c.read_part.ensures.place,
        low,
      );
      within = omega (
        arith,
        c.split_at.ensures.back_len,
        c.split_at.ensures.front_len,
        c.read_part.ensures.place,
        run.ensures.exact,
        c.loop-alloc.invariant.within,
      );
      exact = λ still. omega (
        arith,
        c.split_at.ensures.back_len,
        c.split_at.ensures.front_len,
        c.read_part.ensures.exact still,
        run.ensures.exact,
        c.loop-alloc.invariant.exact clean,
      );
      read = part_is_read _ _ _ run.new.state run.result.now run.new.into.items run.ensures.clean to
          c.extent_in-size.result
          c.split_at.result.0.now c.split_at.result.1.now c.read_part.new.state
          c.read_part.new.into.items
          c.split_at.ensures.front c.split_at.ensures.back c.extent_in-size.ensures size fits
          c.read_part.ensures.read
          c.read_part.ensures.no_memory
          c.read_part.ensures.same;
    }

pub loop-alloc-init : goal.loop-alloc-init
loop-alloc-init c =
    record {
      sound = c.requires.sound;
      low = c.requires.low;
      within = omega arith;
      exact = λ _. refl;
      read = nothing_read c.args.state.now c.args.bytes.now c.args.into.now.items c.requires.clean;
    }

pub returns-clause-fault : goal.returns-clause-fault
returns-clause-fault c = λ there enough. fault_ends _ _ _ c.loop-alloc.state _ _
    c.loop-alloc.invariant.read there enough

pub returns-then-front-size-clause-read : goal.returns-then-front-size-clause-read
returns-then-front-size-clause-read c = λ clean.
    let was : c.loop-alloc.state.fault ≡ None = none_there _ (sym c.loop-alloc-test.ensures) in
    let run = c.read_accesses-front in
    let to = run_is_read _ _ _ c.loop-alloc.state c.loop-alloc.rest.now c.loop-alloc.into.items was
    c.loop-alloc.invariant.read
    run.new.state run.result.now run.new.into.items run.ensures.clean run.ensures.head
    run.ensures.read in
    rest_waits _ _ _ run.new.state run.result.now run.new.into.items clean to
    (omega (arith, c.extent_in-size.ensures))
    (omega (arith, run.ensures.exact, c.loop-alloc.invariant.low))
