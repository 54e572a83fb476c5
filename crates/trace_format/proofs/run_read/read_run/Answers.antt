use Rattle.trace_format.specs.Rules.{longest_trace}
use Rattle.std.proofs.Common.{◌≤◌, ◌+◌, Some, None, ap, ◌∙◌, arith}
use Rattle.trace_format.specs.declared.read_so_far.ReadSoFar.{ReadSoFar}
use Rattle.trace_format.specs.ReaderStates.{HasAccess}
use Rattle.trace_format.proofs.ReadParts.{part_is_some}
use Rattle.trace_format.proofs.Runs.{access_is_read}
use Rattle.trace_format.proofs.run_read.read_run.Goals as goal

pub count_access-requires-clause-some : goal.count_access-requires-clause-some
count_access-requires-clause-some c =
    let has : HasAccess c.loop-ahead.progress c.loop-ahead.rest.now c.in-Some.ahead.access
    c.in-Some.ahead.pc c.in-Some.ahead.size = c.in-Some.ensures in
    part_is_some (Some c.loop-ahead.progress) None c.loop-ahead.rest.now c.in-Some.ahead.size
    has.extent

pub loop-ahead-smaller : goal.loop-ahead-smaller
loop-ahead-smaller c =
    let has : HasAccess c.loop-ahead.progress c.loop-ahead.rest.now c.in-Some.ahead.access
    c.in-Some.ahead.pc c.in-Some.ahead.size = c.in-Some.ensures in
    omega (
      arith,
      part_is_some (Some c.loop-ahead.progress) None c.loop-ahead.rest.now c.in-Some.ahead.size
          has.extent,
      c.behind-rest.ensures.size,
    )

pub loop-ahead-preserved : goal.loop-ahead-preserved
loop-ahead-preserved c =
    let p = c.loop-ahead.progress in
    let rest = c.loop-ahead.rest.now in
    let size = c.in-Some.ahead.size in
    let has : HasAccess p rest c.in-Some.ahead.access c.in-Some.ahead.pc size = c.in-Some.ensures in
    let low : p.place + size ≤ longest_trace = omega
    (arith, has.there, c.requires.low, c.loop-ahead.invariant.exact) in
    let now = c.count_access.ensures.value in
    record {
      sound = c.count_access.ensures.sound;
      head = record {
        version = ap (λ (q : ReadSoFar). q.version) now ∙ c.loop-ahead.invariant.head.version;
        header = ap (λ (q : ReadSoFar). q.header) now ∙ c.loop-ahead.invariant.head.header;
      };
      fewer = omega (arith, c.behind-rest.ensures.size, c.loop-ahead.invariant.fewer);
      exact = omega (
        arith,
        ap (λ (q : ReadSoFar). q.place) now,
        c.behind-rest.ensures.size,
        c.loop-ahead.invariant.exact,
      );
      read = access_is_read _ _ _ p c.count_access.new.progress rest c.behind-rest.result.now
          c.loop-ahead.into.items c.put.new.into.items
          c.loop-ahead.invariant.read c.in-Some.ahead.access c.in-Some.ahead.pc size has low now
          c.behind-rest.ensures.value
          (c.put.ensures.put c.if-not-put.false);
    }
