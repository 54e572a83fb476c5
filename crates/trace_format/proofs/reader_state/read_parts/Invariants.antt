use Rattle.std.proofs.Common.{◌≡◌, None, ◌≤◌, ◌+◌, length, []}
use Rattle.std.specs.Option.{ForSome}
use Rattle.trace_format.specs.Reading.{place_reached}
use Rattle.trace_format.specs.Rules.{longest_trace}
use Rattle.trace_format.specs.Sound.{IsSound}
use Rattle.trace_format.specs.ReaderStates.{reading_with}
use Rattle.trace_format.proofs.ReadParts.{IsReadTo}
use Rattle.trace_format.proofs.reader_state.read_parts.Given as goal

abbrev pub invariant-loop-alloc : goal.invariant-loop-alloc
invariant-loop-alloc l = record {
  sound : ForSome l.state.progress IsSound;
  low : place_reached l.state.progress + length l.rest ≤ longest_trace;
  within : place_reached l.state.progress + length l.rest ≤ place_reached l.fn.state.progress + length
      l.bytes;
  exact : l.state.fault ≡ None → place_reached l.state.progress + length l.rest
      ≡ place_reached l.fn.state.progress + length l.bytes;
  read : IsReadTo (reading_with l.fn.state []) l.bytes l.fn.into.items l.state l.rest l.into.items;
}

abbrev pub decreases-loop-alloc : goal.decreases-loop-alloc
decreases-loop-alloc l = length l.rest
