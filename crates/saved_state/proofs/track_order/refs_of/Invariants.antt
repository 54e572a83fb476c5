use Rattle.std.proofs.Common.{◌≡◌, take, map}
use Rattle.saved_state.specs.WrittenParts.{track_of}
use Rattle.saved_state.proofs.track_order.refs_of.Given as goal

abbrev pub invariant-loop-track : goal.invariant-loop-track
invariant-loop-track l = map track_of l.refs.items ≡ take l.track-index l.tracks
