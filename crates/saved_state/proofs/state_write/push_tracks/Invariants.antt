use Rattle.std.proofs.Common.{◌≡◌, ◌++◌, take, map}
use Rattle.std.specs.Prelude.{flat_map}
use Rattle.saved_state.specs.WrittenParts.{track_of}
use Rattle.saved_state.specs.Spelling.{spell_track}
use Rattle.saved_state.proofs.state_write.push_tracks.Given as goal

abbrev pub invariant-loop-one : goal.invariant-loop-one
invariant-loop-one l = l.bytes.items ≡ l.fn.bytes.items
    ++ flat_map spell_track (map track_of (take l.one-index l.refs))
