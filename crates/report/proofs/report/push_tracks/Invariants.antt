use Rattle.std.proofs.Common.{◌≡◌, ◌++◌, string_bytes, take, map}
use Rattle.std.specs.List.{flat_map}
use Rattle.base.specs.TextLines.{text_of}
use Rattle.report.specs.Reports.{lines_of}
use Rattle.report.specs.ListedTracks.{track_shown}
use Rattle.report.proofs.report.push_tracks.Given as goal

abbrev pub invariant-loop-row : goal.invariant-loop-row
invariant-loop-row l = string_bytes l.text ≡ string_bytes l.fn.text ++ text_of
    (flat_map (lines_of l.index l.end) (map track_shown (take l.row-index l.rows)))
