-- What a listed track shows: itself from its start on.
use Rattle.report.specs.Shown.{ShownLine, shown_from}
use Rattle.report.specs.declared.listing.ListedTrack.{ListedTrack}

abbrev pub track_shown : ListedTrack → ShownLine
track_shown x = shown_from x.track.now x.start
