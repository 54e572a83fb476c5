use Rattle.detector.proofs.StandsLaws.{stands_watched}
use Rattle.detector.proofs.WatchLaws.{none_added, tracks_touched, writes_counted}
use Rattle.detector.proofs.laws.an_access_changes_what_it_meets.Goals as goal

pub returns-clause-writes : goal.returns-clause-writes
returns-clause-writes c = writes_counted

pub returns-clause-tracks : goal.returns-clause-tracks
returns-clause-tracks c = tracks_touched

pub returns-clause-none_added : goal.returns-clause-none_added
returns-clause-none_added c = none_added

pub returns-clause-stands : goal.returns-clause-stands
returns-clause-stands c = λ w t a layout native some stands. stands_watched t a w layout native some
    stands
