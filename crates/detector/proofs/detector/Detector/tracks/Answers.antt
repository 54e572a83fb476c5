-- What is kept of a list is counted, kind by kind.
use Rattle.std.proofs.Common.{◌≡◌, ℕ, subst}
use Rattle.std.specs.Prelude.{IsTrue, Some, slice_get}
use Rattle.base.specs.Lines.{is_layout}
use Rattle.sharing_rules.specs.Listed.{may_predict}
use Rattle.detector.specs.Entries.{entry_at}
use Rattle.line_tracks.specs.TrackValue.{TrackValue}
use Rattle.line_tracks.specs.Placed.{AreApart}
use Rattle.detector.specs.Index.{IsShaped, names_in}
use Rattle.detector.specs.Named.{line_of_base}
use Rattle.detector.specs.Watch.{Watch}
use Rattle.detector.proofs.NamedLaws.{apart_tracks}
use Rattle.detector.proofs.AmountLaws.{few_at_each, few_entries, few_words, fewer_shifted_tracks}
use Rattle.detector.proofs.AmountLaws.{half_doubled_tracks, small_unpredicted}
use Rattle.detector.proofs.QuietLaws.{quiet_tracks}
use Rattle.detector.proofs.StatedLaws.{stated_tracks}
use Rattle.detector.proofs.detector.Detector.tracks.Goals as goal

abbrev IsAllowed : Watch → Type 0
IsAllowed w = IsTrue (is_layout w.grid.size w.grid.offset) × IsTrue (may_predict w.grid w.levels)

-- each track lies as its kind says
abbrev AreShaped : Watch → Type 0
AreShaped w = (i : ℕ) (x : TrackValue) → slice_get w.tracks i ≡ Some x
    → IsShaped w.grid (line_of_base w.grid x.range) x.kind x.range

pub returns-clause-apart : goal.returns-clause-apart
returns-clause-apart g c =
    let d = c.self.inside in
    subst (λ (w : Watch). AreApart w.tracks) c.self.view_is
    (apart_tracks (names_in (entry_at (g.I.LineIndex.entries d.index))) d.layout d.tracks
    c.self.invariant.0.names)

pub returns-clause-shaped : goal.returns-clause-shaped
returns-clause-shaped g c = subst AreShaped c.self.view_is c.self.invariant.0.names.shaped

pub returns-clause-stated : goal.returns-clause-stated
returns-clause-stated g c = λ t stands.
    let allowed = subst IsAllowed c.self.view_is (c.self.invariant.1, c.self.invariant.2) in
    stated_tracks t _ allowed.0 allowed.1 stands

pub returns-clause-shifted : goal.returns-clause-shifted
returns-clause-shifted g c = λ t stands. fewer_shifted_tracks t _
    (subst IsAllowed c.self.view_is (c.self.invariant.1, c.self.invariant.2)).1 stands

pub returns-clause-doubled : goal.returns-clause-doubled
returns-clause-doubled g c = λ t stands. half_doubled_tracks t _
    (subst IsAllowed c.self.view_is (c.self.invariant.1, c.self.invariant.2)).1
    stands

pub returns-clause-entries : goal.returns-clause-entries
returns-clause-entries g c = λ t stands. few_entries t _
    (subst IsAllowed c.self.view_is (c.self.invariant.1, c.self.invariant.2)).1 stands

pub returns-clause-words : goal.returns-clause-words
returns-clause-words g c = λ t stands.
    let allowed = subst IsAllowed c.self.view_is (c.self.invariant.1, c.self.invariant.2) in
    few_words t _ allowed.0 allowed.1 stands

pub returns-clause-unpredicted : goal.returns-clause-unpredicted
returns-clause-unpredicted g c = λ t stands. small_unpredicted t _
    (subst IsAllowed c.self.view_is (c.self.invariant.1, c.self.invariant.2)).1 stands

pub returns-clause-few_at_each : goal.returns-clause-few_at_each
returns-clause-few_at_each g c = λ t stands.
    let allowed = subst IsAllowed c.self.view_is (c.self.invariant.1, c.self.invariant.2) in
    few_at_each t _ allowed.0 allowed.1 stands

pub returns-clause-quiet : goal.returns-clause-quiet
returns-clause-quiet g c = λ t stands.
    let allowed = subst IsAllowed c.self.view_is (c.self.invariant.1, c.self.invariant.2) in
    quiet_tracks t _ allowed.0 allowed.1 stands
