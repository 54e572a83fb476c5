-- Both ways the new entries are those after a read.
use Rattle.std.proofs.Common.{◌≡◌, ◌+◌, ◌*◌, rules, ◌∙◌}
use Rattle.line_tracks.specs.Entries.{entries_after_read}
use Rattle.line_tracks.specs.HistoryFields.{entries_of}
use Rattle.line_tracks.proofs.EntryLaws.{entries-read}
use Rattle.line_tracks.proofs.history.History.note_read.Goals as goal

pub returns-then-self-number-clause-arrived : goal.returns-then-self-number-clause-arrived
returns-then-self-number-clause-arrived c = λ inside t a written here quiet same e.
    let exact : entries_of (c.self.inside.both + 256 * (c.from-number.result + 1))
    ≡ entries_after_read c.args.self.now c.args.hart = search rules in
    exact ∙ entries-read inside t a c.args.self.now c.args.hart written here quiet same e

pub returns-else-self-eq0-clause-arrived : goal.returns-else-self-eq0-clause-arrived
returns-else-self-eq0-clause-arrived c = λ inside t a written here quiet same e.
    let exact : c.args.self.now ≡ entries_after_read c.args.self.now c.args.hart = search rules in
    exact ∙ entries-read inside t a c.args.self.now c.args.hart written here quiet same e
