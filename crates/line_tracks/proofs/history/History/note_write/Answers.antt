-- The answer is whether another hart is among the entries.
use Rattle.std.proofs.Common.{◌≡◌, rules, ◌∙◌}
use Rattle.std.specs.Prelude.{eqb, not}
use Rattle.line_tracks.specs.Entries.{has_another}
use Rattle.line_tracks.proofs.EntryLaws.{another-held, entries-write}
use Rattle.line_tracks.proofs.history.History.note_write.Goals as goal

pub returns-clause-held : goal.returns-clause-held
returns-clause-held c = λ line_of t r written e.
    let exact : not (eqb c.self.inside.both c.from.result)
    ≡ has_another c.args.self.now c.args.hart = search rules in
    exact ∙ another-held line_of t r c.args.self.now c.args.hart written e

pub returns-clause-arrived : goal.returns-clause-arrived
returns-clause-arrived c = λ inside t a here writes same. c.self-2.view_is ∙ c.one.ensures
    ∙ entries-write inside t a c.args.hart here writes same
