use Rattle.std.proofs.Common.{◌≡◌, sym, ◌∙◌, rules}
use Rattle.detector.specs.Entries.{blank_entry}
use Rattle.detector.specs.Laws.Entries.{entry_at-entries_of}
use Rattle.detector_tests.specs.MapEntries.{map_entry}
use Rattle.detector_tests.proofs.map_index.MapIndexLineIndex.peek.Goals as goal

pub returns-in-Some : goal.returns-in-Some
returns-in-Some c =
    let found : c.in-Some.entry.now ≡ map_entry c.args.self.now c.args.line = search rules in
    found ∙ sym (entry_at-entries_of (map_entry c.args.self.now) c.args.line c.requires)

pub returns-in-None : goal.returns-in-None
returns-in-None c =
    let missing : blank_entry ≡ map_entry c.args.self.now c.args.line = search rules in
    c.blank.ensures ∙ missing ∙ sym (entry_at-entries_of (map_entry c.args.self.now) c.args.line c.requires)
