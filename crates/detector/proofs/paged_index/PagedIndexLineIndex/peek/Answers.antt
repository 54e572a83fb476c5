use Rattle.std.proofs.Common.{sym, ◌∙◌}
use Rattle.detector.specs.Laws.Entries.{entry_at-entries_of}
use Rattle.detector.specs.PagedEntries.{paged_entry}
use Rattle.detector.proofs.paged_index.PagedIndexLineIndex.peek.Goals as goal

pub returns-in-Some : goal.returns-in-Some
returns-in-Some c = c.in-Some.ensures ∙ sym (entry_at-entries_of
    (paged_entry c.args.self.now) c.args.line c.requires)

pub returns-in-None : goal.returns-in-None
returns-in-None c = c.in-None.ensures ∙ sym (entry_at-entries_of
    (paged_entry c.args.self.now) c.args.line c.requires)
