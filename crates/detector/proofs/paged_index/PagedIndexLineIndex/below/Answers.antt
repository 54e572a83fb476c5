use Rattle.std.proofs.Common.{◌-◌, ◌≤◌, ◌^◌, arith, sym, ◌∙◌}
use Rattle.detector.specs.Laws.Entries.{entry_at-entries_of}
use Rattle.detector.specs.PagedEntries.{paged_entry}
use Rattle.detector.proofs.paged_index.PagedIndexLineIndex.below.Goals as goal

pub returns-clause-value : goal.returns-clause-value
returns-clause-value c =
    let small : c.args.line - 1 ≤ 2 ^ 30 = omega (arith, c.requires) in
    c.entry_below.ensures ∙ sym (entry_at-entries_of (paged_entry c.args.self.now) (c.args.line - 1)
    small)
