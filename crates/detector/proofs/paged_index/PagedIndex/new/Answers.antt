use Rattle.std.proofs.Common.{arith}
use Rattle.std.proofs.lemmas.Grind.{common_steps}
use Rattle.detector.specs.Laws.Entries.{blank_entries}
use Rattle.detector.specs.PagedEntries.{paged_entry}
use Rattle.detector.proofs.paged_index.PagedIndex.new.Goals as goal

pub returns : goal.returns
returns c = blank_entries (paged_entry (record {
  directories = c.new.result;
  alloc =
      c.args.alloc;
}))
    (λ q. grind (arith, common_steps, c.new.ensures.items))
