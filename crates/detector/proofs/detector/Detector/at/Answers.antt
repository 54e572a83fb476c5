use Rattle.std.proofs.Common.{◌≡◌, List, sym, ap, ◌∙◌, subst}
use Rattle.sharing_rules.specs.Listed.{may_predict}
use Rattle.line_tracks.specs.TrackValue.{TrackValue}
use Rattle.detector.specs.Entries.{entry_at}
use Rattle.detector.specs.Counts.{counts_of, no_writes}
use Rattle.detector.specs.Index.{IsIndexed}
use Rattle.detector.proofs.CountLaws.{counts-empty}
use Rattle.detector.proofs.AfterLaws.{indexed-empty}
use Rattle.detector.proofs.detector.Detector.at.Goals as goal

pub invariant_of-result : goal.invariant_of-result
invariant_of-result g c = (
  subst (λ (xs : List TrackValue). IsIndexed (entry_at (g.I.LineIndex.entries c.args.index)) c.args.layout
      xs c.of.result.tracking
      c.args.position) (sym c.new.ensures)
      (indexed-empty (g.I.LineIndex.entries c.args.index) c.args.layout c.of.result.tracking
      c.args.position c.requires.empty),
  c.size-size.ensures.allowed,
  ap (may_predict c.args.layout) c.of.ensures ∙ c.requires.native,
)

pub returns : goal.returns
returns g c =
    let none : counts_of (g.I.LineIndex.entries c.args.index) ≡ no_writes =
    ap counts_of c.requires.empty ∙ counts-empty in
    rw (none, c.of.ensures, c.new.ensures)
