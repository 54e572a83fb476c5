-- What is noted is seen, and what stands for a list has its report.
use Rattle.std.proofs.Common.{◌≡◌, ◌<◌, List, [], ◌∷◌, ◌++◌, IsTrue, refl, sym, ap, subst}
use Rattle.objects.specs.Symbols.{kept_symbol}
use Rattle.objects.specs.Laws.Symbols.{symbols_of-alone}
use Rattle.detector.specs.Standing.{StandsFor}
use Rattle.detector.specs.Watch.{Watch, watched}
use Rattle.base.specs.Lines.{is_layout}
use Rattle.base.specs.Touch.{Touch}
use Rattle.base.specs.declared.ending.Ending.{Ending}
use Rattle.report.specs.Laws.OfLists.{listed_tracks-kept}
use Rattle.report.specs.OfLists.{report_of}
use Rattle.report.specs.Reports.{report_lines}
use Rattle.sharing_rules.specs.AccessLists.{AccessList}
use Rattle.sharing_rules.specs.Listed.{may_predict}
use Rattle.base.specs.TextLines.{text_of}
use Rattle.trace_format.specs.declared.record.TraceRecord.{TraceRecord}
use Rattle.trace_format.specs.declared.record.TraceRecord.TheVariants as records
use Rattle.observations.specs.Seen.{HasSeen, IsNotable}
use Rattle.observations.specs.Laws.Seen.{observed_after-push}
use Rattle.observations.specs.ObservedTraces.{ObservedTrace, noted, report_of_observed}
use Rattle.observations.specs.ObservedTraces.{observed_after}
use Rattle.trace_format.specs.Laws.Touches.{stands-none}
use Rattle.trace_format.specs.Rules.{touches_in}
use Rattle.observations.proofs.NextLaws.{seen_nothing, sees_next}
use Rattle.sharing_rules.specs.Laws.Lists.{by_push}

-- where one stood for a list, it stands for the list with an access
abbrev pub StandsOn : Type 0
StandsOn = (w : Watch) (t : AccessList) (a : Touch) → IsTrue (is_layout w.grid.size w.grid.offset)
    → IsTrue (may_predict w.grid w.levels) → 0 < w.levels.tracking → StandsFor t w
    → StandsFor (t ++ a ∷ []) (watched w a)

stands_noted : StandsOn → (s : ObservedTrace) (x : TraceRecord) → IsNotable s → (t : AccessList)
    → StandsFor t s.watch → StandsFor (t ++ touches_in (x ∷ [])) (noted s x).watch
stands_noted stands_on s (records.Touch a pc) good t stood =
    stands_on s.watch t a good.layout good.native good.some stood
stands_noted stands_on s (records.Alloc addr size sites) good t stood =
    stands-none StandsFor s.watch t stood
stands_noted stands_on s (records.Free addr) good t stood = stands-none StandsFor s.watch t stood
stands_noted stands_on s (records.Symbol kind addr size name) good t stood =
    stands-none StandsFor s.watch t stood
stands_noted stands_on s (records.End e) good t stood = stands-none StandsFor s.watch t stood

-- and leaves what is good so
notable_on : (s : ObservedTrace) (x : TraceRecord) → IsNotable s → IsNotable (noted s x)
notable_on s (records.Touch a pc) good =
    record { layout = good.layout; native = good.native; some = good.some; apart = good.apart }
notable_on s (records.Alloc addr size sites) good =
    record { layout = good.layout; native = good.native; some = good.some; apart = good.apart }
notable_on s (records.Free addr) good =
    record { layout = good.layout; native = good.native; some = good.some; apart = good.apart }
notable_on s (records.Symbol kind addr size name) good = record {
  layout = good.layout;
  native = good.native;
  some = good.some;
  apart = symbols_of-alone (s.objects.symbols ++ kept_symbol kind addr size name ∷ []);
}
notable_on s (records.End e) good = good

module _ (stands_on : StandsOn) (begun : ObservedTrace) where
  abbrev SeenWell : List TraceRecord → Type 0
  SeenWell items = HasSeen begun (observed_after begun items) items
      × IsNotable (observed_after begun items)

  one_more : (items : List TraceRecord) (x : TraceRecord) → SeenWell items
      → SeenWell (items ++ x ∷ [])
  one_more items x so_far =
      let now : ObservedTrace = observed_after begun items in
      let P : ObservedTrace → Type 0 = λ s. HasSeen begun s (items ++ x ∷ []) × IsNotable s in
      subst P (sym (observed_after-push begun items x)) (
        sees_next now (noted now x) x refl (stands_noted stands_on now x so_far.1) begun items so_far.0,
        notable_on now x so_far.1,
      )

  pub seen_noted : (items : List TraceRecord) → IsNotable begun
      → HasSeen begun (observed_after begun items) items
  seen_noted items good = (by_push SeenWell
      (seen_nothing begun good.apart, good) one_more items).0

pub reported_as_list : (ending : Ending) (s : ObservedTrace) (t : AccessList) → IsNotable s
    → StandsFor t s.watch
    → report_of_observed ending s ≡ report_of ending s.watch.grid s.watch.levels s.objects t
unfolding report_of_observed report_of
reported_as_list ending s t good stood =
    ap (λ lines. text_of (report_lines ending s.watch.grid s.watch.levels s.objects lines))
    (listed_tracks-kept s.watch.grid s.watch.levels t s.watch.tracks good.layout good.native
    stood.tracks)
