-- The command `filter`: a trace without its redundant accesses, written as the trace is read.
use Rattle.std.specs.Prelude.{◌≡◌, ◌<◌, ◌≤◌, ℕ, List, [], ◌∷◌, codes, length, Some}
use Rattle.std.specs.List.{All}
use Rattle.base.specs.Lines.{Grid}
use Rattle.command_line.specs.Filter.{FilterDemand}
use Rattle.filtered_counts.specs.SameCounts.{IsWithin, SameCounts, SameSweep}
use Rattle.filtered_counts.specs.SameHarts.{SameHarts}
use Rattle.invalidations.specs.BlameRecords.{sited_in}
use Rattle.sharing_rules.specs.Filtered.{filtered}
use Rattle.shelf.specs.Files.{Output, bytes_for}
use Rattle.shelf.specs.Shelf.{Files, content}
use Rattle.trace_filter.specs.FilterPass.{filtering, sited, written_of}
use Rattle.trace_filter.specs.Filtering.{filtered_trace}
use Rattle.trace_format.specs.Rules.{longest_trace, touches_in}
use Rattle.trace_passes.specs.Passes.{Trace, trace_of}
use Rattle.command_io.specs.Readings.{Reading, reading}
use Rattle.command_io.specs.Works.{Work}
use Rattle.predator_cli.specs.Copies.{copy_of, copy_text}
use Rattle.predator_cli.specs.Judged.{judged}
use Rattle.predator_cli.specs.Replay.{refuses_trace}

-- a trace with pcs that isn't filtered
abbrev pub filter_readings : FilterDemand → List Reading
filter_readings demand = reading demand.trace (refuses_trace sited demand.trace) ∷ []

-- how many accesses there are, and how many of them are kept
abbrev pub filter_text : ℕ → Trace → List ℕ
filter_text k t =
    copy_text (codes "filter") (length (touches_in t.items))
    (length (filtered k (touches_in t.items)))

-- the text and the filtered trace
abbrev pub filter_work : FilterDemand → Files → Work
filter_work demand files =
    copy_of (filter_text demand.near) (filtering demand.near demand.file) demand.trace files

-- what is left of the file where the trace is refused: what stays of the records before its fault
abbrev pub filter_left : FilterDemand → Files → List Output
filter_left demand files = written_of demand.near demand.file (content files demand.trace)

-- ---- what its file is

-- Some bytes are the filtered trace of a trace: the accesses in them are the filtered list of its
-- own. The two lists have the misses and the invalidations of each line in common, those between
-- each two harts too, under every layout with lines of at most 2^k bytes.
pub record HasFilteredList (k : ℕ) (t : Trace) (bytes : List ℕ) : Type 0 where
  pub read : trace_of bytes ≡ Some (filtered_trace k t)
  pub accesses : touches_in (filtered_trace k t).items ≡ filtered k (touches_in t.items)
  pub counts : (g : Grid) → IsWithin k g
      → SameCounts g (touches_in t.items) (touches_in (filtered_trace k t).items)
  pub sweep : SameSweep k (touches_in t.items) (touches_in (filtered_trace k t).items)
  pub harts : (g : Grid) → IsWithin k g
      → SameHarts g (sited_in t.items) (sited_in (filtered_trace k t).items)

-- Where files hold the file that a filter wrote, of at most 2^44 bytes, it is so.
abbrev pub FilterRepeats : FilterDemand → Files → Type 0
FilterRepeats demand files =
    (t : Trace) (later : Files) → All (λ b. b < 256) (content files demand.trace)
    → trace_of (content files demand.trace) ≡ Some t
    → later demand.file
    ≡ bytes_for (judged (filter_readings demand) (filter_work demand) files).outputs demand.file
    → length (content later demand.file) ≤ longest_trace
    → HasFilteredList demand.near t (content later demand.file)
