-- The file of a filtered trace on its way.
use Rattle.std.specs.Prelude.{◌≡◌, ℕ, ◌<◌, ◌^◌, ◌++◌, List, length}
use Rattle.access_filter.specs.Standing.{near_of}
use Rattle.shelf.specs.Files.{Output, one_file}
use Rattle.shelf.specs.OnTheirWay.{IsOutputs}
use Rattle.shelf.specs.Shelf.{Outside}
use Rattle.trace_format.specs.declared.record.Header.{Header}
use Rattle.trace_format.specs.declared.record.TraceRecord.{TraceRecord}
use Rattle.trace_format.specs.declared.record.Version.TheVariants.{Four}
use Rattle.trace_format.specs.Rules.{touches_in}
use Rattle.trace_format.specs.Spelling.{nothing_before}
use Rattle.trace_format.specs.Writing.{before_behind, begun_with}
use Rattle.trace_filter.specs.Filtering.{filtered_header, filtered_items}
use Rattle.trace_filter.specs.Passages.{HasFiltered}
use Rattle.trace_filter.specs.declared.filter_file.FilterFile.{FilterFile}

-- the file of a name, for a trace with this header, once these of its records came
abbrev pub filtered_so_far : ℕ → List ℕ → Header → List TraceRecord → List Output
filtered_so_far k name h seen =
    one_file name (begun_with Four (filtered_header k h) (filtered_items k seen))

-- These records came, and what stays of them is on its way since a shelf was as it was then.
pub record IsUnderWay (k : ℕ) (name : List ℕ) (h : Header) (f : FilterFile)
    (seen : List TraceRecord) (before now : Outside) : Type 0 where
  pub near : near_of f.records.filter ≡ k
  pub filtered : HasFiltered seen f.records
  pub writer : f.writer
      ≡ record { version = Four; before = before_behind nothing_before (filtered_items k seen) }
  pub outputs : IsOutputs f.files (filtered_so_far k name h seen) before now

-- one record more may come, of fewer accesses than can be counted
pub record MayCome (f : FilterFile) (now : Outside) : Type 0 where
  pub k : ℕ
  pub name : List ℕ
  pub header : Header
  pub seen : List TraceRecord
  pub before : Outside
  pub came : IsUnderWay k name header f seen before now
  pub room : length (touches_in seen) < 2 ^ 63

-- the same of some records, one after another
pub record MayComeAll (f : FilterFile) (items : List TraceRecord) (now : Outside) : Type 0 where
  pub k : ℕ
  pub name : List ℕ
  pub header : Header
  pub seen : List TraceRecord
  pub before : Outside
  pub came : IsUnderWay k name header f seen before now
  pub room : length (touches_in (seen ++ items)) < 2 ^ 63
