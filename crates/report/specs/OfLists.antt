-- The report of an access list.
use Rattle.std.specs.Prelude.{ℕ, List, map}
use Rattle.std.specs.List.Sorted.{IsPermutation}
use Rattle.base.specs.TextLines.{text_of}
use Rattle.base.specs.Levels.{Levels}
use Rattle.base.specs.Lines.{Grid}
use Rattle.base.specs.declared.ending.Ending.{Ending}
use Rattle.objects.specs.Objects.{Objects}
use Rattle.sharing_rules.specs.AccessLists.{AccessList}
use Rattle.sharing_rules.specs.Lines.{range_of}
use Rattle.sharing_rules.specs.Listed.{Finding, listed}
use Rattle.sharing_rules.specs.Words.{words_since}
use Rattle.sharing_rules.specs.Opened.{opened}
use Rattle.line_tracks.specs.KeptIn.{kept_in}
use Rattle.report.specs.declared.findings.Findings.{Findings}
use Rattle.report.specs.Shown.{ShownLine}
use Rattle.report.specs.Reports.{report_lines}

-- a tracked line of a list, with its words since its start
abbrev pub shown_in : AccessList → Finding → ShownLine
shown_in t f = record {
  kind = f.kind;
  range = range_of f.line;
  start = f.start;
  count = f.count;
  words = words_since f.line f.start t;
}

-- the report of a list: its listed lines in their order, with the objects on them
unfoldable pub report_of : Ending → Grid → Levels → Objects → AccessList → List ℕ
report_of ending g v objects t =
    text_of (report_lines ending g v objects (map (shown_in t) (listed g v t)))

-- the tracks of findings are those that a list keeps, in any order
abbrev pub AreTracksOf : AccessList → Findings → Type 0
AreTracksOf t f = IsPermutation f.tracks.now (map (kept_in t) (opened f.layout f.thresholds t))

-- the report of a list, with the ending, the layout, the thresholds and the objects of findings
abbrev pub report_of_list : AccessList → Findings → List ℕ
report_of_list t f = report_of f.ending f.layout f.thresholds f.objects.now t
