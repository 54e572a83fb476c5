-- The report of findings, as a text of lines of words.
use Rattle.std.specs.Prelude.{ℕ, List, [], ◌∷◌, ◌++◌, codes, length, flat_map}
use Rattle.std.specs.Fmt.{decimal}
use Rattle.base.specs.TextLines.{text_of}
use Rattle.base.specs.Levels.{Levels}
use Rattle.base.specs.Lines.{Grid}
use Rattle.base.specs.declared.ending.Ending.{Ending}
use Rattle.objects.specs.Objects.{Objects}
use Rattle.report.specs.Shown.{ShownLine, listed_tracks}
use Rattle.report.specs.Lines.{TextLine, head_line, object_lines, outcome_words, threshold_word}
use Rattle.report.specs.Lines.{word_lines}
use Rattle.report.specs.declared.findings.Findings.{Findings}

-- how it ended, after how many steps and accesses
abbrev pub outcome_lines : Ending → List TextLine
outcome_lines ending =
    (codes "outcome" ∷ outcome_words ending.outcome)
    ∷ (codes "steps" ∷ decimal ending.steps ∷ [])
    ∷ (codes "accesses" ∷ decimal ending.accesses ∷ []) ∷ []

-- the same behind the first line of a report
abbrev pub ending_lines : Ending → List TextLine
ending_lines ending =
    (codes "predator" ∷ codes "report" ∷ codes "1" ∷ []) ∷ outcome_lines ending

abbrev pub threshold_line : Levels → TextLine
threshold_line v =
    codes "thresholds" ∷ decimal v.tracking ∷ threshold_word v.prediction ∷ decimal v.report ∷ []

-- the layout, the thresholds, and how many lines are listed
abbrev pub setting_lines : Grid → Levels → ℕ → List TextLine
setting_lines g v count =
    (codes "layout" ∷ decimal g.size ∷ decimal g.offset ∷ [])
    ∷ threshold_line v
    ∷ (codes "lines" ∷ decimal count ∷ []) ∷ []

-- a listed line, what stands on it, and its accessed words; `end` is where the accesses end
abbrev pub lines_of : Objects → ℕ → ShownLine → List TextLine
lines_of objects end l = head_line l ∷ object_lines objects end l ++ word_lines l.range l.words

-- the whole report, from its listed lines and the objects
abbrev pub report_lines : Ending → Grid → Levels → Objects → List ShownLine → List TextLine
report_lines ending g v objects listed =
    ending_lines ending
    ++ setting_lines g v (length listed)
    ++ flat_map (lines_of objects ending.accesses) listed
    ++ (codes "end" ∷ []) ∷ []

-- the report of findings, from their listed lines
abbrev pub lines_of_findings : Findings → List ShownLine → List TextLine
lines_of_findings f = report_lines f.ending f.layout f.thresholds f.objects.now

-- the text of findings
abbrev pub report_text : Findings → List ℕ
report_text f = text_of (lines_of_findings f (listed_tracks f.thresholds.report f.tracks.now))
