-- A trace that is cut in parts, each counted from the state of those before it: what the calls
-- find, and what the last one answers.
use Rattle.trace_format.specs.declared.record.Version.TheVariants.{Four}
use Rattle.std.specs.Prelude.{◌≡◌, ◌≢◌, ◌≤◌, ◌<◌, ◌^◌, ℕ, List, [], ◌∷◌, length, IfSome, IsTrue}
use Rattle.std.specs.Prelude.{Option, Some, None}
use Rattle.std.specs.List.{All}
use Rattle.base.specs.Lines.{Grid, is_layout}
use Rattle.command_io.specs.Readings.{first_refusal}
use Rattle.command_io.specs.SettingsFiles.{settings_in, settings_readings}
use Rattle.command_io.specs.Works.{Work}
use Rattle.command_line.specs.Replay.{ReplayDemand}
use Rattle.command_line.specs.Set.{AskedSettings}
use Rattle.command_line.specs.Split.{SplitDemand}
use Rattle.shelf.specs.Files.{bytes_for}
use Rattle.shelf.specs.Shelf.{Files, content}
use Rattle.trace_passes.specs.Passes.{Trace, trace_of}
use Rattle.predator_cli.specs.Again.{replayed}
use Rattle.predator_cli.specs.Judged.{judged}
use Rattle.predator_cli.specs.Split.{split_readings, split_work}

-- how all parts are counted: under which settings, under which layout, where it is named, and where
-- the state at the end is saved
pub record Counting : Type 0 where
  pub settings : AskedSettings
  pub layout : Option Grid
  pub save : Option (List ℕ)

-- the replay of a trace so, from the state of a name on, with its own state saved
abbrev pub part_replay : Counting → Option (List ℕ) → List ℕ → Option (List ℕ) → ReplayDemand
part_replay how resume trace save = record {
  trace = trace;
  settings = how.settings;
  layout = how.layout;
  save = save;
  resume = resume;
}

-- A cut: a trace is split, the first half is replayed and its state saved, and the second half is
-- counted from there. Each of the two finds files of its own.
pub record Cut : Type 0 where
  pub split : SplitDemand
  pub state : List ℕ
  pub at_first : Files
  pub at_second : Files

-- what `split` answers
abbrev pub halved : SplitDemand → Files → Work
halved demand files = judged (split_readings demand) (split_work demand) files

-- what is found of a state that is named is what stood there
abbrev pub StateStays : Option (List ℕ) → Files → Files → Type 0
StateStays None before now = Unit {0}
StateStays (Some name) before now = now name ≡ before name

-- Each call of a cut finds what the ones before it wrote: the first replay the first half, and the
-- state from which it goes on, and the second one the second half and the state of the first, of at
-- most 2^40 bytes. The settings are the same each time.
pub record Finds (how : Counting) (resume : Option (List ℕ)) (files : Files) (c : Cut) : Type 0
  where
    pub apart : c.split.first ≢ c.split.second
    pub first : c.at_first c.split.first ≡ bytes_for (halved c.split files).outputs c.split.first
    pub second : c.at_second c.split.second
        ≡ bytes_for (halved c.split files).outputs c.split.second
    pub begun : StateStays resume files c.at_first
    pub state : c.at_second c.state
        ≡ bytes_for (replayed (part_replay how resume c.split.first (Some c.state))
        c.at_first).outputs c.state
    pub short : length (content c.at_second c.state) ≤ 2 ^ 40
    pub first_settings : settings_in how.settings c.at_first ≡ settings_in how.settings files
    pub second_settings : settings_in how.settings c.at_second ≡ settings_in how.settings files

-- the cuts are made one after another: each but the first splits the second half of the one before
abbrev pub AllFind : Counting → Option (List ℕ) → List ℕ → Files → List Cut → Type 0
AllFind how resume trace files [] = Unit {0}
AllFind how resume trace files (c ∷ cuts) =
    (c.split.trace ≡ trace) × Finds how resume files c
    × AllFind how (Some c.state) c.split.second c.at_second cuts

-- what the replay of the last part answers
abbrev pub last_replayed : Counting → Option (List ℕ) → List ℕ → Files → List Cut → Work
last_replayed how resume trace files [] =
    replayed (part_replay how resume trace how.save) files
last_replayed how resume trace files (c ∷ cuts) =
    last_replayed how (Some c.state) c.split.second c.at_second cuts

-- Where the files hold a trace from position 0 on that isn't filtered, and the settings are accepted, the replay of the
-- last part answers what the replay of the whole answers, however often its second half is cut: the
-- status, the text and the state.
abbrev pub SplitRepeats : SplitDemand → Files → Type 0
SplitRepeats demand files =
    (how : Counting) (t : Trace) (first : Cut) (later : List Cut)
    → All (λ b. b < 256) (content files demand.trace)
    → trace_of (content files demand.trace) ≡ Some t → t.version ≢ Four → t.header.first ≡ 0
    → first_refusal (settings_readings how.settings) files ≡ None
    → IfSome how.layout (λ g. IsTrue (is_layout g.size g.offset))
    → first.split ≡ demand
    → AllFind how None demand.trace files (first ∷ later)
    → last_replayed how None demand.trace files (first ∷ later)
    ≡ replayed (part_replay how None demand.trace how.save) files

-- ---- two halves alone

-- The two halves that `split` makes of a trace, each replayed: the first replay finds the first
-- half and saves its state, and the second one finds the second half and that state, of at most
-- 2^40 bytes. The settings are the same each time.
pub record TwoHalves (how : Counting) (demand : SplitDemand) (files : Files) : Type 0 where
  -- the name of the state, and what each replay finds
  pub state : List ℕ
  pub at_first : Files
  pub at_second : Files
  pub apart : demand.first ≢ demand.second
  pub first : at_first demand.first ≡ bytes_for (halved demand files).outputs demand.first
  pub second : at_second demand.second ≡ bytes_for (halved demand files).outputs demand.second
  pub saved : at_second state
      ≡ bytes_for (replayed (part_replay how None demand.first (Some state)) at_first).outputs state
  pub short : length (content at_second state) ≤ 2 ^ 40
  pub first_settings : settings_in how.settings at_first ≡ settings_in how.settings files
  pub second_settings : settings_in how.settings at_second ≡ settings_in how.settings files

-- Where the files hold a trace from position 0 on that isn't filtered, and the settings are accepted, the replay of the
-- second half answers what the replay of the whole answers. It is `SplitRepeats` for one cut.
abbrev pub TwoHalvesRepeat : SplitDemand → Files → Type 0
TwoHalvesRepeat demand files =
    (how : Counting) (t : Trace) (halves : TwoHalves how demand files)
    → All (λ b. b < 256) (content files demand.trace)
    → trace_of (content files demand.trace) ≡ Some t → t.version ≢ Four → t.header.first ≡ 0
    → first_refusal (settings_readings how.settings) files ≡ None
    → IfSome how.layout (λ g. IsTrue (is_layout g.size g.offset))
    → replayed (part_replay how (Some halves.state) demand.second how.save) halves.at_second
    ≡ replayed (part_replay how None demand.trace how.save) files
