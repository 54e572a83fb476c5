-- What the shelf is given to show of a run.
use Rattle.std.specs.Prelude.{◌≡◌, ℕ, Bool, true, false, List, Option, Some, None, ◌==◌}
use Rattle.std.specs.Prelude.{if◌then◌else◌}
use Rattle.std.specs.List.{list_any}
use Rattle.base.specs.declared.ending.Ending.{Ending}
use Rattle.base.specs.declared.ending.Outcome.{Outcome}
use Rattle.base.specs.declared.ending.Outcome.TheVariants.{Exit}
use Rattle.shelf.specs.declared.shelf.RunShown.{RunShown}
use Rattle.shelf.specs.declared.shelf.RunShown.TheVariants as shows
use Rattle.run_recorder.specs.declared.run_file.Content.{Content}
use Rattle.run_recorder.specs.declared.run_file.Content.TheVariants as contents
use Rattle.run_recorder.specs.declared.run_file.RunFile.{RunFile}

abbrev pub is_output : Content → Bool
is_output contents.Trace = false
is_output contents.Output = true

-- one of the files gets what the guest puts out
abbrev pub has_output : List RunFile → Bool
has_output files = list_any (λ file. is_output file.content) files

-- it shows these bytes of the guest
abbrev pub ShowsOutput : List ℕ → RunShown → Type 0
ShowsOutput bytes (shows.Output shown) = shown.now ≡ bytes
ShowsOutput bytes other = ⊥

abbrev pub code_of : Outcome → Option ℕ
code_of (Exit code) = if code == 0 then None else Some code
code_of other = None

-- the exit code with which a run ended, where that isn't 0
abbrev pub bad_code : Option Ending → Option ℕ
bad_code None = None
bad_code (Some ending) = code_of ending.outcome

-- it shows the exit code, and there is one
abbrev pub ShowsCode : Option ℕ → RunShown → Type 0
ShowsCode code (shows.ExitCode shown) = code ≡ Some shown
ShowsCode code other = ⊥
