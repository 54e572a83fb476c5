-- How a command ends that passed over a whole trace once.
use Rattle.std.proofs.Common.{◌≡◌, ℕ, List, [], Option, ap, sym, subst, ◌∙◌}
use Rattle.std.specs.Option.{option_map_or}
use Rattle.command_line.specs.Words.{Demand}
use Rattle.shelf.specs.Laws.Known.{known_map}
use Rattle.shelf.specs.Shelf.{Files, Outside, content}
use Rattle.trace_passes.specs.Passes.{Trace, trace_of}
use Rattle.trace_passes.specs.declared.wanted.Wanted.{Wanted}
use Rattle.command_io.specs.Readings.{IsAccepted, Reading}
use Rattle.command_io.specs.Works.{Work, done_with}
use Rattle.predator_cli.specs.Commands.{RepeatsReport, readings_of, work_of}
use Rattle.predator_cli.specs.Counting.{IsTextOf, IsToReport, counted_readings, counted_work}
use Rattle.predator_cli.specs.Meets.{IsAnswered}

text_known : (says : Trace → List ℕ) (name : List ℕ) (files : Files) (bytes text : List ℕ)
    → bytes ≡ content files name → IsTextOf says bytes text
    → counted_work says name files ≡ done_with text
text_known says name files bytes text whole is =
    let work : Option Trace → Work = λ t. option_map_or (λ x. done_with (says x)) t (done_with [])
    in
    ap (λ (b : List ℕ). work (trace_of b)) (sym whole) ∙ ap work is.is ∙ ap done_with is.same

pub counted_answered : (d : Demand) (wanted : Wanted) (says : Trace → List ℕ) (name : List ℕ)
    (a b : Outside) (text : List ℕ)
    → readings_of d ≡ counted_readings wanted name
    → ((files : Files) → work_of d files ≡ counted_work says name files)
    → ((files : Files) → RepeatsReport d files)
    → IsToReport wanted says name a b text
    → IsAnswered d a b text
counted_answered d wanted says name a b text readings works again ready = record {
  accepted = subst (λ (rs : List Reading). IsAccepted rs a b) (sym readings) ready.accepted;
  work = known_map b.held (λ files whole. works files
      ∙ text_known says name files ready.read.bytes text whole ready.read.given) ready.read.whole;
  again = again;
}
