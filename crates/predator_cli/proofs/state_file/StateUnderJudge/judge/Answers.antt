use Rattle.std.proofs.Common.{◌≡◌, ◌∙◌, Option, subst, sym, ap}
use Rattle.std.proofs.lemmas.Result.{IfErr-weaker, IfOk-weaker}
use Rattle.saved_state.specs.Resuming.{Resumption, resumption}
use Rattle.command_io.specs.Readings.{IsJudged}
use Rattle.command_io.specs.declared.status.Status.{Status}
use Rattle.predator_cli.specs.States.{judged_state, resumed_state, state_refusal}
use Rattle.predator_cli.proofs.StateFiles.{accepted_where, detector_judged, state_resumed}
use Rattle.predator_cli.proofs.state_file.StateUnderJudge.judge.Goals as goal

pub returns-in-Ok-clause-given : goal.returns-in-Ok-clause-given
returns-in-Ok-clause-given c =
    let g = c.args.self.now.layout in
    let v = c.args.self.now.thresholds in
    let r : Resumption = resumption c.in-Ok.resumed.detector c.in-Ok.resumed.harts
    c.in-Ok.resumed.used in
    let is : judged_state g v c.args.bytes.now ≡ resumed_state g v c.args.bytes.now r =
    state_resumed g v c.args.bytes.now r c.requires.short
    (rw c.report.ensures at c.in-Ok.ensures.resumed) in
    IfOk-weaker c.take_up.result _ _ (λ begun so. is ∙ so) c.take_up.ensures.begun

pub returns-in-Ok-clause-accepted : goal.returns-in-Ok-clause-accepted
returns-in-Ok-clause-accepted c =
    accepted_where c.take_up.result (judged_state c.args.self.now.layout c.args.self.now.thresholds
    c.args.bytes.now)
    (returns-in-Ok-clause-given c)

pub returns-in-Ok-clause-judged : goal.returns-in-Ok-clause-judged
returns-in-Ok-clause-judged c =
    let g = c.args.self.now.layout in
    let v = c.args.self.now.thresholds in
    let r : Resumption = resumption c.in-Ok.resumed.detector c.in-Ok.resumed.harts
    c.in-Ok.resumed.used in
    let is : judged_state g v c.args.bytes.now ≡ resumed_state g v c.args.bytes.now r =
    state_resumed g v c.args.bytes.now r c.requires.short
    (rw c.report.ensures at c.in-Ok.ensures.resumed) in
    IfErr-weaker c.take_up.result _ _ (λ st so. subst (λ (o : Option Status). IsJudged o st)
    (sym (ap state_refusal is)) so)
    c.take_up.ensures.judged

pub returns-in-Err-clause-judged : goal.returns-in-Err-clause-judged
returns-in-Err-clause-judged c =
    let g = c.args.self.now.layout in
    let v = c.args.self.now.thresholds in
    subst (λ (s : Status). IsJudged (state_refusal (judged_state g v c.args.bytes.now)) s)
    (sym c.from.ensures)
    (detector_judged g v c.args.bytes.now c.in-Err.fault c.requires.short
    (rw c.report.ensures at c.in-Err.ensures.refused))
