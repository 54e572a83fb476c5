use Rattle.std.proofs.Common.{◌≡◌, ◌≢◌, ◌∙◌, Ok, Err, Option, sym, subst, ap}
use Rattle.std.proofs.lemmas.Result.{IfErr-weaker, IfOk-weaker}
use Rattle.saved_state.specs.Resuming.{Resumption, resumption}
use Rattle.saved_state.specs.ObjectJudging.{objects_judged}
use Rattle.base.specs.declared.faults.ResumeFault.TheVariants as resume
use Rattle.command_io.specs.Readings.{IsJudged}
use Rattle.command_io.specs.declared.status.Status.{Status}
use Rattle.predator_cli.specs.States.{resumed_state, state_refusal}
use Rattle.predator_cli.proofs.StateFiles.{objects_found, objects_refused}
use Rattle.predator_cli.proofs.state_file.take_up.Goals as goal

pub returns-in-Ok-clause-begun : goal.returns-in-Ok-clause-begun
returns-in-Ok-clause-begun c =
    let r : Resumption = resumption c.args.resumed.detector c.args.resumed.harts c.args.resumed.used
    in
    let judged : objects_judged r.used r.watch.position c.left_behind-left.result.now
    ≡ Ok c.in-Ok.objects =
    rw c.position.ensures at (sym ((c.in-Ok.ensures {u = tt}).judged (λ e. cc))) in
    let is = objects_found c.args.layout c.args.thresholds c.args.bytes.now r
    c.left_behind-left.result.now c.in-Ok.objects
    c.left_behind-left.ensures judged in
    IfOk-weaker c.begin_with.result _ _ (λ begun so. is ∙ so) c.begin_with.ensures.begun

pub returns-in-Ok-clause-judged : goal.returns-in-Ok-clause-judged
returns-in-Ok-clause-judged c =
    let r : Resumption = resumption c.args.resumed.detector c.args.resumed.harts c.args.resumed.used
    in
    let judged : objects_judged r.used r.watch.position c.left_behind-left.result.now
    ≡ Ok c.in-Ok.objects =
    rw c.position.ensures at (sym ((c.in-Ok.ensures {u = tt}).judged (λ e. cc))) in
    let is = objects_found c.args.layout c.args.thresholds c.args.bytes.now r
    c.left_behind-left.result.now c.in-Ok.objects
    c.left_behind-left.ensures judged in
    IfErr-weaker c.begin_with.result _ _ (λ st so. subst (λ (o : Option Status). IsJudged o st)
    (sym (ap state_refusal is)) so)
    c.begin_with.ensures.judged

pub returns-in-Err-clause-judged : goal.returns-in-Err-clause-judged
returns-in-Err-clause-judged c =
    let r : Resumption = resumption c.args.resumed.detector c.args.resumed.harts c.args.resumed.used
    in
    let refused : c.in-Err.fault ≢ resume.NoMemory
    → objects_judged r.used r.watch.position c.left_behind-left.result.now
    ≡ Err c.in-Err.fault =
    λ other. rw c.position.ensures at (sym
    ((c.in-Err.ensures {u = tt}).judged (λ e. let same : c.in-Err.fault ≡ resume.NoMemory
    = cc in other same))) in
    subst (λ (s : Status). IsJudged (state_refusal
    (resumed_state c.args.layout c.args.thresholds c.args.bytes.now r)) s)
    (sym c.from.ensures)
    (objects_refused c.args.layout c.args.thresholds c.args.bytes.now r
    c.left_behind-left.result.now c.in-Err.fault
    c.left_behind-left.ensures refused)
