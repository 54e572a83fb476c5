-- What stands for a list has the state of the list.
use Rattle.std.proofs.Common.{rules, ◌≡◌, true, ◌∙◌, subst}
use Rattle.base.specs.Lines.{Grid, is_layout}
use Rattle.saved_state.proofs.SaveLaws.{stands_saved}
use Rattle.saved_state.proofs.detector_save.save_detector.Goals as goal
use Rattle.std.proofs.lemmas.Result.{IfOk-weaker}

pub returns-clause-state : goal.returns-clause-state
returns-clause-state g c = search rules

pub returns-clause-of_list : goal.returns-clause-of_list
returns-clause-of_list g c = λ t stands.
    let allowed = subst (λ (g : Grid). is_layout g.size g.offset
    ≡ true) c.layout-layout.ensures c.size-size.ensures.allowed in
    IfOk-weaker c.write_state.result _ _
    (λ bytes is. is ∙ stands_saved t c.args.detector.now c.args.harts allowed
    c.thresholds.ensures.native stands)
    (returns-clause-state g c)
