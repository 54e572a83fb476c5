use Rattle.std.proofs.Common.{◌≡◌, ◌≢◌, ℕ, List, All, Result, Ok, Err, sym, arith}
use Rattle.std.specs.Prelude.{IfOk}
use Rattle.std.proofs.lemmas.List.Elements.{All-from_get_or}
use Rattle.objects.specs.Objects.{Objects}
use Rattle.base.specs.declared.faults.ResumeFault.{ResumeFault}
use Rattle.base.specs.declared.faults.ResumeFault.TheVariants as faults
use Rattle.saved_state.specs.ObjectJudging.{objects_judged}
use Rattle.saved_state.specs.ObjectRules.{IsPartOf}
use Rattle.saved_state.proofs.UnitLaws.{IsByte}
use Rattle.saved_state.proofs.objects_resume.resume_objects.Goals as goal

module _ (place position : ℕ) (part : List ℕ) where
  good_at_ok : (r : Result Objects ResumeFault)
      → (r ≢ Err faults.NoMemory → r ≡ objects_judged place position part)
      → ((o : Objects) → objects_judged place position part ≡ Ok o → IsPartOf position part o)
      → IfOk r (λ o. IsPartOf position part o)
  good_at_ok (Ok o) judged good = good o (sym (judged (λ e. absurd cc)))
  good_at_ok (Err fault) judged good = tt

pub returns-clause-spelled : goal.returns-clause-spelled
returns-clause-spelled c =
    let part = c.args.part.now in
    let fits : All IsByte part = All-from_get_or IsByte part 0
    (λ i within. omega (arith, c.type_inv.part i)) in
    good_at_ok c.args.place c.args.position part c.read_objects.result c.read_objects.ensures
    (λ o e. c.what_is_resumed_was_saved.ensures.found c.args.place c.args.position part o fits e)
