-- What ends for want of memory.
use Rattle.std.proofs.Common.{◌≡◌, Option, Result, Ok, Err, refl, subst, sym}
use Rattle.std.specs.Prelude.{IfErr}
use Rattle.std.specs.Result.{IsErrAnd}
use Rattle.command_io.specs.Readings.{IsJudged}
use Rattle.command_io.specs.declared.status.Status.{Status}
use Rattle.command_io.specs.declared.status.Status.TheVariants as status

-- a content may be judged so, whatever is refused
pub judged_wanted : {A : Type 0} (r : Result A Status) (refused : Option Status)
    → IsErrAnd r (λ e. e ≡ status.NoMemory) → IfErr r (IsJudged refused)
judged_wanted (Ok x) refused is = absurd is
judged_wanted (Err e) refused is =
    subst (IsJudged refused) (sym is)
    (record { why = tt; words = λ same. absurd cc; memory = refl })
