-- The number of a key beside the table's own tracking threshold.
use Rattle.std.proofs.Common.{◌≡◌, ◌≢◌, ℕ, Some, refl, ap, sym}
use Rattle.std.specs.Prelude.{unwrap_or}
use Rattle.toml.specs.Data.{Members}
use Rattle.settings.specs.declared.key.Key.{Key}
use Rattle.settings.specs.declared.key.Key.TheVariants.{Harts, Memory, Stack, Tracking, Prediction}
use Rattle.settings.specs.declared.key.Key.TheVariants.{Report, Quantum, Budget, Line, Seed}
use Rattle.settings.specs.Tables.{number_beside, number_of}

-- but for prediction, the tracking threshold makes no difference
pub number_of-alone : (table : Members) (key : Key) → key ≢ Prediction → number_beside 0 table key
    ≡ number_of table key
unfolding number_of
number_of-alone table Harts h = refl
number_of-alone table Memory h = refl
number_of-alone table Stack h = refl
number_of-alone table Tracking h = refl
number_of-alone table Prediction h = absurd (h refl)
number_of-alone table Report h = refl
number_of-alone table Quantum h = refl
number_of-alone table Budget h = refl
number_of-alone table Line h = refl
number_of-alone table Seed h = refl

pub number_of-prediction : (table : Members) (tracking : ℕ) → number_of table Tracking
    ≡ Some tracking
    → number_beside tracking table Prediction ≡ number_of table Prediction
unfolding number_of
number_of-prediction table tracking own =
    let alone : number_beside 0 table Tracking ≡ Some tracking = own in
    sym (ap (λ o. number_beside (unwrap_or o 0) table Prediction) alone)
