use Rattle.std.proofs.Common.{arith, ◌≡◌, ℕ, List, Option, subst}
use Rattle.rv32_hart.specs.Reserved.{count_held}
use Rattle.rv32_hart.proofs.Releases.{released_none}
use Rattle.rv32_hart.proofs.reservations.Reservations.release.Goals as goal

pub returns-else-self-gt0 : goal.returns-else-self-gt0
returns-else-self-gt0 c =
    let NoneHeld : List (Option ℕ) → Type 0 = λ held. count_held held ≡ 0 in
    let none : NoneHeld c.self.inside.words.items = omega (arith, c.self.invariant.0) in
    released_none c.args.hart c.args.word c.args.self.now c.requires
    (subst NoneHeld c.self.view_is none)
