-- A number at an address is one among the memory's bytes.
use Rattle.std.proofs.Common.{◌≡◌, ℕ, zero, suc, ◌+◌, ◌-◌, ◌≤◌, refl, arith}
use Rattle.std.proofs.lemmas.Bool.{le-ltb}
use Rattle.rv32_hart.specs.Bytes.{number_in}
use Rattle.rv32_hart.specs.Space.{Space, number_at}
use Rattle.rv32_hart.proofs.Rights.{rightful_at}
use Rattle.rv32_hart.proofs.Within.{inside, page_by_place}

moved_place : (m : Space) (a : ℕ) → m.base ≤ a → a + 1 - m.base ≡ a - m.base + 1
moved_place m a above = omega arith

pub number_at_place : (m : Space) (a n : ℕ) → m.base ≤ a → number_at m a n
    ≡ number_in m.bytes (a - m.base) n
number_at_place m a zero above = refl
number_at_place m a (suc n) above =
    rw (le-ltb a m.base above, number_at_place m (a + 1) n (omega arith), moved_place m a above)
    refl

-- what the fetch of a word rests on
pub ruleset fetching = (number_at_place, inside, page_by_place, rightful_at)
