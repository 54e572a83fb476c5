use Rattle.std.proofs.Common.{arith, ◌≡◌, ℕ, List, Option, length, ap}
use Rattle.rv32_hart.proofs.Releases.{released_by_hart}
use Rattle.rv32_hart.proofs.reservations.Reservations.end_others.Goals as goal

pub returns : goal.returns
returns c =
    let whole : length c.self.inside.words.items ≡ length c.args.self.now =
    ap (λ (held : List (Option ℕ)). length held) c.self.view_is in
    released_by_hart c.args.writer c.args.word c.args.self.now c.loop-other.self c.requires
    c.loop-other.invariant.same_length
    (λ k below. c.loop-other.invariant.done k (omega (arith, whole)))
