use Rattle.std.proofs.Common.{◌≡◌, ℕ, ◌*◌, ◌∙◌, ap, arith}
use Rattle.placement.specs.Laws.Recounts.{line-ends}
use Rattle.placement.proofs.recount.lies_in.Goals as goal

pub returns : goal.returns
returns c =
    let size : c.from.result ≡ c.args.size = omega arith in
    let end : c.args.line * c.from.result ≡ c.args.line * c.args.size =
    ap (λ (n : ℕ). c.args.line * n) size in
    c.ends_in.ensures
    ∙ line-ends c.args.size c.args.line (c.args.line * c.from.result) c.args.range end
