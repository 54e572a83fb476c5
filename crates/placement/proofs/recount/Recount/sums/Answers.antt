use Rattle.std.proofs.Common.{◌≡◌, ℕ, ◌∙◌, ap}
use Rattle.placement.specs.Recounts.{total_after, total_before}
use Rattle.placement.specs.Texts.{Sums, sums_of}
use Rattle.placement.proofs.recount.Recount.sums.Goals as goal

sums-alike : (x y : Sums) → x.before ≡ y.before → x.after ≡ y.after → x.many ≡ y.many → x ≡ y
sums-alike x y before after many =
    ap (λ (n : ℕ). record { before = n; after = x.after; many = x.many }) before
    ∙ ap (λ (n : ℕ). record { before = y.before; after = n; many = x.many }) after
    ∙ ap (λ (n : ℕ). record { before = y.before; after = y.after; many = n }) many

pub returns : goal.returns
returns c = λ t was.
    let s = c.args.self.now in
    sums-alike (record { before = c.total.result; after = c.total-2.result; many = s.many })
    (sums_of s.size s.plan t)
    (c.total.ensures ∙ was.before.total ∙ ap (λ (n : ℕ). total_before n t) s.each.0)
    (c.total-2.ensures ∙ was.after.total ∙ ap (λ (n : ℕ). total_after n s.plan t) s.each.1)
    was.many
