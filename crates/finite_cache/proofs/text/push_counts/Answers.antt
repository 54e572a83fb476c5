use Rattle.std.proofs.Common.{◌≡◌, ◌++◌, List, ℕ, ap, codes, string_bytes, subst, ◌∙◌}
use Rattle.std.specs.Fmt.{decimal}
use Rattle.std.specs.Prelude.{OnOk}
use Rattle.finite_cache.specs.Laws.Texts.{counted_by}
use Rattle.finite_cache.proofs.text.push_counts.Goals as goal

pub returns : goal.returns
returns c =
    let last : List ℕ = codes " evicted " ++ decimal c.args.evicted ++ codes "\n" in
    let second : List ℕ = codes " unbounded " ++ decimal c.args.unbounded in
    subst (λ (x : List ℕ). OnOk c.push_evictions.result
    (string_bytes c.push_evictions.new.text ≡ x))
    (ap (λ (w : List ℕ). w ++ last)
    (c.in_ok-push_unbounded.ensures
    ∙ ap (λ (w : List ℕ). w ++ second) c.in_ok-push_bounded.ensures)
    ∙ counted_by (string_bytes c.args.text.now) (decimal c.args.bounded)
    (decimal c.args.unbounded) (decimal c.args.evicted))
    c.push_evictions.ensures
