use Rattle.std.proofs.Common.{◌≡◌, ℕ, Option, refl, subst, sym}
use Rattle.std.specs.Option.{ForSome}
use Rattle.predator_cli.proofs.counter.text_of.Goals as goal

pub see_trace-requires-clause-begins : goal.see_trace-requires-clause-begins
see_trace-requires-clause-begins g c = λ header good wanted.
    let zero = c.requires.whole in
    let first : header.first ≡ 0 =
    subst (λ (o : Option ℕ). ForSome o (λ (n : ℕ). header.first ≡ n)) zero wanted.first 0 refl in
    subst (λ (n : ℕ). g.C.Observer.begins c.args.counter n) (sym first) c.requires.begins
