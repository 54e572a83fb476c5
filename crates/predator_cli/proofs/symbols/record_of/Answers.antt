use Rattle.std.proofs.Common.{ℕ, subst, sym, ◌<◌, ◌≢◌, length-take, arith}
use Rattle.std.specs.List.{All}
use Rattle.std.proofs.lemmas.Grind.{get_or_default_zero}
use Rattle.std.proofs.lemmas.List.Elements.{All-take}
use Rattle.predator_cli.proofs.symbols.record_of.Goals as goal

pub returns-clause-good : goal.returns-clause-good
returns-clause-good c =
    let name = c.args.name.now in
    let bytes : All (λ b. b < 256) name =
    λ k d below. subst (λ (b : ℕ). b < 256) (sym (get_or_default_zero name k d below))
    (omega (arith, c.type_inv.name k)) in
    rw c.in_ok-kept.ensures (record {
      addr_in_range = omega arith;
      size_in_range = omega arith;
      some = c.requires.some;
      short = omega (arith, length-take 1024 name);
      bytes = All-take (λ b. b < 256) 1024 name bytes;
      no_zero = All-take (λ b. b ≢ 0) 1024 name c.requires.no_zero;
    })
