use Rattle.std.proofs.Common.{◌≡◌, false, rules, true}
use Rattle.invalidations.specs.Laws.KeptOf.{stands-passed, stands-visited}
use Rattle.invalidations.specs.Invalidations.{is_in}
use Rattle.invalidations.specs.declared.sited.Sited.{Sited}
use Rattle.invalidations.proofs.explainer.Explainer.on_access.Goals as goal

pub returns-then-contains-clause-stands : goal.returns-then-contains-clause-stands
returns-then-contains-clause-stands c = λ u stands.
    let s : Sited = record { access = c.args.access.now; pc = c.args.pc } in
    let there : is_in c.args.self.now.line s ≡ true = search rules in
    stands-visited c.visit.result u c.args.self.now c.visit.new.self s stands there
    c.visit.ensures.noted

pub returns-else-contains-clause-stands : goal.returns-else-contains-clause-stands
returns-else-contains-clause-stands c = λ u stands.
    let s : Sited = record { access = c.args.access.now; pc = c.args.pc } in
    let elsewhere : is_in c.args.self.now.line s ≡ false = search rules in
    stands-passed u c.args.self.now c.pass.new.self s stands elsewhere c.pass.ensures
