use Rattle.std.proofs.Common.{ℕ, Some, ap, sym}
use Rattle.std.proofs.lemmas.Result.{on_ok_weaker}
use Rattle.trace_passes.specs.Laws.Accounts.{other-next, touch-next}
use Rattle.invalidations.specs.BlameKept.{Blamed}
use Rattle.invalidations.specs.BlameRecords.{blame_account}
use Rattle.invalidations.specs.Laws.BlameRecords.{no_site}
use Rattle.invalidations.specs.declared.sited.Sited.{Sited}
use Rattle.invalidations.proofs.blamed_records.see.Goals as goal

pub returns-in-Touch-clause-next : goal.returns-in-Touch-clause-next
returns-in-Touch-clause-next c =
    let a = c.in-Touch.access in
    let sited : ℕ → Sited = λ pc. record { access = a; pc = pc } in
    touch-next blame_account c.on_access.result c.args.blame.now c.on_access.new.self
    c.args.item.now a c.in-Touch.pc (sited c.unwrap_or.result) c.in-Touch.is
    (ap (λ (pc : ℕ). Some (sited pc)) (sym c.unwrap_or.ensures)) c.on_access.ensures.stands
    (on_ok_weaker c.on_access.result
    (λ noted. (ap (λ (k : Blamed). k.position) noted, ap (λ (k : Blamed). k.grid) noted))
    c.on_access.ensures.noted)

pub returns-in_default-clause-next : goal.returns-in_default-clause-next
returns-in_default-clause-next c =
    other-next blame_account no_site c.args.blame.now c.args.item.now c.in_default.not-Touch

pub returns-in-Touch-clause-known : goal.returns-in-Touch-clause-known
returns-in-Touch-clause-known c =
    rw (c.in-Touch.is, ← c.unwrap_or.ensures) c.on_access.ensures.known
