use Rattle.std.proofs.Common.{refl}
use Rattle.std.proofs.lemmas.Result.{on_ok_weaker}
use Rattle.trace_passes.specs.Laws.Accounts.{other-next, touch-next}
use Rattle.finite_cache.specs.Seen.{cache_account}
use Rattle.finite_cache.proofs.observer.see.Goals as goal

pub returns-in-Touch-clause-next : goal.returns-in-Touch-clause-next
returns-in-Touch-clause-next c =
    let a = c.in-Touch.access in
    touch-next cache_account c.on_access.result c.args.caches.now c.on_access.new.self
    c.args.item.now a c.in-Touch.field-1 a c.in-Touch.is refl c.on_access.ensures.stands
    (on_ok_weaker c.on_access.result (λ noted. (noted.position, noted.shape))
    c.on_access.ensures.noted)

pub returns-in_default-clause-next : goal.returns-in_default-clause-next
returns-in_default-clause-next c =
    other-next cache_account (λ x none. none) c.args.caches.now c.args.item.now
    c.in_default.not-Touch

pub returns-in-Touch-clause-known : goal.returns-in-Touch-clause-known
returns-in-Touch-clause-known c = rw c.in-Touch.is c.on_access.ensures.known
