use Rattle.trace_passes.specs.Laws.Accounts.{room-for_one}
use Rattle.finite_cache.specs.Seen.{cache_account}
use Rattle.finite_cache.proofs.observer.CachesObserver.note.Goals as goal

pub see-requires : goal.see-requires
see-requires c = room-for_one cache_account c.args.self.now c.args.item.now c.requires.room
