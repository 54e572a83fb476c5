use Rattle.std.proofs.Common.{ℕ, ap, ◌∙◌}
use Rattle.std.specs.Prelude.{option_map}
use Rattle.std.specs.Map.{keys_of}
use Rattle.lru.specs.LruCache.{LruCache}
use Rattle.finite_cache.specs.Laws.Ways.{key-displaced, keys-put}
use Rattle.finite_cache.proofs.way_set.push_new.Goals as goal

pub returns-in-Ok-clause-left : goal.returns-in-Ok-clause-left
returns-in-Ok-clause-left c =
    c.line_of.ensures ∙ ap (option_map (λ e. e.0)) c.in-Ok.ensures.old
    ∙ key-displaced c.args.lines.now c.args.line _ c.requires.some c.requires.new

pub returns-in-Ok-clause-pushed : goal.returns-in-Ok-clause-pushed
returns-in-Ok-clause-pushed c =
    ap (λ (l : LruCache ℕ (Unit {0})). keys_of l.entries) c.in-Ok.ensures.entries
    ∙ keys-put c.args.lines.now c.args.line _ c.requires.some c.requires.new
