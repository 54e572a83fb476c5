use Rattle.std.proofs.Common.{◌∙◌, ap, append_assoc, map}
use Rattle.std.proofs.lemmas.Result.{on_ok_weaker}
use Rattle.guest.specs.SeenTurns.{seen}
use Rattle.invalidations.specs.LineInvalidations.{kept_of}
use Rattle.invalidations.specs.Watched.{sited_at, sited_touch}
use Rattle.invalidations.proofs.watch.note_turn.Goals as goal

pub returns-in-Ok-clause-noted : goal.returns-in-Ok-clause-noted
returns-in-Ok-clause-noted c =
    let front = map sited_touch c.args.touches.now in
    on_ok_weaker c.note_event.result
    (λ f m l from u is. f m l from _ (c.in-Ok.ensures.noted l from u is)
    ∙ ap (kept_of l from) (append_assoc u front (sited_at (seen m c.args.event))))
    c.note_event.ensures.noted
