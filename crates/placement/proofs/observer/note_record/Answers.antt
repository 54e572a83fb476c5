-- An access is noted, and any other record changes nothing.
use Rattle.std.proofs.Common.{◌≡◌, [], ◌∷◌, ◌++◌, subst, sym}
use Rattle.trace_format.specs.Rules.{touches_in}
use Rattle.trace_passes.specs.Laws.Accounts.{no_touch}
use Rattle.placement.specs.Laws.Passing.{owned-quiet, owns-next}
use Rattle.placement.specs.Words.{owned_of}
use Rattle.placement.proofs.observer.note_record.Goals as goal

pub returns-in-Touch : goal.returns-in-Touch
returns-in-Touch c =
    let old = c.args.owners.now in
    owns-next old c.note.new.self c.args.item.now (λ t was.
    subst (λ z. c.note.new.self ≡ owned_of old.extent (t ++ touches_in (z ∷ []))) (sym c.in-Touch.is)
    (c.note.ensures t was))

pub returns-in_default : goal.returns-in_default
returns-in_default c =
    let x = c.args.item.now in
    owned-quiet c.args.owners.now x (no_touch x c.in_default.not-Touch)
