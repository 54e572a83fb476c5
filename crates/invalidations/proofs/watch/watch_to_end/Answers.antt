use Rattle.guest.specs.Runs.{rest_of}
use Rattle.invalidations.proofs.Watching.{reported_text_is}
use Rattle.invalidations.specs.Watched.{sited_run}
use Rattle.invalidations.proofs.watch.watch_to_end.Goals as goal

pub returns-clause-text : goal.returns-clause-text
returns-clause-text c = λ l start is.
    let r = rest_of c.args.guest.now in
    reported_text_is c.in_ok-ending.ending r.ending c.args.objects.now.symbols l start (sited_run r)
    c.watch_all.new.explainer c.in_ok-text.text.items c.in_ok-ending.ensures.ending
    (c.in_ok-ending.ensures.noted l start is) c.in_ok-text.ensures.stands
