use Rattle.std.proofs.Common.{◌≡◌, IfOk, List, ap, subst, ◌∙◌}
use Rattle.guest.specs.Runs.{rest_of}
use Rattle.invalidations.specs.Watched.{sited_run}
use Rattle.objects.specs.Symbols.{Symbol, symbols_of}
use Rattle.sharing_rules.specs.Lines.{Line}
use Rattle.trace_passes.specs.Lives.{symbols_in}
use Rattle.invalidations.specs.Text.{explain_text}
use Rattle.predator_cli.proofs.explain.watch.Goals as goal

pub returns-clause-text : goal.returns-clause-text
returns-clause-text c =
    let r = rest_of c.args.loaded.guest in
    let start = c.args.options.now.start in
    let symbols = c.in_ok-table.ensures
    ∙ ap (λ items. symbols_of (symbols_in items)) c.deref.ensures.value in
    subst (λ (l : Line). IfOk c.explain_run.result (λ stated. stated.text.items
    ≡ explain_text r.ending (symbols_of (symbols_in c.args.loaded.symbols.items)) l start
    (sited_run r))) c.at-line.ensures
    (subst (λ (named : List Symbol). IfOk c.explain_run.result (λ stated. stated.text.items
    ≡ explain_text r.ending named c.at-line.result start (sited_run r))) symbols
    c.explain_run.ensures.text)
