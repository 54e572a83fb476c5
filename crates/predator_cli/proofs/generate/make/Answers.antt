use Rattle.std.proofs.Common.{◌≡◌, ◌∙◌, None, IfOk, ap, string_bytes, subst}
use Rattle.base.specs.Levels.{Levels}
use Rattle.base.specs.Lines.{Grid}
use Rattle.detector.specs.TotalsOf.{totals_of}
use Rattle.command_io.specs.SettingsFiles.{levels_of, native_of, usual_settings}
use Rattle.predator_cli.specs.Gen.{made_accesses, summary_of, summary_text}
use Rattle.predator_cli.proofs.generate.make.Goals as goal

pub returns-clause-text : goal.returns-clause-text
unfolding summary_of
returns-clause-text g c =
    let count = c.args.options.now.count in
    let layout : c.native_layout-layout.result ≡ native_of usual_settings =
    c.native_layout-layout.ensures
    ∙ ap native_of c.usual-settings.ensures.value in
    let levels : c.thresholds_of-thresholds.result ≡ levels_of None usual_settings =
    c.thresholds_of-thresholds.ensures.value ∙ ap (levels_of None) c.usual-settings.ensures.value in
    subst (λ (v : Levels). IfOk c.make_under.result
    (λ text. string_bytes text ≡ summary_text count
    (totals_of (native_of usual_settings) v (made_accesses count)))) levels
    (subst (λ (x : Grid). IfOk c.make_under.result
    (λ text. string_bytes text ≡ summary_text count
    (totals_of x c.thresholds_of-thresholds.result (made_accesses count)))) layout
    c.make_under.ensures.text)
