use Rattle.std.proofs.Common.{◌≡◌, ◌∙◌, ℕ, List, None, IfErr, IfOk, OnOk, subst, take}
use Rattle.guest.specs.Runs.{rest_of}
use Rattle.shelf.specs.Files.{AreCut, AreWritten, Output}
use Rattle.run_recorder.specs.Recorded.{outputs_for, trace_for}
use Rattle.observations.specs.ObservedTraces.{nothing_observed}
use Rattle.trace_format.specs.declared.record.TraceRecord.{TraceRecord}
use Rattle.trace_format.specs.declared.record.Version.{Version}
use Rattle.command_io.specs.SettingsFiles.{levels_of, native_of}
use Rattle.predator_cli.specs.Replay.{report_of}
use Rattle.predator_cli.specs.Run.{version_with}
use Rattle.predator_cli.proofs.RunEnds.{handed_apart, handed_on}
use Rattle.predator_cli.proofs.run.run_guest.Goals as goal

pub show_run-requires-clause-apart : goal.show_run-requires-clause-apart
show_run-requires-clause-apart g c =
    handed_apart c.args.options.now
    (take c.files_of-count.result.1 c.files_of-count.result.0) c.files_of-count.ensures.files
    c.requires.apart

-- what is stated of the version that is chosen, by the guest's number of harts and its symbols, is
-- stated of the version that is asked for, by those that are loaded
as_loaded : (P : Version → ℕ → List TraceRecord → Type 0) (x v : Version) (h harts : ℕ)
    (l symbols : List TraceRecord)
    → x ≡ v → h ≡ harts → l ≡ symbols → P x h l → P v harts symbols
as_loaded P x v h harts l symbols version_is harts_are symbols_are p =
    subst (λ y. P y harts symbols) version_is
    (subst (λ n. P x n symbols) harts_are (subst (P x h) symbols_are p))

pub returns-clause-text : goal.returns-clause-text
returns-clause-text g c =
    let s = c.args.loaded.settings in
    as_loaded (λ v harts l. IfOk c.show_run.result (λ shown. shown.text.items
    ≡ report_of (levels_of None s) (native_of s)
    (trace_for v harts l (rest_of c.args.loaded.guest))))
    c.version_with.result (version_with c.args.options.now.pcs)
    c.args.loaded.guest.setup.harts s.harts c.deref.result.now c.args.loaded.symbols.items
    c.version_with.ensures c.requires.harts c.deref.ensures.value
    (c.show_run.ensures.text (native_of s) (levels_of None s) (c.new-observations.ensures.blank
    ∙ λ i. nothing_observed (c.native_layout.ensures i)
    (c.thresholds_of-thresholds.ensures.value i)))

pub returns-clause-written : goal.returns-clause-written
returns-clause-written g c =
    let s = c.args.loaded.settings in
    let v = version_with c.args.options.now.pcs in
    let symbols = c.args.loaded.symbols.items in
    let r = rest_of c.args.loaded.guest in
    let a = g.S.Shelf.outside c.args.shelf.now in
    let b = g.S.Shelf.outside c.show_run.new.shelf in
    let files = take c.files_of-count.result.1 c.files_of-count.result.0 in
    subst (λ (o : List Output). OnOk c.show_run.result (AreWritten o a b))
    (handed_on c.args.options.now v s.harts symbols r files c.files_of-count.ensures.files)
    (as_loaded (λ x harts l. OnOk c.show_run.result (AreWritten (outputs_for x harts l r files) a
    b)) c.version_with.result v c.args.loaded.guest.setup.harts s.harts c.deref.result.now symbols
    c.version_with.ensures c.requires.harts c.deref.ensures.value
    c.show_run.ensures.written)

pub returns-clause-cut : goal.returns-clause-cut
returns-clause-cut g c =
    let s = c.args.loaded.settings in
    let v = version_with c.args.options.now.pcs in
    let symbols = c.args.loaded.symbols.items in
    let r = rest_of c.args.loaded.guest in
    let a = g.S.Shelf.outside c.args.shelf.now in
    let b = g.S.Shelf.outside c.show_run.new.shelf in
    let files = take c.files_of-count.result.1 c.files_of-count.result.0 in
    subst (λ (o : List Output). IfErr c.show_run.result (AreCut o a b))
    (handed_on c.args.options.now v s.harts symbols r files c.files_of-count.ensures.files)
    (as_loaded (λ x harts l. IfErr c.show_run.result (AreCut (outputs_for x harts l r files) a b))
    c.version_with.result v c.args.loaded.guest.setup.harts s.harts c.deref.result.now symbols
    c.version_with.ensures c.requires.harts c.deref.ensures.value
    c.show_run.ensures.cut)
