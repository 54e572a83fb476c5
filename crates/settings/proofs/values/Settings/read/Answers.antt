use Rattle.std.proofs.Common.{◌∙◌, sym, true≢false}
use Rattle.std.specs.Prelude.{◌≡◌, Err, IfErr}
use Rattle.settings.specs.Answers.{UnlessMemory, settings_under}
use Rattle.settings.proofs.Blame.{blamed_result}
use Rattle.settings.proofs.Contents.{settings_by-table, settings_by-refused, no_unknown-blank}
use Rattle.settings.proofs.values.Settings.read.Goals as goal

pub returns-in-Ok-clause-accepted : goal.returns-in-Ok-clause-accepted
returns-in-Ok-clause-accepted c =
    rw (settings_by-table _ _ _ c.if-content-gt-LONGEST_CONTENT.false c.in-Ok.ensures.ok.0
    c.in-Ok.ensures.ok.1)
    c.judge_under.ensures.accepted

pub returns-in-Ok-clause-refused : goal.returns-in-Ok-clause-refused
returns-in-Ok-clause-refused c =
    rw (settings_by-table _ _ _ c.if-content-gt-LONGEST_CONTENT.false c.in-Ok.ensures.ok.0
    c.in-Ok.ensures.ok.1) c.judge_under.ensures.refused

pub returns-else-is_memory-clause-refused : goal.returns-else-is_memory-clause-refused
returns-else-is_memory-clause-refused c =
    settings_by-refused _ _ c.if-content-gt-LONGEST_CONTENT.false
    (c.in-Err.ensures.refused (λ memory. true≢false
    (sym (c.is_memory.ensures.1 memory) ∙ c.if-is_memory.false)))

pub returns-in-Ok-clause-blank : goal.returns-in-Ok-clause-blank
returns-in-Ok-clause-blank c = λ blank. c.judge_under.ensures.known
    (no_unknown-blank _ _ blank c.in-Ok.ensures.ok.1)

pub returns-in-Ok-clause-blamed : goal.returns-in-Ok-clause-blamed
returns-in-Ok-clause-blamed c =
    let changes = c.args.changes.now in
    let content = c.args.content.now in
    let refused : IfErr c.judge_under.result
    (λ fault. UnlessMemory fault (settings_under changes content ≡ Err fault)) =
    rw (settings_by-table _ _ _ c.if-content-gt-LONGEST_CONTENT.false c.in-Ok.ensures.ok.0
    c.in-Ok.ensures.ok.1) c.judge_under.ensures.refused in
    blamed_result changes content c.judge_under.result refused

pub returns-else-is_memory-clause-blamed : goal.returns-else-is_memory-clause-blamed
returns-else-is_memory-clause-blamed c =
    settings_by-refused _ _ c.if-content-gt-LONGEST_CONTENT.false
    (c.in-Err.ensures.refused (λ memory. true≢false
    (sym (c.is_memory.ensures.1 memory) ∙ c.if-is_memory.false)))
