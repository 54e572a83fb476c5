-- One word more.
use Rattle.std.proofs.Common.{◌∙◌, sym}
use Rattle.sharing_rules.specs.Verdicts.{is_truly_shared}
use Rattle.line_tracks.specs.Laws.Quiet.{any_at, any_more}
use Rattle.line_tracks.proofs.line_verdict.is_any_shared.Goals as goal

pub returns-then-is_truly_shared : goal.returns-then-is_truly_shared
returns-then-is_truly_shared c =
    sym (any_at is_truly_shared c.args.shadow.now.words c.loop-i.i c.word.result
    c.word.ensures.value
    (sym c.is_truly_shared.ensures ∙ c.if-is_truly_shared.true))

pub loop-i-preserved : goal.loop-i-preserved
loop-i-preserved c =
    any_more is_truly_shared c.args.shadow.now.words c.loop-i.i c.word.result c.word.ensures.value
    c.loop-i.invariant
    (sym c.is_truly_shared.ensures ∙ c.if-is_truly_shared.false)
