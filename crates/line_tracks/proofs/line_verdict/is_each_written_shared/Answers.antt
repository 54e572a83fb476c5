-- One word more.
use Rattle.std.proofs.Common.{◌∙◌, ◌||◌, eqb, sym}
use Rattle.sharing_rules.specs.Verdicts.{is_truly_shared}
use Rattle.sharing_rules.specs.declared.word.Word.{Word}
use Rattle.line_tracks.specs.Laws.Quiet.{all_fails, all_more}
use Rattle.line_tracks.proofs.line_verdict.is_each_written_shared.Goals as goal

pub returns-then-not-is_shared_if_written : goal.returns-then-not-is_shared_if_written
returns-then-not-is_shared_if_written c =
    sym (all_fails (λ (w : Word). is_truly_shared w || eqb w.writes 0) c.args.shadow.now.words
    c.loop-i.i c.word.result c.word.ensures.value
    (sym c.is_shared_if_written.ensures ∙ c.if-not-is_shared_if_written.true))

pub loop-i-preserved : goal.loop-i-preserved
loop-i-preserved c =
    all_more (λ (w : Word). is_truly_shared w || eqb w.writes 0) c.args.shadow.now.words c.loop-i.i
    c.word.result c.word.ensures.value
    c.loop-i.invariant (sym c.is_shared_if_written.ensures ∙ c.if-not-is_shared_if_written.false)
