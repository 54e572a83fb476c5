use Rattle.std.proofs.Common.{refl}
use Rattle.clap.specs.Words.{app_of}
use Rattle.command_line.proofs.AppLemmas.{words_end, words_step}
use Rattle.command_line.proofs.forms.with_words.Goals as goal

pub loop-name-init : goal.loop-name-init
loop-name-init c = refl

pub loop-name-preserved : goal.loop-name-preserved
loop-name-preserved c =
    words_step (app_of c.loop-name.added) (app_of c.in_ok-added.added) _ c.args.names.now
    c.loop-name.name-index _ c.loop-name-test.true
    c.in_ok-added.ensures c.loop-name.invariant

pub returns : goal.returns
returns c =
    words_end (app_of c.loop-name.added) _ c.args.names.now c.loop-name.name-index
    c.loop-name-test.false c.loop-name.invariant
