-- False comes only where no word is truly shared.
use Rattle.std.proofs.Common.{◌∙◌, sym, subst, ◌≡◌, List, false}
use Rattle.std.specs.List.{list_any}
use Rattle.sharing_rules.specs.Lines.{is_inside}
use Rattle.sharing_rules.specs.Observed.{first_write_from}
use Rattle.sharing_rules.specs.Verdicts.{is_truly_shared}
use Rattle.sharing_rules.specs.declared.word.Word.{Word}
use Rattle.line_tracks.specs.Laws.Quiet.{track-words, unshared-quiet}
use Rattle.line_tracks.proofs.line_verdict.verdict.Goals as goal

pub returns-then-not-is_any_shared-clause-quiet : goal.returns-then-not-is_any_shared-clause-quiet
returns-then-not-is_any_shared-clause-quiet c =
    λ l s t allowed words e.
    unshared-quiet l s t allowed (subst (λ (ws : List Word). list_any is_truly_shared ws
    ≡ false) words
    (sym c.is_any_shared.ensures ∙ c.if-not-is_any_shared.true))

pub returns-then-not-is_any_shared-clause-tracked :
    goal.returns-then-not-is_any_shared-clause-tracked
returns-then-not-is_any_shared-clause-tracked c =
    λ l from s t allowed start words e.
    unshared-quiet l s t allowed
    (subst (λ (ws : List Word). list_any is_truly_shared ws ≡ false)
    (words ∙ track-words l t (first_write_from from (is_inside l) t) s start)
    (sym c.is_any_shared.ensures ∙ c.if-not-is_any_shared.true))
