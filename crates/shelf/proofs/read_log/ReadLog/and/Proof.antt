-- `and` makes the struct of no fields, with the list that its clause names.
use Rattle.shelf.proofs.LogSteps.{[], ◌∷◌, refl, proved, ‵, raw, ◌⊛◌, ◌$◌, ◌∵◌, !, qed, done}
use Rattle.shelf.proofs.LogSteps.{move, keep, split, fjoin, suffices, agg, enter, no_more}
use Rattle.shelf.proofs.LogSteps.{returns, alloc_all, pass_all, free_all, look_at, sets, owns}
use Rattle.shelf.proofs.LogSteps.{types_at, nothing, alive, RattleType, Stays, walk_of, says}
use Rattle.shelf.proofs.LogSteps.{ends_at, no_fields, empty_made}
use denote.Exit.{yes}
use denote.Builtin.{RefOf}
use denote.Ref.{shr_vals, shr_Tells}
use denote.Signature.{plain, named_lft}
use denote.Triple.Walked.{stay_dropped, Goes-dropped}
use contract.Lifetimes.{Lfts}
use mir.Syntax.{named}
use Rattle.shelf.specs.ReadLog.{given_in}
use Rattle.shelf.specs.contracts.read_log.ReadBytes as read
use Rattle.shelf.specs.contracts.read_log.ReadLog as log
use Rattle.shelf.specs.contracts.read_log.ReadLog.and as f
use Rattle.shelf.proofs.read_log.ReadLog.and.Statement.{statement}
use Rattle.shelf.proofs.read_log.ReadLog.and.Code as code

abbrev stayed : Stays f.ended.signature.params f.ended.kept
stayed = (stay_dropped _ yes, (stay_dropped _ yes, tt))

pub and_spec : {M : Type 1} → statement M
and_spec 𝓤 𝓛 𝓜 𝓡 wired =
    let c = f.clauses 𝓛 𝓜.mem 𝓡.returns in
    let W = walk_of 𝓛 f.ended stayed c in
    let Read : Lfts 3 → RattleType = λ κs. read.the_row (named_lft 3 2 tt κs) in
    proved 𝓛 f.ended stayed c 𝓜 𝓡 (
      Goes-dropped 𝓛 3 (RefOf (0 ∷ []) tt (plain (λ _. log.the_row)) (λ _. tt)) yes (λ κs x w. refl),
      (Goes-dropped 𝓛 3 (RefOf (1 ∷ []) tt (plain Read) (λ _. tt)) yes (λ κs x w. refl), tt),
    ) f.Key.name code.function (code.unfolded 𝓤 𝓛.H 𝓜 𝓡 wired)
    (λ κs. (shr_vals, (shr_vals, tt)))
    (λ κs. (shr_Tells (named 0) κs.0 log.the_row, (shr_Tells (named 1) κs.1.0 (Read κs), tt)))
    (λ κs qs bounds a _ are.
    let y : W.Ghost = ((κs, qs, bounds, a, (shr_vals a.0, (shr_vals a.1.0, tt))), tt) in
    let made : log.the_row.Denot = record { items = given_in a.1.0.now ∷ a.0.now.items } in
    qed 𝓛 ((raw (alive 𝓛 f.signature κs qs) ⊛ ‵ (owns (types_at f.signature.params κs) a y.0.4)) ∷ raw ((c κs a).requires tt) ∷ []) ∵
    keep ! (0 ∷ []) $ split ! $ keep ! (0 ∷ []) $
    enter ! _ _ _ _ _ $ alloc_all ! (λ l. pass_all ! refl ((tt, tt), ((tt, tt), tt)) $
    sets ! (agg ! (no_more !)) refl (tt, tt) $
    nothing ! $ empty_made ! $ fjoin ! $
    returns ! (look_at ! 0 refl) $ free_all ! refl $
    suffices ! _ (ends_at 𝓛 f.ended stayed c y no_fields made (tt, (tt, tt)) (tt, (tt, tt))) $ says ! refl $
    nothing ! $ nothing ! $ fjoin ! $ nothing ! $ fjoin ! $ move ! (2 ∷ 0 ∷ 1 ∷ []) $ done !))
