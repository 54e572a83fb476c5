-- `and` makes the struct of no fields, with the list that its clause names.
use Rattle.misses.proofs.ComerSteps.{[], ◌∷◌, refl, proved, ‵, raw, ◌⊛◌, ◌$◌, ◌∵◌, !, qed, done}
use Rattle.misses.proofs.ComerSteps.{move, keep, split, fjoin, suffices, agg, enter, no_more}
use Rattle.misses.proofs.ComerSteps.{returns, alloc_all, pass_all, free_all, look_at, sets, owns}
use Rattle.misses.proofs.ComerSteps.{types_at, nothing, alive, Stays, walk_of, says}
use Rattle.misses.proofs.ComerSteps.{ends_at, no_fields, empty_made}
use denote.Exit.{yes}
use denote.Builtin.{RefOf}
use denote.Ref.{shr_vals, shr_Tells}
use denote.Signature.{plain}
use denote.Triple.Walked.{stay_dropped, Goes-dropped}
use mir.Syntax.{named}
use Rattle.indexmap.specs.IndexMap.{insert_entry}
use Rattle.std.specs.Prelude.{nat_eq}
use Rattle.misses.specs.contracts.seat.Seat as seat
use Rattle.misses.specs.contracts.comers.Comers as comers
use Rattle.misses.specs.contracts.comers.Comers.and as f
use Rattle.misses.proofs.comers.Comers.and.Statement.{statement}
use Rattle.misses.proofs.comers.Comers.and.Code as code

abbrev stayed : Stays f.ended.signature.params f.ended.kept
stayed = (stay_dropped _ yes, (stay_dropped _ yes, tt))

pub and_spec : {M : Type 1} → statement M
and_spec 𝓤 𝓛 𝓜 𝓡 wired =
    let c = f.clauses 𝓛 𝓜.mem 𝓡.returns in
    let W = walk_of 𝓛 f.ended stayed c in
    proved 𝓛 f.ended stayed c 𝓜 𝓡 (
      Goes-dropped 𝓛 2 (RefOf (0 ∷ []) tt (plain (λ _. comers.the_row)) (λ _. tt)) yes (λ κs x w. refl),
      (Goes-dropped 𝓛 2 (RefOf (1 ∷ []) tt (plain (λ _. seat.the_row)) (λ _. tt)) yes (λ κs x w. refl), tt),
    ) f.Key.name code.function (code.unfolded 𝓤 𝓛.H 𝓜 𝓡 wired)
    (λ κs. (shr_vals, (shr_vals, tt)))
    (λ κs. (shr_Tells (named 0) κs.0 comers.the_row, (shr_Tells (named 1) κs.1.0 seat.the_row, tt)))
    (λ κs qs bounds a _ are.
    let y : W.Ghost = ((κs, qs, bounds, a, (shr_vals a.0, (shr_vals a.1.0, tt))), tt) in
    let made : comers.the_row.Denot = record { items = insert_entry nat_eq a.0.now.items a.1.0.now.0 a.1.0.now.1 } in
    qed 𝓛 ((raw (alive 𝓛 f.signature κs qs) ⊛ ‵ (owns (types_at f.signature.params κs) a y.0.4)) ∷ raw ((c κs a).requires tt) ∷ []) ∵
    keep ! (0 ∷ []) $ split ! $ keep ! (0 ∷ []) $
    enter ! _ _ _ _ _ $ alloc_all ! (λ l. pass_all ! refl ((tt, tt), ((tt, tt), tt)) $
    sets ! (agg ! (no_more !)) refl (tt, tt) $
    nothing ! $ empty_made ! $ fjoin ! $
    returns ! (look_at ! 0 refl) $ free_all ! refl $
    suffices ! _ (ends_at 𝓛 f.ended stayed c y no_fields made (tt, (tt, tt)) (tt, (tt, tt))) $ says ! refl $
    nothing ! $ nothing ! $ fjoin ! $ nothing ! $ fjoin ! $ move ! (2 ∷ 0 ∷ 1 ∷ []) $ done !))
