-- `new` makes the struct of no fields, with the empty list that its clause names.
use Rattle.misses.proofs.ComerSteps.{[], ◌∷◌, refl, proved, ‵, raw, ◌⊛◌, ◌$◌, ◌∵◌, !, qed, done}
use Rattle.misses.proofs.ComerSteps.{move, keep, split, fjoin, suffices, agg, enter, no_more}
use Rattle.misses.proofs.ComerSteps.{returns, alloc_all, pass_all, free_all, look_at, sets, owns}
use Rattle.misses.proofs.ComerSteps.{types_at, nothing, alive, Stays, walk_of, says, ends_at}
use Rattle.misses.proofs.ComerSteps.{no_fields, empty_made}
use Rattle.misses.specs.contracts.comers.Comers as comers
use Rattle.misses.specs.contracts.comers.Comers.new as f
use Rattle.misses.proofs.comers.Comers.new.Statement.{statement}
use Rattle.misses.proofs.comers.Comers.new.Code as code

abbrev stayed : Stays f.ended.signature.params f.ended.kept
stayed = tt

pub new_spec : {M : Type 1} → statement M
new_spec 𝓤 𝓛 𝓜 𝓡 wired =
    let c = f.clauses 𝓛 𝓜.mem 𝓡.returns in
    let W = walk_of 𝓛 f.ended stayed c in
    proved 𝓛 f.ended stayed c 𝓜 𝓡 tt f.Key.name code.function (code.unfolded 𝓤 𝓛.H 𝓜 𝓡 wired)
    (λ κs. tt) (λ κs. tt) (λ κs qs bounds a _ are.
    let y : W.Ghost = ((κs, qs, bounds, a, tt), tt) in
    let made : comers.the_row.Denot = record { items = [] } in
    qed 𝓛 ((raw (alive 𝓛 f.signature κs qs) ⊛ ‵ (owns (types_at f.signature.params κs) a tt)) ∷ raw ((c κs a).requires tt) ∷ []) ∵
    keep ! (0 ∷ []) $ split ! $ keep ! (0 ∷ []) $
    enter ! _ _ _ _ _ $ alloc_all ! (λ l. pass_all ! refl tt $
    sets ! (agg ! (no_more !)) refl (tt, tt) $
    nothing ! $ empty_made ! $ fjoin ! $
    returns ! (look_at ! 0 refl) $ free_all ! refl $
    suffices ! _ (ends_at 𝓛 f.ended stayed c y no_fields made tt tt) $ says ! refl $
    nothing ! $ move ! (2 ∷ 0 ∷ 1 ∷ []) $ done !))
