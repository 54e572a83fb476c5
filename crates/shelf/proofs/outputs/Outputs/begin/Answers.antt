use Rattle.std.proofs.Common.{◌≡◌, ◌∙◌, ◌++◌, ◌∷◌, [], List, ap, subst, sym}
use Rattle.shelf.specs.Shelf.{Outside}
use Rattle.shelf.specs.declared.shelf.ShelfError.TheVariants.{NoMemory}
use Rattle.shelf.specs.Laws.Files.{IsOutputs-cut}
use Rattle.shelf.specs.Files.{Output, AreCut}
use Rattle.shelf.specs.OneFile.{Waiting}
use Rattle.shelf.specs.OnTheirWay.{AreApart, AreBegun, IsOutputs, names_of}
use Rattle.shelf.proofs.OutputLists.{IsBegunFile, apart_more, begin_cut, begun_file, begun_more}
use Rattle.shelf.proofs.OutputLists.{only_memory, outputs_begun}
use Rattle.shelf.proofs.outputs.Outputs.begin.Goals as goal

pub returns-in_err-push-in-Ok-clause-cut : goal.returns-in_err-push-in-Ok-clause-cut
returns-in_err-push-in-Ok-clause-cut g c =
    let f : Waiting = record { name = c.args.name.now; kept = [] } in
    let old = g.S.Shelf.outside c.args.shelf.now in
    let new = g.S.Shelf.outside c.begin.new.shelf in
    only_memory (λ e. (outputs : List Output) (before : Outside)
    → IsOutputs c.args.self.now outputs before old → AreCut
    (outputs ++ record { name = c.args.name.now; bytes = [] } ∷ []) before new e)
    c.from_residual.result c.from_residual.ensures.1
    (λ outputs before on.
    IsOutputs-cut (c.args.self.now ++ f ∷ [])
    (outputs ++ record { name = c.args.name.now; bytes = [] } ∷ []) before new NoMemory
    (λ e. cc)
    (outputs_begun f c.args.self.now outputs before old new c.requires
    (begun_file f c.in-Ok.sink old new c.in-Ok.ensures.fresh c.in-Ok.ensures.sunk
    c.in-Ok.ensures.others c.in-Ok.ensures.others_stand
    c.in-Ok.ensures.cause c.in-Ok.ensures.only) on))

pub invariant_of-self-in-Ok : goal.invariant_of-self-in-Ok
invariant_of-self-in-Ok g c =
    let f : Waiting = record { name = c.args.name.now; kept = [] } in
    let items : c.push.new.self.items ≡ c.self.inside.files.items ++ f ∷ [] =
    c.in_ok-push-in-Ok.ensures.items ∙ ap
    (λ (x : Waiting). c.self.inside.files.items ++ x ∷ []) c.in-Ok.ensures.fresh in
    subst (λ (l : List Waiting). AreApart (names_of l)) (sym items)
    (apart_more c.self.inside.files.items f (rw (← c.self.view_is) at c.requires) c.self.invariant)

pub returns-in_ok-push-in-Ok-clause-outputs : goal.returns-in_ok-push-in-Ok-clause-outputs
returns-in_ok-push-in-Ok-clause-outputs g c = λ outputs before on.
    let f : Waiting = record { name = c.args.name.now; kept = [] } in
    let items : c.push.new.self.items ≡ c.args.self.now ++ f ∷ [] =
    c.in_ok-push-in-Ok.ensures.items ∙ ap (λ (x : Waiting). c.self.inside.files.items ++ x ∷ [])
    c.in-Ok.ensures.fresh ∙ ap
    (λ (l : List Waiting). l ++ f ∷ []) c.self.view_is in
    let is : IsBegunFile f (g.S.Shelf.outside c.args.shelf.now)
    (g.S.Shelf.outside c.begin.new.shelf) =
    begun_file f c.in-Ok.sink (g.S.Shelf.outside c.args.shelf.now)
    (g.S.Shelf.outside c.begin.new.shelf) c.in-Ok.ensures.fresh
    c.in-Ok.ensures.sunk c.in-Ok.ensures.others c.in-Ok.ensures.others_stand c.in-Ok.ensures.cause
    c.in-Ok.ensures.only in
    subst (λ (l : List Waiting). IsOutputs l
    (outputs ++ record { name = c.args.name.now; bytes = [] } ∷ []) before
    (g.S.Shelf.outside c.begin.new.shelf)) (sym items)
    (outputs_begun f c.args.self.now outputs before (g.S.Shelf.outside c.args.shelf.now)
    (g.S.Shelf.outside c.begin.new.shelf)
    c.requires is on)

pub returns-in-Err-clause-cut : goal.returns-in-Err-clause-cut
returns-in-Err-clause-cut g c = λ outputs before on.
    begin_cut c.args.name.now c.args.self.now outputs before (g.S.Shelf.outside c.args.shelf.now)
    (g.S.Shelf.outside c.begin.new.shelf)
    c.in-Err.error c.requires
    c.in-Err.ensures.begins c.in-Err.ensures.others_stand c.in-Err.ensures.cause
    c.in-Err.ensures.only on

pub returns-in_ok-push-in-Ok-clause-ready : goal.returns-in_ok-push-in-Ok-clause-ready
returns-in_ok-push-in-Ok-clause-ready g c = λ begun.
    let f : Waiting = record { name = c.args.name.now; kept = [] } in
    let items : c.push.new.self.items ≡ c.args.self.now ++ f ∷ [] =
    c.in_ok-push-in-Ok.ensures.items ∙ ap (λ (x : Waiting). c.self.inside.files.items ++ x ∷ [])
    c.in-Ok.ensures.fresh ∙ ap
    (λ (l : List Waiting). l ++ f ∷ []) c.self.view_is in
    subst (λ (l : List Waiting). AreBegun (names_of l) (g.S.Shelf.outside c.begin.new.shelf))
    (sym items)
    (begun_more c.args.self.now f (g.S.Shelf.outside c.args.shelf.now)
    (g.S.Shelf.outside c.begin.new.shelf)
    c.in-Ok.ensures.others_stand c.in-Ok.ensures.begun begun)
