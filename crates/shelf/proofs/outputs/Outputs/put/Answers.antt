use Rattle.std.proofs.Common.{◌≡◌, ◌++◌, ℕ, List, subst, sym}
use Rattle.std.proofs.Math.ListN.{set}
use Rattle.std.proofs.lemmas.Result.{IfErr-weaker, on_ok_weaker}
use Rattle.shelf.specs.Shelf.{Outside}
use Rattle.shelf.specs.OneFile.{Waiting}
use Rattle.shelf.specs.OnTheirWay.{AreApart, IsOutputs, names_of, outputs_with, waiting_with}
use Rattle.shelf.specs.Files.{Output, AreCut}
use Rattle.shelf.proofs.OutputLists.{Stops, begun_at, begun_moved, moves_ok, name_at, outputs_moved}
use Rattle.shelf.proofs.OutputLists.{outputs_stopped}
use Rattle.shelf.proofs.OutputLists.{stops_err, waits_at}
use Rattle.shelf.proofs.outputs.Outputs.put.Goals as goal

pub put-requires : goal.put-requires
put-requires g c =
    begun_at c.self.inside.files.items c.args.place c.index_mut-file.result.now
    (g.S.Shelf.outside c.args.shelf.now)
    (rw (← c.self.view_is) at c.requires.place) (sym c.index_mut-file.ensures.value)
    (rw (← c.self.view_is) at c.requires.begun)

pub invariant_of-self : goal.invariant_of-self
invariant_of-self g c =
    subst AreApart (sym (name_at c.self.inside.files.items c.args.place c.index_mut-file.result.now
    c.put.new.self
    (sym c.index_mut-file.ensures.value) c.put.ensures.name)) c.self.invariant

pub returns-clause-waiting : goal.returns-clause-waiting
returns-clause-waiting g c =
    on_ok_weaker c.put.result
    (λ kept. subst (λ (l : List Waiting). set c.self.inside.files.items c.args.place c.put.new.self
    ≡ waiting_with l c.args.place
    c.args.bytes.now) c.self.view_is
    (waits_at c.self.inside.files.items c.args.place c.index_mut-file.result.now c.put.new.self
    c.args.bytes.now
    (rw (← c.self.view_is) at c.requires.place) (sym c.index_mut-file.ensures.value)
    c.put.ensures.name kept))
    c.put.ensures.kept

pub returns-clause-outputs : goal.returns-clause-outputs
returns-clause-outputs g c =
    let f = c.index_mut-file.result.now in
    let after = c.put.new.self in
    let old = g.S.Shelf.outside c.args.shelf.now in
    let new = g.S.Shelf.outside c.put.new.shelf in
    let change = λ (put : List ℕ). put ++ c.args.bytes.now in
    on_ok_weaker c.put.result
    (λ moves outputs before on.
    outputs_moved f after change old new moves c.self.inside.files.items c.args.place
    (rw (← c.self.view_is) at c.requires.place)
    (sym c.index_mut-file.ensures.value) c.self.invariant outputs before
    (rw (← c.self.view_is) at on))
    (moves_ok f after change old new c.put.result c.put.ensures.sunk c.put.ensures.name
    c.put.ensures.others c.put.ensures.others_stand
    c.put.ensures.cause c.put.ensures.only)

pub returns-clause-cut : goal.returns-clause-cut
returns-clause-cut g c =
    let f = c.index_mut-file.result.now in
    let old = g.S.Shelf.outside c.args.shelf.now in
    let new = g.S.Shelf.outside c.put.new.shelf in
    let change = λ (put : List ℕ). put ++ c.args.bytes.now in
    IfErr-weaker c.put.result (λ e. Stops f change old new e)
    (λ e. (outputs : List Output) (before : Outside) → IsOutputs c.args.self.now outputs
    before old → AreCut (outputs_with outputs c.args.place c.args.bytes.now) before new e)
    (λ e stops outputs before on.
    outputs_stopped f change old new e stops c.self.inside.files.items c.args.place
    (rw (← c.self.view_is) at c.requires.place)
    (sym c.index_mut-file.ensures.value) c.self.invariant outputs before
    (rw (← c.self.view_is) at on))
    (stops_err f change old new c.put.result c.put.ensures.front c.put.ensures.others
    c.put.ensures.others_stand c.put.ensures.cause
    c.put.ensures.only)

pub returns-clause-names : goal.returns-clause-names
returns-clause-names g c =
    subst (λ (l : List Waiting). names_of
    (set c.self.inside.files.items c.args.place c.put.new.self) ≡ names_of l) c.self.view_is
    (name_at c.self.inside.files.items c.args.place c.index_mut-file.result.now c.put.new.self
    (sym c.index_mut-file.ensures.value)
    c.put.ensures.name)

pub returns-clause-begun : goal.returns-clause-begun
returns-clause-begun g c =
    begun_moved c.self.inside.files.items c.args.place c.index_mut-file.result.now c.put.new.self
    (g.S.Shelf.outside c.args.shelf.now)
    (g.S.Shelf.outside c.put.new.shelf)
    (sym c.index_mut-file.ensures.value) c.put.ensures.name c.put.ensures.others_stand
    c.put.ensures.begun
    (rw (← c.self.view_is) at c.requires.begun)
