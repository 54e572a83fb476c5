use Rattle.std.proofs.Common.{rules, refl, sym, ◌≡◌, Some, List, [], ◌∷◌, ◌++◌, subst}
use Rattle.shelf.specs.Shelf.{ChangesAt}
use Rattle.shelf.specs.HeldFile.{file_of}
use Rattle.shelf.specs.declared.files.HeldFile.{HeldFile}
use Rattle.shelf.proofs.FileLemmas.{emptied, pushed}
use Rattle.shelf.proofs.files.begin_file.Goals as goal

pub returns-in-Some-clause-ok : goal.returns-in-Some-clause-ok
returns-in-Some-clause-ok c =
    emptied c.args.name.now c.args.files.now.items c.in-Some.place c.index_mut.result.now _
    (record { place = search rules; at = sym c.index_mut.ensures.value }) refl c.clear.ensures.items

pub returns-clause-ok : goal.returns-clause-ok
returns-clause-ok c =
    let file : HeldFile = record { name = c.in_ok-name.name; content = c.new.result } in
    let e : c.push.new.self.items ≡ c.args.files.now.items ++ file ∷ [] = search rules in
    let P : List HeldFile → Type 0 = λ items.
    ChangesAt c.args.name.now (λ old new. new ≡ Some []) (file_of c.args.files.now.items)
    (file_of items) in
    subst P (sym e) (pushed c.args.name.now c.args.files.now.items file
    (λ i e. c.in_default.not-Some i (cc (c.index_of_file.ensures, c.deref.ensures.value, e)))
    c.in_ok-name.ensures.ok c.new.ensures.items)
