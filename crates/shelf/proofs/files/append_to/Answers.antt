use Rattle.std.proofs.Common.{rules, refl, sym}
use Rattle.shelf.proofs.FileLemmas.{appended, same_bytes, no_file, on_err}
use Rattle.shelf.proofs.files.append_to.Goals as goal

pub returns-in_ok-extend_from_slice-clause-ok : goal.returns-in_ok-extend_from_slice-clause-ok
returns-in_ok-extend_from_slice-clause-ok c =
    appended c.args.name.now c.args.files.now.items c.in-Some.place c.index_mut.result.now _
    c.args.piece.now
    (record { place = search rules; at = sym c.index_mut.ensures.value }) refl
    c.in_ok-extend_from_slice.ensures.items

pub returns-in_err-extend_from_slice-clause-err : goal.returns-in_err-extend_from_slice-clause-err
returns-in_err-extend_from_slice-clause-err c =
    on_err _ (same_bytes c.args.name.now c.args.files.now.items c.in-Some.place
    c.index_mut.result.now _
    (record { place = search rules; at = sym c.index_mut.ensures.value }) refl
    c.in_err-extend_from_slice.ensures.items)

pub returns-in_default-clause-ok : goal.returns-in_default-clause-ok
returns-in_default-clause-ok c =
    absurd (no_file c.args.name.now c.args.files.now.items
    (λ i e. c.in_default.not-Some i (cc (c.index_of_file.ensures, c.deref.ensures.value, e))) c.requires)
