use Rattle.std.proofs.Common.{rules, ◌≡◌, Some, sym}
use Rattle.shelf.specs.HeldFile.{file_of}
use Rattle.shelf.proofs.FileLemmas.{was_here, none_file}
use Rattle.shelf.proofs.files.bytes_of.Goals as goal

pub returns-in-Some : goal.returns-in-Some
returns-in-Some c =
    let here : file_of c.args.files.now c.args.name.now
    ≡ Some c.index-files-place.result.content.items =
    was_here c.args.name.now c.args.files.now c.in-Some.place c.index-files-place.result
    (record { place = search rules; at = sym c.index-files-place.is }) in
    cc (here, c.deref.ensures.value, c.index-files-place.is)

pub returns-in-None : goal.returns-in-None
returns-in-None c = sym (none_file c.args.name.now c.args.files.now
    (λ i e. cc (c.index_of_file.ensures, c.in-None.is, e)))
