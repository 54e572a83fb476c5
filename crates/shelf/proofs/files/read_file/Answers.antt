use Rattle.std.proofs.Common.{rules, ◌≡◌, ◌-◌, min, length, refl, List, ℕ, sym, subst}
use Rattle.shelf.specs.Shelf.{Reads}
use Rattle.shelf.proofs.FileLemmas.{was_here, content_here, no_file}
use Rattle.shelf.proofs.files.read_file.Goals as goal

pub returns-in-Some-clause-count : goal.returns-in-Some-clause-count
returns-in-Some-clause-count c =
    let P : List ℕ → Type 0 = λ bytes. c.copy_from.result ≡ min (length bytes - c.args.at)
    (length c.copy_from.new.into) in
    subst P (content_here c.args.name.now c.args.files.now c.in-Some.place
    c.index-files-place.result c.deref.result.now
    (record { place = search rules; at = sym c.index-files-place.is })
    (cc (c.deref.ensures.value, c.index-files-place.is)))
    c.copy_from.ensures.count

pub returns-in-Some-clause-reads : goal.returns-in-Some-clause-reads
returns-in-Some-clause-reads c =
    let P : List ℕ → Type 0 = λ bytes. Reads bytes c.args.at c.copy_from.result c.copy_from.new.into
    in
    subst P (content_here c.args.name.now c.args.files.now c.in-Some.place
    c.index-files-place.result c.deref.result.now
    (record { place = search rules; at = sym c.index-files-place.is })
    (cc (c.deref.ensures.value, c.index-files-place.is)))
    c.copy_from.ensures.reads

pub returns-in-Some-clause-found : goal.returns-in-Some-clause-found
returns-in-Some-clause-found c =
    rw (was_here c.args.name.now c.args.files.now c.in-Some.place c.index-files-place.result
    (record { place = search rules; at = sym c.index-files-place.is }))
    ((λ _. refl), (λ _. refl))

pub returns-in-None-clause-found : goal.returns-in-None-clause-found
returns-in-None-clause-found c = (
  (λ e. cc),
  (λ some. absurd (no_file c.args.name.now c.args.files.now
      (λ i e. cc (c.index_of_file.ensures, c.in-None.is, e)) some)),
)
