-- The word of the access is noted, or it is none of the object's.
use Rattle.std.proofs.Common.{◌≡◌, ℕ, ◌+◌, List, Some, ◌∙◌, ap}
use Rattle.std.specs.Prelude.{slice_get, slice_set}
use Rattle.base.specs.Touch.{word_of}
use Rattle.sharing_rules.specs.Words.{note_owner}
use Rattle.sharing_rules.specs.declared.word.Owner.{Owner}
use Rattle.placement.specs.Laws.Words.{owners-at, owners-push, owners-stay, word-found}
use Rattle.placement.specs.Laws.Words.{word-missed}
use Rattle.placement.specs.Words.{first_word, index_of, owner_in}
use Rattle.placement.proofs.owners.note_word.Goals as goal

pub returns-in-Some-clause-of_list : goal.returns-in-Some-clause-of_list
returns-in-Some-clause-of_list c = λ t was.
    let e = c.args.extent in
    let a = c.args.access in
    let i : ℕ = c.in-Some.index in
    let found : Some i ≡ index_of e (word_of a.addr) =
    c.in-Some.ensures ∙ ap (index_of e) c.word.ensures.value in
    let is = word-found e a.addr i found in
    let at : slice_get c.args.owners.now.items i ≡ Some (owner_in t (first_word e + i)) =
    ap (λ (os : List Owner). slice_get os i) was ∙ owners-at e t i is.within in
    c.note_at.ensures.noted (owner_in t (first_word e + i)) at
    ∙ ap (λ (h : ℕ). slice_set c.args.owners.now.items i (note_owner (owner_in t (first_word e + i)) h))
    c.hart.ensures.value
    ∙ ap (λ (os : List Owner). slice_set os i (note_owner (owner_in t (first_word e + i)) a.hart)) was
    ∙ owners-push e t a i is.within is.at

pub returns-in_default-clause-of_list : goal.returns-in_default-clause-of_list
returns-in_default-clause-of_list c = λ t was.
    let e = c.args.extent in
    let a = c.args.access in
    was ∙ owners-stay e t a (word-missed e a.addr c.word.result c.index_of.result
    c.word.ensures.value c.index_of.ensures c.in_default.is)
