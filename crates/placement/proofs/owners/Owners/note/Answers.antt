-- The word and the end are noted.
use Rattle.std.proofs.Common.{ℕ, ◌+◌, ◌∷◌, [], ◌++◌, ◌∙◌, max, sym, ap}
use Rattle.base.specs.Touch.{word_of}
use Rattle.placement.specs.Laws.Words.{end-push, same-owned}
use Rattle.placement.specs.Words.{Owned, owned_of, owners_of}
use Rattle.placement.proofs.owners.Owners.note.Goals as goal

pub returns : goal.returns
returns c = λ t was.
    let e = c.args.self.now.extent in
    let is = c.self.view_is ∙ was in
    let owners = ap (λ (o : Owned). o.owners) is in
    let end = ap (λ (o : Owned). o.end) is in
    let extent = ap (λ (o : Owned). o.extent) is in
    let noted = c.note_word.ensures.of_list t
    (owners ∙ ap (λ x. owners_of x t) (sym extent)) in
    same-owned _ (owned_of e (t ++ c.args.access ∷ [])) extent
    (noted ∙ ap (λ x. owners_of x (t ++ c.args.access ∷ [])) extent)
    (c.later-self-inside.ensures
    ∙ ap (λ (n : ℕ). max c.self.inside.end (n + 4)) (c.from.ensures ∙ c.word.ensures.value)
    ∙ ap (λ (n : ℕ). max n (word_of c.args.access.addr + 4)) end
    ∙ sym (end-push t c.args.access))
