-- The words of a line with the access.
use Rattle.std.proofs.Common.{◌≡◌, ◌<◌, Some, length, set, sym, ap, ◌∙◌, rules}
use Rattle.std.proofs.lemmas.Option.{slice_get-get_or}
use Rattle.std.specs.Prelude.{slice_get}
use Rattle.line_tracks.specs.Laws.WordLines.{note-since, noted_words}
use Rattle.line_tracks.specs.RangeWords.{note_words, word_index}
use Rattle.line_tracks.proofs.shadow.Shadow.note.Goals as goal

pub returns-clause-since : goal.returns-clause-since
returns-clause-since c = λ l s t allowed due range words.
    let items = c.self.inside.words.items in
    let p = c.place_in-place.result in
    let w = c.index_mut-word.result.now in
    let within : p < length items = search rules in
    let get : slice_get items p ≡ Some w = slice_get-get_or items p w within
    ∙ ap Some (sym c.index_mut-word.ensures.value) in
    let place : p ≡ word_index c.self.inside.range c.args.access.addr = c.place_in-place.ensures.place
    ∙ ap (word_index c.self.inside.range) c.addr.ensures in
    let exact : (note_words c.args.self.now c.args.access).words ≡ set items p c.note.new.self =
    ap (λ v. (note_words v c.args.access).words) (sym c.self.view_is)
    ∙ noted_words c.self.inside.range items c.args.access p w place get
    ∙ ap (set items p) (sym c.note.ensures.value) in
    sym exact ∙ note-since c.args.self.now l s t c.args.access allowed due c.requires.inside range
    words
