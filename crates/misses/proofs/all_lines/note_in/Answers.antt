use Rattle.std.proofs.Common.{◌<◌, ◌/◌, ◌∙◌, ap, sym, subst, ℕ}
use Rattle.sharing_rules.specs.Lines.{word_place}
use Rattle.misses.specs.Laws.Fits.{known-fit, known-noted-as, known-stated-as}
use Rattle.misses.proofs.all_lines.note_in.Goals as goal

pub note_known-requires-clause-fit : goal.note_known-requires-clause-fit
note_known-requires-clause-fit c =
    let placed = c.place_in-place.ensures ∙ ap (word_place c.args.line) c.addr.ensures in
    let within : c.place_in-place.result < c.args.line.size / 4 =
    subst (λ (x : ℕ). x < c.args.line.size / 4) (sym placed) c.requires.within in
    known-fit c.args.line.size c.args.position c.args.lines.now.entries c.in-Some.index
    c.place_in-place.result c.requires.fit within

pub returns-in-Some-clause-noted : goal.returns-in-Some-clause-noted
returns-in-Some-clause-noted c =
    known-noted-as c.note_known.result c.args.lines.now.entries c.note_known.new.lines.entries
    c.args.line.number c.number-number.result c.in-Some.index (c.args.line.size / 4)
    c.args.position (word_place c.args.line c.args.access.now.addr) c.place_in-place.result
    c.args.access.now c.number-number.ensures.value
    (c.place_in-place.ensures ∙ ap (word_place c.args.line) c.addr.ensures)
    c.in-Some.ensures.index c.in-Some.ensures.value c.in-Some.ensures.found
    c.note_known.ensures.noted

pub returns-in-Some-clause-stated : goal.returns-in-Some-clause-stated
returns-in-Some-clause-stated c =
    known-stated-as c.note_known.result c.args.lines.now.entries
    c.args.line.number c.number-number.result c.in-Some.index (c.args.line.size / 4)
    (word_place c.args.line c.args.access.now.addr) c.place_in-place.result
    c.args.access.now c.number-number.ensures.value
    (c.place_in-place.ensures ∙ ap (word_place c.args.line) c.addr.ensures)
    c.in-Some.ensures.value c.in-Some.ensures.found c.note_known.ensures.stated
