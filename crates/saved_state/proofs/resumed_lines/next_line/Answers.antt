use Rattle.std.proofs.Common.{◌≡◌, ◌∙◌, ◌+◌, List, None, Some, Err, ap, drop, sym, subst}
use Rattle.base.specs.declared.faults.ResumeFault.{ResumeFault}
use Rattle.saved_state.specs.declared.state_parts.CountedLine.{CountedLine}
use Rattle.saved_state.specs.Laws.Parts.{IsLast-push}
use Rattle.saved_state.specs.Parts.{IsLast, header_meant}
use Rattle.saved_state.specs.Spelling.{spell_line}
use Rattle.saved_state.specs.Units.{line_in}
use Rattle.detector.specs.Watch.{Watch}
use Rattle.saved_state.specs.Ready.{IsReady, lines_at, lines_read}
use Rattle.saved_state.specs.Saving.{counted_lines}
use Rattle.saved_state.proofs.AddLaws.{added_behind, good_of, next_line, ready_line}
use Rattle.saved_state.proofs.LoopLaws.{no_unit}
use Rattle.saved_state.proofs.SaveLaws.{counted_lines-counted}
use Rattle.saved_state.proofs.resumed_lines.next_line.Given.{Over}
use Rattle.saved_state.proofs.resumed_lines.next_line.Goals as goal
use Rattle.saved_state.proofs.resumed_lines.next_line.Goals.{In-None, In-Some}

-- what was read is the line that is there
none : (g : Over) (c : In-None g) → line_in (header_meant c.args.header.now)
    (counted_lines c.args.detector.now.writes)
    c.args.rest.bytes.now ≡ None
none g c = sym (c.in-None.ensures.value (counted_lines c.args.detector.now.writes)
    (counted_lines-counted c.args.detector.now.writes).rising
    c.requires.last)

some : (g : Over) (c : In-Some g) → line_in (header_meant c.args.header.now)
    (counted_lines c.args.detector.now.writes)
    c.args.rest.bytes.now
    ≡ Some c.in-Some.line
some g c = sym (c.in-Some.ensures.value (counted_lines c.args.detector.now.writes)
    (counted_lines-counted c.args.detector.now.writes).rising
    c.requires.last)

pub returns-in-None-clause-refused : goal.returns-in-None-clause-refused
returns-in-None-clause-refused g c = λ more memory.
    let h = header_meant c.args.header.now in
    no_unit (line_in h) (spell_line h.grid)
    (lines_at c.args.detector.now c.args.rest.place c.args.rest.bytes.now) more
    (none g (goal.at.returns-in-None-clause-refused g c).In-None)
    ∙ ap (λ (f : ResumeFault). Err f) (sym c.fault_at.ensures)

pub add_line-requires-clause-good : goal.add_line-requires-clause-good
add_line-requires-clause-good g c =
    good_of (header_meant c.args.header.now) c.args.detector.now c.in-Some.line
    c.args.rest.bytes.now
    (some g (goal.at.add_line-requires-clause-good g c).In-Some)

pub returns-in-Ok-clause-read : goal.returns-in-Ok-clause-read
returns-in-Ok-clause-read g c = λ more.
    let h = header_meant c.args.header.now in
    next_line h c.args.detector.now c.in-Some.line c.args.rest.place c.args.rest.bytes.now more
    (some g (goal.at.returns-in-Ok-clause-read g c).In-Some)
    ∙ ap (λ (w : Watch). lines_read h more w (c.args.rest.place + 16)
    (drop 16 c.args.rest.bytes.now)) (sym c.in-Ok.ensures.added)

pub returns-in-Ok-clause-ready : goal.returns-in-Ok-clause-ready
returns-in-Ok-clause-ready g c =
    let h = header_meant c.args.header.now in
    let w = c.args.detector.now in
    let there = some g (goal.at.returns-in-Ok-clause-ready g c).In-Some in
    subst (IsReady h) (sym c.in-Ok.ensures.added)
    (ready_line h w c.in-Some.line c.requires.ready
    (good_of h w c.in-Some.line c.args.rest.bytes.now there))

pub returns-in-Ok-clause-last : goal.returns-in-Ok-clause-last
returns-in-Ok-clause-last g c =
    let h = header_meant c.args.header.now in
    let w = c.args.detector.now in
    let l = c.in-Some.line in
    let there = some g (goal.at.returns-in-Ok-clause-last g c).In-Some in
    subst (λ (v : Watch). IsLast (counted_lines v.writes) (Some l.number))
    (sym c.in-Ok.ensures.added)
    (subst (λ (ls : List CountedLine). IsLast ls (Some l.number))
    (sym (added_behind h w l c.args.rest.bytes.now there))
    (IsLast-push (counted_lines w.writes) l))
