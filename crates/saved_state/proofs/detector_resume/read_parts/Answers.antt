use Rattle.std.proofs.Common.{◌≡◌, ◌∙◌, [], Ok, Err, ap, drop, length, subst, sym, arith}
use Rattle.std.specs.Prelude.{◌^◌}
use Rattle.base.specs.declared.faults.ResumeFault.{ResumeFault}
use Rattle.saved_state.specs.Laws.Again.{in_range, rules_of}
use Rattle.saved_state.specs.Laws.Reading.{header_is}
use Rattle.saved_state.specs.Parts.{header_meant}
use Rattle.detector.specs.Adding.{nothing_kept}
use Rattle.detector.specs.Watch.{Watch}
use Rattle.saved_state.specs.Ready.{IsReady, due_numbers, lines_at, lines_read}
use Rattle.saved_state.specs.Saving.{counted_lines}
use Rattle.saved_state.proofs.ResumeLaws.{all_read, bad_lines, bad_tracks, missing, no_due}
use Rattle.saved_state.proofs.ResumeLaws.{no_lines, ready_start, state_read}
use Rattle.saved_state.proofs.detector_resume.read_parts.Given.{Over}
use Rattle.saved_state.proofs.detector_resume.read_parts.Goals as goal
use Rattle.saved_state.proofs.detector_resume.read_parts.Goals.{In-Ok}

pub read_lines-requires-clause-ready : goal.read_lines-requires-clause-ready
read_lines-requires-clause-ready g c =
    let h = c.args.header.now in
    let rules = rules_of (header_meant h) (header_is c.args.part.now
    (header_meant h) c.requires.header).is_good in
    subst (IsReady (header_meant h)) (sym c.requires.blank)
    (ready_start h (in_range 1 (2 ^ 32) h.thresholds.tracking rules.tracking).0 rules.layout
    c.requires.native)

pub read_lines-requires-clause-none : goal.read_lines-requires-clause-none
read_lines-requires-clause-none g c = ap (λ (w : Watch). counted_lines w.writes) c.requires.blank
    ∙ no_lines

pub read_lines-requires-clause-due : goal.read_lines-requires-clause-due
read_lines-requires-clause-due g c =
    let h = c.args.header.now in
    c.new-due.ensures.items ∙ sym (no_due (header_meant h) h.layout h.thresholds h.position)
    ∙ ap (due_numbers (header_meant h)) (sym c.requires.blank)

pub returns-in-Err-clause-refused : goal.returns-in-Err-clause-refused
returns-in-Err-clause-refused g c = λ memory.
    let h = c.args.header.now in
    let at = c.requires.blank in
    let back = c.split_at.ensures.back in
    bad_lines h.thresholds.report (header_meant h) h.layout h.thresholds h.position c.args.part.now
    c.requires.header c.in-Err.fault
    ((λ i. lines_read (header_meant h) h.lines (sym at i) 64 (sym back i))
    ∙ c.in-Err.ensures.refused memory)

-- the lines that were read, from the beginning on
lines : (g : Over) (c : In-Ok g) → lines_read (header_meant c.args.header.now)
    c.args.header.now.lines
    (nothing_kept c.args.header.now.layout c.args.header.now.thresholds c.args.header.now.position)
    64 (drop 64 c.args.part.now)
    ≡ Ok (lines_at c.read_lines.new.detector c.in-Ok.rest.place c.in-Ok.rest.bytes.now)
lines g c =
    let h = c.args.header.now in
    let at = c.requires.blank in
    let back = c.split_at.ensures.back in
    (λ i. lines_read (header_meant h) h.lines (sym at i) 64 (sym back i)) ∙ c.in-Ok.ensures.read

trackless : (g : Over) (c : In-Ok g) → c.read_lines.new.detector.tracks ≡ []
trackless g c = c.in-Ok.ensures.tracks ∙ ap (λ (w : Watch). w.tracks) c.requires.blank

pub returns-in-Err-read_tracks-clause-refused : goal.returns-in-Err-read_tracks-clause-refused
returns-in-Err-read_tracks-clause-refused g c = λ memory.
    let h = c.args.header.now in
    let read = (goal.at.returns-in-Err-read_tracks-clause-refused g c).In-Ok in
    bad_tracks h.thresholds.report (header_meant h) h.layout h.thresholds h.position c.args.part.now
    c.requires.header c.read_lines.new.detector c.in-Ok.rest.place
    c.in-Ok.rest.bytes.now (lines g read) (trackless g read) c.in-Err-read_tracks.fault
    (c.in-Err-read_tracks.ensures.refused memory)

pub returns-then-tracks-len-clause-refused : goal.returns-then-tracks-len-clause-refused
returns-then-tracks-len-clause-refused g c = λ memory.
    let h = c.args.header.now in
    let read = (goal.at.returns-then-tracks-len-clause-refused g c).In-Ok in
    missing h.thresholds.report (header_meant h) h.layout h.thresholds h.position c.args.part.now
    c.requires.header c.read_lines.new.detector c.in-Ok.rest.place
    c.in-Ok.rest.bytes.now (lines g read) (trackless g read) c.read_tracks.new.detector
    c.in-Ok-read_tracks.rest.place
    c.in-Ok-read_tracks.rest.bytes.now c.in-Ok-read_tracks.ensures.read
    (omega (
      arith,
      c.if-tracks-len.true,
      c.len.ensures,
      ap length c.tracks.ensures.value,
      ap length
          c.in-Ok.ensures.due,
    ))
    ∙ ap (λ (f : ResumeFault). Err f) (sym c.fault_at.ensures)

pub returns-clause-resumed : goal.returns-clause-resumed
returns-clause-resumed g c =
    let h = c.args.header.now in
    let read = (goal.at.returns-clause-resumed g c).In-Ok in
    let levels : c.read_tracks.new.detector.levels ≡ h.thresholds =
    c.in-Ok-read_tracks.ensures.levels ∙ c.in-Ok.ensures.levels
    ∙ ap (λ (w : Watch). w.levels) c.requires.blank in
    all_read h.thresholds.report (header_meant h) h.layout h.thresholds h.position c.args.part.now
    c.requires.header c.read_lines.new.detector c.in-Ok.rest.place
    c.in-Ok.rest.bytes.now (lines g read) (trackless g read) c.read_tracks.new.detector
    c.in-Ok-read_tracks.rest.place
    c.in-Ok-read_tracks.rest.bytes.now c.in-Ok-read_tracks.ensures.read
    (omega (
      arith,
      c.if-tracks-len.false,
      c.len.ensures,
      ap length c.tracks.ensures.value,
      ap length
          c.in-Ok.ensures.due,
    ))
    c.in-Ok-read_tracks.ensures.ready c.in-Ok-read_tracks.ensures.writes levels

pub returns-clause-state : goal.returns-clause-state
returns-clause-state g c =
    let h = c.args.header.now in
    let read = (goal.at.returns-clause-state g c).In-Ok in
    state_read h.thresholds.report (header_meant h) h.layout h.thresholds h.position c.args.part.now
    c.requires.header c.read_lines.new.detector c.in-Ok.rest.place
    c.in-Ok.rest.bytes.now (lines g read) (trackless g read) c.read_tracks.new.detector
    c.in-Ok-read_tracks.rest.place
    c.in-Ok-read_tracks.rest.bytes.now c.in-Ok-read_tracks.ensures.read
    (omega (
      arith,
      c.if-tracks-len.false,
      c.len.ensures,
      ap length c.tracks.ensures.value,
      ap length
          c.in-Ok.ensures.due,
    ))
    c.in-Ok-read_tracks.ensures.ready c.in-Ok-read_tracks.ensures.writes
