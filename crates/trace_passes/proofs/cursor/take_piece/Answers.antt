use Rattle.std.proofs.Common.{◌≡◌, List, [], Option, None, Some, inl, inr, sym, ap, subst, unwrap_or, ◌∙◌}
use Rattle.trace_format.specs.declared.record.TraceRecord.{TraceRecord}
use Rattle.std.specs.Option.{option_or}
use Rattle.trace_format.specs.declared.fault.TraceFault.{TraceFault}
use Rattle.trace_format.specs.declared.record.Header.{Header}
use Rattle.trace_format.specs.declared.record.Version.{Version}
use Rattle.trace_format.specs.Reading.{magic_in}
use Rattle.trace_format.specs.ReaderStates.{ReadsOn}
use Rattle.trace_passes.specs.declared.wanted.Refusal.{Refusal}
use Rattle.trace_passes.specs.declared.wanted.Refusal.TheVariants as refusals
use Rattle.trace_passes.specs.declared.wanted.Wanted.{Wanted}
use Rattle.trace_passes.specs.Passes.{head_of, header_refusal, version_refusal}
use Rattle.trace_passes.proofs.Pieces.{first_not_memory, is_memory, no_fault, now_seen}
use Rattle.trace_passes.proofs.Pieces.{ok_is_no_err, read_now, refused_first, refused_in_front}
use Rattle.trace_passes.proofs.Pieces.{no_trace_front, now_read, that_fault, trace_alone}
use Rattle.trace_passes.proofs.cursor.take_piece.Goals as goal

abbrev judged : Wanted → Option Version → Option Header → Option Refusal
judged w v h = option_or (version_refusal w.pcs v) (header_refusal w h)

pub returns-in-Some-clause-refused : goal.returns-in-Some-clause-refused
returns-in-Some-clause-refused c = λ refusal same bytes more from stops.
    let old = c.args.reader.now in
    let piece = c.args.piece.now in
    let new = c.feed.new.self in
    let after = c.feed.new.into.items in
    let on : ReadsOn old piece new [] after =
    subst (λ (xs : List TraceRecord). ReadsOn old piece new xs after) c.requires.empty
    (c.in-Ok.ensures.read (ok_is_no_err _ _)) in
    let w = c.args.wanted.now in
    let stated : judged w (magic_in new) (head_of new.progress) ≡ Some c.in-Some.refusal =
    ap (judged w (magic_in new)) (sym c.header.ensures)
    ∙ ap (λ v. judged w v c.header.result) (sym c.magic.ensures) ∙ sym c.refusal.ensures
    ∙ c.in-Some.is in
    let is : c.in-Some.refusal ≡ refusal = cc in
    let clean : new.fault ≡ None = no_fault new.fault c.in-Ok.field-0 (c.in-Ok.ensures.answer) in
    refused_in_front old new piece after on bytes from w more c.in-Some.refusal clean stated
    ∙ ap (λ (x : Refusal). Some x) is

pub returns-in-None-clause-read : goal.returns-in-None-clause-read
returns-in-None-clause-read c = λ bytes from.
    let old = c.args.reader.now in
    let piece = c.args.piece.now in
    let new = c.feed.new.self in
    let after = c.feed.new.into.items in
    let on : ReadsOn old piece new [] after =
    subst (λ (xs : List TraceRecord). ReadsOn old piece new xs after) c.requires.empty
    (c.in-Ok.ensures.read (ok_is_no_err _ _)) in
    let w = c.args.wanted.now in
    let unrefused : judged w (magic_in new) (head_of new.progress) ≡ None =
    ap (judged w (magic_in new)) (sym c.header.ensures)
    ∙ ap (λ v. judged w v c.header.result) (sym c.magic.ensures) ∙ sym c.refusal.ensures
    ∙ c.in-None.is in
    let clean : new.fault ≡ None = no_fault new.fault c.in-Ok.field-0 (c.in-Ok.ensures.answer) in
    read_now old new piece after on bytes from c.args.wanted.now clean unrefused

pub returns-in-None-clause-records : goal.returns-in-None-clause-records
returns-in-None-clause-records c = λ bytes from.
    let old = c.args.reader.now in
    let piece = c.args.piece.now in
    let new = c.feed.new.self in
    let after = c.feed.new.into.items in
    let on : ReadsOn old piece new [] after =
    subst (λ (xs : List TraceRecord). ReadsOn old piece new xs after) c.requires.empty
    (c.in-Ok.ensures.read (ok_is_no_err _ _)) in
    sym (now_seen old new piece after on bytes from)

pub returns-in-Err-clause-refused : goal.returns-in-Err-clause-refused
returns-in-Err-clause-refused c = λ refusal same bytes more from stops.
    let old = c.args.reader.now in
    let piece = c.args.piece.now in
    let new = c.feed.new.self in
    let after = c.feed.new.into.items in
    let stated = c.refusal_of_header.result in
    let fault = c.in-Err.fault in
    let known = c.fault_after.ensures in
    elim (is_memory fault) [
      | inl memory ↦ let out = known.memory memory in absurd cc
      | inr other ↦
          let on : ReadsOn old piece new [] after =
          subst (λ (xs : List TraceRecord). ReadsOn old piece new xs after) c.requires.empty
          (c.in-Err.ensures.read (λ e. other cc)) in
          let is : stated ≡ header_refusal c.args.wanted.now (head_of new.progress) =
          c.refusal_of_header.ensures ∙ ap (header_refusal c.args.wanted.now) c.header-in-Err.ensures
          in
          let there = that_fault new.fault fault c.in-Err.ensures.answer in
          let out = known.refused other in
          refused_first old new piece after on bytes from c.args.wanted.now more fault stated stops is
          there
          ∙ cc
    ]

pub returns-in-Err-clause-memory : goal.returns-in-Err-clause-memory
returns-in-Err-clause-memory c = λ same.
    let fault = c.in-Err.fault in
    let known = c.fault_after.ensures in
    elim (is_memory fault) [
      | inl memory ↦ let out = known.memory memory in cc
      | inr other ↦
          let out = known.refused other in
          first_not_memory c.args.wanted.now c.header-in-Err.result c.refusal_of_header.result fault
          c.refusal_of_header.ensures other cc
    ]

pub returns-in-Err-clause-quiet : goal.returns-in-Err-clause-quiet
returns-in-Err-clause-quiet c = λ same.
    let fault = c.in-Err.fault in
    let known = c.fault_after.ensures in
    elim (is_memory fault) [
      | inl memory ↦ let out = known.memory memory in cc
      | inr other ↦ let out = known.refused other in cc
    ]

pub returns-in-Some-clause-stopped : goal.returns-in-Some-clause-stopped
returns-in-Some-clause-stopped c = λ fault same bytes from.
    let new = c.feed.new.self in
    let w = c.args.wanted.now in
    let stated : judged w (magic_in new) (head_of new.progress) ≡ Some c.in-Some.refusal =
    ap (judged w (magic_in new)) (sym c.header.ensures)
    ∙ ap (λ v. judged w v c.header.result) (sym c.magic.ensures) ∙ sym c.refusal.ensures
    ∙ c.in-Some.is in
    let is : c.in-Some.refusal ≡ refusals.Trace fault = cc in
    absurd (no_trace_front w (magic_in new) (head_of new.progress) fault
    (stated ∙ ap (λ (x : Refusal). Some x) is))

pub returns-in-Err-clause-stopped : goal.returns-in-Err-clause-stopped
returns-in-Err-clause-stopped c = λ wrong same bytes from.
    let old = c.args.reader.now in
    let piece = c.args.piece.now in
    let new = c.feed.new.self in
    let after = c.feed.new.into.items in
    let stated = c.refusal_of_header.result in
    let fault = c.in-Err.fault in
    let known = c.fault_after.ensures in
    elim (is_memory fault) [
      | inl memory ↦ let out = known.memory memory in absurd cc
      | inr other ↦
          let on : ReadsOn old piece new [] after =
          subst (λ (xs : List TraceRecord). ReadsOn old piece new xs after) c.requires.empty
          (c.in-Err.ensures.read (λ e. other cc)) in
          let is : stated ≡ header_refusal c.args.wanted.now (head_of new.progress) =
          c.refusal_of_header.ensures ∙ ap (header_refusal c.args.wanted.now) c.header-in-Err.ensures
          in
          let there = that_fault new.fault fault c.in-Err.ensures.answer in
          let out = known.refused other in
          let or_trace : unwrap_or stated (refusals.Trace fault) ≡ refusals.Trace wrong = cc in
          record {
            reading = now_read old new piece after on bytes from;
            fault_there = there ∙ ap (λ (f : TraceFault). Some f)
                (trace_alone c.args.wanted.now (head_of new.progress) stated fault wrong is or_trace);
            records = sym (now_seen old new piece after on bytes from);
          }
    ]
