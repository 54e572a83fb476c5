use Rattle.std.proofs.Common.{◌≡◌, ◌<◌, ◌++◌, None, IsSome, length, sym, ap, subst, ◌∙◌, arith}
use Rattle.trace_format.specs.Rules.{longest_trace}
use Rattle.trace_format.specs.Reading.{Reading, taken}
use Rattle.trace_format.specs.ReaderStates.{KeepsHead, ReadsOn}
use Rattle.std.specs.Prelude.{is_some}
use Rattle.trace_format.proofs.ReadParts.{none_there}
use Rattle.trace_format.proofs.Heads.{keeps_longer, keeps_with}
use Rattle.trace_format.proofs.Limits.{front_at_fault, front_then_too_long, some_of_front}
use Rattle.trace_format.proofs.reader.TraceReader.read_to_the_last.Goals as goal

pub returns-then-is_none-clause-read : goal.returns-then-is_none-clause-read
returns-then-is_none-clause-read c = λ _.
    let cut : c.args.piece.now ≡ c.split_at.result.0.now ++ c.split_at.result.1.now =
    c.split_at.ensures.by_index.0 in
    let clean : c.read_within.new.self.fault ≡ None = ap (λ (r : Reading). r.fault)
    (sym c.self.view_is)
    ∙ none_there c.self.inside.state.fault (sym c.if-is_none.ensures) in
    let some : 0 < length c.split_at.result.1.now = omega (arith, c.split_at.ensures.back_len) in
    let last : taken c.read_within.new.self ≡ longest_trace = c.read_within.ensures.taken clean
    ∙ omega (arith, c.split_at.ensures.front_len) in
    let on = c.read_within.ensures.read (λ e. cc) in
    subst (λ (r : Reading). ReadsOn c.args.self.now c.args.piece.now r c.args.into.now.items
    c.read_within.new.into.items)
    (sym c.stop.ensures)
    (front_then_too_long c.args.self.now c.read_within.new.self c.args.piece.now
    c.split_at.result.0.now c.split_at.result.1.now
    c.args.into.now.items c.read_within.new.into.items cut some clean last on)

pub returns-else-is_none-clause-read : goal.returns-else-is_none-clause-read
returns-else-is_none-clause-read c = λ enough.
    let cut : c.args.piece.now ≡ c.split_at.result.0.now ++ c.split_at.result.1.now =
    c.split_at.ensures.by_index.0 in
    let some : IsSome c.read_within.new.self.fault = ap (λ (r : Reading). is_some r.fault)
    (sym c.self.view_is) ∙ c.if-is_none.ensures in
    front_at_fault c.args.self.now c.read_within.new.self c.args.piece.now c.split_at.result.0.now
    c.split_at.result.1.now
    c.args.into.now.items c.read_within.new.into.items cut some (c.read_within.ensures.read enough)

pub returns-else-is_none-clause-no_memory : goal.returns-else-is_none-clause-no_memory
returns-else-is_none-clause-no_memory c = λ wants.
    let cut : c.args.piece.now ≡ c.split_at.result.0.now ++ c.split_at.result.1.now =
    c.split_at.ensures.by_index.0 in
    some_of_front c.args.self.now c.read_within.new.self c.args.piece.now c.split_at.result.0.now
    c.split_at.result.1.now
    c.args.into.now.items c.read_within.new.into.items cut (c.read_within.ensures.no_memory wants)

pub returns-then-is_none-clause-head : goal.returns-then-is_none-clause-head
returns-then-is_none-clause-head c =
    let mid = c.read_within.new.self in
    let cut : c.args.piece.now ≡ c.split_at.result.0.now ++ c.split_at.result.1.now =
    c.split_at.ensures.by_index.0 in
    let longer : KeepsHead c.args.self.now c.args.piece.now mid =
    keeps_longer _ _ _ c.split_at.result.0.now c.split_at.result.1.now cut
    c.read_within.ensures.head in
    keeps_with c.args.self.now mid _ c.args.piece.now
    (ap (λ (r : Reading). r.progress) c.stop.ensures) longer

pub returns-else-is_none-clause-head : goal.returns-else-is_none-clause-head
returns-else-is_none-clause-head c =
    let cut : c.args.piece.now ≡ c.split_at.result.0.now ++ c.split_at.result.1.now =
    c.split_at.ensures.by_index.0 in
    keeps_longer _ _ _ c.split_at.result.0.now c.split_at.result.1.now cut
    c.read_within.ensures.head
