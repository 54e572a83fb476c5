use Rattle.std.proofs.Common.{◌≡◌, ◌≤◌, ◌+◌, length, [], ◌++◌, List, ℕ, None, ap, subst, ◌∙◌, arith}
use Rattle.std.proofs.lemmas.List.{length-append}
use Rattle.trace_format.specs.Rules.{longest_trace}
use Rattle.trace_format.specs.Reading.{Reading, place_reached, taken}
use Rattle.trace_format.specs.ReaderStates.{KeepsHead, reading_with}
use Rattle.trace_format.proofs.Heads.{as_before, keeps_with}
use Rattle.trace_format.proofs.ReadParts.{head_first}
use Rattle.trace_format.proofs.Pieces.{GaveOf, GivesOf, Keeps, kept_low, kept_sound, kept_waits}
use Rattle.trace_format.proofs.Pieces.{piece_gives}
use Rattle.trace_format.proofs.reader.TraceReader.read_within.Goals as goal
use Rattle.trace_format.proofs.reader.TraceReader.read_within.Goals.{After-kept_of-pending}

-- What is kept of the bytes left over.
keeps : (c : After-kept_of-pending) → Keeps c.read_parts-rest.new.state c.kept_of-pending.new.state
    c.read_parts-rest.result.now
    c.kept_of-pending.result.items
keeps c = let k = c.kept_of-pending.ensures in
    record {
      rest_kept = k.kept;
      fault = k.fault;
      progress = k.progress;
      ending = k.ending;
      same = k.same;
      was = k.was;
      wanted = k.wanted;
    }

-- The bytes that are read are those left over, and the piece.
bytes_are : (c : After-kept_of-pending) → c.deref-2.result.now
    ≡ c.self.inside.pending.items ++ c.args.piece.now
bytes_are c =
    c.deref-2.ensures.value ∙ c.in-Ok.ensures
    ∙ ap (λ (xs : List ℕ). xs ++ c.args.piece.now) c.deref.ensures.value

clean : (c : After-kept_of-pending) → c.self.inside.state.fault ≡ None
clean c = ap (λ (r : Reading). r.fault) c.self.view_is ∙ c.requires.clean

-- What the piece gives.
gives : (c : After-kept_of-pending) → GivesOf c.args.self.now c.args.piece.now
    c.kept_of-pending.new.state
    c.kept_of-pending.result.items c.args.into.now.items c.read_parts-rest.new.into.items
gives c =
    let s = c.self.inside.state in
    let old = c.self.inside.pending.items in
    let piece = c.args.piece.now in
    let mid = c.read_parts-rest.new.state in
    let now = c.kept_of-pending.new.state in
    let rest = c.read_parts-rest.result.now in
    let kept = c.kept_of-pending.result.items in
    let before = c.args.into.now.items in
    let after = c.read_parts-rest.new.into.items in
    let e = c.read_parts-rest.ensures in
    let gave : GaveOf s (old ++ piece) mid rest before after =
    subst (λ (bytes : List ℕ). GaveOf s bytes mid rest before after) (bytes_are c)
    (record { read = e.read; fault = e.fault; no_memory = e.no_memory }) in
    subst (λ (r : Reading). GivesOf r piece now kept before after) c.self.view_is
    (piece_gives s old piece mid now rest kept before after (keeps c)
    (clean c) c.self.invariant.2 c.self.invariant.1 gave)

pub invariant_of-self : goal.invariant_of-self
invariant_of-self c =
    let w = (goal.at.invariant_of-self c).After-kept_of-pending in
    let s = c.self.inside.state in
    let old = c.self.inside.pending.items in
    let piece = c.args.piece.now in
    let mid = c.read_parts-rest.new.state in
    let now = c.kept_of-pending.new.state in
    let rest = c.read_parts-rest.result.now in
    let kept = c.kept_of-pending.result.items in
    let same : place_reached s.progress + length old ≡ taken c.args.self.now = ap taken c.self.view_is in
    let low : place_reached s.progress + length old + length piece ≤ longest_trace = omega
    (arith, c.requires.low) in
    let size : length c.deref-2.result.now ≡ length old + length piece = ap length (bytes_are w)
    ∙ length-append old piece in (
      kept_sound mid now rest kept (keeps w) c.read_parts-rest.ensures.sound,
      kept_low mid now rest kept (keeps w) (omega (arith, c.read_parts-rest.ensures.place)),
      kept_waits mid now rest kept (keeps w) c.read_parts-rest.ensures.waits,
    )

pub returns-clause-read : goal.returns-clause-read
returns-clause-read c = (gives (goal.at.returns-clause-read c).After-kept_of-pending).read

pub returns-clause-no_memory : goal.returns-clause-no_memory
returns-clause-no_memory c = (gives (goal.at.returns-clause-no_memory
    c).After-kept_of-pending).no_memory

pub returns-in-Err-clause-head : goal.returns-in-Err-clause-head
returns-in-Err-clause-head c = as_before _ _ _ (ap (λ (r : Reading). r.progress) c.stop.ensures)

pub returns-clause-head : goal.returns-clause-head
returns-clause-head c =
    let w = (goal.at.returns-clause-head c).After-kept_of-pending in
    let s = c.self.inside.state in
    let bytes = c.self.inside.pending.items ++ c.args.piece.now in
    let mid = reading_with c.read_parts-rest.new.state [] in
    let now = reading_with c.kept_of-pending.new.state c.kept_of-pending.result.items in
    let read : KeepsHead (reading_with s []) bytes mid =
    subst (λ (xs : List ℕ). KeepsHead (reading_with s []) xs mid)
    (bytes_are w) c.read_parts-rest.ensures.head in
    let head : KeepsHead (reading_with s []) bytes now =
    keeps_with _ mid now _ c.kept_of-pending.ensures.progress read in
    subst (λ (r : Reading). KeepsHead r c.args.piece.now now) c.self.view_is
    (head_first s c.self.inside.pending.items c.args.piece.now now
    (clean w) c.self.invariant.2 c.self.invariant.1 head)
