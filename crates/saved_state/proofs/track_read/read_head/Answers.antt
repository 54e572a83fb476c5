use Rattle.std.proofs.Common.{◌≡◌, true, false, sym, ap, ◌∙◌}
use Rattle.std.specs.Prelude.{nat_eq, None, Some, if◌then◌else◌}
use Rattle.std.specs.List.{starts_with}
use Rattle.saved_state.proofs.Spelled.{head_in-then}
use Rattle.saved_state.specs.Parts.{head_meant, header_meant}
use Rattle.saved_state.specs.Spelling.{spell_head}
use Rattle.saved_state.proofs.track_read.read_head.Goals as goal

pub returns-in_default-clause-value : goal.returns-in_default-clause-value
returns-in_default-clause-value c = sym (head_in-then
    (header_meant c.args.header.now) c.args.bytes.now None c.in_default.ensures.value)

pub returns-then-starts_with-clause-value : goal.returns-then-starts_with-clause-value
returns-then-starts_with-clause-value c =
    let x = head_meant c.in-Some.head in
    let begins : starts_with nat_eq c.args.bytes.now (spell_head x) ≡ true = cc in
    sym (head_in-then (header_meant c.args.header.now) c.args.bytes.now
    (Some x) c.in-Some.ensures.value
    ∙ ap (λ b. if b then Some x else None) begins)

pub returns-else-starts_with-clause-value : goal.returns-else-starts_with-clause-value
returns-else-starts_with-clause-value c =
    let x = head_meant c.in-Some.head in
    let begins : starts_with nat_eq c.args.bytes.now (spell_head x) ≡ false = cc in
    sym (head_in-then (header_meant c.args.header.now) c.args.bytes.now
    (Some x) c.in-Some.ensures.value
    ∙ ap (λ b. if b then Some x else None) begins)
