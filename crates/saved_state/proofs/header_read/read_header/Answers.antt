use Rattle.std.proofs.Common.{◌≡◌, true, false, sym, ap, ◌∙◌, arith}
use Rattle.std.specs.Prelude.{nat_eq, None, Some, if◌then◌else◌}
use Rattle.std.specs.List.{starts_with}
use Rattle.saved_state.proofs.Spelled.{header_in-short, header_in-then}
use Rattle.saved_state.specs.Parts.{header_meant}
use Rattle.saved_state.specs.Spelling.{spell_header}
use Rattle.saved_state.proofs.header_read.read_header.Goals as goal

pub returns-then-bytes-lt-HEADER_LENGTH-clause-value :
    goal.returns-then-bytes-lt-HEADER_LENGTH-clause-value
returns-then-bytes-lt-HEADER_LENGTH-clause-value c =
    sym (header_in-short c.args.bytes.now (omega arith))

pub returns-in_default-clause-value : goal.returns-in_default-clause-value
returns-in_default-clause-value c = sym (header_in-then c.args.bytes.now None
    c.in_default.ensures.value)

pub returns-then-starts_with-clause-value : goal.returns-then-starts_with-clause-value
returns-then-starts_with-clause-value c =
    let h = header_meant c.in-Some.header in
    let begins : starts_with nat_eq c.args.bytes.now (spell_header h) ≡ true = cc in
    sym (header_in-then c.args.bytes.now (Some h) c.in-Some.ensures.value
    ∙ ap (λ b. if b then Some h else None) begins)

pub returns-else-starts_with-clause-value : goal.returns-else-starts_with-clause-value
returns-else-starts_with-clause-value c =
    let h = header_meant c.in-Some.header in
    let begins : starts_with nat_eq c.args.bytes.now (spell_header h) ≡ false = cc in
    sym (header_in-then c.args.bytes.now (Some h) c.in-Some.ensures.value
    ∙ ap (λ b. if b then Some h else None) begins)
