use Rattle.std.proofs.Common.{◌≡◌, ◌++◌, ◌∷◌, [], true, false, ap, sym, ◌∙◌, append-nil, arith}
use Rattle.std.proofs.lemmas.Bool.Decides.{nat_tests}
use Rattle.std.specs.Prelude.{if◌then◌else◌, nat_le}
use Rattle.saved_state.specs.Parts.{header_meant}
use Rattle.saved_state.specs.Ready.{due_numbers}
use Rattle.saved_state.proofs.AddLaws.{can_add_line, due_line}
use Rattle.saved_state.proofs.resumed_lines.add_line.Goals as goal

pub add_written-requires : goal.add_written-requires
add_written-requires g c =
    can_add_line (header_meant c.args.header.now) c.args.detector.now c.args.line c.requires.ready
    c.requires.good

pub returns-in_ok-push-clause-due : goal.returns-in_ok-push-clause-due
returns-in_ok-push-clause-due g c =
    let h = header_meant c.args.header.now in
    let l = c.args.line in
    let enough : nat_le h.tracking l.writes ≡ true =
    grind (arith, nat_tests, c.if-line-tracking.true, c.tracking.ensures.value) in
    c.in_ok-push.ensures.items ∙ ap (λ ns. ns ++ l.number ∷ []) c.requires.due
    ∙ ap (λ b. due_numbers h c.args.detector.now ++ (if b then l.number ∷ [] else [])) (sym enough)
    ∙ sym (due_line h c.args.detector.now l c.requires.ready c.requires.good)
    ∙ ap (due_numbers h) (sym c.in-Ok.ensures.added)

pub returns-else-line-tracking-clause-due : goal.returns-else-line-tracking-clause-due
returns-else-line-tracking-clause-due g c =
    let h = header_meant c.args.header.now in
    let l = c.args.line in
    let few : nat_le h.tracking l.writes ≡ false =
    grind (arith, nat_tests, c.if-line-tracking.false, c.tracking.ensures.value) in
    c.requires.due ∙ sym (append-nil (due_numbers h c.args.detector.now))
    ∙ ap (λ b. due_numbers h c.args.detector.now ++ (if b then l.number ∷ [] else [])) (sym few)
    ∙ sym (due_line h c.args.detector.now l c.requires.ready c.requires.good)
    ∙ ap (due_numbers h) (sym c.in-Ok.ensures.added)
