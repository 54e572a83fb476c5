use Rattle.std.proofs.Common.{◌≡◌, List, ap, subst, sym, true, false, ◌∙◌, ◌++◌, ◌∷◌, []}
use Rattle.std.specs.List.{insert}
use Rattle.trace_files.specs.declared.move_row.Move.{Move}
use Rattle.trace_files.specs.Rows.{AreKept, AreRising, crosses_none, turned}
use Rattle.trace_files.specs.Tables.{is_behind}
use Rattle.trace_files.proofs.TableRows.{kept_on, no_fault, overlaps, rising_table}
use Rattle.trace_files.proofs.move_table.add_row.Goals as goal

pub is_behind-requires : goal.is_behind-requires
is_behind-requires c =
    rw c.deref.ensures.value (rising_table c.args.rows.now.items c.requires.kept.table)

pub returns-in_default-clause-bad : goal.returns-in_default-clause-bad
returns-in_default-clause-bad c =
    let behind : is_behind c.args.rows.now.items c.args.row ≡ true =
    ap (λ (l : List Move). is_behind l c.args.row) (sym c.deref.ensures.value)
    ∙ sym c.is_behind.ensures ∙ c.if-not-is_behind.false in
    let apart : crosses_none c.args.places.now.items (turned c.args.row) ≡ false =
    (λ i. crosses_none (sym c.deref-2.ensures.value i) (sym c.turned-back.ensures i))
    ∙ c.place_for.ensures.none c.in_default.is in
    overlaps c.args.rows.now.items c.args.places.now.items c.args.row c.requires.kept c.args.number
    c.requires.rules behind apart

pub returns-in-Ok-push-clause-good : goal.returns-in-Ok-push-clause-good
returns-in-Ok-push-clause-good c =
    let behind : is_behind c.args.rows.now.items c.args.row ≡ true =
    ap (λ (l : List Move). is_behind l c.args.row) (sym c.deref.ensures.value)
    ∙ sym c.is_behind.ensures ∙ c.if-not-is_behind.false in
    let apart : crosses_none c.args.places.now.items (turned c.args.row) ≡ true =
    (λ i. crosses_none (sym c.deref-2.ensures.value i) (sym c.turned-back.ensures i))
    ∙ c.in-Some.ensures.apart in
    no_fault c.args.rows.now.items c.args.places.now.items c.args.row c.requires.kept c.args.number
    c.requires.rules behind apart

pub returns-in-Ok-push-clause-kept : goal.returns-in-Ok-push-clause-kept
returns-in-Ok-push-clause-kept c =
    let behind : is_behind c.args.rows.now.items c.args.row ≡ true =
    ap (λ (l : List Move). is_behind l c.args.row) (sym c.deref.ensures.value)
    ∙ sym c.is_behind.ensures ∙ c.if-not-is_behind.false in
    let apart : crosses_none c.args.places.now.items (turned c.args.row) ≡ true =
    (λ i. crosses_none (sym c.deref-2.ensures.value i) (sym c.turned-back.ensures i))
    ∙ c.in-Some.ensures.apart in
    let rising : AreRising (insert c.args.places.now.items c.in-Some.place (turned c.args.row)) =
    subst (λ (l : List Move). AreRising (insert l c.in-Some.place (turned c.args.row)))
    c.deref-2.ensures.value
    (subst (λ (m : Move). AreRising (insert c.deref-2.result.now c.in-Some.place m))
    c.turned-back.ensures c.in-Some.ensures.rising) in
    let placed : c.insert.new.self.items
    ≡ insert c.args.places.now.items c.in-Some.place (turned c.args.row) =
    c.in-Ok.ensures.items
    ∙ ap (λ (m : Move). insert c.args.places.now.items c.in-Some.place m) c.turned-back.ensures in
    subst (λ (l : List Move). AreKept l c.insert.new.self.items) (sym c.in-Ok-push.ensures.items)
    (subst (λ (l : List Move). AreKept (c.args.rows.now.items ++ c.args.row ∷ []) l) (sym placed)
    (kept_on c.args.rows.now.items c.args.places.now.items c.args.row c.requires.kept
    c.in-Some.place c.requires.rules behind apart rising))
