use Rattle.std.proofs.Common.{◌≡◌, List, ap, false, find, not, subst, sym, true, ◌∙◌}
use Rattle.std.specs.Prelude.{is_some}
use Rattle.trace_files.specs.declared.move_row.Move.{Move}
use Rattle.trace_files.specs.Moves.{is_in_range, is_taken}
use Rattle.trace_files.proofs.Lookups.{taken_nowhere, taken_there}
use Rattle.trace_files.proofs.TableRows.{rising_table}
use Rattle.trace_files.proofs.move_table.MoveTable.is_taken.Goals as goal

pub row_at-requires-then-is_some : goal.row_at-requires-then-is_some
row_at-requires-then-is_some c =
    rw c.deref-then-is_some.ensures.value
    (rising_table c.self.inside.rows.items c.self.invariant.table)

pub returns-then-is_some : goal.returns-then-is_some
returns-then-is_some c =
    let rows = c.self.inside.rows.items in
    let places = c.self.inside.places.items in
    let there : is_some (find (is_in_range c.args.addr) places) ≡ true =
    ap (λ (l : List Move). is_some (find (is_in_range c.args.addr) l))
    (sym c.deref.ensures.value) ∙ ap is_some (sym c.row_at.ensures.value)
    ∙ sym c.is_some.ensures ∙ c.if-is_some.true in
    let back : is_some (find (is_in_range c.args.addr) rows) ≡ not c.is_none.result =
    ap (λ (l : List Move). is_some (find (is_in_range c.args.addr) l))
    (sym c.deref-then-is_some.ensures.value) ∙ ap is_some (sym c.row_at-then-is_some.ensures.value)
    ∙ c.is_none.ensures in
    subst (λ (l : List Move). c.is_none.result ≡ is_taken l c.args.addr) c.self.view_is
    (taken_there rows places c.self.invariant c.args.addr c.is_none.result there back)

pub returns-else-is_some : goal.returns-else-is_some
returns-else-is_some c =
    let rows = c.self.inside.rows.items in
    let places = c.self.inside.places.items in
    let there : is_some (find (is_in_range c.args.addr) places) ≡ false =
    ap (λ (l : List Move). is_some (find (is_in_range c.args.addr) l))
    (sym c.deref.ensures.value) ∙ ap is_some (sym c.row_at.ensures.value)
    ∙ sym c.is_some.ensures ∙ c.if-is_some.false in
    c.if-is_some.false
    ∙ subst (λ (l : List Move). false ≡ is_taken l c.args.addr) c.self.view_is
    (taken_nowhere rows places c.self.invariant c.args.addr there)
