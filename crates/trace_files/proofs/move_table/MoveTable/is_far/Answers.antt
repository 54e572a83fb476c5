use Rattle.std.proofs.Common.{◌≡◌, ◌≢◌, ◌∙◌, ℕ, List, ap, arith, false, not, subst, sym}
use Rattle.std.specs.Prelude.{nat_eq}
use Rattle.std.proofs.lemmas.Bool.Decides.{nat_tests}
use Rattle.std.specs.List.{list_all}
use Rattle.trace_files.specs.declared.move_row.Move.{Move}
use Rattle.trace_files.specs.Moves.{moved_addr}
use Rattle.trace_files.specs.NearMoves.{comes_from_near, is_far}
use Rattle.trace_files.specs.Rows.{AreKept, turned}
use Rattle.trace_files.proofs.NearRanges.{by_places, never_far}
use Rattle.trace_files.proofs.move_table.MoveTable.is_far.Goals as goal

pub returns-then-near-ne0 : goal.returns-then-near-ne0
returns-then-near-ne0 c =
    let table = c.args.self.now in
    let places = c.self.inside.places.items in
    let near = c.args.near in
    let addr = c.args.addr in
    let kept : AreKept table places =
    subst (λ (l : List Move). AreKept l places) c.self.view_is c.self.invariant in
    let some : near ≢ 0 = grind (arith, nat_tests, c.if-near-ne0.true) in
    c.some_come_from_far.ensures
    ∙ ap (λ (x : ℕ). not (list_all (λ m. comes_from_near near x addr (turned m))
    c.deref.result.now)) c.moved_address.ensures
    ∙ ap (λ (l : List Move). not (list_all (λ m. comes_from_near near (moved_addr table addr) addr
    (turned m)) l)) c.deref.ensures.value
    ∙ sym (by_places table places kept near addr some)

pub returns-else-near-ne0 : goal.returns-else-near-ne0
returns-else-near-ne0 c =
    let none : c.args.near ≡ 0 = grind (arith, nat_tests, c.if-near-ne0.false) in
    let off : not (nat_eq c.args.near 0) ≡ false = grind (arith, nat_tests, none) in
    off
    ∙ sym (ap (λ (k : ℕ). is_far k c.args.self.now c.args.addr) none
    ∙ never_far c.args.self.now c.args.addr)
