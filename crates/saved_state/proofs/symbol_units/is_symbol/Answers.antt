use Rattle.std.proofs.Common.{◌≡◌, ◌∙◌, ◌&&◌, ap, sym}
use Rattle.std.specs.Prelude.{nat_eq}
use Rattle.std.specs.List.{starts_with}
use Rattle.saved_state.specs.ObjectJudging.{is_good_symbol, symbol_at}
use Rattle.saved_state.specs.ObjectSpelling.{spell_saved_symbol}
use Rattle.saved_state.proofs.SymbolUnits.{front_of, starts_front}
use Rattle.saved_state.proofs.symbol_units.is_symbol.Goals as goal
use Rattle.saved_state.proofs.symbol_units.is_symbol.Goals.{After-is_good}

-- what was judged is what the fields say
judged : (c : After-is_good) → c.is_good.result
    ≡ is_good_symbol c.args.table.now.symbols (symbol_at c.args.bytes.now)
unfolding symbol_at
judged c = c.is_good.ensures ∙ (λ i. is_good_symbol c.args.table.now.symbols (record {
  kind = c.kind_at-kind.ensures i;
  addr = c.u32_at-addr.ensures i;
  size = c.u32_at-size.ensures i;
  name = c.name_at-name.ensures.value i;
}))

pub returns-then-is_good : goal.returns-then-is_good
unfolding symbol_at
returns-then-is_good c =
    let bytes = c.args.bytes.now in
    let good = sym (judged (goal.at.returns-then-is_good c).After-is_good) ∙ c.if-is_good.true in
    c.starts_with.ensures.value ∙ ap (starts_with nat_eq bytes) c.front_bytes.ensures
    ∙ (λ i. starts_with nat_eq bytes (front_of (record {
      kind = c.kind_at-kind.ensures i;
      addr = c.u32_at-addr.ensures i;
      size = c.u32_at-size.ensures i;
      name = c.name_at-name.ensures.value i;
    })))
    ∙ sym (starts_front bytes)
    ∙ (λ i. sym good i && starts_with nat_eq bytes (spell_saved_symbol (symbol_at bytes)))

pub returns-else-is_good : goal.returns-else-is_good
returns-else-is_good c =
    let bytes = c.args.bytes.now in
    let bad = sym (judged (goal.at.returns-else-is_good c).After-is_good) ∙ c.if-is_good.false in
    c.if-is_good.false
    ∙ (λ i. sym bad i && starts_with nat_eq bytes (spell_saved_symbol (symbol_at bytes)))
