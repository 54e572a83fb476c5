use Rattle.std.proofs.Common.{◌∙◌, ◌++◌, length, ap, append_assoc, arith}
use Rattle.std.specs.List.{flat_map}
use Rattle.saved_state.specs.ObjectJudging.{objects_judged}
use Rattle.saved_state.specs.ObjectSpelling.{spell_block, spell_counts, spell_objects}
use Rattle.saved_state.specs.ObjectSpelling.{spell_saved_symbol}
use Rattle.saved_state.proofs.ObjectPartLaws.{part_again}
use Rattle.saved_state.proofs.objects_save.save_objects.Goals as goal

spelled : goal.returns-clause-saved
unfolding spell_objects
spelled c =
    let table = c.args.table.now in
    let symbols = flat_map spell_saved_symbol table.symbols in
    let stated = c.pair_bytes.ensures
    ∙ (λ i. spell_counts (c.symbol_count.ensures.value i)
    (length (c.blocks-blocks.ensures.value i))) in
    c.in_ok-put_blocks.ensures
    ∙ (λ i. c.in_ok-put_symbols.ensures i ++ flat_map spell_block (c.blocks-blocks.ensures.value i))
    ∙ (λ i. (c.in_ok-extend_from_slice.ensures.items i ++ symbols)
    ++ flat_map spell_block table.blocks)
    ∙ (λ i. ((c.new-part.ensures.items i ++ stated i) ++ symbols)
    ++ flat_map spell_block table.blocks)
    ∙ append_assoc (spell_counts (length table.symbols) (length table.blocks)) symbols
    (flat_map spell_block table.blocks)

pub returns-clause-saved : goal.returns-clause-saved
returns-clause-saved c = spelled c

pub returns-clause-again : goal.returns-clause-again
returns-clause-again c = λ place position low good.
    ap (objects_judged place position) (spelled c)
    ∙ part_again place position c.args.table.now low (record {
      each = good;
      apart = c.symbol_count.ensures.apart;
      lone = c.blocks-blocks.ensures.lone;
      few_symbols = omega (arith, c.symbol_count.ensures.value, c.symbol_count.type_inv);
      few_blocks = omega (arith, ap length c.blocks-blocks.ensures.value, c.blocks-blocks.type_inv);
    })
