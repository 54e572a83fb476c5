-- The symbol and the block are noted, one after the other.
use Rattle.std.proofs.Common.{◌∙◌, ℕ, ap, Bool, ◌||◌, ◌&&◌, Option}
use Rattle.std.specs.Option.{option_or}
use Rattle.std.specs.Prelude.{is_some, option_and_then}
use Rattle.placement.specs.Laws.Passing.{seeks-next}
use Rattle.placement.specs.Sought.{block_made_at}
use Rattle.placement.specs.declared.extent.Extent.{Extent}
use Rattle.placement.proofs.finder.Finder.note_item.Goals as goal

pub returns : goal.returns
returns c =
    let was = c.args.self.now in
    let mid = c.note_symbol.new.self in
    let made : Option ℕ → Option Extent = option_and_then (λ a. block_made_at a c.args.item.now) in
    seeks-next was c.note_block.new.self c.args.item.now (record {
      name = c.note_block.ensures.name ∙ c.note_symbol.ensures.name;
      at = c.note_block.ensures.at ∙ c.note_symbol.ensures.at;
      symbol = c.note_block.ensures.symbol ∙ c.note_symbol.ensures.symbol;
      block = c.note_block.ensures.block
          ∙ ap (λ (b : Option Extent). option_or b (made mid.at)) c.note_symbol.ensures.block
          ∙ ap (λ (a : Option ℕ). option_or was.block (made a)) c.note_symbol.ensures.at;
      several = c.note_block.ensures.several
          ∙ ap (λ (s : Bool). s || (is_some mid.block && is_some (made mid.at)))
          c.note_symbol.ensures.several
          ∙ ap (λ (b : Option Extent). was.several || (is_some b && is_some (made mid.at)))
          c.note_symbol.ensures.block
          ∙ ap (λ (a : Option ℕ). was.several || (is_some was.block && is_some (made a)))
          c.note_symbol.ensures.at;
    })
