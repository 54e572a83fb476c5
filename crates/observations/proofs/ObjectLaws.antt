-- The objects of a list go on to those of a longer one.
use Rattle.std.proofs.Common.{◌≡◌, ℕ, ◌+◌, List, [], ◌∷◌, ◌++◌, length, map, sym, ap, ◌∙◌}
use Rattle.std.proofs.Common.{append_assoc, arith}
use Rattle.std.proofs.lemmas.List.{append-nil, length-append}
use Rattle.std.proofs.lemmas.List.Elements.{filter_map-append}
use Rattle.objects.specs.declared.block.Block.{Block}
use Rattle.objects.specs.Symbols.{symbols_of}
use Rattle.objects.specs.Laws.Symbols.{symbols_of-behind}
use Rattle.trace_format.specs.Rules.{touch_in, touches_in}
use Rattle.trace_format.specs.declared.record.TraceRecord.{TraceRecord}
use Rattle.trace_passes.specs.Laws.Lives.{blocks_behind, blocks_behind-push, ended, position_after}
use Rattle.trace_passes.specs.Lives.{lived, made_by, objects_after, objects_of, symbol_in, symbols_in}
use Rattle.trace_passes.specs.Laws.Noting.{none_left, same_objects}
use Rattle.sharing_rules.specs.Laws.Lists.{by_push}

module _ (bs : List Block) (p : ℕ) (before : List TraceRecord) where
  abbrev there : List Block
  there = blocks_behind bs p before

  abbrev next : ℕ
  next = position_after p before

  abbrev IsOn : List TraceRecord → Type 0
  IsOn items = blocks_behind there next items ≡ blocks_behind bs p (before ++ items)

  one_position : (items : List TraceRecord) → position_after next items
      ≡ position_after p (before ++ items)
  one_position items =
      let all : length (touches_in (before ++ items))
      ≡ length (touches_in before) + length (touches_in items) =
      ap length (filter_map-append touch_in before items)
      ∙ length-append (touches_in before) (touches_in items) in
      omega (arith, all)

  one_more : (items : List TraceRecord) (x : TraceRecord) → IsOn items → IsOn (items ++ x ∷ [])
  one_more items x so_far =
      let q : ℕ = position_after p (before ++ items) in
      blocks_behind-push there next items x
      ∙ ap (λ n. map (ended n x) (blocks_behind there next items) ++ made_by n x [])
      (one_position items)
      ∙ ap (λ all. map (ended q x) all ++ made_by q x []) so_far
      ∙ sym (blocks_behind-push bs p (before ++ items) x)
      ∙ ap (blocks_behind bs p) (append_assoc before items (x ∷ []))

  none : IsOn []
  none =
      append-nil (map (lived next []) there) ∙ none_left next there
      ∙ ap (blocks_behind bs p) (sym (append-nil before))

  pub blocks_on : (items : List TraceRecord)
      → blocks_behind (blocks_behind bs p before) (position_after p before) items
      ≡ blocks_behind bs p (before ++ items)
  blocks_on items = by_push IsOn none one_more items

module _ (before items : List TraceRecord) where
  blocks_of : (objects_after (objects_of before) (length (touches_in before)) items).blocks
      ≡ (objects_of (before ++ items)).blocks
  blocks_of =
      let from_none : length (touches_in before) ≡ position_after 0 before = omega arith in
      ap (λ q. blocks_behind (objects_of before).blocks q items) from_none
      ∙ blocks_on [] 0 before items

  symbols_of_both : (objects_after (objects_of before) (length (touches_in before)) items).symbols
      ≡ (objects_of (before ++ items)).symbols
  symbols_of_both =
      symbols_of-behind (symbols_in before) (symbols_in items)
      ∙ ap symbols_of (sym (filter_map-append symbol_in before items))

  pub objects_on : objects_after (objects_of before) (length (touches_in before)) items
      ≡ objects_of (before ++ items)
  objects_on =
      same_objects (objects_after (objects_of before) (length (touches_in before)) items)
      (objects_of (before ++ items)) symbols_of_both
      blocks_of
