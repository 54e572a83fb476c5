-- The lines of what was found near a range by its numbers.
use Rattle.std.proofs.Common.{◌≡◌, ℕ, ◌+◌, ◌<◌, true, ◌&&◌, List, [], ◌++◌, get_or, length, take}
use Rattle.std.proofs.Common.{map, filter, Option, None, Some, refl, ap, ◌∙◌, pos, ℤ, negsuc, ◌+ℤ◌}
use Rattle.std.proofs.Common.{arith}
use Rattle.std.specs.Prelude.{filter_map, flat_map, int_lt, max, min, option_to_list, slice_get}
use Rattle.std.specs.List.{cons_option}
use Rattle.std.proofs.lemmas.Bool.{and_parts, lt-ltb, ltb-true}
use Rattle.std.proofs.lemmas.Grind.{flat_map-append}
use Rattle.std.proofs.lemmas.Int.{ints}
use Rattle.std.proofs.lemmas.List.{get_or_default}
use Rattle.std.proofs.lemmas.List.Elements.{filter-append, filter_map-append}
use Rattle.base.specs.TextLines.{line_text, text_of}
use Rattle.base.specs.declared.layout.Range.{Range}
use Rattle.objects.specs.AddressTrees.{meets}
use Rattle.objects.specs.Laws.Found.{filter_within}
use Rattle.objects.specs.Symbols.{Symbol, is_same_kind}
use Rattle.objects.specs.declared.block.Block.{Block}
use Rattle.objects.specs.declared.symbol.SymbolKind.TheVariants.{Object}
use Rattle.report.specs.Lines.{block_lines, standing_lines, symbol_line, symbol_lines}
use Rattle.report.specs.Standing.{block_stands, symbol_stands}
use Rattle.report.proofs.TextLaws.{text_more}

listed : {X : Type 0} (o : Option X) → option_to_list o ≡ cons_option o []
listed None = refl
listed (Some x) = refl

-- of a text that takes the elements of some numbers one after another: one number more
pub text_found : {X : Type 0} (h : List X → List ℕ)
    → ((xs ys : List X) → h (xs ++ ys) ≡ h xs ++ h ys)
    → (xs : List X) (ns : List ℕ) (i d : ℕ) (o : Option X) (whole before after : List ℕ)
    → i < length ns → o ≡ slice_get xs (get_or ns i d)
    → before ≡ whole ++ h (filter_map (slice_get xs) (take i ns))
    → after ≡ before ++ h (option_to_list o)
    → after ≡ whole ++ h (filter_map (slice_get xs) (take (i + 1) ns))
text_found h joins xs ns i d o whole before after within is known pushed =
    text_more (λ ms. h (filter_map (slice_get xs) ms))
    (λ ks ls. ap h (filter_map-append (slice_get xs) ks ls)
    ∙ joins (filter_map (slice_get xs) ks) (filter_map (slice_get xs) ls))
    ns i (get_or ns i d) whole before after within (get_or_default ns i d (get_or ns i d) within)
    known (pushed ∙ ap (λ p. before ++ h p) (listed o ∙ ap (λ q. cons_option q []) is))

-- lines of the blocks that stand on a range
pub standing-joins : (symbols : List Symbol) (r : Range) (start end : ℕ) (xs ys : List Block)
    → text_of (standing_lines symbols r start end (xs ++ ys))
    ≡ text_of (standing_lines symbols r start end xs)
    ++ text_of (standing_lines symbols r start end ys)
standing-joins symbols r start end xs ys =
    let p = block_stands r start end in
    ap (λ zs. text_of (flat_map (block_lines symbols) zs)) (filter-append p xs ys)
    ∙ ap text_of (flat_map-append (block_lines symbols) (filter p xs) (filter p ys))
    ∙ flat_map-append line_text (flat_map (block_lines symbols) (filter p xs))
    (flat_map (block_lines symbols) (filter p ys))

inside : (n size : ℕ) → 0 < size → int_lt (pos n) (pos n +ℤ pos size) ≡ true
inside n size some = grind (arith, ints)

lower : (n m : ℕ) → n < m → int_lt (pos n) (pos m) ≡ true
lower n m less = grind (arith, ints)

-- a range that isn't empty begins below its end
below_end : (base : ℤ) (size to : ℕ)
    → ((a : ℕ) → int_lt (pos a) (base +ℤ pos size) ≡ true → a < to) → 0 < size
    → int_lt base (pos to) ≡ true
below_end (negsuc n) size to ends some = grind (arith, ints)
below_end (pos n) size to ends some = lower n to (ends n (inside n size some))

module _ (r : Range) (from to : ℕ)
    (begins : (a : ℕ) → 0 < a → int_lt r.base (pos a) ≡ true → from < a)
    (ends : (a : ℕ) → int_lt (pos a) (r.base +ℤ pos r.size) ≡ true → a < to) where
  -- where some address of the range is below an end, the range isn't empty
  begins_before : (addr : ℕ) → 0 < r.size → addr < to → from < to
  begins_before addr some after =
      begins to (omega (arith, after)) (below_end r.base r.size to ends some)

  -- what stands on a range meets its addresses
  stands_meets : (addr size : ℕ) → symbol_stands r addr size ≡ true
      → meets from to addr size ≡ true
  stands_meets addr size h =
      let one = and_parts _ _ h in
      let two = and_parts _ _ one.1 in
      let three = and_parts _ _ two.1 in
      let some : 0 < size = ltb-true 0 size one.0 in
      let before : from < addr + size = begins (addr + size) (omega (arith, some)) three.1 in
      let after : addr < to = ends addr three.0 in
      let room : from < to = begins_before addr (ltb-true 0 r.size two.0) after in
      lt-ltb (max from addr) (min to (addr + size)) (omega (arith, some, before, after, room))

  pub near_symbols : (symbols : List Symbol)
      → symbol_lines r (filter (λ s. meets from to s.addr s.size) symbols)
      ≡ symbol_lines r symbols
  near_symbols symbols =
      ap (map symbol_line)
      (filter_within (λ s. is_same_kind s.kind Object && symbol_stands r s.addr s.size)
      (λ s. meets from to s.addr s.size)
      (λ s h. stands_meets s.addr s.size (and_parts _ _ h).1) symbols)

  pub near_blocks : (symbols : List Symbol) (start end : ℕ) (blocks : List Block)
      → standing_lines symbols r start end (filter (λ b. meets from to b.addr b.size) blocks)
      ≡ standing_lines symbols r start end blocks
  near_blocks symbols start end blocks =
      ap (flat_map (block_lines symbols))
      (filter_within (block_stands r start end) (λ b. meets from to b.addr b.size)
      (λ b h. stands_meets b.addr b.size (and_parts _ _ h).0) blocks)
