-- What is known of the two sides of a node, where old is the list of all blocks.
use Rattle.std.proofs.Common.{◌≡◌, ℕ, ◌+◌, ◌^◌, ◌<◌, ◌≤◌, List, ◌∷◌, ◌++◌, length, max, Option, None, Some}
use Rattle.std.proofs.Common.{refl, ap, ◌∙◌, arith, length-append}
use Rattle.std.specs.Option.{option_or}
use Rattle.std.proofs.lemmas.Bool.{eq-eqb, ne_eqb}
use Rattle.guest.specs.declared.block_tree.LiveBlock.{LiveBlock}
use Rattle.guest.specs.LiveBlocks.{most_free, spanned, DoRise, DoFit, block_at}
use Rattle.guest.specs.LiveBlocks.{first_place, filled, grown, without}
use Rattle.guest.proofs.BlockLaws.{block_at_append, filled_left, filled_right, fit_parts, grown_right}
use Rattle.guest.proofs.BlockLaws.{none_left, none_right, place_left, place_right}
use Rattle.guest.proofs.MostFree.{most_free_append}
use Rattle.guest.proofs.BlockLaws.{rise_parts, spanned_append, without_here, without_left, without_right}

module _ (l : List LiveBlock) (b : LiveBlock) (r old : List LiveBlock) (is : l ++ b ∷ r ≡ old) where
  pub left_shorter : length l < length old
  left_shorter = rw (← is) (omega (arith, length-append l (b ∷ r)))

  pub right_shorter : length r < length old
  right_shorter = rw (← is) (omega (arith, length-append l (b ∷ r)))

  pub left_fits : DoFit old → DoFit l
  left_fits h = (fit_parts l (b ∷ r) (rw (← is) at h)).0

  pub top_fits : DoFit old → b.addr + b.bytes < 2 ^ 32
  top_fits h = (fit_parts l (b ∷ r) (rw (← is) at h)).1.0

  pub right_fits : DoFit old → DoFit r
  right_fits h = (fit_parts l (b ∷ r) (rw (← is) at h)).1.1

  pub left_rises : DoRise old → DoRise l
  left_rises h = (rise_parts l (b ∷ r) (rw (← is) at h)).0

  pub right_rises : DoRise old → DoRise r
  right_rises h = (rise_parts l (b ∷ r) (rw (← is) at h)).1.1

  pub spanned_parts : spanned old ≡ spanned l + (b.bytes + b.gap + spanned r)
  spanned_parts = rw (← is) (spanned_append l (b ∷ r))

  pub most_parts : most_free old ≡ max (most_free l) (max b.gap (most_free r))
  most_parts = rw (← is) (most_free_append l (b ∷ r))

  pub placed_left : (bytes at gap : ℕ) → bytes ≤ most_free l
      → first_place bytes at gap old ≡ first_place bytes at gap l
  placed_left bytes at gap h = rw (← is) (place_left bytes at gap l (b ∷ r) (omega (arith, h)))

  pub placed_right : (bytes at gap : ℕ) → gap < bytes → most_free l < bytes
      → first_place bytes at gap old ≡ first_place bytes (b.addr + b.bytes) b.gap r
  placed_right bytes at gap g h = rw (← is) (place_right bytes at gap l b r g h)

  pub filled_left_is : (bytes number at gap : ℕ) → bytes ≤ most_free l
      → filled bytes number at gap old
      ≡ ((filled bytes number at gap l).0, (filled bytes number at gap l).1 ++ b ∷ r)
  filled_left_is bytes number at gap h =
      rw (← is) (filled_left bytes number at gap l (b ∷ r) (omega (arith, h)))

  pub filled_right_is : (bytes number at gap : ℕ) → gap < bytes → most_free l < bytes
      → filled bytes number at gap old
      ≡ (
        gap,
        l ++ record b { gap = (filled bytes number (b.addr + b.bytes) b.gap r).0 }
            ∷ (filled bytes number (b.addr + b.bytes) b.gap r).1,
      )
  filled_right_is bytes number at gap g h = rw (← is) (filled_right bytes number at gap l b r g h)

  pub grown_right_is : (bytes gap : ℕ) → grown bytes gap old
      ≡ (gap, l ++ record b { gap = (grown bytes b.gap r).0 } ∷ (grown bytes b.gap r).1)
  grown_right_is bytes gap = rw (← is) (grown_right bytes gap l b r)

  pub without_left_is : (addr gap : ℕ) → DoRise old → addr < b.addr → without addr gap old
      ≡ ((without addr gap l).0, (without addr gap l).1 ++ b ∷ r)
  without_left_is addr gap h less =
      rw (← is) (without_left addr gap l (b ∷ r)
      (rw (ne_eqb b.addr addr (omega (arith, less)))
      (none_right addr l b r (rw (← is) at h) (omega (arith, less)))))

  pub without_right_is : (addr gap : ℕ) → DoRise old → b.addr < addr → without addr gap old
      ≡ (gap, l ++ record b { gap = (without addr b.gap r).0 } ∷ (without addr b.gap r).1)
  without_right_is addr gap h less =
      rw (← is) (without_right addr gap l b r
      (none_left addr l b r (rw (← is) at h) (omega (arith, less))) less)

  pub without_here_is : (addr gap : ℕ) → DoRise old → b.addr ≡ addr → without addr gap old
      ≡ ((grown (b.bytes + b.gap) gap l).0, (grown (b.bytes + b.gap) gap l).1 ++ r)
  without_here_is addr gap h same =
      rw (← is) (without_here addr gap l b r
      (none_left addr l b r (rw (← is) at h) (omega (arith, same))) same)

  pub at_left : (addr : ℕ) → DoRise old → addr < b.addr → block_at addr old ≡ block_at addr l
  at_left addr h less =
      (let none : block_at addr (b ∷ r) ≡ None = rw (ne_eqb b.addr addr (omega (arith, less)))
      (none_right addr l b r (rw (← is) at h) (omega (arith, less))) in
      rw (← is) (block_at_append addr l (b ∷ r) ∙ (ap (option_or (block_at addr l)) none
      ∙ or_none (block_at addr l))))
    where
      or_none : (o : Option LiveBlock) → option_or o None ≡ o
      or_none None = refl
      or_none (Some x) = refl

  pub at_right : (addr : ℕ) → DoRise old → b.addr < addr → block_at addr old ≡ block_at addr r
  at_right addr h less =
      (let none = none_left addr l b r (rw (← is) at h) (omega (arith, less)) in
      rw (← is) (block_at_append addr l (b ∷ r) ∙ rw (none, ne_eqb b.addr addr (omega (arith, less)))
      refl))

  pub at_here : (addr : ℕ) → DoRise old → b.addr ≡ addr → block_at addr old ≡ Some b
  at_here addr h same =
      (let none = none_left addr l b r (rw (← is) at h) (omega (arith, same)) in
      rw (← is) (block_at_append addr l (b ∷ r) ∙ rw (none, eq-eqb b.addr addr same) refl))
