-- How high a balanced tree of so many blocks is.
use Rattle.std.proofs.Common.{◌≡◌, ℕ, ◌+◌, ◌/◌, ◌^◌, ◌<◌, ◌≤◌, List, [], ◌∷◌, ◌++◌, length, max, arith}
use Rattle.std.proofs.Common.{length-append, Option, Some, None, ◌⊎◌, inl, inr}
use Rattle.std.specs.Prelude.{Box}
use Rattle.std.proofs.lemmas.Bool.{cases_lt}
use Rattle.std.specs.declared.alloc.Global.{Global}
use Rattle.std.proofs.Math.Pow.{pow_mono}
use Rattle.std.proofs.lemmas.Grind.{pow_more}
use Rattle.guest.specs.declared.block_tree.LiveBlock.{LiveBlock}
use Rattle.guest.specs.declared.block_tree.Node.{Node}
use Rattle.guest.specs.LiveBlocks.{AreBehind, DoFit, DoRise}
use Rattle.guest.specs.TreeBlocks.{AreBalanced, Differ, seen_below}

-- a node is low above two sides that are low, where the lower one is at most a level below the other
raised : (low high : ℕ) → low ≤ high → high ≤ low + 1
    → 2 ^ ((high + 1) / 2) ≤ 2 ^ (low / 2) + 2 ^ (high / 2)
raised low high under within =
    let most : 2 ^ ((high + 1) / 2) ≤ 2 ^ (low / 2 + 1) = pow_mono (omega (arith, within)) in
    let more : 2 ^ (low / 2) ≤ 2 ^ (high / 2) = pow_mono (omega (arith, under)) in
    omega (arith, most, more, pow_more 2 (low / 2))

pub low_above : (hl hr l r : ℕ) → 2 ^ (hl / 2) ≤ l + 1 → 2 ^ (hr / 2) ≤ r + 1 → Differ 1 hl hr
    → 2 ^ ((max hl hr + 1) / 2) ≤ l + (r + 1) + 1
low_above hl hr l r a b level =
    by_cases (cases_lt hl hr)
  where
    by_cases : (hl < hr) ⊎ (hr ≤ hl) → 2 ^ ((max hl hr + 1) / 2) ≤ l + (r + 1) + 1
    by_cases (inl less) =
        let is : max hl hr ≡ hr = omega (arith, less) in
        rw is (omega (arith, a, b, raised hl hr (omega (arith, less)) (omega (arith, level))))
    by_cases (inr more) =
        let is : max hl hr ≡ hl = omega (arith, more) in
        rw is (omega (arith, a, b, raised hr hl more (omega (arith, level))))

pub node_low : (hl hr h : ℕ) (l : List LiveBlock) (b : LiveBlock) (r : List LiveBlock)
    → h ≡ max hl hr → 2 ^ (hl / 2) ≤ length l + 1 → 2 ^ (hr / 2) ≤ length r + 1 → Differ 1 hl hr
    → 2 ^ ((h + 1) / 2) ≤ length (l ++ b ∷ r) + 1
node_low hl hr h l b r is low_left low_right level =
    rw is (omega (
      arith,
      low_above hl hr (length l) (length r) low_left low_right level,
      length-append l (b ∷ r),
    ))

-- blocks that rise behind an address are fewer than the addresses behind it
fewer : (at : ℕ) (bs : List LiveBlock) → at < 2 ^ 32 → AreBehind at bs → DoRise bs → DoFit bs
    → length bs + at < 2 ^ 32
fewer at [] h behind rise fit = omega (arith, h)
fewer at (b ∷ bs) h behind rise fit =
    omega (arith, behind.0, fewer b.addr bs (omega (arith, fit.0)) rise.0 rise.1 fit.1)

pub few : (bs : List LiveBlock) → DoRise bs → DoFit bs → length bs ≤ 2 ^ 32
few [] rise fit = omega arith
few (b ∷ bs) rise fit =
    omega (arith, fewer b.addr bs (omega (arith, fit.0)) rise.0 rise.1 fit.1)

-- a tree that is so low can grow by a level
pub low_enough : (h n : ℕ) → 2 ^ (h / 2) ≤ n + 1 → n ≤ 2 ^ 32 → h < 255
low_enough h n low small = by_cases (cases_lt h 255)
  where
    by_cases : (h < 255) ⊎ (255 ≤ h) → h < 255
    by_cases (inl less) = less
    by_cases (inr more) =
        let high : 2 ^ 33 ≤ 2 ^ (h / 2) =
        pow_mono {i = 33} {j = h / 2} (omega (arith, more)) in
        absurd (omega (arith, high, low, small))

pub top_low : (t : Option (Box Node Global)) → AreBalanced t → 2 ^ ((seen_below t).1 / 2) ≤ length (seen_below t).0 + 1
top_low None balanced = omega arith
top_low (Some n) balanced = balanced.low
