-- What the tests of a header's fields say of it.
use Rattle.std.proofs.Common.{◌≡◌, ℕ, ◌≤◌, true, false, eqb-true, ltb, leb, arith}
use Rattle.std.proofs.lemmas.Bool.{and_parts, leb-true}
use Rattle.std.proofs.lemmas.Bool.Decides.{nat_tests}
use Rattle.trace_format.specs.declared.record.Version.{Version}
use Rattle.trace_format.specs.declared.record.Version.TheVariants.{One, Two, Three, Four}
use Rattle.trace_format.specs.Judging.{highest_first, is_near, is_unused}
use Rattle.trace_format.specs.Rules.{HasRegions, last_position}

pub first_low : (v : Version) (first : ℕ) → ltb (highest_first v) first ≡ false
    → first ≤ last_position
first_low One first low = grind (arith, nat_tests)
first_low Two first low = grind (arith, nat_tests)
first_low Three first low = grind (arith, nat_tests)
first_low Four first low = grind (arith, nat_tests)

pub regions_found : (v : Version) (first harts near : ℕ) → ltb (highest_first v) first ≡ false
    → is_unused v near ≡ true → is_near v near ≡ true
    → HasRegions v (record { first = first; harts = harts; near = near })
regions_found One first harts near low unused sized = eqb-true near 0 unused
regions_found Two first harts near low unused sized = eqb-true near 0 unused
regions_found Three first harts near low unused sized = eqb-true near 0 unused
regions_found Four first harts near low unused sized =
    let range = and_parts (leb 6 near) (leb near 16) sized in (
      grind (arith, nat_tests),
      (leb-true 6 near range.0, leb-true near 16 range.1),
    )
