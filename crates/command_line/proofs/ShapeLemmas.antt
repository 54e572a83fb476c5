-- An answer that is there exactly where a test passes.
use Rattle.std.proofs.Common.{◌≡◌, ℕ, Bool, true, false, Option, Some, None, is_some, ap, arith}
use Rattle.std.proofs.Common.{refl, sym, true≢false}
use Rattle.std.proofs.lemmas.Bool.Decides.{nat_tests}
use Rattle.std.specs.Option.{SomeIff}
use Rattle.std.specs.Prelude.{if◌then◌else◌}
use Rattle.base.specs.Lines.{is_layout, is_line_size}

pub there_if : {X : Type 0} (b : Bool) (r : Option X) (x : X) → SomeIff r (b ≡ true) x
    → r ≡ (if b then Some x else None)
there_if true (Some y) x h = ap Some h.1
there_if true None x h = absurd (h refl)
there_if false (Some y) x h = absurd (true≢false (sym h.0))
there_if false None x h = refl

pub is_some_if : {X : Type 0} (b : Bool) (r : Option X) (x : X) → SomeIff r (b ≡ true) x
    → is_some r ≡ b
is_some_if true (Some y) x h = refl
is_some_if true None x h = absurd (h refl)
is_some_if false (Some y) x h = absurd (true≢false (sym h.0))
is_some_if false None x h = refl

-- lines of a size may begin at 0 exactly where lines may have the size
pub layout_from_zero : (n : ℕ) → is_layout n 0 ≡ is_line_size n
layout_from_zero n = grind (arith, nat_tests)
