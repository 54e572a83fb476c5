use Rattle.std.proofs.Common.{◌≡◌, ℕ, ◌≤◌, false, IsSome, IfSome, Option, None, Some, slice_get}
use Rattle.std.proofs.Common.{refl, rules, arith, subst}
use Rattle.std.specs.Ordering.{is_gt, nat_cmp}
use Rattle.std.specs.BTreeMap.Range.{IsEntryInRange, IsLeBy}
use Rattle.std.specs.Range.{range_inclusive_end, range_inclusive_start}
use Rattle.std.specs.declared.ops.Bound.TheVariants.{Included}
use Rattle.std.proofs.lemmas.Bool.Decides.{nat_tests}
use Rattle.detector_tests.proofs.map_index.MapIndex.first_from.Goals as goal

absent : {X : Type 0} (o : Option X) → (IsSome o → ⊥) → o ≡ None
absent None h = refl
absent (Some x) h = absurd (h refl)

upward : (a b : ℕ) → is_gt (nat_cmp a b) ≡ false → a ≤ b
upward a b h = grind (arith, nat_tests)

at_most : (a b : ℕ) → a ≤ b → is_gt (nat_cmp a b) ≡ false
at_most a b h = grind (arith, nat_tests)

pub returns-in-Some-clause-least : goal.returns-in-Some-clause-least
returns-in-Some-clause-least c = λ q above below.
    absent _ (λ some.
    let held = c.range.ensures.in_range (search rules) in
    let first = subst
    (λ r. IfSome (slice_get r 0) (IsEntryInRange nat_cmp
    (Included (range_inclusive_start c.new.result))
    (Included (range_inclusive_end c.new.result)) c.args.self.now.lines)) c.in-Some.ensures.steps
    held.1 in
    let small : c.in-Some.number.now ≤ range_inclusive_end c.new.result = upward _ _ first.0.1 in
    let inside : IsLeBy nat_cmp (range_inclusive_start c.new.result) q
    × IsLeBy nat_cmp q (range_inclusive_end c.new.result) = (
      at_most (range_inclusive_start c.new.result) q (omega (arith, c.new.ensures.start)),
      at_most q (range_inclusive_end c.new.result)
          (omega arith),
    ) in
    let least : c.in-Some.number.now ≤ q =
    upward _ _ (subst (λ r. IfSome (slice_get r 0) (λ e. IsLeBy nat_cmp e.0 q))
    c.in-Some.ensures.steps (held.2 q inside some)) in
    absurd (omega arith))
