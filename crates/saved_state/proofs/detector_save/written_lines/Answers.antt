use Rattle.std.proofs.Common.{ℕ, ◌+◌, ◌≤◌, ◌^◌, List, [], ◌∷◌, ◌++◌, sym, ap, ◌∙◌, subst, arith}
use Rattle.std.proofs.lemmas.List.Elements.{All-push}
use Rattle.saved_state.specs.declared.state_parts.CountedLine.{CountedLine}
use Rattle.saved_state.specs.Counted.{AreCounted, AreInRange, count_below}
use Rattle.saved_state.specs.Laws.Counted.{counted-push, counted-whole, is_line}
use Rattle.detector.specs.Counts.{count_at}
use Rattle.saved_state.proofs.SaveLaws.{saved_lines}
use Rattle.saved_state.proofs.detector_save.written_lines.Goals as goal

pub loop-number-preserved : goal.loop-number-preserved
loop-number-preserved g c =
    let count : ℕ → ℕ = count_at c.args.detector.now.writes in
    let number = c.in-Some.number in
    let lines = c.loop-number.lines.items in
    let pushed : CountedLine = record {
      number = c.in-Some.number;
      writes =
          c.writes_of-writes.result;
    } in
    record {
      counted = subst (λ (xs : List CountedLine). AreCounted (count_below (number + 1) count) xs)
          (sym (c.in_ok-push.ensures.items ∙ ap (λ (l : CountedLine). lines ++ l ∷ [])
          (is_line count pushed c.writes_of-writes.ensures)))
          (counted-push count c.loop-number.from number lines c.in-Some.ensures.at_or_above
          c.in-Some.ensures.written
          c.in-Some.ensures.least c.loop-number.invariant.counted);
      in_range = subst AreInRange (sym c.in_ok-push.ensures.items)
          (All-push (λ (l : CountedLine). l.number ≤ 2 ^ 30) lines pushed
          c.loop-number.invariant.in_range c.in-Some.ensures.in_range);
      from = omega (arith, c.in-Some.ensures.in_range);
    }

pub returns-clause-value : goal.returns-clause-value
returns-clause-value g c =
    saved_lines c.args.detector.now.writes c.loop-number.lines.items
    (counted-whole (count_at c.args.detector.now.writes) c.loop-number.from
    c.loop-number.lines.items c.in_default.ensures.none
    c.loop-number.invariant.counted)
