-- What the index counts of each line is what the detector counts.
use Rattle.std.proofs.Common.{◌≡◌, ℕ, ◌<◌, ◌≤◌, ◌^◌, sym, ap, ◌∙◌, subst, arith}
use Rattle.std.specs.Prelude.{IfSome, IfNone}
use Rattle.detector.specs.Counts.{count_at}
use Rattle.detector.specs.Watch.{Watch}
use Rattle.detector.proofs.AddLaws.{none_past}
use Rattle.detector.proofs.CountLaws.{count_at-counts_of, counts-as}
use Rattle.detector.proofs.detector.Detector.next_written.Goals as goal

pub returns-clause-written : goal.returns-clause-written
returns-clause-written g c =
    let is = counts-as (g.I.LineIndex.entries c.self.inside.index) c.args.self.now.writes
    (ap (λ (w : Watch). w.writes) c.self.view_is) in
    subst (λ (count : ℕ → ℕ). IfSome c.next_from.result (λ n. 0 < count n)) is
    c.next_from.ensures.written

pub returns-clause-least : goal.returns-clause-least
returns-clause-least g c =
    let is = counts-as (g.I.LineIndex.entries c.self.inside.index) c.args.self.now.writes
    (ap (λ (w : Watch). w.writes) c.self.view_is) in
    subst (λ (count : ℕ → ℕ). IfSome c.next_from.result
    (λ n. (q : ℕ) → c.args.from ≤ q → q < n → count q ≡ 0)) is
    c.next_from.ensures.least

pub returns-clause-none : goal.returns-clause-none
returns-clause-none g c =
    let is = counts-as (g.I.LineIndex.entries c.self.inside.index) c.args.self.now.writes
    (ap (λ (w : Watch). w.writes) c.self.view_is) in
    subst (λ (count : ℕ → ℕ). IfNone c.next_from.result ((q : ℕ) → c.args.from ≤ q → count q ≡ 0))
    is c.next_from.ensures.none

pub returns-then-from-gt-LAST_LINE-clause-none : goal.returns-then-from-gt-LAST_LINE-clause-none
returns-then-from-gt-LAST_LINE-clause-none g c = λ q late.
    let past : 2 ^ 30 < q = omega arith in
    sym (ap (λ (w : Watch). count_at w.writes q) c.self.view_is)
    ∙ count_at-counts_of (g.I.LineIndex.entries c.self.inside.index) q
    ∙ none_past (g.I.LineIndex.entries c.self.inside.index) q
    (g.met.I.LineIndex.only_entries c.self.inside.index q) past
