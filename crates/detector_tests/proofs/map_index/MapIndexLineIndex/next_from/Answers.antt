use Rattle.std.proofs.Common.{◌≡◌, ◌<◌, arith, sym, ◌∙◌, ap, subst, unwrap_or}
use Rattle.detector.specs.Entries.{blank_entry, entry_at}
use Rattle.detector.specs.Laws.Entries.{entry_at-entries_of, unwritten}
use Rattle.detector_tests.specs.MapEntries.{map_entries, map_entry}
use Rattle.detector_tests.proofs.map_index.MapIndexLineIndex.next_from.Goals as goal

pub returns-then-entry-gt0-clause-written : goal.returns-then-entry-gt0-clause-written
returns-then-entry-gt0-clause-written c =
    let is : entry_at (map_entries c.args.self.now) c.in-Some.number ≡ c.in-Some.entry =
    entry_at-entries_of (map_entry c.args.self.now) c.in-Some.number c.in-Some.ensures.in_range
    ∙ ap (λ o. unwrap_or o blank_entry) c.in-Some.ensures.has in
    subst (λ e. 0 < e.writes) (sym is) c.if-entry-gt0.true

pub returns-then-entry-gt0-clause-least : goal.returns-then-entry-gt0-clause-least
returns-then-entry-gt0-clause-least c = λ q above below.
    unwritten (map_entry c.args.self.now) q (λ _. grind
    (arith, c.loop-from.invariant.unwritten q, c.in-Some.ensures.least q))

pub returns-in-None-clause-none : goal.returns-in-None-clause-none
returns-in-None-clause-none c = λ q above.
    unwritten (map_entry c.args.self.now) q (λ small. grind
    (arith, c.loop-from.invariant.unwritten q, c.in-None.ensures.none q))

pub returns-clause-none : goal.returns-clause-none
returns-clause-none c = λ q above.
    unwritten (map_entry c.args.self.now) q (λ small. c.loop-from.invariant.unwritten q above
    (omega arith))
