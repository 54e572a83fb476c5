use Rattle.std.proofs.Common.{◌≡◌, ◌+◌, ◌*◌, ◌/◌, ◌%◌, ◌<◌, ◌≤◌, inl, inr, length, arith, sym, ◌∙◌}
use Rattle.std.proofs.Common.{ap, subst}
use Rattle.std.proofs.lemmas.Bool.{cases_lt}
use Rattle.detector.specs.Entries.{entry_at}
use Rattle.detector.specs.Laws.Entries.{entry_at-entries_of, unwritten}
use Rattle.detector.specs.PagedEntries.{paged_entries, paged_entry}
use Rattle.detector.specs.Pages.{NoneWritten, directory_entry}
use Rattle.detector.proofs.PageLaws.{found_in, searched, items_at-past}
use Rattle.detector.proofs.paged_index.PagedIndexLineIndex.next_from.Goals as goal

pub returns-then-line-le-LAST_LINE-clause-written :
    goal.returns-then-line-le-LAST_LINE-clause-written
returns-then-line-le-LAST_LINE-clause-written c =
    let within : c.loop-number.number < length c.args.self.now.directories.items = omega arith in
    let is : entry_at (paged_entries c.args.self.now)
    (c.loop-number.number * 262144 + c.in-Some.found) ≡ directory_entry
    c.index.result.now.items c.in-Some.found =
    entry_at-entries_of (paged_entry c.args.self.now)
    (c.loop-number.number * 262144 + c.in-Some.found) c.if-line-le-LAST_LINE.true
    ∙ found_in c.args.self.now c.loop-number.number c.in-Some.found c.index.result.now within
    c.index.ensures c.in-Some.ensures.in_range in
    subst (λ e. 0 < e.writes) (sym is) c.in-Some.ensures.written

pub returns-then-line-le-LAST_LINE-clause-least : goal.returns-then-line-le-LAST_LINE-clause-least
returns-then-line-le-LAST_LINE-clause-least c = λ q above below.
    let within : c.loop-number.number < length c.args.self.now.directories.items = omega arith in
    unwritten (paged_entry c.args.self.now) q (λ _.
    searched c.args.self.now c.loop-number.number c.loop-number.place c.args.line c.in-Some.found
    c.index.result.now within c.index.ensures
    (omega (arith, c.in-Some.ensures.in_range)) c.loop-number.invariant.unwritten
    c.in-Some.ensures.least q above below)

pub returns-else-line-le-LAST_LINE-clause-none : goal.returns-else-line-le-LAST_LINE-clause-none
returns-else-line-le-LAST_LINE-clause-none c = λ q above.
    let within : c.loop-number.number < length c.args.self.now.directories.items = omega arith in
    unwritten (paged_entry c.args.self.now) q (λ small.
    searched c.args.self.now c.loop-number.number c.loop-number.place c.args.line c.in-Some.found
    c.index.result.now within c.index.ensures
    (omega (arith, c.in-Some.ensures.in_range)) c.loop-number.invariant.unwritten
    c.in-Some.ensures.least q above (omega arith))

pub loop-number-preserved : goal.loop-number-preserved
loop-number-preserved c =
    let within : c.loop-number.number < length c.args.self.now.directories.items = omega arith in
    let before : NoneWritten (paged_entry c.args.self.now) c.args.line
    (c.loop-number.number * 262144 + 262144) =
    searched c.args.self.now c.loop-number.number c.loop-number.place c.args.line 262144
    c.index.result.now within c.index.ensures
    (omega arith) c.loop-number.invariant.unwritten c.in_default.ensures in
    record {
      within = omega arith;
      at_or_above = omega arith;
      unwritten =
          λ q above below. before q above (omega arith);
    }

pub returns-clause-none : goal.returns-clause-none
returns-clause-none c = λ q above.
    unwritten (paged_entry c.args.self.now) q (λ small.
    elim (cases_lt q (c.loop-number.number * 262144 + c.loop-number.place)) as (λ _.
    (paged_entry c.args.self.now q).writes ≡ 0) [
      | inl l ↦ c.loop-number.invariant.unwritten q above l
      | inr l ↦
          let past : length c.args.self.now.directories.items ≤ q / 262144 = omega arith in
          ap (λ pages. (directory_entry pages (q % 262144)).writes)
          (items_at-past c.args.self.now.directories.items (q / 262144) past)
    ])
