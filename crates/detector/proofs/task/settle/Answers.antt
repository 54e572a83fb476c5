use Rattle.std.proofs.Common.{◌-◌, refl, ◌∙◌}
use Rattle.detector.specs.Entries.{entry_at}
use Rattle.sharing_rules.specs.Opened.{even_lower}
use Rattle.detector.specs.Index.{names_in}
use Rattle.detector.proofs.SettleLaws.{settle-names, counted-names, settled-written, still-written}
use Rattle.detector.proofs.task.settle.Goals as goal

pub name-requires-clause-written : goal.name-requires-clause-written
name-requires-clause-written g c =
    settled-written (entry_at (g.I.LineIndex.entries c.args.index.now))
    (entry_at (g.I.LineIndex.entries c.count.new.index)) c.args.line
    c.args.line c.args.own c.in-Ok.ensures.each (λ p e other. absurd (other refl))

pub name-requires-2-clause-written : goal.name-requires-2-clause-written
name-requires-2-clause-written g c = λ p e.
    let f = entry_at (g.I.LineIndex.entries c.args.index.now) in
    let h = entry_at (g.I.LineIndex.entries c.count.new.index) in
    still-written h (entry_at (g.I.LineIndex.entries c.name.new.index)) c.saturating_sub.result
    (c.args.line - 1)
    (c.name.ensures.writes c.saturating_sub.result) c.saturating_sub.ensures
    (settled-written f h c.args.line (c.args.line - 1) c.args.opened.below c.in-Ok.ensures.each
    (λ i at other. c.requires.below i at) p e)

pub name-requires-3-clause-written : goal.name-requires-3-clause-written
name-requires-3-clause-written g c = λ p e.
    let f = entry_at (g.I.LineIndex.entries c.args.index.now) in
    let h = entry_at (g.I.LineIndex.entries c.count.new.index) in
    still-written h (entry_at (g.I.LineIndex.entries c.name-2.new.index)) c.args.line c.args.line
    (c.name-2.ensures.writes c.args.line ∙ c.name.ensures.writes c.args.line) refl
    (settled-written f h c.args.line c.args.line c.args.opened.here c.in-Ok.ensures.each
    (λ i at other. absurd (other refl)) p e)

pub name-requires-4-clause-written : goal.name-requires-4-clause-written
name-requires-4-clause-written g c = λ p e.
    let f = entry_at (g.I.LineIndex.entries c.args.index.now) in
    let h = entry_at (g.I.LineIndex.entries c.count.new.index) in
    still-written h (entry_at (g.I.LineIndex.entries c.name-3.new.index)) c.lower_of.result
    (even_lower c.args.line)
    (c.name-3.ensures.writes c.lower_of.result ∙ c.name-2.ensures.writes c.lower_of.result
    ∙ c.name.ensures.writes c.lower_of.result)
    c.lower_of.ensures
    (settled-written f h c.args.line (even_lower c.args.line) c.args.opened.doubled
    c.in-Ok.ensures.each c.requires.doubled p e)

pub returns-clause-names : goal.returns-clause-names
returns-clause-names g c =
    let f = entry_at (g.I.LineIndex.entries c.args.index.now) in
    let h = entry_at (g.I.LineIndex.entries c.count.new.index) in
    settle-names (names_in f) (names_in h) (names_in
    (entry_at (g.I.LineIndex.entries c.name.new.index)))
    (names_in (entry_at (g.I.LineIndex.entries c.name-2.new.index)))
    (names_in (entry_at (g.I.LineIndex.entries c.name-3.new.index)))
    (names_in (entry_at (g.I.LineIndex.entries c.name-4.new.index)))
    c.args.line c.saturating_sub.result c.lower_of.result c.args.own c.args.opened
    (counted-names f h c.args.line c.in-Ok.ensures.each)
    c.name.ensures.names c.name-2.ensures.names c.saturating_sub.ensures c.name-3.ensures.names
    c.name-4.ensures.names c.lower_of.ensures
