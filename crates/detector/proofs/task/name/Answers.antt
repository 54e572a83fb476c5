use Rattle.std.proofs.Common.{◌≡◌, ℕ, Option, None, Some, true, false, refl, ap, sym, ◌∙◌}
use Rattle.std.specs.Prelude.{is_ok, is_some}
use Rattle.detector.specs.Entries.{entry_at}
use Rattle.detector.specs.declared.line_entry.LineEntry.{LineEntry}
use Rattle.detector.specs.Counts.{counts_of}
use Rattle.detector.specs.Tasks.{with_place}
use Rattle.detector.proofs.CountLaws.{counts-same}
use Rattle.detector.proofs.SettleLaws.{placed-names, with_place-writes}
use Rattle.detector.proofs.task.name.Goals as goal

number_of : (o : Option ℕ) → is_some o ≡ true → (p : ℕ) × (o ≡ Some p)
number_of None e = let no : false ≡ true = e in cc
number_of (Some p) e = (p, refl)

pub returns-in-Ok-clause-names : goal.returns-in-Ok-clause-names
returns-in-Ok-clause-names g c =
    let f = entry_at (g.I.LineIndex.entries c.args.index.now) in
    let change = (c.entry.follows.holds c.set_place.new.entry (ap is_ok c.in-Ok.is)).0 in
    placed-names f (entry_at (g.I.LineIndex.entries (c.entry.follows.lender c.set_place.new.entry)))
    c.args.line c.args.kind
    c.args.place c.set_place.new.entry change.each
    (c.set_place.ensures ∙ ap (λ (e : LineEntry). with_place e c.args.kind c.args.place)
    c.in-Ok.ensures.value)

pub returns-in-Ok-clause-counts : goal.returns-in-Ok-clause-counts
returns-in-Ok-clause-counts g c =
    let m = g.I.LineIndex.entries c.args.index.now in
    let change = (c.entry.follows.holds c.set_place.new.entry (ap is_ok c.in-Ok.is)).0 in
    let some = number_of c.args.place (sym c.is_some.ensures ∙ c.if-is_some.true) in
    let same : c.set_place.new.entry.writes ≡ (entry_at m c.args.line).writes =
    ap (λ (e : LineEntry). e.writes) c.set_place.ensures ∙ with_place-writes _ c.args.kind _
    ∙ ap (λ (e : LineEntry). e.writes) c.in-Ok.ensures.value in
    ap counts_of change.whole ∙ counts-same m c.args.line c.set_place.new.entry same
    (c.requires.written some.0 some.1)
