-- What the trait says of a lent entry: it is the line's own, and the other lines keep theirs.
use Rattle.std.proofs.Common.{ℕ, eqb, refl, ap, ◌∙◌}
use Rattle.std.proofs.lemmas.Bool.{eq-eqb, eqb-true, false_from_ne_true}
use Rattle.std.specs.Prelude.{if◌then◌else◌, is_ok}
use Rattle.detector.specs.Entries.{entry_at}
use Rattle.detector.specs.declared.line_entry.LineEntry.{LineEntry}
use Rattle.detector_tests.proofs.indexes.set_writes.Goals as goal

-- an entry that counts as many writes
abbrev counting : LineEntry → ℕ → LineEntry
counting e n = record { writes = n; track = e.track; shifted = e.shifted; doubled = e.doubled }

pub returns-in-Ok-clause-set : goal.returns-in-Ok-clause-set
returns-in-Ok-clause-set g c =
    let e : LineEntry = counting c.in-Ok.entry.now c.args.writes in
    let old = entry_at (g.I.LineIndex.entries c.args.index.now) c.args.line in
    ap (λ (x : LineEntry). x.writes) ((c.entry.follows.holds e (ap is_ok c.in-Ok.is)).0.each
    c.args.line)
    ∙ ap (λ b. (if b then e else old).writes) (eq-eqb c.args.line c.args.line refl)

pub returns-in-Ok-clause-others : goal.returns-in-Ok-clause-others
returns-in-Ok-clause-others g c = λ q other.
    let e : LineEntry = counting c.in-Ok.entry.now c.args.writes in
    let old = entry_at (g.I.LineIndex.entries c.args.index.now) q in
    (c.entry.follows.holds e (ap is_ok c.in-Ok.is)).0.each q
    ∙ ap (λ b. if b then e else old) (false_from_ne_true (eqb q c.args.line)
    (λ t. other (eqb-true q c.args.line t)))
