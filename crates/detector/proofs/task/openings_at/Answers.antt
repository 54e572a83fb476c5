use Rattle.std.proofs.Common.{◌≡◌, ◌+◌, ◌-◌, ◌≤◌, ℕ, sym, ap, ◌∙◌, subst, arith}
use Rattle.base.specs.Lines.{Grid}
use Rattle.detector.specs.Entries.{entry_at}
use Rattle.detector.specs.declared.line_entry.LineEntry.{LineEntry}
use Rattle.sharing_rules.specs.declared.line_kind.LineKind.TheVariants.{Observed}
use Rattle.detector.specs.declared.openings.Around.{Around}
use Rattle.detector.specs.Index.{names_in}
use Rattle.detector.specs.Openings.{nothing_opens, openings}
use Rattle.detector.specs.Pairs.{AreAround, IsNativeGrid}
use Rattle.detector.specs.Tasks.{with_name}
use Rattle.std.specs.Prelude.{if◌then◌else◌}
use Rattle.detector.proofs.NamedLaws.{with_name-other, around}
use Rattle.detector.proofs.PairLaws.{reached-native}
use Rattle.detector.proofs.task.openings_at.Goals as goal
use Rattle.sharing_rules.specs.Lines.{native_grid}

grid_is : (g : Grid) (n : ℕ) → n ≡ g.size → g.offset ≡ 0 → g ≡ native_grid n
grid_is g n size none = λ i. record { size = sym size i; offset = none i }

above_other : (k : ℕ) → k + 1 ≡ k → ⊥
above_other k e = absurd (omega arith)

below_other : (k : ℕ) → 1 ≤ k → k - 1 ≡ k → ⊥
below_other k some e = absurd (omega arith)

pub search-requires : goal.search-requires
search-requires g c =
    let f = entry_at (g.I.LineIndex.entries c.args.index.now) in
    let grid : IsNativeGrid c.args.layout = c.requires.native c.if-not-searches.false in
    let low = (reached-native c.args.layout c.args.line grid.size grid.offset
    c.requires.reached).some in
    let e : Around = record {
      below = c.peek.result;
      here = record {
        writes = c.peek-here.result.writes;
        track = c.args.own;
        shifted = c.peek-here.result.shifted;
        doubled =
            c.peek-here.result.doubled;
      };
      above = c.peek-2.result;
    } in
    let below : c.peek.result ≡ f (c.args.line - 1) = c.peek.ensures
    ∙ ap f c.saturating_sub.ensures in
    subst (λ (h : Grid). AreAround h c.args.line c.args.tracks.now e)
    (grid_is c.args.layout c.size.result c.size.ensures.value grid.offset)
    (around (with_name (names_in f) Observed c.args.line c.args.own) c.args.layout c.args.tracks.now
    c.args.line e grid.size grid.offset low
    c.requires.named
    (ap (λ (x : LineEntry). x.track) below ∙ sym
    (with_name-other (names_in f) Observed Observed c.args.line (c.args.line - 1) c.args.own
    (λ h. below_other c.args.line low h.1)))
    c.requires.own
    (ap (λ (x : LineEntry). x.track) c.peek-2.ensures
    ∙ sym (with_name-other (names_in f) Observed Observed c.args.line (c.args.line + 1)
    c.args.own (λ h. above_other c.args.line h.1)))
    (ap (λ (x : LineEntry). x.shifted) below)
    (ap (λ (x : LineEntry). x.shifted) c.peek-here.ensures)
    (ap (λ (x : LineEntry). x.doubled) below)
    (ap (λ (x : LineEntry). x.doubled) c.peek-here.ensures))

pub returns-clause-value : goal.returns-clause-value
returns-clause-value g c =
    let grid : IsNativeGrid c.args.layout = c.requires.native c.if-not-searches.false in
    c.search.ensures.value ∙ ap (λ (h : Grid). openings h c.args.line c.args.tracks.now)
    (sym (grid_is c.args.layout c.size.result c.size.ensures.value grid.offset))
    ∙ sym (ap (λ b. if b then openings c.args.layout c.args.line c.args.tracks.now
    else nothing_opens) c.if-not-searches.false)
