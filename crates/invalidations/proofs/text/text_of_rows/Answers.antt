use Rattle.std.proofs.Common.{ℕ, List, [], ◌∷◌, ◌++◌, ap, codes, map, ◌∙◌}
use Rattle.base.specs.TextLines.{text_of}
use Rattle.report.specs.Lines.{TextLine}
use Rattle.sharing_rules.specs.declared.word.Word.{Word}
use Rattle.invalidations.proofs.TextLaws.{whole_text}
use Rattle.invalidations.specs.Rows.{is_pair_row_before, is_site_row_before}
use Rattle.invalidations.specs.Text.{hart_line, head_lines, headed, pair_line, site_line}
use Rattle.invalidations.specs.declared.sited.Sides.{Sides}
use Rattle.invalidations.specs.declared.tables.Taken.{Taken}
use Rattle.sharing_rules.specs.Listed.{in_order}
use Rattle.invalidations.proofs.text.text_of_rows.Goals as goal

pub returns : goal.returns
returns c =
    let e = c.args.ending.now in
    let k = c.args.explainer.now in
    let head : List TextLine = head_lines e k in
    let tables : List (ℕ × Word) → List (Sides × Taken) → List (Sides × Taken) → List TextLine =
    λ sites pairs harts.
    headed (codes "sites") (map (site_line c.args.index.now.symbols) sites)
    ++ headed (codes "pairs") (map pair_line pairs) ++ headed (codes "harts") (map hart_line harts)
    ++ (codes "end" ∷ []) ∷ [] in
    ap (λ v. v.items) c.into_bytes.ensures.value
    ∙ whole_text _ _ _ head (tables c.args.sites.now c.args.pairs.now c.args.harts.now)
    c.new-text.ensures.bytes c.in_ok-push_head.ensures c.in_ok-push_tables.ensures
    ∙ ap (λ s. text_of (head ++ tables s c.args.pairs.now c.args.harts.now)) c.requires.sites
    ∙ ap (λ p. text_of (head ++ tables (in_order is_site_row_before k.sites) p c.args.harts.now))
    c.requires.pairs
    ∙ ap (λ h. text_of (head ++ tables (in_order is_site_row_before k.sites)
    (in_order is_pair_row_before k.pairs) h)) c.requires.harts
