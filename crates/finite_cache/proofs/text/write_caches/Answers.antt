use Rattle.std.proofs.Common.{◌≡◌, ℕ, List, map, subst}
use Rattle.base.specs.TextLines.{text_of}
use Rattle.std.specs.Prelude.{IfOk}
use Rattle.finite_cache.specs.CacheState.{row_kept}
use Rattle.finite_cache.specs.Laws.Seen.{text-seen, text-stands}
use Rattle.finite_cache.specs.Texts.{lines_of_caches, reported_rows}
use Rattle.finite_cache.proofs.text.write_caches.Goals as goal

pub returns-clause-of_list : goal.returns-clause-of_list
returns-clause-of_list c = λ t stands.
    subst (λ (x : List ℕ). IfOk c.write_kept.result (λ text. text.items ≡ x))
    (text-stands c.args.caches.now t c.totals.result stands c.totals.ensures.kept)
    c.write_kept.ensures

pub returns-clause-of_records : goal.returns-clause-of_records
returns-clause-of_records c = λ k items seen.
    let v = c.args.caches.now in
    subst (λ (x : List ℕ). IfOk c.write_kept.result (λ text. text.items ≡ x))
    (text-seen k v items (text_of (lines_of_caches v.shape v.position
    (reported_rows (map (row_kept v.shape v.parts.lines) v.parts.rows)) c.totals.result)) seen
    (λ t stands. text-stands v t c.totals.result stands c.totals.ensures.kept))
    c.write_kept.ensures
