-- The text of what has been seen.
use Rattle.std.proofs.Common.{◌≡◌, ℕ, List, [], length, map, ap, ◌∙◌}
use Rattle.sharing_rules.specs.AccessLists.{AccessList}
use Rattle.trace_format.specs.Rules.{touches_in}
use Rattle.trace_format.specs.declared.record.TraceRecord.{TraceRecord}
use Rattle.base.specs.TextLines.{text_of}
use Rattle.base.specs.Shapes.{CacheShape}
use Rattle.finite_cache.specs.CacheState.{CacheState, StandsFor, nothing_kept, row_kept}
use Rattle.finite_cache.specs.CacheState.{totals_kept}
use Rattle.finite_cache.specs.Laws.Stands.{rows-stand, stands-none, totals-stand}
use Rattle.finite_cache.specs.Rows.{rows_of}
use Rattle.finite_cache.specs.Seen.{HasSeen, caches_of_records}
use Rattle.finite_cache.specs.Texts.{caches_text, lines_of_caches, reported_rows}
use Rattle.finite_cache.specs.declared.rows.Totals.{Totals}

-- the text of what is kept is that of a list for which it stands
pub text-stands : (v : CacheState) (t : AccessList) (total : Totals) → StandsFor t v
    → total ≡ totals_kept v
    → text_of (lines_of_caches v.shape v.position
    (reported_rows (map (row_kept v.shape v.parts.lines) v.parts.rows)) total)
    ≡ caches_text v.shape t
unfolding caches_text
text-stands v t total stands sums =
    ap (λ p. text_of (lines_of_caches v.shape p
    (reported_rows (map (row_kept v.shape v.parts.lines) v.parts.rows)) total)) stands.position
    ∙ ap (λ rs. text_of (lines_of_caches v.shape (length t) (reported_rows rs) total))
    (rows-stand v t stands)
    ∙ ap (λ x. text_of (lines_of_caches v.shape (length t) (reported_rows (rows_of v.shape t)) x))
    (sums ∙ totals-stand v t stands)

-- and that of records that were seen from the beginning
pub text-seen : (k : CacheShape) (v : CacheState) (items : List TraceRecord) (text : List ℕ)
    → HasSeen (nothing_kept k) v items
    → ((t : AccessList) → StandsFor t v → text ≡ caches_text v.shape t)
    → text ≡ caches_of_records k items
unfolding caches_of_records
text-seen k v items text seen of_list =
    of_list (touches_in items) (seen.stands [] (stands-none k))
    ∙ ap (λ s. caches_text s (touches_in items)) seen.setting
