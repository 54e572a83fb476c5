-- No spelling of a record is a prefix of another one's.
use Rattle.std.proofs.Common.{◌≡◌, ℕ, ◌+◌, ◌<◌, ◌≤◌, List, [], ◌∷◌, ◌++◌, length, take, Some, None}
use Rattle.std.proofs.Common.{refl, ap, ◌∙◌, arith}
use Rattle.std.proofs.lemmas.List.{length-append}
use Rattle.std.proofs.Math.Seq.{take-append_seam}
use Rattle.trace_format.specs.declared.before.Before.{Before}
use Rattle.trace_format.specs.declared.record.Version.{Version}
use Rattle.trace_format.specs.declared.record.TraceRecord.{TraceRecord}
use Rattle.trace_format.specs.Judging.{begun, record_extent}
use Rattle.trace_format.specs.Rules.{IsGoodRecord}
use Rattle.trace_format.specs.Spelling.{spell_record}
use Rattle.trace_format.specs.Laws.Extents.{extent_is_some, fronts_wait_at}
use Rattle.trace_format.specs.Laws.Spelling.{record_whole}

extent_some : (v : Version) (bytes : List ℕ) → 1 ≤ record_extent v bytes
extent_some v bytes = extent_is_some (Some (begun v (record { first = 0; harts = 1; near = 0 }))) None bytes

prefix_waits : (v : Version) (bytes : List ℕ) (k : ℕ) → 1 ≤ k → k ≤ length bytes
    → k < record_extent v bytes → record_extent v (take k bytes) ≡ k → ⊥
prefix_waits v bytes k some le lt ends =
    let waits =
    (fronts_wait_at (Some (begun v (record { first = 0; harts = 1; near = 0 }))) None bytes).short k
    some le lt in
    omega arith

no_more : (more : List ℕ) → (0 < length more → ⊥) → more ≡ []
no_more [] none = refl
no_more (x ∷ xs) none = absurd (none (omega arith))

-- After one and the same beginning, no spelling of a record is a prefix of another's.
pub no_prefix : (v : Version) (harts : ℕ) (before : Before) (a b : TraceRecord) (more : List ℕ)
    → IsGoodRecord v harts a → IsGoodRecord v harts b
    → spell_record v before b ≡ spell_record v before a ++ more → more ≡ []
no_prefix v harts before a b more good_a good_b is =
    let bytes = spell_record v before b in
    let front = spell_record v before a in
    let k = length front in
    let whole : record_extent v bytes ≡ length bytes = record_whole v harts before b good_b in
    let size : length bytes ≡ k + length more = ap length is ∙ length-append front more in
    let begins : take k bytes ≡ front = ap (take k) is ∙ take-append_seam front more in
    let ends : record_extent v (take k bytes) ≡ k = ap (record_extent v) begins
    ∙ record_whole v harts before a good_a in
    no_more more (λ some. prefix_waits v bytes k
    (omega (arith, extent_some v front, record_whole v harts before a good_a)) (omega arith)
    (omega arith) ends)
