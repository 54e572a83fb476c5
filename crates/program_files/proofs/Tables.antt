-- Rows of tables.
use Rattle.std.proofs.Common.{◌≡◌, ℕ, zero, suc, ◌+◌, ◌*◌, ◌/◌, ◌<◌, ◌≤◌, List, ◌∷◌, take, drop}
use Rattle.std.proofs.Common.{length, refl, ap, arith, length-drop, ◌∙◌}
use Rattle.std.proofs.lemmas.Nat.{le-div}
use Rattle.std.specs.Simd.{first_chunks}
use Rattle.program_files.specs.Fields.{rows}

-- fewer rows are the first of more
fewer_rows : (n k m : ℕ) (bytes : List ℕ) → k ≤ m → take k (first_chunks n m bytes)
    ≡ first_chunks n k bytes
fewer_rows n zero m bytes h = refl
fewer_rows n (suc k) zero bytes h = absurd (omega arith)
fewer_rows n (suc k) (suc m) bytes h = ap (λ rest. take n bytes ∷ rest)
    (fewer_rows n k m (drop n bytes) (omega arith))

-- the first rows of all that fit from a place on
pub rows_within : (n k place : ℕ) (file rest : List ℕ) (all : List (List ℕ)) → 0 < n
    → place + n * k ≤ length file → rest ≡ drop place file
    → all ≡ first_chunks n (length rest / n) rest → take k all ≡ rows n k place file
rows_within n k place file rest all some within is_rest is_all =
    let long = length-drop place file in
    let same = ap length is_rest in
    let fit : k * n ≤ length rest = omega arith in
    ap (take k) is_all ∙ fewer_rows n k (length rest / n) rest (le-div k (length rest) n some fit)
    ∙ ap (first_chunks n k) is_rest
