-- The test of what was read is the fact that a shelf's reading promises.
use Rattle.std.proofs.Common.{◌≡◌, ◌<◌, ◌≤◌, ◌||◌, ◌==◌, ℕ, List, true, length, take, drop, sym}
use Rattle.std.proofs.Common.{ap, ◌∙◌, arith, length-take, length-take-le, length-drop, nat_lt}
use Rattle.std.proofs.Common.{nat_le}
use Rattle.std.specs.Bool.{Decides}
use Rattle.std.proofs.lemmas.Bool.{and_parts, and_from}
use Rattle.std.proofs.lemmas.Bool.Decides.{nat_tests}
use Rattle.std.proofs.lemmas.Slice.Eq.{bytes_eq-Decides}
use Rattle.shelf.specs.Shelf.{Reads}
use Rattle.disk_shelf.specs.Disk.{reads_so}

ends_so : (n room size at : ℕ) → (nat_lt 0 n || (room == 0) || nat_le size at) ≡ true → n ≡ 0
    → 0 < room → size ≤ at
ends_so n room size at test none some = grind (arith, nat_tests)

ends_test : (n room size at : ℕ) → (n ≡ 0 → 0 < room → size ≤ at)
    → (nat_lt 0 n || (room == 0) || nat_le size at) ≡ true
ends_test n room size at ends = grind (arith, nat_tests)

-- A read of n bytes into a buffer passes the test for these contents exactly where `Reads` holds of
-- them.
pub reads_so-Decides : (file : List ℕ) (at n : ℕ) (buffer : List ℕ) → n ≤ length buffer
    → Decides (reads_so file at (length buffer) (take n buffer)) (Reads file at n buffer)
reads_so-Decides file at n buffer fits =
    let len : length (take n buffer) ≡ n = length-take-le n buffer fits in
    let part : take (length (take n buffer)) (drop at file) ≡ take n (drop at file) =
    ap (λ k. take k (drop at file)) len in
    let same = bytes_eq-Decides (take n buffer) (take (length (take n buffer)) (drop at file)) in (
      λ test.
          let both = and_parts _ _ test in
          let bytes : take n buffer ≡ take n (drop at file) = same.0 both.0 ∙ part in
          record {
            within = omega (
              arith,
              len,
              ap length bytes,
              length-take n (drop at file),
              length-drop at file,
            );
            bytes = bytes;
            ends = λ none some. ends_so (length (take n buffer)) (length buffer) (length file) at
                both.1 (len ∙ none) some;
          },
      λ reads. and_from _ _ (same.1 (reads.bytes ∙ sym part))
          (ends_test (length (take n buffer)) (length buffer) (length file) at
          (λ none. reads.ends (sym len ∙ none))),
    )
