-- A front of a file, and the piece that follows it.
use Rattle.std.proofs.Common.{◌≡◌, ◌≤◌, ◌+◌, ℕ, List, ◌++◌, length, take, arith}
use Rattle.std.proofs.Common.{◌∙◌, ap}
use Rattle.std.proofs.Math.Seq.{take-add}
use Rattle.std.proofs.lemmas.Grind.{common_steps}
use Rattle.shelf.specs.Shelf.{Reads}
use Rattle.shelf.specs.Fetch.{IsFront}

length-more : (bytes more piece : List ℕ) (n : ℕ) → n ≤ length piece → more ≡ bytes ++ take n piece
    → length more ≡ length bytes + n
length-more bytes more piece n fits e = ap length e ∙ grind (arith, common_steps)

pub front-more : (file bytes more piece : List ℕ) (at n : ℕ) → at ≡ length bytes → n ≤ length piece
    → more ≡ bytes ++ take n piece → IsFront file bytes → Reads file at n piece → IsFront file more
front-more file bytes more piece at n place fits e front reads =
    let len : length more ≡ length bytes + n = length-more bytes more piece n fits e in
    let taken : take (length more) file ≡ take (length bytes + n) file =
    ap (λ k. take k file) len in
    record {
      within = omega (arith, front.within, reads.within, place, len);
      same = cc (e, place, front.same, reads.bytes, take-add (length bytes) n file, taken);
    }
