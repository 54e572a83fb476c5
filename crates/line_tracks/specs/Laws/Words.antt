-- Words that no one touched.
use Rattle.std.proofs.Common.{◌≡◌, ℕ, zero, suc, ◌/◌, ◌%◌, [], ◌∷◌, ◌++◌, map, replicate, refl, ap}
use Rattle.std.proofs.Common.{sym, arith}
use Rattle.std.proofs.lemmas.List.{map-append, length-map}
use Rattle.std.proofs.lemmas.List.Elements.{All-replicate}
use Rattle.std.proofs.lemmas.List.Folds.{sum_by-replicate}
use Rattle.std.specs.Prelude.{sum_by, IsTrue}
use Rattle.base.specs.declared.layout.Range.{Range}
use Rattle.sharing_rules.specs.Places.{below}
use Rattle.sharing_rules.specs.Words.{accesses, tally}
use Rattle.line_tracks.specs.RangeWords.{AreWords, blank, is_possible}
use Rattle.sharing_rules.specs.Laws.Lists.{length-below}

replicate-push : {X : Type 0} (n : ℕ) (x : X) → replicate n x ++ x ∷ [] ≡ x ∷ replicate n x
replicate-push zero x = refl
replicate-push (suc n) x = ap (λ xs. x ∷ xs) (replicate-push n x)

-- the same at each place
pub map_below_same : {X : Type 0} (n : ℕ) (x : X) → replicate n x ≡ map (λ i. x) (below n)
map_below_same zero x = refl
map_below_same (suc n) x = rw (map-append (λ i. x) (below n) (n ∷ []), ← map_below_same n x)
    (sym (replicate-push n x))

-- they were not accessed
pub blank-sum : (n : ℕ) → 0 ≡ sum_by accesses (map (λ i. tally []) (below n))
blank-sum n = rw (← map_below_same n (tally []))
    (omega (arith, sum_by-replicate accesses n (tally [])))

-- they are words of their range
pub blank-are : (r : Range) → r.size % 4 ≡ 0 → AreWords (blank r)
blank-are r even = record {
  size = omega (arith, length-map (below (r.size / 4)) (λ i. tally []), length-below (r.size / 4));
  possible = rw (← map_below_same (r.size / 4) (tally []))
      (All-replicate (λ w. IsTrue (is_possible w)) (r.size / 4) (tally []) refl);
  few = omega (arith, blank-sum (r.size / 4));
}
