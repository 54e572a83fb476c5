-- Words of which nothing is kept, and a table of lines into which a line is put back as it was.
use Rattle.std.proofs.Common.{◌≡◌, ℕ, zero, suc}
use Rattle.std.proofs.Common.{List, [], ◌∷◌, length, refl, sym, ap}
use Rattle.std.proofs.Common.{◌∙◌, Some}
use Rattle.std.proofs.lemmas.List.{length-map}
use Rattle.std.proofs.lemmas.Option.{same_Some}
use Rattle.std.specs.Map.{values_of}
use Rattle.std.specs.Prelude.{slice_get, Result, Ok, Err, OnErr}
use Rattle.indexmap.specs.IndexMap.{set_value_at}
use Rattle.sharing_rules.specs.Places.{below}
use Rattle.sharing_rules.specs.Laws.Lists.{length-below}
use Rattle.misses.specs.MissCounts.{LineEntry, blank_words}

pub length-blank_words : (n : ℕ) → length (blank_words n) ≡ n
length-blank_words n = length-map (below n) _ ∙ length-below n

-- what stands at an index may be put there again
set-same : (es : List (ℕ × LineEntry)) (i : ℕ) (l : LineEntry)
    → slice_get (values_of es) i ≡ Some l → set_value_at es i l ≡ es
set-same [] i l there = refl
set-same (e ∷ es) zero l there = ap (λ v. (e.0, v) ∷ es) (sym (same_Some e.1 l there))
set-same (e ∷ es) (suc i) l there = ap (λ xs. e ∷ xs) (set-same es i l there)

pub refused-same : {C E : Type 0} (result : Result C E) (es : List (ℕ × LineEntry)) (i : ℕ)
    (old new : LineEntry) → slice_get (values_of es) i ≡ Some old → OnErr result (new ≡ old)
    → OnErr result (set_value_at es i new ≡ es)
refused-same (Ok u) es i old new there same = tt
refused-same (Err e) es i old new there same =
    ap (set_value_at es i) same ∙ set-same es i old there
