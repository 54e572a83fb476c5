use Rattle.std.proofs.Common.{◌∙◌, ◌∷◌, ◌++◌, [], ℕ, List, get_or, ap, sym, arith}
use Rattle.std.specs.Int.{to_le_bytes, w64}
use Rattle.saved_state.proofs.BlockUnits.{spelled_sites}
use Rattle.saved_state.proofs.block_units.block_bytes.Goals as goal

four : List ℕ → List ℕ
four xs = get_or xs 0 0 ∷ get_or xs 1 0 ∷ get_or xs 2 0 ∷ get_or xs 3 0 ∷ []

eight : List ℕ → List ℕ
eight xs = get_or xs 0 0 ∷ get_or xs 1 0 ∷ get_or xs 2 0 ∷ get_or xs 3 0 ∷ get_or xs 4 0
    ∷ get_or xs 5 0 ∷ get_or xs 6 0 ∷ get_or xs 7 0 ∷ []

pub returns : goal.returns
unfolding four eight
returns c =
    let b = c.args.block.now in
    let died = c.to_le_bytes-8.ensures ∙ ap (to_le_bytes w64) c.death_number.ensures in
    (λ i. 3 ∷ (four (c.to_le_bytes.ensures i) ++ (four (c.to_le_bytes-2.ensures i)
    ++ (four (c.to_le_bytes-3.ensures i) ++ (four (c.to_le_bytes-4.ensures i)
    ++ (four (c.to_le_bytes-5.ensures i) ++ (four (c.to_le_bytes-6.ensures i)
    ++ (eight (c.to_le_bytes-7.ensures i) ++ eight (died i)))))))))
    ∙ sym (spelled_sites b (grind arith))
