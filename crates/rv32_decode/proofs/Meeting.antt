-- Which row a word meets, and that it meets no other.
use Rattle.std.proofs.Common.{◌≡◌, ℕ, suc, zero, ◌<◌, Bool, true, false, not, Some, List, [], ◌∷◌}
use Rattle.std.proofs.Common.{take, get_or, ap, sym, ◌∙◌, arith}
use Rattle.std.proofs.Common.{bit_and, find, eq-eqb, nat_eq, length, refl}
use Rattle.std.specs.Option.{option_map}
use Rattle.std.specs.List.{list_all}
use Rattle.std.proofs.lemmas.Bool.{eqb-true, ne_eqb, and_parts}
use Rattle.std.proofs.lemmas.Nat.{and_assoc, and_comm}
use Rattle.rv32_decode.specs.Table.{Row, row, meets, table, decoded}
use Rattle.rv32_decode.specs.declared.instruction.Instr.TheVariants.{Ebreak}

-- the rows' values differ in a bit that both look at
abbrev pub clash : Row → Row → Bool
clash r s = not (nat_eq (bit_and r.value s.mask) (bit_and s.value r.mask))

pub meets-clash : (w : ℕ) (r s : Row) → clash r s ≡ true → meets w s ≡ true → meets w r ≡ false
meets-clash w r s c e = ne_eqb (bit_and w r.mask) r.value (λ h.
    let m : bit_and w s.mask ≡ s.value = eqb-true _ _ e in
    let same : bit_and r.value s.mask ≡ bit_and s.value r.mask =
    ap (λ x. bit_and x s.mask) (sym h) ∙ and_assoc s.mask w r.mask
    ∙ ap (λ x. bit_and w x) (and_comm r.mask s.mask)
    ∙ sym (and_assoc r.mask w s.mask) ∙ ap (λ x. bit_and x r.mask) m in
    grind (arith, eq-eqb _ _ same, c))

found_at : (w k : ℕ) (rows : List Row) (r : Row) → list_all (λ s. clash s (get_or rows k r))
    (take k rows) ≡ true → k < length rows
    → meets w (get_or rows k r) ≡ true → find (meets w) rows ≡ Some (get_or rows k r)
found_at w k [] r a b c = absurd (omega arith)
found_at w zero (x ∷ rows) r a b c = rw c refl
found_at w (suc k) (x ∷ rows) r a b c =
    let p = and_parts (clash x (get_or rows k r))
    (list_all (λ s. clash s (get_or rows k r)) (take k rows)) a in
    rw (meets-clash w x (get_or rows k r) p.0 c) (found_at w k rows r p.1 (omega arith) c)

abbrev pub nth : ℕ → Row
nth k = get_or table k (row 0 0 (λ w. Ebreak))

-- the instruction of a word that meets the row at k, which clashes with each row before it
pub at : (w k : ℕ) → list_all (λ s. clash s (nth k)) (take k table) ≡ true → k < length table
    → bit_and w (nth k).mask ≡ (nth k).value
    → decoded w ≡ Some ((nth k).make w)
unfolding decoded
at w k a b c = ap (option_map (λ r. r.make w))
    (found_at w k table (row 0 0 (λ w. Ebreak)) a b (eq-eqb _ _ c))
