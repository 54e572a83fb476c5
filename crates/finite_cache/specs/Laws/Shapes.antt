-- A shape has some sets and some ways.
use Rattle.std.proofs.Common.{◌≡◌, ℕ, ◌*◌, ◌<◌, ◌&&◌, true, eqb, arith, inl, inr, List, [], ◌∷◌}
use Rattle.std.proofs.Common.{rules, subst, sym}
use Rattle.std.proofs.lemmas.Bool.{and_parts, eqb-true, false≢true, leb-true, or_cases}
use Rattle.std.specs.List.{AllByRecursion, list_any}
use Rattle.std.specs.Prelude.{nat_le}
use Rattle.base.specs.Levels.{is_from_to}
use Rattle.base.specs.Lines.{is_line_size}
use Rattle.base.specs.Shapes.{CacheShape, is_set_count, is_shape}

pub some-ways : (k : CacheShape) → is_shape k ≡ true → 0 < k.ways
some-ways k good =
    let outer = and_parts (is_line_size k.size && is_set_count k.sets && is_from_to 1 64 k.ways)
    (nat_le (k.sets * k.ways) 4096) good in
    let inner = and_parts (is_line_size k.size && is_set_count k.sets) (is_from_to 1 64 k.ways)
    outer.0 in
    let low = and_parts (nat_le 1 k.ways) (nat_le k.ways 64) inner.1 in
    let e = leb-true 1 k.ways low.0 in omega (arith, e)

positive : (n : ℕ) (ns : List ℕ) → AllByRecursion (λ m. 0 < m) ns → list_any (eqb n) ns ≡ true
    → 0 < n
positive n [] all e = absurd (false≢true e)
positive n (m ∷ ns) all e =
    elim (or_cases (eqb n m) (list_any (eqb n) ns) e) [
      | inl here ↦ subst (λ x. 0 < x) (sym (eqb-true n m here)) all.0
      | inr later ↦ positive n ns all.1 later
    ]

pub some-sets : (k : CacheShape) → is_shape k ≡ true → 0 < k.sets
some-sets k good =
    let outer = and_parts (is_line_size k.size && is_set_count k.sets && is_from_to 1 64 k.ways)
    (nat_le (k.sets * k.ways) 4096) good in
    let inner = and_parts (is_line_size k.size && is_set_count k.sets) (is_from_to 1 64 k.ways)
    outer.0 in
    let sets = (and_parts (is_line_size k.size) (is_set_count k.sets) inner.0).1 in
    positive k.sets (1 ∷ 2 ∷ 4 ∷ 8 ∷ 16 ∷ 32 ∷ 64 ∷ 128 ∷ 256 ∷ 512 ∷ 1024 ∷ []) (search rules) sets
