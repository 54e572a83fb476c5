-- The tests of what stands on a line, and what they say.
use Rattle.std.proofs.Common.{◌≡◌, ℕ, ◌+◌, ◌<◌, ◌≤◌, ◌↔◌, ℤ, pos, negsuc, ◌+ℤ◌, true, Option, None}
use Rattle.std.proofs.Common.{Some, refl, inl, inr, arith}
use Rattle.std.specs.Prelude.{int_le, int_lt, max}
use Rattle.std.proofs.lemmas.Int.{ints}
use Rattle.std.proofs.lemmas.Bool.{cases_lt, ltb-true, and_parts, and_from, lt-ltb}
use Rattle.objects.specs.declared.block.Block.{Block}
use Rattle.base.specs.declared.layout.Range.{Range}
use Rattle.report.specs.Standing.{BlockStands, LivesBetween, SymbolStands, block_stands}
use Rattle.report.specs.Standing.{last_position, symbol_stands}

-- an address that and_parts have: the later of their beginnings
shared : (base : ℤ) (bytes addr size : ℕ) → 0 < size → 0 < bytes
    → int_lt (pos addr) (base +ℤ pos bytes) ≡ true
    → int_lt base (pos addr +ℤ pos size) ≡ true
    → SymbolStands (record { base = base; size = bytes }) addr size
shared (negsuc n) bytes addr size a b c d = record {
  at = addr;
  begins = omega arith;
  ends = omega arith;
  holds = and_from _ _ (before n addr) c;
}
  where
    before : (n addr : ℕ) → int_le (negsuc n) (pos addr) ≡ true
    before n addr = grind (arith, ints)
shared (pos n) bytes addr size a b c d = elim (cases_lt addr n) [
  | inl less ↦ record {
    at = n;
    begins = omega (arith, less);
    ends = inside n addr size d;
    holds = and_from _ _ (here n) (beyond n bytes b);
  }
  | inr more ↦ record {
    at = addr;
    begins = omega arith;
    ends = omega arith;
    holds = and_from _ _ (after n addr more) c;
  }
]
  where
    inside : (n addr size : ℕ) → int_lt (pos n) (pos addr +ℤ pos size) ≡ true → n < addr + size
    inside n addr size h = grind (arith, ints)

    here : (n : ℕ) → int_le (pos n) (pos n) ≡ true
    here n = grind (arith, ints)

    beyond : (n bytes : ℕ) → 0 < bytes → int_lt (pos n) (pos n +ℤ pos bytes) ≡ true
    beyond n bytes h = grind (arith, ints)

    after : (n addr : ℕ) → n ≤ addr → int_le (pos n) (pos addr) ≡ true
    after n addr h = grind (arith, ints)

found : (r : Range) (addr size : ℕ) → symbol_stands r addr size ≡ true → SymbolStands r addr size
found r addr size h =
    let one = and_parts _ _ h in
    let two = and_parts _ _ one.1 in
    let three = and_parts _ _ two.1 in
    shared r.base r.size addr size (ltb-true 0 size one.0) (ltb-true 0 r.size two.0) three.0 three.1

tested : (r : Range) (addr size : ℕ) → SymbolStands r addr size → symbol_stands r addr size ≡ true
tested r addr size s =
    let h = and_parts _ _ s.holds in
    and_from _ _ (lt-ltb 0 size (omega (arith, s.begins, s.ends)))
    (and_from _ _ (lt-ltb 0 r.size (positive r.base s.at r.size h.0 h.1))
    (and_from _ _ (first r.base addr s.at r.size s.begins h.1)
    (last r.base addr s.at size h.0 s.ends)))
  where
    positive : (base : ℤ) (at bytes : ℕ) → int_le base (pos at) ≡ true
        → int_lt (pos at) (base +ℤ pos bytes) ≡ true → 0 < bytes
    positive base at bytes a b = grind (arith, ints)

    first : (base : ℤ) (addr at bytes : ℕ) → addr ≤ at → int_lt (pos at) (base +ℤ pos bytes) ≡ true
        → int_lt (pos addr) (base +ℤ pos bytes)
        ≡ true
    first base addr at bytes a b = grind (arith, ints)

    last : (base : ℤ) (addr at size : ℕ) → int_le base (pos at) ≡ true → at < addr + size
        → int_lt base (pos addr +ℤ pos size) ≡ true
    last base addr at size a b = grind (arith, ints)

pub symbol_exact : (r : Range) (addr size : ℕ)
    → (symbol_stands r addr size ≡ true) ↔ SymbolStands r addr size
symbol_exact r addr size = (found r addr size, tested r addr size)

lives : (start end : ℕ) (b : Block) (died : Option ℕ) → b.died ≡ died
    → max b.born start < last_position died end → LivesBetween start end b
lives start end b None is h = record {
  position = max b.born start;
  from = omega arith;
  before = omega (arith, h);
  born = omega arith;
  alive = rw is tt;
}
lives start end b (Some d) is h = record {
  position = max b.born start;
  from = omega arith;
  before = omega (arith, h);
  born = omega arith;
  alive = rw is (omega (arith, h));
}

lived : (start end : ℕ) (b : Block) (died : Option ℕ) → b.died ≡ died → LivesBetween start end b
    → max b.born start < last_position died end
lived start end b None is l = omega (arith, l.from, l.born, l.before)
lived start end b (Some d) is l = let alive : l.position < d = rw is at l.alive in
    omega (arith, l.from, l.born, l.before, alive)

pub block_exact : (r : Range) (start end : ℕ) (b : Block)
    → (block_stands r start end b ≡ true) ↔ BlockStands r start end b
block_exact r start end b = (
  λ h. (let parts = and_parts _ _ h in record {
    meets = found r b.addr b.size parts.0;
    lives = lives start end b b.died refl (ltb-true (max b.born start)
        (last_position b.died end) parts.1);
  }),
  λ s. and_from _ _ (tested r b.addr b.size s.meets)
      (lt-ltb (max b.born start) (last_position b.died end)
      (lived start end b b.died refl s.lives)),
)
