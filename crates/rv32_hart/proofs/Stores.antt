-- What a store leaves, and what is loaded after it.
use Rattle.std.proofs.Common.{◌≡◌, ◌≢◌, ◌⊎◌, ℕ, zero, suc, ◌+◌, ◌-◌, ◌/◌, ◌%◌, ◌^◌, ◌<◌, ◌≤◌, ◌∙◌}
use Rattle.std.proofs.Common.{Bool, true, false, cond, not, List}
use Rattle.std.proofs.Common.{length, get_or, set, refl, ap, arith, inl, inr, nat_lt, nat_eq, Some}
use Rattle.std.proofs.Common.{None, Ok, get_or-set_same}
use Rattle.std.proofs.Common.{get_or-set_other, lit<}
use Rattle.std.proofs.lemmas.Bool.{ltb-false, eqb-true, not-false, cases_Bool}
use Rattle.std.proofs.lemmas.List.{length-set}
use Rattle.std.proofs.Math.Nat.{pow-suc, one-le-pow}
use Rattle.std.proofs.Math.Arith.{mod-mul}
use Rattle.rv32_hart.specs.declared.page.MemFault.{MemFault}
use Rattle.rv32_hart.specs.declared.page.MemFault.TheVariants.{Misaligned, Outside, ReadOnly}
use Rattle.rv32_hart.specs.Bytes.{IsSize, number_in, with_number}
use Rattle.rv32_hart.specs.Space.{Space, IsSpace, byte_at, page_at}
use Rattle.rv32_hart.specs.Faults.{loaded, store_fault}
use Rattle.rv32_hart.specs.Changes.{stored}
use Rattle.rv32_hart.proofs.Within.{inside}
use Rattle.rv32_hart.proofs.LoadedNumbers.{number_at_place}

put_other : (bytes : List ℕ) (at n value i : ℕ) → (i < at) ⊎ (at + n ≤ i)
    → get_or (with_number bytes at n value) i 0 ≡ get_or bytes i 0
put_other bytes at zero value i h = refl
put_other bytes at (suc n) value i h =
    let later : (i < at + 1) ⊎ (at + 1 + n ≤ i) =
    elim h [ inl below ↦ inl (omega arith) | inr above ↦ inr (omega arith) ] in
    let differs : i ≢ at = elim h [ inl below ↦ omega arith | inr above ↦ omega arith ] in
    put_other (set bytes at (value % 256)) (at + 1) n (value / 256) i later
    ∙ get_or-set_other bytes at i (value % 256) 0 differs

pub length-with_number : (bytes : List ℕ) (at n value : ℕ) → length (with_number bytes at n value)
    ≡ length bytes
length-with_number bytes at zero value = refl
length-with_number bytes at (suc n) value = length-with_number (set bytes at (value % 256)) (at + 1)
    n (value / 256)
    ∙ length-set bytes at (value % 256)

-- a memory after a store is one
pub stored_space : (m : Space) (a size value : ℕ) → IsSpace m → IsSpace (stored m a size value)
stored_space m a size value space =
    let long = length-with_number m.bytes (a - m.base) size value in
    record {
      aligned = space.aligned;
      whole = long ∙ space.whole;
      room = omega (arith, space.room, long);
      rights = space.rights;
    }

put_again : (bytes : List ℕ) (at n value : ℕ) → at + n ≤ length bytes
    → number_in (with_number bytes at n value) at n ≡ value % 256 ^ n
put_again bytes at zero value h = omega arith
put_again bytes at (suc n) value h =
    let rest = put_again (set bytes at (value % 256)) (at + 1) n (value / 256)
    (omega (arith, length-set bytes at (value % 256))) in
    let first : get_or (with_number (set bytes at (value % 256)) (at + 1) n (value / 256)) at 0
    ≡ value % 256 =
    put_other (set bytes at (value % 256)) (at + 1) n (value / 256) at (inl (omega arith))
    ∙ get_or-set_same bytes at (value % 256) 0 (omega arith) in
    rw (first, rest, pow-suc)
    (omega (arith, mod-mul value {m = 256 ^ n} {c = 256} (pow_positive n) (lit< tt)))
  where
    pow_positive : (n : ℕ) → zero < 256 ^ n
    pow_positive n = omega (arith, one-le-pow n 256 (lit< tt))

-- a byte that the store doesn't touch stays
pub keeps_others : (m : Space) (a size value : ℕ) → m.base ≤ a → (b : ℕ) → (b < a) ⊎ (a + size ≤ b)
    → byte_at (stored m a size value) b ≡ byte_at m b
keeps_others m a size value h b k =
    elim (cases_Bool (nat_lt b m.base)) [
      | inl below ↦ rw below refl
      | inr above ↦ rw above
          (put_other m.bytes (a - m.base) size value (b - m.base)
          (apart (ltb-false b m.base above) k))
    ]
  where
    apart : m.base ≤ b → (b < a) ⊎ (a + size ≤ b) → (b - m.base < a - m.base)
        ⊎ (a - m.base + size ≤ b - m.base)
    apart g k = elim k [ inl below ↦ inl (omega arith) | inr above ↦ inr (omega arith) ]

passed : (x y z : Bool) (a b c : MemFault)
    → cond x (Some a) (cond y (Some b) (cond z (Some c) None)) ≡ None → (x ≡ false) × (y ≡ false)
passed true y z a b c h = absurd (cc)
passed false true z a b c h = absurd (cc)
passed false false z a b c h = (refl, refl)

-- a load gives what was stored last
pub gives_stored : (m : Space) (a size value : ℕ) → IsSpace m → IsSize size → store_fault m a size
    ≡ None
    → loaded (stored m a size value) a size ≡ Ok (value % 256 ^ size)
gives_stored m a size value k s e =
    let p = passed (not (nat_eq (a % size) 0)) (not (page_at m a).mapped)
    (not (page_at m a).writable) Misaligned Outside ReadOnly e in
    let aligned : a % size ≡ 0 = eqb-true _ _ (not-false _ p.0) in
    let here = inside m a size k s aligned (not-false _ p.1) in
    rw (p.0, p.1) (ap (λ n. Ok n) (number_at_place (stored m a size value) a size here.0
    ∙ put_again m.bytes (a - m.base) size value here.1))

-- a store is at a multiple of its size
pub aligned_store : (m : Space) (a size : ℕ) → store_fault m a size ≡ None → a % size ≡ 0
aligned_store m a size e =
    let p = passed (not (nat_eq (a % size) 0)) (not (page_at m a).mapped)
    (not (page_at m a).writable) Misaligned Outside ReadOnly e in
    eqb-true _ _ (not-false _ p.0)

-- nothing is stored below the base
pub above_base : (m : Space) (a size : ℕ) → IsSpace m → IsSize size → store_fault m a size ≡ None
    → m.base ≤ a
above_base m a size k s e =
    let p = passed (not (nat_eq (a % size) 0)) (not (page_at m a).mapped)
    (not (page_at m a).writable) Misaligned Outside ReadOnly e in
    (inside m a size k s (eqb-true _ _ (not-false _ p.0)) (not-false _ p.1)).0
