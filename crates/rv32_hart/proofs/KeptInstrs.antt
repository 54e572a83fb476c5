-- Kept instructions are those that would be read, whatever is stored, mapped or filled.
use Rattle.std.proofs.Common.{◌≡◌, ◌⊎◌, ℕ, zero, suc, ◌+◌, ◌-◌, ◌*◌, ◌/◌, ◌%◌, ◌<◌, ◌≤◌, ◌∙◌, Bool}
use Rattle.std.proofs.Common.{true, false, cond, not, List, length, get_or, set, refl, ap, sym}
use Rattle.std.proofs.Common.{subst, arith, inl, inr, nat_eq, nat_lt, Some, None, Ok}
use Rattle.std.proofs.Common.{get_or-set_same, get_or-set_other}
use Rattle.std.proofs.lemmas.Bool.{cases_Bool, cases_lt, cases_eq, eqb-false, ltb-false}
use Rattle.std.proofs.lemmas.Bool.Decides.{nat_tests}
use Rattle.std.proofs.lemmas.List.{length-set}
use Rattle.rv32_decode.specs.declared.instruction.Instr.{Instr}
use Rattle.rv32_decode.specs.Table.{decoded}
use Rattle.rv32_hart.specs.declared.kept.KeptInstr.{KeptInstr}
use Rattle.rv32_hart.specs.declared.page.Page.{Page}
use Rattle.rv32_hart.specs.declared.page.MemFault.{MemFault}
use Rattle.rv32_hart.specs.declared.page.MemFault.TheVariants.{Misaligned, Outside, NotExecutable}
use Rattle.rv32_hart.specs.Bytes.{IsSize, with_number}
use Rattle.rv32_hart.specs.Space.{Space, IsSpace, byte_at, page_at, number_at}
use Rattle.rv32_hart.specs.Faults.{fetched, store_fault, unless}
use Rattle.rv32_hart.specs.Changes.{Maps, granted, stored, touches}
use Rattle.rv32_hart.specs.KeptInstructions.{AreEmpty, AreKept, IsKeeping, IsKept, IsKeptOrNone}
use Rattle.rv32_hart.specs.KeptInstructions.{no_instr, slot_of, without_word}
use Rattle.rv32_hart.proofs.Stores.{above_base, aligned_store, keeps_others, stored_space}

-- why a word is fetched
record Fetches (m : Space) (pc word : ℕ) : Type 0 where
  aligned : nat_eq (pc % 4) 0 ≡ true
  mapped : (page_at m pc).mapped ≡ true
  executable : (page_at m pc).executable ≡ true
  number : number_at m pc 4 ≡ word

let_through : (x y z : Bool) (a b c : MemFault) (n w : ℕ)
    → unless (cond (not x) (Some a) (cond (not y) (Some b) (cond (not z) (Some c) None))) n ≡ Ok w
    → (x ≡ true) × (y ≡ true) × (z ≡ true) × (n ≡ w)
let_through false y z a b c n w h = absurd (cc)
let_through true false z a b c n w h = absurd (cc)
let_through true true false a b c n w h = absurd (cc)
let_through true true true a b c n w h = (refl, refl, refl, cc)

reason : (m : Space) (pc word : ℕ) → fetched m pc ≡ Ok word → Fetches m pc word
reason m pc word h =
    let p = let_through (nat_eq (pc % 4) 0) (page_at m pc).mapped (page_at m pc).executable
    Misaligned Outside NotExecutable (number_at m pc 4) word h in
    record { aligned = p.0; mapped = p.1; executable = p.2; number = p.3 }

fetch : (m : Space) (pc word : ℕ) → Fetches m pc word → fetched m pc ≡ Ok word
fetch m pc word f = rw (f.aligned, f.mapped, f.executable) (ap (λ n. Ok n) f.number)

-- one place with another content
placed : (P : ℕ → KeptInstr → Type 0) (kept : List KeptInstr) (i : ℕ) (k : KeptInstr) → P i k
    → i < length kept → ((j : ℕ) → (j ≡ i → ⊥) → P j (get_or kept j no_instr))
    → (j : ℕ) → P j (get_or (set kept i k) j no_instr)
placed P kept i k here within others j =
    elim (cases_eq j i) [
      | inl same ↦
          subst (λ n. P n (get_or (set kept i k) n no_instr)) (sym same)
          (subst (P i) (sym (get_or-set_same kept i k no_instr within)) here)
      | inr differs ↦
          subst (P j) (sym (get_or-set_other kept i j k no_instr differs)) (others j differs)
    ]

-- an instruction that was read is kept
pub keeps_read : (m : Space) (kept : List KeptInstr) (i pc word : ℕ) (instr : Instr)
    → IsKeeping m kept → i ≡ slot_of pc → i < 4096 → Ok word ≡ fetched m pc
    → Some instr ≡ decoded word
    → IsKeeping m (set kept i (record { pc = pc; word = word; instr = instr }))
keeps_read m kept i pc word instr keeping here below read made =
    let k : KeptInstr = record { pc = pc; word = word; instr = instr } in
    let good : IsKept m i k = record { there = sym here; word = sym read; instr = sym made } in
    record {
      space = keeping.space;
      table = record {
        places = length-set kept i k ∙ keeping.table.places;
        each =
            placed (IsKeptOrNone m) kept i k (λ even. good) (omega (arith, keeping.table.places))
            (λ j differs. keeping.table.each j);
      };
    }

none : (m : Space) (i : ℕ) → IsKeptOrNone m i no_instr
none m i even = absurd (omega arith)

-- empty places keep nothing that could be wrong
pub none_kept : (m : Space) (kept : List KeptInstr) (n : ℕ) → AreEmpty kept n → n ≡ 4096
    → AreKept m kept
none_kept m kept n empty all = record {
  places = empty.places ∙ all;
  each = λ i. subst (IsKeptOrNone m i) (sym (empty.each i)) (none m i);
}

-- a number whose bytes are the same
same_number : (m n : Space) (a len : ℕ)
    → ((b : ℕ) → a ≤ b → b < a + len → byte_at n b ≡ byte_at m b)
    → number_at n a len ≡ number_at m a len
same_number m n a zero h = refl
same_number m n a (suc len) h =
    rw (
      h a (omega arith) (omega arith),
      same_number m n (a + 1) len (λ b low high. h b (omega arith) (omega arith)),
    ) refl

fits_word : (a size : ℕ) → IsSize size → a % size ≡ 0 → a + size ≤ a / 4 * 4 + 4
fits_word a size s e =
    let F : ℕ → Type 0 = λ n. a + n ≤ a / 4 * 4 + 4 in
    let two : a % 2 ≡ 0 → a + 2 ≤ a / 4 * 4 + 4 = λ h. omega arith in
    let four : a % 4 ≡ 0 → a + 4 ≤ a / 4 * 4 + 4 = λ h. omega arith in
    elim s [
      | inl one ↦ omega (arith, one)
      | inr more ↦ elim more [
        | inl is ↦ subst F (sym is) (two (ap (λ n. a % n) (sym is) ∙ e))
        | inr is ↦ subst F (sym is) (four (ap (λ n. a % n) (sym is) ∙ e))
      ]
    ]

-- the bytes of a word and those of a store into another one
apart : (a size pc b : ℕ) → a + size ≤ a / 4 * 4 + 4 → pc % 4 ≡ 0 → (pc ≡ a / 4 * 4 → ⊥) → pc ≤ b
    → b < pc + 4 → (b < a) ⊎ (a + size ≤ b)
apart a size pc b fits even differs low high =
    elim (cases_lt b a) [ inl before ↦ inl before | inr behind ↦ inr (omega arith) ]

-- an instruction stays, unless its own word is stored to
unstored : (m : Space) (a size value : ℕ) → IsSpace m → IsSize size → store_fault m a size ≡ None
    → (i : ℕ) (k : KeptInstr) → (k.pc ≡ a / 4 * 4 → ⊥) → IsKeptOrNone m i k
    → IsKeptOrNone (stored m a size value) i k
unstored m a size value space s e i k differs good even =
    let f = reason m k.pc k.word (good even).word in
    let fits : a + size ≤ a / 4 * 4 + 4 = fits_word a size s (aligned_store m a size e) in
    record {
      there = (good even).there;
      word =
          fetch (stored m a size value) k.pc k.word (record {
            aligned = f.aligned;
            mapped = f.mapped;
            executable = f.executable;
            number =
                same_number m (stored m a size value) k.pc 4
                (λ b low high. keeps_others m a size value (above_base m a size space s e) b
                (apart a size k.pc b fits even differs low high))
                ∙ f.number;
          });
      instr = (good even).instr;
    }

-- a word lies in one page
same_page : (m : Space) (a : ℕ) → IsSpace m → page_at m (a / 4 * 4) ≡ page_at m a
same_page m a space =
    let base_page : m.base % 4096 ≡ 0 = space.aligned in
    let side : nat_lt (a / 4 * 4) m.base ≡ nat_lt a m.base = grind (arith, nat_tests) in
    elim (cases_Bool (nat_lt a m.base)) [
      | inl below ↦ rw (side, below) refl
      | inr above ↦
          let from : m.base ≤ a = ltb-false a m.base above in
          let number : (a / 4 * 4 - m.base) / 4096 ≡ (a - m.base) / 4096 = omega arith in
          rw (side, above, number) refl
    ]

-- nothing is kept of a page that may not be executed
not_there : (m : Space) (a i : ℕ) (k : KeptInstr) → IsSpace m → (page_at m a).executable ≡ false
    → IsKept m i k → k.pc ≡ a / 4 * 4 → ⊥
not_there m a i k space off good same =
    let f = reason m k.pc k.word good.word in
    let page : page_at m k.pc ≡ page_at m a = ap (page_at m) same ∙ same_page m a space in
    let on : (page_at m a).executable ≡ true = subst (λ (p : Page). p.executable ≡ true) page
    f.executable in
    absurd (cc)

-- only the place of a word can keep its instruction
elsewhere : (m : Space) (a j : ℕ) (k : KeptInstr) → IsKept m j k → k.pc ≡ a / 4 * 4
    → j ≡ slot_of a
elsewhere m a j k good same = sym good.there ∙ ap slot_of same ∙ omega arith

unless_word : (m : Space) (a j : ℕ) (k : KeptInstr) → IsKeptOrNone m j k
    → (IsKept m j k → k.pc ≡ a / 4 * 4 → ⊥) → k.pc ≡ a / 4 * 4 → ⊥
unless_word m a j k good never same = never (good (omega arith)) same

-- what a store leaves in the places
stores_kept : (m : Space) (kept : List KeptInstr) (a size value : ℕ) (x : Bool) → IsSpace m
    → AreKept m kept → IsSize size → store_fault m a size ≡ None → x ≡ (page_at m a).executable
    → AreKept (stored m a size value) (cond x (without_word kept a) kept)
stores_kept m kept a size value false space table s e off = record {
  places = table.places;
  each = λ j.
      unstored m a size value space s e j (get_or kept j no_instr)
      (unless_word m a j (get_or kept j no_instr) (table.each j)
      (not_there m a j (get_or kept j no_instr) space (sym off)))
      (table.each j);
}
stores_kept m kept a size value true space table s e on =
    let p : ℕ = slot_of a in
    let within : p < length kept = omega (arith, table.places) in
    elim (cases_Bool (nat_eq (get_or kept p no_instr).pc (a / 4 * 4))) [
      | inl found ↦ rw found (record {
        places = length-set kept p no_instr ∙ table.places;
        each =
            placed (IsKeptOrNone (stored m a size value)) kept p no_instr
            (none (stored m a size value) p) within
            (λ j differs. unstored m a size value space s e j (get_or kept j no_instr)
            (unless_word m a j (get_or kept j no_instr) (table.each j)
            (λ good same. differs (elsewhere m a j (get_or kept j no_instr) good same)))
            (table.each j));
      })
      | inr other ↦ rw other (record {
        places = table.places;
        each = λ j.
            unstored m a size value space s e j (get_or kept j no_instr)
            (unless_word m a j (get_or kept j no_instr) (table.each j)
            (λ good same. eqb-false _ _ other
            (subst (λ n. (get_or kept n no_instr).pc ≡ a / 4 * 4)
            (elsewhere m a j (get_or kept j no_instr) good same) same)))
            (table.each j);
      })
    ]

-- a memory after a store is one, and keeps what it should
pub put_keeps : (m : Space) (kept : List KeptInstr) (a size value : ℕ) (x : Bool) (bytes : List ℕ)
    (places : List KeptInstr) → IsKeeping m kept → IsSize size → store_fault m a size ≡ None
    → x ≡ (page_at m a).executable → bytes ≡ with_number m.bytes (a - m.base) size value
    → places ≡ cond x (without_word kept a) kept → IsKeeping (record m { bytes = bytes }) places
put_keeps m kept a size value x bytes places keeping s e right put left =
    rw (put, left) (record {
      space = stored_space m a size value keeping.space;
      table = stores_kept m kept a size value x keeping.space keeping.table s e right;
    })

granted_on : (t w x : Bool) (p : Page) → p.mapped ≡ true → p.executable ≡ true
    → ((cond t (granted w x p) p).mapped ≡ true) × ((cond t (granted w x p) p).executable ≡ true)
granted_on true w x p mapped on = (refl, rw on refl)
granted_on false w x p mapped on = (mapped, on)

-- rights that are given take no instruction away
pub maps_kept : (m n : Space) (at len : ℕ) (w x : Bool) (kept : List KeptInstr)
    → Maps m n at len w x → AreKept m kept → AreKept n kept
maps_kept m n at len w x kept maps table = record {
  places = table.places;
  each = λ i even.
      let k = get_or kept i no_instr in
      let good = table.each i even in
      let f = reason m k.pc k.word good.word in
      let on = granted_on (touches at len k.pc) w x (page_at m k.pc) f.mapped f.executable in
      record {
        there = good.there;
        word =
            fetch n k.pc k.word (record {
              aligned = f.aligned;
              mapped = rw maps.pages on.0;
              executable = rw maps.pages on.1;
              number =
                  same_number m n k.pc 4 (λ b low high. rw (maps.base, maps.bytes) refl)
                  ∙ f.number;
            });
        instr = good.instr;
      };
}
