-- A block is read as it was spelled, and one that is read is good.
use Rattle.std.proofs.Common.{◌≡◌, ℕ, ◌^◌, ◌<◌, ◌≤◌, true, false, eqb, leb, List, [], ◌∷◌, ◌++◌}
use Rattle.std.proofs.Common.{length, get_or, All, Option, Some, None, refl, sym, ap, subst, ◌∙◌, arith}
use Rattle.std.specs.Prelude.{not}
use Rattle.std.proofs.lemmas.Bool.{and_from, and_parts, not-true}
use Rattle.std.proofs.lemmas.Bool.Decides.{nat_tests}
use Rattle.std.proofs.lemmas.List.Elements.{All-cons, All-nil}
use Rattle.std.proofs.lemmas.Nat.{from_le_bytes-to_le_bytes_4, from_le_bytes-to_le_bytes_8}
use Rattle.objects.specs.declared.block.Block.{Block}
use Rattle.objects.specs.Blocks.{live_together, meets_live}
use Rattle.trace_format.specs.Laws.Bytes.{below_32, bytes_of}
use Rattle.trace_format.specs.Spelling.{spell_alloc}
use Rattle.base.specs.Fields.{number_at}
use Rattle.std.specs.Int.{from_le_bytes, to_le_bytes, w32, w64}
use Rattle.saved_state.specs.Laws.Again.{spelled_again}
use Rattle.saved_state.specs.Laws.Reading.{IsUnit, unit_is, unit_stated}
use Rattle.saved_state.specs.ObjectJudging.{block_at, block_in, death_of, is_good_block, is_life}
use Rattle.saved_state.specs.ObjectRules.{IsSavedBlock}
use Rattle.saved_state.specs.ObjectSpelling.{death_number, no_death, spell_block}
use Rattle.saved_state.proofs.Spelled.{if_spelled-short}
use Rattle.saved_state.proofs.UnitLaws.{IsByte, MayFollow}

-- bytes that are too few
pub block_in-short : (position : ℕ) (before : List Block) (bytes : List ℕ) → length bytes < 41
    → block_in position before bytes ≡ None
unfolding block_in block_at spell_block spell_alloc
block_in-short position before bytes few =
    if_spelled-short spell_block (is_good_block position before (block_at bytes)) (block_at bytes)
    bytes few

four_of : (xs : List ℕ) → length xs ≡ 4
    → xs ≡ get_or xs 0 0 ∷ get_or xs 1 0 ∷ get_or xs 2 0 ∷ get_or xs 3 0 ∷ []
four_of (p ∷ q ∷ r ∷ s ∷ []) is = refl
four_of [] is = absurd (omega arith)
four_of (p ∷ []) is = absurd (omega arith)
four_of (p ∷ q ∷ []) is = absurd (omega arith)
four_of (p ∷ q ∷ r ∷ []) is = absurd (omega arith)
four_of (p ∷ q ∷ r ∷ s ∷ t ∷ xs) is = absurd (omega arith)

-- the bytes of a block, site by site
pub spelled_sites : (b : Block) → length b.sites ≡ 4
    → spell_block b ≡ 3 ∷ (to_le_bytes w32 b.addr ++ (to_le_bytes w32 b.size
    ++ (to_le_bytes w32 (get_or b.sites 0 0) ++ (to_le_bytes w32 (get_or b.sites 1 0)
    ++ (to_le_bytes w32 (get_or b.sites 2 0) ++ (to_le_bytes w32 (get_or b.sites 3 0)
    ++ (to_le_bytes w64 b.born ++ to_le_bytes w64 (death_number b.died))))))))
unfolding spell_block spell_alloc
spelled_sites b four =
    ap (λ (sites : List ℕ). spell_block (record b { sites = sites })) (four_of b.sites four)

-- ---- a block that is read

pub block_is : (position : ℕ) (before : List Block) (bytes : List ℕ) (b : Block)
    → block_in position before bytes ≡ Some b
    → IsUnit spell_block (is_good_block position before) bytes b × (block_at bytes ≡ b)
unfolding block_in
block_is position before bytes b is = (
  unit_is spell_block (is_good_block position before) (block_at bytes) b bytes is,
  unit_stated spell_block (is_good_block position before (block_at bytes)) (block_at bytes) b bytes
      is,
)

length-stated : (bytes : List ℕ) → length (spell_block (block_at bytes)) ≡ 41
unfolding block_at spell_block spell_alloc
length-stated bytes = refl

-- it has 41 bytes
pub length-block : (position : ℕ) (before : List Block) (bytes : List ℕ) (b : Block)
    → block_in position before bytes ≡ Some b → length (spell_block b) ≡ 41
length-block position before bytes b is =
    ap (λ (x : Block). length (spell_block x)) (sym (block_is position before bytes b is).1)
    ∙ length-stated bytes

-- its fields fit
fits_block : (position : ℕ) (bytes : List ℕ) → All IsByte bytes
    → is_life position (block_at bytes).born (block_at bytes).died ≡ true
    → IsSavedBlock position (block_at bytes)
unfolding block_at
fits_block position bytes fits life =
    let is = bytes_of bytes fits in
    let Small : ℕ → Type 0 = λ n. n < 2 ^ 32 in
    let site : ℕ → ℕ = λ place. number_at w32 place bytes in
    record {
      addr_in_range = below_32 bytes 1 is;
      size_in_range = below_32 bytes 5 is;
      four = refl;
      sites_in_range =
          All-cons Small (site 9) (site 13 ∷ site 17 ∷ site 21 ∷ []) (below_32 bytes 9 is)
          (All-cons Small (site 13) (site 17 ∷ site 21 ∷ []) (below_32 bytes 13 is)
          (All-cons Small (site 17) (site 21 ∷ []) (below_32 bytes 17 is)
          (All-cons Small (site 21) [] (below_32 bytes 21 is) (All-nil Small))));
      life = life;
    }

pub block_follows : (position : ℕ) (before : List Block) (bytes : List ℕ) (b : Block)
    → All IsByte bytes → block_in position before bytes ≡ Some b
    → MayFollow (IsSavedBlock position) live_together before b
block_follows position before bytes b fits is =
    let unit = block_is position before bytes b is in
    let rule = and_parts (is_life position b.born b.died) (not (meets_live before b))
    unit.0.is_good in (
      subst (IsSavedBlock position) unit.1 (fits_block position bytes fits
          (subst (λ (x : Block). is_life position x.born x.died ≡ true) (sym unit.1) rule.0)),
      not-true (meets_live before b) rule.1,
    )

-- ---- a block that is spelled

record IsRecorded (born : ℕ) (died : Option ℕ) : Type 0 where
  birth : born < 2 ^ 64
  death : death_number died < 2 ^ 64
  again : death_of (death_number died) ≡ died

is_reported : (position born : ℕ) (died : Option ℕ) → position ≤ 2 ^ 40 → is_life position born died
    ≡ true → IsRecorded born died
is_reported position born None low life =
    let before : leb born position ≡ true = life in
    record { birth = grind (arith, nat_tests); death = omega arith; again = refl }
is_reported position born (Some died) low life =
    let both = and_parts (leb born died) (leb died position) life in
    let lived : leb born died ≡ true = both.0 in
    let before : leb died position ≡ true = both.1 in
    let small : died ≤ 2 ^ 40 = grind (arith, nat_tests) in
    let other : eqb died no_death ≡ false = grind (arith, nat_tests) in
    record { birth = grind (arith, nat_tests); death = omega arith; again = rw other refl }

-- its fields give it back
of_fields : (position : ℕ) (b : Block) (more : List ℕ) → IsSavedBlock position b
    → IsRecorded b.born b.died → block_at (spell_block b ++ more) ≡ b
unfolding block_at
of_fields position b more good stated =
    let site : (k : ℕ) → k < 4 → from_le_bytes w32 (to_le_bytes w32 (get_or b.sites k 0))
    ≡ get_or b.sites k 0 = λ k within. from_le_bytes-to_le_bytes_4 (get_or b.sites k 0)
    (good.sites_in_range k 0 (omega (arith, within, good.four))) in
    let addr = from_le_bytes-to_le_bytes_4 b.addr good.addr_in_range in
    let size = from_le_bytes-to_le_bytes_4 b.size good.size_in_range in
    let born = from_le_bytes-to_le_bytes_8 b.born stated.birth in
    let died = ap death_of (from_le_bytes-to_le_bytes_8 (death_number b.died) stated.death)
    ∙ stated.again in
    ap (λ (xs : List ℕ). block_at (xs ++ more)) (spelled_sites b good.four)
    ∙ (λ i. record {
      addr = addr i;
      size = size i;
      sites = site 0 (omega arith) i ∷ site 1 (omega arith) i ∷ site 2 (omega arith) i
          ∷ site 3 (omega arith) i ∷ [];
      born = born i;
      died = died i;
    })
    ∙ ap (λ (sites : List ℕ). record b { sites = sites }) (sym (four_of b.sites good.four))

pub block_again : (position : ℕ) (before : List Block) (b : Block) (more : List ℕ)
    → position ≤ 2 ^ 40 → MayFollow (IsSavedBlock position) live_together before b
    → block_in position before (spell_block b ++ more) ≡ Some b
unfolding block_in
block_again position before b more low may =
    let good = may.0 in
    let room : not (meets_live before b) ≡ true = rw may.1 refl in
    spelled_again spell_block (is_good_block position before) (block_at (spell_block b ++ more)) b
    more
    (of_fields position b more good (is_reported position b.born b.died low good.life))
    (and_from (is_life position b.born b.died) (not (meets_live before b)) good.life room)
