-- What a whole part says was saved, and what is saved is said.
use Rattle.std.proofs.Common.{◌≡◌, ℕ, ◌+◌, ◌^◌, ◌<◌, ◌≤◌, true, false, ltb, List, [], ◌∷◌, ◌++◌}
use Rattle.std.proofs.Common.{length, drop, All, Ok, Err}
use Rattle.std.proofs.Common.{refl, sym, ap, subst, ◌∙◌, append_assoc, inl, inr, arith}
use Rattle.std.specs.List.{flat_map}
use Rattle.std.specs.Int.{to_le_bytes, w64}
use Rattle.std.proofs.lemmas.Bool.{cases_Bool}
use Rattle.std.proofs.lemmas.Bool.Decides.{nat_tests}
use Rattle.std.proofs.lemmas.List.{append-nil}
use Rattle.std.proofs.lemmas.List.Elements.{All-drop}
use Rattle.std.proofs.lemmas.Nat.{from_le_bytes-to_le_bytes_8}
use Rattle.objects.specs.declared.block.Block.{Block}
use Rattle.objects.specs.Blocks.{live_together}
use Rattle.objects.specs.Objects.{Objects, no_objects}
use Rattle.objects.specs.Symbols.{Symbol}
use Rattle.base.specs.declared.faults.ResumeFault.{ResumeFault}
use Rattle.base.specs.declared.faults.ResumeFault.TheVariants.{BadState}
use Rattle.trace_format.specs.Laws.Bytes.{below_64, bytes_of, from_part, spelled_64}
use Rattle.base.specs.Fields.{number_at}
use Rattle.saved_state.specs.Laws.Again.{units_again}
use Rattle.saved_state.specs.Laws.Reading.{never_Ok, result_cases, same_Ok, units_are}
use Rattle.saved_state.specs.ObjectJudging.{all_taken, block_in, blocks_at, blocks_read}
use Rattle.saved_state.specs.ObjectJudging.{objects_judged, symbol_in, symbols_at, symbols_read}
use Rattle.saved_state.specs.ObjectJudging.{units_judged, with_blocks, with_symbols}
use Rattle.saved_state.specs.ObjectRules.{IsPartOf, IsSavable, IsSavedBlock, IsSavedSymbol}
use Rattle.saved_state.specs.ObjectSpelling.{spell_block, spell_counts, spell_objects}
use Rattle.saved_state.specs.ObjectSpelling.{spell_saved_symbol}
use Rattle.saved_state.specs.Reading.{Units}
use Rattle.saved_state.proofs.BlockUnits.{block_again, block_follows, block_is}
use Rattle.saved_state.proofs.SymbolUnits.{is_taken, symbol_again, symbol_follows, symbol_is}
use Rattle.saved_state.proofs.UnitLaws.{AreGood, IsByte, MayFollow, in_turn, none_good}
use Rattle.saved_state.proofs.UnitLaws.{one_more_good}

pub judged_enough : (place position : ℕ) (part : List ℕ) → 16 ≤ length part
    → objects_judged place position part ≡ units_judged place position part
unfolding objects_judged
judged_enough place position part long =
    let enough : ltb (length part) 16 ≡ false = grind (arith, nat_tests) in
    rw enough refl

pub judged_short : (place position : ℕ) (part : List ℕ) → length part < 16
    → objects_judged place position part ≡ Err (BadState place)
unfolding objects_judged
judged_short place position part short =
    let few : ltb (length part) 16 ≡ true = grind (arith, nat_tests) in
    rw few refl

-- what the units of a part say of it
module _ (place position : ℕ) (part : List ℕ) where
  pub bad_symbols : (fault : ResumeFault)
      → symbols_read (number_at w64 0 part) no_objects (place + 16) (drop 16 part) ≡ Err fault
      → units_judged place position part ≡ Err fault
  bad_symbols fault e = ap (with_symbols position (number_at w64 8 part)) e

  pub blocks_judged : (u : Units Symbol)
      → symbols_read (number_at w64 0 part) no_objects (place + 16) (drop 16 part) ≡ Ok u
      → units_judged place position part
      ≡ with_blocks u.read (blocks_read position (number_at w64 8 part) no_objects u.place u.left)
  blocks_judged u e = ap (with_symbols position (number_at w64 8 part)) e

-- no bytes are left, or the first of them is at fault
pub none_left : (place : ℕ) (o : Objects) (bytes : List ℕ) → length bytes ≡ 0
    → all_taken place o bytes ≡ Ok o
none_left place o [] none = refl
none_left place o (b ∷ bytes) none = absurd (omega arith)

pub some_left : (place : ℕ) (o : Objects) (bytes : List ℕ) → (length bytes ≡ 0 → ⊥)
    → all_taken place o bytes ≡ Err (BadState place)
some_left place o [] some = absurd (some refl)
some_left place o (b ∷ bytes) some = refl

taken : (place : ℕ) (o p : Objects) (bytes : List ℕ) → all_taken place o bytes ≡ Ok p
    → (bytes ≡ []) × (o ≡ p)
taken place o p [] e = (refl, same_Ok o p e)
taken place o p (b ∷ bytes) e = absurd (never_Ok (BadState place) p e)

-- ---- what is said was saved

-- the counts are the first bytes of a part
counts_spelled : (part : List ℕ) → All IsByte part → 16 ≤ length part
    → part ≡ spell_counts (number_at w64 0 part) (number_at w64 8 part) ++ drop 16 part
unfolding spell_counts
counts_spelled part fits long =
    let first = spelled_64 part 0 (bytes_of part fits) (omega arith) in
    let second = spelled_64 part 8 (bytes_of part fits) (omega arith) in
    from_part part 0 8 8 refl ∙ (λ i. sym first i
    ++ (from_part part 8 8 16 refl ∙ (λ j. sym second j ++ drop 16 part)) i)
    ∙ sym (append_assoc (to_le_bytes w64 (number_at w64 0 part))
    (to_le_bytes w64 (number_at w64 8 part)) (drop 16 part))

module _ (place position : ℕ) (part : List ℕ) (o : Objects) (fits : All IsByte part) where
  spelled_by : (symbols : List Symbol) (blocks : List Block) → 16 ≤ length part
      → length symbols ≡ number_at w64 0 part → length blocks ≡ number_at w64 8 part
      → drop 16 part ≡ flat_map spell_saved_symbol symbols ++ flat_map spell_block blocks
      → AreGood IsSavedSymbol is_taken symbols
      → AreGood (IsSavedBlock position) live_together blocks
      → (let all : Objects = record { symbols = symbols; blocks = blocks } in all ≡ o)
      → IsPartOf position part o
  unfolding spell_objects
  spelled_by symbols blocks long few fewer units good_symbols good_blocks same =
      subst (IsPartOf position part) same (record {
        good = record {
          each = record { symbols = good_symbols.0; blocks = good_blocks.0 };
          apart = good_symbols.1;
          lone = good_blocks.1;
          few_symbols = omega (arith, few, below_64 part 0 (bytes_of part fits));
          few_blocks = omega (arith, fewer, below_64 part 8 (bytes_of part fits));
        };
        spelled = counts_spelled part fits long
            ∙ (λ i. spell_counts (sym few i) (sym fewer i) ++ units i);
      })

  -- what was read, once its symbols and blocks are
  units_found : (u : Units Symbol) (v : Units Block) → 16 ≤ length part
      → symbols_read (number_at w64 0 part) no_objects (place + 16) (drop 16 part) ≡ Ok u
      → blocks_read position (number_at w64 8 part) no_objects u.place u.left ≡ Ok v
      → with_blocks u.read (Ok v) ≡ Ok o → IsPartOf position part o
  units_found u v long symbols_are blocks_are all =
      let n = number_at w64 0 part in
      let m = number_at w64 8 part in
      let none = none_good IsSavedSymbol is_taken in
      let no_block = none_good (IsSavedBlock position) live_together in
      let s = units_are symbol_in spell_saved_symbol
      (λ before left. AreGood IsSavedSymbol is_taken before × All IsByte left)
      (λ before left x e held. (
        (symbol_is before left x e).0.begins,
        (
          one_more_good IsSavedSymbol is_taken before x held.0
              (symbol_follows before left x held.1 e),
          All-drop IsByte (length (spell_saved_symbol x)) left held.1,
        ),
      ))
      n (symbols_at no_objects (place + 16) (drop 16 part)) u symbols_are
      (none, All-drop IsByte 16 part fits) in
      let b = units_are (block_in position) spell_block
      (λ before left. AreGood (IsSavedBlock position) live_together before × All IsByte left)
      (λ before left x e held. (
        (block_is position before left x e).0.begins,
        (
          one_more_good (IsSavedBlock position) live_together before x held.0
              (block_follows position before left x held.1 e),
          All-drop IsByte (length (spell_block x)) left held.1,
        ),
      ))
      m (blocks_at no_objects u.place u.left) v blocks_are (no_block, s.1.1) in
      let end = taken v.place (record { symbols = u.read; blocks = v.read }) o v.left all in
      let few : length u.read ≡ n = ap length s.0.read ∙ s.0.count in
      let fewer : length v.read ≡ m = ap length b.0.read ∙ b.0.count in
      let blocks : u.left ≡ flat_map spell_block v.read =
      b.0.begins ∙ (λ i. flat_map spell_block (sym b.0.read i) ++ end.0 i)
      ∙ append-nil (flat_map spell_block v.read) in
      let units : drop 16 part ≡ flat_map spell_saved_symbol u.read
      ++ flat_map spell_block v.read =
      s.0.begins ∙ (λ i. flat_map spell_saved_symbol (sym s.0.read i) ++ blocks i) in
      spelled_by u.read v.read long few fewer units s.1.0 b.1.0 end.1

  enough_found : 16 ≤ length part → units_judged place position part ≡ Ok o
      → IsPartOf position part o
  enough_found long e =
      let n = number_at w64 0 part in
      let m = number_at w64 8 part in
      elim (result_cases (symbols_read n no_objects (place + 16) (drop 16 part))) [
        | inl fault ↦
            absurd (never_Ok fault.0 o (sym (bad_symbols place position part fault.0 fault.1) ∙ e))
        | inr symbols ↦
            let u = symbols.0 in
            let blocks_are = sym (blocks_judged place position part u symbols.1) ∙ e in
            elim (result_cases (blocks_read position m no_objects u.place u.left)) [
              | inl fault ↦ absurd (never_Ok fault.0 o
                  (sym (ap (with_blocks u.read) fault.1) ∙ blocks_are))
              | inr blocks ↦ units_found u blocks.0 long symbols.1 blocks.1
                  (sym (ap (with_blocks u.read) blocks.1) ∙ blocks_are)
            ]
      ]

  pub part_found : objects_judged place position part ≡ Ok o → IsPartOf position part o
  unfolding objects_judged
  part_found e =
      elim (cases_Bool (ltb (length part) 16)) [
        | inl short ↦ absurd (let bad : Err (BadState place) ≡ Ok o = rw short at e in cc)
        | inr enough ↦
            let long : 16 ≤ length part = grind (arith, nat_tests) in
            enough_found long (sym (judged_enough place position part long) ∙ e)
      ]

-- ---- and what is saved is said

record AreCounts (n m : ℕ) (rest : List ℕ) : Type 0 where
  long : 16 ≤ length (spell_counts n m ++ rest)
  first : number_at w64 0 (spell_counts n m ++ rest) ≡ n
  second : number_at w64 8 (spell_counts n m ++ rest) ≡ m
  behind : drop 16 (spell_counts n m ++ rest) ≡ rest

counts_read : (n m : ℕ) (rest : List ℕ) → n < 2 ^ 64 → m < 2 ^ 64 → AreCounts n m rest
unfolding spell_counts
counts_read n m rest small also = record {
  long = omega arith;
  first = from_le_bytes-to_le_bytes_8 n small;
  second = from_le_bytes-to_le_bytes_8 m also;
  behind = refl;
}

pub part_again : (place position : ℕ) (o : Objects) → position ≤ 2 ^ 40 → IsSavable position o
    → objects_judged place position (spell_objects o) ≡ Ok o
unfolding spell_objects
part_again place position o low good =
    let symbols = flat_map spell_saved_symbol o.symbols in
    let blocks = flat_map spell_block o.blocks in
    let part = spell_counts (length o.symbols) (length o.blocks) ++ (symbols ++ blocks) in
    let behind = place + 16 + length symbols in
    let c = counts_read (length o.symbols) (length o.blocks)
    (symbols ++ blocks) good.few_symbols good.few_blocks in
    let s = units_again symbol_in spell_saved_symbol (MayFollow IsSavedSymbol is_taken)
    (λ before x more may. symbol_again before x more may) o.symbols [] (place + 16) blocks
    (in_turn IsSavedSymbol is_taken o.symbols [] good.each.symbols good.apart) in
    let b = units_again (block_in position) spell_block
    (MayFollow (IsSavedBlock position) live_together)
    (λ before x more may. block_again position before x more low may) o.blocks [] behind []
    (in_turn (IsSavedBlock position) live_together o.blocks [] good.each.blocks good.lone) in
    judged_enough place position part c.long
    ∙ (λ i. with_symbols position (c.second i)
    (symbols_read (c.first i) no_objects (place + 16) (c.behind i)))
    ∙ ap (with_symbols position (length o.blocks)) s
    ∙ ap (λ (xs : List ℕ). with_blocks o.symbols
    (blocks_read position (length o.blocks) no_objects behind xs)) (sym (append-nil blocks))
    ∙ ap (with_blocks o.symbols) b
