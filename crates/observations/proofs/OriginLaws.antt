-- The objects of a list came of its records, and no two blocks of it live at one address.
use Rattle.std.proofs.Common.{◌≡◌, ℕ, zero, suc, ◌+◌, ◌≤◌, Bool, true, false, ◌&&◌, List, [], ◌∷◌}
use Rattle.std.proofs.Common.{◌++◌, All, length, get_or, map, Some}
use Rattle.std.proofs.Common.{refl, sym, ap, ◌∙◌, subst, arith}
use Rattle.std.specs.Prelude.{if◌then◌else◌, is_none}
use Rattle.std.specs.List.{AllPairs, Contains}
use Rattle.std.proofs.Math.Bool.{and-false}
use Rattle.std.proofs.lemmas.List.{length-append}
use Rattle.std.proofs.lemmas.List.Elements.{All-append, All-cons, All-contains_itself, All-head}
use Rattle.std.proofs.lemmas.List.Elements.{All-map, All-nil, All-tail}
use Rattle.std.proofs.lemmas.List.Elements.{All-weaker, Contains-append_left, Contains-push}
use Rattle.std.proofs.lemmas.List.Elements.{filter_map-append}
use Rattle.std.proofs.lemmas.List.Kept.{AllPairs-cons}
use Rattle.std.proofs.lemmas.List.Quantifiers.{all_pairs_push}
use Rattle.std.proofs.lemmas.Option.{IfSome_then}
use Rattle.objects.specs.declared.block.Block.{Block}
use Rattle.objects.specs.Blocks.{NoTwoLive, blocks_after_free, is_live_at, live_together, newborn}
use Rattle.objects.specs.Objects.{Objects}
use Rattle.objects.specs.Symbols.{kept_symbol}
use Rattle.objects.specs.Laws.Symbols.{All-symbols_of, symbols_of-fewer}
use Rattle.trace_format.specs.Reading.{counted_after}
use Rattle.trace_format.specs.Rules.{touch_in, touches_in}
use Rattle.trace_format.specs.declared.record.TraceRecord.{TraceRecord}
use Rattle.trace_format.specs.declared.record.TraceRecord.TheVariants as records
use Rattle.trace_passes.specs.Laws.Lives.{blocks_behind-push, ended, position_after}
use Rattle.trace_passes.specs.Lives.{ends_at, made_by, made_in, objects_of, symbols_in}
use Rattle.observations.specs.Origins.{IsBlockOf, IsSymbolOf}
use Rattle.trace_passes.specs.Lives.{objects_noted}
use Rattle.trace_passes.specs.Laws.Noting.{blocks_noted}
use Rattle.sharing_rules.specs.Laws.Lists.{by_push}

-- ---- no two blocks live at one address

all_pairs_map : {X : Type 0} (R : X → X → Type 0) (f : X → X) → ((a b : X) → R a b → R (f a) (f b))
    → (xs : List X) → AllPairs R xs → AllPairs R (map f xs)
all_pairs_map R f keeps [] each = each
all_pairs_map R f keeps (x ∷ xs) each =
    AllPairs-cons R (f x) (map f xs)
    (All-map (R (f x)) f xs (λ k d within. keeps x (get_or xs k d)
    (each zero (suc k) d (omega arith) (omega arith))))
    (all_pairs_map R f keeps xs (λ i j d before within. each (suc i) (suc j) d (omega arith)
    (omega arith)))

abbrev Apart : Block → Block → Type 0
Apart a b = live_together a b ≡ false

-- whichever of two blocks dies
apart_still : (q : ℕ) (c d : Bool) (a b : Block) → Apart a b
    → Apart (if c then record a { died = Some q } else a)
    (if d then record b { died = Some q } else b)
apart_still q true d a b apart = and-false (is_none
    (if d then record b { died = Some q } else b).died)
apart_still q false true a b apart = refl
apart_still q false false a b apart = apart

lone_free : (bs : List Block) (q addr : ℕ) → NoTwoLive bs → NoTwoLive (blocks_after_free bs q addr)
lone_free bs q addr lone =
    all_pairs_map Apart (λ b. if is_live_at addr b then record b { died = Some q } else b)
    (λ a b apart. apart_still q (is_live_at addr a) (is_live_at addr b) a b apart) bs lone

-- none lives where one was freed
gone : (q addr : ℕ) (b : Block) (here : Bool) → is_live_at addr b ≡ here
    → is_live_at addr (if here then record b { died = Some q } else b) ≡ false
gone q addr b true is = refl
gone q addr b false is = is

none_there : (bs : List Block) (q addr : ℕ) → All (λ b. is_live_at addr b ≡ false)
    (blocks_after_free bs q addr)
none_there bs q addr =
    All-map (λ b. is_live_at addr b ≡ false) (λ b. if is_live_at addr b
    then record b { died = Some q } else b) bs
    (λ k d within. gone q addr (get_or bs k d) (is_live_at addr (get_or bs k d)) refl)

lone_noted : (o : Objects) (x : TraceRecord) (q : ℕ) → NoTwoLive o.blocks
    → NoTwoLive (objects_noted o x q).blocks
lone_noted o (records.Touch a pc) q lone = lone
lone_noted o (records.Alloc addr size sites) q lone =
    all_pairs_push Apart (blocks_after_free o.blocks q addr) (newborn q addr size sites)
    (lone_free o.blocks q addr lone)
    (λ k d within. none_there o.blocks q addr k d within)
lone_noted o (records.Free addr) q lone = lone_free o.blocks q addr lone
lone_noted o (records.Symbol kind addr size name) q lone = lone
lone_noted o (records.End e) q lone = lone

pub lone_list : (items : List TraceRecord) → NoTwoLive (objects_of items).blocks
lone_list items = by_push (λ done. NoTwoLive (objects_of done).blocks)
    (λ i j d before within. absurd (omega arith)) one_more items
  where
    one_more : (done : List TraceRecord) (x : TraceRecord) → NoTwoLive (objects_of done).blocks
        → NoTwoLive (objects_of (done ++ x ∷ [])).blocks
    one_more done x lone =
        let q : ℕ = position_after 0 done in
        subst NoTwoLive (sym (blocks_behind-push [] 0 done x ∙ blocks_noted (objects_of done) q x))
        (lone_noted (objects_of done) x q lone)

-- ---- each block was made by a record

module _ (done : List TraceRecord) (x : TraceRecord) where
  abbrev all : List TraceRecord
  all = done ++ x ∷ []

  longer : length (touches_in done) ≤ length (touches_in all)
  longer =
      let both : length (touches_in all) ≡ length (touches_in done) + length (touches_in (x ∷ [])) =
      ap length (filter_map-append touch_in done (x ∷ []))
      ∙ length-append (touches_in done) (touches_in (x ∷ [])) in
      omega (arith, both)

  -- one more record may end its life
  block_on : (b : Block) (here : Bool) → IsBlockOf done b
      → IsBlockOf all (if here then record b { died = Some (position_after 0 done) } else b)
  block_on b true was = record {
    made = Contains-append_left done (x ∷ []) (records.Alloc b.addr b.size b.sites) was.made;
    born = omega (arith, was.born, longer);
    died = (omega (arith, was.born), omega (arith, longer));
  }
  block_on b false was = record {
    made = Contains-append_left done (x ∷ []) (records.Alloc b.addr b.size b.sites) was.made;
    born = omega (arith, was.born, longer);
    died = IfSome_then b.died {P = λ d. (b.born ≤ d) × (d ≤ length (touches_in done))}
        {Q = λ d. (b.born ≤ d) × (d ≤ length (touches_in all))} was.died
        (λ d life. (life.0, omega (arith, life.1, longer)));
  }

blocks_made : (done : List TraceRecord) (x : TraceRecord)
    → All (IsBlockOf (done ++ x ∷ [])) (made_by (position_after 0 done) x [])
blocks_made done (records.Touch a pc) = All-nil (IsBlockOf (done ++ records.Touch a pc ∷ []))
blocks_made done (records.Alloc addr size sites) =
    let x : TraceRecord = records.Alloc addr size sites in
    let q : ℕ = position_after 0 done in
    let one : IsBlockOf (done ++ x ∷ []) (newborn q addr size sites) = record {
      made = Contains-push done x;
      born = omega (arith, longer done x);
      died = tt;
    } in
    All-cons (IsBlockOf (done ++ x ∷ [])) (newborn q addr size sites) [] one
    (All-nil (IsBlockOf (done ++ x ∷ [])))
blocks_made done (records.Free addr) = All-nil (IsBlockOf (done ++ records.Free addr ∷ []))
blocks_made done (records.Symbol kind addr size name) =
    All-nil (IsBlockOf (done ++ records.Symbol kind addr size name ∷ []))
blocks_made done (records.End e) = All-nil (IsBlockOf (done ++ records.End e ∷ []))

pub blocks_of_list : (items : List TraceRecord) → All (IsBlockOf items) (objects_of items).blocks
blocks_of_list items = by_push (λ done. All (IsBlockOf done) (objects_of done).blocks)
    (All-nil (IsBlockOf [])) one_more items
  where
    one_more : (done : List TraceRecord) (x : TraceRecord)
        → All (IsBlockOf done) (objects_of done).blocks
        → All (IsBlockOf (done ++ x ∷ [])) (objects_of (done ++ x ∷ [])).blocks
    one_more done x each =
        let P : Block → Type 0 = IsBlockOf (done ++ x ∷ []) in
        let q : ℕ = position_after 0 done in
        let old : List Block = (objects_of done).blocks in
        subst (All P) (sym (blocks_behind-push [] 0 done x))
        (All-append P (map (ended q x) old) (made_by q x [])
        (All-map P (ended q x) old (All-weaker (IsBlockOf done) (λ b. P (ended q x b))
        (λ b was. block_on done x b (is_none b.died && ends_at b.addr x) was) old each))
        (blocks_made done x))

-- ---- each symbol comes from a record

symbols_recorded : (all items : List TraceRecord) → All (Contains all) items
    → All (IsSymbolOf all) (symbols_in items)
symbols_recorded all [] each = All-nil (IsSymbolOf all)
symbols_recorded all (records.Touch a pc ∷ items) each =
    symbols_recorded all items (All-tail (Contains all) (records.Touch a pc) items each)
symbols_recorded all (records.Alloc addr size sites ∷ items) each =
    symbols_recorded all items (All-tail (Contains all) (records.Alloc addr size sites) items each)
symbols_recorded all (records.Free addr ∷ items) each =
    symbols_recorded all items (All-tail (Contains all) (records.Free addr) items each)
symbols_recorded all (records.Symbol kind addr size name ∷ items) each =
    let x : TraceRecord = records.Symbol kind addr size name in
    All-cons (IsSymbolOf all) (kept_symbol kind addr size name) (symbols_in items)
    (record { recorded_name = name; stated = All-head (Contains all) x items each; name = refl })
    (symbols_recorded all items (All-tail (Contains all) x items each))
symbols_recorded all (records.End e ∷ items) each =
    symbols_recorded all items (All-tail (Contains all) (records.End e) items each)

pub symbols_of_list : (items : List TraceRecord) → All (IsSymbolOf items) (objects_of items).symbols
symbols_of_list items =
    All-symbols_of (IsSymbolOf items) (symbols_in items)
    (symbols_recorded items items (All-contains_itself items))

-- ---- there are no more of either than records

fewer_symbols : (items : List TraceRecord) → length (symbols_in items) ≤ length items
fewer_symbols [] = omega arith
fewer_symbols (records.Touch a pc ∷ items) = omega (arith, fewer_symbols items)
fewer_symbols (records.Alloc addr size sites ∷ items) = omega (arith, fewer_symbols items)
fewer_symbols (records.Free addr ∷ items) = omega (arith, fewer_symbols items)
fewer_symbols (records.Symbol kind addr size name ∷ items) = omega (arith, fewer_symbols items)
fewer_symbols (records.End e ∷ items) = omega (arith, fewer_symbols items)

pub few_symbols : (items : List TraceRecord) → length (objects_of items).symbols ≤ length items
few_symbols items = omega (arith, symbols_of-fewer (symbols_in items), fewer_symbols items)

one_at_most : (p : ℕ) (x : TraceRecord) (later : List TraceRecord) → length (made_by p x later) ≤ 1
one_at_most p (records.Touch a pc) later = omega arith
one_at_most p (records.Alloc addr size sites) later = omega arith
one_at_most p (records.Free addr) later = omega arith
one_at_most p (records.Symbol kind addr size name) later = omega arith
one_at_most p (records.End e) later = omega arith

fewer_blocks : (p : ℕ) (items : List TraceRecord) → length (made_in p items) ≤ length items
fewer_blocks p [] = omega arith
fewer_blocks p (x ∷ items) =
    let q : ℕ = counted_after p x in
    omega (
      arith,
      length-append (made_by p x items)
          (made_in q items),
      one_at_most p x items,
      fewer_blocks q items,
    )

pub few_blocks : (items : List TraceRecord) → length (objects_of items).blocks ≤ length items
few_blocks items = fewer_blocks 0 items
