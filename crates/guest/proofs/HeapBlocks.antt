-- The blocks of a heap's list beside its live ones in the order of addresses.
use Rattle.std.proofs.Common.{◌≡◌, ◌≢◌, ℕ, zero, suc, ◌+◌, ◌%◌, ◌<◌, ◌≤◌, Bool, true, false, ◌&&◌}
use Rattle.std.proofs.Common.{not, List, [], max}
use Rattle.std.proofs.Common.{◌∷◌, ◌++◌, length, get_or, map, Option, None, Some, refl, sym, ◌∙◌}
use Rattle.std.proofs.Common.{ap, inl, inr, arith, true≢false}
use Rattle.std.proofs.Common.{length-append, length-set}
use Rattle.std.specs.Prelude.{slice_get, slice_index, slice_set, nat_lt, ◌==◌, IsTrue}
use Rattle.std.specs.Option.{option_map}
use Rattle.std.proofs.lemmas.Bool.{and_from, and_parts, eq-eqb, eqb-true, le-leb, leb-true}
use Rattle.std.proofs.lemmas.Bool.{cases_lt, lt-ltb, ltb-true, not-true}
use Rattle.std.specs.List.{list_any}
use Rattle.std.proofs.Math.Seq.{map-set_same}
use Rattle.std.proofs.lemmas.Bool.Decides.{eqb_tells}
use Rattle.guest.specs.declared.block_tree.LiveBlock.{LiveBlock}
use Rattle.guest.specs.declared.heap.HeapBlock.{HeapBlock}
use Rattle.guest.specs.Heaps.{HasNoPlace, Heap, IsLeastPlace, can_stand, do_meet, lives_at}
use Rattle.guest.specs.Heaps.{most_blocks, rounded}
use Rattle.guest.specs.LiveBlocks.{block_at, filled, first_place, most_free, without}
use Rattle.objects.specs.Indexes.{IsIndex, passes_in}
use Rattle.guest.specs.HeapLayout.{IsLaidOut, bytes_at, number_at, taken_at, taken_by}
use Rattle.objects.specs.Laws.Indexes.{any_passes, index-die, index-push, never, none_passes}
use Rattle.objects.specs.Laws.Indexes.{passes_from, passes_within}
use Rattle.guest.proofs.BlockLaws.{without_none}
use Rattle.guest.proofs.Tiles.{AreClear, IsClear, clear-all, clear-each, filled-new, filled-others}
use Rattle.guest.proofs.Tiles.{none-anywhere, none-before, placed, some-place, tiled-filled, tiled-rise}
use Rattle.guest.proofs.Tiles.{tiled-without, without-gone, without-others}

one_place : (q k : ℕ) (b : HeapBlock) → lives_at q b ≡ true → lives_at k b ≡ true → q ≡ k
one_place q k b h g =
    sym (eqb-true b.addr q (and_parts _ _ h).1) ∙ eqb-true b.addr k (and_parts _ _ g).1

-- the item at a place where a test passes
item_at : (p : HeapBlock → Bool) (xs : List HeapBlock) (i : ℕ) → passes_in p xs i ≡ true
    → (b : HeapBlock) × (slice_get xs i ≡ Some b) ×
    (p b ≡ true)
item_at p [] i h = absurd (true≢false (sym h))
item_at p (x ∷ xs) zero h = (x, refl, h)
item_at p (x ∷ xs) (suc i) h = item_at p xs i h

taken_item : (xs : List HeapBlock) (i : ℕ) (b : HeapBlock) → slice_get xs i ≡ Some b → taken_by xs i
    ≡ rounded b.size
taken_item [] i b e = absurd (no_item e)
  where
    no_item : None ≡ Some b → ⊥
    no_item e = cc
taken_item (x ∷ xs) zero b e =
    (let same : x ≡ b = cc in ap (λ (y : HeapBlock). rounded y.size) same)
taken_item (x ∷ xs) (suc i) b e = taken_item xs i b e

-- where a block can be made
pub record Stands (h : Heap) (g : ℕ → Option ℕ) (size place : ℕ) : Type 0 where
  pub room : length h.blocks < most_blocks
  pub aligned : place % 16 ≡ 0
  pub begins : h.start ≤ place
  pub ends : place + rounded size ≤ h.end
  pub clear : IsClear g place (rounded size)

-- whether a block is in the way of so many bytes from a place on
abbrev pub is_in_way : ℕ → ℕ → HeapBlock → Bool
is_in_way place bytes b = b.live && do_meet place bytes b.addr (rounded b.size)

meeting : (place bytes p m : ℕ) → p < place + bytes → place < p + m → do_meet place bytes p m ≡ true
meeting place bytes p m a b = and_from (nat_lt place (p + m)) (nat_lt p (place + bytes))
    (lt-ltb place (p + m) b) (lt-ltb p (place +
    bytes) a)

clear_if : (f : ℕ → Option ℕ) (xs : List HeapBlock) (place bytes : ℕ) → IsIndex lives_at f xs
    → list_any (is_in_way place bytes) xs ≡ false → IsClear (taken_at f xs) place bytes
clear_if f xs place bytes index none p m live before behind = by_number (f p) refl
  where
    by_number : (o : Option ℕ) → f p ≡ o → ⊥
    by_number None is = (let no : None ≡ Some m = rw is at live in cc)
    by_number (Some i) is =
        let item = item_at (lives_at p) xs i (index.found p i is) in
        let b : HeapBlock = item.0 in
        let here : Some (taken_by xs i) ≡ Some m = rw is at live in
        let bytes_are : rounded b.size ≡ m = sym (taken_item xs i b item.1)
        ∙ (let same : taken_by xs i ≡ m = cc in same) in
        let lives = and_parts _ _ item.2 in
        let at : b.addr ≡ p = eqb-true b.addr p lives.1 in
        let meets : do_meet place bytes b.addr (rounded b.size) ≡ true = rw (at, bytes_are)
        (meeting place bytes p m before behind) in
        let way : is_in_way place bytes b
        ≡ true = and_from b.live (do_meet place bytes b.addr (rounded b.size)) lives.0 meets in
        true≢false (sym (any_passes (is_in_way place bytes) xs i
        (passes_from (is_in_way place bytes) xs i b item.1 way)) ∙ none)

none_if : (f : ℕ → Option ℕ) (xs : List HeapBlock) (place bytes : ℕ) → IsIndex lives_at f xs
    → IsClear (taken_at f xs) place bytes → list_any (is_in_way place bytes) xs ≡ false
none_if f xs place bytes index clear = none_passes (is_in_way place bytes) xs
    (λ i. never (passes_in (is_in_way place bytes) xs i)
    (no_way i))
  where
    no_way : (i : ℕ) → passes_in (is_in_way place bytes) xs i ≡ true → ⊥
    no_way i h =
        let item = item_at (is_in_way place bytes) xs i h in
        let b : HeapBlock = item.0 in
        let parts = and_parts _ _ item.2 in
        let meets = and_parts _ _ parts.1 in
        let lives : lives_at b.addr b ≡ true = and_from b.live (b.addr == b.addr) parts.0
        (eq-eqb b.addr b.addr refl) in
        let found : f b.addr ≡ Some i = index.has b.addr i
        (passes_from (lives_at b.addr) xs i b item.1 lives) in
        clear b.addr (rounded b.size) (rw found (ap Some (taken_item xs i b item.1)))
        (ltb-true b.addr (place + bytes) meets.1)
        (ltb-true place (b.addr + rounded b.size) meets.0)

pub stands_if : (h : Heap) (f : ℕ → Option ℕ) (size place : ℕ) → IsIndex lives_at f h.blocks
    → can_stand h size place ≡ true
    → Stands h (taken_at f h.blocks) size place
stands_if h f size place index can =
    let four = and_parts _ _ can in
    let three = and_parts _ _ four.0 in
    let two = and_parts _ _ three.0 in
    let one = and_parts _ _ two.0 in
    record {
      room = ltb-true (length h.blocks) most_blocks one.0;
      aligned = eqb-true (place % 16) 0 one.1;
      begins = leb-true h.start place two.1;
      ends = leb-true (place + rounded size) h.end three.1;
      clear = clear_if f h.blocks place (rounded size) index (not-true _ four.1);
    }

pub can_if : (h : Heap) (f : ℕ → Option ℕ) (size place : ℕ) → IsIndex lives_at f h.blocks
    → Stands h (taken_at f h.blocks) size place
    → can_stand h size place ≡ true
can_if h f size place index stands =
    and_from _ _ (and_from _ _ (and_from _ _ (and_from _ _
    (lt-ltb (length h.blocks) most_blocks stands.room)
    (eq-eqb (place % 16) 0 stands.aligned))
    (le-leb h.start place stands.begins))
    (le-leb (place + rounded size) h.end stands.ends))
    (ap not (none_if f h.blocks place (rounded size) index stands.clear))

pub rounded_positive : (size : ℕ) → 16 ≤ rounded size
rounded_positive size = omega arith

pub rounded_aligned : (size : ℕ) → rounded size % 16 ≡ 0
rounded_aligned size = omega arith

-- where there is a place, and where there is none
module _ (h : Heap) (gap size : ℕ) (live : List LiveBlock)
    (laid : IsLaidOut h.start gap h.end live h.blocks) where
  all-clear : (q : ℕ) → IsClear (taken_at (number_at live) h.blocks) q (rounded size)
      → AreClear q (rounded size) live
  all-clear q clear = clear-all q (rounded size) live (tiled-rise h.start gap h.end live laid.tiled)
      (λ p m is. clear p m (sym (laid.bytes p) ∙ is))

  pub least : (place : ℕ) → length h.blocks < most_blocks
      → first_place (rounded size) h.start gap live ≡ Some place → IsLeastPlace h size place
  least place room is = (can_if h (number_at live) size place laid.index stands, at_least)
    where
      stands : Stands h (taken_at (number_at live) h.blocks) size place
      stands = (let p = placed (rounded size) h.start gap h.end place live (rounded_positive size)
          laid.tiled is in
          record {
            room = room;
            aligned = p.aligned;
            begins = p.begins;
            ends = p.ends;
            clear = λ q m at. clear-each place (rounded size) live p.clear q m (laid.bytes q ∙ at);
          })

      at_least : (q : ℕ) → IsTrue (can_stand h size q) → place ≤ q
      at_least q can = (let s = stands_if h (number_at live) size q laid.index can in
          none-before (rounded size) h.start gap h.end place q live (rounded_positive size)
          laid.tiled is s.begins s.ends (all-clear q s.clear))

  pub roomy : length h.blocks < most_blocks → rounded size ≤ max gap (most_free live)
      → HasNoPlace h size → ⊥
  roomy room held none =
      (let p = some-place (rounded size) h.start gap live held in
      let stands = (least p.0 room p.1).0 in
      true≢false (sym stands ∙ none p.0))

  pub nowhere : max gap (most_free live) < rounded size → HasNoPlace h size
  nowhere short q = never (can_stand h size q) (λ can.
      (let s = stands_if h (number_at live) size q laid.index can in
      none-anywhere (rounded size) h.start gap h.end q live laid.tiled short s.begins s.ends
      (all-clear q s.clear)))

-- whether there is room for one block more
pub has_room : (n : ℕ) → (most_blocks ≤ n → false ≡ true) → n < most_blocks
has_room n spent = elim (cases_lt n most_blocks) [
  | inl less ↦ less
  | inr more ↦ absurd (true≢false (sym (spent more)))
]

size_early : (xs : List HeapBlock) (b : HeapBlock) (i : ℕ) → i < length xs
    → slice_index (map (λ b. b.size) (xs ++ b ∷ [])) i ≡ slice_index (map (λ b. b.size) xs) i
size_early [] b i h = absurd (omega arith)
size_early (x ∷ xs) b zero h = refl
size_early (x ∷ xs) b (suc i) h = size_early xs b i (omega arith)

size_last : (xs : List HeapBlock) (b : HeapBlock) → slice_index (map (λ b. b.size) (xs ++ b ∷ []))
    (length xs) ≡ b.size
size_last [] b = refl
size_last (x ∷ xs) b = size_last xs b

abbrev pub made_block : ℕ → ℕ → HeapBlock
made_block place size = record { addr = place; size = size; live = true }

module _ (h : Heap) (gap size number place : ℕ) (live : List LiveBlock)
    (laid : IsLaidOut h.start gap h.end live h.blocks) (room : length h.blocks < most_blocks)
    (is : first_place (rounded size) h.start gap live ≡ Some place)
    (numbered : number ≡ length h.blocks) where
  abbrev after : List LiveBlock
  after = (filled (rounded size) number h.start gap live).1

  abbrev blocks : List HeapBlock
  blocks = h.blocks ++ made_block place size ∷ []

  pub made-laid : IsLaidOut h.start (filled (rounded size) number h.start gap live).0 h.end
      (filled (rounded size) number h.start gap live).1 (h.blocks ++ made_block place size ∷ [])
  made-laid = record {
    few = omega (arith, length-append h.blocks (made_block place size ∷ []), room);
    tiled = tiled-filled (rounded size) number h.start gap h.end live (rounded_aligned size)
        (rounded_positive size) laid.tiled;
    index = index-push lives_at (number_at live) (number_at after) h.blocks place
        (made_block place size) (λ q e. sym (eqb-true place q e)) (eq-eqb place place refl)
        (ap (option_map (λ b. b.number)) fresh) new others laid.index;
    bytes = taken;
  }
    where
      fresh : block_at place live ≡ None
      fresh = (placed (rounded size) h.start gap h.end place live (rounded_positive size)
          laid.tiled is).fresh

      new_block : (g : ℕ) × (block_at place after
          ≡ Some (record { addr = place; bytes = rounded size; number = number; gap = g }))
      new_block = filled-new (rounded size) number h.start gap h.end place live
          (rounded_positive size) laid.tiled is

      new : number_at after place ≡ Some (length h.blocks)
      new = ap (option_map (λ b. b.number)) new_block.1 ∙ ap Some numbered

      others : (q : ℕ) → q ≢ place → number_at after q ≡ number_at live q
      others q apart = filled-others (λ b. b.number) (λ b g. refl) (rounded size) number h.start gap
          h.end place q live apart is

      others_bytes : (q : ℕ) → q ≢ place → bytes_at after q ≡ bytes_at live q
      others_bytes q apart = filled-others (λ b. b.bytes) (λ b g. refl) (rounded size) number h.start
          gap h.end place q live apart is

      kept : (q : ℕ) (o : Option ℕ) → number_at live q ≡ o
          → option_map (taken_by blocks) (number_at live q) ≡ taken_at (number_at live) h.blocks q
      kept q None e = rw e refl
      kept q (Some i) e = rw e (ap Some (ap rounded
          (size_early h.blocks (made_block place size) i
          (passes_within (lives_at q) h.blocks i (laid.index.found q i e)))))

      taken : (q : ℕ) → bytes_at after q ≡ taken_at (number_at after) blocks q
      taken q = elim (eqb_tells q place) [
        | inl same ↦ rw same.1 (ap (option_map (λ b. b.bytes)) new_block.1
            ∙ sym (ap (option_map (taken_by blocks)) new
            ∙ ap Some (ap rounded (size_last h.blocks (made_block place size)))))
        | inr apart ↦ others_bytes q apart.1 ∙ (laid.bytes q
            ∙ sym (ap (option_map (taken_by blocks)) (others q apart.1) ∙ kept q (number_at live q) refl))
      ]

-- sizes stay where a block dies
taken-set : (xs : List HeapBlock) (n i : ℕ) (x y d : HeapBlock) → x ≡ get_or xs n d → y.size
    ≡ x.size → taken_by (slice_set xs n y) i ≡
    taken_by xs i
taken-set xs n i x y d at same =
    ap (λ sizes. rounded (slice_index sizes i))
    (map-set_same (λ (b : HeapBlock). b.size) xs n y d (same ∙ ap (λ (b : HeapBlock). b.size)
    at))

module _ (h : Heap) (gap addr n : ℕ) (live : List LiveBlock) (x y : HeapBlock)
    (laid : IsLaidOut h.start gap h.end live h.blocks) where
  pub died-laid : number_at live addr ≡ Some n → x ≡ get_or h.blocks n x → y.size ≡ x.size
      → ((q : ℕ) → lives_at q y ≡ false)
      → IsLaidOut h.start (without addr gap live).0 h.end (without addr gap live).1
      (slice_set h.blocks n y)
  died-laid was at same dead = record {
    few = rw (length-set h.blocks n y) laid.few;
    tiled = tiled-without addr h.start gap h.end live laid.tiled;
    index = index-die lives_at (number_at live) (number_at (without addr gap live).1) h.blocks addr n y one_place dead was
        gone others laid.index;
    bytes = taken;
  }
    where
      gone_block : block_at addr (without addr gap live).1 ≡ None
      gone_block = without-gone addr gap live (tiled-rise h.start gap h.end live laid.tiled)

      gone : number_at (without addr gap live).1 addr ≡ None
      gone = ap (option_map (λ b. b.number)) gone_block

      others : (q : ℕ) → q ≢ addr → number_at (without addr gap live).1 q ≡ number_at live q
      others q apart = without-others (λ b. b.number) (λ b g. refl) addr gap q live apart

      others_bytes : (q : ℕ) → q ≢ addr → bytes_at (without addr gap live).1 q ≡ bytes_at live q
      others_bytes q apart = without-others (λ b. b.bytes) (λ b g. refl) addr gap q live apart

      by_number : (o : Option ℕ) → option_map (taken_by (slice_set h.blocks n y)) o
          ≡ option_map (taken_by h.blocks) o
      by_number None = refl
      by_number (Some i) = ap Some (taken-set h.blocks n i x y x at same)

      taken : (q : ℕ) → bytes_at (without addr gap live).1 q ≡ taken_at (number_at (without addr gap live).1) (slice_set h.blocks n y) q
      taken q = elim (eqb_tells q addr) [
        | inl here ↦ rw here.1 (ap (option_map (λ b. b.bytes)) gone_block
            ∙ sym (ap (option_map (taken_by (slice_set h.blocks n y))) gone))
        | inr apart ↦ others_bytes q apart.1 ∙ (laid.bytes q
            ∙ sym (ap (option_map (taken_by (slice_set h.blocks n y))) (others q apart.1)
            ∙ by_number (number_at live q)))
      ]

-- where no block begins at an address, none dies
pub kept-laid : (start gap end addr : ℕ) (live : List LiveBlock) (blocks : List HeapBlock)
    → IsLaidOut start gap end live blocks → number_at live addr ≡ None
    → IsLaidOut start (without addr gap live).0 end (without addr gap live).1 blocks
kept-laid start gap end addr live blocks laid none =
    rw (without_none addr gap live (no_block (block_at addr live) refl)) laid
  where
    no_block : (o : Option LiveBlock) → block_at addr live ≡ o → block_at addr live ≡ None
    no_block None e = e
    no_block (Some b) e = (let no : Some b.number ≡ None = rw e at none in cc)

pub other_heap_blocks : (start end : ℕ) (a b : List HeapBlock) → a ≡ b
    → let x : Heap = record { start = start; end = end; blocks = a } in x
    ≡ record { start = start; end = end; blocks = b }
other_heap_blocks start end a b e =
    ap (λ bs. (let x : Heap = record { start = start; end = end; blocks = bs } in x)) e
