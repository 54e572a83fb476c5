-- What is judged good is good, and the bytes are its spelling: accesses, blocks and symbols.
use Rattle.std.proofs.Common.{◌≡◌, ◌≢◌, ℕ, ◌+◌, ◌%◌, ◌^◌, ◌≤◌, ◌<◌, ◌⊎◌, inl, inr, Bool, true}
use Rattle.std.proofs.Common.{false, cond, ◌&&◌, ◌||◌, eqb, eqb-true, ltb}
use Rattle.std.proofs.Common.{leb, List, [], ◌∷◌, ◌++◌, length, get_or, take, drop, All, Option}
use Rattle.std.proofs.Common.{Some, None, Result, Ok, Err, refl, sym, ap}
use Rattle.std.proofs.Common.{subst, ◌∙◌, arith}
use Rattle.std.proofs.lemmas.Bool.{and_parts}
use Rattle.std.proofs.lemmas.Bool.Decides.{nat_tests}
use Rattle.std.proofs.lemmas.List.{drop_more, drop_all, get_or-take, length-drop}
use Rattle.std.proofs.lemmas.List.{take-append-drop}
use Rattle.std.proofs.lemmas.List.Elements.{All-nil, All-cons}
use Rattle.std.specs.Int.{w16, w32, to_le_bytes}
use Rattle.std.specs.List.{list_any}
use Rattle.objects.specs.declared.symbol.SymbolKind.{SymbolKind}
use Rattle.objects.specs.declared.symbol.SymbolKind.TheVariants.{Object, Function}
use Rattle.base.specs.Touch.{Touch, is_access_size}
use Rattle.base.specs.declared.access.Kind.{Kind}
use Rattle.base.specs.declared.access.Kind.TheVariants.{Read, Write}
use Rattle.trace_format.specs.declared.before.Before.{Before}
use Rattle.trace_format.specs.declared.fault.TraceFault.{TraceFault}
use Rattle.trace_format.specs.declared.record.Version.{Version}
use Rattle.trace_format.specs.declared.record.Version.TheVariants.{One, Two, Three, Four}
use Rattle.trace_format.specs.declared.record.TraceRecord.{TraceRecord}
use Rattle.trace_format.specs.declared.record.TraceRecord.TheVariants as records
use Rattle.trace_format.specs.declared.tag.Tag.{Tag}
use Rattle.trace_format.specs.declared.tag.Tag.TheVariants as tags
use Rattle.trace_format.specs.Numbers.{address_at, are_groups, distance, group_count, groups}
use Rattle.trace_format.specs.Numbers.{number_in}
use Rattle.trace_format.specs.Spelling.{kind_number, spell_alloc, spell_free, spell_record}
use Rattle.trace_format.specs.Spelling.{pc_before, spell_short_touch, spell_symbol, spell_touch}
use Rattle.trace_format.specs.Tags.{number_of, other_tag_of, tag_of}
use Rattle.trace_format.specs.Rules.{IsGoodBefore, IsGoodRecord, IsGoodSymbol, IsGoodTouch}
use Rattle.base.specs.Fields.{number_at}
use Rattle.trace_format.specs.Judging.{alloc_at, short_touch_judged, symbol_extent}
use Rattle.trace_format.specs.Judging.{short_touch_extent, sited_touch_extent, sited_touch_judged}
use Rattle.trace_format.specs.Judging.{symbol_kind_of, symbol_with, touch_judged, with_pc}
use Rattle.trace_format.specs.declared.read_so_far.ReadSoFar.{ReadSoFar}
use Rattle.trace_format.specs.Laws.Again.{ComesAt}
use Rattle.trace_format.specs.Laws.Before.{pc_before_low}
use Rattle.trace_format.specs.Laws.Bytes.{IsBytes, IsBytes-drop, IsBytes-take, below_32}
use Rattle.trace_format.specs.Laws.Bytes.{bytes_all, from_part}
use Rattle.trace_format.specs.Laws.Bytes.{last_part, part, spelled_16, spelled_32}
use Rattle.trace_format.specs.Laws.Extents.{front_whole}
use Rattle.trace_format.proofs.FoundShortTouches.{address_below, distance_again, groups_found}

-- ---- tests that a good record passes

pub passed : {A : Type 0} (b : Bool) (fault : TraceFault) (y : Result A TraceFault) (z : A)
    → cond b (Err fault) y ≡ Ok z → (b ≡ false)
    × (y ≡ Ok z)
passed true fault y z e = absurd cc
passed false fault y z e = (refl, e)

pub granted : {A : Type 0} (b : Bool) (fault : TraceFault) (y : Result A TraceFault) (z : A)
    → cond b y (Err fault) ≡ Ok z → (b ≡ true)
    × (y ≡ Ok z)
granted true fault y z e = (refl, e)
granted false fault y z e = absurd cc

pub same_Ok : {A : Type 0} (x y : A) → (let r : Result A TraceFault = Ok x in r ≡ Ok y) → x ≡ y
same_Ok x y e = cc

-- which way a test went
pub chosen : {A : Type 0} (b : Bool) (x y z : A) → cond b x y ≡ z → ((b ≡ true) × (x ≡ z))
    ⊎ ((b ≡ false) × (y ≡ z))
chosen true x y z e = inl (refl, e)
chosen false x y z e = inr (refl, e)

-- ---- tags

abbrev pub TouchIn : Version → Type 0
TouchIn One = Unit {0}
TouchIn _ = ⊥

abbrev pub ShortTouchIn : ℕ → Version → Type 0
ShortTouchIn size Two = is_access_size size ≡ true
ShortTouchIn size _ = ⊥

abbrev pub SitedTouchIn : ℕ → Version → Type 0
SitedTouchIn size Three = is_access_size size ≡ true
SitedTouchIn size Four = is_access_size size ≡ true
SitedTouchIn size _ = ⊥

-- which tags a version has
abbrev pub TagIn : Tag → Version → Type 0
TagIn (tags.Touch kind) v = TouchIn v
TagIn (tags.ShortTouch kind size) v = ShortTouchIn size v
TagIn (tags.SitedTouch kind size) v = SitedTouchIn size v
TagIn tags.Alloc v = Unit {0}
TagIn tags.Free v = Unit {0}
TagIn tags.Symbol v = Unit {0}
TagIn tags.End v = Unit {0}

pub record IsTagAt (v : Version) (n : ℕ) (tag : Tag) : Type 0 where
  pub number : number_of tag ≡ n
  pub fits : TagIn tag v

tried : (v : Version) (n k : ℕ) (t : Tag) (rest : Option Tag) (tag : Tag) → IsTagAt v k t
    → (rest ≡ Some tag → IsTagAt v n tag)
    → cond (eqb n k) (Some t) rest ≡ Some tag → IsTagAt v n tag
tried v n k t rest tag is else e =
    elim (chosen (eqb n k) (Some t) rest (Some tag) e) [
      | inl h ↦
          let same : t ≡ tag = let given = h.1 in cc in
          let at : n ≡ k = eqb-true n k h.0 in
          subst (λ (x : Tag). IsTagAt v n x) same
          (record { number = is.number ∙ sym at; fits = is.fits })
      | inr h ↦ else h.1
    ]

other_found : (v : Version) (n : ℕ) (tag : Tag) → other_tag_of n ≡ Some tag → IsTagAt v n tag
other_found v n tag =
    tried v n 3 tags.Alloc _ tag (record { number = refl; fits = tt })
    (tried v n 4 tags.Free _ tag (record { number = refl; fits = tt })
    (tried v n 5 tags.Symbol _ tag (record { number = refl; fits = tt })
    (tried v n 6 tags.End _ tag (record { number = refl; fits = tt }) (λ none. absurd cc))))

pub tag_found : (v : Version) (n : ℕ) (tag : Tag) → tag_of v n ≡ Some tag → IsTagAt v n tag
tag_found One n tag =
    tried One n 1 (tags.Touch Read) _ tag (record { number = refl; fits = tt })
    (tried One n 2 (tags.Touch Write) _ tag (record { number = refl; fits = tt })
    (other_found One n tag))
tag_found Two n tag =
    tried Two n 17 (tags.ShortTouch Read 1) _ tag (record { number = refl; fits = refl })
    (tried Two n 18 (tags.ShortTouch Read 2) _ tag (record { number = refl; fits = refl })
    (tried Two n 20 (tags.ShortTouch Read 4) _ tag (record { number = refl; fits = refl })
    (tried Two n 33 (tags.ShortTouch Write 1) _ tag (record { number = refl; fits = refl })
    (tried Two n 34 (tags.ShortTouch Write 2) _ tag (record { number = refl; fits = refl })
    (tried Two n 36 (tags.ShortTouch Write 4) _ tag (record { number = refl; fits = refl })
    (other_found Two n tag))))))
tag_found Three n tag =
    tried Three n 17 (tags.SitedTouch Read 1) _ tag (record { number = refl; fits = refl })
    (tried Three n 18 (tags.SitedTouch Read 2) _ tag (record { number = refl; fits = refl })
    (tried Three n 20 (tags.SitedTouch Read 4) _ tag (record { number = refl; fits = refl })
    (tried Three n 33 (tags.SitedTouch Write 1) _ tag (record { number = refl; fits = refl })
    (tried Three n 34 (tags.SitedTouch Write 2) _ tag (record { number = refl; fits = refl })
    (tried Three n 36 (tags.SitedTouch Write 4) _ tag (record { number = refl; fits = refl })
    (other_found Three n tag))))))
tag_found Four n tag =
    tried Four n 17 (tags.SitedTouch Read 1) _ tag (record { number = refl; fits = refl })
    (tried Four n 18 (tags.SitedTouch Read 2) _ tag (record { number = refl; fits = refl })
    (tried Four n 20 (tags.SitedTouch Read 4) _ tag (record { number = refl; fits = refl })
    (tried Four n 33 (tags.SitedTouch Write 1) _ tag (record { number = refl; fits = refl })
    (tried Four n 34 (tags.SitedTouch Write 2) _ tag (record { number = refl; fits = refl })
    (tried Four n 36 (tags.SitedTouch Write 4) _ tag (record { number = refl; fits = refl })
    (other_found Four n tag))))))

-- ---- accesses

pub touch_found : (kind : Kind) (harts place : ℕ) (before : Before) (bytes : List ℕ) (a : Touch)
    → harts ≤ 256
    → length bytes ≡ 8 → IsBytes bytes
    → number_of (tags.Touch kind) ≡ get_or bytes 0 0 → touch_judged kind harts place bytes ≡ Ok a
    → IsGoodTouch harts a × (bytes ≡ spell_touch One before a None)
unfolding touch_judged spell_touch
touch_found kind harts place before bytes a few len is tag e =
    let hart = number_at w16 1 bytes in
    let addr = number_at w32 3 bytes in
    let size = get_or bytes 7 0 in
    let made : Touch = record { hart = hart; addr = addr; kind = kind; size = size } in
    let first = passed (leb harts hart) _ _ a e in
    let second = granted (is_access_size size) _ _ a first.1 in
    let third = granted (eqb (addr % size) 0) _ _ a second.1 in
    let inside : leb harts hart ≡ false = first.0 in
    let below : hart < harts = grind (arith, nat_tests) in
    let good : IsGoodTouch harts made = record {
      hart = below;
      allowed = record {
        hart_in_range = omega arith;
        addr_in_range = below_32 bytes 3 is;
        sized = second.0;
        aligned = eqb-true (addr % size) 0 third.0;
      };
    } in
    let joined : ℕ → List ℕ → List ℕ → List ℕ = λ t h x. t ∷ (h ++ (x ++ size ∷ [])) in
    let parts : bytes ≡ joined (get_or bytes 0 0) (part bytes 1 2) (part bytes 3 4) =
    drop_more bytes 0 0 (omega arith)
    ∙ ap (λ (xs : List ℕ). get_or bytes 0 0 ∷ xs) (from_part bytes 1 2 3 refl
    ∙ ap (λ (xs : List ℕ). part bytes 1 2 ++ xs) (from_part bytes 3 4 7 refl
    ∙ ap (λ (xs : List ℕ). part bytes 3 4 ++ xs) (drop_more bytes 7 0 (omega arith)
    ∙ ap (λ (xs : List ℕ). size ∷ xs) (drop_all 8 bytes (omega arith))))) in
    let s1 = spelled_16 bytes 1 is (omega arith) in
    let s2 = spelled_32 bytes 3 is (omega arith) in
    let spelled : spell_touch One before made None ≡ joined (get_or bytes 0 0) (part bytes 1 2)
    (part bytes 3 4) =
    λ i. joined (tag i) (s1 i) (s2 i) in
    subst (λ (x : Touch). IsGoodTouch harts x × (bytes ≡ spell_touch One before x None))
    (same_Ok made a third.1) (good, parts ∙ sym spelled)

pub short_touch_found : (kind : Kind) (size harts last place : ℕ) (bytes : List ℕ) (a : Touch)
    → harts ≤ 256 → last < 2 ^ 32
    → is_access_size size ≡ true → length bytes ≡ short_touch_extent bytes → IsBytes bytes
    → number_of (tags.ShortTouch kind size) ≡ get_or bytes 0 0
    → short_touch_judged kind size harts last place bytes ≡ Ok a
    → IsGoodTouch harts a × (bytes ≡ spell_short_touch last a)
unfolding short_touch_judged
short_touch_found kind size harts last place bytes a few low sized len is tag e =
    let hart = get_or bytes 1 0 in
    let stated = drop 2 bytes in
    let z = number_in stated in
    let addr = address_at last z in
    let made : Touch = record { hart = hart; addr = addr; kind = kind; size = size } in
    let first = passed (leb harts hart) _ _ a e in
    let second = granted (are_groups stated && eqb (addr % size) 0) _ _ a first.1 in
    let both = and_parts (are_groups stated) (eqb (addr % size) 0) second.0 in
    let inside : leb harts hart ≡ false = first.0 in
    let below : hart < harts = grind (arith, nat_tests) in
    let those = groups_found stated (IsBytes-drop 2 bytes is) (omega (arith, length-drop 2 bytes))
    both.0 in
    let good : IsGoodTouch harts made = record {
      hart = below;
      allowed = record {
        hart_in_range = omega arith;
        addr_in_range = address_below last z;
        sized = sized;
        aligned = eqb-true (addr % size) 0 both.1;
      };
    } in
    let long : 2 ≤ length bytes = omega arith in
    let parts : bytes ≡ get_or bytes 0 0 ∷ hart ∷ stated =
    drop_more bytes 0 0 (omega arith) ∙ ap (λ (xs : List ℕ). get_or bytes 0 0 ∷ xs)
    (drop_more bytes 1 0 (omega arith)) in
    let again : groups (distance last addr)
    ≡ stated = ap groups (distance_again last z low those.small) ∙ those.same in
    let spelled : spell_short_touch last made ≡ get_or bytes 0 0 ∷ hart ∷ stated =
    λ i. tag i ∷ hart ∷ again i in
    subst (λ (x : Touch). IsGoodTouch harts x × (bytes ≡ spell_short_touch last x))
    (same_Ok made a second.1) (good, parts ∙ sym spelled)

-- what an access with a pc was, by its two parts
pub record WasSited (before : Before) (place : ℕ) (stated : List ℕ) (j : Result Touch TraceFault)
    (sited : Touch × Option ℕ) : Type 0 where
  pub touch : Touch
  pub judged : j ≡ Ok touch
  pub groups_good : are_groups stated ≡ true
  pub is : (touch, Some (address_at (pc_before before touch.hart) (number_in stated))) ≡ sited

was_sited : (before : Before) (place : ℕ) (stated : List ℕ) (j : Result Touch TraceFault)
    (sited : Touch × Option ℕ)
    → with_pc before place stated j ≡ Ok sited → WasSited before place stated j sited
was_sited before place stated (Err fault) sited e = absurd cc
was_sited before place stated (Ok a) sited e =
    let g = granted (are_groups stated) _ _ sited e in
    record {
      touch = a;
      judged = refl;
      groups_good = g.0;
      is = same_Ok (a, Some (address_at (pc_before before a.hart) (number_in stated))) sited g.1;
    }

-- an access of version 3: its front is one of version 2, and its pc is behind that
pub record IsSited (harts : ℕ) (before : Before) (bytes : List ℕ) (sited : Touch × Option ℕ)
    : Type 0 where
  pub touch : Touch
  pub pc : ℕ
  pub is : (touch, Some pc) ≡ sited
  pub good : IsGoodTouch harts touch
  pub small : pc < 2 ^ 32
  pub spelled : bytes ≡ spell_touch Three before touch (Some pc)

pub sited_touch_found : (kind : Kind) (size harts : ℕ) (before : Before) (place : ℕ)
    (bytes : List ℕ) (sited : Touch × Option ℕ)
    → harts ≤ 256 → IsGoodBefore before
    → is_access_size size ≡ true → length bytes ≡ sited_touch_extent bytes → IsBytes bytes
    → number_of (tags.SitedTouch kind size) ≡ get_or bytes 0 0
    → sited_touch_judged kind size harts before place bytes ≡ Ok sited
    → IsSited harts before bytes sited
unfolding sited_touch_judged spell_touch
sited_touch_found kind size harts before place bytes sited few low sized len is tag e =
    let n = short_touch_extent bytes in
    let front = take n bytes in
    let stated = drop n bytes in
    let w = was_sited before (place + n) stated
    (short_touch_judged kind size harts before.last place front) sited e in
    let last = pc_before before w.touch.hart in
    let y = number_in stated in
    let count : length stated ≡ group_count stated = omega (arith, length-drop n bytes) in
    let those = groups_found stated (IsBytes-drop n bytes is) count w.groups_good in
    let some : 1 ≤ n = omega arith in
    let le : n ≤ length bytes = omega arith in
    let whole = front_whole bytes n refl some le in
    let tagged : number_of (tags.ShortTouch kind size) ≡ get_or front 0 0 = tag
    ∙ sym (get_or-take n bytes 0 0 some) in
    let first = short_touch_found kind size harts before.last place front w.touch few low.last sized
    whole (IsBytes-take n bytes is) tagged w.judged in
    let again : groups (distance last (address_at last y)) ≡ stated =
    ap groups (distance_again last y (pc_before_low before w.touch.hart low) those.small)
    ∙ those.same in
    record {
      touch = w.touch;
      pc = address_at last y;
      is = w.is;
      good = first.0;
      small = address_below last y;
      spelled = sym (take-append-drop n bytes)
          ∙ ap (λ (xs : List ℕ). xs ++ stated) first.1
          ∙ ap (λ (xs : List ℕ). spell_short_touch before.last w.touch ++ xs) (sym again);
    }

-- ---- blocks

pub alloc_found : (harts : ℕ) (v : Version) (before : Before) (bytes : List ℕ) → length bytes ≡ 25
    → IsBytes bytes
    → number_of tags.Alloc ≡ get_or bytes 0 0
    → IsGoodRecord v harts (alloc_at bytes) × (bytes ≡ spell_record v before (alloc_at bytes))
unfolding alloc_at spell_alloc
alloc_found harts v before bytes len is tag =
    let joined : ℕ → List ℕ → List ℕ → List ℕ → List ℕ → List ℕ → List ℕ → List ℕ =
    λ t x n a b c d. t ∷ (x ++ (n ++ (a ++ (b ++ (c ++ (d ++ [])))))) in
    let parts : bytes ≡ joined (get_or bytes 0 0) (part bytes 1 4) (part bytes 5 4) (part bytes 9 4)
    (part bytes 13 4) (part bytes 17 4)
    (part bytes 21 4) =
    drop_more bytes 0 0 (omega arith) ∙ ap (λ (xs : List ℕ). get_or bytes 0 0 ∷ xs)
    (from_part bytes 1 4 5 refl ∙ ap (λ (xs : List ℕ). part bytes 1 4 ++ xs)
    (from_part bytes 5 4 9 refl
    ∙ ap (λ (xs : List ℕ). part bytes 5 4 ++ xs)
    (from_part bytes 9 4 13 refl ∙ ap (λ (xs : List ℕ). part bytes 9 4 ++ xs)
    (from_part bytes 13 4 17 refl
    ∙ ap (λ (xs : List ℕ). part bytes 13 4 ++ xs)
    (from_part bytes 17 4 21 refl ∙ ap (λ (xs : List ℕ). part bytes 17 4 ++ xs)
    (from_part bytes 21 4 25 refl
    ∙ ap (λ (xs : List ℕ). part bytes 21 4 ++ xs) (drop_all 25 bytes (omega arith)))))))) in
    let s1 = spelled_32 bytes 1 is (omega arith) in
    let s2 = spelled_32 bytes 5 is (omega arith) in
    let s3 = spelled_32 bytes 9 is (omega arith) in
    let s4 = spelled_32 bytes 13 is (omega arith) in
    let s5 = spelled_32 bytes 17 is (omega arith) in
    let s6 = spelled_32 bytes 21 is (omega arith) in
    let spelled : spell_record v before (alloc_at bytes)
    ≡ joined (get_or bytes 0 0) (part bytes 1 4) (part bytes 5 4) (part bytes 9 4) (part bytes 13 4)
    (part bytes 17 4) (part bytes 21 4) =
    λ i. joined (tag i) (s1 i) (s2 i) (s3 i) (s4 i) (s5 i) (s6 i) in
    let P : ℕ → Type 0 = λ s. s < 2 ^ 32 in
    let small : All P (number_at w32 9 bytes ∷ number_at w32 13 bytes ∷ number_at w32 17
    bytes ∷ number_at w32 21 bytes ∷ []) =
    let d : List ℕ = number_at w32 21 bytes ∷ [] in
    let c : List ℕ = number_at w32 17 bytes ∷ d in
    let b : List ℕ = number_at w32 13 bytes ∷ c in
    All-cons P _ b (below_32 bytes 9 is) (All-cons P _ c (below_32 bytes 13 is)
    (All-cons P _ d (below_32 bytes 17 is) (All-cons P _ [] (below_32 bytes 21 is) (All-nil P)))) in
    ((below_32 bytes 1 is, below_32 bytes 5 is, refl, small), parts ∙ sym spelled)

pub free_found : (harts : ℕ) (bytes : List ℕ) → length bytes ≡ 5 → IsBytes bytes
    → number_of tags.Free ≡ get_or bytes 0 0
    → (number_at w32 1 bytes < 2 ^ 32) × (bytes ≡ spell_free (number_at w32 1 bytes))
unfolding spell_free
free_found harts bytes len is tag =
    let parts : bytes ≡ get_or bytes 0 0 ∷ part bytes 1 4 =
    drop_more bytes 0 0 (omega arith) ∙ ap (λ (xs : List ℕ). get_or bytes 0 0 ∷ xs)
    (last_part bytes 1 4 (omega arith)) in
    let s = spelled_32 bytes 1 is (omega arith) in
    let spelled : spell_free (number_at w32 1 bytes) ≡ get_or bytes 0 0 ∷ part bytes 1 4 =
    λ i. tag i ∷ s i in
    (below_32 bytes 1 is, parts ∙ sym spelled)

-- ---- symbols

kind_found : (n : ℕ) (k : SymbolKind) → symbol_kind_of n ≡ Some k → kind_number k ≡ n
kind_found n k e =
    elim (chosen (eqb n 1) (Some Object) (cond (eqb n 2) (Some Function) None) (Some k) e) [
      | inl h ↦ let same : Object ≡ k = let given = h.1 in cc in
          subst (λ (x : SymbolKind). kind_number x ≡ n) same (sym (eqb-true n 1 h.0))
      | inr g ↦ elim (chosen (eqb n 2) (Some Function) None (Some k) g.1) [
        | inl h ↦ let same : Function ≡ k = let given = h.1 in cc in
            subst (λ (x : SymbolKind). kind_number x ≡ n) same (sym (eqb-true n 2 h.0))
        | inr h ↦ let given = h.1 in absurd cc
      ]
    ]

neither : (a b : Bool) → (a || b) ≡ false → (a ≡ false) × (b ≡ false)
neither true b e = absurd cc
neither false b e = (refl, e)

no_zero_found : (name : List ℕ) → list_any (eqb 0) name ≡ false → All (λ b. b ≢ 0) name
no_zero_found [] none = All-nil (λ b. b ≢ 0)
no_zero_found (b ∷ bs) none =
    let both = neither (eqb 0 b) (list_any (eqb 0) bs) none in
    let other : eqb 0 b ≡ false = both.0 in
    All-cons (λ b. b ≢ 0) b bs (λ zero. grind (arith, nat_tests)) (no_zero_found bs both.1)

-- a symbol has as many bytes as it states
long_enough : (bytes : List ℕ) → length bytes ≡ symbol_extent bytes → number_at w16 10 bytes ≤ 1024
    → length bytes ≡ 12 + number_at w16 10 bytes
unfolding symbol_extent
long_enough bytes len short = grind (arith, nat_tests)

pub symbol_found : (v : Version) (harts : ℕ) (before : Before) (place : ℕ) (bytes : List ℕ)
    (item : TraceRecord)
    → length bytes ≡ symbol_extent bytes
    → IsBytes bytes → number_of tags.Symbol ≡ get_or bytes 0 0 → (kind : Option SymbolKind)
    → symbol_kind_of (get_or bytes 1 0) ≡ kind
    → symbol_with place bytes kind ≡ Ok item → (p : ReadSoFar) → IsGoodRecord v harts item
    × (bytes ≡ spell_record v before item)
    × ComesAt p item
unfolding spell_symbol
symbol_found v harts before place bytes item len is tag None known e p = absurd cc
symbol_found v harts before place bytes item len is tag (Some kind) known e p =
    let addr = number_at w32 2 bytes in
    let size = number_at w32 6 bytes in
    let stated = number_at w16 10 bytes in
    let name = drop 12 bytes in
    let first = passed (eqb size 0) _ _ item e in
    let second = passed (ltb 1024 stated) _ _ item first.1 in
    let third = passed (list_any (eqb 0) name) _ _ item second.1 in
    let sized : eqb size 0 ≡ false = first.0 in
    let fits : ltb 1024 stated ≡ false = second.0 in
    let some : 1 ≤ size = grind (arith, nat_tests) in
    let short : stated ≤ 1024 = grind (arith, nat_tests) in
    let long = long_enough bytes len short in
    let as_stated : length name ≡ stated = omega (arith, length-drop 12 bytes) in
    let good : IsGoodSymbol addr size name = record {
      addr_in_range = below_32 bytes 2 is;
      size_in_range = below_32 bytes 6 is;
      some = some;
      short = omega arith;
      bytes = bytes_all name (IsBytes-drop 12 bytes is);
      no_zero = no_zero_found name third.0;
    } in
    let joined : ℕ → ℕ → List ℕ → List ℕ → List ℕ
    → List ℕ = λ t k x n l. t ∷ k ∷ (x ++ (n ++ (l ++ name))) in
    let parts : bytes ≡ joined (get_or bytes 0 0) (get_or bytes 1 0) (part bytes 2 4)
    (part bytes 6 4) (part bytes 10 2) =
    drop_more bytes 0 0 (omega arith) ∙ ap (λ (xs : List ℕ). get_or bytes 0 0 ∷ xs)
    (drop_more bytes 1 0 (omega arith)
    ∙ ap (λ (xs : List ℕ). get_or bytes 1 0 ∷ xs)
    (from_part bytes 2 4 6 refl ∙ ap (λ (xs : List ℕ). part bytes 2 4 ++ xs)
    (from_part bytes 6 4 10 refl ∙ ap (λ (xs : List ℕ). part bytes 6 4 ++ xs)
    (from_part bytes 10 2 12 refl)))) in
    let k = kind_found (get_or bytes 1 0) kind known in
    let s1 = spelled_32 bytes 2 is (omega arith) in
    let s2 = spelled_32 bytes 6 is (omega arith) in
    let s3 : to_le_bytes w16 (length name) ≡ part bytes 10 2 = ap (to_le_bytes w16) as_stated
    ∙ spelled_16 bytes 10 is (omega arith) in
    let spelled : spell_symbol kind addr size name ≡ joined (get_or bytes 0 0) (get_or bytes 1 0)
    (part bytes 2 4) (part bytes 6 4)
    (part bytes 10 2) =
    λ i. joined (tag i) (k i) (s1 i) (s2 i) (s3 i) in
    subst (λ (x : TraceRecord). IsGoodRecord v harts x × (bytes ≡ spell_record v before x)
    × ComesAt p x)
    (same_Ok (records.Symbol kind addr size name) item third.1)
    (good, parts ∙ sym spelled, tt)
