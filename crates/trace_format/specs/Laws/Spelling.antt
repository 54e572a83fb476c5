-- What good parts spell is judged once it is whole, and says those parts again.
use Rattle.std.proofs.Common.{◌≡◌, ℕ, ◌+◌, ◌*◌, ◌^◌, ◌≤◌, ◌<◌, true, false, ltb, List, [], ◌∷◌}
use Rattle.std.proofs.Common.{◌++◌, length, drop, Option, Some, refl, sym, ap, ◌∙◌, arith}
use Rattle.std.proofs.lemmas.List.{length-append}
use Rattle.std.proofs.Math.Seq.{drop-append_seam}
use Rattle.std.proofs.lemmas.Bool.Decides.{nat_tests}
use Rattle.std.proofs.lemmas.Nat.{from_le_bytes-to_le_bytes_2}
use Rattle.std.specs.List.{flat_map}
use Rattle.std.specs.Int.{w32, to_le_bytes}
use Rattle.objects.specs.declared.symbol.SymbolKind.{SymbolKind}
use Rattle.base.specs.Touch.{Touch, is_access_size}
use Rattle.base.specs.declared.access.Kind.{Kind}
use Rattle.base.specs.declared.access.Kind.TheVariants.{Read, Write}
use Rattle.base.specs.declared.ending.Outcome.{Outcome}
use Rattle.trace_format.specs.declared.before.Before.{Before}
use Rattle.trace_format.specs.declared.record.Version.{Version}
use Rattle.trace_format.specs.declared.record.Version.TheVariants.{One, Two, Three, Four}
use Rattle.trace_format.specs.declared.record.TraceRecord.{TraceRecord}
use Rattle.trace_format.specs.declared.record.TraceRecord.TheVariants as records
use Rattle.trace_format.specs.declared.tag.Tag.TheVariants as tags
use Rattle.trace_format.specs.Tags.{half_of, tag_of}
use Rattle.trace_format.specs.Numbers.{address_at, are_groups, distance, group_count, groups}
use Rattle.trace_format.specs.Numbers.{number_in}
use Rattle.trace_format.specs.Spelling.{spell_alloc, spell_ending, spell_free, spell_record}
use Rattle.trace_format.specs.Spelling.{pc_before, pc_or_zero, spell_symbol, spell_touch}
use Rattle.trace_format.specs.Rules.{IsGoodRecord}
use Rattle.trace_format.specs.Judging.{record_extent, short_touch_extent, sited_touch_extent}
use Rattle.trace_format.specs.Judging.{end_extent, symbol_extent}
use Rattle.trace_format.specs.Laws.Ends.{ending_length}

pub short_touch_tag : (kind : Kind) (size : ℕ) → is_access_size size ≡ true
    → tag_of Two (16 * half_of kind + size) ≡ Some (tags.ShortTouch kind size)
short_touch_tag Read size sized = grind (arith, nat_tests)
short_touch_tag Write size sized = grind (arith, nat_tests)

pub sited_touch_tag : (kind : Kind) (size : ℕ) → is_access_size size ≡ true
    → tag_of Three (16 * half_of kind + size) ≡ Some (tags.SitedTouch kind size)
sited_touch_tag Read size sized = grind (arith, nat_tests)
sited_touch_tag Write size sized = grind (arith, nat_tests)

pub filtered_touch_tag : (kind : Kind) (size : ℕ) → is_access_size size ≡ true
    → tag_of Four (16 * half_of kind + size) ≡ Some (tags.SitedTouch kind size)
filtered_touch_tag kind size sized = sited_touch_tag kind size sized

pub touch_tag : (kind : Kind) → tag_of One (half_of kind) ≡ Some (tags.Touch kind)
touch_tag Read = refl
touch_tag Write = refl

pub distance_small : (last addr : ℕ) → distance last addr < 2 ^ 32
distance_small last addr = grind (arith, nat_tests)

-- the groups of a number are as many as they say
groups_whole : (z : ℕ) → z < 2 ^ 32 → group_count (groups z) ≡ length (groups z)
groups_whole z small = grind (arith, nat_tests)

-- groups end where more bytes follow
count_before : (xs ys : List ℕ) → group_count xs ≡ length xs → group_count (xs ++ ys) ≡ length xs
count_before [] ys is = absurd (grind (arith, nat_tests))
count_before (a ∷ []) ys is = grind (arith, nat_tests)
count_before (a ∷ b ∷ []) ys is = grind (arith, nat_tests)
count_before (a ∷ b ∷ c ∷ []) ys is = grind (arith, nat_tests)
count_before (a ∷ b ∷ c ∷ d ∷ []) ys is = grind (arith, nat_tests)
count_before (a ∷ b ∷ c ∷ d ∷ e ∷ []) ys is = is
count_before (a ∷ b ∷ c ∷ d ∷ e ∷ f ∷ rest) ys is = absurd (grind (arith, nat_tests))

-- two numbers one after the other
pub record AreNumbers (front stated : List ℕ) (y : ℕ) : Type 0 where
  pub first : short_touch_extent (front ++ stated) ≡ length front
  pub second : group_count stated ≡ length stated

pub numbers_stated : (tag hart z y : ℕ) → z < 2 ^ 32 → y < 2 ^ 32
    → AreNumbers (tag ∷ hart ∷ groups z) (groups y) y
numbers_stated tag hart z y low small = record {
  first = ap (λ (n : ℕ). 2 + n) (count_before (groups z) (groups y) (groups_whole z low))
      ∙ omega arith;
  second = groups_whole y small;
}

sites_length : (sites : List ℕ) → length sites ≡ 4
    → length (flat_map (to_le_bytes w32) sites) ≡ 16
sites_length (a ∷ b ∷ c ∷ d ∷ []) four = refl
sites_length [] four = absurd (omega arith)
sites_length (a ∷ []) four = absurd (omega arith)
sites_length (a ∷ b ∷ []) four = absurd (omega arith)
sites_length (a ∷ b ∷ c ∷ []) four = absurd (omega arith)
sites_length (a ∷ b ∷ c ∷ d ∷ e ∷ rest) four = absurd (omega arith)

ending_extent : (v : Version) (o : Outcome) (steps accesses : ℕ) (whole : Option ℕ)
    → record_extent v (spell_ending v (record {
      outcome = o;
      steps = steps;
      accesses = accesses;
      whole = whole;
    })) ≡ end_extent v
unfolding record_extent spell_ending
ending_extent One o steps accesses whole = refl
ending_extent Two o steps accesses whole = refl
ending_extent Three o steps accesses whole = refl
ending_extent Four o steps accesses whole = refl

sited_extent : (front stated : List ℕ) (y : ℕ) → AreNumbers front stated y
    → sited_touch_extent (front ++ stated) ≡ length (front ++ stated)
sited_extent front stated y are =
    let bytes = front ++ stated in
    ap (λ (n : ℕ). n + group_count (drop n bytes)) are.first
    ∙ ap (λ (xs : List ℕ). length front + group_count xs) (drop-append_seam front stated)
    ∙ ap (λ (n : ℕ). length front + n) are.second
    ∙ sym (length-append front stated)

touch_whole : (v : Version) (before : Before) (a : Touch) (pc : Option ℕ)
    → is_access_size a.size ≡ true
    → record_extent v (spell_touch v before a pc) ≡ length (spell_touch v before a pc)
unfolding record_extent spell_touch
touch_whole One before a pc sized = rw (touch_tag a.kind) refl
touch_whole Two before a pc sized =
    rw (short_touch_tag a.kind a.size sized) (ap (λ (n : ℕ). 2 + n)
    (groups_whole (distance before.last a.addr) (distance_small before.last a.addr))
    ∙ omega arith)
touch_whole Three before a pc sized =
    let z = distance before.last a.addr in
    let y = distance (pc_before before a.hart) (pc_or_zero pc) in
    rw (sited_touch_tag a.kind a.size sized) (sited_extent _ _ y
    (numbers_stated _ a.hart z y (distance_small before.last a.addr)
    (distance_small (pc_before before a.hart) (pc_or_zero pc))))
touch_whole Four before a pc sized =
    let z = distance before.last a.addr in
    let y = distance (pc_before before a.hart) (pc_or_zero pc) in
    rw (filtered_touch_tag a.kind a.size sized) (sited_extent _ _ y
    (numbers_stated _ a.hart z y (distance_small before.last a.addr)
    (distance_small (pc_before before a.hart) (pc_or_zero pc))))

alloc_whole : (v : Version) (addr size : ℕ) (sites : List ℕ) → length sites ≡ 4
    → record_extent v (spell_alloc addr size sites) ≡ length (spell_alloc addr size sites)
unfolding record_extent spell_alloc
alloc_whole One addr size sites four = omega (arith, sites_length sites four)
alloc_whole Two addr size sites four = omega (arith, sites_length sites four)
alloc_whole Three addr size sites four = omega (arith, sites_length sites four)
alloc_whole Four addr size sites four = omega (arith, sites_length sites four)

free_whole : (v : Version) (addr : ℕ)
    → record_extent v (spell_free addr) ≡ length (spell_free addr)
unfolding record_extent spell_free
free_whole One addr = refl
free_whole Two addr = refl
free_whole Three addr = refl
free_whole Four addr = refl

symbol_stated : (kind : SymbolKind) (addr size : ℕ) (name : List ℕ) → length name ≤ 1024
    → symbol_extent (spell_symbol kind addr size name) ≡ 12 + length name
unfolding symbol_extent spell_symbol
symbol_stated kind addr size name short =
    let stated = from_le_bytes-to_le_bytes_2 (length name) (omega arith) in
    let fits : ltb 1024 (length name) ≡ false = grind (arith, nat_tests) in
    rw (stated, fits) (grind (arith, nat_tests))

symbol_whole : (v : Version) (kind : SymbolKind) (addr size : ℕ) (name : List ℕ)
    → length name ≤ 1024
    → record_extent v (spell_symbol kind addr size name) ≡ length (spell_symbol kind addr size
    name)
unfolding record_extent spell_symbol
symbol_whole One kind addr size name short = symbol_stated kind addr size name short ∙ omega arith
symbol_whole Two kind addr size name short = symbol_stated kind addr size name short ∙ omega arith
symbol_whole Three kind addr size name short = symbol_stated kind addr size name short ∙ omega arith
symbol_whole Four kind addr size name short = symbol_stated kind addr size name short ∙ omega arith

-- The bytes of a good record are all that it has.
pub record_whole : (v : Version) (harts : ℕ) (before : Before) (item : TraceRecord)
    → IsGoodRecord v harts item
    → record_extent v (spell_record v before item) ≡ length (spell_record v before item)
record_whole v harts before (records.Touch a pc) good =
    touch_whole v before a pc good.0.allowed.sized
record_whole v harts before (records.Alloc addr size sites) good =
    alloc_whole v addr size sites good.2
record_whole v harts before (records.Free addr) good = free_whole v addr
record_whole v harts before (records.Symbol kind addr size name) good =
    symbol_whole v kind addr size name good.short
record_whole v harts before (records.End e) good =
    ending_extent v e.outcome e.steps e.accesses e.whole
    ∙ sym (ending_length v e.outcome e.steps e.accesses e.whole)

pub number_again : (z : ℕ) → z < 2 ^ 32 → number_in (groups z) ≡ z
number_again z small = grind (arith, nat_tests)

pub groups_good : (z : ℕ) → z < 2 ^ 32 → are_groups (groups z) ≡ true
groups_good z small = grind (arith, nat_tests)

pub address_again : (last addr : ℕ) → last < 2 ^ 32 → addr < 2 ^ 32
    → address_at last (distance last addr) ≡ addr
address_again last addr low small = grind (arith, nat_tests)
