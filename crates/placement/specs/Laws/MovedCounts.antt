-- What is counted in the area of a plan: on a hart's lines nothing, and so only what the words of
-- many harts count.
use Rattle.std.proofs.Common.{◌≡◌, ℕ, zero, suc, ◌+◌, ◌-◌, ◌*◌, ◌<◌, ◌≤◌, Bool, true, false}
use Rattle.std.proofs.Common.{ltb, ◌&&◌, List, Option, None, Some, refl, sym, ap}
use Rattle.std.proofs.Common.{◌∙◌, subst, arith, inl, inr}
use Rattle.std.proofs.lemmas.Bool.{and_from, and_parts, cases_Bool, cases_eq, cases_lt, eqb-true}
use Rattle.std.proofs.lemmas.Bool.{false≢true, lt-ltb}
use Rattle.std.proofs.lemmas.Int.{ints}
use Rattle.std.proofs.lemmas.List.Elements.{All-from_recursion, All-map, recursion_from_All}
use Rattle.std.specs.Option.{option_map_or}
use Rattle.std.specs.Prelude.{◌⊎◌, ◌+ℤ◌, ◌-ℤ◌, All, if◌then◌else◌, int_le, pos, slice_get, sum_by}
use Rattle.base.specs.Lines.{line_number}
use Rattle.base.specs.Touch.{Touch}
use Rattle.base.specs.declared.layout.Range.{Range}
use Rattle.sharing_rules.specs.Laws.Lists.{all_at, all_from_members}
use Rattle.sharing_rules.specs.Lines.{line_at, native_grid, native_line}
use Rattle.sharing_rules.specs.Members.{Member}
use Rattle.sharing_rules.specs.Observed.{written_lines}
use Rattle.sharing_rules.specs.Places.{below}
use Rattle.sharing_rules.specs.Recounts.{recount}
use Rattle.sharing_rules.specs.declared.word.Owner.TheVariants as owner
use Rattle.layout_sweep.specs.Laws.Windows.{IsSized}
use Rattle.placement.specs.Groups.{area_length, group_count, group_room, group_size}
use Rattle.placement.specs.Groups.{group_start, many_group, untouched_group}
use Rattle.placement.specs.Laws.Groups.{IsLineSize, rounded-up, start-grows, start-next}
use Rattle.placement.specs.Laws.LineCounts.{line_count, one_hart, recount_is}
use Rattle.placement.specs.Laws.LineTotals.{count_where, line_bound, sum_alike, total_by_line}
use Rattle.placement.specs.Laws.LineTotals.{total_spread, sum_none}
use Rattle.placement.specs.Laws.Moved.{IsLineOf, bound_whole, group_hart, in_line, line_of}
use Rattle.placement.specs.Laws.Moved.{moved_group, moved_hart, none_touched, owner_fits, owner_low}
use Rattle.placement.specs.Laws.Moved.{side_of}
use Rattle.placement.specs.Laws.Plans.{in-group}
use Rattle.placement.specs.Laws.Words.{owners-at}
use Rattle.placement.specs.Plans.{area_start, moved, moved_list, place, plan_of}
use Rattle.placement.specs.Recounts.{area_count, area_range, is_line_in, many_count, total_in}
use Rattle.placement.specs.Words.{Owned, first_word, owned_of, owner_in, word_count}
use Rattle.placement.specs.declared.extent.Extent.{Extent}

-- all harts of a list have numbers below 256
abbrev pub AreHarts : List Touch → Type 0
AreHarts t = (a : Touch) → Member a t → a.hart < 256

pub are_harts : (t : List Touch) → All (λ (a : Touch). a.hart < 256) t → AreHarts t
are_harts t all a there =
    all_at (λ (b : Touch). b.hart < 256) t a
    (recursion_from_All (λ (b : Touch). b.hart < 256) t all) there

pub line_sized : (n k : ℕ) → IsLineSize n → IsSized (native_line n k)
line_sized n k sized = record { some = sized.some; whole = sized.whole }

-- the count of line k in the moved list
abbrev pub moved_count : ℕ → Extent → List Touch → ℕ → ℕ
moved_count n e t k = line_count (native_line n k) (moved_list (plan_of n (owned_of e t)) t)

-- ---- lines of harts, and lines of none

-- to a line of a hart no other one comes
harts_access : (n : ℕ) (e : Extent) (t : List Touch) (g k : ℕ) (a : Touch) → IsLineSize n
    → IsLineOf n (owned_of e t) g k → g < 256 → Member a t
    → line_number n 0 (moved (plan_of n (owned_of e t)) a).addr ≡ k
    → (moved (plan_of n (owned_of e t)) a).hart ≡ g
harts_access n e t g k a sized line low there at =
    let of = moved_group n e t g k a sized.some line there at in
    let fit = owner_fits t (first_word e + of.word) a there of.found.at in
    moved_hart n (owned_of e t) a
    ∙ group_hart (owner_in t (first_word e + of.word)) a.hart g fit of.group low

harts_line : (n : ℕ) (e : Extent) (t : List Touch) (g k : ℕ) → IsLineSize n
    → IsLineOf n (owned_of e t) g k → g < 256 → moved_count n e t k ≡ 0
harts_line n e t g k sized line low =
    one_hart (native_line n k) g (moved (plan_of n (owned_of e t))) t (line_sized n k sized)
    (λ a there inside. harts_access n e t g k a sized line low there (eqb-true _ _ inside))

untouched_line : (n : ℕ) (e : Extent) (t : List Touch) (k : ℕ) → IsLineSize n → AreHarts t
    → IsLineOf n (owned_of e t) untouched_group k → moved_count n e t k ≡ 0
untouched_line n e t k sized harts line =
    let p = plan_of n (owned_of e t) in
    one_hart (native_line n k) 0 (moved p) t (line_sized n k sized)
    (λ a there inside.
    let of = moved_group n e t untouched_group k a sized.some line there (eqb-true _ _ inside) in
    let word : ℕ = first_word e + of.word in
    let fit = owner_fits t word a there of.found.at in
    absurd (none_touched (owner_in t word) a.hart fit of.group (owner_low t word harts)))

-- the line of a place of a hart's word
place_is : (n : ℕ) (e : Extent) (t : List Touch) (i h : ℕ) → IsLineSize n → i < word_count e
    → owner_in t (first_word e + i) ≡ owner.One h
    → IsLineOf n (owned_of e t) h (line_number n 0 (place n (owned_of e t) i))
place_is n e t i h sized within is =
    let o = owned_of e t in
    let x : ℕ = place n o i in
    let k : ℕ = line_number n 0 x in
    let at : slice_get o.owners i ≡ Some (owner.One h) = owners-at e t i within ∙ ap Some is in
    let group = in-group n (area_start n o) o.owners i (owner.One h) sized.some at in
    let above = group.low in
    let below = group.high in
    line_of n o h k x sized.some (in_line n k x sized.some refl) above (omega (arith, below))

pub place_alone : (n : ℕ) (e : Extent) (t : List Touch) (i h : ℕ) → IsLineSize n → i < word_count e
    → h < 256 → owner_in t (first_word e + i) ≡ owner.One h
    → All (λ (b : Touch). line_number n 0 b.addr ≡ line_number n 0 (place n (owned_of e t) i)
    → b.hart ≡ h) (moved_list (plan_of n (owned_of e t)) t)
place_alone n e t i h sized within low is =
    let p = plan_of n (owned_of e t) in
    let k : ℕ = line_number n 0 (place n (owned_of e t) i) in
    let P : Touch → Type 0 = λ b. line_number n 0 b.addr ≡ k → b.hart ≡ h in
    let line = place_is n e t i h sized within is in
    All-map P (moved p) t
    (All-from_recursion (λ (a : Touch). P (moved p a)) t
    (all_from_members (λ (a : Touch). P (moved p a)) t
    (λ a there at. harts_access n e t h k a sized line low there at)))

pub place_line : (n : ℕ) (e : Extent) (t : List Touch) (i h : ℕ) → IsLineSize n → i < word_count e
    → h < 256 → owner_in t (first_word e + i) ≡ owner.One h
    → recount (line_at (native_grid n) (place n (owned_of e t) i))
    (moved_list (plan_of n (owned_of e t)) t) ≡ 0
place_line n e t i h sized within low is =
    let o = owned_of e t in
    let k : ℕ = line_number n 0 (place n o i) in
    recount_is (native_line n k) (moved_list (plan_of n o) t)
    ∙ harts_line n e t h k sized (place_is n e t i h sized within is) low

-- ---- lines of the area

-- a range that ends at c
ends_at : (b s n c : ℕ) → b + n ≤ c → c ≤ b + s
    → (int_le (pos b) (pos c -ℤ pos n) && int_le (pos c -ℤ pos n +ℤ pos n) (pos b +ℤ pos s)) ≡ true
ends_at b s n c low high =
    and_from (int_le (pos b) (pos c -ℤ pos n)) (int_le (pos c -ℤ pos n +ℤ pos n) (pos b +ℤ pos s))
    (grind (arith, ints)) (grind (arith, ints))

ends_of : (b s n c : ℕ)
    → (int_le (pos b) (pos c -ℤ pos n) && int_le (pos c -ℤ pos n +ℤ pos n) (pos b +ℤ pos s)) ≡ true
    → (b + n ≤ c) × (c ≤ b + s)
ends_of b s n c is =
    let parts = and_parts (int_le (pos b) (pos c -ℤ pos n))
    (int_le (pos c -ℤ pos n +ℤ pos n) (pos b +ℤ pos s)) is in
    let first = parts.0 in
    let last = parts.1 in
    (grind (arith, ints), grind (arith, ints))

-- line k lies in the s bytes from address b on; it ends at address k * n
pub within_at : (n b s k : ℕ) → b + n ≤ k * n → k * n ≤ b + s
    → is_line_in n (record { base = pos b; size = s }) k ≡ true
within_at n b s k low high = ends_at b s n (k * n + 0) (omega arith) (omega arith)

pub within_of : (n b s k : ℕ) → is_line_in n (record { base = pos b; size = s }) k ≡ true
    → (b + n ≤ k * n) × (k * n ≤ b + s)
within_of n b s k is =
    let ends = ends_of b s n (k * n + 0) is in
    let low = ends.0 in
    let high = ends.1 in
    (omega arith, omega arith)

-- the group in whose room a byte of the area lies
record IsInGroup (n : ℕ) (o : Owned) (b : ℕ) : Type 0 where
  group : ℕ
  some : group < group_count
  low : group_start n o.owners group ≤ b
  high : b < group_start n o.owners (suc group)

group_from : (n : ℕ) (o : Owned) (b m : ℕ) → m ≤ group_count → b < group_start n o.owners m
    → IsInGroup n o b
group_from n o b zero le less = absurd (omega (arith, less))
group_from n o b (suc m) le less =
    elim (cases_lt b (group_start n o.owners m)) [
      | inl before ↦ group_from n o b m (omega (arith, le)) before
      | inr above ↦ record { group = m; some = omega (arith, le); low = above; high = less }
    ]

-- a line of the area lies in the room of a group
pub record IsAreaLine (n : ℕ) (o : Owned) (k : ℕ) : Type 0 where
  pub group : ℕ
  pub some : group < group_count
  pub line : IsLineOf n o group k

pub area_line : (n : ℕ) (o : Owned) (k : ℕ) → 0 < n → area_start n o + n ≤ k * n
    → k * n ≤ area_start n o + area_length n o.owners → IsAreaLine n o k
area_line n o k some first below =
    let b : ℕ = k * n - n - area_start n o in
    let found = group_from n o b group_count (omega arith) (omega (arith, first, below, some)) in
    let g : ℕ = found.group in
    let low = found.low in
    let high = found.high in
    let end = bound_whole n o (suc g) some in
    let ends = end.whole in
    record {
      group = g;
      some = found.some;
      line = record {
        low = omega (arith, low, first);
        high = elim (side_of n k end.lines) [
          | inl before ↦ omega (arith, before, ends)
          | inr behind ↦ absurd (omega (arith, behind, ends, high, first))
        ];
      };
    }

-- ---- lines of many harts

-- the lines of the words of many harts, whether or not there are such words
abbrev pub many_range : ℕ → Owned → Range
many_range n o = record {
  base = pos (area_start n o + group_start n o.owners many_group);
  size = group_room n o.owners many_group;
}

abbrev pub in_area : ℕ → Owned → ℕ → Bool
in_area n o k = is_line_in n (area_range (plan_of n o)) k

few_groups : (g : ℕ) → g < group_count
    → (g < 256) ⊎ ((g ≡ many_group) ⊎ (g ≡ untouched_group))
unfolding group_count many_group untouched_group
few_groups g low =
    elim (cases_lt g 256) [
      | inl hart ↦ inl hart
      | inr above ↦ elim (cases_eq g 256) [
        | inl many ↦ inr (inl many)
        | inr other ↦ inr (inr (omega (arith, low, above, other)))
      ]
    ]

many_counted : suc many_group ≤ group_count
unfolding group_count many_group
many_counted = omega arith

-- what a line of the area counts: nothing, or it is one of many harts
pub area_counts : (n : ℕ) (e : Extent) (t : List Touch) (k : ℕ) → IsLineSize n → AreHarts t
    → in_area n (owned_of e t) k ≡ true
    → (moved_count n e t k ≡ 0) ⊎ IsLineOf n (owned_of e t) many_group k
area_counts n e t k sized harts within =
    let o = owned_of e t in
    let bounds = within_of n (area_start n o) (area_length n o.owners) k within in
    let area = area_line n o k sized.some bounds.0 bounds.1 in
    elim (few_groups area.group area.some) [
      | inl hart ↦ inl (harts_line n e t area.group k sized area.line hart)
      | inr rest ↦ elim rest [
        | inl many ↦ inr (subst (λ (g : ℕ). IsLineOf n o g k) many area.line)
        | inr untouched ↦
            inl (untouched_line n e t k sized harts
            (subst (λ (g : ℕ). IsLineOf n o g k) untouched area.line))
      ]
    ]

-- a line of many harts lies in their range, and there are such words
many_line : (n : ℕ) (o : Owned) (k : ℕ) → 0 < n → IsLineOf n o many_group k
    → (is_line_in n (many_range n o) k ≡ true) × (ltb 0 (group_size o.owners many_group) ≡ true)
many_line n o k some line =
    let low = line.low in
    let high = line.high in
    let next = start-next n o.owners many_group in
    let room = rounded-up n (4 * group_size o.owners many_group) some in
    let near = room.near in (
      within_at n (area_start n o + group_start n o.owners many_group)
          (group_room n o.owners many_group) k low (omega (arith, high, next)),
      lt-ltb 0 (group_size o.owners many_group) (omega (arith, low, high, next, near)),
    )

-- and that range in the area
many_within : (n : ℕ) (o : Owned) (k : ℕ) → is_line_in n (many_range n o) k ≡ true
    → in_area n o k ≡ true
many_within n o k within =
    let bounds = within_of n (area_start n o + group_start n o.owners many_group)
    (group_room n o.owners many_group) k within in
    let above = bounds.0 in
    let below = bounds.1 in
    let next = start-next n o.owners many_group in
    let grows = start-grows n o.owners (suc many_group) group_count many_counted in
    within_at n (area_start n o) (area_length n o.owners) k (omega (arith, above))
    (omega (arith, below, next, grows))

-- what is counted of line k by those of many harts
abbrev pub many_at : ℕ → Extent → List Touch → ℕ → ℕ
many_at n e t k =
    let p = plan_of n (owned_of e t) in
    option_map_or (λ (r : Range). count_where n (is_line_in n r) (moved_list p t) k) p.many 0

-- which is what the area counts of it
pub many_or_none : (n : ℕ) (e : Extent) (t : List Touch) (k : ℕ) → IsLineSize n → AreHarts t
    → many_at n e t k ≡ (if in_area n (owned_of e t) k then moved_count n e t k else 0)
many_or_none n e t k sized harts =
    let o = owned_of e t in
    let u = moved_list (plan_of n o) t in
    let c : ℕ = moved_count n e t k in
    let inside : Bool = is_line_in n (many_range n o) k in
    let some : Bool = ltb 0 (group_size o.owners many_group) in
    let plain : many_at n e t k ≡ (if some then (if inside then c else 0) else 0) =
    by_many some (many_range n o) (λ (r : Range). count_where n (is_line_in n r) u k) in
    plain ∙ (elim (cases_Bool (in_area n o k)) [
      | inl within ↦ elim (area_counts n e t k sized harts within) [
        | inl nothing ↦ nowhere some inside (in_area n o k) c nothing
        | inr line ↦
            let is = many_line n o k sized.some line in
            rw (is.0, is.1, within) refl
      ]
      | inr out ↦ elim (cases_Bool inside) [
        | inl there ↦ absurd (false≢true (sym out ∙ many_within n o k there))
        | inr away ↦ rw (out, away) (either some 0)
      ]
    ])
  where
    by_many : (b : Bool) (r : Range) (f : Range → ℕ)
        → option_map_or f (if b then Some r else None) 0 ≡ (if b then f r else 0)
    by_many true r f = refl
    by_many false r f = refl

    nowhere : (a b d : Bool) (c : ℕ) → c ≡ 0
        → (if a then (if b then c else 0) else 0) ≡ (if d then c else 0)
    nowhere true true true c e = refl
    nowhere true true false c e = e
    nowhere true false true c e = sym e
    nowhere true false false c e = refl
    nowhere false b true c e = sym e
    nowhere false b false c e = refl

    either : (a : Bool) (c : ℕ) → (if a then c else c) ≡ c
    either true c = refl
    either false c = refl

-- ---- their sums

many_sum : (n : ℕ) (u : List Touch) (q : Option Range)
    → option_map_or (λ (r : Range). total_in n r u) q 0
    ≡ sum_by (λ k. option_map_or (λ (r : Range). count_where n (is_line_in n r) u k) q 0)
    (written_lines (native_grid n) u)
many_sum n u None = sym (sum_none (λ k. 0) (written_lines (native_grid n) u) (λ k. refl))
many_sum n u (Some r) = total_by_line n (is_line_in n r) u

pub area_is_many : (n : ℕ) (e : Extent) (t : List Touch) → IsLineSize n → AreHarts t
    → area_count n (plan_of n (owned_of e t)) t ≡ many_count n (plan_of n (owned_of e t)) t
area_is_many n e t sized harts =
    let o = owned_of e t in
    let p = plan_of n o in
    let u : List Touch = moved_list p t in
    total_by_line n (in_area n o) u
    ∙ sum_alike (count_where n (in_area n o) u) (many_at n e t) (written_lines (native_grid n) u)
    (λ k. sym (many_or_none n e t k sized harts))
    ∙ sym (many_sum n u p.many)

-- the same over all numbers of lines
pub many_spread : (n : ℕ) (e : Extent) (t : List Touch) (m : ℕ)
    → line_bound n (moved_list (plan_of n (owned_of e t)) t) ≤ m
    → many_count n (plan_of n (owned_of e t)) t ≡ sum_by (many_at n e t) (below m)
many_spread n e t m le =
    let p = plan_of n (owned_of e t) in
    spread (moved_list p t) p.many le
  where
    spread : (u : List Touch) (q : Option Range) → line_bound n u ≤ m
        → option_map_or (λ (r : Range). total_in n r u) q 0
        ≡ sum_by (λ k. option_map_or (λ (r : Range). count_where n (is_line_in n r) u k) q 0) (below m)
    spread u None low = sym (sum_none (λ k. 0) (below m) (λ k. refl))
    spread u (Some r) low = total_spread n (is_line_in n r) u m low
