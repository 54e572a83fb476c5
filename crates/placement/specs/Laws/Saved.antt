-- What a plan saves: the counts of the object's own lines, where only its words are accessed there,
-- but for what the words of many harts take along.
use Rattle.std.proofs.Common.{◌≡◌, ◌≢◌, ℕ, zero, suc, ◌+◌, ◌-◌, ◌*◌, ◌/◌, ◌%◌, ◌<◌, max, Bool}
use Rattle.std.proofs.Common.{true, false, cond, eqb, ltb, List, [], ◌∷◌, None, Some, map}
use Rattle.std.proofs.Common.{refl, sym, ap, ◌∙◌, arith, inl, inr}
use Rattle.std.proofs.lemmas.Bool.{cases_Bool, cases_eq, eq-eqb, eqb-true, false≢true, ne_eqb, or_left}
use Rattle.std.proofs.lemmas.Bool.{or_right}
use Rattle.std.proofs.lemmas.List.{map-append, map-id}
use Rattle.std.proofs.lemmas.List.Elements.{recursion_from_All}
use Rattle.std.proofs.lemmas.List.Folds.{list_any-append}
use Rattle.std.proofs.lemmas.Option.{none-some}
use Rattle.std.specs.List.{list_any}
use Rattle.std.specs.Option.{option_map_or}
use Rattle.std.specs.Prelude.{if◌then◌else◌}
use Rattle.base.specs.Lines.{line_number}
use Rattle.base.specs.Touch.{Touch, word_of}
use Rattle.base.specs.declared.layout.Range.{Range}
use Rattle.sharing_rules.specs.Laws.Lists.{all_at}
use Rattle.sharing_rules.specs.Lines.{is_inside, native_line}
use Rattle.sharing_rules.specs.Members.{Member}
use Rattle.sharing_rules.specs.Places.{below}
use Rattle.sharing_rules.specs.Recounts.{recount}
use Rattle.sharing_rules.specs.declared.word.Owner.{Owner}
use Rattle.sharing_rules.specs.declared.word.Owner.TheVariants as owner
use Rattle.placement.specs.Groups.{area_length, group_count, group_of, group_size}
use Rattle.placement.specs.Groups.{is_in, many_group, untouched_group}
use Rattle.placement.specs.Laws.Groups.{IsLineSize, group-less, size-push, start-grows}
use Rattle.placement.specs.Laws.LineCounts.{line_count, moved_alike, one_hart, recount_is}
use Rattle.placement.specs.Laws.LineTotals.{count_where, line_bound, nothing_if, sums_add}
use Rattle.placement.specs.Laws.LineTotals.{total_spread, whole_total}
use Rattle.placement.specs.Laws.Moved.{IsMovedWord, before_area, in_line, moved_cases}
use Rattle.placement.specs.Laws.Moved.{moved_line, one_line, owner_low, place_even}
use Rattle.placement.specs.Laws.MovedCounts.{AreHarts, in_area, line_sized, within_at, within_of}
use Rattle.placement.specs.Laws.MovedCounts.{many_at, many_or_none, many_range, many_spread}
use Rattle.placement.specs.Laws.MovedCounts.{moved_count}
use Rattle.placement.specs.Laws.Words.{IsWord}
use Rattle.placement.specs.ObjectLines.{HasLinesToItself, is_object_line, object_total}
use Rattle.placement.specs.Plans.{area_start, moved, moved_list, place, plan_of}
use Rattle.placement.specs.Recounts.{many_count, total_after, total_before, total_in}
use Rattle.placement.specs.Words.{first_word, index_of, is_word_of, owned_of, owner_in}
use Rattle.placement.specs.Words.{word_count}
use Rattle.placement.specs.declared.extent.Extent.{Extent}

-- ---- the object's lines

any_below : (p : ℕ → Bool) (f : ℕ → ℕ) (m i : ℕ) → i < m → p (f i) ≡ true
    → list_any p (map f (below m)) ≡ true
any_below p f zero i less passes = absurd (omega (arith, less))
any_below p f (suc m) i less passes =
    ap (list_any p) (map-append f (below m) (m ∷ []))
    ∙ list_any-append p (map f (below m)) (f m ∷ [])
    ∙ (elim (cases_eq i m) [
      | inl same ↦
          or_right (list_any p (map f (below m))) _
          (or_left (p (f m)) false (ap (λ (j : ℕ). p (f j)) (sym same) ∙ passes))
      | inr other ↦
          or_left _ (list_any p (f m ∷ []))
          (any_below p f m i (omega (arith, less, other)) passes)
    ])

-- each word lies in one of them
pub word_on_line : (n : ℕ) (e : Extent) (addr i : ℕ) → IsLineSize n → IsWord e addr i
    → is_object_line n e (line_number n 0 addr) ≡ true
word_on_line n e addr i sized found =
    let at = found.at in
    let same : line_number n 0 (4 * (first_word e + i)) ≡ line_number n 0 addr =
    one_line n (4 * (first_word e + i)) addr sized.whole (omega (arith, at)) in
    any_below (λ word. eqb (line_number n 0 word) (line_number n 0 addr))
    (λ j. 4 * (first_word e + j)) (word_count e) i found.within (eq-eqb _ _ same)

-- ---- one line

-- a word's place is in the area
moved_in_area : (n : ℕ) (e : Extent) (t : List Touch) (k : ℕ) (a : Touch) → IsLineSize n → AreHarts t
    → IsMovedWord n e t a → line_number n 0 (moved (plan_of n (owned_of e t)) a).addr ≡ k
    → in_area n (owned_of e t) k ≡ true
moved_in_area n e t k a sized harts w at =
    let o = owned_of e t in
    let word : ℕ = first_word e + w.word in
    let g : ℕ = group_of (owner_in t word) in
    let line = moved_line n e t k a sized.some w at in
    let low = line.low in
    let high = line.high in
    let less = group-less (owner_in t word) (owner_low t word harts) in
    let grows = start-grows n o.owners (suc g) group_count (omega (arith, less)) in
    within_at n (area_start n o) (area_length n o.owners) k (omega (arith, low))
    (omega (arith, high, grows))

-- in the area the list itself accesses nothing
quiet_area : (n : ℕ) (e : Extent) (t : List Touch) (k : ℕ) → IsLineSize n
    → in_area n (owned_of e t) k ≡ true → line_count (native_line n k) t ≡ 0
quiet_area n e t k sized within =
    let o = owned_of e t in
    let bounds = within_of n (area_start n o) (area_length n o.owners) k within in
    let above = bounds.0 in
    let nobody : (a : Touch) → Member a t → is_inside (native_line n k) a.addr ≡ true
    → a.hart ≡ 0 = λ a there inside.
    let here = in_line n k a.addr sized.some (eqb-true _ _ inside) in
    let before = before_area n e t a sized.some there in
    let low = here.low in
    absurd (omega (arith, above, low, before)) in
    ap (line_count (native_line n k)) (sym (map-id t))
    ∙ one_hart (native_line n k) 0 (λ a. a) t (line_sized n k sized) nobody

-- and an own line outside the area none once all is moved
emptied : (n : ℕ) (e : Extent) (t : List Touch) (k : ℕ) → IsLineSize n → AreHarts t
    → HasLinesToItself n e t → in_area n (owned_of e t) k ≡ false → is_object_line n e k ≡ true
    → moved_count n e t k ≡ 0
emptied n e t k sized harts alone out own =
    let p = plan_of n (owned_of e t) in
    let all = recursion_from_All _ t alone in
    one_hart (native_line n k) 0 (moved p) t (line_sized n k sized)
    (λ a there inside.
    let at : line_number n 0 (moved p a).addr ≡ k = eqb-true _ _ inside in
    elim (moved_cases n e t a) [
      | inl stays ↦
          let here : line_number n 0 a.addr ≡ k =
          ap (λ (b : Touch). line_number n 0 b.addr) (sym stays.1) ∙ at in
          let owned : is_object_line n e (line_number n 0 a.addr) ≡ true =
          ap (is_object_line n e) here ∙ own in
          let word : is_word_of e (word_of a.addr) ≡ true =
          all_at (λ (b : Touch). is_object_line n e (line_number n 0 b.addr) ≡ true
          → is_word_of e (word_of b.addr) ≡ true) t a all there owned in
          absurd (is_found e (word_of a.addr) word stays.0)
      | inr w ↦ absurd (false≢true (sym out ∙ moved_in_area n e t k a sized harts w at))
    ])
  where
    is_found : (e : Extent) (word : ℕ) → is_word_of e word ≡ true → index_of e word ≡ None → ⊥
    is_found e word is none =
        let some : index_of e word ≡ Some (word / 4 - first_word e) = rw is refl in
        none-some _ (sym none ∙ some)

-- lines that hold no word and to which no word comes
pub same_elsewhere : (n : ℕ) (e : Extent) (t : List Touch) (k : ℕ) → IsLineSize n
    → is_object_line n e k ≡ false
    → ((a : Touch) → Member a t → IsMovedWord n e t a
    → line_number n 0 (moved (plan_of n (owned_of e t)) a).addr ≢ k)
    → moved_count n e t k ≡ line_count (native_line n k) t
same_elsewhere n e t k sized other away =
    let p = plan_of n (owned_of e t) in
    (moved_alike (native_line n k) (moved p) t (line_sized n k sized)
    (λ a there. elim (moved_cases n e t a) [
      | inl stays ↦ inl stays.1
      | inr w ↦ inr (
        ne_eqb (line_number n 0 a.addr) k
            (λ here. false≢true (sym other ∙ ap (is_object_line n e) (sym here)
            ∙ word_on_line n e a.addr w.word sized w.found)),
        ne_eqb (line_number n 0 (moved p a).addr) k (away a there w),
      )
    ])).count

-- ---- all lines

-- of each line: its count and what many harts count there are the count of the moved list and that
-- of an own line
saved_at : (n : ℕ) (e : Extent) (t : List Touch) (k : ℕ) → IsLineSize n → AreHarts t
    → HasLinesToItself n e t → count_where n (λ j. true) t k + many_at n e t k
    ≡ count_where n (λ j. true) (moved_list (plan_of n (owned_of e t)) t) k
    + count_where n (is_object_line n e) t k
saved_at n e t k sized harts alone =
    let many = many_or_none n e t k sized harts in
    let c : ℕ = line_count (native_line n k) t in
    elim (cases_Bool (in_area n (owned_of e t) k)) [
      | inl within ↦
          let moves : many_at n e t k ≡ moved_count n e t k =
          many ∙ ap (λ (b : Bool). if b then moved_count n e t k else 0) within in
          let quiet = quiet_area n e t k sized within in
          let own = nothing_if (is_object_line n e k) c quiet in
          omega (arith, moves, quiet, own)
      | inr out ↦
          let none : many_at n e t k ≡ 0 =
          many ∙ ap (λ (b : Bool). if b then moved_count n e t k else 0) out in
          elim (cases_Bool (is_object_line n e k)) [
            | inl own ↦
                let gone = emptied n e t k sized harts alone out own in
                let whole : count_where n (is_object_line n e) t k ≡ c =
                ap (λ (b : Bool). if b then c else 0) own in
                omega (arith, none, gone, whole)
            | inr other ↦
                let same = same_elsewhere n e t k sized other
                (λ a there w at.
                false≢true (sym out ∙ moved_in_area n e t k a sized harts w at)) in
                let nothing : count_where n (is_object_line n e) t k ≡ 0 =
                ap (λ (b : Bool). if b then c else 0) other in
                omega (arith, none, same, nothing)
          ]
    ]

pub saved : (n : ℕ) (e : Extent) (t : List Touch) → IsLineSize n → AreHarts t → HasLinesToItself n e t
    → total_before n t + many_count n (plan_of n (owned_of e t)) t
    ≡ total_after n (plan_of n (owned_of e t)) t + object_total n e t
saved n e t sized harts alone =
    let u : List Touch = moved_list (plan_of n (owned_of e t)) t in
    let m : ℕ = max (line_bound n t) (line_bound n u) in
    let first = whole_total n t ∙ total_spread n (λ k. true) t m (omega arith) in
    let many = many_spread n e t m (omega arith) in
    let last = whole_total n u ∙ total_spread n (λ k. true) u m (omega arith) in
    let own = total_spread n (is_object_line n e) t m (omega arith) in
    let sums = sums_add (count_where n (λ k. true) t) (many_at n e t) (count_where n (λ k. true) u)
    (count_where n (is_object_line n e) t) (below m)
    (λ k. saved_at n e t k sized harts alone) in
    omega (arith, first, many, last, own, sums)

-- ---- what the clauses name

-- a line that holds no word and no place
place_line_apart : (n : ℕ) (e : Extent) (t : List Touch) (k : ℕ) (a : Touch) → IsLineSize n
    → ((i : ℕ) → i < word_count e → line_number n 0 (place n (owned_of e t) i) ≢ k)
    → IsMovedWord n e t a → line_number n 0 (moved (plan_of n (owned_of e t)) a).addr ≢ k
place_line_apart n e t k a sized apart w at =
    let x : ℕ = place n (owned_of e t) w.word in
    let even = place_even n e t a.addr w.word sized w.found in
    let same : line_number n 0 x ≡ line_number n 0 (x + a.addr % 4) =
    one_line n x (x + a.addr % 4) sized.whole (omega (arith, even)) in
    apart w.word w.found.within
    (same ∙ ap (λ (b : Touch). line_number n 0 b.addr) (sym w.is) ∙ at)

pub recount_elsewhere : (n : ℕ) (e : Extent) (t : List Touch) (k : ℕ) → IsLineSize n
    → is_object_line n e k ≡ false
    → ((i : ℕ) → i < word_count e → line_number n 0 (place n (owned_of e t) i) ≢ k)
    → recount (native_line n k) (moved_list (plan_of n (owned_of e t)) t)
    ≡ recount (native_line n k) t
recount_elsewhere n e t k sized other apart =
    recount_is (native_line n k) (moved_list (plan_of n (owned_of e t)) t)
    ∙ same_elsewhere n e t k sized other
    (λ a there w. place_line_apart n e t k a sized apart w)
    ∙ sym (recount_is (native_line n k) t)

-- without words of many harts these count nothing
many_owner : (o : Owner) → ((h : ℕ) → o ≡ owner.One h → h < 256) → group_of o ≡ many_group
    → o ≡ owner.Many
unfolding many_group untouched_group
many_owner owner.None low is = absurd (omega (arith, is))
many_owner (owner.One h) low is = let few = low h refl in absurd (omega (arith, is, few))
many_owner owner.Many low is = refl

none_in : (g : ℕ) (f : ℕ → Owner) (m : ℕ) → ((i : ℕ) → i < m → group_of (f i) ≢ g)
    → group_size (map f (below m)) g ≡ 0
none_in g f zero apart = refl
none_in g f (suc m) apart =
    let rest = none_in g f m (λ i less. apart i (omega (arith, less))) in
    let last : cond (is_in g (f m)) 1 0 ≡ 0 =
    ap {B = ℕ} (λ b. cond b 1 0) (ne_eqb (group_of (f m)) g (apart m (omega arith))) in
    ap (λ (os : List Owner). group_size os g) (map-append f (below m) (m ∷ []))
    ∙ omega (arith, rest, last, size-push (map f (below m)) (f m) g)

pub none_of_many : (n : ℕ) (e : Extent) (t : List Touch) → AreHarts t
    → ((i : ℕ) → i < word_count e → owner_in t (first_word e + i) ≢ owner.Many)
    → many_count n (plan_of n (owned_of e t)) t ≡ 0
none_of_many n e t harts apart =
    let o = owned_of e t in
    let u : List Touch = moved_list (plan_of n o) t in
    let none : group_size o.owners many_group ≡ 0 =
    none_in many_group (λ i. owner_in t (first_word e + i)) (word_count e)
    (λ i less is. apart i less (many_owner (owner_in t (first_word e + i))
    (owner_low t (first_word e + i) harts) is)) in
    let no : ltb 0 (group_size o.owners many_group) ≡ false = ap (ltb 0) none in
    nothing_chosen (ltb 0 (group_size o.owners many_group)) (many_range n o)
    (λ (r : Range). total_in n r u) no
  where
    nothing_chosen : (b : Bool) (r : Range) (f : Range → ℕ) → b ≡ false
        → option_map_or f (if b then Some r else None) 0 ≡ 0
    nothing_chosen b r f none = rw none refl

pub saved_all : (n : ℕ) (e : Extent) (t : List Touch) → IsLineSize n → AreHarts t
    → HasLinesToItself n e t
    → ((i : ℕ) → i < word_count e → owner_in t (first_word e + i) ≢ owner.Many)
    → total_before n t ≡ total_after n (plan_of n (owned_of e t)) t + object_total n e t
saved_all n e t sized harts alone apart =
    let whole = saved n e t sized harts alone in
    let none = none_of_many n e t harts apart in
    omega (arith, whole, none)
