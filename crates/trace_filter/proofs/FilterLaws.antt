-- A filtered list, and filtered records, with one more at the end.
use Rattle.std.proofs.Common.{◌≡◌, ℕ, zero, suc, ◌+◌, ◌<◌, ◌≤◌, Bool, true, false, not, List, [], ◌∷◌, ◌++◌}
use Rattle.std.proofs.Common.{length, take, Option, Some, None, refl, sym, ap, ◌∙◌, arith}
use Rattle.std.proofs.Common.{add-one, append-nil, length-append}
use Rattle.std.proofs.Math.Seq.{take-append_seam}
use Rattle.std.proofs.lemmas.List.{take-append-le}
use Rattle.std.proofs.lemmas.List.Elements.{filter_map-append}
use Rattle.std.specs.List.{filter_map}
use Rattle.std.specs.Option.{option_and_then, option_map_or, option_to_list}
use Rattle.std.specs.Prelude.{if◌then◌else◌, slice_get}
use Rattle.base.specs.Touch.{Touch}
use Rattle.sharing_rules.specs.AccessLists.{AccessList}
use Rattle.sharing_rules.specs.Filtered.{filtered, is_kept_at, is_redundant}
use Rattle.sharing_rules.specs.Laws.Lists.{by_push, slice_get-append_left, slice_get-push}
use Rattle.sharing_rules.specs.Places.{below}
use Rattle.trace_format.specs.declared.record.TraceRecord.{TraceRecord}
use Rattle.trace_format.specs.declared.record.TraceRecord.TheVariants as records
use Rattle.trace_format.specs.Laws.Touches.{touches-push}
use Rattle.trace_format.specs.Rules.{touch_in, touches_in}
use Rattle.trace_filter.specs.Filtering.{filtered_at, filtered_item, filtered_items}

one_place : {Y : Type 0} (f : ℕ → Option Y) (n : ℕ) (o : Option Y) → f n ≡ o
    → filter_map f (n ∷ []) ≡ option_to_list o
one_place f n None is = rw is refl
one_place f n (Some y) is = rw is refl

places_below : {Y : Type 0} (f g : ℕ → Option Y) (n : ℕ) → ((j : ℕ) → j < n → f j ≡ g j)
    → filter_map f (below n) ≡ filter_map g (below n)
places_below f g zero same = refl
places_below f g (suc n) same =
    filter_map-append f (below n) (n ∷ [])
    ∙ ap (λ xs. xs ++ filter_map f (n ∷ [])) (places_below f g n (λ j h. same j (omega arith)))
    ∙ ap (λ xs. filter_map g (below n) ++ xs)
    (one_place f n (g n) (same n (omega arith)) ∙ sym (one_place g n (g n) refl))
    ∙ sym (filter_map-append g (below n) (n ∷ []))

-- what stands at places of a list that is one longer
places-push : {X Y : Type 0} (F : List X → ℕ → Option Y) (t : List X) (a : X) (o : Option Y)
    → ((i : ℕ) → i < length t → F (t ++ a ∷ []) i ≡ F t i) → F (t ++ a ∷ []) (length t) ≡ o
    → filter_map (F (t ++ a ∷ [])) (below (length (t ++ a ∷ [])))
    ≡ filter_map (F t) (below (length t)) ++ option_to_list o
places-push F t a o before here =
    let all = t ++ a ∷ [] in
    ap (λ n. filter_map (F all) (below n)) (length-append t (a ∷ []) ∙ add-one (length t))
    ∙ filter_map-append (F all) (below (length t)) (length t ∷ [])
    ∙ ap (λ xs. xs ++ filter_map (F all) (length t ∷ []))
    (places_below (F all) (F t) (length t) before)
    ∙ ap (λ xs. filter_map (F t) (below (length t)) ++ xs) (one_place (F all) (length t) o here)

-- ---- the accesses

kept_or : {X : Type 0} (b : Bool) (x : X) → (if not b then Some x else None)
    ≡ (if b then None else Some x)
kept_or true x = refl
kept_or false x = refl

pub filtered-push : (k : ℕ) (t : AccessList) (a : Touch) → filtered k (t ++ a ∷ [])
    ≡ filtered k t ++ option_to_list (if is_redundant k t a then None else Some a)
unfolding filtered
filtered-push k t a =
    let F : AccessList → ℕ → Option Touch =
    λ u i. if is_kept_at k u i then slice_get u i else None in
    places-push F t a (if is_redundant k t a then None else Some a)
    (λ i less.
    let inside : i ≤ length t = omega (arith, less) in
    ap (λ o. if not (option_map_or (is_redundant k (take i (t ++ a ∷ []))) o false) then o else None)
    (slice_get-append_left t (a ∷ []) i less)
    ∙ ap (λ u. if not (option_map_or (is_redundant k u) (slice_get t i) false) then slice_get t i
    else None) (take-append-le i t (a ∷ []) inside))
    (ap (λ o. if not (option_map_or (is_redundant k (take (length t) (t ++ a ∷ []))) o false) then o
    else None) (slice_get-push t a)
    ∙ ap (λ u. if not (is_redundant k u a) then Some a else None) (take-append_seam t (a ∷ []))
    ∙ kept_or (is_redundant k t a) a)

-- ---- the records

pub filtered_items-push : (k : ℕ) (items : List TraceRecord) (item : TraceRecord)
    → filtered_items k (items ++ item ∷ [])
    ≡ filtered_items k items ++ option_to_list (filtered_item k (touches_in items) item)
unfolding filtered_items
filtered_items-push k items item =
    places-push (filtered_at k) items item (filtered_item k (touches_in items) item)
    (λ i less.
    let inside : i ≤ length items = omega (arith, less) in
    ap (option_and_then (filtered_item k (touches_in (take i (items ++ item ∷ [])))))
    (slice_get-append_left items (item ∷ []) i less)
    ∙ ap (λ xs. option_and_then (filtered_item k (touches_in xs)) (slice_get items i))
    (take-append-le i items (item ∷ []) inside))
    (ap (option_and_then (filtered_item k (touches_in (take (length items) (items ++ item ∷ [])))))
    (slice_get-push items item)
    ∙ ap (λ xs. filtered_item k (touches_in xs) item) (take-append_seam items (item ∷ [])))

touches_kept : (b : Bool) (a : Touch) (pc : Option ℕ)
    → touches_in (option_to_list (if b then None else Some (records.Touch a pc)))
    ≡ option_to_list (if b then None else Some a)
touches_kept true a pc = refl
touches_kept false a pc = refl

-- what a record adds to the accesses of both
one_added : (k : ℕ) (t : AccessList) (item : TraceRecord)
    → filtered k t ++ touches_in (option_to_list (filtered_item k t item))
    ≡ filtered k (t ++ touches_in (item ∷ []))
one_added k t (records.Touch a pc) =
    ap (λ xs. filtered k t ++ xs) (touches_kept (is_redundant k t a) a pc) ∙ sym (filtered-push k t a)
one_added k t (records.Alloc addr size sites) =
    append-nil (filtered k t) ∙ ap (filtered k) (sym (append-nil t))
one_added k t (records.Free addr) =
    append-nil (filtered k t) ∙ ap (filtered k) (sym (append-nil t))
one_added k t (records.Symbol kind addr size name) =
    append-nil (filtered k t) ∙ ap (filtered k) (sym (append-nil t))
one_added k t (records.End e) =
    append-nil (filtered k t) ∙ ap (filtered k) (sym (append-nil t))

nothing_filtered : (k : ℕ) → touches_in (filtered_items k []) ≡ filtered k []
unfolding filtered filtered_items
nothing_filtered k = refl

pub filtered_touches : (k : ℕ) (items : List TraceRecord)
    → touches_in (filtered_items k items) ≡ filtered k (touches_in items)
filtered_touches k =
    by_push (λ items. touches_in (filtered_items k items) ≡ filtered k (touches_in items))
    (nothing_filtered k)
    (λ items item had.
    ap touches_in (filtered_items-push k items item)
    ∙ filter_map-append touch_in (filtered_items k items)
    (option_to_list (filtered_item k (touches_in items) item))
    ∙ ap (λ xs. xs ++ touches_in (option_to_list (filtered_item k (touches_in items) item))) had
    ∙ one_added k (touches_in items) item
    ∙ ap (filtered k) (sym (touches-push items item)))

-- ---- how many are kept

pub no_record : (k : ℕ) → filtered_items k [] ≡ []
unfolding filtered_items
no_record k = refl

pub no_access : (k : ℕ) → filtered k [] ≡ []
unfolding filtered
no_access k = refl

pub kept_one : (k n : ℕ) (t : AccessList) (a : Touch) (b : Bool) → b ≡ true
    → b ≡ not (is_redundant k t a) → n ≡ length (filtered k t)
    → n + 1 ≡ length (filtered k (t ++ a ∷ []))
kept_one k n t a b held is count =
    let stays : not (is_redundant k t a) ≡ true = sym is ∙ held in
    let new : is_redundant k t a ≡ false = not_true (is_redundant k t a) stays in
    ap (λ m. m + 1) count ∙ sym (length-append (filtered k t) (a ∷ []))
    ∙ ap (λ o. length (filtered k t ++ option_to_list (if o then None else Some a))) (sym new)
    ∙ ap length (sym (filtered-push k t a))
  where
    not_true : (x : Bool) → not x ≡ true → x ≡ false
    not_true true h = sym h
    not_true false h = refl

pub kept_none : (k n : ℕ) (t : AccessList) (a : Touch) (b : Bool) → b ≡ false
    → b ≡ not (is_redundant k t a) → n ≡ length (filtered k t)
    → n ≡ length (filtered k (t ++ a ∷ []))
kept_none k n t a b failed is count =
    let gone : not (is_redundant k t a) ≡ false = sym is ∙ failed in
    let old : is_redundant k t a ≡ true = not_false (is_redundant k t a) gone in
    count ∙ ap length (sym (append-nil (filtered k t)))
    ∙ ap (λ o. length (filtered k t ++ option_to_list (if o then None else Some a))) (sym old)
    ∙ ap length (sym (filtered-push k t a))
  where
    not_false : (x : Bool) → not x ≡ false → x ≡ true
    not_false true h = refl
    not_false false h = sym h
