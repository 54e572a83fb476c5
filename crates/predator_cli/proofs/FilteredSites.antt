-- The accesses of a filtered trace with their pcs are the filtered list of the trace's.
use Rattle.std.proofs.Common.{◌≡◌, ◌<◌, ℕ, Bool, true, false, not, List, [], ◌∷◌, ◌++◌, Option, Some}
use Rattle.std.proofs.Common.{None, length, refl, sym, ap, ◌∙◌, subst}
use Rattle.std.proofs.lemmas.List.{append-nil, length-map, map-append}
use Rattle.std.proofs.lemmas.List.Elements.{filter_map-append}
use Rattle.std.specs.Option.{option_to_list}
use Rattle.std.specs.Prelude.{if◌then◌else◌}
use Rattle.base.specs.Touch.{Touch}
use Rattle.filtered_counts.specs.Laws.Walk.{at_places-push, places-same}
use Rattle.filtered_counts.specs.SameHarts.{filtered_sited}
use Rattle.invalidations.specs.BlameRecords.{sited_by, sited_in, sited_item}
use Rattle.invalidations.specs.Latest.{accesses_of}
use Rattle.invalidations.specs.Laws.BlameRecords.{sited-accesses}
use Rattle.invalidations.specs.declared.sited.Sited.{Sited}
use Rattle.sharing_rules.specs.AccessLists.{AccessList}
use Rattle.sharing_rules.specs.Filtered.{at_places, is_kept_at, is_redundant}
use Rattle.sharing_rules.specs.Laws.Lists.{by_push}
use Rattle.sharing_rules.specs.Laws.Places.{passes_at-append, passes_at-push}
use Rattle.trace_filter.specs.Filtering.{filtered_item, filtered_items}
use Rattle.trace_format.specs.Rules.{touches_in}
use Rattle.trace_format.specs.declared.record.TraceRecord.{TraceRecord}
use Rattle.trace_format.specs.declared.record.TraceRecord.TheVariants as records

-- what a record adds to the records of a filtered trace
abbrev pub AddsItem : ℕ → Type 0
AddsItem k = (items : List TraceRecord) (item : TraceRecord)
    → filtered_items k (items ++ item ∷ [])
    ≡ filtered_items k items ++ option_to_list (filtered_item k (touches_in items) item)

-- ---- one access more

one_or_none : {X : Type 0} (b : Bool) (x : X)
    → (if not b then x ∷ [] else []) ≡ (if b then [] else x ∷ [])
one_or_none true x = refl
one_or_none false x = refl

sites-push : (k : ℕ) (u : List Sited) (x : Sited)
    → filtered_sited k (u ++ x ∷ [])
    ≡ filtered_sited k u ++ (if is_redundant k (accesses_of u) x.access then [] else x ∷ [])
sites-push k u x =
    let t : AccessList = accesses_of u in
    let a : Touch = x.access in
    let long : length t ≡ length u = length-map u (λ (s : Sited). s.access) in
    let all : accesses_of (u ++ x ∷ []) ≡ t ++ a ∷ [] =
    map-append (λ (s : Sited). s.access) u (x ∷ []) in
    let front : at_places (is_kept_at k (t ++ a ∷ [])) u ≡ at_places (is_kept_at k t) u =
    places-same (is_kept_at k (t ++ a ∷ [])) (is_kept_at k t) u
    (λ i less. ap not (passes_at-append (is_redundant k) t (a ∷ []) i
    (subst (λ (n : ℕ). i < n) (sym long) less))) in
    let last : is_kept_at k (t ++ a ∷ []) (length u) ≡ not (is_redundant k t a) =
    ap (is_kept_at k (t ++ a ∷ [])) (sym long) ∙ ap not (passes_at-push (is_redundant k) t a) in
    ap (λ (l : AccessList). at_places (is_kept_at k l) (u ++ x ∷ [])) all
    ∙ at_places-push (is_kept_at k (t ++ a ∷ [])) u x
    ∙ ap (λ (l : List Sited). l ++ (if is_kept_at k (t ++ a ∷ []) (length u) then x ∷ [] else []))
    front
    ∙ ap (λ (b : Bool). at_places (is_kept_at k t) u ++ (if b then x ∷ [] else [])) last
    ∙ ap (λ (l : List Sited). at_places (is_kept_at k t) u ++ l) (one_or_none (is_redundant k t a) x)

-- ---- one record more

sites_kept : (b : Bool) (a : Touch) (pc : Option ℕ)
    → sited_in (option_to_list (if b then None else Some (records.Touch a pc)))
    ≡ (if b then [] else sited_by a pc ∷ [])
sites_kept true a pc = refl
sites_kept false a pc = refl

nothing_more : (k : ℕ) (u : List Sited)
    → filtered_sited k u ++ [] ≡ filtered_sited k (u ++ [])
nothing_more k u = append-nil (filtered_sited k u) ∙ ap (filtered_sited k) (sym (append-nil u))

-- what a record adds to the accesses of both
added : (k : ℕ) (u : List Sited) (t : AccessList) → accesses_of u ≡ t → (item : TraceRecord)
    → filtered_sited k u ++ sited_in (option_to_list (filtered_item k t item))
    ≡ filtered_sited k (u ++ sited_in (item ∷ []))
added k u t same (records.Touch a pc) =
    ap (λ (l : List Sited). filtered_sited k u ++ l) (sites_kept (is_redundant k t a) a pc)
    ∙ ap (λ (l : AccessList).
    filtered_sited k u ++ (if is_redundant k l a then [] else sited_by a pc ∷ [])) (sym same)
    ∙ sym (sites-push k u (sited_by a pc))
added k u t same (records.Alloc addr size sites) = nothing_more k u
added k u t same (records.Free addr) = nothing_more k u
added k u t same (records.Symbol kind addr size name) = nothing_more k u
added k u t same (records.End e) = nothing_more k u

none_filtered : (k : ℕ) → sited_in (filtered_items k []) ≡ filtered_sited k (sited_in [])
unfolding filtered_items
none_filtered k = refl

pub sites_filtered : (k : ℕ) → AddsItem k → (items : List TraceRecord)
    → sited_in (filtered_items k items) ≡ filtered_sited k (sited_in items)
sites_filtered k next =
    by_push (λ items. sited_in (filtered_items k items) ≡ filtered_sited k (sited_in items))
    (none_filtered k)
    (λ items item had.
    ap sited_in (next items item)
    ∙ filter_map-append sited_item (filtered_items k items)
    (option_to_list (filtered_item k (touches_in items) item))
    ∙ ap (λ (l : List Sited).
    l ++ sited_in (option_to_list (filtered_item k (touches_in items) item))) had
    ∙ added k (sited_in items) (touches_in items) (sited-accesses items) item
    ∙ ap (filtered_sited k) (sym (filter_map-append sited_item items (item ∷ []))))
