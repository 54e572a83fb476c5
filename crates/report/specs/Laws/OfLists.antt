-- The tracks that a list keeps have the report of the list.
use Rattle.std.proofs.Common.{◌≡◌, ℕ, Bool, true, false, not, eqb, ltb, leb, ◌&&◌, ◌||◌, ℤ, List}
use Rattle.std.proofs.Common.{[], ◌∷◌, None, Some, map, filter, IsTrue, refl, sym, ap, ◌∙◌, inl}
use Rattle.std.proofs.Common.{inr, arith}
use Rattle.std.proofs.lemmas.Bool.{cases_Bool, false≢true}
use Rattle.std.proofs.lemmas.Bool.Decides.{nat_tests}
use Rattle.std.proofs.lemmas.Int.{ints}
use Rattle.std.proofs.lemmas.List.Sorted.{IsPermutation-sym}
use Rattle.std.proofs.lemmas.Map.Keys.{IsDistinct-IsPermutation}
use Rattle.std.proofs.lemmas.Option.{same_Some}
use Rattle.std.specs.Prelude.{filter_map, option_map}
use Rattle.std.specs.List.{IsDistinct}
use Rattle.std.specs.List.Sorted.{IsPermutation}
use Rattle.base.specs.Levels.{Levels}
use Rattle.base.specs.Lines.{Grid, is_layout}
use Rattle.sharing_rules.specs.AccessLists.{AccessList}
use Rattle.sharing_rules.specs.Lines.{is_inside}
use Rattle.sharing_rules.specs.Listed.{in_order, listed, may_predict, rank, tracked}
use Rattle.sharing_rules.specs.Members.{Member, ties}
use Rattle.sharing_rules.specs.Observed.{first_write_from}
use Rattle.sharing_rules.specs.Opened.{Opened, finding_of, opened}
use Rattle.sharing_rules.specs.Laws.Kept.{tracked-opened}
use Rattle.sharing_rules.specs.Laws.Lists.{slice_cases, Member-filter, Member-filter_map}
use Rattle.sharing_rules.specs.Laws.Lists.{Member-permutation, all_at, all_from_members}
use Rattle.sharing_rules.specs.Laws.Lists.{filter-Member, filter-distinct, filter_map-Member}
use Rattle.sharing_rules.specs.Laws.Orders.{in_order-from_members, in_order-permutes}
use Rattle.sharing_rules.specs.Laws.Orders.{in_order-rises, ties_flip}
use Rattle.line_tracks.specs.TrackValue.{TrackValue}
use Rattle.line_tracks.specs.KeptIn.{kept_in}
use Rattle.line_tracks.specs.Placed.{is_placed_before}
use Rattle.line_tracks.specs.Laws.Placed.{kept-apart, placed}
use Rattle.report.specs.Shown.{ShownLine, is_shown_before, listed_of, listed_tracks, shown_of}
use Rattle.report.specs.OfLists.{shown_in}
use Rattle.report.specs.Laws.Shown.{in_order-map, is_shown_before-ranks}

-- what a kept line shows is what is found of it
shown_of-kept : (t : AccessList) (o : Opened)
    → shown_of (kept_in t o) ≡ option_map (shown_in t) (finding_of t o)
shown_of-kept t o = elim (slice_cases (first_write_from o.from
    (is_inside o.line) t)) [ inl none ↦ rw none | inr s ↦ rw s.1 ]

shown_of-all : (t : AccessList) (os : List Opened)
    → filter_map shown_of (map (kept_in t) os) ≡ map (shown_in t) (filter_map (finding_of t) os)
shown_of-all t [] = refl
shown_of-all t (o ∷ os) =
    rw (shown_of-kept t o)
    (elim (slice_cases (finding_of t o)) [
      | inl none ↦ rw none (shown_of-all t os)
      | inr s ↦ rw s.1 (ap (λ ls. shown_in t s.0 ∷ ls) (shown_of-all t os))
    ])

abbrev keyed : ℕ → ℕ → ℤ → ℕ → ℕ → ℤ → Bool
keyed c k b d l e = ltb d c || (eqb c d && placed k b l e)

-- lines that tie have one kind and one base
keyed-ties : (c k : ℕ) (b : ℤ) (d l : ℕ) (e : ℤ)
    → not (keyed c k b d l e || keyed d l e c k b) ≡ true
    → not (placed k b l e || placed l e k b) ≡ true
keyed-ties c k b d l e h = grind (arith, ints, nat_tests)

-- what is shown of a track has its kind and its range
shown_place : (x : TrackValue) (l : ShownLine) → shown_of x ≡ Some l
    → (l.kind ≡ x.kind) × (l.range ≡ x.range)
shown_place x l e =
    elim (slice_cases x.start) [
      | inl none ↦ absurd (let k : None ≡ Some l = rw none at e in cc)
      | inr s ↦ let k : Some
          (record { kind = x.kind; range = x.range; start = s.0; count = x.count; words = x.words })
          ≡ Some l = rw s.1 at e in (
            sym (ap (λ (z : ShownLine). z.kind) (same_Some _ _ k)),
            sym (ap (λ
                (z : ShownLine). z.range) (same_Some _ _ k)),
          )
    ]

apart_shown : (x y : TrackValue) (l m : ShownLine) → shown_of x ≡ Some l → shown_of y ≡ Some m
    → ties is_placed_before x y ≡ false → ties is_shown_before l m ≡ false
apart_shown x y l m e f apart =
    elim (cases_Bool (ties is_shown_before l m)) [
      | inr no_tie ↦ no_tie
      | inl tied ↦
          let a = shown_place x l e in
          let b = shown_place y m f in
          let k = keyed-ties l.count (rank l.kind) l.range.base m.count
          (rank m.kind) m.range.base tied in
          absurd (false≢true (sym apart ∙ (rw (a.0, a.1, b.0, b.1) at k)))
    ]

-- tracks of which no two have one kind and one base show lines that don't tie
shown-distinct : (xs : List TrackValue) → IsDistinct (ties is_placed_before) xs
    → IsDistinct (ties is_shown_before) (filter_map shown_of xs)
unfolding IsDistinct
shown-distinct [] d = tt
shown-distinct (x ∷ xs) d =
    elim (slice_cases (shown_of x)) [
      | inl none ↦ rw none (shown-distinct xs d.1)
      | inr s ↦ rw s.1 (
        all_from_members (λ y. ties is_shown_before s.0 y ≡ false) (filter_map shown_of xs)
            (λ y m. let w = Member-filter_map shown_of xs y m in apart_shown x w.0 s.0 y s.1 w.2
            (all_at (λ z. ties is_placed_before x z ≡ false) xs w.0 d.0 w.1)),
        shown-distinct xs d.1,
      )
    ]

shown-members : (xs ys : List TrackValue) → IsPermutation xs ys → (l : ShownLine)
    → Member l (filter_map shown_of ys) → Member l (filter_map shown_of xs)
shown-members xs ys perm l m = let w = Member-filter_map shown_of ys l m
    in filter_map-Member shown_of xs w.0 l (Member-permutation xs ys w.0 perm w.1) w.2

-- tracks in any order show one list
listed-permutation : (r : ℕ) (xs ys : List TrackValue) → IsPermutation xs ys
    → IsDistinct (ties is_placed_before) ys → listed_tracks r xs ≡ listed_tracks r ys
listed-permutation r xs ys perm apart =
    let back_perm = IsPermutation-sym xs ys perm in
    let reaches : ShownLine → Bool = λ l. leb r l.count in
    let mine : List ShownLine = filter_map shown_of xs in
    let other : List ShownLine = filter_map shown_of ys in
    let own = shown-distinct xs (IsDistinct-IsPermutation (ties is_placed_before)
    (ties_flip is_placed_before) ys xs back_perm apart) in
    in_order-from_members is_shown_before is_shown_before-ranks (filter reaches other)
    (in_order is_shown_before (filter reaches mine))
    (filter-distinct (ties is_shown_before) reaches other (shown-distinct ys apart))
    (in_order-rises is_shown_before is_shown_before-ranks (filter reaches mine) (filter-distinct
    (ties is_shown_before) reaches mine own))
    (λ z m.
    let w = Member-filter reaches mine z (Member-permutation (filter reaches mine)
    (in_order is_shown_before (filter reaches mine)) z (in_order-permutes is_shown_before
    (filter reaches mine)) m) in
    filter-Member reaches other z (shown-members ys xs back_perm z w.0) w.1)
    (λ z m.
    let w = Member-filter reaches other z m in
    Member-permutation (in_order is_shown_before (filter reaches mine)) (filter reaches mine) z
    (IsPermutation-sym (filter reaches mine) (in_order is_shown_before (filter reaches mine))
    (in_order-permutes is_shown_before (filter reaches mine)))
    (filter-Member reaches mine z (shown-members xs ys perm z w.0) w.1))

filter-map : {X Y : Type 0} (h : X → Y) (p : Y → Bool) (xs : List X)
    → map h (filter (λ x. p (h x)) xs) ≡ filter p (map h xs)
filter-map h p [] = refl
filter-map h p (x ∷ xs) =
    elim (cases_Bool (p (h x))) [
      | inl keeps ↦ rw keeps (ap (λ zs. h x ∷ zs) (filter-map h p xs))
      | inr drops ↦ rw drops (filter-map h p xs)
    ]

-- the listed lines of the tracks that a list keeps, in any order
pub listed_tracks-kept : (g : Grid) (v : Levels) (t : AccessList) (xs : List TrackValue)
    → is_layout g.size g.offset ≡ true → IsTrue (may_predict g v)
    → IsPermutation xs (map (kept_in t) (opened g v t))
    → listed_tracks v.report xs ≡ map (shown_in t) (listed g v t)
listed_tracks-kept g v t xs good native perm =
    listed-permutation v.report xs (map (kept_in t) (opened g v t)) perm
    (kept-apart g v t good native)
    ∙ ap (listed_of v.report) (shown_of-all t (opened g v t) ∙ ap (map (shown_in t)) (sym
    (tracked-opened g v t)))
    ∙ ap (in_order is_shown_before) (sym (filter-map (shown_in t) (λ l. leb v.report l.count)
    (tracked g v t)))
    ∙ sym (in_order-map (shown_in t) is_shown_before (filter (λ f. leb v.report f.count)
    (tracked g v t)))
