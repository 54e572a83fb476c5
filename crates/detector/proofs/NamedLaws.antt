-- What the names of tracks say.
use Rattle.std.proofs.Common.{◌≡◌, ℕ, true, eqb, ◌&&◌, List, [], ◌∷◌, ◌++◌, Option, Some, None, map}
use Rattle.std.proofs.Common.{length, refl, sym, ap, ◌∙◌, ◌⊎◌, subst, inl, inr, ◌+◌, ◌-◌, ◌≤◌}
use Rattle.std.proofs.Common.{arith, get_or}
use Rattle.std.proofs.lemmas.Bool.{cases_Bool, false≢true, eq-eqb, and_parts, and_from, eqb-true}
use Rattle.std.proofs.lemmas.Option.{same_Some, none-some, slice_get_within, slice_get-map}
use Rattle.std.proofs.lemmas.Option.{slice_get-get_or}
use Rattle.std.specs.Prelude.{slice_get, option_and_then, option_map, is_some, ◌/◌, pos}
use Rattle.std.specs.Prelude.{nat_abs, ◌+ℤ◌, ◌-ℤ◌}
use Rattle.std.specs.Option.{option_or}
use Rattle.base.specs.Lines.{Grid}
use Rattle.sharing_rules.specs.Listed.{rank}
use Rattle.sharing_rules.specs.declared.line_kind.LineKind.{LineKind}
use Rattle.line_tracks.specs.TrackValue.{TrackValue}
use Rattle.detector.specs.Named.{is_named, line_of_base, track_named}
use Rattle.detector.specs.Index.{IsNamed, IsShaped, Names}
use Rattle.detector.specs.Tasks.{with_name}
use Rattle.detector.proofs.FourPlaces.{find-none, find-only, slice_get-more}
use Rattle.sharing_rules.specs.Laws.Lists.{slice_cases, slice_get-append_left, slice_get-push}
use Rattle.sharing_rules.specs.Laws.Listed.{same_rank}
use Rattle.sharing_rules.specs.Lines.{range_of}
use Rattle.sharing_rules.specs.Predicted.{is_native_size}
use Rattle.sharing_rules.specs.declared.line_kind.LineKind.TheVariants.{Observed, Shifted, Doubled}
use Rattle.detector.specs.declared.line_entry.LineEntry.{LineEntry}
use Rattle.detector.specs.declared.openings.Around.{Around}
use Rattle.detector.specs.Pairs.{AreAround, AreNamedPair, IsOwnPlace, kept_at}
use Rattle.detector.proofs.PairLaws.{reached-native}
use Rattle.std.proofs.lemmas.Map.Keys.{IsDistinct-from_apart}
use Rattle.sharing_rules.specs.Members.{ties}
use Rattle.line_tracks.specs.Placed.{AreApart, is_placed_before}
use Rattle.line_tracks.specs.Laws.Placed.{is_placed_before-ties}

pub is_named-true : (g : Grid) (kind : LineKind) (k : ℕ) (x : TrackValue) → is_named g kind k x ≡ true
    → (x.kind ≡ kind)
    × (line_of_base g x.range ≡ k)
is_named-true g kind k x h =
    let parts = and_parts (eqb (rank x.kind) (rank kind)) (eqb (line_of_base g x.range) k) h in (
      same_rank x.kind kind (eqb-true (rank x.kind) (rank kind) parts.0),
      eqb-true
          (line_of_base g x.range) k parts.1,
    )

pub is_named-from : (g : Grid) (kind : LineKind) (k : ℕ) (x : TrackValue) → x.kind ≡ kind
    → line_of_base g x.range ≡ k
    → is_named g kind k x ≡ true
is_named-from g kind k x same at =
    and_from (eqb (rank x.kind) (rank kind)) (eqb (line_of_base g x.range) k)
    (eq-eqb (rank x.kind) (rank kind) (ap rank same))
    (eq-eqb (line_of_base g x.range) k at)

-- a track is looked up at the place that is named
pub look_up : (N : Names) (g : Grid) (xs : List TrackValue) (kind : LineKind) (k : ℕ) → IsNamed N g xs
    → track_named g kind k xs ≡ option_and_then
    (slice_get xs) (N kind k)
look_up N g xs kind k named =
    elim (slice_cases (N kind k)) [
      | inl none ↦ rw none (find-none (is_named g kind k) xs
          (λ j y at. elim (cases_Bool (is_named g kind k y)) [
            | inl t ↦
                let is = is_named-true g kind k y t in
                absurd (none-some j (sym none ∙ ap (λ q. N kind q) (sym is.1)
                ∙ ap (λ q. N q (line_of_base g y.range)) (sym is.0)
                ∙ named.placed j y at))
            | inr f ↦ f
          ]))
      | inr some ↦
          let w = named.named kind k some.0 some.1 in
          ap (λ o. o) (find-only (is_named g kind k) xs some.0 w.0 w.1
          (is_named-from g kind k w.0 w.2 w.3)
          (λ j y at t.
          let is = is_named-true g kind k y t in
          same_Some j some.0 (sym (named.placed j y at)
          ∙ ap (λ q. N q (line_of_base g y.range)) is.0 ∙ ap (N kind) is.1 ∙ some.1)))
          ∙ sym w.1 ∙ ap (option_and_then (slice_get xs)) (sym some.1)
    ]

pub with_name-here : (N : Names) (kind : LineKind) (k : ℕ) (o : Option ℕ)
    → with_name N kind k o kind k ≡ option_or o (N kind k)
with_name-here N kind k o = rw (eq-eqb (rank kind) (rank kind) refl, eq-eqb k k refl)

pub with_name-other : (N : Names) (kind j : LineKind) (k q : ℕ) (o : Option ℕ)
    → ((j ≡ kind) × (q ≡ k) → ⊥)
    → with_name N kind k o j q ≡ N j q
with_name-other N kind j k q o other =
    elim (cases_Bool (eqb (rank j) (rank kind) && eqb q k)) [
      | inl t ↦ let parts = and_parts (eqb (rank j) (rank kind)) (eqb q k) t
          in absurd (other (same_rank j kind (eqb-true _ _ parts.0), eqb-true q k parts.1))
      | inr f ↦ rw f
    ]

-- whether a kind and a line are these
pub same_name : (kind j : LineKind) (k q : ℕ) → ((j ≡ kind) × (q ≡ k)) ⊎ ((j ≡ kind) × (q ≡ k) → ⊥)
same_name kind j k q =
    elim (cases_Bool (eqb (rank j) (rank kind) && eqb q k)) [
      | inl t ↦ let parts = and_parts (eqb (rank j) (rank kind)) (eqb q k) t
          in inl (same_rank j kind (eqb-true _ _ parts.0), eqb-true q k parts.1)
      | inr f ↦ inr (λ h. false≢true (sym f ∙ and_from (eqb (rank j) (rank kind)) (eqb q k)
          (eq-eqb _ _ (ap rank h.0)) (eq-eqb q k h.1)))
    ]

-- one track more, which a new name names
pub named-more : (N : Names) (g : Grid) (xs : List TrackValue) (x : TrackValue) → IsNamed N g xs
    → N x.kind (line_of_base g x.range) ≡ None
    → IsShaped g (line_of_base g x.range) x.kind x.range
    → IsNamed (with_name N x.kind (line_of_base g x.range) (Some (length xs))) g
    (xs ++ x ∷ [])
named-more N g xs x named none shaped =
    record {
      placed = λ i y at.
          elim (slice_get-more xs x y i at) [
            | inl before ↦
                with_name-other N x.kind y.kind (line_of_base g x.range) (line_of_base g y.range)
                (Some (length xs))
                (λ h. none-some i (sym none ∙ ap (λ q. N x.kind q) (sym h.1)
                ∙ ap (λ q. N q (line_of_base g y.range)) (sym h.0)
                ∙ named.placed i y before))
                ∙ named.placed i y before
            | inr last ↦
                rw (last.1, last.0) (with_name-here N x.kind (line_of_base g x.range)
                (Some (length xs)))
          ];
      named = λ j q i at.
          elim (same_name x.kind j (line_of_base g x.range) q) [
            | inl is ↦
                let there = rw (is.0, is.1) at at in
                let got : Some (length xs) ≡ Some i =
                sym (with_name-here N x.kind (line_of_base g x.range) (Some (length xs)))
                ∙ there in (
                  x,
                  ap (slice_get (xs ++ x ∷ [])) (sym (same_Some (length xs) i got))
                      ∙ slice_get-push xs x,
                  sym is.0,
                  sym is.1,
                )
            | inr other ↦
                let w = named.named j q i (sym (with_name-other N x.kind j
                (line_of_base g x.range) q (Some (length xs)) other) ∙ at) in (
                  w.0,
                  slice_get-append_left xs (x ∷ []) i (slice_get_within xs i w.0 w.1)
                      ∙ w.1,
                  w.2,
                  w.3,
                )
          ];
      shaped = λ i y at.
          elim (slice_get-more xs x y i at) [
            | inl before ↦ named.shaped i y before
            | inr last ↦ rw last.1 shaped
          ];
    }

-- the same with the kind and the line said first
pub named-more-as : (N : Names) (g : Grid) (xs : List TrackValue) (x : TrackValue) (kind : LineKind) (k : ℕ)
    → IsNamed N g xs → x.kind ≡ kind
    → line_of_base g x.range ≡ k → N kind k ≡ None
    → IsShaped g k kind x.range → IsNamed (with_name N kind k (Some (length xs))) g (xs ++ x ∷ [])
named-more-as N g xs x kind k named same at none shaped =
    subst (λ j. IsNamed (with_name N j k (Some (length xs))) g (xs ++ x ∷ [])) same
    (subst (λ q. IsNamed (with_name N x.kind q (Some (length xs))) g (xs ++ x ∷ [])) at
    (named-more N g xs x named (ap (λ q. N x.kind q) at ∙ ap (λ j. N j k) same ∙ none)
    (subst (λ q. IsShaped g q x.kind x.range) (sym at)
    (subst (λ j. IsShaped g k j x.range) (sym same) shaped))))

-- an element of a map is that of one of the list
pub mapped-came : {X Y : Type 0} (f : X → Y) (xs : List X) (i : ℕ) (y : Y) → slice_get (map f xs) i
    ≡ Some y → (x : X)
    × (slice_get xs i ≡ Some x) × (y ≡ f x)
mapped-came f xs i y at =
    elim (slice_cases (slice_get xs i)) [
      | inl none ↦ absurd (none-some y (sym (slice_get-map f xs i ∙ ap (option_map f) none) ∙ at))
      | inr some ↦ (
        some.0,
        some.1,
        same_Some y (f some.0)
            (sym at ∙ slice_get-map f xs i ∙ ap (option_map f) some.1),
      )
    ]

-- tracks that changed, but for their kinds and their ranges
pub named-map : (N : Names) (g : Grid) (f : TrackValue → TrackValue) (xs : List TrackValue)
    → ((x : TrackValue) → (f x).kind ≡ x.kind)
    → ((x : TrackValue) → (f x).range ≡ x.range) → IsNamed N g xs → IsNamed N g (map f xs)
named-map N g f xs kinds ranges named = record {
  placed = λ i y at.
      let w = came i y at in
      rw (w.2, kinds w.0, ranges w.0) (named.placed i w.0 w.1);
  named = λ j q i at.
      let v = named.named j q i at in
      (f v.0, slice_get-mapped i v.0 v.1, kinds v.0 ∙ v.2, ap (line_of_base g) (ranges v.0) ∙ v.3);
  shaped = λ i y at.
      let w = came i y at in
      rw (w.2, kinds w.0, ranges w.0) (named.shaped i w.0 w.1);
}
  where
    slice_get-mapped : (i : ℕ) (x : TrackValue) → slice_get xs i ≡ Some x → slice_get (map f xs) i
        ≡ Some (f x)
    slice_get-mapped i x at = slice_get-map f xs i ∙ ap (option_map f) at

    came : (i : ℕ) (y : TrackValue) → slice_get (map f xs) i ≡ Some y → (x : TrackValue)
        × (slice_get xs i ≡ Some x) × (y ≡ f x)
    came i y at = mapped-came f xs i y at

-- The entries of a line and of its neighbours name what is looked up.

-- a track that is named lies as its kind says
pub named-shaped : (N : Names) (g : Grid) (xs : List TrackValue) (kind : LineKind) (k i : ℕ) (x : TrackValue)
    → IsNamed N g xs → N kind k ≡ Some i
    → slice_get xs i ≡ Some x → IsShaped g k kind x.range
named-shaped N g xs kind k i x named e at =
    let w = named.named kind k i e in
    let same : w.0 ≡ x = same_Some w.0 x (sym w.1 ∙ at) in
    let shaped : IsShaped g (line_of_base g x.range) x.kind x.range = named.shaped i x at in
    subst (λ j. IsShaped g k j x.range) (ap (λ (z : TrackValue). z.kind) (sym same) ∙ w.2)
    (subst (λ q. IsShaped g q x.kind x.range) (ap (λ (z : TrackValue). line_of_base g z.range) (sym same)
    ∙ w.3) shaped)

kept_place : (xs : List TrackValue) (o : Option ℕ) (x : TrackValue) → kept_at xs o ≡ Some x → (i : ℕ)
    × (o ≡ Some i) × (slice_get xs i ≡ Some x)
kept_place xs None x e = absurd (none-some x e)
kept_place xs (Some i) x e = (i, refl, e)

own-place : (N : Names) (g : Grid) (xs : List TrackValue) (k : ℕ) → is_native_size g.size ≡ true
    → g.offset ≡ 0 → IsNamed N g xs
    → IsOwnPlace g.size k xs (N Observed k)
own-place N g xs k native none named = record {
  within = λ i e. let w = named.named Observed k i e in slice_get_within xs i w.0 w.1;
  range = λ x e.
      let w = kept_place xs (N Observed k) x e in
      let shaped : IsShaped g k Observed x.range =
      named-shaped N g xs Observed k w.0 x named w.1 w.2 in
      shaped.0 ∙ ap (λ o. range_of (record { size = g.size; offset = o; number = k })) none;
  reached = λ x e.
      let w = kept_place xs (N Observed k) x e in
      let shaped : IsShaped g k Observed x.range =
      named-shaped N g xs Observed k w.0 x named w.1 w.2 in
      reached-native g k native none shaped.1;
}

pub is_some-kept : (N : Names) (g : Grid) (xs : List TrackValue) (kind : LineKind) (k : ℕ)
    → IsNamed N g xs
    → is_some (track_named g kind k xs) ≡ is_some (N kind k)
is_some-kept N g xs kind k named =
    ap is_some (look_up N g xs kind k named)
    ∙ elim (slice_cases (N kind k)) [
      | inl none ↦ rw none
      | inr some ↦ let w = named.named kind k some.0 some.1 in
          ap (λ o. is_some (option_and_then (slice_get xs) o)) some.1 ∙ ap is_some w.1
          ∙ sym (ap is_some some.1)
    ]

-- the entries of two lines side by side
named-pair : (N : Names) (g : Grid) (xs : List TrackValue) (k : ℕ) (lower upper : LineEntry)
    → is_native_size g.size ≡ true → g.offset ≡ 0 → IsNamed N g xs → lower.track ≡ N Observed k
    → upper.track ≡ N Observed (k + 1) → lower.shifted ≡ N Shifted k → lower.doubled ≡ N Doubled k
    → AreNamedPair g k xs lower upper
named-pair N g xs k lower upper native none named low up shifted doubled = record {
  own = record {
    native = native;
    below = subst (IsOwnPlace g.size k xs) (sym low) (own-place N g xs k native none named);
    above = subst (IsOwnPlace g.size (k + 1) xs) (sym up)
        (own-place N g xs (k + 1) native none named);
  };
  lower_own = look_up N g xs Observed k named ∙ ap (kept_at xs) (sym low);
  upper_own = look_up N g xs Observed (k + 1) named ∙ ap (kept_at xs) (sym up);
  shifted = is_some-kept N g xs Shifted k named ∙ ap is_some (sym shifted);
  doubled = is_some-kept N g xs Doubled k named ∙ ap is_some (sym doubled);
}

-- the entries around a line
pub around : (N : Names) (g : Grid) (xs : List TrackValue) (k : ℕ) (e : Around) → is_native_size g.size
    ≡ true → g.offset ≡ 0 → 1 ≤ k
    → IsNamed N g xs
    → e.below.track ≡ N Observed (k - 1) → e.here.track ≡ N Observed k → e.above.track
    ≡ N Observed (k + 1)
    → e.below.shifted ≡ N Shifted (k - 1) → e.here.shifted ≡ N Shifted k → e.below.doubled
    ≡ N Doubled (k - 1)
    → e.here.doubled ≡ N Doubled k
    → AreAround g k xs e
around N g xs k e native none some named bt ht at bs hs bd hd = record {
  some = some;
  lower = let back : k ≡ k - 1 + 1 = omega arith in
      named-pair N g xs (k - 1) e.below e.here native none named bt (ht ∙ ap (N Observed) back) bs
      bd;
  upper = named-pair N g xs k e.here e.above native none named ht at hs hd;
}

-- No two tracks tie.

-- tracks that are named apart have no ties
pub apart_tracks : (N : Names) (g : Grid) (xs : List TrackValue) → IsNamed N g xs → AreApart xs
apart_tracks N g xs named = IsDistinct-from_apart (ties is_placed_before) xs (λ i j d before within.
    elim (cases_Bool (ties is_placed_before (get_or xs i d) (get_or xs j d))) [
      | inr apart ↦ apart
      | inl tied ↦
          let x : TrackValue = get_or xs i d in
          let y : TrackValue = get_or xs j d in
          let same = is_placed_before-ties x y tied in
          let at : line_of_base g x.range ≡ line_of_base g y.range =
          ap (λ b. nat_abs (b +ℤ pos g.size -ℤ pos g.offset) / g.size) same.1 in
          let one : Some i ≡ Some j =
          sym (named.placed i x (slice_get-get_or xs i d (omega arith)))
          ∙ ap (λ q. N q (line_of_base g x.range)) (same_rank x.kind y.kind same.0)
          ∙ ap (N y.kind) at
          ∙ named.placed j y (slice_get-get_or xs j d within) in
          let equal : i ≡ j = same_Some i j one in
          absurd (omega arith)
    ])
