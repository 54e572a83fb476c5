-- What one access makes of the tracks, by the places that the entries name.
use Rattle.std.proofs.Common.{◌≡◌, ◌≢◌, ℕ, zero, suc, ◌+◌, ◌-◌, ◌%◌, ◌<◌, ◌≤◌, ◌^◌, true, false}
use Rattle.std.proofs.Common.{eqb, List, [], ◌∷◌, Option, Some, None, map, length, refl, sym, ap}
use Rattle.std.proofs.Common.{◌∙◌, subst, arith, inl, inr, ◌*◌, ◌/◌}
use Rattle.std.proofs.lemmas.Bool.{cases_Bool, ne_eqb, eq-eqb, and_from}
use Rattle.std.proofs.lemmas.Option.{same_Some, none-some, slice_get_within}
use Rattle.std.proofs.lemmas.List.{length-map}
use Rattle.std.specs.Prelude.{if◌then◌else◌, slice_get, pos, ◌+ℤ◌, ◌-ℤ◌, int_le, int_lt}
use Rattle.base.specs.Lines.{Grid, line_number}
use Rattle.base.specs.Ranges.{holds_address}
use Rattle.base.specs.Touch.{Touch}
use Rattle.detector.specs.declared.line_entry.LineEntry.{LineEntry}
use Rattle.sharing_rules.specs.Listed.{rank}
use Rattle.sharing_rules.specs.declared.line_kind.LineKind.{LineKind}
use Rattle.sharing_rules.specs.declared.line_kind.LineKind.TheVariants.{Observed, Shifted, Doubled}
use Rattle.line_tracks.specs.TrackValue.{TrackValue}
use Rattle.detector.specs.Named.{line_of_base, number_of}
use Rattle.detector.specs.Index.{IsIndexed, IsNamed, IsShaped, Names, names_in}
use Rattle.detector.specs.Noting.{AreInTime, CanTouch, CanTouchAll, places, touched_at}
use Rattle.detector.specs.Noting.{touched_places, AreHeld, HoldsAt}
use Rattle.detector.specs.Watch.{touched}
use Rattle.detector.proofs.FourPlaces.{AreApart, change_at-other, change_four}
use Rattle.detector.proofs.NamedLaws.{mapped-came, named-map, named-shaped}
use Rattle.detector.proofs.ShapeLaws.{Reaches, shaped-reaches}
use Rattle.detector.proofs.InTimeLaws.{touched-blank, touched-in_time, touched-kind, touched-range}
use Rattle.sharing_rules.specs.Laws.Lists.{slice_cases}
use Rattle.std.proofs.lemmas.Int.{ints}
use Rattle.std.proofs.lemmas.Nat.{div-add-mod'}
use Rattle.std.proofs.Math.Nat.{mod-lt}
use Rattle.base.specs.declared.layout.Range.{Range}
use Rattle.sharing_rules.specs.Lines.{grid_line}
use Rattle.line_tracks.specs.Laws.WordLines.{inside-held}

-- one place has one name
same_names : (N : Names) (g : Grid) (xs : List TrackValue) (j q : LineKind) (k l i : ℕ) → IsNamed N g xs
    → N j k ≡ Some i → N q l ≡ Some i
    → (j ≡ q) × (k ≡ l)
same_names N g xs j q k l i named one other =
    let v = named.named j k i one in
    let w = named.named q l i other in
    let same : v.0 ≡ w.0 = same_Some v.0 w.0 (sym v.1 ∙ w.1) in (
      sym v.2 ∙ ap (λ (x : TrackValue). x.kind) same ∙ w.2,
      sym v.3
          ∙ ap (λ (x : TrackValue). line_of_base g x.range) same ∙ w.3,
    )

unlike : (j q : LineKind) → rank j ≢ rank q → j ≡ q → ⊥
unlike j q other e = other (ap rank e)

-- a shifted track is of no line 0
low : (N : Names) (g : Grid) (xs : List TrackValue) (k i : ℕ) → IsNamed N g xs → N Shifted k ≡ Some i
    → 1 ≤ k
low N g xs k i named e =
    let w = named.named Shifted k i e in
    let shaped : IsShaped g k Shifted w.0.range = subst (λ q. IsShaped g q Shifted w.0.range) w.3
    (subst (λ j. IsShaped g (line_of_base g w.0.range) j w.0.range) w.2 (named.shaped i w.0 w.1)) in
    shaped.0

-- the doubled place is that of one of the two entries
doubled_place : (f : ℕ → LineEntry) (k i : ℕ) → (places f k).doubled ≡ Some i → (q : ℕ)
    × ((f q).doubled ≡ Some i)
doubled_place f k i e =
    elim (cases_Bool (eqb (k % 2) 1)) [
      | inl odd ↦ let at = rw odd at e in (k, at)
      | inr even ↦ let at = rw even at e in (k - 1, at)
    ]

-- no two of the four places are the same
pub places-apart : (f : ℕ → LineEntry) (g : Grid) (xs : List TrackValue) (k : ℕ)
    → IsNamed (names_in f) g xs
    → AreApart (places f k).own (places f k).shifted (places f k).below (places f k).doubled
places-apart f g xs k named = record {
  one_two = λ j e h. unlike Observed Shifted (λ z. absurd (omega arith))
      (same_names (names_in f) g xs Observed Shifted k k j named e h).0;
  one_three = λ j e h. unlike Observed Shifted (λ z. absurd (omega arith))
      (same_names (names_in f) g xs Observed Shifted k (k - 1) j named e h).0;
  one_four = λ j e h. let w = doubled_place f k j h in
      unlike Observed Doubled (λ z. absurd (omega arith))
      (same_names (names_in f) g xs Observed Doubled k w.0 j named e w.1).0;
  two_three = λ j e h.
      let same : k ≡ k - 1 = (same_names (names_in f) g xs Shifted Shifted k (k - 1) j named e h).1
      in
      let some : 1 ≤ k = low (names_in f) g xs k j named e in
      absurd (omega arith);
  two_four = λ j e h. let w = doubled_place f k j h in
      unlike Shifted Doubled (λ z. absurd (omega arith))
      (same_names (names_in f) g xs Shifted Doubled k w.0 j named e w.1).0;
  three_four = λ j e h. let w = doubled_place f k j h in
      unlike Shifted Doubled (λ z. absurd (omega arith))
      (same_names (names_in f) g xs Shifted Doubled (k - 1) w.0 j named e w.1).0;
}

-- a place that is named is that of a track in time
named-can : (f : ℕ → LineEntry) (g : Grid) (xs : List TrackValue) (p : ℕ) (j : LineKind) (q : ℕ)
    → IsNamed (names_in f) g xs → AreInTime xs p
    → CanTouch xs p (names_in f j q)
named-can f g xs p j q named times = record {
  within = λ i e. let w = named.named j q i e in slice_get_within xs i w.0 w.1;
  in_time = λ i x e at. times i x at;
}

doubled-can : (f : ℕ → LineEntry) (g : Grid) (xs : List TrackValue) (p k : ℕ) → IsNamed (names_in f) g xs
    → AreInTime xs p
    → CanTouch xs p (places f k).doubled
doubled-can f g xs p k named times = record {
  within = λ i e. let v = doubled_place f k i e in let w = named.named Doubled v.0 i v.1 in
      slice_get_within xs i w.0 w.1;
  in_time = λ i x e at. times i x at;
}

-- there is a track at each place below the length
pub slice_get-get_or_at : (xs : List TrackValue) (i : ℕ) → i < length xs → (x : TrackValue)
    × (slice_get xs i ≡ Some x)
slice_get-get_or_at [] i h = absurd (omega (arith, h))
slice_get-get_or_at (x ∷ xs) zero h = (x, refl)
slice_get-get_or_at (x ∷ xs) (suc i) h = slice_get-get_or_at xs i (omega arith)

-- it stays so after another place was touched
can-after : (p : ℕ) (a : Touch) (o q : Option ℕ) (xs : List TrackValue)
    → ((i : ℕ) → o ≡ Some i → q ≢ Some i) → CanTouch xs p q
    → CanTouch (touched_at p a o xs) p q
can-after p a o q xs apart can = record {
  within = λ i e.
      let same : slice_get (touched_at p a o xs) i ≡ slice_get xs i =
      change_at-other (touched p a) o xs i (λ h. apart i h e) in
      elim (slice_cases (slice_get xs i)) [
        | inl none ↦ absurd (beyond i e none)
        | inr some ↦ slice_get_within (touched_at p a o xs) i some.0 (same ∙ some.1)
      ];
  in_time = λ i x e at. can.in_time i x e (sym (change_at-other (touched p a) o xs i
      (λ h. apart i h e)) ∙ at);
}
  where
    beyond : (i : ℕ) → q ≡ Some i → slice_get xs i ≡ None → ⊥
    beyond i e none =
        let within : i < length xs = can.within i e in
        let some = slice_get-get_or_at xs i within in
        none-some some.0 (sym none ∙ some.1)

pub places-can : (f : ℕ → LineEntry) (g : Grid) (xs : List TrackValue) (p : ℕ) (a : Touch) (k : ℕ)
    → IsNamed (names_in f) g xs → AreInTime xs p
    → CanTouchAll xs p a (places f k)
places-can f g xs p a k named times =
    let apart = places-apart f g xs k named in
    let o₁ = (places f k).own in
    let o₂ = (places f k).shifted in
    let o₃ = (places f k).below in
    let o₄ = (places f k).doubled in
    let c₂ = named-can f g xs p Shifted k named times in
    let c₃ = named-can f g xs p Shifted (k - 1) named times in
    let c₄ = doubled-can f g xs p k named times in
    record {
      own = named-can f g xs p Observed k named times;
      shifted = can-after p a o₁ o₂ xs apart.one_two c₂;
      below = can-after p a o₂ o₃ (touched_at p a o₁ xs) apart.two_three
          (can-after p a o₁ o₃ xs apart.one_three c₃);
      doubled = can-after p a o₃ o₄ (touched_at p a o₂ (touched_at p a o₁ xs)) apart.three_four
          (can-after p a o₂ o₄ (touched_at p a o₁ xs) apart.two_four
          (can-after p a o₁ o₄ xs apart.one_four c₄));
    }

below_of : (k j : ℕ) → k ≡ j + 1 → k - 1 ≡ j
below_of k j e = omega arith

even_of : (k j : ℕ) → k ≡ j + 1 → j % 2 ≡ 1 → eqb (k % 2) 1 ≡ false
even_of k j e odd = ne_eqb (k % 2) 1 (λ h. absurd (omega arith))

odd_of : (k j : ℕ) → k ≡ j → j % 2 ≡ 1 → eqb (k % 2) 1 ≡ true
odd_of k j e odd = eq-eqb (k % 2) 1 (ap (λ z. z % 2) e ∙ odd)

-- a track that holds the address stands at one of the places
holds-placed : (f : ℕ → LineEntry) (k j i : ℕ) (kind : LineKind) (o : Option ℕ)
    → (kind ≡ Doubled → j % 2 ≡ 1) → Reaches kind j k
    → names_in f kind j ≡ Some i
    → (places f k).own ≢ Some i → (places f k).shifted ≢ Some i → (places f k).below ≢ Some i
    → (places f k).doubled ≢ Some i → ⊥
holds-placed f k j i Observed o odd reach e n₁ n₂ n₃ n₄ = n₁ (ap (λ q. (f q).track) reach ∙ e)
holds-placed f k j i Shifted o odd (inl same) e n₁ n₂ n₃ n₄ = n₂ (ap (λ q. (f q).shifted) same ∙ e)
holds-placed f k j i Shifted o odd (inr next) e n₁ n₂ n₃ n₄ =
    n₃ (ap (λ q. (f q).shifted) (below_of k j next) ∙ e)
holds-placed f k j i Doubled o odd (inl same) e n₁ n₂ n₃ n₄ =
    n₄ (ap (λ b. if b then (f k).doubled else (f (k - 1)).doubled) (odd_of k j same (odd refl))
    ∙ ap (λ q. (f q).doubled) same ∙ e)
holds-placed f k j i Doubled o odd (inr next) e n₁ n₂ n₃ n₄ =
    n₄ (ap (λ b. if b then (f k).doubled else (f (k - 1)).doubled) (even_of k j next (odd refl))
    ∙ ap (λ q. (f q).doubled) (below_of k j next) ∙ e)

odd_line : (g : Grid) (j : ℕ) (kind : LineKind) (x : TrackValue) → x.kind ≡ kind
    → IsShaped g j x.kind x.range → kind ≡ Doubled → j % 2 ≡ 1
odd_line g j kind x same shaped is = let s : IsShaped g j Doubled x.range =
    subst (λ z. IsShaped g j z x.range) (same ∙ is) shaped in s.0

-- the tracks at the places noted one after the other are all tracks that hold the address noted
pub places-touched : (f : ℕ → LineEntry) (g : Grid) (xs : List TrackValue) (p : ℕ) (a : Touch)
    → g.offset < g.size → IsNamed (names_in f) g xs
    → touched_places p a (places f (number_of g a)) xs ≡ map (touched p a) xs
places-touched f g xs p a small named =
    change_four (touched p a) (places f (number_of g a)).own (places f (number_of g a)).shifted
    (places f (number_of g a)).below
    (places f (number_of g a)).doubled xs
    (places-apart f g xs (number_of g a) named)
    (λ i x at n₁ n₂ n₃ n₄.
    elim (cases_Bool (holds_address x.range a.addr)) [
      | inl held ↦
          let shaped = named.shaped i x at in
          absurd (holds-placed f (number_of g a) (line_of_base g x.range) i x.kind None
          (odd_line g (line_of_base g x.range) x.kind x refl shaped)
          (shaped-reaches g (line_of_base g x.range) x.kind x.range a.addr small shaped held)
          (named.placed i x at) n₁ n₂ n₃ n₄)
      | inr misses ↦ rw misses
    ])

-- the entries name the tracks that were noted, after more writes
pub indexed-touched : (f h : ℕ → LineEntry) (g : Grid) (xs : List TrackValue) (T p : ℕ) (a : Touch)
    → IsIndexed f g xs T p
    → names_in h ≡ names_in f → ((q : ℕ) → (f q).writes ≤ (h q).writes)
    → ((q : ℕ) → (h q).writes ≤ p + 1)
    → IsIndexed h g (map (touched p a) xs) T (p + 1)
indexed-touched f h g xs T p a indexed same more few = record {
  names = subst (λ N. IsNamed N g (map (touched p a) xs)) (sym same)
      (named-map (names_in f) g (touched p a) xs (touched-kind p a)
      (touched-range p a) indexed.names);
  late = λ k i e.
      let before = indexed.late k i (sym (ap (λ (N : Names). N Observed k) same) ∙ e) in
      let up = more k in
      omega arith;
  written = few;
  in_time = λ i y at.
      let w = mapped-came (touched p a) xs i y at in
      rw w.2 (touched-in_time w.0 p a (indexed.in_time i w.0 w.1) (indexed.blank i w.0 w.1));
  blank = λ i y at.
      let w = mapped-came (touched p a) xs i y at in
      rw w.2 (touched-blank w.0 p a (indexed.blank i w.0 w.1));
  few = let up = indexed.few in subst (λ n. n ≤ 2 ^ 31) (sym (length-map xs (touched p a))) up;
}

-- A line's own track and the doubled one of its even pair hold each address of the line.

-- it does so after another place was touched
held-after : (p : ℕ) (a : Touch) (o q : Option ℕ) (xs : List TrackValue)
    → ((i : ℕ) → o ≡ Some i → q ≢ Some i) → HoldsAt xs a.addr q
    → HoldsAt (touched_at p a o xs) a.addr q
held-after p a o q xs apart held = λ i x e at. held i x e
    (sym (change_at-other (touched p a) o xs i (λ h. apart i h e)) ∙ at)

-- two lines from one on hold an address of either
two_hold : (m n a : ℕ) → m ≤ a + n → a + n < m + 2 * n
    → holds_address (record { base = pos m -ℤ pos n; size = 2 * n }) a ≡ true
two_hold m n a low high = and_from (int_le (pos m -ℤ pos n) (pos a))
    (int_lt (pos a) (pos m -ℤ pos n +ℤ pos (2 * n))) (grind (arith, ints)) (grind (arith, ints))

doubled-held : (g : Grid) (j a : ℕ) (r : Range) → g.offset < g.size → IsShaped g j Doubled r
    → j ≤ line_number g.size g.offset a → line_number g.size g.offset a ≤ j + 1
    → holds_address r a ≡ true
doubled-held g j a r small shaped low high =
    let some : 0 < g.size = omega arith in
    let split = div-add-mod' (a + g.size - g.offset) g.size in
    let rest = mod-lt (a + g.size - g.offset) some in
    let from : j * g.size ≤ (a + g.size - g.offset) / g.size * g.size = grind (arith, low) in
    let to : (a + g.size - g.offset) / g.size * g.size ≤ (j + 1) * g.size = grind (arith, high) in
    let next : (j + 1) * g.size ≡ j * g.size + g.size = omega arith in
    rw (shaped.2, shaped.1)
    (two_hold (j * g.size + g.offset) g.size a (omega arith) (omega arith))

pub places-held : (f : ℕ → LineEntry) (g : Grid) (xs : List TrackValue) (p : ℕ) (a : Touch) (k : ℕ)
    → g.offset < g.size → k ≡ number_of g a → IsNamed (names_in f) g xs
    → AreHeld xs p a (places f k)
places-held f g xs p a k small line named =
    let apart = places-apart f g xs k named in
    let o₁ = (places f k).own in
    let o₂ = (places f k).shifted in
    let o₃ = (places f k).below in
    let o₄ = (places f k).doubled in
    let four : HoldsAt xs a.addr (places f k).doubled =
    λ i x e at.
    elim (cases_Bool (eqb (k % 2) 1)) [
      | inl odd ↦
          let mine = rw odd at e in
          doubled-held g k a.addr x.range small
          (named-shaped (names_in f) g xs Doubled k i x named mine at) (omega (arith, line))
          (omega (arith, line))
      | inr even ↦
          let mine = rw even at e in
          doubled-held g (k - 1) a.addr x.range small
          (named-shaped (names_in f) g xs Doubled (k - 1) i x named mine at)
          (omega (arith, line)) (omega (arith, line))
    ] in
    record {
      own = λ i x e at.
          let shaped : IsShaped g k Observed x.range =
          named-shaped (names_in f) g xs Observed k i x named e at in
          ap (λ r. holds_address r a.addr) shaped.0
          ∙ inside-held (grid_line g k) a.addr small
          (eq-eqb (line_number g.size g.offset a.addr) k (sym line));
      doubled = held-after p a o₃ o₄ (touched_at p a o₂ (touched_at p a o₁ xs)) apart.three_four
          (held-after p a o₂ o₄ (touched_at p a o₁ xs) apart.two_four
          (held-after p a o₁ o₄ xs apart.one_four four));
    }
