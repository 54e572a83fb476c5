-- What a list makes one keep, named by kind and line, and how its tracks in any order are looked
-- up.
use Rattle.std.proofs.Common.{◌≡◌, ℕ, ◌+◌, ◌-◌, ◌*◌, ◌/◌, ◌<◌, ◌≤◌, Bool, true, List, [], ◌∷◌}
use Rattle.std.proofs.Common.{◌++◌, Option, Some, None, map, length, refl, sym, ap, ◌∙◌, subst}
use Rattle.std.proofs.Common.{arith, inl, inr}
use Rattle.std.proofs.lemmas.Bool.{cases_Bool, false≢true, eqb-true, and_parts}
use Rattle.std.proofs.lemmas.Int.{ints}
use Rattle.std.proofs.lemmas.List.Sorted.{IsPermutation-sym}
use Rattle.std.proofs.lemmas.Option.{none-some, same_Some}
use Rattle.std.specs.Prelude.{pos, ◌+ℤ◌, ◌-ℤ◌, nat_abs, IsTrue, eqb, ◌&&◌, option_map}
use Rattle.std.specs.Prelude.{option_and_then, option_to_list}
use Rattle.std.specs.Option.{option_map_or}
use Rattle.std.specs.List.{find}
use Rattle.std.specs.List.Sorted.{IsPermutation}
use Rattle.base.specs.Touch.{Touch}
use Rattle.base.specs.Lines.{Grid, is_layout}
use Rattle.base.specs.Levels.{Levels}
use Rattle.base.specs.declared.layout.Range.{Range}
use Rattle.sharing_rules.specs.AccessLists.{AccessList}
use Rattle.sharing_rules.specs.Lines.{Line, range_of}
use Rattle.sharing_rules.specs.Listed.{may_predict}
use Rattle.sharing_rules.specs.Members.{Member}
use Rattle.sharing_rules.specs.Opened.{Opened, observed_now, observed_ones, opened}
use Rattle.sharing_rules.specs.Opened.{opened_doubled, opened_observed, opened_shifted}
use Rattle.sharing_rules.specs.Opened.{predicted_ones, shifted_ones}
use Rattle.sharing_rules.specs.Predicted.{is_native_size}
use Rattle.sharing_rules.specs.declared.line_kind.LineKind.{LineKind}
use Rattle.sharing_rules.specs.declared.line_kind.LineKind.TheVariants.{Observed, Shifted, Doubled}
use Rattle.sharing_rules.specs.Laws.Bases.{native-good, base_number}
use Rattle.sharing_rules.specs.Laws.Kinds.{Member-append}
use Rattle.sharing_rules.specs.Laws.Kinds.{append-Member_left, append-Member_right}
use Rattle.sharing_rules.specs.Laws.Kinds.{member-doubled_ones, member-observed_ones}
use Rattle.sharing_rules.specs.Laws.Kinds.{member-opened_observed, member-shifted_ones}
use Rattle.sharing_rules.specs.Laws.Kinds.{observed_ones-member, opened-member, opened_doubled-is}
use Rattle.sharing_rules.specs.Laws.Kinds.{opened_observed-is, opened_shifted-is}
use Rattle.sharing_rules.specs.Laws.Lists.{Member-permutation, slice_cases}
use Rattle.sharing_rules.specs.Laws.OpenedObserved.{observed_ones-push, opened_observed-stays}
use Rattle.line_tracks.specs.TrackValue.{TrackValue}
use Rattle.line_tracks.specs.KeptIn.{kept_in}
use Rattle.line_tracks.specs.Laws.WordLines.{layout-sized}
use Rattle.detector.specs.Named.{is_named, line_of_base, track_named}
use Rattle.detector.specs.Standing.{HasEach, StandsFor, opened_at}
use Rattle.detector.specs.Watch.{Watch}
use Rattle.detector.proofs.ShapeLaws.{line_from_base_0}
use Rattle.detector.proofs.NamedLaws.{is_named-from, is_named-true}

-- A layout and thresholds under which lines may be kept.
pub record MayKeep (g : Grid) (v : Levels) : Type 0 where
  pub allowed : is_layout g.size g.offset ≡ true
  pub may : IsTrue (may_predict g v)

-- the same where something is predicted
pub record IsUnder (g : Grid) (v : Levels) (P : ℕ) : Type 0 where
  pub native : is_native_size g.size ≡ true
  pub offset : g.offset ≡ 0
  pub prediction : v.prediction ≡ Some P

pub under : (g : Grid) (v : Levels) (P : ℕ) → IsTrue (may_predict g v) → v.prediction ≡ Some P
    → IsUnder g v P
under g v P may e =
    let both : (is_native_size g.size && eqb g.offset 0) ≡ true =
    subst (λ p. option_map_or (λ Q. is_native_size g.size && eqb g.offset 0) p true ≡ true) e may in
    let parts = and_parts _ _ both in
    record { native = parts.0; offset = eqb-true g.offset 0 parts.1; prediction = e }

-- The number of the line in which a kept line begins.
far_base : (n b : ℕ) → nat_abs (pos b +ℤ pos n -ℤ pos 0) ≡ b + n
far_base n b = omega (arith, ints)

based : (g : Grid) (k b : ℕ) (r : Range) → g.offset ≡ 0 → r.base ≡ pos b → 0 < k
    → g.size * (k - 1) ≤ b → b < g.size * (k - 1) + g.size → line_of_base g r ≡ k
based g k b r none base some above below =
    ap (λ z. nat_abs (z +ℤ pos g.size -ℤ pos g.offset) / g.size) base
    ∙ ap (λ o. nat_abs (pos b +ℤ pos g.size -ℤ pos o) / g.size) none
    ∙ ap (λ z. z / g.size) (far_base g.size b) ∙ base_number g.size k b some above below

-- what a line is that is kept under a kind and a number
record IsKeptAt (g : Grid) (t : AccessList) (j : LineKind) (k : ℕ) (o : Opened) : Type 0 where
  pub kind : o.kind ≡ j
  pub number : line_of_base g (range_of o.line) ≡ k
  pub layout : is_layout o.line.size o.line.offset ≡ true
  pub from : o.from ≤ length t

observed-at : (g : Grid) (v : Levels) (t : AccessList) (k : ℕ) (o : Opened)
    → is_layout g.size g.offset ≡ true → opened_observed g v.tracking t k ≡ Some o
    → IsKeptAt g t Observed k o
observed-at g v t k o allowed e =
    let is = opened_observed-is g v.tracking t k o e in
    let some = (layout-sized g.size g.offset allowed).0 in
    record {
      kind = is.kind;
      number = line_from_base_0 g k (range_of o.line) (omega arith)
          (ap (λ (l : Line). (range_of l).base) is.line);
      layout = ap (λ (l : Line). is_layout l.size l.offset) is.line ∙ allowed;
      from = is.from;
    }

shifted-at : (g : Grid) (v : Levels) (P : ℕ) (t : AccessList) (k : ℕ) (o : Opened)
    → IsUnder g v P → opened_shifted g.size v.tracking P t k ≡ Some o
    → IsKeptAt g t Shifted k o
shifted-at g v P t k o u e =
    let is = opened_shifted-is g.size v.tracking P t k o u.native e in
    let b = is.base in
    record {
      kind = is.kind;
      number = based g k b.0 (range_of o.line) u.offset b.1 is.number
          (omega (arith, b.2.above)) b.2.below;
      layout = is.layout;
      from = is.from;
    }

doubled-at : (g : Grid) (v : Levels) (P : ℕ) (t : AccessList) (k : ℕ) (o : Opened)
    → IsUnder g v P → opened_doubled g.size v.tracking P t k ≡ Some o
    → IsKeptAt g t Doubled k o
doubled-at g v P t k o u e =
    let is = opened_doubled-is g.size v.tracking P t k o u.native e in
    let some = (native-good g.size u.native).some in
    record {
      kind = is.kind;
      number = based g k (g.size * (k - 1)) (range_of o.line) u.offset is.base is.number
          (omega arith) (omega (arith, some));
      layout = is.layout;
      from = is.from;
    }

and_then-some : {X Y : Type 0} (h : X → Option Y) (o : Option X) (y : Y)
    → option_and_then h o ≡ Some y → (x : X) × (o ≡ Some x) × (h x ≡ Some y)
and_then-some h None y e = absurd (none-some y e)
and_then-some h (Some x) y e = (x, refl, e)

opened_at-is : (g : Grid) (v : Levels) (t : AccessList) (kind : LineKind) (k : ℕ) (o : Opened)
    → MayKeep g v → opened_at g v t kind k ≡ Some o → IsKeptAt g t kind k o
opened_at-is g v t Observed k o may e = observed-at g v t k o may.allowed e
opened_at-is g v t Shifted k o may e =
    let w = and_then-some (λ P. opened_shifted g.size v.tracking P t k) v.prediction o e in
    shifted-at g v w.0 t k o (under g v w.0 may.may w.1) w.2
opened_at-is g v t Doubled k o may e =
    let w = and_then-some (λ P. opened_doubled g.size v.tracking P t k) v.prediction o e in
    doubled-at g v w.0 t k o (under g v w.0 may.may w.1) w.2

predicted-member : (g : Grid) (v : Levels) (P : ℕ) (t : AccessList) (o : Opened)
    → v.prediction ≡ Some P → Member o (predicted_ones g.size v.tracking P t)
    → Member o (opened g v t)
predicted-member g v P t o e m =
    append-Member_right (observed_ones g v.tracking t) _ o
    (subst (λ z. Member o (option_map_or (λ Q. predicted_ones g.size v.tracking Q t) z [])) (sym e)
    m)

opened_at-member : (g : Grid) (v : Levels) (t : AccessList) (kind : LineKind) (k : ℕ) (o : Opened)
    → opened_at g v t kind k ≡ Some o → Member o (opened g v t)
opened_at-member g v t Observed k o e = member-opened_observed g v t k o e
opened_at-member g v t Shifted k o e =
    let w = and_then-some (λ P. opened_shifted g.size v.tracking P t k) v.prediction o e in
    predicted-member g v w.0 t o w.1 (append-Member_left (shifted_ones g.size v.tracking w.0 t) _ o
    (member-shifted_ones g.size v.tracking w.0 t k o w.2))
opened_at-member g v t Doubled k o e =
    let w = and_then-some (λ P. opened_doubled g.size v.tracking P t k) v.prediction o e in
    predicted-member g v w.0 t o w.1 (append-Member_right (shifted_ones g.size v.tracking w.0 t) _ o
    (member-doubled_ones g.size v.tracking w.0 t k o w.2))

-- each line that is kept is kept under a kind and a number
pub opened-at : (g : Grid) (v : Levels) (t : AccessList) (o : Opened) → Member o (opened g v t)
    → (kind : LineKind) × (k : ℕ) × (opened_at g v t kind k ≡ Some o)
opened-at g v t o m = elim (opened-member g v t o m) [
  | inl w ↦ (Observed, w.0, w.1)
  | inr q ↦ elim q.2.one [
    | inl e ↦ (
      Shifted,
      q.2.number,
      ap (option_and_then (λ P. opened_shifted g.size v.tracking P t q.2.number)) q.1 ∙ e,
    )
    | inr e ↦ (
      Doubled,
      q.2.number,
      ap (option_and_then (λ P. opened_doubled g.size v.tracking P t q.2.number)) q.1 ∙ e,
    )
  ]
]

-- each line that is kept is one of an allowed layout, and may start by the end of the list
pub good_lines : (g : Grid) (v : Levels) (t : AccessList) (o : Opened) → MayKeep g v
    → Member o (opened g v t) → (is_layout o.line.size o.line.offset ≡ true) × (o.from ≤ length t)
good_lines g v t o may m =
    let w = opened-at g v t o m in
    let is = opened_at-is g v t w.0 w.1 o may w.2 in
    (is.layout, is.from)

-- The lines of a list by their kinds and numbers.
pub record AreStated (g : Grid) (os : List Opened) (f : LineKind → ℕ → Option Opened) : Type 0 where
  pub there : (kind : LineKind) (k : ℕ) (o : Opened) → f kind k ≡ Some o
      → (o.kind ≡ kind) × (line_of_base g (range_of o.line) ≡ k) × Member o os
  pub each : (o : Opened) → Member o os → (kind : LineKind) × (k : ℕ) × (f kind k ≡ Some o)

opened-stated : (g : Grid) (v : Levels) (t : AccessList) → MayKeep g v
    → AreStated g (opened g v t) (opened_at g v t)
opened-stated g v t may = record {
  there = λ kind k o e. let is = opened_at-is g v t kind k o may e in
      (is.kind, is.number, opened_at-member g v t kind k o e);
  each = opened-at g v t;
}

-- What an access is noted in: the lines that were kept, and the one that it begins to observe.
abbrev pub noted_at : Grid → Levels → AccessList → Touch → LineKind → ℕ → Option Opened
noted_at g v t a Observed k = opened_observed g v.tracking (t ++ a ∷ []) k
noted_at g v t a Shifted k = opened_at g v t Shifted k
noted_at g v t a Doubled k = opened_at g v t Doubled k

pub noted-stated : (g : Grid) (v : Levels) (t : AccessList) (a : Touch) → MayKeep g v
    → 0 < v.tracking
    → AreStated g (opened g v t ++ option_to_list (observed_now g v.tracking t a)) (noted_at g v t a)
noted-stated g v t a may some = record {
  there = there;
  each = λ o m. elim (Member-append (opened g v t) now o m) [
    | inl old ↦ let w = opened-at g v t o old in (w.0, w.1, stays w.0 w.1 o w.2)
    | inr new ↦
        let w = observed_ones-member g v.tracking (t ++ a ∷ []) o
        (Member-permutation (observed_ones g v.tracking (t ++ a ∷ [])) (ones ++ now) o
        (observed_ones-push g v.tracking t a some) (append-Member_right ones now o new)) in
        (Observed, w.0, w.1)
  ];
}
  where
    now : List Opened
    now = option_to_list (observed_now g v.tracking t a)

    ones : List Opened
    ones = observed_ones g v.tracking t

    stays : (kind : LineKind) (k : ℕ) (o : Opened) → opened_at g v t kind k ≡ Some o
        → noted_at g v t a kind k ≡ Some o
    stays Observed k o e = opened_observed-stays g v.tracking t (a ∷ []) k o e
    stays Shifted k o e = e
    stays Doubled k o e = e

    before : (kind : LineKind) (k : ℕ) (o : Opened) → opened_at g v t kind k ≡ Some o
        → (o.kind ≡ kind) × (line_of_base g (range_of o.line) ≡ k) × Member o (opened g v t ++ now)
    before kind k o e = let is = opened_at-is g v t kind k o may e in (
      is.kind,
      is.number,
      append-Member_left (opened g v t) now o
          (opened_at-member g v t kind k o e),
    )

    there : (kind : LineKind) (k : ℕ) (o : Opened) → noted_at g v t a kind k ≡ Some o
        → (o.kind ≡ kind) × (line_of_base g (range_of o.line) ≡ k) × Member o (opened g v t ++ now)
    there Observed k o e =
        let is = observed-at g v (t ++ a ∷ []) k o may.allowed e in
        let m = Member-permutation (ones ++ now) (observed_ones g v.tracking (t ++ a ∷ [])) o
        (IsPermutation-sym (observed_ones g v.tracking (t ++ a ∷ [])) (ones ++ now)
        (observed_ones-push g v.tracking t a some))
        (member-observed_ones g v.tracking (t ++ a ∷ []) k o e) in (
          is.kind,
          is.number,
          elim (Member-append ones now o m) [
            | inl old ↦ append-Member_left (opened g v t) now o (append-Member_left ones _ o old)
            | inr new ↦ append-Member_right (opened g v t) now o new
          ],
        )
    there Shifted k o e = before Shifted k o e
    there Doubled k o e = before Doubled k o e

-- The first of a list that passes a test.
find-some : (test : TrackValue → Bool) (xs : List TrackValue) (x : TrackValue) → find test xs ≡ Some x → Member x xs
    × (test x ≡ true)
find-some test [] x e = absurd (none-some x e)
find-some test (y ∷ xs) x e =
    elim (cases_Bool (test y)) [
      | inl passes ↦
          let k : Some y ≡ Some x = rw passes at e in
          (inl (sym (same_Some y x k)), ap test (sym (same_Some y x k)) ∙ passes)
      | inr fails ↦
          let k : find test xs ≡ Some x = rw fails at e in
          let w = find-some test xs x k in (inr w.0, w.1)
    ]

find-none : (test : TrackValue → Bool) (xs : List TrackValue) (x : TrackValue) → find test xs ≡ None → Member x xs
    → test x ≡ true → ⊥
find-none test [] x e m h = m
find-none test (y ∷ xs) x e m h =
    elim (cases_Bool (test y)) [
      | inl passes ↦ let k : Some y ≡ None = rw passes at e in none-some y (sym k)
      | inr fails ↦
          let k : find test xs ≡ None = rw fails at e in
          elim m [
            | inl here ↦ false≢true (sym fails ∙ (ap test (sym here) ∙ h))
            | inr later ↦ find-none test xs x k later h
          ]
    ]

Member-map : (f : Opened → TrackValue) (os : List Opened) (x : TrackValue) → Member x (map f os) → (o : Opened)
    × Member o os × (x ≡ f o)
Member-map f [] x m = absurd m
Member-map f (o ∷ os) x m = elim m [
  | inl here ↦ (o, inl refl, here)
  | inr later ↦ let w = Member-map f os x later in (w.0, inr w.1, w.2)
]

map-Member : (f : Opened → TrackValue) (os : List Opened) (o : Opened) → Member o os
    → Member (f o) (map f os)
map-Member f [] o m = absurd m
map-Member f (p ∷ os) o m = elim m [
  | inl here ↦ inl (ap f here)
  | inr later ↦ inr (map-Member f os o later)
]

-- their tracks, in any order, by kind and number
pub looked_up : (g : Grid) (t : AccessList) (os : List Opened) (f : LineKind → ℕ → Option Opened)
    (xs : List TrackValue) → AreStated g os f → IsPermutation xs (map (kept_in t) os)
    → (kind : LineKind) (k : ℕ) → track_named g kind k xs ≡ option_map (kept_in t) (f kind k)
looked_up g t os f xs stated perm kind k =
    elim (slice_cases (find (is_named g kind k) xs)) [
      | inl none ↦ elim (slice_cases (f kind k)) [
        | inl nothing ↦ none ∙ sym (ap (option_map (kept_in t)) nothing)
        | inr some ↦
            let w = stated.there kind k some.0 some.1 in
            absurd (find-none (is_named g kind k) xs (kept_in t some.0) none
            (Member-permutation xs (map (kept_in t) os) (kept_in t some.0) perm
            (map-Member (kept_in t) os some.0 w.2))
            (is_named-from g kind k (kept_in t some.0) w.0 w.1))
      ]
      | inr there ↦
          let w = find-some (is_named g kind k) xs there.0 there.1 in
          let m = Member-map (kept_in t) os there.0 (Member-permutation (map (kept_in t) os) xs
          there.0 (IsPermutation-sym xs (map (kept_in t) os) perm) w.0) in
          let is = is_named-true g kind k (kept_in t m.0)
          (ap (is_named g kind k) (sym m.2) ∙ w.1) in
          let q = stated.each m.0 m.1 in
          let r = stated.there q.0 q.1 m.0 q.2 in
          there.1 ∙ ap Some m.2 ∙ sym (ap (option_map (kept_in t))
          (ap (λ j. f j k) (sym is.0 ∙ r.0) ∙ ap (f q.0) (sym is.1 ∙ r.1) ∙ q.2))
    ]

-- where the tracks are those of a list
pub stated_tracks : (t : AccessList) (w : Watch) → is_layout w.grid.size w.grid.offset ≡ true
    → IsTrue (may_predict w.grid w.levels) → StandsFor t w → HasEach t w
stated_tracks t w allowed may stands =
    looked_up w.grid t (opened w.grid w.levels t) (opened_at w.grid w.levels t) w.tracks
    (opened-stated w.grid w.levels t (record { allowed = allowed; may = may })) stands.tracks
