-- What begins and opens at a write is named.
use Rattle.std.proofs.Common.{◌≡◌, ◌≢◌, ℕ, zero, suc, ◌+◌, ◌-◌, ◌*◌, ◌<◌, ◌≤◌, ◌^◌, Bool, true}
use Rattle.std.proofs.Common.{false, eqb, ◌&&◌, List, [], ◌∷◌, ◌++◌, Option, Some, None, length}
use Rattle.std.proofs.Common.{take, refl, sym, ap, ◌∙◌, subst, arith, inl, inr}
use Rattle.std.proofs.lemmas.Bool.{cases_Bool, false≢true, eqb-true}
use Rattle.std.proofs.lemmas.Option.{same_Some, none-some}
use Rattle.std.proofs.lemmas.List.{append-nil, append_assoc, length-append, take_at, take-take}
use Rattle.std.proofs.lemmas.List.{set_at}
use Rattle.std.specs.Prelude.{if◌then◌else◌, is_some, slice_get, slice_set, option_map}
use Rattle.std.specs.Option.{option_or}
use Rattle.base.specs.Lines.{Grid}
use Rattle.base.specs.Touch.{Touch}
use Rattle.base.specs.declared.layout.Range.{Range}
use Rattle.detector.specs.declared.line_entry.LineEntry.{LineEntry}
use Rattle.sharing_rules.specs.Lines.{grid_line, range_of, native_grid}
use Rattle.sharing_rules.specs.Listed.{rank}
use Rattle.sharing_rules.specs.Opened.{even_lower}
use Rattle.sharing_rules.specs.declared.line_kind.LineKind.{LineKind}
use Rattle.sharing_rules.specs.declared.line_kind.LineKind.TheVariants.{Observed, Shifted, Doubled}
use Rattle.line_tracks.specs.TrackValue.{IsBlank, IsInTime, TrackValue, waiting}
use Rattle.detector.specs.declared.openings.Openings.{Openings}
use Rattle.detector.specs.declared.task.OpenedTracks.{OpenedTracks}
use Rattle.detector.specs.Named.{track_named}
use Rattle.detector.specs.Index.{IsIndexed, IsNamed, IsReached, IsShaped, Names, names_in}
use Rattle.detector.specs.Openings.{best_of_two, doubled_opens, nothing_opens, opened_tracks}
use Rattle.detector.specs.Openings.{openings, shifted_opens, waiting_for}
use Rattle.detector.specs.Pairs.{AreShaped}
use Rattle.detector.specs.Tasks.{opened_places, settled, tracks_begun, with_name}
use Rattle.detector.specs.Watch.{begun}
use Rattle.detector.proofs.NamedLaws.{named-more-as, same_name, with_name-here, with_name-other}
use Rattle.detector.proofs.NamedLaws.{is_some-kept}
use Rattle.detector.proofs.ShapeLaws.{shaped-line}
use Rattle.detector.proofs.InTimeLaws.{noted-blank, noted-in_time, noted-kind, noted-range}
use Rattle.sharing_rules.specs.Laws.Lists.{slice_get-push}

-- a name that was there already, and none
pub with_name-same : (N : Names) (kind : LineKind) (k : ℕ) → with_name N kind k (N kind k) ≡ N
with_name-same N kind k = λ i j q. each j q i
  where
    or_same : (o : Option ℕ) → option_or o o ≡ o
    or_same None = refl
    or_same (Some x) = refl

    each : (j : LineKind) (q : ℕ) → with_name N kind k (N kind k) j q ≡ N j q
    each j q =
        elim (same_name kind j k q) [
          | inl is ↦
              ap (λ z. with_name N kind k (N kind k) z q) is.0
              ∙ ap (with_name N kind k (N kind k) kind) is.1
              ∙ with_name-here N kind k (N kind k) ∙ or_same (N kind k) ∙ ap (N kind) (sym is.1)
              ∙ ap (λ z. N z q) (sym is.0)
          | inr other ↦ with_name-other N kind j k q (N kind k) other
        ]

pub with_name-none : (N : Names) (kind : LineKind) (k : ℕ) → with_name N kind k None ≡ N
with_name-none N kind k = λ i j q. each j q i
  where
    each : (j : LineKind) (q : ℕ) → with_name N kind k None j q ≡ N j q
    each j q = elim (cases_Bool (eqb (rank j) (rank kind) && eqb q k)) [
      | inl t ↦ rw t
      | inr f ↦
          rw f
    ]

-- the line's own track, where it begins
pub begun-named : (N : Names) (g : Grid) (xs : List TrackValue) (k p : ℕ) (a : Touch) (begins : Bool)
    (own : Option ℕ) → IsNamed N g xs
    → 0 < g.size → IsReached g k → (begins ≡ true → N Observed k ≡ None)
    → own ≡ (if begins then Some (length xs) else N Observed k)
    → IsNamed (with_name N Observed k own) g (tracks_begun g k p a begins xs)
begun-named N g xs k p a true own named some reached none is =
    let range : (begun g k p a).range ≡ range_of (grid_line g k) =
    noted-range (waiting Observed (range_of (grid_line g k))) p a in
    let shaped : IsShaped g k Observed (begun g k p a).range = (range, reached) in
    subst (λ o. IsNamed (with_name N Observed k o) g (xs ++ begun g k p a ∷ [])) (sym is)
    (named-more-as N g xs (begun g k p a) Observed k named
    (noted-kind (waiting Observed (range_of (grid_line g k))) p a)
    (shaped-line g k Observed (begun g k p a).range some shaped) (none refl) shaped)
begun-named N g xs k p a false own named some reached none is =
    rw (is, with_name-same N Observed k, append-nil xs) named

-- a range that opens, if there is one
pub waiting-named : (N : Names) (g : Grid) (xs : List TrackValue) (kind : LineKind) (k : ℕ)
    (o : Option Range) → IsNamed N g xs → 0 < g.size
    → ((r : Range) → o ≡ Some r → (N kind k ≡ None) × IsShaped g k kind r)
    → IsNamed (with_name N kind k (option_map (λ r. length xs) o)) g
    (xs ++ waiting_for kind o)
waiting-named N g xs kind k None named some opens =
    rw (with_name-none N kind k, append-nil xs) named
waiting-named N g xs kind k (Some r) named some opens =
    let w = opens r refl in
    named-more-as N g xs (waiting kind r) kind k named refl
    (shaped-line g k kind r some w.1) w.0 w.1

pub none_from : (o : Option ℕ) → is_some o ≡ false → o ≡ None
none_from None e = refl
none_from (Some x) e = absurd (false≢true (sym e))

-- where something opens there was nothing, and the lower line has a track of its own
abbrev pub Opens : Names → LineKind → ℕ → Type 0
Opens N kind k = (N kind k ≡ None) × ((i : ℕ) × (N Observed k ≡ Some i))

own_some : (lower upper : Option TrackValue) (within : ℕ) (p : ℕ × ℕ) → best_of_two lower upper within
    ≡ Some p → is_some lower ≡ true
own_some None upper within p e = absurd (none-some p e)
own_some (Some x) upper within p e = refl

some_of : (o : Option ℕ) → is_some o ≡ true → (i : ℕ) × (o ≡ Some i)
some_of None e = absurd (false≢true e)
some_of (Some i) e = (i, refl)

opens_from : (was : Bool) (o : Option (ℕ × ℕ)) (f : ℕ × ℕ → Range) (r : Range)
    → (if was then None else option_map f o) ≡ Some r
    → (was ≡ false) × ((p : ℕ × ℕ) × (o ≡ Some p))
opens_from true o f r e = absurd (none-some r e)
opens_from false None f r e = absurd (none-some r e)
opens_from false (Some p) f r e = (refl, (p, refl))

opens_by : (N : Names) (g : Grid) (xs : List TrackValue) (kind : LineKind) (k within : ℕ)
    (f : ℕ × ℕ → Range) (r : Range) → IsNamed N g xs
    → (if is_some (track_named g kind k xs) then None
    else option_map f (best_of_two (track_named g Observed k xs)
    (track_named g Observed (k + 1) xs) within)) ≡ Some r → Opens N kind k
opens_by N g xs kind k within f r named e =
    let w = opens_from (is_some (track_named g kind k xs)) (best_of_two
    (track_named g Observed k xs) (track_named g Observed (k + 1) xs) within) f r e in (
      none_from (N kind k) (sym (is_some-kept N g xs kind k named) ∙ w.0),
      some_of (N Observed k) (sym (is_some-kept N g xs Observed k named)
          ∙ own_some (track_named g Observed k xs) (track_named g Observed (k + 1) xs) within
          w.1.0 w.1.1),
    )

pub shifted-opens : (N : Names) (g : Grid) (xs : List TrackValue) (k : ℕ) (r : Range) → IsNamed N g xs
    → shifted_opens g k xs ≡ Some r
    → Opens N Shifted k
shifted-opens N g xs k r named e = opens_by N g xs Shifted k g.size _ r named e

pub doubled-opens : (N : Names) (g : Grid) (xs : List TrackValue) (k : ℕ) (r : Range) → IsNamed N g xs
    → doubled_opens g k xs ≡ Some r
    → Opens N Doubled k
doubled-opens N g xs k r named e = opens_by N g xs Doubled k (2 * g.size) _ r named e

-- what opens at a write is named as the entries are settled
pub opened-named : (N : Names) (g : Grid) (xs : List TrackValue) (k : ℕ) (own : Option ℕ) (o : Openings)
    → IsNamed (with_name N Observed k own) g xs → 0 < g.size → 1 ≤ k → g.offset ≡ 0
    → o ≡ openings g k xs → AreShaped g.size k o
    → IsNamed (settled N k own (opened_places xs o)) g (xs ++ opened_tracks o)
opened-named N g xs k own o named some low none is shaped =
    let b = waiting_for Shifted o.below in
    let h = waiting_for Shifted o.here in
    let d = waiting_for Doubled o.doubled in
    let N₁ = with_name N Observed k own in
    let N₂ = with_name N₁ Shifted (k - 1) (option_map (λ r. length xs) o.below) in
    let N₃ = with_name N₂ Shifted k (option_map (λ r. length (xs ++ b)) o.here) in
    let apart : k ≢ k - 1 = λ e. absurd (omega arith) in
    let at_grid : native_grid g.size ≡ g = λ i. record { size = g.size; offset = sym none i } in
    let first : IsNamed N₂ g (xs ++ b) =
    waiting-named N₁ g xs Shifted (k - 1) o.below named some (λ r e. (
      (shifted-opens N₁ g xs (k - 1) r named (ap (λ (z : Openings). z.below) (sym is) ∙ e)).0,
      subst (λ q. IsShaped q (k - 1) Shifted r) at_grid (shaped.below r e),
    )) in
    let second : IsNamed N₃ g ((xs ++ b) ++ h) =
    waiting-named N₂ g (xs ++ b) Shifted k o.here first some (λ r e. (
      with_name-other N₁ Shifted Shifted (k - 1) k (option_map (λ r. length xs) o.below)
          (λ q. apart q.1)
          ∙ (shifted-opens N₁ g xs k r named (ap (λ (z : Openings). z.here) (sym is) ∙ e)).0,
      subst (λ q. IsShaped q k Shifted r) at_grid (shaped.here r e),
    )) in
    let third : IsNamed (with_name N₃ Doubled (even_lower k)
    (option_map (λ r. length ((xs ++ b) ++ h)) o.doubled)) g (((xs ++ b) ++ h) ++ d) =
    waiting-named N₃ g ((xs ++ b) ++ h) Doubled (even_lower k) o.doubled second some (λ r e. (
      (doubled-opens N₁ g xs (even_lower k) r named
          (ap (λ (z : Openings). z.doubled) (sym is) ∙ e)).0,
      subst (λ q. IsShaped q (even_lower k) Doubled r) at_grid (shaped.doubled r e),
    )) in
    let joined : ((xs ++ b) ++ h) ++ d ≡ xs ++ ((b ++ h) ++ d) = simp append_assoc in
    subst (λ zs. IsNamed (settled N k own (opened_places xs o)) g zs) joined third

-- where nothing opens
pub unopened-named : (N : Names) (g : Grid) (xs : List TrackValue) (k : ℕ) (own : Option ℕ)
    → IsNamed (with_name N Observed k own) g xs
    → IsNamed (settled N k own (opened_places xs nothing_opens)) g
    (xs ++ opened_tracks nothing_opens)
unopened-named N g xs k own named =
    let same : settled N k own (opened_places xs nothing_opens)
    ≡ with_name N Observed k own =
    with_name-none (with_name (with_name (with_name N Observed k own) Shifted (k - 1) None) Shifted
    k None) Doubled (even_lower k)
    ∙ with_name-none (with_name (with_name N Observed k own) Shifted (k - 1) None) Shifted k
    ∙ with_name-none (with_name N Observed k own) Shifted (k - 1) in
    rw (same, append-nil xs) named

-- one element more at the end
pub added-at : (xs ys : List TrackValue) (x : TrackValue) (i : ℕ) → ys ≡ xs ++ x ∷ [] → i ≡ length xs
    → slice_get ys i ≡ Some x
added-at xs ys x i added at = rw (added, at) (slice_get-push xs x)

-- it is changed there
pub set_end : {X : Type 0} (xs : List X) (x y : X) (n : ℕ) → n ≡ length xs
    → slice_set (xs ++ x ∷ []) n y ≡ xs ++ y ∷ []
set_end xs x y n e = set_at xs x [] y n (sym e)

-- what is cut back to the front of a front
pub front_of_front : {X : Type 0} (xs ys zs : List X) → take (length (xs ++ ys)) zs ≡ xs ++ ys
    → take (length xs) zs ≡ xs
front_of_front xs ys zs e =
    let shorter : length xs ≤ length (xs ++ ys) = omega (arith, length-append xs ys) in
    sym (take-take (length xs) (length (xs ++ ys)) zs shorter) ∙ ap (take (length xs)) e
    ∙ take_at xs ys (length xs) refl

-- what holds of each track
abbrev pub Each : (TrackValue → Type 0) → List TrackValue → Type 0
Each P xs = (i : ℕ) (x : TrackValue) → slice_get xs i ≡ Some x → P x

each_append : (P : TrackValue → Type 0) (xs ys : List TrackValue) → Each P xs → Each P ys → Each P (xs ++ ys)
each_append P [] ys h k i x e = k i x e
each_append P (z ∷ xs) ys h k zero x e = h zero x e
each_append P (z ∷ xs) ys h k (suc i) x e = each_append P xs ys (λ j. h (suc j)) k i x e

each_one : (P : TrackValue → Type 0) (y : TrackValue) → P y → Each P (y ∷ [])
each_one P y h zero x e = subst P (same_Some y x e) h
each_one P y h (suc i) x e = absurd (none-some x e)

each_none : (P : TrackValue → Type 0) → Each P []
each_none P i x e = absurd (none-some x e)

each_waiting : (P : TrackValue → Type 0) (kind : LineKind) (o : Option Range)
    → ((r : Range) → P (waiting kind r)) → Each P (waiting_for kind o)
each_waiting P kind None h = each_none P
each_waiting P kind (Some r) h = each_one P (waiting kind r) (h r)

-- in time, and blank without a start
abbrev IsSound : ℕ → TrackValue → Type 0
IsSound p x = IsInTime x p × (x.start ≡ None → IsBlank x)

waiting-sound : (p : ℕ) (kind : LineKind) (r : Range) → IsSound p (waiting kind r)
waiting-sound p kind r = (tt, λ e. record { count = refl; words = refl })

begun-sound : (g : Grid) (k p : ℕ) (a : Touch) → IsSound (p + 1) (begun g k p a)
begun-sound g k p a =
    let w : IsSound p (waiting Observed (range_of (grid_line g k))) =
    waiting-sound p Observed (range_of (grid_line g k)) in (
      noted-in_time (waiting Observed (range_of (grid_line g k))) p a w.0 w.1,
      noted-blank (waiting Observed (range_of (grid_line g k))) p a
          w.1,
    )

changed-sound : (g : Grid) (xs : List TrackValue) (k p : ℕ) (a : Touch) (begins : Bool) (o : Openings)
    → Each (IsSound (p + 1)) xs
    → Each (IsSound (p + 1)) (tracks_begun g k p a begins xs ++ opened_tracks o)
changed-sound g xs k p a begins o old =
    each_append (IsSound (p + 1)) (tracks_begun g k p a begins xs) (opened_tracks o)
    (each_append (IsSound (p + 1)) xs (if begins then begun g k p a ∷ [] else []) old (new begins))
    (each_append (IsSound (p + 1)) (waiting_for Shifted o.below ++ waiting_for Shifted o.here)
    (waiting_for Doubled o.doubled)
    (each_append (IsSound (p + 1)) (waiting_for Shifted o.below) (waiting_for Shifted o.here)
    (each_waiting (IsSound (p + 1)) Shifted o.below (waiting-sound (p + 1) Shifted))
    (each_waiting (IsSound (p + 1)) Shifted o.here (waiting-sound (p + 1) Shifted)))
    (each_waiting (IsSound (p + 1)) Doubled o.doubled (waiting-sound (p + 1) Doubled)))
  where
    new : (b : Bool) → Each (IsSound (p + 1)) (if b then begun g k p a ∷ [] else [])
    new true = each_one (IsSound (p + 1)) (begun g k p a) (begun-sound g k p a)
    new false = each_none (IsSound (p + 1))

-- the entries name the tracks after what was due began and opened
pub changed-indexed : (f h : ℕ → LineEntry) (g : Grid) (xs ys : List TrackValue) (T p k : ℕ) (a : Touch)
    (begins : Bool) (own : Option ℕ)
    (o : Openings) (places : OpenedTracks) → IsIndexed f g xs T (p + 1)
    → ys ≡ tracks_begun g k p a begins xs ++ opened_tracks o → names_in h
    ≡ settled (names_in f) k own places
    → IsNamed (settled (names_in f) k own places) g
    (tracks_begun g k p a begins xs ++ opened_tracks o)
    → own ≡ (if begins then Some (length xs) else (f k).track)
    → (begins ≡ true → (f k).writes + 1 ≡ T) → (f k).writes ≤ p
    → ((q : ℕ) → (h q).writes ≡ (if eqb q k then (f k).writes + 1 else (f q).writes))
    → length ys ≤ 2 ^ 31 → IsIndexed h g ys T (p + 1)
changed-indexed f h g xs ys T p k a begins own o places indexed is names named own_is due written
    writes few =
    let sound : Each (IsSound (p + 1)) ys = subst (Each (IsSound (p + 1))) (sym is)
    (changed-sound g xs k p a begins o (λ i x e. (indexed.in_time i x e, indexed.blank i x e))) in
    record {
      names = subst (λ (N : Names). IsNamed N g ys) (sym names)
          (subst (IsNamed (settled (names_in f) k own places) g) (sym is) named);
      late = λ q i e. late q i (sym (ap (λ (N : Names). N Observed q) names) ∙ e);
      written = λ q.
          elim (cases_Bool (eqb q k)) [
            | inl here ↦ rw (writes q, here) (omega arith)
            | inr other ↦ let d = indexed.written q in rw (writes q, other) d
          ];
      in_time = λ i x e. (sound i x e).0;
      blank = λ i x e. (sound i x e).1;
      few = few;
    }
  where
    by_begins : (b : Bool) (i : ℕ) → begins ≡ b → own
        ≡ (if b then Some (length xs) else (f k).track) → option_or own (f k).track ≡ Some i
        → T ≤ (f k).writes + 1
    by_begins true i e is at = let d = due e in omega arith
    by_begins false i e is at =
        let track : (f k).track ≡ Some i = sym (or_itself (f k).track)
        ∙ ap (λ z. option_or z (f k).track) (sym is) ∙ at in
        let d = indexed.late k i track in omega arith
      where
        or_itself : (z : Option ℕ) → option_or z z ≡ z
        or_itself None = refl
        or_itself (Some x) = refl

    late : (q i : ℕ) → (if eqb q k then option_or own (f q).track else (f q).track) ≡ Some i
        → T ≤ (h q).writes
    late q i e =
        elim (cases_Bool (eqb q k)) [
          | inl here ↦
              let same : q ≡ k = eqb-true q k here in
              let at = rw (here, same) at e in
              rw (writes q, here) (by_begins begins i refl own_is at)
          | inr other ↦ let at = rw other at e in rw (writes q, other) (indexed.late q i at)
        ]

-- the tracks that were there are kept
pub kept-after : (xs ys zs : List TrackValue) → zs ≡ xs ++ ys → take (length xs) zs ≡ xs
kept-after xs ys zs is = ap (take (length xs)) is ∙ take_at xs ys (length xs) refl

-- three tracks that open, one after the other
pub opened-all : (xs ys zs ws : List TrackValue) (o : Openings) → ys ≡ xs ++ waiting_for Shifted o.below
    → zs ≡ ys ++ waiting_for Shifted o.here → ws ≡ zs ++ waiting_for Doubled o.doubled → ws ≡ xs
    ++ opened_tracks o
opened-all xs ys zs ws o below here doubled =
    rw (doubled, here, below) (simp append_assoc)

-- and their places
pub opened-where : (xs ys zs : List TrackValue) (o : Openings) (b h d : Option ℕ) → ys ≡ xs
    ++ waiting_for Shifted o.below
    → zs ≡ ys ++ waiting_for Shifted o.here → b ≡ option_map (λ r. length xs) o.below → h
    ≡ option_map (λ r. length ys) o.here
    → d ≡ option_map (λ r. length zs) o.doubled
    → ◌≡◌ {A = OpenedTracks} (record { below = b; here = h; doubled = d }) (opened_places xs o)
opened-where xs ys zs o b h d below here at at_here at_doubled =
    rw (at, at_here, at_doubled, here, below)
