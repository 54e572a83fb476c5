-- One access more keeps that a detector stands for a list, over the definitions alone.
use Rattle.std.proofs.Common.{◌≡◌, ℕ, suc, ◌+◌, ◌-◌, ◌*◌, ◌%◌, ◌<◌, ◌≤◌, Bool, true, false, eqb}
use Rattle.std.proofs.Common.{◌&&◌, List, [], ◌∷◌, ◌++◌, Option, Some, None, map, length, refl}
use Rattle.std.proofs.Common.{sym, ap, ◌∙◌, subst, arith, inl, inr, length-append}
use Rattle.std.proofs.lemmas.Bool.{cases_Bool, eqb-true, eqb-false, eq-eqb, ne_eqb}
use Rattle.std.proofs.lemmas.List.{map-append, append_assoc}
use Rattle.std.proofs.lemmas.List.Sorted.{IsPermutation-append_left, IsPermutation-map}
use Rattle.std.proofs.lemmas.List.Sorted.{IsPermutation-sym, IsPermutation-trans}
use Rattle.std.specs.Prelude.{if◌then◌else◌, is_some, option_map, option_and_then}
use Rattle.std.specs.Prelude.{option_to_list}
use Rattle.std.specs.Option.{option_map_or}
use Rattle.std.specs.List.Sorted.{IsPermutation}
use Rattle.base.specs.Touch.{Touch, is_write}
use Rattle.base.specs.Lines.{Grid, is_layout, line_number}
use Rattle.base.specs.Levels.{Levels}
use Rattle.base.specs.Ranges.{holds_address}
use Rattle.sharing_rules.specs.AccessLists.{AccessList, writes_to}
use Rattle.sharing_rules.specs.Lines.{Line, grid_line, is_inside, range_of, native_grid}
use Rattle.sharing_rules.specs.Lines.{native_line}
use Rattle.sharing_rules.specs.Members.{Member}
use Rattle.sharing_rules.specs.Observed.{write_count, observed_start}
use Rattle.sharing_rules.specs.Opened.{Opened, observed_from, shifted_after, doubled_after, opened}
use Rattle.sharing_rules.specs.Opened.{opened_doubled, opened_now, opened_observed, opened_shifted}
use Rattle.sharing_rules.specs.Opened.{doubled_now, even_lower, observed_now, predicted_now}
use Rattle.sharing_rules.specs.Opened.{shifted_now}
use Rattle.sharing_rules.specs.declared.line_kind.LineKind.{LineKind}
use Rattle.sharing_rules.specs.declared.line_kind.LineKind.TheVariants.{Observed, Shifted, Doubled}
use Rattle.sharing_rules.specs.Laws.Lists.{slice_cases, is_some-mapped}
use Rattle.detector.specs.Named.{number_of, track_named}
use Rattle.sharing_rules.specs.Predicted.{best_between, doubled_opening, is_candidate}
use Rattle.sharing_rules.specs.Predicted.{doubled_line, shifted_around, shifted_opening}
use Rattle.sharing_rules.specs.Laws.Opened.{opened-push, opened_shifted-is_some}
use Rattle.sharing_rules.specs.Laws.Opened.{opened_doubled-is_some}
use Rattle.sharing_rules.specs.Tracks.{track_since}
use Rattle.sharing_rules.specs.Words.{words_since}
use Rattle.sharing_rules.specs.Laws.Starts.{observed_start-first_write, write_count-push}
use Rattle.detector.specs.Openings.{best_among, best_of_two, doubled_opens, nothing_opens}
use Rattle.detector.specs.Openings.{opened_tracks, openings, shifted_opens}
use Rattle.line_tracks.specs.TrackValue.{IsTrackOf, TrackValue, note_kept, waiting}
use Rattle.line_tracks.specs.KeptIn.{kept_in}
use Rattle.line_tracks.specs.Laws.TrackValue.{kept-elsewhere, kept-new, kept-push, note-kind}
use Rattle.line_tracks.specs.Laws.TrackValue.{kept_in-IsTrackOf}
use Rattle.line_tracks.specs.Laws.WordLines.{inside-held, layout-sized}
use Rattle.std.proofs.Math.Bool.{and-true}
use Rattle.std.proofs.Math.Nat.{add-zero}
use Rattle.detector.specs.Counts.{count_at}
use Rattle.detector.specs.Standing.{StandsFor, opened_at}
use Rattle.detector.specs.Watch.{Watch, begins_track, begun, opens_at, touched}
use Rattle.detector.specs.Watch.{tracks_after, tracks_noted, watched, writes_after}
use Rattle.sharing_rules.specs.Listed.{may_predict}
use Rattle.std.specs.Prelude.{IsTrue}
use Rattle.detector.proofs.CountLaws.{count_at-with_write}
use Rattle.detector.proofs.StatedLaws.{MayKeep, good_lines, looked_up, noted-stated, noted_at, under}

-- a track by its kind, its range and what is traced of it
kept_of_track : (t : AccessList) (o : Opened) (x : TrackValue) → x.kind ≡ o.kind
    → IsTrackOf o.line o.from t x → x ≡ kept_in t o
kept_of_track t o x kind is = λ i. record {
  kind = kind i;
  range = is.range i;
  start = (is.traced_is i).start;
  entries = (is.traced_is i).entries;
  count = (is.traced_is i).count;
  words = (is.traced_is i).words;
}

-- what is kept of a line, after one access more
kept_noted : (t : AccessList) (a : Touch) (o : Opened) → is_layout o.line.size o.line.offset ≡ true
    → o.from ≤ length t
    → holds_address (range_of o.line) a.addr ≡ true
    → note_kept (kept_in t o) (length t) a ≡ kept_in (t ++ a ∷ []) o
kept_noted t a o allowed due holds =
    kept_of_track (t ++ a ∷ []) o (note_kept (kept_in t o) (length t) a)
    (note-kind (kept_in t o).start (kept_in t o) (length t) a)
    (kept-push o.line o.from t a (kept_in t o) (length t) allowed refl due holds
    (kept_in-IsTrackOf t o))

kept_touched : (t : AccessList) (a : Touch) (o : Opened) → is_layout o.line.size o.line.offset
    ≡ true → o.from ≤ length t
    → touched (length t) a (kept_in t o) ≡ kept_in (t ++ a ∷ []) o
kept_touched t a o allowed due =
    elim (cases_Bool (holds_address (range_of o.line) a.addr)) [
      | inl holds ↦ rw holds (kept_noted t a o allowed due holds)
      | inr misses ↦ rw misses (kept_of_track (t ++ a ∷ []) o (kept_in t o) refl
          (kept-elsewhere o.line o.from t a (kept_in t o) allowed misses (kept_in-IsTrackOf t o)))
    ]

-- a line that may start later only waits
kept_waiting : (t : AccessList) (o : Opened) → length t ≤ o.from → waiting o.kind (range_of o.line)
    ≡ kept_in t o
kept_waiting t o short = kept_of_track t o (waiting o.kind (range_of o.line)) refl
    (kept-new o.line o.from t o.kind (range_of o.line) refl short)

-- the line of the access that begins to be observed
kept_begun : (g : Grid) (t : AccessList) (a : Touch) → is_layout g.size g.offset ≡ true
    → begun g (line_number g.size g.offset a.addr) (length t) a ≡ kept_in (t ++ a ∷ [])
    (observed_from (grid_line g (line_number g.size g.offset a.addr)) (length t))
kept_begun g t a allowed =
    let o : Opened = observed_from (grid_line g (line_number g.size g.offset a.addr)) (length t) in
    let holds : holds_address (range_of o.line) a.addr ≡ true =
    inside-held o.line a.addr (layout-sized g.size g.offset allowed).0
    (eq-eqb _ _ refl) in
    ap (λ (x : TrackValue). note_kept x (length t) a) (kept_waiting t o (omega arith))
    ∙ kept_noted t a o allowed (omega arith) holds

-- the same over a list of lines
map_touched : (t : AccessList) (a : Touch) (os : List Opened)
    → ((o : Opened) → Member o os → (is_layout o.line.size o.line.offset ≡ true)
    × (o.from ≤ length t))
    → map (touched (length t) a) (map (kept_in t) os) ≡ map (kept_in (t ++ a ∷ [])) os
map_touched t a [] good = refl
map_touched t a (o ∷ os) good =
    let here = good o (inl refl) in
    rw (kept_touched t a o here.0 here.1, map_touched t a os (λ z m. good z (inr m)))

-- The best hot pair of two lines is that of their tracks.
words_kept : (T : ℕ) (l : Line) (t : AccessList) (s : ℕ) → observed_start T (is_inside l) t ≡ Some s
    → (kept_in t (observed_from l s)).words ≡ words_since l s t
words_kept T l t s e = ap (λ z. (track_since l t z).words)
    (observed_start-first_write T (is_inside l) t s e)

best_is : (n T within k : ℕ) (t : AccessList)
    → best_of_two (option_map (kept_in t) (opened_observed (native_grid n) T t k))
    (option_map (kept_in t) (opened_observed (native_grid n) T t (k + 1))) within
    ≡ best_between n T within k t
best_is n T within k t =
    elim (slice_cases (observed_start T (is_inside (native_line n k)) t)) [
      | inl none ↦ rw none
      | inr s ↦ elim (slice_cases (observed_start T (is_inside (native_line n (k + 1))) t)) [
        | inl none ↦ rw (s.1, none)
        | inr u ↦
            rw (
              s.1,
              u.1,
              words_kept T (native_line n k) t s.0 s.1,
              words_kept T (native_line n (k + 1)) t u.0 u.1,
            )
      ]
    ]

-- what opens at an access waits after it, unless something opened before
waits : (kind : LineKind) (t : AccessList) (line : ℕ × ℕ → Opened) (was : Bool) (o : Option (ℕ × ℕ))
    → ((p : ℕ × ℕ) → (line p).kind ≡ kind) → ((p : ℕ × ℕ) → length t ≤ (line p).from)
    → option_map (waiting kind) (if was then None else option_map (λ p. range_of (line p).line) o)
    ≡ option_map (kept_in t) (if was then None else option_map line o)
waits kind t line true o kinds later = refl
waits kind t line false None kinds later = refl
waits kind t line false (Some p) kinds later =
    ap Some (ap (λ j. waiting j (range_of (line p).line)) (sym (kinds p))
    ∙ kept_waiting t (line p) (later p))

-- The tracks in which an access is noted, by kind and line.
abbrev AreNoted : ℕ → Levels → AccessList → Touch → List TrackValue → Type 0
AreNoted n v t a xs = (kind : LineKind) (k : ℕ) → track_named (native_grid n) kind k xs
    ≡ option_map (kept_in (t ++ a ∷ [])) (noted_at (native_grid n) v t a kind k)

best_noted : (n : ℕ) (v : Levels) (t : AccessList) (a : Touch) (xs : List TrackValue) (within k : ℕ)
    → AreNoted n v t a xs
    → best_among (native_grid n) within k xs ≡ best_between n v.tracking within k (t ++ a ∷ [])
best_noted n v t a xs within k noted =
    rw (noted Observed k, noted Observed (k + 1)) (best_is n v.tracking within k (t ++ a ∷ []))

one_longer : (t : AccessList) (a : Touch) → length (t ++ a ∷ []) ≤ suc (length t)
one_longer t a = omega (arith, length-append t (a ∷ []))

opens_shifted : (n P : ℕ) (v : Levels) (t : AccessList) (a : Touch) (xs : List TrackValue) (k : ℕ)
    → v.prediction ≡ Some P → AreNoted n v t a xs
    → option_map (waiting Shifted) (shifted_opens (native_grid n) k xs)
    ≡ option_map (kept_in (t ++ a ∷ [])) (shifted_now n v.tracking P t a k)
opens_shifted n P v t a xs k some noted =
    let was : is_some (track_named (native_grid n) Shifted k xs)
    ≡ is_some (shifted_opening n v.tracking P k t) =
    ap is_some (noted Shifted k)
    ∙ is_some-mapped (kept_in (t ++ a ∷ [])) (opened_at (native_grid n) v t Shifted k)
    ∙ ap (λ p. is_some (option_and_then (λ Q. opened_shifted n v.tracking Q t k) p)) some
    ∙ opened_shifted-is_some n v.tracking P k t in
    rw (was, best_noted n v t a xs n k noted)
    (waits Shifted (t ++ a ∷ []) (λ p. shifted_after (length t) (shifted_around n k p))
    (is_some (shifted_opening n v.tracking P k t)) (best_between n v.tracking n k (t ++ a ∷ []))
    (λ p. refl) (λ p. one_longer t a))

opens_doubled : (n P : ℕ) (v : Levels) (t : AccessList) (a : Touch) (xs : List TrackValue) (k : ℕ)
    → v.prediction ≡ Some P → AreNoted n v t a xs
    → option_map (waiting Doubled) (doubled_opens (native_grid n) k xs)
    ≡ option_map (kept_in (t ++ a ∷ [])) (doubled_now n v.tracking P t a k)
opens_doubled n P v t a xs k some noted =
    let was : is_some (track_named (native_grid n) Doubled k xs)
    ≡ is_some (doubled_opening n v.tracking P k t) =
    ap is_some (noted Doubled k)
    ∙ is_some-mapped (kept_in (t ++ a ∷ [])) (opened_at (native_grid n) v t Doubled k)
    ∙ ap (λ p. is_some (option_and_then (λ Q. opened_doubled n v.tracking Q t k) p)) some
    ∙ opened_doubled-is_some n v.tracking P k t in
    rw (was, best_noted n v t a xs (2 * n) k noted)
    (waits Doubled (t ++ a ∷ []) (λ p. doubled_after (doubled_line n k) (length t))
    (is_some (doubled_opening n v.tracking P k t))
    (best_between n v.tracking (2 * n) k (t ++ a ∷ [])) (λ p. refl) (λ p. one_longer t a))

listed : (f : Opened → TrackValue) (o : Option Opened)
    → option_to_list (option_map f o) ≡ map f (option_to_list o)
listed f None = refl
listed f (Some x) = refl

its_write : (g : Grid) (a : Touch) → writes_to
    (is_inside (grid_line g (line_number g.size g.offset a.addr))) a ≡ is_write a.kind
its_write g a =
    let here : is_inside (grid_line g (line_number g.size g.offset a.addr)) a.addr ≡ true =
    eq-eqb _ _ refl in
    ap (λ b. is_write a.kind && b) here ∙ and-true (is_write a.kind)

-- What opens, where the layout is native.
abbrev opens_where : Bool → ℕ → AccessList → Touch → List TrackValue → Grid → List TrackValue
opens_where is P t a xs g =
    let k = line_number g.size g.offset a.addr in
    opened_tracks (if is && eqb ((write_count (is_inside (grid_line g k)) t + 1) % P) 0
    then openings g k xs else nothing_opens)

opens_as : (n P : ℕ) (v : Levels) (t : AccessList) (a : Touch) (xs : List TrackValue)
    → v.prediction ≡ Some P → AreNoted n v t a xs
    → opens_where (is_write a.kind) P t a xs (native_grid n)
    ≡ map (kept_in (t ++ a ∷ [])) (predicted_now n v.tracking P t a)
opens_as n P v t a xs some noted =
    ap (λ b. opens_where b P t a xs (native_grid n)) (sym (its_write (native_grid n) a))
    ∙ elim (cases_Bool (is_candidate n P (line_number n 0 a.addr) t a)) [
      | inl candidate ↦
          rw (
            candidate,
            opens_shifted n P v t a xs (line_number n 0 a.addr - 1) some noted,
            opens_shifted n P v t a xs (line_number n 0 a.addr) some noted,
            opens_doubled n P v t a xs (even_lower (line_number n 0 a.addr)) some noted,
          )
          (simp (listed, map-append, append_assoc))
      | inr quiet ↦ rw quiet
    ]

-- Where w stands for t: its test of an access has the result that the list determines.
same_test : (t : AccessList) (w : Watch) (k : ℕ) (is : Bool) (test : ℕ → Bool) → StandsFor t w
    → (is && test (count_at w.writes k)) ≡
    (is && test (write_count (is_inside (grid_line w.grid k)) t))
same_test t w k is test st = ap (λ c. is && test c) (st.writes k)

begins_as : (t : AccessList) (w : Watch) (a : Touch) → StandsFor t w
    → is_layout w.grid.size w.grid.offset ≡ true
    → (if begins_track w.levels.tracking w.writes (number_of w.grid a) a then begun w.grid
    (number_of w.grid a) w.position a ∷ [] else [])
    ≡ map (kept_in (t ++ a ∷ [])) (option_to_list (observed_now w.grid w.levels.tracking t a))
begins_as t w a st allowed =
    rw (
      same_test t w (number_of w.grid a) (is_write a.kind) (λ n. eqb (n + 1) w.levels.tracking) st,
      its_write w.grid a,
      st.position,
      kept_begun w.grid t a allowed,
    )
    (by_test (is_write a.kind && eqb (write_count
    (is_inside (grid_line w.grid (number_of w.grid a))) t + 1) w.levels.tracking))
  where
    o : Opened
    o = observed_from (grid_line w.grid (number_of w.grid a)) (length t)

    by_test : (b : Bool) → (if b then kept_in (t ++ a ∷ []) o ∷ [] else [])
        ≡ map (kept_in (t ++ a ∷ [])) (option_to_list (if b then Some o else None))
    by_test true = refl
    by_test false = refl

-- the tracks in which the access is noted
noted_as : (t : AccessList) (w : Watch) (a : Touch) → StandsFor t w → MayKeep w.grid w.levels
    → IsPermutation (tracks_noted w (number_of w.grid a) a)
    (map (kept_in (t ++ a ∷ [])) (opened w.grid w.levels t
    ++ option_to_list (observed_now w.grid w.levels.tracking t a)))
noted_as t w a st may =
    let os = opened w.grid w.levels t in
    let now = option_to_list (observed_now w.grid w.levels.tracking t a) in
    rw (
      begins_as t w a st may.allowed,
      map-append (kept_in (t ++ a ∷ [])) os now,
      st.position,
      ← map_touched t a os (λ o m. good_lines w.grid w.levels t o may m),
    )
    (IsPermutation-append_left (map (kept_in (t ++ a ∷ [])) now)
    (map (touched (length t) a) w.tracks) (map (touched (length t) a) (map (kept_in t) os))
    (IsPermutation-map (touched (length t) a) w.tracks (map (kept_in t) os) st.tracks))

opens_under : (g : Grid) (v : Levels) (P : ℕ) (t : AccessList) (a : Touch) (xs : List TrackValue)
    → IsTrue (may_predict g v) → v.prediction ≡ Some P
    → ((kind : LineKind) (k : ℕ) → track_named g kind k xs
    ≡ option_map (kept_in (t ++ a ∷ [])) (noted_at g v t a kind k))
    → opens_where (is_write a.kind) P t a xs g
    ≡ map (kept_in (t ++ a ∷ [])) (predicted_now g.size v.tracking P t a)
opens_under g v P t a xs may e noted =
    let u = under g v P may e in
    let native : native_grid g.size ≡ g = λ i. record { size = g.size; offset = sym u.offset i } in
    subst (λ h. ((kind : LineKind) (k : ℕ) → track_named h kind k xs
    ≡ option_map (kept_in (t ++ a ∷ [])) (noted_at h v t a kind k))
    → opens_where (is_write a.kind) P t a xs h
    ≡ map (kept_in (t ++ a ∷ [])) (predicted_now h.size v.tracking P t a)) native
    (opens_as g.size P v t a xs e) noted

opens_at-as : (t : AccessList) (w : Watch) (a : Touch) (xs : List TrackValue) → StandsFor t w
    → IsTrue (may_predict w.grid w.levels)
    → ((kind : LineKind) (k : ℕ) → track_named w.grid kind k xs
    ≡ option_map (kept_in (t ++ a ∷ [])) (noted_at w.grid w.levels t a kind k))
    → opened_tracks (opens_at w (number_of w.grid a) a xs) ≡ map (kept_in (t ++ a ∷ []))
    (option_map_or (λ P. predicted_now w.grid.size w.levels.tracking P t a) w.levels.prediction [])
opens_at-as t w a xs st may noted = elim (slice_cases w.levels.prediction) [
  | inl none ↦ rw none
  | inr some ↦
      rw (
        some.1,
        same_test t w (number_of w.grid a) (is_write a.kind) (λ c. eqb ((c + 1) % some.0) 0) st,
      )
      (opens_under w.grid w.levels some.0 t a xs may some.1 noted)
]

stands_tracks : (t : AccessList) (w : Watch) (a : Touch) → StandsFor t w → MayKeep w.grid w.levels
    → 0 < w.levels.tracking
    → IsPermutation (tracks_after w (number_of w.grid a) a)
    (map (kept_in (t ++ a ∷ [])) (opened w.grid w.levels (t ++ a ∷ [])))
stands_tracks t w a st may some =
    let f = kept_in (t ++ a ∷ []) in
    let g = w.grid in
    let v = w.levels in
    let os = opened g v t ++ option_to_list (observed_now g v.tracking t a) in
    let later = option_map_or (λ P. predicted_now g.size v.tracking P t a) v.prediction [] in
    let noted = tracks_noted w (number_of w.grid a) a in
    let one : IsPermutation noted (map f os) = noted_as t w a st may in
    let opens : opened_tracks (opens_at w (number_of w.grid a) a noted) ≡ map f later =
    opens_at-as t w a noted st may.may
    (looked_up g (t ++ a ∷ []) os (noted_at g v t a) noted (noted-stated g v t a may some) one) in
    let all : map f os ++ map f later ≡ map f (opened g v t ++ opened_now g v t a) =
    sym (map-append f os later) ∙ ap (map f) (append_assoc (opened g v t)
    (option_to_list (observed_now g v.tracking t a)) later) in
    let sized = (layout-sized g.size g.offset may.allowed).0 in
    IsPermutation-trans (noted ++ opened_tracks (opens_at w (number_of w.grid a) a noted))
    (map f os ++ map f later) (map f (opened g v (t ++ a ∷ [])))
    (subst (λ z. IsPermutation (noted ++ z) (map f os ++ map f later)) (sym opens)
    (IsPermutation-append_left (map f later) noted (map f os) one))
    (subst (λ z. IsPermutation z (map f (opened g v (t ++ a ∷ [])))) (sym all)
    (IsPermutation-map f (opened g v t ++ opened_now g v t a) (opened g v (t ++ a ∷ []))
    (IsPermutation-sym (opened g v (t ++ a ∷ [])) (opened g v t ++ opened_now g v t a)
    (opened-push g v t a (omega arith) some))))

stands_writes : (t : AccessList) (w : Watch) (a : Touch) → StandsFor t w → (k : ℕ)
    → count_at (writes_after (number_of w.grid a) a w.writes)
    k ≡ write_count (is_inside (grid_line w.grid k)) (t ++ a ∷ [])
stands_writes t w a st k =
    elim (cases_Bool (is_write a.kind)) [
      | inr reads ↦ rw (
        reads,
        write_count-push (is_inside (grid_line w.grid k)) t a,
        reads,
        add-zero,
      ) (st.writes k)
      | inl writes ↦
          rw (
            writes,
            write_count-push (is_inside (grid_line w.grid k)) t a,
            writes,
            count_at-with_write w.writes (line_number w.grid.size w.grid.offset a.addr) k,
          )
          (elim (cases_Bool (eqb k (line_number w.grid.size w.grid.offset a.addr))) [
            | inl here ↦
                let same : k ≡ line_number w.grid.size w.grid.offset a.addr = eqb-true _ _ here in
                let there : eqb (line_number w.grid.size w.grid.offset a.addr) k ≡ true =
                eq-eqb _ _ (sym same) in
                rw (here, there) (ap (λ z. count_at w.writes z + 1) (sym same)
                ∙ ap (λ z. z + 1) (st.writes k))
            | inr other ↦
                let away : eqb (line_number w.grid.size w.grid.offset a.addr) k ≡ false =
                ne_eqb _ _ (λ e. eqb-false _ _ other (sym e)) in
                rw (other, away, add-zero) (st.writes k)
          ])
    ]

-- Where a detector stands for a list, after one access more it stands for the list with the access.
pub stands_watched : (t : AccessList) (a : Touch) (w : Watch) → is_layout w.grid.size w.grid.offset
    ≡ true
    → IsTrue (may_predict w.grid w.levels) → 0 < w.levels.tracking → StandsFor t w
    → StandsFor (t ++ a ∷ []) (watched w a)
stands_watched t a w allowed may some st = record {
  position = ap (λ p. p + 1) st.position ∙ sym (length-append t (a ∷ []));
  writes = stands_writes t w a st;
  tracks = stands_tracks t w a st (record { allowed = allowed; may = may }) some;
}
