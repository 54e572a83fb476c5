-- What counting and naming leave of the entries.
use Rattle.std.proofs.Common.{◌≡◌, ◌≢◌, ℕ, ◌+◌, ◌-◌, ◌<◌, ◌≤◌, Bool, true, false, eqb, List, ◌++◌}
use Rattle.std.proofs.Common.{Option, Some, None, length, refl, sym, ap, ◌∙◌, subst, arith, inl}
use Rattle.std.proofs.Common.{inr, ◌%◌, ◌^◌, leb, ltb, ◌&&◌, [], ◌∷◌, take, map}
use Rattle.std.proofs.lemmas.Bool.{cases_Bool, cases_eq, eqb-true, eq-eqb, and_parts, leb-true}
use Rattle.std.proofs.lemmas.Bool.{ltb-true}
use Rattle.std.proofs.lemmas.Option.{none-some}
use Rattle.std.proofs.Math.Bool.{and-false, and-true}
use Rattle.std.specs.Prelude.{if◌then◌else◌, option_map, min}
use Rattle.std.specs.Option.{option_or}
use Rattle.base.specs.Lines.{Grid, is_layout, is_line_size}
use Rattle.base.specs.declared.layout.Range.{Range}
use Rattle.detector.specs.declared.line_entry.LineEntry.{LineEntry}
use Rattle.sharing_rules.specs.Listed.{rank}
use Rattle.sharing_rules.specs.Opened.{even_lower}
use Rattle.sharing_rules.specs.declared.line_kind.LineKind.{LineKind}
use Rattle.sharing_rules.specs.declared.line_kind.LineKind.TheVariants.{Observed, Shifted, Doubled}
use Rattle.line_tracks.specs.TrackValue.{TrackValue}
use Rattle.detector.specs.declared.openings.Openings.{Openings}
use Rattle.detector.specs.Index.{IsIndexed, IsNamed, IsReached, Names, names_in, place_in}
use Rattle.detector.specs.Openings.{nothing_opens, opened_tracks, openings}
use Rattle.detector.specs.Pairs.{AreShaped, IsNativeGrid}
use Rattle.detector.specs.Tasks.{counted, opened_places, settled, task_opens, with_name, with_place}
use Rattle.detector.specs.Tasks.{IsDue, IsTask, tracks_begun, tracks_changed, IsDueAt}
use Rattle.detector.proofs.NamedLaws.{with_name-other}
use Rattle.detector.proofs.PairLaws.{reached-native}
use Rattle.detector.proofs.TaskLaws.{Opens, doubled-opens, opened-named, shifted-opens}
use Rattle.detector.proofs.TaskLaws.{unopened-named, begun-named, front_of_front, changed-indexed}
use Rattle.base.specs.Touch.{Touch}
use Rattle.detector.specs.declared.task.OpenedTracks.{OpenedTracks}
use Rattle.detector.specs.declared.task.Task.{Task}
use Rattle.detector.specs.Watch.{begun, touched}
use Rattle.sharing_rules.specs.Laws.Lists.{all_any}
use Rattle.std.proofs.lemmas.List.{length-take, length-map}
use Rattle.detector.specs.Noting.{places}
use Rattle.detector.proofs.TouchLaws.{indexed-touched}

pub with_place-writes : (e : LineEntry) (kind : LineKind) (o : Option ℕ)
    → (with_place e kind o).writes ≡ e.writes
with_place-writes e Observed o = refl
with_place-writes e Shifted o = refl
with_place-writes e Doubled o = refl

-- an entry that was lent was counted
pub counted-lent : (f h : ℕ → LineEntry) (k : ℕ) (e : LineEntry) → e ≡ f k
    → ((q : ℕ) → h q ≡ (if eqb q k then counted e else f q))
    → (q : ℕ) → h q ≡ (if eqb q k then counted (f k) else f q)
counted-lent f h k e same each q = each q ∙ ap
    (λ (x : LineEntry). if eqb q k then counted x else f q) same

-- a change that leaves the places of an entry leaves the names
pub changed-names : (f h : ℕ → LineEntry) (k : ℕ) (e : LineEntry)
    → ((q : ℕ) → h q ≡ (if eqb q k then e else f q))
    → ((kind : LineKind) → place_in e kind ≡ place_in (f k) kind) → names_in h ≡ names_in f
changed-names f h k e each places = λ i kind q. by_line kind q i
  where
    by_line : (kind : LineKind) (q : ℕ) → place_in (h q) kind ≡ place_in (f q) kind
    by_line kind q = elim (cases_Bool (eqb q k)) [
      | inl here ↦ rw (each q, here, eqb-true q k here) (places kind)
      | inr other ↦ rw (each q, other)
    ]

-- a count leaves the names
pub counted-names : (f h : ℕ → LineEntry) (k : ℕ)
    → ((q : ℕ) → h q ≡ (if eqb q k then counted (f k) else f q)) → names_in h ≡ names_in f
counted-names f h k each = changed-names f h k (counted (f k)) each places
  where
    places : (kind : LineKind) → place_in (counted (f k)) kind ≡ place_in (f k) kind
    places Observed = refl
    places Shifted = refl
    places Doubled = refl

-- an entry with a place names it
pub placed-names : (f h : ℕ → LineEntry) (k : ℕ) (kind : LineKind) (o : Option ℕ) (e : LineEntry)
    → ((q : ℕ) → h q ≡ (if eqb q k then e else f q)) → e ≡ with_place (f k) kind o → names_in h
    ≡ with_name (names_in f) kind k o
placed-names f h k kind o e each is = λ i j q. by_line j q i
  where
    placed : (x : LineEntry) (kind j : LineKind)
        → place_in (with_place x kind o) j ≡ (if eqb (rank j) (rank kind) then option_or o
        (place_in x j) else place_in x j)
    placed x Observed Observed = refl
    placed x Observed Shifted = refl
    placed x Observed Doubled = refl
    placed x Shifted Observed = refl
    placed x Shifted Shifted = refl
    placed x Shifted Doubled = refl
    placed x Doubled Observed = refl
    placed x Doubled Shifted = refl
    placed x Doubled Doubled = refl

    by_line : (j : LineKind) (q : ℕ) → place_in (h q) j ≡ with_name (names_in f) kind k o j q
    by_line j q = elim (cases_Bool (eqb q k)) [
      | inl here ↦ rw (each q, here, is, and-true (eqb (rank j) (rank kind)), eqb-true q k here)
          (placed (f k) kind j)
      | inr other ↦ rw (each q, other, and-false (eqb (rank j) (rank kind)))
    ]

pub counted-writes : (f h : ℕ → LineEntry) (k : ℕ)
    → ((q : ℕ) → h q ≡ (if eqb q k then counted (f k) else f q)) → (q : ℕ)
    → (h q).writes ≡ (if eqb q k then (f k).writes + 1 else (f q).writes)
counted-writes f h k each q = elim (cases_Bool (eqb q k)) [
  | inl here ↦ rw (each q, here)
  | inr other ↦ rw (each q, other)
]

counted-some : (f h : ℕ → LineEntry) (k q : ℕ)
    → ((q : ℕ) → h q ≡ (if eqb q k then counted (f k) else f q)) → (q ≢ k → 0 < (f q).writes)
    → 0 < (h q).writes
counted-some f h k q each some =
    elim (cases_eq q k) [
      | inl e ↦ rw (counted-writes f h k each q, eq-eqb q k e) (omega arith)
      | inr other ↦ rw (counted-writes f h k each q, not_eq other) (some other)
    ]
  where
    not_eq : q ≢ k → eqb q k ≡ false
    not_eq other = elim (cases_Bool (eqb q k)) [
      | inl t ↦ absurd (other (eqb-true q k t))
      | inr f ↦
          f
    ]

pub settled-written : (f h : ℕ → LineEntry) (k q : ℕ) (o : Option ℕ)
    → ((q : ℕ) → h q ≡ (if eqb q k then counted (f k) else f q))
    → ((p : ℕ) → o ≡ Some p → q ≢ k → 0 < (f q).writes) → (p : ℕ) → o ≡ Some p → 0 < (h q).writes
settled-written f h k q o each some p e = counted-some f h k q each (some p e)

-- naming leaves a line written
pub still-written : (f h : ℕ → LineEntry) (q r : ℕ) → (h q).writes ≡ (f q).writes → q ≡ r
    → 0 < (f r).writes → 0 < (h q).writes
still-written f h q r same is some = subst (λ n. 0 < n)
    (sym (same ∙ ap (λ z. (f z).writes) is)) some

-- the names after all is settled
pub named-task : (N : Names) (g : Grid) (xs : List TrackValue) (k : ℕ) (own : Option ℕ) (searches : Bool)
    (o : Openings)
    → IsNamed (with_name N Observed k own) g xs → 0 < g.size → (searches ≡ true → IsNativeGrid g)
    → IsReached g k
    → o ≡ task_opens g k searches xs → (searches ≡ true → AreShaped g.size k o)
    → IsNamed (settled N k own (opened_places xs o)) g
    (xs ++ opened_tracks o)
named-task N g xs k own true o named some native reached is shaped =
    let grid = native refl in
    opened-named N g xs k own o named some (reached-native g k grid.size grid.offset reached).some
    grid.offset is (shaped refl)
named-task N g xs k own false o named some native reached is shaped =
    subst (λ z. IsNamed (settled N k own (opened_places xs z)) g (xs ++ opened_tracks z))
    (sym is)
    (unopened-named N g xs k own named)

-- What a task leaves of the tracks and of the entries.

-- a layout's offset is below its size, which is that of whole words and at most 1024
pub layout-small : (g : Grid) → is_layout g.size g.offset ≡ true → (g.offset < g.size)
    × (g.size % 4 ≡ 0) × (g.size ≤ 1024)
layout-small g h =
    let outer = and_parts (is_line_size g.size && ltb g.offset g.size) (eqb (g.offset % 4) 0) h in
    let inner = and_parts (is_line_size g.size) (ltb g.offset g.size) outer.0 in (
      ltb-true g.offset g.size inner.1,
      eqb-true (g.size % 4) 0 (all_any (λ m. eqb (m % 4) 0) g.size
          (4 ∷ 8 ∷ 16 ∷ 32 ∷ 64 ∷ 128 ∷ 256 ∷ 512 ∷ 1024 ∷ []) refl inner.0),
      leb-true g.size 1024 (all_any (λ m. leb m 1024) g.size
          (4 ∷ 8 ∷ 16 ∷ 32 ∷ 64 ∷ 128 ∷ 256 ∷ 512 ∷ 1024 ∷ []) refl inner.0),
    )

-- the names after all were written, one after the other
pub settle-names : (N N₀ N₁ N₂ N₃ N₄ : Names) (k b l : ℕ) (own : Option ℕ) (o : OpenedTracks) → N₀ ≡ N
    → N₁ ≡ with_name N₀ Observed k own
    → N₂ ≡ with_name N₁ Shifted b o.below → b ≡ k - 1
    → N₃ ≡ with_name N₂ Shifted k o.here → N₄ ≡ with_name N₃ Doubled l o.doubled → l ≡ even_lower k
    → N₄ ≡ settled N k own o
settle-names N N₀ N₁ N₂ N₃ N₄ k b l own o e₀ e₁ e₂ low e₃ e₄ even =
    rw (e₄, even, e₃, e₂, low, e₁, e₀)

-- what is known once the line's own track has begun, where it does
pub record IsBegun (f : ℕ → LineEntry) (g : Grid) (xs ys : List TrackValue) (k : ℕ) (task : Task) (p : ℕ)
    (a : Touch) (own : Option ℕ) : Type 0
  where
    pub tracks : ys ≡ tracks_begun g k p a task.begins xs
    pub own_is : own ≡ (if task.begins then Some (length xs) else (f k).track)
    pub named : IsNamed (with_name (names_in f) Observed k own) g ys

pub task-begun : (f : ℕ → LineEntry) (g : Grid) (xs ys : List TrackValue) (k m : ℕ) (task : Task) (p : ℕ)
    (a : Touch) (own : Option ℕ)
    (e : LineEntry) → IsTask f g xs k task p a → k ≡ m
    → ys ≡ tracks_begun g m p a task.begins xs → own
    ≡ (if task.begins then Some (length xs) else e.track) → e ≡ f k
    → IsBegun f g xs ys k task p a own
task-begun f g xs ys k m task p a own e t line tracks own_is entry =
    let small = layout-small g t.layout in
    let less : g.offset < g.size = small.0 in
    let now : ys ≡ tracks_begun g k p a task.begins xs = tracks
    ∙ ap (λ q. tracks_begun g q p a task.begins xs) (sym line) in
    let own_now : own ≡ (if task.begins then Some (length xs) else (f k).track) = own_is
    ∙ ap (λ (z : LineEntry). if task.begins then Some (length xs) else z.track) entry in
    record {
      tracks = now;
      own_is = own_now;
      named = subst (λ zs. IsNamed (with_name (names_in f) Observed k own) g zs) (sym now)
          (begun-named (names_in f) g xs k p a task.begins own t.is_due.indexed.names
          (omega arith) t.reached
          (λ b. none_yet (f k).track refl b) own_now);
    }
  where
    none_yet : (o : Option ℕ) → (f k).track ≡ o → task.begins ≡ true → (f k).track ≡ None
    none_yet None is b = is
    none_yet (Some i) is b =
        let late = t.is_due.indexed.late k i is in
        let due = t.is_due.due b in
        absurd (omega arith)

pub task-tracks : (g : Grid) (xs ys zs : List TrackValue) (k p : ℕ) (a : Touch) (begins searches : Bool)
    (o : Openings)
    → ys ≡ tracks_begun g k p a begins xs → o ≡ task_opens g k searches ys
    → zs ≡ ys ++ opened_tracks o → zs ≡ tracks_changed g k p a begins searches xs
task-tracks g xs ys zs k p a begins searches o is opens added =
    added ∙ ap (λ q. ys ++ opened_tracks q) opens
    ∙ ap (λ ws. ws ++ opened_tracks (task_opens g k searches ws)) is

-- a line at which a range opens has a track of its own, and so was written
opens-written : (f : ℕ → LineEntry) (g : Grid) (xs ys : List TrackValue) (k q p : ℕ) (task : Task)
    (a : Touch) (own : Option ℕ) (kind : LineKind) → IsTask f g xs k task p a → q ≢ k
    → Opens (with_name (names_in f) Observed k own) kind q → 0 < (f q).writes
opens-written f g xs ys k q p task a own kind t other opens =
    let some = t.is_due.positive in
    let late = t.is_due.indexed.late q opens.1.0
    (sym (with_name-other (names_in f) Observed Observed k q own (λ h. other h.1)) ∙ opens.1.1) in
    omega arith

-- what a place was opened for
opened-for : (n : ℕ) (o : Option Range) (i : ℕ) → option_map (λ r. n) o ≡ Some i → (r : Range)
    × (o ≡ Some r)
opened-for n None i e = absurd (none-some i e)
opened-for n (Some r) i e = (r, refl)

-- what opens was searched for
searched-for : (g : Grid) (k : ℕ) (ys : List TrackValue) (searches : Bool) (o : Openings)
    (w : Openings → Option Range) (r : Range) → o ≡ task_opens g k searches ys
    → w nothing_opens ≡ None → w o ≡ Some r → (searches ≡ true) × (w (openings g k ys) ≡ Some r)
searched-for g k ys true o w r is none e = (refl, ap w (sym is) ∙ e)
searched-for g k ys false o w r is none e = absurd (none-some r (sym none ∙ ap w (sym is) ∙ e))

pub task-below : (f : ℕ → LineEntry) (g : Grid) (xs ys : List TrackValue) (k : ℕ) (task : Task) (p : ℕ)
    (a : Touch) (own : Option ℕ)
    (o : Openings) (q : OpenedTracks) (ws : List TrackValue) → IsTask f g xs k task p a
    → IsBegun f g xs ys k task p a own
    → o ≡ task_opens g k task.searches ys → q ≡ opened_places ws o → (i : ℕ) → q.below ≡ Some i
    → 0 < (f (k - 1)).writes
task-below f g xs ys k task p a own o q ws t b opens places i e =
    let r = opened-for _ o.below i (ap (λ (z : OpenedTracks). z.below) (sym places) ∙ e) in
    let s = searched-for g k ys task.searches o (λ z. z.below) r.0 opens refl r.1 in
    let grid = t.native s.0 in
    let low = (reached-native g k grid.size grid.offset t.reached).some in
    opens-written f g xs ys k (k - 1) p task a own Shifted t (λ e. absurd (omega arith))
    (shifted-opens (with_name (names_in f) Observed k own) g ys (k - 1) r.0 b.named s.1)

pub task-doubled : (f : ℕ → LineEntry) (g : Grid) (xs ys : List TrackValue) (k : ℕ) (task : Task) (p : ℕ)
    (a : Touch) (own : Option ℕ)
    (o : Openings) (q : OpenedTracks) (ws : List TrackValue) → IsTask f g xs k task p a
    → IsBegun f g xs ys k task p a own
    → o ≡ task_opens g k task.searches ys → q ≡ opened_places ws o → (i : ℕ) → q.doubled ≡ Some i
    → even_lower k ≢ k
    → 0 < (f (even_lower k)).writes
task-doubled f g xs ys k task p a own o q ws t b opens places i e other =
    let r = opened-for _ o.doubled i (ap (λ (z : OpenedTracks). z.doubled) (sym places) ∙ e) in
    let s = searched-for g k ys task.searches o (λ z. z.doubled) r.0 opens refl r.1 in
    opens-written f g xs ys k (even_lower k) p task a own Doubled t other
    (doubled-opens (with_name (names_in f) Observed k own) g ys (even_lower k) r.0 b.named s.1)

pub task-indexed : (f h : ℕ → LineEntry) (g : Grid) (xs ys zs : List TrackValue) (k : ℕ) (task : Task)
    (p T : ℕ) (a : Touch) (own : Option ℕ)
    (o : Openings) (q : OpenedTracks) → IsTask f g xs k task p a → IsBegun f g xs ys k task p a own
    → IsDue f g xs k task p T → o ≡ task_opens g k task.searches ys
    → (task.searches ≡ true → AreShaped g.size k o)
    → q ≡ opened_places ys o → zs ≡ ys ++ opened_tracks o
    → names_in h ≡ settled (names_in f) k own q → ((z : ℕ) → (h z).writes
    ≡ (if eqb z k then (f k).writes + 1 else (f z).writes))
    → length zs ≤ 2 ^ 31 → IsIndexed h g zs T (p + 1)
task-indexed f h g xs ys zs k task p T a own o q t b due opens shaped places added names writes
    few =
    let small = layout-small g t.layout in
    let less : g.offset < g.size = small.0 in
    let named : IsNamed (settled (names_in f) k own (opened_places ys o)) g (ys
    ++ opened_tracks o) =
    named-task (names_in f) g ys k own task.searches o b.named
    (omega arith) t.native t.reached opens shaped in
    changed-indexed f h g xs zs T p k a task.begins own o q due.indexed
    (added ∙ ap (λ ws. ws ++ opened_tracks o) b.tracks) names
    (subst (λ ws. IsNamed (settled (names_in f) k own q) g (ws ++ opened_tracks o)) b.tracks
    (subst (λ z. IsNamed (settled (names_in f) k own z) g (ys ++ opened_tracks o))
    (sym places) named))
    b.own_is due.due due.written writes few

pub task-kept : (g : Grid) (xs ys zs : List TrackValue) (k p : ℕ) (a : Touch) (begins : Bool) → ys
    ≡ tracks_begun g k p a begins xs
    → take (length ys) zs ≡ ys → take (length xs) zs ≡ xs
task-kept g xs ys zs k p a begins is kept =
    front_of_front xs (if begins then begun g k p a ∷ [] else []) zs
    (subst (λ ws. take (length ws) zs ≡ ws) is kept)

-- A task, from the tracks before the write was noted.

pub due-after : (f : ℕ → LineEntry) (g : Grid) (xs ys : List TrackValue) (k : ℕ) (task : Task) (p T : ℕ)
    (a : Touch) → IsDueAt f g xs k task p T
    → ys ≡ map (touched p a) xs → IsDue f g ys k task p T
due-after f g xs ys k task p T a due is = record {
  indexed = subst (λ zs. IsIndexed f g zs T (p + 1)) (sym is)
      (indexed-touched f f g xs T p a due.indexed refl (λ q. omega arith)
      (λ q. let w = due.indexed.written q in omega arith));
  positive = due.positive;
  due = due.due;
  written = due.indexed.written k;
}

pub due-task : (f : ℕ → LineEntry) (g : Grid) (xs ys : List TrackValue) (k : ℕ) (task : Task) (p T : ℕ)
    (a : Touch) → IsDueAt f g xs k task p T
    → ys ≡ map (touched p a) xs
    → (task.searches ≡ true → IsNativeGrid g) → is_layout g.size g.offset ≡ true → k ≤ 2 ^ 30
    → IsReached g k → IsTask f g ys k task p a
due-task f g xs ys k task p T a due is native layout small reached = record {
  tracking = T;
  is_due = due-after f g xs ys k task p T a due is;
  native = native;
  layout = layout;
  small = small;
  reached = reached;
}

pub due-few : (f : ℕ → LineEntry) (g : Grid) (xs ys : List TrackValue) (k : ℕ) (task : Task) (p T : ℕ)
    (a : Touch) → IsDueAt f g xs k task p T
    → ys ≡ map (touched p a) xs → length ys ≤ 2 ^ 31
due-few f g xs ys k task p T a due is = let few = due.indexed.few in
    subst (λ zs. length zs ≤ 2 ^ 31) (sym is)
    (subst (λ n. n ≤ 2 ^ 31) (sym (length-map xs (touched p a))) few)

-- where its own track begins a line has none
pub due-none : (f : ℕ → LineEntry) (g : Grid) (xs : List TrackValue) (k : ℕ) (task : Task) (p T : ℕ)
    → IsDueAt f g xs k task p T
    → task.begins ≡ true → (f k).track ≡ None
due-none f g xs k task p T due b = by_track (f k).track refl
  where
    by_track : (o : Option ℕ) → (f k).track ≡ o → (f k).track ≡ None
    by_track None is = is
    by_track (Some i) is = let late = due.indexed.late k i is in let now = due.due b in
        absurd (omega arith)

-- what is cut is not longer
pub cut_within : (xs zs : List TrackValue) (n : ℕ) → n ≡ length xs → take (length xs) zs ≡ xs
    → n ≤ length zs
cut_within xs zs n is kept =
    let long : min (length xs) (length zs) ≡ length xs = sym (length-take (length xs) zs)
    ∙ ap length kept in
    omega (arith, long)
