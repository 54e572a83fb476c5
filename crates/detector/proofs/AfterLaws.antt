-- What the code does at an access is what the exact step says.
use Rattle.std.proofs.Common.{◌≡◌, ℕ, ◌+◌, ◌%◌, ◌<◌, ◌≤◌, ◌^◌, Bool, true, false, eqb, leb, ltb}
use Rattle.std.proofs.Common.{◌&&◌, ◌||◌, List, [], ◌++◌, Option, Some, Fits, w64, None, map}
use Rattle.std.proofs.Common.{length, refl, sym, ap, ◌∙◌, subst, arith, inl, inr, ◌-◌, not}
use Rattle.std.proofs.lemmas.Bool.{cases_Bool, false≢true, and_parts, and_left, or_parts, eqb-true}
use Rattle.std.proofs.lemmas.Bool.{leb-true}
use Rattle.std.proofs.lemmas.Bool.Decides.{nat_tests}
use Rattle.std.proofs.lemmas.Option.{none-some}
use Rattle.std.proofs.lemmas.List.{append-nil, length-append}
use Rattle.std.specs.Prelude.{if◌then◌else◌, is_some}
use Rattle.std.specs.Option.{option_map_or}
use Rattle.base.specs.Lines.{Grid, is_layout, line_number}
use Rattle.base.specs.Levels.{Levels, are_levels, is_from_to}
use Rattle.base.specs.Touch.{Touch, is_write}
use Rattle.base.specs.declared.layout.Range.{Range}
use Rattle.detector.specs.Entries.{Entries, blank_entry, entry_at, no_entries}
use Rattle.detector.specs.declared.line_entry.LineEntry.{LineEntry}
use Rattle.sharing_rules.specs.Listed.{may_predict}
use Rattle.sharing_rules.specs.declared.line_kind.LineKind.{LineKind}
use Rattle.sharing_rules.specs.declared.line_kind.LineKind.TheVariants.{Observed, Shifted, Doubled}
use Rattle.line_tracks.specs.TrackValue.{TrackValue}
use Rattle.detector.specs.declared.openings.Openings.{Openings}
use Rattle.detector.specs.declared.task.Task.{Task}
use Rattle.detector.specs.Counts.{count_at, counts_of, with_write}
use Rattle.detector.specs.Index.{IsIndexed, IsNamed, Names, names_in}
use Rattle.detector.specs.Noting.{IsNotable, have_opened, places}
use Rattle.detector.specs.Openings.{nothing_opens, opened_tracks, waiting_for}
use Rattle.detector.specs.Openings.{openings}
use Rattle.detector.specs.Pairs.{IsNativeGrid}
use Rattle.detector.specs.Tasks.{IsDueAt, IsTaskOf, counted, tracks_begun, tracks_changed}
use Rattle.detector.specs.Tasks.{task_opens}
use Rattle.detector.specs.Watch.{begins_track, is_first_write, is_search, may_take_memory}
use Rattle.detector.specs.Watch.{opens_at, touched, tracks_after, tracks_noted, watch_of, watched}
use Rattle.detector.specs.Watch.{writes_after}
use Rattle.detector.specs.Named.{number_of}
use Rattle.detector.proofs.CountLaws.{count_at-counts_of, entry_at-empty}
use Rattle.detector.proofs.SettleLaws.{counted-names, counted-writes, layout-small}
use Rattle.detector.proofs.StatedLaws.{under}
use Rattle.detector.proofs.TouchLaws.{indexed-touched}
use Rattle.sharing_rules.specs.Opened.{even_lower}
use Rattle.detector.proofs.NamedLaws.{is_some-kept, named-map}
use Rattle.detector.proofs.InTimeLaws.{touched-kind, touched-range}

-- the task by an entry that was lent
pub task-lent : (f : ℕ → LineEntry) (k : ℕ) (e : LineEntry) (v : Levels) (task : Task) → e ≡ f k
    → IsTaskOf e v task → IsTaskOf (f k) v task
task-lent f k e v task same t = subst (λ (x : LineEntry). IsTaskOf x v task) same t

begins-is : (m : Entries) (k : ℕ) (v : Levels) (a : Touch) (task : Task) → is_write a.kind ≡ true
    → IsTaskOf (entry_at m k) v task
    → task.begins ≡ begins_track v.tracking (counts_of m) k a
begins-is m k v a task writes t = rw (t.begins, writes, count_at-counts_of m k)

pub searches-is : (m : Entries) (k : ℕ) (v : Levels) (a : Touch) (task : Task) → is_write a.kind
    ≡ true → IsTaskOf (entry_at m k) v task
    → task.searches ≡ is_search v.prediction (counts_of m) k a
searches-is m k v a task writes t = rw (t.searches, writes, count_at-counts_of m k)

-- the tracks after a write
pub after-task : (m : Entries) (xs : List TrackValue) (g : Grid) (v : Levels) (p k : ℕ) (a : Touch)
    (task : Task) → is_write a.kind ≡ true
    → IsTaskOf (entry_at m k) v task
    → tracks_changed g k p a task.begins task.searches (map (touched p a) xs)
    ≡ tracks_after (watch_of m xs g v p) k a
after-task m xs g v p k a task writes t =
    rw (begins-is m k v a task writes t, searches-is m k v a task writes t)

pub after-plain : (m : Entries) (xs : List TrackValue) (g : Grid) (v : Levels) (p k : ℕ) (a : Touch)
    → begins_track v.tracking (counts_of m) k a
    ≡ false → is_search v.prediction (counts_of m) k a ≡ false
    → map (touched p a) xs ≡ tracks_after (watch_of m xs g v p) k a
after-plain m xs g v p k a quiet unsearched =
    rw (quiet, unsearched) (simp append-nil)

pub after-write : (m : Entries) (xs : List TrackValue) (g : Grid) (v : Levels) (p k : ℕ) (a : Touch)
    (task : Task) → is_write a.kind ≡ true
    → IsTaskOf (entry_at m k) v task → task.begins ≡ false → task.searches ≡ false
    → map (touched p a) xs ≡ tracks_after (watch_of m xs g v p) k a
after-write m xs g v p k a task writes t quiet unsearched =
    after-plain m xs g v p k a (sym (begins-is m k v a task writes t) ∙ quiet)
    (sym (searches-is m k v a task writes t) ∙ unsearched)

none_searched : (o : Option ℕ) (c : ℕ) (w : Bool) → w ≡ false
    → option_map_or (λ P. w && eqb ((c + 1) % P) 0) o false ≡ false
none_searched None c w h = refl
none_searched (Some P) c w h = ap (λ b. b && eqb ((c + 1) % P) 0) h

pub read-searches : (m : Entries) (k : ℕ) (v : Levels) (a : Touch) → is_write a.kind ≡ false
    → is_search v.prediction (counts_of m) k a
    ≡ false
read-searches m k v a reads = none_searched v.prediction (count_at (counts_of m) k)
    (is_write a.kind) reads

pub after-read : (m : Entries) (xs : List TrackValue) (g : Grid) (v : Levels) (p k : ℕ) (a : Touch)
    → is_write a.kind ≡ false
    → map (touched p a) xs ≡ tracks_after (watch_of m xs g v p) k a
after-read m xs g v p k a reads =
    after-plain m xs g v p k a (and_left (is_write a.kind)
    (eqb (count_at (counts_of m) k + 1) v.tracking) reads)
    (read-searches m k v a reads)

pub counts-write : (m n : Entries) (k : ℕ) (a : Touch) → is_write a.kind ≡ true → counts_of n
    ≡ with_write (counts_of m) k
    → counts_of n ≡ writes_after k a (counts_of m)
counts-write m n k a writes e = rw (e, writes)

pub counts-read : (m : Entries) (k : ℕ) (a : Touch) → is_write a.kind ≡ false → counts_of m
    ≡ writes_after k a (counts_of m)
counts-read m k a reads = rw reads

-- thresholds
from_one : (low high n : ℕ) → is_from_to low high n ≡ true → low ≤ n
from_one low high n h = let parts = and_parts (leb low n) (leb n high) h in leb-true low n parts.0

levels-parts : (v : Levels) → are_levels v.tracking v.prediction v.report ≡ true
    → (1 ≤ v.tracking) × (option_map_or (is_from_to v.tracking (2 ^ 32)) v.prediction true ≡ true)
levels-parts v h =
    let outer = and_parts (is_from_to 1 (2 ^ 32) v.tracking && option_map_or
    (is_from_to v.tracking (2 ^ 32)) v.prediction true)
    (is_from_to 1 (2 ^ 40) v.report) h in
    let inner = and_parts (is_from_to 1 (2 ^ 32) v.tracking)
    (option_map_or (is_from_to v.tracking (2 ^ 32)) v.prediction true) outer.0 in
    (from_one 1 (2 ^ 32) v.tracking inner.0, inner.1)

pub levels-some : (v : Levels) → are_levels v.tracking v.prediction v.report ≡ true → 1 ≤ v.tracking
levels-some v h = (levels-parts v h).0

pub levels-positive : (v : Levels) (P : ℕ) → are_levels v.tracking v.prediction v.report ≡ true
    → v.prediction ≡ Some P → 0 < P
levels-positive v P h is =
    let parts = levels-parts v h in
    let some = parts.0 in
    let at = rw is at parts.1 in
    let low = from_one v.tracking (2 ^ 32) P at in
    omega arith

pub native-grid : (f : ℕ → LineEntry) (k : ℕ) (g : Grid) (v : Levels) (task : Task)
    → may_predict g v ≡ true → IsTaskOf (f k) v task
    → task.searches ≡ true → IsNativeGrid g
native-grid f k g v task may t searches = by_prediction v.prediction refl
  where
    by_prediction : (o : Option ℕ) → v.prediction ≡ o → IsNativeGrid g
    by_prediction None is = absurd (false≢true (sym
        (t.searches ∙ ap (λ z. option_map_or (λ P. eqb (((f k).writes + 1) % P) 0) z false) is)
        ∙ searches))
    by_prediction (Some P) is = let u = under g v P may is in
        record { size = u.native; offset = u.offset }

pub due-at : (f : ℕ → LineEntry) (g : Grid) (xs : List TrackValue) (k : ℕ) (v : Levels) (task : Task)
    (p : ℕ) → IsIndexed f g xs v.tracking p
    → 1 ≤ v.tracking → IsTaskOf (f k) v task → IsDueAt f g xs k task p v.tracking
due-at f g xs k v task p indexed some t = record {
  indexed = indexed;
  positive = some;
  due = λ b. eqb-true ((f k).writes + 1) v.tracking (sym t.begins ∙ b);
}

-- a plain write
pub plain-indexed : (f h : ℕ → LineEntry) (g : Grid) (xs ys : List TrackValue) (T p k : ℕ) (a : Touch)
    → IsIndexed f g xs T p
    → ((q : ℕ) → h q ≡ (if eqb q k then counted (f k) else f q)) → ys ≡ map (touched p a) xs
    → IsIndexed h g ys T (p + 1)
plain-indexed f h g xs ys T p k a indexed each is =
    subst (λ zs. IsIndexed h g zs T (p + 1)) (sym is)
    (indexed-touched f h g xs T p a indexed (counted-names f h k each) more few)
  where
    more : (q : ℕ) → (f q).writes ≤ (h q).writes
    more q = elim (cases_Bool (eqb q k)) [
      | inl here ↦ let same = eqb-true q k here in let is_k : (f q).writes ≡ (f k).writes =
          ap (λ z. (f z).writes) same
          in rw (counted-writes f h k each q, here) (omega arith)
      | inr other ↦ rw (counted-writes f h k each q, other) (omega arith)
    ]

    few : (q : ℕ) → (h q).writes ≤ p + 1
    few q = elim (cases_Bool (eqb q k)) [
      | inl here ↦ let d = indexed.written k in rw (counted-writes f h k each q, here) (omega arith)
      | inr other ↦ let d = indexed.written q in rw (counted-writes f h k each q, other)
          (omega arith)
    ]

pub read-indexed : (f : ℕ → LineEntry) (g : Grid) (xs ys : List TrackValue) (T p : ℕ) (a : Touch)
    → IsIndexed f g xs T p
    → ys ≡ map (touched p a) xs → IsIndexed f g ys T (p + 1)
read-indexed f g xs ys T p a indexed is =
    subst (λ zs. IsIndexed f g zs T (p + 1)) (sym is)
    (indexed-touched f f g xs T p a indexed refl (λ q. omega arith)
    (λ q. let d = indexed.written q in omega arith))

pub notable : (f h : ℕ → LineEntry) (g : Grid) (xs : List TrackValue) (T p k : ℕ) (a : Touch)
    → IsIndexed f g xs T p → names_in h ≡ names_in f
    → is_layout g.size g.offset ≡ true → k ≡ line_number g.size g.offset a.addr
    → IsNotable h g xs k p a
notable f h g xs T p k a indexed same layout line = record {
  names = subst (λ (N : Names). IsNamed N g xs) (sym same) indexed.names;
  in_time = indexed.in_time;
  layout = (layout-small g layout).0;
  line = line;
}

-- where nothing is added nothing opens
short : (kind : LineKind) (o : Option Range) → length (waiting_for kind o) ≡ 0 → o ≡ None
short kind None e = refl
short kind (Some r) e = absurd (omega arith)

pub nothing_added : (o : Openings) → length (opened_tracks o) ≡ 0 → o ≡ nothing_opens
nothing_added o e =
    let l₁ = length-append (waiting_for Shifted o.below ++ waiting_for Shifted o.here)
    (waiting_for Doubled o.doubled) in
    let l₂ = length-append (waiting_for Shifted o.below) (waiting_for Shifted o.here) in
    let b : o.below ≡ None = short Shifted o.below (omega arith) in
    let h : o.here ≡ None = short Shifted o.here (omega arith) in
    let d : o.doubled ≡ None = short Doubled o.doubled (omega arith) in
    λ i. record { below = b i; here = h i; doubled = d i }

no_length : (n : ℕ) → ltb 0 n ≡ false → n ≡ 0
no_length n e = grind (arith, nat_tests)

some_writes : (n : ℕ) → eqb n 0 ≡ false → 0 < n
some_writes n e = grind (arith, nat_tests)

-- a write that takes no memory: its line was written, its own track doesn't begin, and nothing
-- opens
pub record IsQuiet (m : Entries) (xs : List TrackValue) (g : Grid) (p k : ℕ) (a : Touch)
    (task : Task) : Type 0 where
  pub written : 0 < (entry_at m k).writes
  pub begins : task.begins ≡ false
  pub opens : task_opens g k task.searches (tracks_begun g k p a task.begins (map (touched p a) xs))
      ≡ nothing_opens

-- a write that takes no memory is not its line's first, begins no track, and opens nothing
none-taken : (m : Entries) (xs : List TrackValue) (g : Grid) (v : Levels) (p k : ℕ) (a : Touch)
    → may_take_memory (watch_of m xs g v p) k a ≡ false
    → (is_first_write (counts_of m) k a ≡ false)
    × (begins_track v.tracking (counts_of m) k a ≡ false)
    × (ltb 0 (length (opened_tracks (opens_at (watch_of m xs g v p) k a
    (tracks_noted (watch_of m xs g v p) k a)))) ≡ false)
none-taken m xs g v p k a none =
    let outer = or_parts (is_first_write (counts_of m) k a || begins_track v.tracking
    (counts_of m) k a)
    (ltb 0 (length (opened_tracks (opens_at (watch_of m xs g v p) k a
    (tracks_noted (watch_of m xs g v p) k a))))) none in
    let inner = or_parts (is_first_write (counts_of m) k a)
    (begins_track v.tracking (counts_of m) k a) outer.0 in
    (inner.0, inner.1, outer.1)

-- the line of a write that takes no memory was written
pub first-written : (m : Entries) (xs : List TrackValue) (g : Grid) (v : Levels) (p k : ℕ) (a : Touch)
    → is_write a.kind ≡ true
    → may_take_memory (watch_of m xs g v p) k a ≡ false → 0 < (entry_at m k).writes
first-written m xs g v p k a writes none =
    let first = (none-taken m xs g v p k a none).0 in
    some_writes (entry_at m k).writes (ap (λ n. eqb n 0) (sym (count_at-counts_of m k))
    ∙ sym (ap (λ z. z && eqb (count_at (counts_of m) k) 0) writes) ∙ first)

pub quiet : (m : Entries) (xs : List TrackValue) (g : Grid) (v : Levels) (p k : ℕ) (a : Touch)
    (task : Task) → is_write a.kind ≡ true
    → IsTaskOf (entry_at m k) v task → may_take_memory (watch_of m xs g v p) k a ≡ false
    → IsQuiet m xs g p k a task
quiet m xs g v p k a task writes t none =
    let w = none-taken m xs g v p k a none in
    record {
      written = first-written m xs g v p k a writes none;
      begins = begins-is m k v a task writes t ∙ w.1;
      opens = rw (begins-is m k v a task writes t, searches-is m k v a task writes t)
          (nothing_added (opens_at (watch_of m xs g v p) k a
          (tracks_noted (watch_of m xs g v p) k a)) (no_length _ w.2));
    }

-- the value after an access
pub watched-is : (m n : Entries) (xs ys : List TrackValue) (g : Grid) (v : Levels) (p k : ℕ) (a : Touch)
    → k ≡ number_of g a
    → ys ≡ tracks_after (watch_of m xs g v p) k a → counts_of n ≡ writes_after k a (counts_of m)
    → watch_of n ys g v (p + 1) ≡ watched (watch_of m xs g v p) a
watched-is m n xs ys g v p k a line tracks counts = rw (tracks, counts, line)

-- where nothing is kept yet
pub indexed-empty : (m : Entries) (g : Grid) (T p : ℕ) → m ≡ no_entries
    → IsIndexed (entry_at m) g [] T p
indexed-empty m g T p is = record {
  names = record {
    placed = λ i x e. absurd (none-some x e);
    named = λ kind k i e. absurd (none-some i (sym (none kind k) ∙ e));
    shaped = λ i x e. absurd (none-some x e);
  };
  late = λ k i e. absurd (none-some i (sym (ap (λ (x : LineEntry). x.track) (blank k)) ∙ e));
  written = λ k. let w : (entry_at m k).writes ≡ 0 = ap (λ (x : LineEntry). x.writes) (blank k) in
      omega arith;
  in_time = λ i x e. absurd (none-some x e);
  blank = λ i x e. absurd (none-some x e);
  few = omega arith;
}
  where
    blank : (k : ℕ) → entry_at m k ≡ blank_entry
    blank k = ap (λ z. entry_at z k) is ∙ entry_at-empty k

    none : (kind : LineKind) (k : ℕ) → names_in (entry_at m) kind k ≡ None
    none Observed k = ap (λ (x : LineEntry). x.track) (blank k)
    none Shifted k = ap (λ (x : LineEntry). x.shifted) (blank k)
    none Doubled k = ap (λ (x : LineEntry). x.doubled) (blank k)

-- steps that are few stay so with room for more
pub steps-within : (s most room : ℕ) → s ≤ most → s ≤ most + room
steps-within s most room few = omega arith

-- an entry that was lent counts few writes, and can count one more
pub writes-few : (f : ℕ → LineEntry) (g : Grid) (xs : List TrackValue) (T p k : ℕ) (e : LineEntry)
    → IsIndexed f g xs T p → p < 2 ^ 40
    → e ≡ f k → e.writes < 2 ^ 40
writes-few f g xs T p k e indexed early is =
    let written = indexed.written k in
    let same : e.writes ≡ (f k).writes = ap (λ (x : LineEntry). x.writes) is in
    omega arith

pub one-more-fits : (n : ℕ) → n < 2 ^ 40 → Fits w64 (n + 1)
one-more-fits n few = omega arith

-- A search opens nothing where all predicted lines of a line have opened.

lower-named : (f : ℕ → LineEntry) (k : ℕ) → is_some (places f k).doubled ≡ true
    → is_some (names_in f Doubled (even_lower k)) ≡ true
lower-named f k e =
    elim (cases_Bool (eqb (k % 2) 1)) [
      | inl odd ↦ let at = rw odd at e in rw odd at
      | inr even ↦ let at = rw even at e in rw even at
    ]

opened-none : (f : ℕ → LineEntry) (g : Grid) (xs : List TrackValue) (k : ℕ) → IsNamed (names_in f) g xs
    → have_opened (places f k) ≡ true → openings g k xs ≡ nothing_opens
opened-none f g xs k named all =
    let one = and_parts (is_some (places f k).shifted && is_some (places f k).below)
    (is_some (places f k).doubled) all in
    let two = and_parts (is_some (places f k).shifted) (is_some (places f k).below) one.0 in
    rw (
      is_some-kept (names_in f) g xs Shifted (k - 1) named ∙ two.1,
      is_some-kept (names_in f) g xs Shifted k named ∙ two.0,
      is_some-kept (names_in f) g xs Doubled (even_lower k) named ∙ lower-named f k one.1,
    )

not_idle : (s h : Bool) → (s && not h) ≡ false → s ≡ true → h ≡ true
not_idle true true e h = refl
not_idle true false e h = sym e
not_idle false h e is = absurd (cc)

-- the tracks after a write at which no track begins, and none opens
pub after-idle : (m : Entries) (xs : List TrackValue) (g : Grid) (v : Levels) (p k : ℕ) (a : Touch)
    (task : Task) → is_write a.kind ≡ true → IsTaskOf (entry_at m k) v task
    → IsNamed (names_in (entry_at m)) g xs
    → (task.begins || (task.searches && not (have_opened (places (entry_at m) k)))) ≡ false
    → map (touched p a) xs ≡ tracks_after (watch_of m xs g v p) k a
after-idle m xs g v p k a task writes t named idle =
    let parts = or_parts task.begins (task.searches && not (have_opened (places (entry_at m) k)))
    idle in
    let names : IsNamed (names_in (entry_at m)) g (map (touched p a) xs) =
    named-map (names_in (entry_at m)) g (touched p a) xs (touched-kind p a) (touched-range p a)
    named in
    let opens : task_opens g k task.searches (map (touched p a) xs ++ []) ≡ nothing_opens =
    elim (cases_Bool task.searches) [
      | inl s ↦
          let all = not_idle task.searches (have_opened (places (entry_at m) k)) parts.1 s in
          ap (λ b. task_opens g k b (map (touched p a) xs ++ [])) s
          ∙ ap (openings g k) (append-nil (map (touched p a) xs))
          ∙ opened-none (entry_at m) g (map (touched p a) xs) k names all
      | inr s ↦ ap (λ b. task_opens g k b (map (touched p a) xs ++ [])) s
    ] in
    let same : map (touched p a) xs
    ≡ tracks_changed g k p a task.begins task.searches (map (touched p a) xs) =
    rw (parts.0, opens) (simp append-nil) in
    same ∙ after-task m xs g v p k a task writes t
