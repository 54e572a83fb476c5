-- What one access more makes of what a list makes of a line.
use Rattle.std.proofs.Common.{◌≡◌, ℕ, ◌+◌, ◌/◌, ◌<◌, Bool, true}
use Rattle.std.proofs.Common.{false, eqb, not, ◌&&◌, ◌||◌, List, [], ◌∷◌, ◌++◌, length, refl, sym}
use Rattle.std.proofs.Common.{ap}
use Rattle.std.proofs.Common.{◌∙◌, subst, arith, inl, inr, map}
use Rattle.std.proofs.lemmas.Bool.{cases_Bool, eqb-true, eq-eqb, false≢true, or_parts}
use Rattle.std.proofs.lemmas.Bool.Decides.{nat_tests}
use Rattle.std.proofs.lemmas.List.{append-nil, map-append}
use Rattle.std.proofs.lemmas.List.Elements.{filter-append}
use Rattle.std.proofs.lemmas.List.Folds.{list_any-append}
use Rattle.std.proofs.lemmas.Option.{get_or_from_slice_get}
use Rattle.std.proofs.Math.Bool.{and-false, and-true}
use Rattle.std.specs.List.{list_any}
use Rattle.std.specs.Prelude.{if◌then◌else◌, filter, nat_eq, nat_le, nat_lt, slice_index_or}
use Rattle.std.specs.Prelude.{slice_set, Option, Some}
use Rattle.indexmap.specs.IndexMap.{insert_entry}
use Rattle.base.specs.Lines.{Grid, is_layout}
use Rattle.base.specs.Touch.{Touch, is_write}
use Rattle.sharing_rules.specs.Arrivals.{each_once, note_arrival}
use Rattle.sharing_rules.specs.Laws.Arrivals.{each_once-distinct, each_once-push}
use Rattle.sharing_rules.specs.Laws.Lists.{by_push, map_same, slice_get-map-below}
use Rattle.sharing_rules.specs.Laws.Places.{count_places-push}
use Rattle.sharing_rules.specs.Lines.{grid_line, word_place}
use Rattle.sharing_rules.specs.Places.{below}
use Rattle.misses.specs.Entries.{behind, right_after, writes_in, writes_word}
use Rattle.misses.specs.MissCounts.{LineEntry, all_counted, cost_of}
use Rattle.misses.specs.MissCounts.{counted, counts_after, kept_line, last_write_of}
use Rattle.misses.specs.MissCounts.{lines_of, misses_now, needs_now, no_visits, note_line}
use Rattle.misses.specs.MissCounts.{unwritten}
use Rattle.misses.specs.MissCounts.{visits_after, visits_in, visits_of, writes_place}
use Rattle.misses.specs.Laws.Copies.{copies-empty, copies-push}
use Rattle.misses.specs.Laws.Entered.{entries, insert-entries, lookup-entries, map-set}
use Rattle.sharing_rules.specs.Laws.Sums.{AgreeBut}
use Rattle.misses.specs.Laws.Entries.{any-behind, behind-push, behind-same, last_hart-push}
use Rattle.misses.specs.Laws.Entries.{last_hart-same}
use Rattle.misses.specs.Laws.Loads.{copies-own}
use Rattle.misses.specs.Laws.Served.{holders-kept, wants-old}
use Rattle.misses.specs.Laws.WordLines.{layout-keeps, same_word}
use Rattle.misses.specs.Misses.{copies, is_by_in, is_cold, is_in, is_miss, is_needed, wants}
use Rattle.misses.specs.declared.line_misses.Cost.{Cost}
use Rattle.misses.specs.declared.line_misses.Counts.{Counts}
use Rattle.misses.specs.declared.line_misses.LastWrite.{LastWrite}
use Rattle.misses.specs.declared.line_misses.Visits.{Visits}

pub same_entry : (x y : LineEntry) → x.written ≡ y.written → x.words ≡ y.words → x.harts ≡ y.harts
    → x.counts ≡ y.counts → x ≡ y
same_entry x y e f g h =
    ap (λ k. record { written = k; words = x.words; harts = x.harts; counts = x.counts }) e
    ∙ ap (λ k. record { written = y.written; words = k; harts = x.harts; counts = x.counts }) f
    ∙ ap (λ k. record { written = y.written; words = y.words; harts = k; counts = x.counts }) g
    ∙ ap (λ k. record { written = y.written; words = y.words; harts = y.harts; counts = k }) h

same_counts : (x y : Counts) → x.cold ≡ y.cold → x.misses ≡ y.misses → x.needed ≡ y.needed → x ≡ y
same_counts x y e f g =
    ap (λ k. record { cold = k; misses = x.misses; needed = x.needed }) e
    ∙ ap (λ k. record { cold = y.cold; misses = k; needed = x.needed }) f
    ∙ ap (λ k. record { cold = y.cold; misses = y.misses; needed = k }) g

same_write : (x y : LastWrite) → x.behind ≡ y.behind → x.hart ≡ y.hart → x ≡ y
same_write x y e f =
    ap (λ k. record { behind = k; hart = x.hart }) e
    ∙ ap (λ k. record { behind = y.behind; hart = k }) f

same_visits : (x y : Visits) → x.accessed ≡ y.accessed → x.loaded ≡ y.loaded → x ≡ y
same_visits x y e f =
    ap (λ k. record { accessed = k; loaded = x.loaded }) e
    ∙ ap (λ k. record { accessed = y.accessed; loaded = k }) f

-- the harts that came to a line, in the order in which they came
abbrev pub harts_in : Grid → ℕ → List Touch → List ℕ
harts_in g r t = each_once (map (λ (a : Touch). a.hart) (filter (is_in (lines_of g) r) t))

-- An access elsewhere leaves all of it.
visits-elsewhere : (g : Grid) (r : ℕ) (t : List Touch) (a : Touch) (h : ℕ)
    → is_by_in (lines_of g) h r a ≡ false → visits_in g r (t ++ a ∷ []) h ≡ visits_in g r t h
visits-elsewhere g r t a h other =
    same_visits _ _
    (rw (behind-push (is_by_in (lines_of g) h r) t a, other) refl)
    (rw (copies-push (lines_of g) t a h r, other) refl)

last_write-elsewhere : (g : Grid) (r i : ℕ) (t : List Touch) (a : Touch)
    → writes_place g r i a ≡ false → last_write_of g r (t ++ a ∷ []) i ≡ last_write_of g r t i
last_write-elsewhere g r i t a other =
    same_write _ _
    (rw (behind-push (writes_place g r i) t a, other) refl)
    (rw (last_hart-push (writes_place g r i) t a, other) refl)

counted-elsewhere : (g : Grid) (r : ℕ) (t : List Touch) (a : Touch)
    → is_in (lines_of g) r a ≡ false → counted g r (t ++ a ∷ []) ≡ counted g r t
counted-elsewhere g r t a other =
    same_counts _ _
    (rw (count_places-push (is_cold (lines_of g) r) t a, other) (omega arith))
    (rw (count_places-push (is_miss (lines_of g) r) t a, other) (omega arith))
    (rw (count_places-push (is_needed (lines_of g) r) t a, other) (omega arith))

harts-elsewhere : (g : Grid) (r : ℕ) (t : List Touch) (a : Touch)
    → is_in (lines_of g) r a ≡ false → harts_in g r (t ++ a ∷ []) ≡ harts_in g r t
harts-elsewhere g r t a other =
    rw (
      filter-append (is_in (lines_of g) r) t (a ∷ []),
      other,
      append-nil (filter (is_in (lines_of g) r) t),
    ) refl

pub kept_line-elsewhere : (g : Grid) (r : ℕ) (t : List Touch) (a : Touch)
    → is_in (lines_of g) r a ≡ false → kept_line g (t ++ a ∷ []) r ≡ kept_line g t r
kept_line-elsewhere g r t a other =
    let none : (h : ℕ) → is_by_in (lines_of g) h r a ≡ false = λ h. rw (other, and-false) refl in
    let unwritten_there : (i : ℕ) → writes_place g r i a ≡ false =
    λ i. rw (other, and-false (is_write a.kind)) refl in
    same_entry _ _
    (rw (behind-push (writes_in (lines_of g) r) t a, other, and-false (is_write a.kind)) refl)
    (map_same _ _ (λ i. last_write-elsewhere g r i t a (unwritten_there i)) (below (g.size / 4)))
    (ap (entries (visits_in g r (t ++ a ∷ []))) (harts-elsewhere g r t a other)
    ∙ map_same _ _ (λ h. ap (λ v. (h, v)) (visits-elsewhere g r t a h (none h))) (harts_in g r t))
    (counted-elsewhere g r t a other)

-- An access in the line.
pub note_arrival-any : (h x : ℕ) (hs : List ℕ) → list_any (eqb h) (note_arrival hs x) ≡ false
    → (eqb h x ≡ false) × (list_any (eqb h) hs ≡ false)
note_arrival-any h x hs none =
    elim (cases_Bool (list_any (eqb x) hs)) [
      | inl there ↦
          let k : list_any (eqb h) hs ≡ false = rw there at none in
          elim (cases_Bool (eqb h x)) [
            | inl e ↦ absurd (false≢true (sym k ∙ subst (λ z. list_any (eqb z) hs ≡ true)
                (sym (eqb-true h x e)) there))
            | inr e ↦ (e, k)
          ]
      | inr new ↦
          let k : list_any (eqb h) (hs ++ x ∷ []) ≡ false = rw new at none in
          let parts = or_parts (list_any (eqb h) hs) (list_any (eqb h) (x ∷ []))
          (sym (list_any-append (eqb h) hs (x ∷ [])) ∙ k) in
          ((or_parts (eqb h x) false parts.1).0, parts.0)
    ]

harts-here : (g : Grid) (r : ℕ) (t : List Touch) (a : Touch) → is_in (lines_of g) r a ≡ true
    → harts_in g r (t ++ a ∷ []) ≡ note_arrival (harts_in g r t) a.hart
harts-here g r t a here =
    rw (
      filter-append (is_in (lines_of g) r) t (a ∷ []),
      here,
      map-append (λ (b : Touch). b.hart) (filter (is_in (lines_of g) r) t) (a ∷ []),
    )
    (each_once-push (map (λ (b : Touch). b.hart) (filter (is_in (lines_of g) r) t)) a.hart)

never-visited : (g : Grid) (r : ℕ) (t : List Touch) (h : ℕ)
    → list_any (eqb h) (harts_in g r t) ≡ false → visits_in g r t h ≡ no_visits
never-visited g r t h =
    by_push (λ (t : List Touch). list_any (eqb h) (harts_in g r t) ≡ false
    → visits_in g r t h ≡ no_visits)
    (λ e. same_visits _ _ refl (ap right_after (copies-empty (lines_of g) h r)))
    (λ t a ih never.
    elim (cases_Bool (is_in (lines_of g) r a)) [
      | inr out ↦
          let before : list_any (eqb h) (harts_in g r t) ≡ false =
          subst (λ hs. list_any (eqb h) hs ≡ false) (harts-elsewhere g r t a out) never in
          visits-elsewhere g r t a h (rw (out, and-false) refl) ∙ ih before
      | inl here ↦
          let parts = note_arrival-any h a.hart (harts_in g r t)
          (subst (λ hs. list_any (eqb h) hs ≡ false) (harts-here g r t a here) never) in
          visits-elsewhere g r t a h (rw parts.0 refl) ∙ ih parts.1
    ])
    t

visits_of-in : (g : Grid) (r : ℕ) (t : List Touch) (h : ℕ)
    → visits_of (entries (visits_in g r t) (harts_in g r t)) h ≡ visits_in g r t h
visits_of-in g r t h =
    rw (lookup-entries (visits_in g r t) (harts_in g r t) h)
    (elim (cases_Bool (list_any (eqb h) (harts_in g r t))) [
      | inl there ↦ rw there refl
      | inr never ↦ rw never (sym (never-visited g r t h never))
    ])

word-in : (g : Grid) (r : ℕ) (t : List Touch) (i : ℕ) → i < g.size / 4
    → slice_index_or (map (last_write_of g r t) (below (g.size / 4))) i unwritten
    ≡ last_write_of g r t i
word-in g r t i lt =
    get_or_from_slice_get (map (last_write_of g r t) (below (g.size / 4))) i
    (last_write_of g r t i) unwritten (slice_get-map-below (last_write_of g r t) (g.size / 4) i lt)

-- the place of an address in its line
abbrev pub word_index_of : Grid → ℕ → ℕ
word_index_of g x = word_place (grid_line g (lines_of g x)) x

place-word : (g : Grid) (x : ℕ) → is_layout g.size g.offset ≡ true → (b : Touch)
    → writes_place g (lines_of g x) (word_index_of g x) b ≡ writes_word x b
place-word g x good b =
    elim (cases_Bool (is_write b.kind)) [
      | inl w ↦ rw w (same_word g (lines_of g x) x b.addr good refl)
      | inr w ↦ rw w refl
    ]

needs-wants : (g : Grid) (t : List Touch) (h x : ℕ) → is_layout g.size g.offset ≡ true
    → needs_now (visits_in g (lines_of g x) t h) h (last_write_of g (lines_of g x) t (word_index_of g x))
    ≡ wants (lines_of g) t h x
needs-wants g t h x good =
    rw (
      behind-same (writes_place g (lines_of g x) (word_index_of g x)) (writes_word x)
          (place-word g x good) t,
      last_hart-same (writes_place g (lines_of g x) (word_index_of g x)) (writes_word x)
          (place-word g x good) t,
    )
    (sym (wants-old (lines_of g) h x t (layout-keeps g.size g.offset good)))

visits-own : (g : Grid) (t : List Touch) (a : Touch)
    → visits_in g (lines_of g a.addr) (t ++ a ∷ []) a.hart
    ≡ visits_after (visits_in g (lines_of g a.addr) t a.hart)
    (wants (lines_of g) t a.hart a.addr) (length t)
visits-own g t a =
    same_visits _ _
    (rw (
      behind-push (is_by_in (lines_of g) a.hart (lines_of g a.addr)) t a,
      eq-eqb a.hart a.hart refl,
      eq-eqb (lines_of g a.addr) (lines_of g a.addr) refl,
    ) refl)
    (ap right_after (copies-own (lines_of g) t a)
    ∙ either (wants (lines_of g) t a.hart a.addr) (length t)
    (copies (lines_of g) t a.hart (lines_of g a.addr)))
  where
    either : (b : Bool) (n : ℕ) (c : Option ℕ)
        → right_after (if b then Some n else c) ≡ (if b then n + 1 else right_after c)
    either true n c = refl
    either false n c = refl

harts-own : (g : Grid) (t : List Touch) (a : Touch)
    → entries (visits_in g (lines_of g a.addr) (t ++ a ∷ []))
    (harts_in g (lines_of g a.addr) (t ++ a ∷ []))
    ≡ insert_entry nat_eq
    (entries (visits_in g (lines_of g a.addr) t) (harts_in g (lines_of g a.addr) t)) a.hart
    (visits_after (visits_in g (lines_of g a.addr) t a.hart)
    (wants (lines_of g) t a.hart a.addr) (length t))
harts-own g t a =
    let r = lines_of g a.addr in
    let agree : AgreeBut a.hart (visits_in g r t) (visits_in g r (t ++ a ∷ [])) =
    λ j other. visits-elsewhere g r t a j
    (let stranger : eqb j a.hart ≡ false = grind (arith, nat_tests) in rw stranger refl) in
    ap (entries (visits_in g r (t ++ a ∷ [])))
    (harts-here g r t a (eq-eqb (lines_of g a.addr) (lines_of g a.addr) refl))
    ∙ sym (insert-entries (visits_in g r t) (visits_in g r (t ++ a ∷ [])) (harts_in g r t) a.hart
    (each_once-distinct _) agree)
    ∙ ap (insert_entry nat_eq (entries (visits_in g r t) (harts_in g r t)) a.hart)
    (visits-own g t a)

words-own : (g : Grid) (t : List Touch) (a : Touch) → word_index_of g a.addr < g.size / 4
    → map (last_write_of g (lines_of g a.addr) (t ++ a ∷ [])) (below (g.size / 4))
    ≡ if is_write a.kind
    then slice_set (map (last_write_of g (lines_of g a.addr) t) (below (g.size / 4)))
    (word_index_of g a.addr) (record { behind = length t + 1; hart = a.hart })
    else map (last_write_of g (lines_of g a.addr) t) (below (g.size / 4))
words-own g t a within =
    let r = lines_of g a.addr in
    let own = eq-eqb (lines_of g a.addr) (lines_of g a.addr) refl in
    elim (cases_Bool (is_write a.kind)) [
      | inr w ↦ rw w (map_same _ _ (λ i. last_write-elsewhere g r i t a (rw w refl))
          (below (g.size / 4)))
      | inl w ↦
          let agree : AgreeBut (word_index_of g a.addr) (last_write_of g r t)
          (last_write_of g r (t ++ a ∷ [])) =
          λ j other. last_write-elsewhere g r j t a (rw (w, own, other) refl) in
          let here : writes_place g r (word_index_of g a.addr) a ≡ true =
          rw (w, own, eq-eqb (word_index_of g a.addr) (word_index_of g a.addr) refl) refl in
          rw w
          (map-set (last_write_of g r t) (last_write_of g r (t ++ a ∷ [])) (g.size / 4)
          (word_index_of g a.addr) within agree
          ∙ ap (slice_set (map (last_write_of g r t) (below (g.size / 4))) (word_index_of g a.addr))
          (same_write _ _
          (rw (behind-push (writes_place g r (word_index_of g a.addr)) t a, here) refl)
          (rw (last_hart-push (writes_place g r (word_index_of g a.addr)) t a, here) refl)))
    ]

add-if : (n : ℕ) (b : Bool) → n + (if b then 1 else 0) ≡ if b then n + 1 else n
add-if n true = refl
add-if n false = omega arith

not_kept : (n m : ℕ) → not (nat_lt 0 n && nat_le m n) ≡ (eqb n 0 || nat_lt n m)
not_kept n m = grind (arith, nat_tests)

cold_only : (n m : ℕ) → ((eqb n 0 || nat_lt n m) && not (nat_lt 0 n)) ≡ eqb n 0
cold_only n m = grind (arith, nat_tests)

miss-own : (g : Grid) (t : List Touch) (a : Touch)
    → is_miss (lines_of g) (lines_of g a.addr) t a
    ≡ misses_now (visits_in g (lines_of g a.addr) t a.hart)
    (behind (writes_in (lines_of g) (lines_of g a.addr)) t)
miss-own g t a =
    rw (
      eq-eqb (lines_of g a.addr) (lines_of g a.addr) refl,
      holders-kept (lines_of g) a.hart (lines_of g a.addr) t,
    )
    (not_kept (behind (is_by_in (lines_of g) a.hart (lines_of g a.addr)) t)
    (behind (writes_in (lines_of g) (lines_of g a.addr)) t))

cold-own : (g : Grid) (t : List Touch) (a : Touch)
    → is_cold (lines_of g) (lines_of g a.addr) t a
    ≡ eqb (behind (is_by_in (lines_of g) a.hart (lines_of g a.addr)) t) 0
cold-own g t a =
    rw (miss-own g t a, any-behind (is_by_in (lines_of g) a.hart (lines_of g a.addr)) t)
    (cold_only (behind (is_by_in (lines_of g) a.hart (lines_of g a.addr)) t)
    (behind (writes_in (lines_of g) (lines_of g a.addr)) t))

needed-here : (g : Grid) (t : List Touch) (a : Touch)
    → is_needed (lines_of g) (lines_of g a.addr) t a ≡ wants (lines_of g) t a.hart a.addr
needed-here g t a = rw (eq-eqb (lines_of g a.addr) (lines_of g a.addr) refl) refl

-- the costs of an access are what the definitions say of it
abbrev pub cost_by : Grid → List Touch → Touch → Cost
cost_by g t a = record {
  cold = is_cold (lines_of g) (lines_of g a.addr) t a;
  missed = is_miss (lines_of g) (lines_of g a.addr) t a;
  needed = is_needed (lines_of g) (lines_of g a.addr) t a;
}

same_cost : (x y : Cost) → x.cold ≡ y.cold → x.missed ≡ y.missed → x.needed ≡ y.needed → x ≡ y
same_cost x y e f g =
    ap (λ k. record { cold = k; missed = x.missed; needed = x.needed }) e
    ∙ ap (λ k. record { cold = y.cold; missed = k; needed = x.needed }) f
    ∙ ap (λ k. record { cold = y.cold; missed = y.missed; needed = k }) g

abbrev reported_cost : Visits → ℕ → Bool → Cost
reported_cost v written needed =
    record { cold = eqb v.accessed 0; missed = misses_now v written; needed = needed }

cost-stated : (g : Grid) (t : List Touch) (a : Touch)
    → reported_cost (visits_in g (lines_of g a.addr) t a.hart)
    (behind (writes_in (lines_of g) (lines_of g a.addr)) t) (wants (lines_of g) t a.hart a.addr)
    ≡ cost_by g t a
cost-stated g t a =
    same_cost _ _ (sym (cold-own g t a)) (sym (miss-own g t a)) (sym (needed-here g t a))

pub cost-own : (g : Grid) (t : List Touch) (a : Touch) → is_layout g.size g.offset ≡ true
    → word_index_of g a.addr < g.size / 4
    → cost_of (kept_line g t (lines_of g a.addr)) (word_index_of g a.addr) a.hart ≡ cost_by g t a
cost-own g t a good within =
    let r = lines_of g a.addr in
    rw (
      visits_of-in g r t a.hart,
      word-in g r t (word_index_of g a.addr) within,
      needs-wants g t a.hart a.addr good,
    )
    (cost-stated g t a)

counted-own : (g : Grid) (t : List Touch) (a : Touch)
    → counted g (lines_of g a.addr) (t ++ a ∷ [])
    ≡ counts_after (counted g (lines_of g a.addr) t) (cost_by g t a)
counted-own g t a =
    let r = lines_of g a.addr in
    same_counts _ _
    (rw (count_places-push (is_cold (lines_of g) r) t a) (add-if _ _))
    (rw (count_places-push (is_miss (lines_of g) r) t a) (add-if _ _))
    (rw (count_places-push (is_needed (lines_of g) r) t a) (add-if _ _))

pub all_counted-push : (g : Grid) (t : List Touch) (a : Touch)
    → all_counted g (t ++ a ∷ []) ≡ counts_after (all_counted g t) (cost_by g t a)
all_counted-push g t a =
    same_counts _ _
    (rw (count_places-push (λ before b. is_cold (lines_of g) (lines_of g b.addr) before b) t a)
    (add-if _ _))
    (rw (count_places-push (λ before b. is_miss (lines_of g) (lines_of g b.addr) before b) t a)
    (add-if _ _))
    (rw (count_places-push (λ before b. is_needed (lines_of g) (lines_of g b.addr) before b) t a)
    (add-if _ _))

pub kept_line-own : (g : Grid) (t : List Touch) (a : Touch) → is_layout g.size g.offset ≡ true
    → word_index_of g a.addr < g.size / 4
    → kept_line g (t ++ a ∷ []) (lines_of g a.addr)
    ≡ note_line (kept_line g t (lines_of g a.addr)) (length t) (word_index_of g a.addr) a
kept_line-own g t a good within =
    let r = lines_of g a.addr in
    let own = eq-eqb (lines_of g a.addr) (lines_of g a.addr) refl in
    rw (
      visits_of-in g r t a.hart,
      word-in g r t (word_index_of g a.addr) within,
      needs-wants g t a.hart a.addr good,
    )
    (same_entry _ _
    (rw (behind-push (writes_in (lines_of g) r) t a, own, and-true (is_write a.kind)) refl)
    (words-own g t a within)
    (harts-own g t a)
    (counted-own g t a ∙ ap (counts_after (counted g r t)) (sym (cost-stated g t a))))
