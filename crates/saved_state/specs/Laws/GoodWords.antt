-- The words, the entries and the count of a line of a list are such as a state may hold.
use Rattle.std.proofs.Common.{◌≡◌, ℕ, zero, suc, ◌+◌, ◌-◌, ◌/◌, ◌<◌, ◌≤◌, Bool, true, false, not}
use Rattle.std.proofs.Common.{◌&&◌, eqb, ltb, leb, List, [], ◌∷◌, length, map, take, drop, refl}
use Rattle.std.proofs.Common.{sym, ap, ◌∙◌, subst, arith, inl, inr}
use Rattle.std.proofs.lemmas.Bool.{cases_Bool, and_from, and_left, le-leb, lt-ltb, le-ltb}
use Rattle.std.proofs.lemmas.Bool.Decides.{nat_tests}
use Rattle.std.proofs.lemmas.List.{length-drop, length-map, length-take, map-append}
use Rattle.std.proofs.lemmas.List.{take-append-drop}
use Rattle.std.proofs.lemmas.List.Sums.{count_by-le-length, length-filter, sum_by-cons, sum_by_push}
use Rattle.std.specs.Prelude.{count_by, filter, if◌then◌else◌, nat_lt, slice_get, sum_by}
use Rattle.std.specs.List.{IsDistinct, list_all, list_any}
use Rattle.base.specs.Lines.{line_number}
use Rattle.base.specs.Touch.{Touch, is_write}
use Rattle.sharing_rules.specs.AccessLists.{touches, writes_to}
use Rattle.sharing_rules.specs.Arrivals.{arrivals, each_once, since_last_write}
use Rattle.sharing_rules.specs.Holders.{is_invalidation, line_count_since}
use Rattle.sharing_rules.specs.Lines.{Line, is_inside, word_place}
use Rattle.sharing_rules.specs.Members.{Member}
use Rattle.sharing_rules.specs.Places.{Question, below, count_below, count_places, passes_at}
use Rattle.sharing_rules.specs.Tracks.{blank_words}
use Rattle.sharing_rules.specs.Words.{accesses, owner_of, tally, word_since, words_since}
use Rattle.sharing_rules.specs.declared.word.Word.{Word}
use Rattle.sharing_rules.specs.Laws.Arrivals.{arrivals-distinct, arrivals-some}
use Rattle.sharing_rules.specs.Laws.Kinds.{append-Member_right}
use Rattle.sharing_rules.specs.Laws.Lists.{Member-filter, slice_cases}
use Rattle.line_tracks.specs.RangeWords.{can_own, is_possible}
use Rattle.saved_state.specs.Laws.Lists.{Member-map, all_pass}
use Rattle.saved_state.specs.Units.{are_entries, is_good_word, is_owner}

-- ---- numbers once each

pub each_once-few : (xs : List ℕ) → length (each_once xs) ≤ length xs
each_once-few [] = omega arith
each_once-few (x ∷ xs) = omega (
  arith,
  each_once-few xs,
  length-filter (λ y. not (eqb y x)) (each_once xs),
  count_by-le-length (λ y. not (eqb y x)) (each_once xs),
)

each_once-Member : (xs : List ℕ) (h : ℕ) → Member h (each_once xs) → Member h xs
each_once-Member [] h m = absurd m
each_once-Member (x ∷ xs) h m = elim m [
  | inl is ↦ inl is
  | inr later ↦
      inr (each_once-Member xs h (Member-filter (λ y. not (eqb y x)) (each_once xs) h later).0)
]

-- ---- words

-- a word has as many accesses as were counted of it
counted_either : (w : Bool) → (if not w then 1 else 0) + (if w then 1 else 0) ≡ 1
counted_either true = refl
counted_either false = refl

accesses-tally : (u : List Touch) → accesses (tally u) ≡ length u
accesses-tally [] = refl
accesses-tally (a ∷ u) = omega (
  arith,
  accesses-tally u,
  counted_either (is_write a.kind),
  sum_by-cons (λ (b : Touch). if not (is_write b.kind) then 1 else 0) a u,
  sum_by-cons (λ (b : Touch). if is_write b.kind then 1 else 0) a u,
)

own_first : (h : ℕ) (hs : List ℕ) (n : ℕ) → length hs ≤ n
    → can_own (owner_of (h ∷ hs)) (suc n) ≡ true
own_first h [] n few = le-leb 1 (suc n) (omega arith)
own_first h (g ∷ hs) n few = le-leb 2 (suc n) (omega (arith, few))

owned : (u : List Touch) → can_own (owner_of (each_once (map (λ a. a.hart) u))) (length u) ≡ true
owned [] = refl
owned (a ∷ u) =
    let hs : List ℕ = map (λ (b : Touch). b.hart) u in
    own_first a.hart (filter (λ y. not (eqb y a.hart)) (each_once hs)) (length u)
    (omega (
      arith,
      each_once-few hs,
      length-filter (λ y. not (eqb y a.hart)) (each_once hs),
      count_by-le-length (λ y. not (eqb y a.hart)) (each_once hs),
      length-map u (λ (b : Touch). b.hart),
    ))

hart_of : (harts : ℕ) (hs : List ℕ) → ((h : ℕ) → Member h hs → h < harts)
    → is_owner harts (owner_of hs) ≡ true
hart_of harts [] each = refl
hart_of harts (h ∷ []) each = lt-ltb h harts (each h (inl refl))
hart_of harts (h ∷ (g ∷ hs)) each = refl

-- what is counted of some accesses
pub tally-good : (harts : ℕ) (u : List Touch) → ((a : Touch) → Member a u → a.hart < harts)
    → is_good_word harts (tally u) ≡ true
tally-good harts u each =
    and_from (is_possible (tally u)) (is_owner harts (tally u).owner)
    (ap (can_own (tally u).owner) (accesses-tally u) ∙ owned u)
    (hart_of harts (each_once (map (λ (a : Touch). a.hart) u)) (λ h m.
    let w = Member-map (λ (a : Touch). a.hart) u h
    (each_once-Member (map (λ (a : Touch). a.hart) u) h m) in
    subst (λ k. k < harts) (sym w.2) (each w.0 w.1)))

Member-drop : (s : ℕ) (t : List Touch) (a : Touch) → Member a (drop s t) → Member a t
Member-drop s t a m = subst (λ (u : List Touch). Member a u) (take-append-drop s t)
    (append-Member_right (take s t) (drop s t) a m)

pub words_since-good : (harts : ℕ) (l : Line) (s : ℕ) (t : List Touch)
    → ((a : Touch) → Member a t → a.hart < harts)
    → list_all (is_good_word harts) (words_since l s t) ≡ true
unfolding words_since
words_since-good harts l s t each =
    all_pass (is_good_word harts) (map (word_since l s t) (below (l.size / 4))) (λ w m.
    let i = Member-map (word_since l s t) (below (l.size / 4)) w m in
    let inside : Touch → Bool = λ a. is_inside l a.addr && eqb (word_place l a.addr) i.0 in
    subst (λ z. is_good_word harts z ≡ true) (sym i.2)
    (tally-good harts (filter inside (drop s t))
    (λ a n. each a (Member-drop s t a (Member-filter inside (drop s t) a n).0))))

pub blank_words-good : (harts : ℕ) (l : Line)
    → list_all (is_good_word harts) (blank_words l) ≡ true
blank_words-good harts l =
    all_pass (is_good_word harts) (map (λ i. tally []) (below (l.size / 4))) (λ w m.
    let i = Member-map (λ (j : ℕ). tally []) (below (l.size / 4)) w m in
    subst (λ z. is_good_word harts z ≡ true) (sym i.2) refl)

-- each access is one of the words of one place at most
placed_once : (c : Bool) (q m : ℕ)
    → (if c && ltb q m then 1 else 0) + (if c && eqb q m then 1 else 0)
    ≤ (if c && ltb q (suc m) then 1 else 0)
placed_once true q m = grind (arith, nat_tests)
placed_once false q m = omega arith

one_place_more : (c : Touch → Bool) (q : Touch → ℕ) (m : ℕ) (u : List Touch)
    → count_by (λ a. c a && ltb (q a) m) u + count_by (λ a. c a && eqb (q a) m) u
    ≤ count_by (λ a. c a && ltb (q a) (suc m)) u
one_place_more c q m [] = omega arith
one_place_more c q m (a ∷ u) = omega (
  arith,
  one_place_more c q m u,
  placed_once (c a) (q a) m,
  sum_by-cons (λ (b : Touch). if c b && ltb (q b) m then 1 else 0) a u,
  sum_by-cons (λ (b : Touch). if c b && eqb (q b) m then 1 else 0) a u,
  sum_by-cons (λ (b : Touch). if c b && ltb (q b) (suc m) then 1 else 0) a u,
)

abbrev words_at : (Touch → Bool) → (Touch → ℕ) → List Touch → ℕ → List Word
words_at c q u m = map (λ i. tally (filter (λ a. c a && eqb (q a) i) u)) (below m)

shared_out : (c : Touch → Bool) (q : Touch → ℕ) (u : List Touch) (m : ℕ)
    → sum_by accesses (words_at c q u m) ≤ count_by (λ a. c a && ltb (q a) m) u
shared_out c q u zero = omega arith
shared_out c q u (suc m) =
    let word : ℕ → Word = λ i. tally (filter (λ a. c a && eqb (q a) i) u) in
    let all : sum_by accesses (words_at c q u (suc m))
    ≡ sum_by accesses (words_at c q u m) + accesses (word m) =
    ap (sum_by accesses) (map-append word (below m) (m ∷ []))
    ∙ sum_by_push accesses (words_at c q u m) (word m) in
    omega (
      arith,
      all,
      shared_out c q u m,
      one_place_more c q m u,
      accesses-tally (filter (λ a. c a && eqb (q a) m) u),
      length-filter (λ a. c a && eqb (q a) m) u,
    )

-- since a position there is at most one access of a line's words a position
pub words_since-few : (l : Line) (s : ℕ) (t : List Touch) → s ≤ length t
    → sum_by accesses (words_since l s t) + s ≤ length t
unfolding words_since
words_since-few l s t within =
    let c : Touch → Bool = λ a. is_inside l a.addr in
    let q : Touch → ℕ = λ a. word_place l a.addr in
    omega (
      arith,
      within,
      shared_out c q (drop s t) (l.size / 4),
      count_by-le-length (λ a. c a && ltb (q a) (l.size / 4)) (drop s t),
      length-drop s t,
    )

-- ---- the count

counted_late : (p : ℕ → Bool) (s n : ℕ) → ((i : ℕ) → i ≤ s → p i ≡ false)
    → count_below p n ≤ n - suc s
counted_late p s zero none = omega arith
counted_late p s (suc n) none =
    elim (cases_Bool (leb n s)) [
      | inl early ↦ rw (none n (below_by n s early)) (omega (arith, counted_late p s n none))
      | inr late ↦ elim (cases_Bool (p n)) [
        | inl here ↦ rw here (omega (arith, counted_late p s n none, above_by n s late))
        | inr elsewhere ↦ rw elsewhere (omega (arith, counted_late p s n none))
      ]
    ]
  where
    below_by : (n s : ℕ) → leb n s ≡ true → n ≤ s
    below_by n s h = grind (arith, nat_tests)

    above_by : (n s : ℕ) → leb n s ≡ false → s < n
    above_by n s h = grind (arith, nat_tests)

-- the starting access doesn't count
pub count-few : (l : Line) (s : ℕ) (t : List Touch) → s < length t
    → line_count_since l s t + s < length t
unfolding count_places
count-few l s t within =
    let asked : Question = λ before a. nat_lt s (length before)
    && is_invalidation (line_number l.size l.offset) l.number before a in
    let few = counted_late (passes_at asked t) s (length t) (λ i early.
    elim (slice_cases (slice_get t i)) [
      | inl none ↦ rw none
      | inr there ↦ rw there.1 (and_left _ _ (le-ltb s (length (take i t))
          (omega (arith, length-take i t, early))))
    ]) in
    omega (arith, few, within)

-- ---- the entries

since_last_write-Member : (inside : ℕ → Bool) (t : List Touch) (a : Touch)
    → Member a (since_last_write inside t) → Member a t
since_last_write-Member inside [] a m = absurd m
since_last_write-Member inside (b ∷ t) a m =
    elim (cases_Bool (list_any (writes_to inside) t)) [
      | inl later ↦ inr (since_last_write-Member inside t a (rw later at m))
      | inr last ↦ elim (cases_Bool (writes_to inside b)) [
        | inl here ↦ let n : Member a (b ∷ t) = rw (last, here) at m in n
        | inr none ↦ let n : ⊥ = rw (last, none) at m in absurd n
      ]
    ]

arrivals-Member : (inside : ℕ → Bool) (t : List Touch) (h : ℕ) → Member h (arrivals inside t)
    → (a : Touch) × Member a t × (h ≡ a.hart)
unfolding arrivals
arrivals-Member inside t h m =
    let came = filter (touches inside) (since_last_write inside t) in
    let w = Member-map (λ (a : Touch). a.hart) came h
    (each_once-Member (map (λ (a : Touch). a.hart) came) h m) in (
      w.0,
      since_last_write-Member inside t w.0
          (Member-filter (touches inside) (since_last_write inside t) w.0 w.1).0,
      w.2,
    )

first_two : (harts : ℕ) (hs : List ℕ) → IsDistinct eqb hs → 0 < length hs
    → ((h : ℕ) → Member h hs → h < harts) → are_entries harts (take 2 hs) ≡ true
unfolding IsDistinct
first_two harts [] apart some each = absurd (omega (arith, some))
first_two harts (h ∷ []) apart some each = rw (lt-ltb h harts (each h (inl refl)))
first_two harts (h ∷ (g ∷ hs)) apart some each =
    rw (
      lt-ltb h harts (each h (inl refl)),
      lt-ltb g harts (each g (inr (inl refl))),
      flipped h g apart.0.0,
    )
  where
    flipped : (h g : ℕ) → eqb h g ≡ false → eqb g h ≡ false
    flipped h g e = grind (arith, nat_tests)

-- one or two harts of the list that differ
pub arrivals-entries : (harts : ℕ) (inside : ℕ → Bool) (t : List Touch)
    → list_any (writes_to inside) t ≡ true → ((a : Touch) → Member a t → a.hart < harts)
    → are_entries harts (take 2 (arrivals inside t)) ≡ true
arrivals-entries harts inside t written each =
    let some = arrivals-some inside t written in
    first_two harts (arrivals inside t) (arrivals-distinct inside t)
    (let n : length (arrivals inside t) ≡ suc (length some.1) = ap length some.2
    in omega (arith, n))
    (λ h m. let w = arrivals-Member inside t h m in
    subst (λ k. k < harts) (sym w.2) (each w.0 w.1))
