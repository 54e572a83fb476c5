-- Where no word of a line is truly shared from a start on, an invalidation of one word has its
-- victim below the start.
use Rattle.std.proofs.Common.{◌≡◌, ℕ, zero, suc, ◌/◌, ◌<◌, ◌≤◌, Bool, true, false, eqb, not}
use Rattle.std.proofs.Common.{◌&&◌, ◌||◌, List, [], ◌∷◌, ◌++◌, Some, drop, length, map, refl, sym}
use Rattle.std.proofs.Common.{ap, ◌∙◌, subst, arith, inl, inr}
use Rattle.std.proofs.lemmas.Bool.{and_from, and_parts, cases_Bool, cases_lt, eq-eqb, eqb-true}
use Rattle.std.proofs.lemmas.Bool.{false≢true, lt-ltb, ltb-true, or_cases, or_left, or_right}
use Rattle.std.proofs.lemmas.List.{drop-append-le, map-append}
use Rattle.std.proofs.lemmas.List.Folds.{list_any-append}
use Rattle.std.proofs.lemmas.List.Sums.{sum_by-cons}
use Rattle.std.proofs.lemmas.Option.{none-some, slice_get-map}
use Rattle.std.specs.List.{list_any}
use Rattle.std.specs.Prelude.{cond, count_by, filter, slice_get}
use Rattle.base.specs.Lines.{is_layout}
use Rattle.base.specs.Touch.{Touch, is_write}
use Rattle.misses.specs.Laws.WordLines.{layout-sized, same_word}
use Rattle.sharing_rules.specs.Arrivals.{each_once}
use Rattle.sharing_rules.specs.Laws.Lists.{any_get}
use Rattle.sharing_rules.specs.Laws.Tracks.{word_place-within}
use Rattle.sharing_rules.specs.Laws.Words.{words_since-at}
use Rattle.sharing_rules.specs.Lines.{Line, is_inside, word_place}
use Rattle.sharing_rules.specs.Verdicts.{is_many, is_truly_shared, verdict_of}
use Rattle.sharing_rules.specs.Words.{owner_of, word_since, words_since}
use Rattle.sharing_rules.specs.declared.line_kind.Verdict.TheVariants.{FalseSharing, TrueSharing}
use Rattle.sharing_rules.specs.declared.line_kind.Verdict.TheVariants.{Mixed}
use Rattle.sharing_rules.specs.declared.word.Word.{Word}
use Rattle.invalidations.specs.declared.sited.Sited.{Sited}
use Rattle.invalidations.specs.Latest.{accesses_of, latest}
use Rattle.invalidations.specs.Laws.Latest.{latest-passes, length-accesses_of}
use Rattle.invalidations.specs.Invalidations.{is_in, is_in_by_another, is_of_one_word}
use Rattle.invalidations.specs.Invalidations.{invalidates_line, victim_place}

-- leaving out y hides no other number
any-without : (x y : ℕ) (xs : List ℕ) → eqb x y ≡ false
    → list_any (eqb x) (filter (λ z. not (eqb z y)) xs) ≡ list_any (eqb x) xs
any-without x y [] e = refl
any-without x y (z ∷ xs) e =
    elim (cases_Bool (eqb z y)) [
      | inl t ↦
          let other : eqb x z ≡ false = rw (eqb-true z y t) e in
          rw (t, other) (any-without x y xs e)
      | inr f ↦ rw f (ap (λ b. eqb x z || b) (any-without x y xs e))
    ]

any-once : (x : ℕ) (xs : List ℕ) → list_any (eqb x) (each_once xs) ≡ list_any (eqb x) xs
any-once x [] = refl
any-once x (y ∷ xs) =
    elim (cases_Bool (eqb x y)) [
      | inl e ↦ rw e refl
      | inr e ↦ rw e (any-without x y (each_once xs) e ∙ any-once x xs)
    ]

two-many : (x y : ℕ) (hs : List ℕ) → eqb x y ≡ false → list_any (eqb x) hs ≡ true
    → list_any (eqb y) hs ≡ true → is_many (owner_of hs) ≡ true
two-many x y [] other a b = absurd (false≢true a)
two-many x y (h ∷ []) other a b =
    elim (or_cases (eqb x h) false a) [
      | inl e ↦ elim (or_cases (eqb y h) false b) [
        | inl f ↦ absurd (false≢true (sym other
            ∙ eq-eqb x y (eqb-true x h e ∙ sym (eqb-true y h f))))
        | inr none ↦ absurd (false≢true none)
      ]
      | inr none ↦ absurd (false≢true none)
    ]
two-many x y (h ∷ (g ∷ hs)) other a b = refl

-- one that passes is counted
any-count : (p : Touch → Bool) (t : List Touch) → list_any p t ≡ true → 0 < count_by p t
any-count p [] e = absurd (false≢true e)
any-count p (a ∷ t) e =
    elim (or_cases (p a) (list_any p t) e) [
      | inl here ↦ rw (sum_by-cons (λ (x : Touch). cond (p x) 1 0) a t, here) (omega arith)
      | inr later ↦
          let ih = any-count p t later in
          rw (sum_by-cons (λ (x : Touch). cond (p x) 1 0) a t) (omega (arith, ih))
    ]

any-filter : (p q : Touch → Bool) (t : List Touch)
    → list_any q (filter p t) ≡ list_any (λ a. p a && q a) t
any-filter p q [] = refl
any-filter p q (a ∷ t) =
    elim (cases_Bool (p a)) [
      | inl e ↦ rw e (ap (λ b. q a || b) (any-filter p q t))
      | inr e ↦ rw e (any-filter p q t)
    ]

any-hart : (h : ℕ) (t : List Touch)
    → list_any (eqb h) (map (λ a. a.hart) t) ≡ list_any (λ a. eqb h a.hart) t
any-hart h [] = refl
any-hart h (a ∷ t) = ap (λ b. eqb h a.hart || b) (any-hart h t)

-- what stands at or behind a place is behind it
any-dropped : (q : Touch → Bool) (t : List Touch) (n i : ℕ) (b : Touch) → slice_get t i ≡ Some b
    → n ≤ i → q b ≡ true → list_any q (drop n t) ≡ true
any-dropped q t zero i b there le passes = any_get q t i b there passes
any-dropped q [] (suc n) i b there le passes = absurd (none-some b there)
any-dropped q (a ∷ t) (suc n) zero b there le passes = absurd (omega (arith, le))
any-dropped q (a ∷ t) (suc n) (suc i) b there le passes =
    any-dropped q t n i b there (omega (arith, le)) passes

any-word : (ws : List Word) (i : ℕ) (w : Word) → slice_get ws i ≡ Some w
    → is_truly_shared w ≡ true → list_any is_truly_shared ws ≡ true
any-word [] i w there shared = absurd (none-some w there)
any-word (x ∷ ws) zero w there shared =
    or_left _ _ (subst (λ y. is_truly_shared y ≡ true)
    (sym (Rattle.std.proofs.lemmas.Option.same_Some x w there)) shared)
any-word (x ∷ ws) (suc i) w there shared = or_right _ _ (any-word ws i w there shared)

not-false : (ws : List Word) → list_any is_truly_shared ws ≡ true → verdict_of ws ≡ FalseSharing
    → ⊥
not-false ws shared false_there =
    elim (cases_Bool (Rattle.std.specs.List.list_all
    (λ (w : Word). is_truly_shared w || eqb w.writes 0) ws)) [
      | inl e ↦ let k : TrueSharing ≡ FalseSharing = rw (shared, e) at false_there in cc
      | inr e ↦ let k : Mixed ≡ FalseSharing = rw (shared, e) at false_there in cc
    ]

-- the accesses of one word of the line
abbrev in_word : Line → ℕ → Touch → Bool
in_word l p a = is_inside l a.addr && eqb (word_place l a.addr) p

-- two accesses of one word by two harts at or behind a start, of which one writes
shared-word : (l : Line) (start p : ℕ) (t : List Touch) (g h : ℕ) → eqb g h ≡ false
    → list_any (λ a. in_word l p a && eqb g a.hart) (drop start t) ≡ true
    → list_any (λ a. in_word l p a && eqb h a.hart) (drop start t) ≡ true
    → list_any (λ a. in_word l p a && is_write a.kind) (drop start t) ≡ true
    → is_truly_shared (word_since l start t p) ≡ true
shared-word l start p t g h other one two writes =
    let them = filter (in_word l p) (drop start t) in
    let harts = map (λ (a : Touch). a.hart) them in
    let has : (k : ℕ) → list_any (λ a. in_word l p a && eqb k a.hart) (drop start t) ≡ true
    → list_any (eqb k) (each_once harts) ≡ true =
    λ k e. any-once k harts ∙ any-hart k them
    ∙ any-filter (in_word l p) (λ a. eqb k a.hart) (drop start t) ∙ e in
    let many = two-many g h (each_once harts) other (has g one) (has h two) in
    let some = any-count (λ (a : Touch). is_write a.kind) them
    (any-filter (in_word l p) (λ a. is_write a.kind) (drop start t) ∙ writes) in
    and_from _ _ many (lt-ltb 0 _ some)

pub one_word-below : (l : Line) (start : ℕ) (before after : List Sited) (s v : Sited) (i : ℕ)
    → is_layout l.size l.offset ≡ true
    → verdict_of (words_since l start (accesses_of (before ++ s ∷ after))) ≡ FalseSharing
    → invalidates_line l start before s ≡ true → victim_place l before s ≡ Some i
    → slice_get before i ≡ Some v → is_of_one_word (record { victim = v; taker = s }) ≡ true
    → i < start
unfolding latest
one_word-below l start before after s v i good verdict taken place there same =
    let t = accesses_of (before ++ s ∷ after) in
    let front = accesses_of before in
    let rest = s.access ∷ accesses_of after in
    let split : t ≡ front ++ rest = map-append (λ (x : Sited). x.access) before (s ∷ after) in
    let p = word_place l s.access.addr in
    let parts = and_parts _ _ taken in
    let above : start < length before = ltb-true start (length before) parts.0 in
    let long : start ≤ length front = omega (arith, above, length-accesses_of before) in
    let inner = and_parts _ _ (and_parts _ _ parts.1).0 in
    let here : is_inside l s.access.addr ≡ true = inner.1 in
    let latest_one : latest (is_in_by_another l s.access.hart) before ≡ Some v =
    rw place there in
    let passes = and_parts (is_in l v) (not (eqb v.access.hart s.access.hart))
    (latest-passes (is_in_by_another l s.access.hart) before v latest_one) in
    let other : eqb v.access.hart s.access.hart ≡ false =
    elim (cases_Bool (eqb v.access.hart s.access.hart)) [
      | inl e ↦ absurd (false≢true (rw e at passes.1))
      | inr e ↦ e
    ] in
    let behind : drop start t ≡ drop start front ++ rest =
    ap (drop start) split ∙ drop-append-le start front rest long in
    let own : in_word l p s.access ≡ true = and_from _ _ here (eq-eqb p p refl) in
    let its : in_word l p v.access ≡ true =
    same_word (record { size = l.size; offset = l.offset }) l.number s.access.addr v.access.addr
    good (eqb-true _ _ here) ∙ same in
    let taker : (q : Touch → Bool) → q s.access ≡ true → list_any q (drop start t) ≡ true =
    λ q e. ap (list_any q) behind ∙ list_any-append q (drop start front) rest
    ∙ or_right _ _ (or_left _ _ e) in
    elim (cases_lt i start) [
      | inl less ↦ less
      | inr more ↦
          let at_v : slice_get front i ≡ Some v.access =
          slice_get-map (λ (x : Sited). x.access) before i ∙ rw there refl in
          let victim_there : (q : Touch → Bool) → q v.access ≡ true
          → list_any q (drop start t) ≡ true =
          λ q e. ap (list_any q) behind ∙ list_any-append q (drop start front) rest
          ∙ or_left _ _ (any-dropped q front start i v.access at_v more e) in
          let shared = shared-word l start p t v.access.hart s.access.hart other
          (victim_there (λ a. in_word l p a && eqb v.access.hart a.hart)
          (and_from _ _ its (eq-eqb v.access.hart v.access.hart refl)))
          (taker (λ a. in_word l p a && eqb s.access.hart a.hart)
          (and_from _ _ own (eq-eqb s.access.hart s.access.hart refl)))
          (taker (λ a. in_word l p a && is_write a.kind) (and_from _ _ own inner.0)) in
          let sized = layout-sized l.size l.offset good in
          let within : p < l.size / 4 = word_place-within l s.access.addr sized.0 sized.1 in
          absurd (not-false (words_since l start t)
          (any-word (words_since l start t) p (word_since l start t p)
          (words_since-at l start t p within) shared) verdict)
    ]
