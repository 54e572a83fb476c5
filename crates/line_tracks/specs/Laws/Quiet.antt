-- A word that isn't truly shared is never taken from another hart, where each word is a line of
-- its own.
use Rattle.std.proofs.Common.{◌≡◌, ℕ, zero, suc, ◌+◌, ◌-◌, ◌*◌, ◌/◌, ◌%◌, ◌<◌, Bool, true, false}
use Rattle.std.proofs.Common.{cond, eqb, ltb, not, ◌&&◌, ◌||◌, List, [], ◌∷◌, Option, Some, None}
use Rattle.std.proofs.Common.{map, take, drop, refl, sym, ap, ◌∙◌, subst, arith, inl, inr}
use Rattle.std.proofs.lemmas.List.Folds.{list_any-append, list_any_more, list_all_more}
use Rattle.std.proofs.lemmas.List.Sums.{sum_by-cons}
use Rattle.std.proofs.lemmas.Bool.{cases_Bool, false≢true, or_cases, and_parts, and_from, or_left}
use Rattle.std.proofs.lemmas.Bool.{or_right, not-true, eqb-true, eq-eqb, ltb-true, lt-ltb}
use Rattle.std.proofs.lemmas.Option.{none-some, same_Some, slice_get-get_or, slice_get_within}
use Rattle.std.proofs.Math.Bool.{and-false}
use Rattle.std.proofs.Math.Seq.{take-nil}
use Rattle.std.proofs.Math.Nat.{div-div-eq-div-mul, mod-lt}
use Rattle.std.proofs.Math.Arith.{mod-mul}
use Rattle.std.proofs.lemmas.Bool.Decides.{nat_tests}
use Rattle.std.specs.Prelude.{slice_get, get_or, filter, count_by}
use Rattle.std.specs.List.{list_any, list_all}
use Rattle.base.specs.Touch.{Touch, is_write}
use Rattle.base.specs.Lines.{is_layout, is_line_size, line_number}
use Rattle.sharing_rules.specs.AccessLists.{AccessList}
use Rattle.sharing_rules.specs.Arrivals.{each_once}
use Rattle.sharing_rules.specs.Holders.{holders, after_access, is_invalidation, is_held_by_another}
use Rattle.sharing_rules.specs.Lines.{Line, is_inside, word_place}
use Rattle.sharing_rules.specs.Places.{passes_at}
use Rattle.sharing_rules.specs.Tracks.{track_since}
use Rattle.sharing_rules.specs.Verdicts.{is_many, is_truly_shared}
use Rattle.sharing_rules.specs.Words.{tally, owner_of, word_since, words_since}
use Rattle.sharing_rules.specs.Laws.Counts.{holders-push}
use Rattle.sharing_rules.specs.Laws.Words.{words_since-at}
use Rattle.line_tracks.specs.Quiet.{HasQuietWords, word_line}
use Rattle.sharing_rules.specs.Laws.Lists.{by_push, slice_cases, all_any}
use Rattle.sharing_rules.specs.Laws.Bases.{any_some}

-- an access by hart g that passes a test
abbrev is_by : ℕ → (Touch → Bool) → Touch → Bool
is_by g q b = eqb g b.hart && q b

-- leaving out y hides no other number
any-without : (x y : ℕ) (xs : List ℕ) → eqb x y ≡ false → list_any (eqb x) xs ≡ true
    → list_any (eqb x) (filter (λ z. not (eqb z y)) xs) ≡ true
any-without x y [] e h = absurd (false≢true h)
any-without x y (z ∷ xs) e h =
    elim (cases_Bool (eqb z y)) [
      | inl t ↦ let other : eqb x z ≡ false = grind (arith, nat_tests) in
          let later : list_any (eqb x) xs ≡ true = (rw other at h) in
          rw t (any-without x y xs e later)
      | inr f ↦ rw f (elim (or_cases (eqb x z) (list_any (eqb x) xs) h)
          [ inl here ↦ or_left _ _ here | inr later ↦ or_right _ _ (any-without x y xs e later) ])
    ]

-- each number that stands in a list stands in it once
each_once-any : (x : ℕ) (xs : List ℕ) → list_any (eqb x) xs ≡ true
    → list_any (eqb x) (each_once xs) ≡ true
each_once-any x [] h = absurd (false≢true h)
each_once-any x (y ∷ xs) h =
    elim (cases_Bool (eqb x y)) [
      | inl here ↦ or_left _ _ here
      | inr other ↦ or_right _ _ (any-without x y (each_once xs) other
          (each_once-any x xs (rw other at h)))
    ]

-- two numbers that differ make many
many-from : (g h : ℕ) (xs : List ℕ) → eqb g h ≡ false → list_any (eqb g) xs ≡ true
    → list_any (eqb h) xs ≡ true → is_many (owner_of xs) ≡ true
many-from g h [] e a b = absurd (false≢true a)
many-from g h (x ∷ []) e a b = absurd (false≢true (grind (arith, nat_tests)))
many-from g h (x ∷ (y ∷ xs)) e a b = refl

-- an access by a hart is among those that pass
hart-filter : (q : Touch → Bool) (g : ℕ) (v : List Touch) → list_any (is_by g q) v ≡ true
    → list_any (eqb g) (map (λ (b : Touch). b.hart) (filter q v)) ≡ true
hart-filter q g [] h = absurd (false≢true h)
hart-filter q g (b ∷ v) h =
    elim (or_cases (is_by g q b) (list_any (is_by g q) v) h) [
      | inl here ↦ let parts = and_parts (eqb g b.hart) (q b) here in
          rw parts.1 (or_left _ _ parts.0)
      | inr later ↦ elim (cases_Bool (q b)) [
        | inl e ↦
            rw e (or_right _ _ (hart-filter q g v later))
        | inr e ↦ rw e (hart-filter q g v later)
      ]
    ]

-- a write that passes is counted
write-filter : (q : Touch → Bool) (v : List Touch)
    → list_any (λ b. is_write b.kind && q b) v ≡ true
    → 0 < count_by (λ (b : Touch). is_write b.kind) (filter q v)
write-filter q [] h = absurd (false≢true h)
write-filter q (b ∷ v) h =
    elim (or_cases (is_write b.kind && q b) (list_any (λ c. is_write c.kind && q c) v) h) [
      | inl here ↦ let parts = and_parts (is_write b.kind) (q b) here in
          rw (
            parts.1,
            sum_by-cons (λ (c : Touch). cond (is_write c.kind) 1 0) b (filter q v),
            parts.0,
          ) (omega arith)
      | inr later ↦
          let ih = write-filter q v later in
          elim (cases_Bool (q b)) [
            | inl e ↦ rw (
              e,
              sum_by-cons (λ (c : Touch). cond (is_write c.kind) 1 0) b (filter q v),
            ) (omega arith)
            | inr e ↦ rw e ih
          ]
    ]

-- who holds a line has touched it
holder-touched : (line_of : ℕ → ℕ) (r g : ℕ) (t : List Touch) → holders line_of t g r ≡ true
    → list_any (is_by g (λ b. eqb (line_of b.addr) r)) t ≡ true
holder-touched line_of r g =
    by_push (λ (t : List Touch). holders line_of t g r ≡ true
    → list_any (is_by g (λ b. eqb (line_of b.addr) r)) t ≡ true)
    (λ e. absurd (false≢true e))
    (λ t a ih e.
    let held : after_access line_of (holders line_of t) a g r ≡ true =
    sym (holders-push line_of t a g r) ∙ e in
    rw (list_any-append (is_by g (λ b. eqb (line_of b.addr) r)) t (a ∷ []))
    (elim (cases_Bool (eqb (line_of a.addr) r)) [
      | inl here ↦
          let k : (eqb g a.hart || (not (is_write a.kind) && holders line_of t g r)) ≡ true =
          rw here at held in
          elim (or_cases (eqb g a.hart) (not (is_write a.kind) && holders line_of t g r) k) [
            | inl same ↦ or_right _ _ (or_left _ _ (and_from _ _ same here))
            | inr kept ↦ or_left _ _ (ih (and_parts _ _ kept).1)
          ]
      | inr there ↦ or_left _ _ (ih (rw there at held))
    ]))

-- an access of a word by another hart than its writer's makes it truly shared
shared-from : (q : Touch → Bool) (v : List Touch) (g h : ℕ) → eqb g h ≡ false
    → list_any (is_by g q) v ≡ true → list_any (is_by h q) v ≡ true
    → list_any (λ b. is_write b.kind && q b) v ≡ true → is_truly_shared (tally (filter q v)) ≡ true
shared-from q v g h e a b w =
    let hs = map (λ (b : Touch). b.hart) (filter q v) in
    and_from _ _ (many-from g h (each_once hs) e (each_once-any g hs (hart-filter q g v a))
    (each_once-any h hs (hart-filter q h v b))) (lt-ltb 0 _ (write-filter q v w))

-- what passes stands in a longer list too, and at its place
any-take : (p : Touch → Bool) (i : ℕ) (v : List Touch) → list_any p (take i v) ≡ true
    → list_any p v ≡ true
any-take p i [] h = absurd (false≢true (rw take-nil at h))
any-take p zero (b ∷ v) h = absurd (false≢true h)
any-take p (suc i) (b ∷ v) h = elim (or_cases (p b) (list_any p (take i v)) h)
    [ inl here ↦ or_left _ _ here | inr later ↦ or_right _ _ (any-take p i v later) ]

pub any_at : {X : Type 0} (p : X → Bool) (v : List X) (i : ℕ) (b : X) → slice_get v i ≡ Some b
    → p b ≡ true → list_any p v ≡ true
any_at p [] i b at h = absurd (none-some b at)
any_at p (c ∷ v) zero b at h = or_left _ _ (subst (λ x. p x ≡ true) (sym (same_Some c b at)) h)
any_at p (c ∷ v) (suc i) b at h = or_right _ _ (any_at p v i b at h)

-- a weaker test passes too
any-weaker : (p q : Touch → Bool) → ((b : Touch) → p b ≡ true → q b ≡ true) → (v : List Touch)
    → list_any p v ≡ true → list_any q v ≡ true
any-weaker p q f [] e = absurd (false≢true e)
any-weaker p q f (b ∷ v) e = elim (or_cases (p b) (list_any p v) e)
    [ inl here ↦ or_left _ _ (f b here) | inr later ↦ or_right _ _ (any-weaker p q f v later) ]

-- an invalidation of a line in a list makes its accesses those of a word that is truly shared
pub invalidated-shared : (line_of : ℕ → ℕ) (r : ℕ) (q : Touch → Bool)
    → ((b : Touch) → eqb (line_of b.addr) r ≡ true → q b ≡ true) → (v : List Touch) (i : ℕ)
    → passes_at (is_invalidation line_of r) v i ≡ true
    → is_truly_shared (tally (filter q v)) ≡ true
invalidated-shared line_of r q within v i e =
    elim (slice_cases (slice_get v i)) [
      | inl past ↦ absurd (false≢true (rw past at e))
      | inr there ↦
          let a = there.0 in
          let k : (is_write a.kind && (eqb (line_of a.addr) r) && is_held_by_another line_of
          (take i v) a.hart r) ≡ true = rw there.1 at e in
          let parts = and_parts (is_write a.kind && (eqb (line_of a.addr) r))
          (is_held_by_another line_of (take i v) a.hart r) k in
          let write = and_parts (is_write a.kind) (eqb (line_of a.addr) r) parts.0 in
          let here : q a ≡ true = within a write.1 in
          let other = any_some (λ b. not (eqb b.hart a.hart) && holders line_of (take i v) b.hart r)
          (take i v) parts.1 in
          let apart = and_parts (not (eqb other.0.hart a.hart))
          (holders line_of (take i v) other.0.hart r) other.1 in
          let differ : eqb other.0.hart a.hart ≡ false = not-true _ apart.0 in
          let touched = any-take (is_by other.0.hart (λ b. eqb (line_of b.addr) r)) i v
          (holder-touched line_of r other.0.hart (take i v) apart.1) in
          shared-from q v other.0.hart a.hart differ
          (any-weaker (is_by other.0.hart (λ b. eqb (line_of b.addr) r)) (is_by other.0.hart q)
          (λ b h. let p = and_parts (eqb other.0.hart b.hart) (eqb (line_of b.addr) r) h in
          and_from _ _ p.0 (within b p.1)) v touched)
          (any_at (is_by a.hart q) v i a there.1 (and_from _ _ (eq-eqb a.hart a.hart refl) here))
          (any_at (λ b. is_write b.kind && q b) v i a there.1 (and_from _ _ write.0 here))
    ]

-- what an allowed layout is to its words
record IsOfWords (n o : ℕ) : Type 0 where
  some : 0 < n
  whole : n % 4 ≡ 0
  inside : o < n
  begins : o % 4 ≡ 0

layout-words : (n o : ℕ) → is_layout n o ≡ true → IsOfWords n o
layout-words n o e =
    let parts = and_parts (is_line_size n && ltb o n) (eqb (o % 4) 0) e in
    let sized = and_parts (is_line_size n) (ltb o n) parts.0 in
    let size = and_parts (ltb 0 n) (eqb (n % 4) 0)
    (all_any (λ k. ltb 0 k && eqb (k % 4) 0) n
    (4 ∷ (8 ∷ (16 ∷ (32 ∷ (64 ∷ (128 ∷ (256 ∷ (512 ∷ (1024 ∷ []))))))))) refl sized.0) in
    record {
      some = ltb-true _ _ size.0;
      whole = eqb-true _ _ size.1;
      inside = ltb-true _ _ sized.1;
      begins = eqb-true _ _ parts.1;
    }

-- the line and the place of an address, counted in words
line-of-words : (m x : ℕ) → x / (4 * m) ≡ x / 4 / m
line-of-words m x = sym (div-div-eq-div-mul x 4 m)

place-of-words : (m x : ℕ) → 0 < m → x % (m * 4) / 4 ≡ x / 4 % m
place-of-words m x some = rw (mod-mul x {m = m} {c = 4} some (omega arith)) (omega arith)

-- two addresses of one word are in one line and at one place
same-word : (n o a b : ℕ) → IsOfWords n o → a / 4 ≡ b / 4 → (line_number n o a ≡ line_number n o b)
    × ((a + n - o) % n / 4 ≡ (b + n - o) % n / 4)
same-word n o a b w e =
    let m : ℕ = n / 4 in
    let left : n ≡ 4 * m = omega (arith, w.whole) in
    let right : n ≡ m * 4 = omega (arith, w.whole) in
    let some : 0 < m = omega (arith, w.some, w.whole) in
    let words : (a + n - o) / 4 ≡ (b + n - o) / 4 =
    omega (arith, w.whole, w.begins, w.inside, e) in (
      ap (λ k. (a + n - o) / k) left ∙ line-of-words m (a + n - o) ∙ ap (λ k. k / m) words
          ∙ sym (line-of-words m (b + n - o)) ∙ ap (λ k. (b + n - o) / k) (sym left),
      ap (λ k. (a + n - o) % k / 4) right ∙ place-of-words m (a + n - o) some
          ∙ ap (λ k. k % m) words ∙ sym (place-of-words m (b + n - o) some)
          ∙ ap (λ k. (b + n - o) % k / 4) (sym right),
    )

place-within : (n o a : ℕ) → IsOfWords n o → (a + n - o) % n / 4 < n / 4
place-within n o a w =
    let r : (a + n - o) % n < n = mod-lt (a + n - o) w.some in
    omega (arith, w.whole, r)

-- where no word of a line is truly shared, none is invalidated
pub unshared-quiet : (l : Line) (s : ℕ) (t : AccessList) → is_layout l.size l.offset ≡ true
    → list_any is_truly_shared (words_since l s t) ≡ false → HasQuietWords l (drop s t)
unshared-quiet l s t allowed none addr inside i =
    let w = layout-words l.size l.offset allowed in
    let p : ℕ = word_place l addr in
    elim (cases_Bool (passes_at (is_invalidation word_line (word_line addr)) (drop s t) i)) [
      | inl found ↦
          let shared = invalidated-shared word_line (word_line addr)
          (λ b. is_inside l b.addr && eqb (word_place l b.addr) p)
          (λ b same.
          let words : b.addr / 4 ≡ addr / 4 =
          omega (arith, eqb-true (word_line b.addr) (word_line addr) same) in
          let k = same-word l.size l.offset b.addr addr w words in
          and_from _ _ (eq-eqb _ _ (k.0 ∙ eqb-true _ _ inside)) (eq-eqb _ _ k.1))
          (drop s t) i found in
          let any : list_any is_truly_shared (words_since l s t) ≡ true =
          any_at is_truly_shared (words_since l s t) p (word_since l s t p)
          (words_since-at l s t p (place-within l.size l.offset addr w)) shared in
          absurd (false≢true (sym none ∙ any))
      | inr quiet ↦ quiet
    ]

-- the words of a track are those since its start
pub track-words : (l : Line) (t : AccessList) (o : Option ℕ) (s : ℕ)
    → (track_since l t o).start ≡ Some s → (track_since l t o).words ≡ words_since l s t
track-words l t None s e = absurd (none-some s e)
track-words l t (Some u) s e = ap (λ k. words_since l k t) (same_Some u s e)

-- one element more
here : {X : Type 0} (v : List X) (i : ℕ) (b : X) → slice_get v i ≡ Some b → get_or v i b ≡ b
here v i b at = same_Some _ _ (sym (slice_get-get_or v i b (slice_get_within v i b at)) ∙ at)

pub any_more : {X : Type 0} (p : X → Bool) (v : List X) (i : ℕ) (b : X) → slice_get v i ≡ Some b
    → list_any p (take i v) ≡ false → p b ≡ false → list_any p (take (i + 1) v) ≡ false
any_more p v i b at none h = rw (
  list_any_more p v i b (slice_get_within v i b at),
  here v i b at,
  none,
) h

pub all_more : {X : Type 0} (p : X → Bool) (v : List X) (i : ℕ) (b : X) → slice_get v i ≡ Some b
    → list_all p (take i v) ≡ true → p b ≡ true → list_all p (take (i + 1) v) ≡ true
all_more p v i b at each h = rw (
  list_all_more p v i b (slice_get_within v i b at),
  here v i b at,
  each,
) h

-- an element that fails
pub all_fails : {X : Type 0} (p : X → Bool) (v : List X) (i : ℕ) (b : X) → slice_get v i ≡ Some b
    → p b ≡ false → list_all p v ≡ false
all_fails p [] i b at h = absurd (none-some b at)
all_fails p (c ∷ v) zero b at h = rw (same_Some c b at, h)
all_fails p (c ∷ v) (suc i) b at h = rw (all_fails p v i b at h) (and-false (p c))
