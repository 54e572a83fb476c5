-- What a line costs beside the own lines of its words: its needed loads and the words that came
-- along are the needed loads of these.
use Rattle.std.proofs.Common.{◌≡◌, ℕ, ◌+◌, ◌-◌, ◌*◌, ◌/◌, Bool, true, false, eqb, ◌&&◌}
use Rattle.std.proofs.Common.{List, [], ◌∷◌, refl, sym, ap, ◌∙◌, arith, inl, inr}
use Rattle.std.proofs.lemmas.Bool.{and_parts, cases_Bool}
use Rattle.std.proofs.lemmas.List.Sums.{sum_by-cons}
use Rattle.std.proofs.Math.Bool.{and-false, and-true}
use Rattle.std.specs.List.{list_any}
use Rattle.std.specs.Prelude.{filter, sum_by}
use Rattle.base.specs.Touch.{Touch, word_of}
use Rattle.sharing_rules.specs.Laws.Lists.{by_push}
use Rattle.sharing_rules.specs.Laws.Places.{count_places-empty, count_places-push}
use Rattle.sharing_rules.specs.Places.{Question, count_places}
use Rattle.misses.specs.MissCounts.{LineEntry, accessed_lines}
use Rattle.misses.specs.Laws.Costs.{costs-ordered, needed-own_line, word_line-useless}
use Rattle.misses.specs.Laws.KeptOf.{never-accessed}
use Rattle.misses.specs.Laws.Sums.{count_places-le, count_places-same, one}
use Rattle.misses.specs.Laws.Totals.{own-sum}
use Rattle.misses.specs.Laws.WordLines.{layout-keeps, word_lines-part}
use Rattle.misses.specs.Misses.{is_in, is_miss, is_needed, useless}
use Rattle.misses.specs.WordLines.{KeepsWords}
use Rattle.misses.specs.WordsApart.{came_along, comes_along, misses_apart, needed_apart, own_line}
use Rattle.misses.specs.WordsApart.{word_grid, words_in}

-- ---- sums over the words of a line

-- a question of the lines of one word, asked of the words of line r alone
abbrev asked_in : (ℕ → ℕ) → ℕ → (ℕ → Question) → ℕ → Question
asked_in line_of r asked k before a = asked k before a && eqb (line_of (4 * (k - 1))) r

count_none : (asked : Question) (t : List Touch)
    → ((before : List Touch) (a : Touch) → asked before a ≡ false) → count_places asked t ≡ 0
count_none asked t never =
    by_push (λ (t : List Touch). count_places asked t ≡ 0)
    (count_places-empty asked)
    (λ t a ih. rw (count_places-push asked t a, never t a, ih) refl)
    t

count-kept : (line_of : ℕ → ℕ) (r k : ℕ) (asked : ℕ → Question) (t : List Touch)
    → eqb (line_of (4 * (k - 1))) r ≡ true
    → count_places (asked_in line_of r asked k) t ≡ count_places (asked k) t
count-kept line_of r k asked t here =
    count_places-same (asked_in line_of r asked k) (asked k) t
    (λ before a. rw here (and-true (asked k before a)))

count-left : (line_of : ℕ → ℕ) (r k : ℕ) (asked : ℕ → Question) (t : List Touch)
    → eqb (line_of (4 * (k - 1))) r ≡ false
    → count_places (asked_in line_of r asked k) t ≡ 0
count-left line_of r k asked t there =
    count_none (asked_in line_of r asked k) t
    (λ before a. rw there (and-false (asked k before a)))

sum-filtered : (line_of : ℕ → ℕ) (r : ℕ) (asked : ℕ → Question) (t : List Touch) (ks : List ℕ)
    → sum_by (λ k. count_places (asked_in line_of r asked k) t) ks
    ≡ sum_by (λ k. count_places (asked k) t) (filter (λ k. eqb (line_of (4 * (k - 1))) r) ks)
sum-filtered line_of r asked t [] = refl
sum-filtered line_of r asked t (k ∷ ks) =
    let rest = sum-filtered line_of r asked t ks in
    let whole = sum_by-cons (λ k. count_places (asked_in line_of r asked k) t) k ks in
    elim (cases_Bool (eqb (line_of (4 * (k - 1))) r)) [
      | inl here ↦
          let kept = count-kept line_of r k asked t here in
          let part = sum_by-cons (λ k. count_places (asked k) t) k
          (filter (λ k. eqb (line_of (4 * (k - 1))) r) ks) in
          rw here (omega (arith, whole, rest, kept, part))
      | inr there ↦
          let left = count-left line_of r k asked t there in
          rw there (omega (arith, whole, rest, left))
    ]

-- a word's own line begins at the word
begins_at : (x : ℕ) → word_of (4 * ((x + 4 - 0) / 4 - 1)) ≡ word_of x
begins_at x = omega arith

-- counted at the own line of each access in line r it is the sum over the words of line r
sum-apart : (line_of : ℕ → ℕ) (r : ℕ) (asked : ℕ → Question) (t : List Touch) → KeepsWords line_of
    → ((k : ℕ) (t : List Touch) (a : Touch) → is_in own_line k a ≡ false → asked k t a ≡ false)
    → ((k : ℕ) (t : List Touch) → list_any (eqb k) (accessed_lines word_grid t) ≡ false
    → count_places (asked k) t ≡ 0)
    → count_places (λ before a. is_in line_of r a && asked (own_line a.addr) before a) t
    ≡ sum_by (λ k. count_places (asked k) t) (words_in line_of r t)
sum-apart line_of r asked t keeps inside blank =
    count_places-same (λ before a. is_in line_of r a && asked (own_line a.addr) before a)
    (λ before a. asked_in line_of r asked (own_line a.addr) before a) t
    (λ before a.
    let same : line_of (4 * (own_line a.addr - 1)) ≡ line_of a.addr =
    keeps (4 * (own_line a.addr - 1)) a.addr (begins_at a.addr) in
    rw same (swapped (is_in line_of r a) (asked (own_line a.addr) before a)))
    ∙ own-sum word_grid (asked_in line_of r asked)
    (λ k t a out. rw (inside k t a out) refl)
    (λ k t never.
    let none = blank k t never in
    let le = count_places-le (asked_in line_of r asked k) (asked k) t
    (λ before a e. (and_parts (asked k before a) (eqb (line_of (4 * (k - 1))) r) e).0) in
    omega (arith, none, le))
    t
    ∙ sum-filtered line_of r asked t (accessed_lines word_grid t)
  where
    swapped : (b c : Bool) → (b && c) ≡ (c && b)
    swapped true c = sym (and-true c)
    swapped false c = sym (and-false c)

-- ---- what a line costs beside them

own-keeps : KeepsWords own_line
own-keeps = layout-keeps 4 0 refl

needed-sum : (line_of : ℕ → ℕ) (r : ℕ) (t : List Touch) → KeepsWords line_of
    → count_places (λ before a. is_in line_of r a && is_needed own_line (own_line a.addr) before a) t
    ≡ needed_apart line_of r t
needed-sum line_of r t keeps =
    sum-apart line_of r (is_needed own_line) t keeps (λ k t a out. rw out refl)
    (λ k t never. ap (λ (l : LineEntry). l.counts.needed) (never-accessed word_grid k t never))

-- the own lines of words are loaded as often as they are missed
sum-same : (f g : ℕ → ℕ) → ((k : ℕ) → f k ≡ g k) → (ks : List ℕ) → sum_by f ks ≡ sum_by g ks
sum-same f g same [] = refl
sum-same f g same (k ∷ ks) =
    omega (arith, sum_by-cons f k ks, sum_by-cons g k ks, same k, sum-same f g same ks)

pub apart-missed : (line_of : ℕ → ℕ) (r : ℕ) (t : List Touch)
    → misses_apart line_of r t ≡ needed_apart line_of r t
apart-missed line_of r t =
    sum-same (λ k. count_places (is_miss own_line k) t) (λ k. count_places (is_needed own_line k) t)
    (λ k.
    let nothing = word_line-useless own_line k t own-keeps word_lines-part in
    let order = costs-ordered own_line k t own-keeps in
    omega (arith, nothing, order.missed))
    (words_in line_of r t)

-- an access in a line that its word's own line needs is needed in the line, or its word came along
words_distinct : (line_of : ℕ → ℕ) (r : ℕ) (t : List Touch) (a : Touch) → KeepsWords line_of
    → one (is_in line_of r a && is_needed own_line (own_line a.addr) t a)
    ≡ one (is_needed line_of r t a) + one (comes_along line_of r t a)
words_distinct line_of r t a keeps =
    elim (cases_Bool (is_needed line_of r t a)) [
      | inl needed ↦
          let here : is_in line_of r a ≡ true = (and_parts _ _ needed).0 in
          let own = needed-own_line line_of own_line r t a keeps word_lines-part needed in
          rw (needed, here, own) refl
      | inr not_so ↦ rw not_so (omega arith)
    ]

pub needed-apart : (line_of : ℕ → ℕ) (r : ℕ) (t : List Touch) → KeepsWords line_of
    → count_places (is_needed line_of r) t + came_along line_of r t ≡ needed_apart line_of r t
needed-apart line_of r t keeps =
    let asked : Question = λ before a. is_in line_of r a
    && is_needed own_line (own_line a.addr) before a in
    by_push (λ (t : List Touch). count_places (is_needed line_of r) t + came_along line_of r t
    ≡ count_places asked t)
    (omega (
      arith,
      count_places-empty (is_needed line_of r),
      count_places-empty (comes_along line_of r),
      count_places-empty asked,
    ))
    (λ t a ih. omega (
      arith,
      ih,
      count_places-push (is_needed line_of r) t a,
      count_places-push (comes_along line_of r) t a,
      count_places-push asked t a,
      words_distinct line_of r t a keeps,
    ))
    t
    ∙ needed-sum line_of r t keeps

-- So what its misses are above those of its words' own lines, and the words that came along, are
-- its misses for nothing.
pub saved-apart : (line_of : ℕ → ℕ) (r : ℕ) (t : List Touch) → KeepsWords line_of
    → count_places (is_miss line_of r) t + came_along line_of r t
    ≡ useless line_of r t + misses_apart line_of r t
saved-apart line_of r t keeps = omega (
  arith,
  (costs-ordered line_of r t keeps).missed,
  needed-apart line_of r t keeps,
  apart-missed line_of r t,
)
