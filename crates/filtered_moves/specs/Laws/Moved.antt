-- A near table leaves redundant accesses redundant.
use Rattle.std.proofs.Common.{◌≡◌, ℕ, zero, suc, ◌+◌, ◌-◌, ◌*◌, ◌/◌, ◌%◌, ◌^◌, ◌<◌, ◌≤◌, Bool, true, false}
use Rattle.std.proofs.Common.{eqb, leb, ltb, not, ◌&&◌, ◌||◌, List, [], ◌∷◌, Some, length}
use Rattle.std.proofs.Common.{map, take, refl, sym, ap, ◌∙◌, subst, arith, inl, inr}
use Rattle.std.proofs.lemmas.Bool.{cases_Bool, false≢true, and_from, and_parts, or_cases, or_left}
use Rattle.std.proofs.lemmas.Bool.{or_right, eqb-true, eq-eqb, le-leb, leb-true, lt-ltb, ltb-true}
use Rattle.std.proofs.lemmas.Bool.{not_from_false}
use Rattle.std.proofs.lemmas.Bool.{not_from_true}
use Rattle.std.proofs.lemmas.Bool.Decides.{nat_tests}
use Rattle.std.proofs.lemmas.List.{map-append, take-map}
use Rattle.std.proofs.lemmas.List.Elements.{All-from_recursion, recursion_from_All}
use Rattle.std.proofs.lemmas.List.Folds.{list_any-append}
use Rattle.std.proofs.lemmas.Nat.{pow-add}
use Rattle.std.proofs.lemmas.Option.{none-some, slice_get-map}
use Rattle.std.proofs.Math.Bool.{or-false}
use Rattle.std.proofs.Math.Nat.{add-div_right, div-div-eq-div-mul, le-min, min-le_left, two-pow-succ}
use Rattle.std.specs.Prelude.{◌⊎◌, slice_get}
use Rattle.std.specs.List.{AllByRecursion, list_any}
use Rattle.base.specs.Touch.{Touch, word_of}
use Rattle.sharing_rules.specs.AccessLists.{AccessList}
use Rattle.sharing_rules.specs.Laws.Lists.{any_get, by_push, slice_cases, slice_get-append_left}
use Rattle.sharing_rules.specs.Laws.Lists.{slice_get-push}
use Rattle.sharing_rules.specs.Filtered.{IsWithoutRedundant, comes_near, covers}
use Rattle.sharing_rules.specs.Filtered.{is_kept_at, is_near, is_redundant}
use Rattle.trace_files.specs.NearMoves.{IsNearFor, IsNearTable, moved_near, origin}
use Rattle.filtered_moves.specs.MovedSites.{moved_sited}
use Rattle.filtered_counts.specs.SameHarts.{IsSitedWithoutRedundant}
use Rattle.invalidations.specs.Latest.{accesses_of}
use Rattle.invalidations.specs.declared.sited.Sited.{Sited}
use Rattle.filtered_counts.specs.Laws.Harts.{sited-lists}
use Rattle.filtered_counts.specs.Laws.Near.{comes-parts, div-mono, near-symmetric, word-range}
use Rattle.filtered_counts.specs.Laws.Redundant.{covers-parts, is_redundant-push}
use Rattle.filtered_counts.specs.Laws.Walk.{at_places-map, walk-lists}
use Rattle.trace_files.specs.Moves.{carried, is_in_place, is_in_range, moved_addr, moved_in}
use Rattle.trace_files.specs.Moves.{IsFree, is_taken, moved_list}
use Rattle.trace_files.specs.Tables.{IsTable, keeps_rules}
use Rattle.trace_files.specs.declared.move_row.Move.{Move}

-- ---- words

-- a list accesses the word of an address
abbrev pub has_word : AccessList → ℕ → Bool
has_word t x = list_any (λ b. eqb (word_of b.addr) (word_of x)) t

redundant-word : (k : ℕ) (t : AccessList) (a : Touch) → is_redundant k t a ≡ true
    → has_word t a.addr ≡ true
redundant-word k t a =
    by_push (λ (t : AccessList). is_redundant k t a ≡ true → has_word t a.addr ≡ true)
    (λ e. absurd (false≢true e))
    (λ t c ih e.
    let g : ((is_redundant k t a && not (comes_near k a.hart a.addr c)) || covers c a) ≡ true =
    sym (is_redundant-push k t c a) ∙ e in
    list_any-append (λ b. eqb (word_of b.addr) (word_of a.addr)) t (c ∷ [])
    ∙ elim (or_cases (is_redundant k t a && not (comes_near k a.hart a.addr c)) (covers c a) g) [
      | inl before ↦ or_left _ _
          (ih (and_parts (is_redundant k t a) (not (comes_near k a.hart a.addr c)) before).0)
      | inr now ↦ or_right _ _ (or_left _ _ (eq-eqb _ _ (covers-parts c a now).1))
    ])
    t

-- a list without redundant accesses has the words of the whole one
words-kept : (k : ℕ) (t v : AccessList) → IsWithoutRedundant k t v → (x : ℕ)
    → has_word v x ≡ has_word t x
words-kept k t v w =
    walk-lists k (λ t v. (x : ℕ) → has_word v x ≡ has_word t x)
    (λ x. refl)
    (λ t v c ih x.
    list_any-append (λ b. eqb (word_of b.addr) (word_of x)) v (c ∷ [])
    ∙ rw (ih x) refl ∙ sym (list_any-append (λ b. eqb (word_of b.addr) (word_of x)) t (c ∷ [])))
    (λ t v a e ih x. ih x
    ∙ sym (list_any-append (λ b. eqb (word_of b.addr) (word_of x)) t (a ∷ [])
    ∙ elim (cases_Bool (eqb (word_of a.addr) (word_of x))) [
      | inl same ↦
          let there : has_word t x ≡ true =
          ap (λ w. list_any (λ b. eqb (word_of b.addr) w) t) (sym (eqb-true _ _ same))
          ∙ redundant-word k t a e in
          or_left _ _ there ∙ sym there
      | inr other ↦ ap (λ z. has_word t x || (z || false)) other ∙ or-false _
    ]))
    t v w

-- ---- where a table moves a word

record IsOfWords (m : Move) : Type 0 where
  from : m.from % 4 ≡ 0
  size : m.size % 4 ≡ 0
  to : m.to % 4 ≡ 0

of-words : (m : Move) → keeps_rules m ≡ true → IsOfWords m
of-words m e =
    let from = and_parts (eqb (m.from % 4) 0) _ e in
    let size = and_parts (eqb (m.size % 4) 0) _ from.1 in
    let to = and_parts (eqb (m.to % 4) 0) _ size.1 in
    record { from = eqb-true _ _ from.0; size = eqb-true _ _ size.0; to = eqb-true _ _ to.0 }

abbrev KeepsRules : List Move → Type 0
KeepsRules table = AllByRecursion (λ m. keeps_rules m ≡ true) table

range-word : (m : Move) (x y : ℕ) → IsOfWords m → word_of x ≡ word_of y
    → is_in_range x m ≡ is_in_range y m
range-word m x y w same = grind (arith, nat_tests, w.from, w.size, same)

carried-word : (m : Move) (x y : ℕ) → IsOfWords m → word_of x ≡ word_of y
    → is_in_range x m ≡ true → word_of (carried x m) ≡ word_of (carried y m)
carried-word m x y w same inside =
    let above : m.from ≤ x = leb-true m.from x (and_parts (leb m.from x) _ inside).0 in
    omega (arith, w.from, w.to, same, above)

-- all of a word goes to one word
moved-word : (table : List Move) (x y : ℕ) → KeepsRules table → word_of x ≡ word_of y
    → word_of (moved_addr table x) ≡ word_of (moved_addr table y)
unfolding moved_addr
moved-word [] x y rules same = same
moved-word (m ∷ ms) x y rules same =
    let w = of-words m rules.0 in
    elim (cases_Bool (is_in_range x m)) [
      | inl inside ↦
          let too : is_in_range y m ≡ true = sym (range-word m x y w same) ∙ inside in
          rw (inside, too) (carried-word m x y w same inside)
      | inr outside ↦
          let too : is_in_range y m ≡ false = sym (range-word m x y w same) ∙ outside in
          rw (outside, too) (moved-word ms x y rules.1 same)
    ]

-- where a byte went: it lies in the place of a move and comes from there, or it stays
abbrev AnyMove : (Move → Type 0) → List Move → Type 0
AnyMove P [] = ⊥
AnyMove P (m ∷ ms) = P m ⊎ AnyMove P ms

record WentBy (x y : ℕ) (m : Move) : Type 0 where
  placed : is_in_place y m ≡ true
  back : origin m y ≡ x

went-by : (m : Move) (x : ℕ) → is_in_range x m ≡ true → WentBy x (carried x m) m
went-by m x inside =
    let parts = and_parts (leb m.from x) (ltb x (m.from + m.size)) inside in
    let low : m.from ≤ x = leb-true _ _ parts.0 in
    let high : x < m.from + m.size = ltb-true _ _ parts.1 in record {
      placed = and_from (leb m.to (carried x m)) (ltb (carried x m) (m.to + m.size))
          (le-leb _ _ (omega (arith, low))) (lt-ltb _ _ (omega (arith, low, high)));
      back = omega (arith, low);
    }

went-to : (table : List Move) (x y : ℕ) → moved_addr table x ≡ y
    → (AnyMove (WentBy x y) table) ⊎ (y ≡ x)
unfolding moved_addr
went-to [] x y e = inr (sym e)
went-to (m ∷ ms) x y e = elim (cases_Bool (is_in_range x m)) [
  | inl inside ↦
      let here : carried x m ≡ y = rw inside at e in
      inl (inl (subst (λ z. WentBy x z m) here (went-by m x inside)))
  | inr outside ↦
      let later : moved_addr ms x ≡ y = rw outside at e in
      elim (went-to ms x y later) [ inl any ↦ inl (inr any) | inr stays ↦ inr stays ]
]

went : (table : List Move) (x : ℕ)
    → (AnyMove (WentBy x (moved_addr table x)) table) ⊎ (moved_addr table x ≡ x)
went table x = went-to table x (moved_addr table x) refl

-- what holds of each move of a table holds of one
at-move : (P Q : Move → Type 0) (R : Type 0) (table : List Move) → AllByRecursion P table
    → AnyMove Q table → ((m : Move) → P m → Q m → R) → R
at-move P Q R [] all any f = absurd any
at-move P Q R (m ∷ ms) all (inl here) f = f m all.0 here
at-move P Q R (m ∷ ms) all (inr later) f = at-move P Q R ms all.1 later f

-- ---- near addresses

some-power : (j : ℕ) → 0 < 2 ^ j
some-power zero = omega arith
some-power (suc j) = let p = some-power j in omega (arith, p, two-pow-succ j)

one-apart : (m x y : ℕ) → 0 < m → x ≤ y + 1 → x / m ≤ y / m + 1
one-apart m x y some le =
    let mono = div-mono x (y + m) m some (omega (arith, some, le)) in
    let next = add-div_right y some in
    omega (arith, mono, next)

-- what is near in small ranges is near in larger ones
coarser : (c k x y : ℕ) → c ≤ k → is_near c x y ≡ true → is_near k x y ≡ true
coarser c k x y le e =
    let m = 2 ^ (k - c) in
    let sum : k ≡ c + (k - c) = omega (arith, le) in
    let size : 2 ^ k ≡ 2 ^ c * m = ap (λ j. 2 ^ j) sum ∙ pow-add 2 c (k - c) in
    let at : (z : ℕ) → z / 2 ^ k ≡ z / 2 ^ c / m =
    λ z. ap (λ n. z / n) size ∙ sym (div-div-eq-div-mul z (2 ^ c) m) in
    let parts = and_parts (leb (x / 2 ^ c) (y / 2 ^ c + 1)) (leb (y / 2 ^ c) (x / 2 ^ c + 1)) e in
    let low = one-apart m (x / 2 ^ c) (y / 2 ^ c) (some-power (k - c)) (leb-true _ _ parts.0) in
    let high = one-apart m (y / 2 ^ c) (x / 2 ^ c) (some-power (k - c)) (leb-true _ _ parts.1) in
    rw (at x, at y)
    (and_from (leb (x / 2 ^ c / m) (y / 2 ^ c / m + 1)) (leb (y / 2 ^ c / m) (x / 2 ^ c / m + 1))
    (le-leb _ _ low) (le-leb _ _ high))

near-word : (k x y z : ℕ) → 2 ≤ k → word_of y ≡ word_of z → is_near k x y ≡ is_near k x z
near-word k x y z le same = let range = word-range k y z le same in rw range

-- a word of a list has an access for which the table is near
near-access : (k : ℕ) (table : List Move) (v : AccessList) (x : ℕ)
    → AllByRecursion (IsNearFor k table) v → has_word v x ≡ true
    → (b : Touch) × IsNearFor k table b × (word_of b.addr ≡ word_of x)
near-access k table [] x near e = absurd (false≢true e)
near-access k table (b ∷ v) x near e =
    elim (or_cases (eqb (word_of b.addr) (word_of x)) (has_word v x) e) [
      | inl here ↦ (b, near.0, eqb-true _ _ here)
      | inr later ↦ near-access k table v x near.1 later
    ]

-- a byte that went near an accessed word came from near it
went-near : (k : ℕ) (table : List Move) (v : AccessList) (x y : ℕ) → 2 ≤ k → KeepsRules table
    → AllByRecursion (IsNearFor k table) v → has_word v y ≡ true
    → AnyMove (WentBy x (moved_addr table x)) table
    → is_near (moved_near k) (moved_addr table x) (moved_addr table y) ≡ true
    → is_near k x y ≡ true
went-near k table v x y le rules near has goes close =
    let b = near-access k table v y near has in
    let low : 2 ≤ moved_near k = le-min le (omega arith) in
    let word = moved-word table b.0.addr y rules b.2 in
    let there : is_near (moved_near k) (moved_addr table x) (moved_addr table b.0.addr) ≡ true =
    near-word (moved_near k) (moved_addr table x) (moved_addr table b.0.addr) (moved_addr table y)
    low word ∙ close in
    let came : is_near k x b.0.addr ≡ true =
    at-move (λ m. (byte : ℕ) → is_in_place byte m ≡ true
    → is_near (moved_near k) byte (moved_addr table b.0.addr) ≡ true
    → is_near k (origin m byte) b.0.addr ≡ true) (WentBy x (moved_addr table x))
    (is_near k x b.0.addr ≡ true) table (recursion_from_All _ table b.1) goes
    (λ m all by. subst (λ z. is_near k z b.0.addr ≡ true) by.back
    (all (moved_addr table x) by.placed there)) in
    sym (near-word k x b.0.addr y le b.2) ∙ came

-- two accessed words that are near once they are moved were near before
near-before : (k : ℕ) (table : List Move) (v : AccessList) (x y : ℕ) → 2 ≤ k → KeepsRules table
    → AllByRecursion (IsNearFor k table) v → has_word v x ≡ true → has_word v y ≡ true
    → is_near (moved_near k) (moved_addr table x) (moved_addr table y) ≡ true
    → is_near k x y ≡ true
near-before k table v x y le rules near has_x has_y close =
    elim (went table x) [
      | inl goes ↦ went-near k table v x y le rules near has_y goes close
      | inr stays ↦ elim (went table y) [
        | inl goes ↦ near-symmetric k y x (went-near k table v y x le rules near has_x goes
            (near-symmetric (moved_near k) (moved_addr table x) (moved_addr table y) close))
        | inr too ↦
            coarser (moved_near k) k x y (min-le_left k 8)
            (subst (λ z. is_near (moved_near k) x z ≡ true) too
            (subst (λ z. is_near (moved_near k) z (moved_addr table y) ≡ true) stays close))
      ]
    ]

-- ---- redundant accesses

covers-moved : (table : List Move) (c a : Touch) → KeepsRules table → covers c a ≡ true
    → covers (moved_in table c) (moved_in table a) ≡ true
covers-moved table c a rules e =
    let p = covers-parts c a e in
    let word = moved-word table c.addr a.addr rules p.1 in
    and_from _ _ (and_from (eqb c.hart a.hart)
    (eqb (word_of (moved_addr table c.addr)) (word_of (moved_addr table a.addr)))
    p.0 (eq-eqb _ _ word)) p.2

-- each access of a front has its word in v
abbrev HasWords : AccessList → AccessList → Type 0
HasWords v t = (i : ℕ) (b : Touch) → slice_get t i ≡ Some b → has_word v b.addr ≡ true

slice-within : (t : AccessList) (i : ℕ) (b : Touch) → slice_get t i ≡ Some b → i < length t
slice-within [] i b e = absurd (none-some b e)
slice-within (x ∷ t) zero b e = omega arith
slice-within (x ∷ t) (suc i) b e = let l = slice-within t i b e in omega (arith, l)

redundant-moved : (k : ℕ) (table : List Move) (v t : AccessList) (a : Touch) → 2 ≤ k
    → KeepsRules table → AllByRecursion (IsNearFor k table) v → has_word v a.addr ≡ true
    → HasWords v t → is_redundant k t a ≡ true
    → is_redundant (moved_near k) (moved_list table t) (moved_in table a) ≡ true
redundant-moved k table v t a le rules near has =
    by_push (λ (t : AccessList). HasWords v t → is_redundant k t a ≡ true
    → is_redundant (moved_near k) (moved_list table t) (moved_in table a) ≡ true)
    (λ words e. absurd (false≢true e))
    (λ t c ih words e.
    let g : ((is_redundant k t a && not (comes_near k a.hart a.addr c)) || covers c a) ≡ true =
    sym (is_redundant-push k t c a) ∙ e in
    ap (λ u. is_redundant (moved_near k) u (moved_in table a))
    (map-append (moved_in table) t (c ∷ []))
    ∙ is_redundant-push (moved_near k) (moved_list table t) (moved_in table c) (moved_in table a)
    ∙ elim (or_cases (is_redundant k t a && not (comes_near k a.hart a.addr c)) (covers c a) g) [
      | inl before ↦
          let p = and_parts (is_redundant k t a) (not (comes_near k a.hart a.addr c)) before in
          let known : HasWords v t =
          λ i b at. words i b (slice_get-append_left t (c ∷ []) i (slice-within t i b at) ∙ at) in
          let word : has_word v c.addr ≡ true = words (length t) c (slice_get-push t c) in
          let far : not (comes_near (moved_near k) a.hart (moved_addr table a.addr)
          (moved_in table c)) ≡ true =
          elim (cases_Bool (comes_near (moved_near k) a.hart (moved_addr table a.addr)
          (moved_in table c))) [
            | inl close ↦
                let q = comes-parts (moved_near k) a.hart (moved_addr table a.addr)
                (moved_in table c) close in
                let was = near-before k table v c.addr a.addr le rules near word has q.1 in
                let came : comes_near k a.hart a.addr c ≡ true =
                and_from (not (eqb c.hart a.hart)) (is_near k c.addr a.addr) q.0 was in
                absurd (false≢true (sym (not_from_true _ came) ∙ p.1))
            | inr off ↦ not_from_false _ off
          ] in
          or_left _ _ (and_from _ _ (ih known p.0) far)
      | inr now ↦ or_right _ _ (covers-moved table c a rules now)
    ])
    t

-- ---- the theorem

list-words : (k : ℕ) (u v : AccessList) → IsWithoutRedundant k u v → HasWords v u
list-words k u v w i b at = words-kept k u v w b.addr
    ∙ any_get (λ (c : Touch). eqb (word_of c.addr) (word_of b.addr)) u i b at (eq-eqb _ _ refl)

front-at : (i : ℕ) (t : AccessList) (j : ℕ) (b : Touch) → slice_get (take i t) j ≡ Some b
    → slice_get t j ≡ Some b
front-at zero t j b e = absurd (none-some b e)
front-at (suc i) [] j b e = absurd (none-some b e)
front-at (suc i) (x ∷ t) zero b e = e
front-at (suc i) (x ∷ t) (suc j) b e = front-at i t j b e

not-not : (x : Bool) → not x ≡ false → x ≡ true
not-not true e = refl
not-not false e = absurd (false≢true (sym e))

-- what isn't redundant once it is moved wasn't redundant before
moved-needed : (k : ℕ) (table : List Move) (u v : AccessList) → 2 ≤ k → IsTable table
    → IsNearTable k table v → HasWords v u → (i : ℕ)
    → is_kept_at (moved_near k) (moved_list table u) i ≡ true → is_kept_at k u i ≡ true
moved-needed k table u v le is near words i e =
    let rules = recursion_from_All _ table is.rules in
    let each = recursion_from_All _ v near in
    elim (cases_Bool (is_kept_at k u i)) [
      | inl keeps ↦ keeps
      | inr drops ↦ elim (slice_cases (slice_get u i)) [
        | inl none ↦ absurd (false≢true (sym drops ∙ rw none refl))
        | inr some ↦
            let was : is_redundant k (take i u) some.0 ≡ true =
            not-not (is_redundant k (take i u) some.0) (rw some.1 at drops) in
            let still = redundant-moved k table v (take i u) some.0 le rules each
            (words i some.0 some.1) (λ j b at. words j b (front-at i u j b at)) was in
            let there : is_kept_at (moved_near k) (moved_list table u) i ≡ false =
            rw (
              slice_get-map (moved_in table) u i,
              some.1,
              take-map (moved_in table) i u,
              still,
            ) refl in
            absurd (false≢true (sym there ∙ e))
      ]
    ]

-- the moved list of a list without redundant accesses is the moved list of the whole one without
-- redundant accesses
pub moved-without : (k : ℕ) (table : List Move) (u v : AccessList) → 2 ≤ k → IsTable table
    → IsNearTable k table v → IsWithoutRedundant k u v
    → IsWithoutRedundant (moved_near k) (moved_list table u) (moved_list table v)
moved-without k table u v le is near w = record {
  kept = w.kept;
  needed = λ i e.
      w.needed i (moved-needed k table u v le is near (list-words k u v w) i e);
  rest = ap (moved_list table) w.rest ∙ at_places-map (moved_in table) w.kept u;
}

-- ---- with pcs

map-twice : {X Y Z : Type 0} (f : Y → Z) (g : X → Y) (xs : List X)
    → map f (map g xs) ≡ map (λ x. f (g x)) xs
map-twice f g [] = refl
map-twice f g (x ∷ xs) = ap (λ ys. f (g x) ∷ ys) (map-twice f g xs)

-- without pcs it is the moved list
pub moved_sited-accesses : (table : List Move) (u : List Sited)
    → accesses_of (moved_sited table u) ≡ moved_list table (accesses_of u)
moved_sited-accesses table u =
    map-twice (λ (s : Sited). s.access)
    (λ (s : Sited). record { access = moved_in table s.access; pc = s.pc }) u
    ∙ sym (map-twice (moved_in table) (λ (s : Sited). s.access) u)

pub moved-sited : (k : ℕ) (table : List Move) (u w : List Sited) → 2 ≤ k → IsTable table
    → IsNearTable k table (accesses_of w) → IsSitedWithoutRedundant k u w
    → IsSitedWithoutRedundant (moved_near k) (moved_sited table u) (moved_sited table w)
moved-sited k table u w le is near s =
    let words = list-words k (accesses_of u) (accesses_of w) (sited-lists k u w s) in
    record {
      kept = s.kept;
      needed = λ i e. s.needed i
          (moved-needed k table (accesses_of u) (accesses_of w) le is near words i
          (subst (λ t. is_kept_at (moved_near k) t i ≡ true) (moved_sited-accesses table u) e));
      rest = ap (moved_sited table) s.rest
          ∙ at_places-map (λ (s : Sited). record { access = moved_in table s.access; pc = s.pc })
          s.kept u;
    }

-- ---- free tables

place-word : (m : Move) (x y : ℕ) → IsOfWords m → word_of x ≡ word_of y
    → is_in_place x m ≡ is_in_place y m
place-word m x y w same = grind (arith, nat_tests, w.to, w.size, same)

any-move : (p q : Move → Bool) (table : List Move) → KeepsRules table
    → ((m : Move) → IsOfWords m → p m ≡ q m) → list_any p table ≡ list_any q table
any-move p q [] rules same = refl
any-move p q (m ∷ ms) rules same =
    rw (same m (of-words m rules.0), any-move p q ms rules.1 same) refl

-- a table is free for all of a word or for nothing of it
free-word : (table : List Move) (x y : ℕ) → KeepsRules table → word_of x ≡ word_of y
    → is_taken table x ≡ is_taken table y
unfolding is_taken
free-word table x y rules same =
    rw (
      any-move (is_in_place x) (is_in_place y) table rules (λ m w. place-word m x y w same),
      any-move (is_in_range x) (is_in_range y) table rules (λ m w. range-word m x y w same),
    ) refl

free-access : (table : List Move) (v : AccessList) (x : ℕ) → KeepsRules table
    → AllByRecursion (λ a. is_taken table a.addr ≡ false) v → has_word v x ≡ true
    → is_taken table x ≡ false
free-access table [] x rules free e = absurd (false≢true e)
free-access table (b ∷ v) x rules free e =
    elim (or_cases (eqb (word_of b.addr) (word_of x)) (has_word v x) e) [
      | inl here ↦ free-word table x b.addr rules (sym (eqb-true _ _ here)) ∙ free.0
      | inr later ↦ free-access table v x rules free.1 later
    ]

all-free : (table : List Move) (v t : AccessList) → KeepsRules table
    → AllByRecursion (λ a. is_taken table a.addr ≡ false) v → HasWords v t
    → AllByRecursion (λ a. is_taken table a.addr ≡ false) t
all-free table v [] rules free words = tt
all-free table v (a ∷ t) rules free words = (
  free-access table v a.addr rules free (words 0 a refl),
  all-free table v t rules free (λ i b at. words (suc i) b at),
)

-- a table that is free for a list without redundant accesses is free for the whole one
pub free-whole : (k : ℕ) (table : List Move) (u v : AccessList) → IsTable table
    → IsFree table v → IsWithoutRedundant k u v → IsFree table u
free-whole k table u v is free w =
    All-from_recursion (λ a. is_taken table a.addr ≡ false) u
    (all-free table v u (recursion_from_All _ table is.rules)
    (recursion_from_All (λ a. is_taken table a.addr ≡ false) v free) (list-words k u v w))
