-- What the numbers of a line owe each other, and where they are 0.
use Rattle.std.proofs.Common.{◌≡◌, ℕ, ◌+◌, ◌-◌, ◌≤◌, Bool, true, false, eqb, not}
use Rattle.std.proofs.Common.{◌&&◌, List, [], ◌∷◌, refl, sym, ◌∙◌}
use Rattle.std.proofs.Common.{subst, arith, inl, inr}
use Rattle.std.proofs.lemmas.Bool.{cases_Bool, eqb-true, eq-eqb, or_parts}
use Rattle.std.proofs.lemmas.Bool.{and_parts, and_from, false≢true}
use Rattle.std.proofs.Math.Bool.{and-false, or-false, or-true}
use Rattle.std.proofs.lemmas.List.Folds.{list_any-append}
use Rattle.std.specs.List.{list_any}
use Rattle.std.specs.Prelude.{None}
use Rattle.base.specs.Touch.{Touch, is_write, word_of}
use Rattle.sharing_rules.specs.Holders.{holders}
use Rattle.sharing_rules.specs.Places.{count_places}
use Rattle.sharing_rules.specs.Laws.Counts.{holders-push}
use Rattle.sharing_rules.specs.Laws.Lists.{by_push}
use Rattle.sharing_rules.specs.Laws.Places.{count_places-empty, count_places-push}
use Rattle.misses.specs.Laws.Copies.{copies-empty, copies-push, wants-empty, wants-push}
use Rattle.misses.specs.Laws.Loads.{needed-missed}
use Rattle.misses.specs.Laws.Served.{lacks-word}
use Rattle.misses.specs.Laws.Sums.{count_places-le, count_places-same}
use Rattle.misses.specs.Misses.{cold, copies, is_by_in, is_cold, is_in, is_miss, is_needed}
use Rattle.misses.specs.Misses.{lacks, useful, useless, wants}
use Rattle.misses.specs.WordLines.{IsAlone, KeepsWords, PartsWords}

-- a hart that never came has no copy
copied-came : (line_of : ℕ → ℕ) (h r : ℕ) (t : List Touch)
    → list_any (is_by_in line_of h r) t ≡ false → copies line_of t h r ≡ None
copied-came line_of h r t =
    by_push (λ (t : List Touch). list_any (is_by_in line_of h r) t ≡ false
    → copies line_of t h r ≡ None)
    (λ e. copies-empty line_of h r)
    (λ t a ih never.
    let split = sym (list_any-append (is_by_in line_of h r) t (a ∷ [])) ∙ never in
    let parts = or_parts _ _ split in
    let other : is_by_in line_of h r a ≡ false = (or_parts _ _ parts.1).0 in
    rw (copies-push line_of t a h r, other) (ih parts.0))
    t

-- a cold miss is a needed load
pub cold-needed : (line_of : ℕ → ℕ) (r : ℕ) (t : List Touch) (a : Touch)
    → is_cold line_of r t a ≡ true → is_needed line_of r t a ≡ true
cold-needed line_of r t a e =
    let parts = and_parts (is_miss line_of r t a)
    (not (list_any (is_by_in line_of a.hart r) t)) e in
    let inside = (and_parts (is_in line_of r a) (not (holders line_of t a.hart r)) parts.0).0 in
    elim (cases_Bool (list_any (is_by_in line_of a.hart r) t)) [
      | inl came ↦ let k : false ≡ true = rw came at parts.1 in absurd (false≢true k)
      | inr never ↦
          let none : copies line_of t a.hart (line_of a.addr) ≡ None =
          subst (λ q. copies line_of t a.hart q ≡ None) (sym (eqb-true _ _ inside))
          (copied-came line_of a.hart r t never) in
          and_from _ _ inside (rw none refl)
    ]

-- so a line's cold misses are at most its needed loads, and these at most its misses
pub record AreOrdered (line_of : ℕ → ℕ) (r : ℕ) (t : List Touch) : Type 0 where
  pub needed : cold line_of r t ≤ count_places (is_needed line_of r) t
  pub missed : count_places (is_needed line_of r) t ≤ count_places (is_miss line_of r) t

pub costs-ordered : (line_of : ℕ → ℕ) (r : ℕ) (t : List Touch) → KeepsWords line_of
    → AreOrdered line_of r t
costs-ordered line_of r t keeps = record {
  needed =
      count_places-le (is_cold line_of r) (is_needed line_of r) t (cold-needed line_of r);
  missed = needed-missed line_of r t keeps;
}

-- the misses that aren't cold are the useful and the useless ones
pub costs-sum : (line_of : ℕ → ℕ) (r : ℕ) (t : List Touch) → KeepsWords line_of
    → useful line_of r t + useless line_of r t ≡ count_places (is_miss line_of r) t
    - cold line_of r t
costs-sum line_of r t keeps =
    let order = costs-ordered line_of r t keeps in omega (arith, order.needed, order.missed)

-- a line of one word is held by those whose copies don't lack the word
word_line-holds : (line_of : ℕ → ℕ) (h x : ℕ) (t : List Touch) → KeepsWords line_of
    → PartsWords line_of → holders line_of t h (line_of x) ≡ not (wants line_of t h x)
word_line-holds line_of h x t keeps parts =
    by_push (λ (t : List Touch). holders line_of t h (line_of x) ≡ not (wants line_of t h x))
    (rw (wants-empty line_of h x) refl)
    (λ t a ih.
    rw (holders-push line_of t a h (line_of x), wants-push line_of t a h x)
    (elim (cases_Bool (eqb (line_of a.addr) (line_of x))) [
      | inl i ↦
          let same : word_of a.addr ≡ word_of x = parts a.addr x (eqb-true _ _ i) in
          let word : eqb (word_of a.addr) (word_of x) ≡ true = eq-eqb _ _ same in
          elim (cases_Bool (eqb h a.hart)) [
            | inl e ↦
                rw (
                  i,
                  e,
                  word,
                  lacks-word (copies line_of t h (line_of x)) t h a.addr x same,
                  and-false (is_write a.kind),
                )
                (elim (cases_Bool (wants line_of t h x)) [ inl k ↦ rw k refl | inr k ↦ rw k refl ])
            | inr e ↦ elim (cases_Bool (is_write a.kind)) [
              | inl w ↦ rw (i, e, w, word, or-true (wants line_of t h x)) refl
              | inr w ↦ rw (i, e, w, or-false (wants line_of t h x)) ih
            ]
          ]
      | inr i ↦
          let word : eqb (word_of a.addr) (word_of x) ≡ false =
          elim (cases_Bool (eqb (word_of a.addr) (word_of x))) [
            | inl v ↦ absurd (false≢true (sym i ∙ eq-eqb _ _ (keeps a.addr x (eqb-true _ _ v))))
            | inr v ↦ v
          ] in
          rw (
            i,
            word,
            and-false (eqb h a.hart),
            and-false (is_write a.kind && not (eqb h a.hart)),
            or-false (wants line_of t h x),
          ) ih
    ]))
    t

not-not : (b : Bool) → not (not b) ≡ b
not-not true = refl
not-not false = refl

word_line-needed : (line_of : ℕ → ℕ) (r : ℕ) (t : List Touch) (a : Touch) → KeepsWords line_of
    → PartsWords line_of → is_needed line_of r t a ≡ is_miss line_of r t a
word_line-needed line_of r t a keeps parts =
    elim (cases_Bool (eqb (line_of a.addr) r)) [
      | inr i ↦ rw i refl
      | inl i ↦
          rw (i, ← eqb-true _ _ i, word_line-holds line_of a.hart a.addr t keeps parts)
          (sym (not-not (wants line_of t a.hart a.addr)))
    ]

-- under lines of one word nothing is useless
pub word_line-useless : (line_of : ℕ → ℕ) (r : ℕ) (t : List Touch) → KeepsWords line_of
    → PartsWords line_of → useless line_of r t ≡ 0
word_line-useless line_of r t keeps parts =
    let same = count_places-same (is_needed line_of r) (is_miss line_of r) t
    (λ before a. word_line-needed line_of r before a keeps parts) in omega (arith, same)

-- what a copy of a line lacks, a copy of the word's own line lacks
wants-own_line : (line_of own : ℕ → ℕ) (h x : ℕ) (t : List Touch) → KeepsWords line_of
    → PartsWords own → wants own t h x ≡ false → wants line_of t h x ≡ false
wants-own_line line_of own h x t keeps parts =
    by_push (λ (t : List Touch). wants own t h x ≡ false → wants line_of t h x ≡ false)
    (λ e. absurd (false≢true (sym e ∙ wants-empty own h x)))
    (λ t a ih e.
    let now = sym (wants-push own t a h x) ∙ e in
    rw (wants-push line_of t a h x)
    (elim (cases_Bool (is_by_in line_of h (line_of x) a
    && lacks (copies line_of t h (line_of x)) t h a.addr)) [
      | inl l ↦ rw l refl
      | inr l ↦ rw l (elim (cases_Bool (is_by_in own h (own x) a
          && lacks (copies own t h (own x)) t h a.addr)) [
            | inr k ↦
                let both = or_parts _ _ (rw k at now) in
                rw (ih both.0, both.1) refl
            | inl k ↦
                let by = and_parts (eqb h a.hart) (eqb (own a.addr) (own x))
                (and_parts (is_by_in own h (own x) a)
                (lacks (copies own t h (own x)) t h a.addr) k).0
                in
                let same : word_of a.addr ≡ word_of x = parts a.addr x (eqb-true _ _ by.1) in
                let i : eqb (line_of a.addr) (line_of x) ≡ true =
                eq-eqb _ _ (keeps a.addr x same) in
                let none : lacks (copies line_of t h (line_of x)) t h a.addr ≡ false =
                rw (by.0, i) at l in
                let lacking : wants line_of t h x ≡ false =
                lacks-word (copies line_of t h (line_of x)) t h x a.addr (sym same) ∙ none in
                rw (lacking, by.0, and-false (is_write a.kind)) refl
          ])
    ]))
    t

-- so each needed load of a line is a needed load of its word's own line
pub needed-own_line : (line_of own : ℕ → ℕ) (r : ℕ) (t : List Touch) (a : Touch)
    → KeepsWords line_of → PartsWords own → is_needed line_of r t a ≡ true
    → is_needed own (own a.addr) t a ≡ true
needed-own_line line_of own r t a keeps parts e =
    and_from _ _ (eq-eqb (own a.addr) (own a.addr) refl)
    (elim (cases_Bool (wants own t a.hart a.addr)) [
      | inl yes_own ↦ yes_own
      | inr no_own ↦ absurd (false≢true
          (sym (wants-own_line line_of own a.hart a.addr t keeps parts no_own)
          ∙ (and_parts _ _ e).1))
    ])

-- A line that one hart alone uses costs no more than its first miss.
alone-holds : (line_of : ℕ → ℕ) (h r : ℕ) (t : List Touch) → IsAlone line_of h r t
    → holders line_of t h r ≡ list_any (is_by_in line_of h r) t
alone-holds line_of h r t =
    by_push (λ (t : List Touch). IsAlone line_of h r t
    → holders line_of t h r ≡ list_any (is_by_in line_of h r) t)
    (λ e. refl)
    (λ t a ih e.
    let split = or_parts _ _
    (sym (list_any-append (λ a. not (eqb h a.hart) && is_in line_of r a) t (a ∷ [])) ∙ e) in
    let mine : (not (eqb h a.hart) && is_in line_of r a) ≡ false = (or_parts _ _ split.1).0 in
    let same = ih split.0 in
    rw (holders-push line_of t a h r, list_any-append (is_by_in line_of h r) t (a ∷ []), or-false)
    (elim (cases_Bool (eqb (line_of a.addr) r)) [
      | inr i ↦ rw (i, and-false (eqb h a.hart), or-false) same
      | inl i ↦ elim (cases_Bool (eqb h a.hart)) [
        | inl g ↦ rw (i, g, or-true (list_any (is_by_in line_of h r) t)) refl
        | inr g ↦ let k : true ≡ false = rw (i, g) at mine in absurd (false≢true (sym k))
      ]
    ]))
    t

alone-missed : (line_of : ℕ → ℕ) (h r : ℕ) (t : List Touch) → IsAlone line_of h r t
    → count_places (is_miss line_of r) t ≤ cold line_of r t
alone-missed line_of h r t =
    by_push (λ (t : List Touch). IsAlone line_of h r t
    → count_places (is_miss line_of r) t ≤ cold line_of r t)
    (λ e. omega (
      arith,
      count_places-empty (is_miss line_of r),
      count_places-empty (is_cold line_of r),
    ))
    (λ t a ih e.
    let split = or_parts _ _
    (sym (list_any-append (λ a. not (eqb h a.hart) && is_in line_of r a) t (a ∷ [])) ∙ e) in
    let mine : (not (eqb h a.hart) && is_in line_of r a) ≡ false = (or_parts _ _ split.1).0 in
    let le = ih split.0 in
    rw (count_places-push (is_miss line_of r) t a, count_places-push (is_cold line_of r) t a)
    (elim (cases_Bool (eqb (line_of a.addr) r)) [
      | inr i ↦ rw i (omega (arith, le))
      | inl i ↦ elim (cases_Bool (eqb h a.hart)) [
        | inr g ↦ let k : true ≡ false = rw (i, g) at mine in absurd (false≢true (sym k))
        | inl g ↦
            let held : holders line_of t a.hart r ≡ list_any (is_by_in line_of a.hart r) t =
            subst (λ q. holders line_of t q r ≡ list_any (is_by_in line_of q r) t)
            (eqb-true h a.hart g) (alone-holds line_of h r t split.0) in
            rw (i, held) (elim (cases_Bool (list_any (is_by_in line_of a.hart r) t)) [
              | inl u ↦ rw u (omega (arith, le))
              | inr u ↦ rw u (omega (arith, le))
            ])
      ]
    ]))
    t

pub alone-costs : (line_of : ℕ → ℕ) (h r : ℕ) (t : List Touch) → KeepsWords line_of
    → IsAlone line_of h r t → (useful line_of r t ≡ 0) × (useless line_of r t ≡ 0)
alone-costs line_of h r t keeps alone =
    let order = costs-ordered line_of r t keeps in
    let le = alone-missed line_of h r t alone in
    (omega (arith, order.needed, order.missed, le), omega (arith, order.needed, order.missed, le))
