-- The best of pairs and one pair more.
use Rattle.std.proofs.Common.{◌≡◌, ℕ, zero, suc, ◌+◌, ◌<◌, ◌≤◌, Bool, true, false, ltb, List, []}
use Rattle.std.proofs.Common.{◌∷◌, ◌++◌, Option, Some, None, length, refl, sym, ap, ◌∙◌, arith, ◌⊎◌}
use Rattle.std.proofs.Common.{inl, inr}
use Rattle.std.proofs.lemmas.List.{append-nil, append_assoc, map-append}
use Rattle.std.proofs.lemmas.List.Elements.{filter-append}
use Rattle.std.proofs.lemmas.Bool.{cases_Bool, ltb-true, ltb-false, lt-ltb, le-ltb}
use Rattle.std.proofs.Math.Numerals.{add-one}
use Rattle.std.proofs.lemmas.Option.{none-some, same_Some}
use Rattle.std.specs.Prelude.{slice_get, if◌then◌else◌, filter, flat_map, IfSome}
use Rattle.std.specs.Option.{option_map_or}
use Rattle.sharing_rules.specs.Places.{below}
use Rattle.sharing_rules.specs.Pairs.{first_best, all_pairs}
use Rattle.sharing_rules.specs.Search.{keep, is_in, row_pairs}
use Rattle.sharing_rules.specs.declared.word.Word.{Word}
use Rattle.sharing_rules.specs.Laws.Lists.{slice_cases}

-- the better of x and the later ones' best
abbrev before : (ℕ × ℕ → ℕ) → ℕ × ℕ → Option (ℕ × ℕ) → Option (ℕ × ℕ)
before f x None = Some x
before f x (Some q) = if ltb (f x) (f q) then Some q else Some x

keep-before : (f : ℕ × ℕ → ℕ) (x p : ℕ × ℕ) (o : Option (ℕ × ℕ))
    → before f x (keep f o p) ≡ keep f (before f x o) p
keep-before f x p None = refl
keep-before f x p (Some q) =
    elim (cases_Bool (ltb (f q) (f p))) [
      | inl a ↦ elim (cases_Bool (ltb (f x) (f q))) [
        | inl b ↦ let c : ltb (f x) (f p) ≡ true =
            lt-ltb _ _ (omega (arith, ltb-true _ _ a, ltb-true _ _ b)) in rw (a, b, a, c)
        | inr b ↦ rw (a, b)
      ]
      | inr a ↦ elim (cases_Bool (ltb (f x) (f q))) [
        | inl b ↦ rw (a, b, a)
        | inr b ↦ let c : ltb (f x) (f p) ≡ false =
            le-ltb _ _ (omega (arith, ltb-false _ _ a, ltb-false _ _ b)) in rw (a, b, c)
      ]
    ]

before-is : (f : ℕ × ℕ → ℕ) (x : ℕ × ℕ) (o : Option (ℕ × ℕ))
    → option_map_or (λ q. if ltb (f x) (f q) then Some q else Some x) o (Some x) ≡ before f x o
before-is f x None = refl
before-is f x (Some q) = refl

first_best-cons : (f : ℕ × ℕ → ℕ) (x : ℕ × ℕ) (ps : List (ℕ × ℕ))
    → first_best f (x ∷ ps) ≡ before f x (first_best f ps)
first_best-cons f x ps = before-is f x (first_best f ps)

pub first_best-push : (f : ℕ × ℕ → ℕ) (ps : List (ℕ × ℕ)) (p : ℕ × ℕ)
    → first_best f (ps ++ p ∷ []) ≡ keep f (first_best f ps) p
first_best-push f [] p = refl
first_best-push f (x ∷ ps) p =
    first_best-cons f x (ps ++ p ∷ []) ∙ ap (before f x) (first_best-push f ps p)
    ∙ keep-before f x p (first_best f ps) ∙ ap (λ o. keep f o p) (sym (first_best-cons f x ps))

-- a pair that passes, and one that doesn't
best_with : (f : ℕ × ℕ → ℕ) (t : ℕ × ℕ → Bool) (ps : List (ℕ × ℕ)) (p : ℕ × ℕ) → t p ≡ true
    → first_best f (filter t (ps ++ p ∷ [])) ≡ keep f (first_best f (filter t ps)) p
best_with f t ps p e = rw (filter-append t ps (p ∷ []), e) (first_best-push f (filter t ps) p)

best_without : (f : ℕ × ℕ → ℕ) (t : ℕ × ℕ → Bool) (ps : List (ℕ × ℕ)) (p : ℕ × ℕ) → t p ≡ false
    → first_best f (filter t (ps ++ p ∷ [])) ≡ first_best f (filter t ps)
best_without f t ps p e = rw (filter-append t ps (p ∷ []), e, append-nil (filter t ps))

row_pairs-more : (ps : List (ℕ × ℕ)) (i j : ℕ)
    → ps ++ row_pairs i (j + 1) ≡ (ps ++ row_pairs i j) ++ (i, j) ∷ []
row_pairs-more ps i j = rw (
  add-one,
  map-append {B = ℕ × ℕ} (λ k. (i, k)) (below j) (j ∷ []),
  append_assoc,
)

-- The best with a pair more: the pair is weighed where it passes, and left where it doesn't.
abbrev pub IsChosen : (ℕ × ℕ → ℕ) → (ℕ × ℕ → Bool) → ℕ × ℕ → Option (ℕ × ℕ) → Option (ℕ × ℕ)
    → Type 0
IsChosen f t p so_far new = ((t p ≡ true) × (new ≡ keep f so_far p)) ⊎ ((t p ≡ false)
    × (new ≡ so_far))

-- one pair more of a row
pub best_more : (f : ℕ × ℕ → ℕ) (t : ℕ × ℕ → Bool) (i j : ℕ) (first so_far new : Option (ℕ × ℕ))
    → IsChosen f t (i, j) so_far new
    → ((ps : List (ℕ × ℕ)) → first ≡ first_best f (filter t ps)
    → so_far ≡ first_best f (filter t (ps ++ row_pairs i j)))
    → (ps : List (ℕ × ℕ)) → first ≡ first_best f (filter t ps)
    → new ≡ first_best f (filter t (ps ++ row_pairs i (j + 1)))
best_more f t i j first so_far new choice best ps e =
    rw (row_pairs-more ps i j) (elim choice [
      | inl taken ↦ taken.1 ∙ ap (λ o. keep f o (i, j)) (best ps e)
          ∙ sym (best_with f t (ps ++ row_pairs i j) (i, j) taken.0)
      | inr left ↦ left.1 ∙ best ps e
          ∙ sym (best_without f t (ps ++ row_pairs i j) (i, j) left.0)
    ])

flat_map-append : (g : ℕ → List (ℕ × ℕ)) (xs ys : List ℕ) → flat_map g (xs ++ ys) ≡ flat_map g xs
    ++ flat_map g ys
flat_map-append g [] ys = refl
flat_map-append g (x ∷ xs) ys = rw (flat_map-append g xs ys, append_assoc)

pub all_pairs-more : (n m : ℕ) → all_pairs (n + 1) m ≡ all_pairs n m ++ row_pairs n m
all_pairs-more n m = rw (
  add-one,
  flat_map-append (λ i. row_pairs i m) (below n) (n ∷ []),
  append-nil (row_pairs n m),
)

-- Place i of ps has q, no pair has a greater score, and each pair before it has a lesser one.
pub record IsBestAt (f : ℕ × ℕ → ℕ) (ps : List (ℕ × ℕ)) (q : ℕ × ℕ) (i : ℕ) : Type 0 where
  pub there : slice_get ps i ≡ Some q
  pub most : (j : ℕ) (p : ℕ × ℕ) → slice_get ps j ≡ Some p → f p ≤ f q
  pub first : (j : ℕ) (p : ℕ × ℕ) → j < i → slice_get ps j ≡ Some p → f p < f q

none_empty : (f : ℕ × ℕ → ℕ) (x : ℕ × ℕ) (o : Option (ℕ × ℕ)) → before f x o ≡ None → ⊥
none_empty f x None e = none-some x (sym e)
none_empty f x (Some q) e = elim (cases_Bool (ltb (f x) (f q)))
    [ inl b ↦ none-some q (sym (rw b at e)) | inr b ↦ none-some x (sym (rw b at e)) ]

head_only : (f : ℕ × ℕ → ℕ) (x q : ℕ × ℕ) (j : ℕ) (p : ℕ × ℕ) → Some x ≡ Some q
    → slice_get (x ∷ []) j ≡ Some p → f p ≤ f q
head_only f x q zero p e g = let s = same_Some p q (sym g ∙ e) in rw s (omega arith)
head_only f x q (suc j) p e g = absurd (none-some p g)

kept_head : (f : ℕ × ℕ → ℕ) (x r : ℕ × ℕ) (ps : List (ℕ × ℕ)) (i : ℕ) → f r ≤ f x
    → IsBestAt f ps r i → (j : ℕ) (p : ℕ × ℕ) → slice_get (x ∷ ps) j ≡ Some p → f p ≤ f x
kept_head f x r ps i le b zero p g = rw (same_Some x p g) (omega arith)
kept_head f x r ps i le b (suc j) p g = let k = b.most j p g in omega arith

later_most : (f : ℕ × ℕ → ℕ) (x r : ℕ × ℕ) (ps : List (ℕ × ℕ)) (i : ℕ) → f x < f r
    → IsBestAt f ps r i → (j : ℕ) (p : ℕ × ℕ) → slice_get (x ∷ ps) j ≡ Some p → f p ≤ f r
later_most f x r ps i l b zero p g = let k : f x < f r = l in rw (← same_Some x p g) (omega arith)
later_most f x r ps i l b (suc j) p g = b.most j p g

later_first : (f : ℕ × ℕ → ℕ) (x r : ℕ × ℕ) (ps : List (ℕ × ℕ)) (i : ℕ) → f x < f r
    → IsBestAt f ps r i → (j : ℕ) (p : ℕ × ℕ) → j < suc i → slice_get (x ∷ ps) j ≡ Some p
    → f p < f r
later_first f x r ps i l b zero p h g = rw (← same_Some x p g) l
later_first f x r ps i l b (suc j) p h g = b.first j p (omega arith) g

-- the first best is the best, and the first of those
pub first_best-is : (f : ℕ × ℕ → ℕ) (ps : List (ℕ × ℕ)) (q : ℕ × ℕ) → first_best f ps ≡ Some q
    → (i : ℕ) × IsBestAt f ps q i
first_best-is f [] q e = absurd (none-some q e)
first_best-is f (x ∷ []) q e = (
  0,
  record {
    there = e;
    most = λ j p g. head_only f x q j p e g;
    first =
        λ j p l g. absurd (omega (arith, l));
  },
)
first_best-is f (x ∷ (y ∷ ps)) q e =
    elim (slice_cases (first_best f (y ∷ ps))) [
      | inl none ↦ absurd (none_empty f y (first_best f ps) (sym (first_best-cons f y ps) ∙ none))
      | inr some ↦
          let w = first_best-is f (y ∷ ps) some.0 some.1 in
          let k : before f x (Some some.0) ≡ Some q = ap (before f x) (sym some.1)
          ∙ sym (first_best-cons f x (y ∷ ps)) ∙ e in
          elim (cases_Bool (ltb (f x) (f some.0))) [
            | inl b ↦
                let s : some.0 ≡ q = same_Some some.0 q (rw b at k) in
                rw (← s) (
                  suc w.0,
                  record {
                    there = w.1.there;
                    most = later_most f x some.0 (y ∷ ps) w.0
                        (ltb-true _ _ b) w.1;
                    first = later_first f x some.0 (y ∷ ps) w.0
                        (ltb-true _ _ b) w.1;
                  },
                )
            | inr b ↦
                let s : x ≡ q = same_Some x q (rw b at k) in
                rw (← s) (
                  0,
                  record {
                    there = refl;
                    most = kept_head f x some.0 (y ∷ ps) w.0
                        (ltb-false _ _ b) w.1;
                    first = λ j p l g. absurd (omega (arith, l));
                  },
                )
          ]
    ]

-- the places of a pair of short lines
pub is_in-small : (lower upper : List Word) (o : Option (ℕ × ℕ)) → is_in lower upper o
    → length lower ≤ 256 → length upper ≤ 256 → IfSome o (λ p. (p.0 < 256) × (p.1 < 256))
is_in-small lower upper None h l u = tt
is_in-small lower upper (Some p) h l u = (omega (arith, h.0), omega (arith, h.1))
