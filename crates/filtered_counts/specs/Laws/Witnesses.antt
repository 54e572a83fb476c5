-- Of a list and of it without redundant accesses the same accesses are redundant, since one of the
-- witnesses is kept.
use Rattle.std.proofs.Common.{◌≡◌, ℕ, ◌<◌, ◌≤◌, Bool, true, false, not, ◌&&◌, ◌||◌, List, []}
use Rattle.std.proofs.Common.{◌∷◌, ◌++◌, length, refl, sym, ap, ◌∙◌, arith, inl, inr}
use Rattle.std.proofs.Common.{length-append}
use Rattle.std.proofs.lemmas.Bool.{cases_Bool, false≢true, and_parts, and_from, or_cases, not_from_false}
use Rattle.std.proofs.lemmas.List.{append-nil}
use Rattle.std.specs.Prelude.{if◌then◌else◌}
use Rattle.base.specs.Touch.{Touch}
use Rattle.sharing_rules.specs.AccessLists.{AccessList}
use Rattle.sharing_rules.specs.Laws.Lists.{by_push}
use Rattle.sharing_rules.specs.Laws.Places.{passes_at-append, passes_at-push}
use Rattle.sharing_rules.specs.Filtered.{IsWithoutRedundant, at_places, comes_near, covers}
use Rattle.sharing_rules.specs.Filtered.{filtered, is_kept_at, is_redundant}
use Rattle.filtered_counts.specs.Witnesses.{KeptWitness}
use Rattle.filtered_counts.specs.Laws.Redundant.{covers-redundant, is_redundant-push}
use Rattle.filtered_counts.specs.Laws.Redundant.{near-redundant, witness-kept, witness-new}
use Rattle.filtered_counts.specs.Laws.Walk.{at_places-push, places-same, walk-lists}

always : (x : Bool) → (x || true) ≡ true
always true = refl
always false = refl

-- an access that is redundant itself makes no other one redundant, and keeps none from being so
pub is_redundant-again : (k : ℕ) (t : List Touch) (c a : Touch) → 2 ≤ k
    → is_redundant k t c ≡ true
    → ((is_redundant k t a && not (comes_near k a.hart a.addr c)) || covers c a)
    ≡ is_redundant k t a
is_redundant-again k t c a le e =
    elim (cases_Bool (covers c a)) [
      | inl over ↦
          let there = covers-redundant k t c a le over e in
          rw (over, there) (always (true && not (comes_near k a.hart a.addr c)))
      | inr none ↦ elim (cases_Bool (is_redundant k t a)) [
        | inl there ↦ elim (cases_Bool (comes_near k a.hart a.addr c)) [
          | inl near ↦ absurd (near-redundant k t a c le near there e)
          | inr far ↦ rw (none, there, far) refl
        ]
        | inr not_there ↦ rw (none, not_there) refl
      ]
    ]

-- a list and it without redundant accesses make the same accesses redundant
pub same-redundant : (k : ℕ) (t v : AccessList) → 2 ≤ k → IsWithoutRedundant k t v → (a : Touch)
    → is_redundant k v a ≡ is_redundant k t a
same-redundant k t v le w =
    walk-lists k (λ t v. (a : Touch) → is_redundant k v a ≡ is_redundant k t a)
    (λ a. refl)
    (λ t v c ih a. rw (is_redundant-push k v c a, is_redundant-push k t c a, ih a) refl)
    (λ t v c e ih a. ih a ∙ sym (is_redundant-push k t c a ∙ is_redundant-again k t c a le e))
    t v w

-- ---- the filtered list

kept-by : (k : ℕ) (t : List Touch) (a : Touch)
    → is_kept_at k (t ++ a ∷ []) (length t) ≡ not (is_redundant k t a)
kept-by k t a = ap not (passes_at-push (is_redundant k) t a)

kept-left : (k : ℕ) (t : List Touch) (c : Touch) (i : ℕ) → i < length t
    → is_kept_at k (t ++ c ∷ []) i ≡ is_kept_at k t i
kept-left k t c i l = ap not (passes_at-append (is_redundant k) t (c ∷ []) i l)

pub filtered-empty : (k : ℕ) → filtered k [] ≡ []
unfolding filtered
filtered-empty k = refl

-- after one access more
pub filtered-push : (k : ℕ) (t : List Touch) (a : Touch)
    → filtered k (t ++ a ∷ []) ≡ if is_redundant k t a then filtered k t else filtered k t ++ a ∷ []
unfolding filtered
filtered-push k t a =
    at_places-push (is_kept_at k (t ++ a ∷ [])) t a
    ∙ rw (
      kept-by k t a,
      places-same (is_kept_at k (t ++ a ∷ [])) (is_kept_at k t) t
          (λ i l. kept-left k t a i l),
    )
    (elim (cases_Bool (is_redundant k t a)) [
      | inl e ↦ rw e (append-nil (at_places (is_kept_at k t) t))
      | inr e ↦ rw e refl
    ])

-- the filtered list is one without redundant accesses: without all of them
pub filtered-without : (k : ℕ) (t : List Touch) → IsWithoutRedundant k t (filtered k t)
unfolding filtered
filtered-without k t = record { kept = is_kept_at k t; needed = λ i e. e; rest = refl }

-- Whatever redundant accesses a list lacks, its filtered list is that of the whole one.
pub filtered-same : (k : ℕ) (t v : AccessList) → 2 ≤ k → IsWithoutRedundant k t v
    → filtered k v ≡ filtered k t
filtered-same k t v le w =
    (walk-lists k
    (λ t v. ((a : Touch) → is_redundant k v a ≡ is_redundant k t a) × (filtered k v ≡ filtered k t))
    ((λ a. refl), refl)
    (λ t v c ih. (
      λ a. rw (is_redundant-push k v c a, is_redundant-push k t c a, ih.0 a) refl,
      rw (filtered-push k v c, filtered-push k t c, ih.0 c, ih.1) refl,
    ))
    (λ t v c e ih. (
      λ a. ih.0 a ∙ sym (is_redundant-push k t c a ∙ is_redundant-again k t c a le e),
      rw (filtered-push k t c, e) ih.1,
    ))
    t v w).1

pub filtered-twice : (k : ℕ) (t : AccessList) → 2 ≤ k → filtered k (filtered k t) ≡ filtered k t
filtered-twice k t le = filtered-same k t (filtered k t) le (filtered-without k t)

-- ---- kept witnesses

further : (k : ℕ) (t : List Touch) (c a : Touch)
    → not (comes_near k a.hart a.addr c) ≡ true → KeptWitness k t a → KeptWitness k (t ++ c ∷ []) a
further k t c a far w =
    let len = length-append t (c ∷ []) in record {
      place = w.place;
      within = omega (arith, len, w.within);
      witness = witness-kept k t c a w.place w.within ∙ and_from _ _ w.witness far;
      kept = kept-left k t c w.place w.within ∙ w.kept;
    }

-- a redundant access has a witness that isn't redundant
pub kept-witness : (k : ℕ) (t : AccessList) → 2 ≤ k → (a : Touch) → is_redundant k t a ≡ true
    → KeptWitness k t a
kept-witness k t le =
    by_push (λ (t : AccessList). (a : Touch) → is_redundant k t a ≡ true → KeptWitness k t a)
    (λ a e. absurd (false≢true e))
    (λ t c ih a e.
    let g : ((is_redundant k t a && not (comes_near k a.hart a.addr c)) || covers c a) ≡ true =
    sym (is_redundant-push k t c a) ∙ e in
    elim (or_cases (is_redundant k t a && not (comes_near k a.hart a.addr c)) (covers c a) g) [
      | inl before ↦
          let p = and_parts (is_redundant k t a) (not (comes_near k a.hart a.addr c)) before in
          further k t c a p.1 (ih a p.0)
      | inr now ↦ elim (cases_Bool (is_redundant k t c)) [
        | inl again ↦
            let there : is_redundant k t a ≡ true = covers-redundant k t c a le now again in
            elim (cases_Bool (comes_near k a.hart a.addr c)) [
              | inl near ↦ absurd (near-redundant k t a c le near there again)
              | inr far ↦ further k t c a (not_from_false _ far) (ih a there)
            ]
        | inr new ↦
            let len = length-append t (c ∷ []) in record {
              place = length t;
              within = omega (arith, len);
              witness = witness-new k t c a ∙ now;
              kept = kept-by k t c ∙ not_from_false _ new;
            }
      ]
    ])
    t
