-- Sites and invalidations after one access more.
use Rattle.std.proofs.Common.{◌≡◌, ℕ, zero, suc, ◌+◌, ◌<◌, ◌≤◌, true, false, List, []}
use Rattle.std.proofs.Common.{◌∷◌, ◌++◌, Option, Some, None, length, length-append, drop}
use Rattle.std.proofs.Common.{refl, sym, ap, ◌∙◌, arith, inl, inr}
use Rattle.std.proofs.lemmas.Bool.{and_parts, cases_Bool, false≢true}
use Rattle.std.proofs.lemmas.Bool.Decides.{nat_tests}
use Rattle.std.proofs.lemmas.List.{append-nil, drop-append-le, take-append-le, take_at}
use Rattle.std.proofs.lemmas.List.Elements.{filter-append, filter_map-append}
use Rattle.std.specs.Prelude.{filter_map, if◌then◌else◌, is_some, nat_le}
use Rattle.std.specs.Prelude.{option_to_list}
use Rattle.base.specs.Lines.{line_number}
use Rattle.sharing_rules.specs.Lines.{Line}
use Rattle.sharing_rules.specs.Places.{below}
use Rattle.sharing_rules.specs.Laws.Counts.{count_since-push}
use Rattle.sharing_rules.specs.Laws.Lists.{cons_option-nil, slice_cases, slice_get-append_left}
use Rattle.sharing_rules.specs.Laws.Lists.{slice_get-push}
use Rattle.invalidations.specs.declared.sited.Sited.{Sited}
use Rattle.invalidations.specs.declared.sited.Invalidation.{Invalidation}
use Rattle.invalidations.specs.Latest.{accesses_of}
use Rattle.invalidations.specs.Laws.Another.{by_holder, held-victim}
use Rattle.invalidations.specs.Laws.Latest.{accesses_of-push, length-accesses_of}
use Rattle.invalidations.specs.Invalidations.{is_in, invalidates_line, invalidation_at}
use Rattle.invalidations.specs.Invalidations.{invalidation_count}
use Rattle.invalidations.specs.Invalidations.{invalidation_of, invalidations, victim, visits}

mapped-same : (f g : ℕ → Option Invalidation) (n : ℕ) → ((i : ℕ) → i < n → f i ≡ g i)
    → filter_map f (below n) ≡ filter_map g (below n)
mapped-same f g zero same = refl
mapped-same f g (suc n) same =
    filter_map-append f (below n) (n ∷ [])
    ∙ rw (mapped-same f g n (λ i l. same i (omega arith)), same n (omega arith)) refl
    ∙ sym (filter_map-append g (below n) (n ∷ []))

pub at-left : (l : Line) (start : ℕ) (u : List Sited) (s : Sited) (i : ℕ) → i < length u
    → invalidation_at l start (u ++ s ∷ []) i ≡ invalidation_at l start u i
at-left l start u s i h =
    let le : i ≤ length u = omega (arith, h) in
    rw (take-append-le i u (s ∷ []) le, slice_get-append_left u (s ∷ []) i h) refl

pub at-last : (l : Line) (start : ℕ) (u : List Sited) (s : Sited)
    → invalidation_at l start (u ++ s ∷ []) (length u) ≡ invalidation_of l start u s
at-last l start u s =
    rw (take_at u (s ∷ []) (length u) refl, slice_get-push u s) refl

pub invalidations-empty : (l : Line) (start : ℕ) → invalidations l start [] ≡ []
unfolding invalidations
invalidations-empty l start = refl

pub invalidations-push : (l : Line) (start : ℕ) (u : List Sited) (s : Sited)
    → invalidations l start (u ++ s ∷ []) ≡ invalidations l start u ++ option_to_list (invalidation_of l start u s)
unfolding invalidations
invalidations-push l start u s =
    let len : length (u ++ s ∷ []) ≡ suc (length u) = omega (arith, length-append u (s ∷ [])) in
    ap (λ n. filter_map (invalidation_at l start (u ++ s ∷ [])) (below n)) len
    ∙ filter_map-append (invalidation_at l start (u ++ s ∷ [])) (below (length u)) (length u ∷ [])
    ∙ rw (
      mapped-same _ _ (length u) (at-left l start u s),
      at-last l start u s,
      cons_option-nil (invalidation_of l start u s),
    ) refl

drop-all : (n : ℕ) (u : List Sited) → length u ≤ n → drop n u ≡ []
drop-all zero [] le = refl
drop-all (suc n) [] le = refl
drop-all zero (x ∷ u) le = absurd (omega (arith, le))
drop-all (suc n) (x ∷ u) le = drop-all n u (omega (arith, le))

pub visits-push : (l : Line) (start : ℕ) (u : List Sited) (s : Sited) → is_in l s ≡ true
    → visits l start (u ++ s ∷ [])
    ≡ if nat_le start (length u) then visits l start u ++ s ∷ [] else visits l start u
visits-push l start u s i =
    elim (cases_Bool (nat_le start (length u))) [
      | inl since ↦
          let le : start ≤ length u = grind (arith, nat_tests) in
          rw (since, drop-append-le start u (s ∷ []) le)
          (filter-append (is_in l) (drop start u) (s ∷ []) ∙ rw i refl)
      | inr early ↦
          let gt : length u < start = grind (arith, nat_tests) in
          let longer : length (u ++ s ∷ []) ≤ start =
          omega (arith, gt, length-append u (s ∷ [])) in
          rw (
            early,
            drop-all start (u ++ s ∷ []) longer,
            drop-all start u (omega (arith, gt)),
          ) refl
    ]

pub visits-elsewhere : (l : Line) (start : ℕ) (u : List Sited) (s : Sited) → is_in l s ≡ false
    → visits l start (u ++ s ∷ []) ≡ visits l start u
visits-elsewhere l start u s out =
    elim (cases_Bool (nat_le start (length u))) [
      | inl since ↦
          let le : start ≤ length u = grind (arith, nat_tests) in
          rw (drop-append-le start u (s ∷ []) le)
          (filter-append (is_in l) (drop start u) (s ∷ [])
          ∙ rw out (append-nil (visits l start u)))
      | inr early ↦
          let gt : length u < start = grind (arith, nat_tests) in
          let longer : length (u ++ s ∷ []) ≤ start =
          omega (arith, gt, length-append u (s ∷ [])) in
          rw (
            drop-all start (u ++ s ∷ []) longer,
            drop-all start u (omega (arith, gt)),
          ) refl
    ]

-- ---- each invalidation has a victim, whose hart holds the line

pub has-victim : (l : Line) (start : ℕ) (u : List Sited) (s : Sited)
    → invalidates_line l start u s ≡ true
    → (v : Sited) × (victim l u s ≡ Some v) × (by_holder l u (Some v) ≡ true)
has-victim l start u s e =
    let invalidates = (and_parts _ _ e).1 in
    let held = (and_parts _ _ invalidates).1 in
    let there : by_holder l u (victim l u s) ≡ true =
    sym (held-victim l u s.access.hart) ∙ held in
    elim (slice_cases (victim l u s)) [
      | inl none ↦ absurd (false≢true (rw none at there))
      | inr some ↦ (some.0, some.1, rw some.1 at there)
    ]

pub some-invalidation : (l : Line) (start : ℕ) (u : List Sited) (s : Sited)
    → is_some (invalidation_of l start u s) ≡ invalidates_line l start u s
some-invalidation l start u s =
    elim (cases_Bool (invalidates_line l start u s)) [
      | inl e ↦ let v = has-victim l start u s e in rw (e, v.1) refl
      | inr e ↦ rw e refl
    ]

pub count-push : (l : Line) (start : ℕ) (u : List Sited) (s : Sited)
    → invalidation_count l start (u ++ s ∷ [])
    ≡ if is_some (invalidation_of l start u s) then invalidation_count l start u + 1
    else invalidation_count l start u
count-push l start u s =
    rw (
      some-invalidation l start u s,
      accesses_of-push u s,
      count_since-push (line_number l.size l.offset) l.number start (accesses_of u) s.access,
      length-accesses_of u,
    )
    (elim (cases_Bool (invalidates_line l start u s)) [
      | inl e ↦ rw e refl
      | inr e ↦ rw e (omega arith)
    ])

-- so the invalidations are as many as are counted
length-optional : (o : Option Invalidation) → length (option_to_list o) ≡ if is_some o then 1 else 0
length-optional None = refl
length-optional (Some k) = refl

pub invalidations-counted-push : (l : Line) (start : ℕ) (u : List Sited) (s : Sited)
    → length (invalidations l start (u ++ s ∷ []))
    ≡ if is_some (invalidation_of l start u s) then length (invalidations l start u) + 1
    else length (invalidations l start u)
invalidations-counted-push l start u s =
    rw (
      invalidations-push l start u s,
      length-append (invalidations l start u) (option_to_list (invalidation_of l start u s)),
      length-optional (invalidation_of l start u s),
    )
    (elim (cases_Bool (is_some (invalidation_of l start u s))) [
      | inl e ↦ rw e refl
      | inr e ↦ rw e (omega arith)
    ])
