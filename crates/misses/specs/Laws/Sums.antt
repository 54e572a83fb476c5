-- What holds of the places of each hart holds of all places together.
use Rattle.std.proofs.Common.{◌≡◌, ℕ, zero, suc, ◌+◌, ◌≤◌, Bool, true, false, eqb, ◌&&◌}
use Rattle.std.proofs.Common.{List, refl, sym, ◌∙◌, arith, inl, inr}
use Rattle.std.proofs.lemmas.Bool.{cases_Bool, lt-ltb}
use Rattle.std.proofs.lemmas.Bool.Decides.{nat_tests}
use Rattle.std.specs.Prelude.{if◌then◌else◌, nat_lt}
use Rattle.base.specs.Touch.{Touch}
use Rattle.sharing_rules.specs.Places.{Question, count_places}
use Rattle.sharing_rules.specs.Laws.Lists.{by_push}
use Rattle.sharing_rules.specs.Laws.Places.{count_places-empty, count_places-push}

abbrev pub one : Bool → ℕ
one b = if b then 1 else 0

-- a question that passes wherever another does counts at least as much
pub count_places-le : (asked other : Question) (t : List Touch)
    → ((before : List Touch) (a : Touch) → asked before a ≡ true → other before a ≡ true)
    → count_places asked t ≤ count_places other t
count_places-le asked other t within =
    by_push (λ (t : List Touch). count_places asked t ≤ count_places other t)
    (omega (arith, count_places-empty asked, count_places-empty other))
    (λ t a ih.
    rw (count_places-push asked t a, count_places-push other t a)
    (elim (cases_Bool (asked t a)) [
      | inl e ↦ rw (e, within t a e) (omega (arith, ih))
      | inr e ↦ elim (cases_Bool (other t a)) [
        | inl f ↦ rw (e, f) (omega (arith, ih))
        | inr f ↦ rw (e, f) (omega (arith, ih))
      ]
    ]))
    t

pub count_places-same : (asked other : Question) (t : List Touch)
    → ((before : List Touch) (a : Touch) → asked before a ≡ other before a)
    → count_places asked t ≡ count_places other t
count_places-same asked other t same =
    by_push (λ (t : List Touch). count_places asked t ≡ count_places other t)
    (count_places-empty asked ∙ sym (count_places-empty other))
    (λ t a ih. rw (count_places-push asked t a, count_places-push other t a, same t a, ih) refl)
    t

-- the places of hart h, and those of the harts below n
abbrev pub of_hart : ℕ → Question → Question
of_hart h asked before a = (eqb h a.hart) && asked before a

abbrev below_hart : ℕ → Question → Question
below_hart n asked before a = nat_lt a.hart n && asked before a

one_more : (g n : ℕ) (b : Bool)
    → one (nat_lt g (suc n) && b) ≡ one (nat_lt g n && b) + one (eqb n g && b)
one_more g n true = grind (arith, nat_tests)
one_more g n false = grind (arith, nat_tests)

more_harts : (asked : Question) (n : ℕ) (t : List Touch)
    → count_places (below_hart (suc n) asked) t
    ≡ count_places (below_hart n asked) t + count_places (of_hart n asked) t
more_harts asked n t =
    by_push (λ (t : List Touch). count_places (below_hart (suc n) asked) t
    ≡ count_places (below_hart n asked) t + count_places (of_hart n asked) t)
    (omega (
      arith,
      count_places-empty (below_hart (suc n) asked),
      count_places-empty (below_hart n asked),
      count_places-empty (of_hart n asked),
    ))
    (λ t a ih.
    rw (
      count_places-push (below_hart (suc n) asked) t a,
      count_places-push (below_hart n asked) t a,
      count_places-push (of_hart n asked) t a,
    )
    (omega (arith, ih, one_more a.hart n (asked t a))))
    t

none_below : (asked : Question) (t : List Touch) → count_places (below_hart 0 asked) t ≡ 0
none_below asked t =
    by_push (λ (t : List Touch). count_places (below_hart 0 asked) t ≡ 0)
    (count_places-empty (below_hart 0 asked))
    (λ t a ih.
    let no_hart : nat_lt a.hart 0 ≡ false = grind (arith, nat_tests) in
    rw (count_places-push (below_hart 0 asked) t a, no_hart, ih) refl)
    t

up_to : (asked other : Question) (n : ℕ) (t : List Touch)
    → ((h : ℕ) → count_places (of_hart h asked) t ≤ count_places (of_hart h other) t)
    → count_places (below_hart n asked) t ≤ count_places (below_hart n other) t
up_to asked other zero t each =
    omega (arith, none_below asked t, none_below other t)
up_to asked other (suc n) t each =
    omega (arith, up_to asked other n t each, each n, more_harts asked n t, more_harts other n t)

-- from some number on no hart is missing
all_harts : (asked : Question) (t : List Touch) → (n : ℕ) × ((m : ℕ) → n ≤ m
    → count_places (below_hart m asked) t ≡ count_places asked t)
all_harts asked t =
    by_push (λ (t : List Touch). (n : ℕ) × ((m : ℕ) → n ≤ m
    → count_places (below_hart m asked) t ≡ count_places asked t))
    (0, λ m le. count_places-empty (below_hart m asked) ∙ sym (count_places-empty asked))
    (λ t a ih. (
      ih.0 + a.hart + 1,
      λ m le.
          let small : nat_lt a.hart m ≡ true = lt-ltb a.hart m (omega (arith, le)) in
          let before = ih.1 m (omega (arith, le)) in
          rw (
            count_places-push (below_hart m asked) t a,
            count_places-push asked t a,
            small,
            before,
          ) refl,
    ))
    t

pub count_places-by_hart : (asked other : Question) (t : List Touch)
    → ((h : ℕ) → count_places (of_hart h asked) t ≤ count_places (of_hart h other) t)
    → count_places asked t ≤ count_places other t
count_places-by_hart asked other t each =
    let n = all_harts asked t in
    let m = all_harts other t in
    let e = n.1 (n.0 + m.0) (omega arith) in
    let f = m.1 (n.0 + m.0) (omega arith) in
    let le = up_to asked other (n.0 + m.0) t each in
    omega (arith, e, f, le)
