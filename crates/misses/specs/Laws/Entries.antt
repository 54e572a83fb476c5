-- What one access more makes of the entries.
use Rattle.std.proofs.Common.{◌≡◌, ℕ, ◌+◌, ◌≤◌, Bool, true, List, [], ◌∷◌}
use Rattle.std.proofs.Common.{◌++◌, length, refl, arith, inl, inr}
use Rattle.std.proofs.lemmas.Bool.{cases_Bool, lt-ltb}
use Rattle.std.proofs.Math.Bool.{or-false, or-true}
use Rattle.std.proofs.lemmas.List.Folds.{list_any-append}
use Rattle.std.specs.Prelude.{if◌then◌else◌, nat_lt}
use Rattle.std.specs.List.{list_any}
use Rattle.base.specs.Touch.{Touch}
use Rattle.sharing_rules.specs.Laws.Lists.{by_push}
use Rattle.misses.specs.Entries.{behind, last_hart}

some_behind : (n : ℕ) → nat_lt 0 (n + 1) ≡ true
some_behind n = lt-ltb 0 (n + 1) (omega arith)

pub behind-push : (p : Touch → Bool) (t : List Touch) (a : Touch)
    → behind p (t ++ a ∷ []) ≡ if p a then length t + 1 else behind p t
behind-push p [] a = refl
behind-push p (b ∷ t) a =
    rw (behind-push p t a)
    (elim (cases_Bool (p a)) [
      | inl yes_a ↦ rw (yes_a, some_behind (length t)) (omega arith)
      | inr no_a ↦ rw no_a refl
    ])

pub last_hart-push : (p : Touch → Bool) (t : List Touch) (a : Touch)
    → last_hart p (t ++ a ∷ []) ≡ if p a then a.hart else last_hart p t
last_hart-push p [] a = elim (cases_Bool (p a)) [ inl e ↦ rw e refl | inr e ↦ rw e refl ]
last_hart-push p (b ∷ t) a =
    rw (last_hart-push p t a, list_any-append p t (a ∷ []))
    (elim (cases_Bool (p a)) [
      | inl e ↦ elim (cases_Bool (list_any p t)) [ inl u ↦ rw (e, u) refl | inr u ↦ rw (e, u) refl ]
      | inr e ↦ elim (cases_Bool (list_any p t)) [ inl u ↦ rw (e, u) refl | inr u ↦ rw (e, u) refl ]
    ])

pub behind-within : (p : Touch → Bool) (t : List Touch) → behind p t ≤ length t
behind-within p [] = omega arith
behind-within p (a ∷ t) =
    let ih = behind-within p t in
    elim (cases_Bool (nat_lt 0 (behind p t))) [
      | inl e ↦ rw e (omega arith)
      | inr e ↦ elim (cases_Bool (p a)) [
        | inl u ↦ rw (e, u) (omega arith)
        | inr u ↦ rw (e, u) (omega arith)
      ]
    ]

-- there is such an access where the position behind it isn't 0
pub any-behind : (p : Touch → Bool) (t : List Touch) → list_any p t ≡ nat_lt 0 (behind p t)
any-behind p t =
    by_push (λ (t : List Touch). list_any p t ≡ nat_lt 0 (behind p t))
    refl
    (λ t a ih.
    rw (list_any-append p t (a ∷ []), behind-push p t a)
    (elim (cases_Bool (p a)) [
      | inl e ↦ rw (e, some_behind (length t), or-true (list_any p t)) refl
      | inr e ↦ rw (e, or-false (list_any p t)) ih
    ]))
    t

-- tests that pass at the same accesses
pub behind-same : (p q : Touch → Bool) → ((a : Touch) → p a ≡ q a) → (t : List Touch)
    → behind p t ≡ behind q t
behind-same p q same t =
    by_push (λ (t : List Touch). behind p t ≡ behind q t) refl
    (λ t a ih. rw (behind-push p t a, behind-push q t a, same a, ih) refl) t

pub last_hart-same : (p q : Touch → Bool) → ((a : Touch) → p a ≡ q a) → (t : List Touch)
    → last_hart p t ≡ last_hart q t
last_hart-same p q same t =
    by_push (λ (t : List Touch). last_hart p t ≡ last_hart q t) refl
    (λ t a ih. rw (last_hart-push p t a, last_hart-push q t a, same a, ih) refl) t
