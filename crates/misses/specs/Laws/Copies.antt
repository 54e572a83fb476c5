-- What one access more makes of the copies and of what they lack.
use Rattle.std.proofs.Common.{◌≡◌, ℕ, zero, suc, ◌+◌, ◌≤◌, Bool, true, false, eqb, ◌&&◌}
use Rattle.std.proofs.Common.{◌||◌, List, [], ◌∷◌, ◌++◌, length, drop, refl, sym, subst}
use Rattle.std.proofs.Common.{arith, inl, inr, length-append}
use Rattle.std.proofs.lemmas.Bool.{cases_Bool, false≢true}
use Rattle.std.proofs.Math.Bool.{or-false}
use Rattle.std.proofs.lemmas.Bool.Decides.{nat_tests}
use Rattle.std.proofs.lemmas.List.{append-nil, append_assoc}
use Rattle.std.proofs.lemmas.List.Folds.{list_any-append}
use Rattle.std.specs.Prelude.{if◌then◌else◌, is_some, Option, None, Some}
use Rattle.std.specs.List.{list_any}
use Rattle.base.specs.Touch.{Touch}
use Rattle.sharing_rules.specs.Laws.Lists.{by_push}
use Rattle.misses.specs.Entries.{right_after}
use Rattle.misses.specs.Misses.{after_load, changes, copies, copies_from, is_by_in, lacks, wants}

copies_from-push : (line_of : ℕ → ℕ) (s : List Touch) (loaded : ℕ → ℕ → Option ℕ) (t : List Touch)
    (a : Touch) (h r : ℕ)
    → copies_from line_of s loaded (t ++ a ∷ []) h r ≡ after_load line_of (s ++ t)
    (copies_from line_of s loaded t) a h r
copies_from-push line_of s loaded [] a h r = rw (append-nil s) refl
copies_from-push line_of s loaded (b ∷ t) a h r =
    subst (λ (u : List Touch). copies_from line_of (s ++ b ∷ []) (after_load line_of s loaded b)
    (t ++ a ∷ []) h r ≡ after_load line_of u
    (copies_from line_of (s ++ b ∷ []) (after_load line_of s loaded b) t) a h r)
    (append_assoc s (b ∷ []) t)
    (copies_from-push line_of (s ++ b ∷ []) (after_load line_of s loaded b) t a h r)

pub copies-push : (line_of : ℕ → ℕ) (t : List Touch) (a : Touch) (h r : ℕ)
    → copies line_of (t ++ a ∷ []) h r ≡ after_load line_of t (copies line_of t) a h r
unfolding copies
copies-push line_of t a h r = copies_from-push line_of [] (λ h r. None) t a h r

pub copies-empty : (line_of : ℕ → ℕ) (h r : ℕ) → copies line_of [] h r ≡ None
unfolding copies
copies-empty line_of h r = refl

-- a copy was loaded within the list
pub copies-within : (line_of : ℕ → ℕ) (t : List Touch) (h r : ℕ)
    → right_after (copies line_of t h r) ≤ length t
copies-within line_of t h r =
    by_push (λ (t : List Touch). right_after (copies line_of t h r) ≤ length t)
    (rw (copies-empty line_of h r) (omega arith))
    (λ t a ih.
    let len = length-append t (a ∷ []) in
    rw (copies-push line_of t a h r)
    (elim (cases_Bool (is_by_in line_of h r a && lacks (copies line_of t h r) t h a.addr)) [
      | inl e ↦ rw e (omega (arith, len))
      | inr e ↦ rw e (omega (arith, len, ih))
    ]))
    t

drop-push : (t : List Touch) (n : ℕ) (a : Touch) → n ≤ length t
    → drop n (t ++ a ∷ []) ≡ drop n t ++ a ∷ []
drop-push t zero a le = refl
drop-push [] (suc n) a le = absurd (omega (arith, le))
drop-push (b ∷ t) (suc n) a le = drop-push t n a (omega (arith, le))

drop-all : (t : List Touch) → drop (length t) t ≡ []
drop-all [] = refl
drop-all (a ∷ t) = drop-all t

pub above_zero : (n : ℕ) → eqb (n + 1) 0 ≡ false
above_zero n = grind (arith, nat_tests)

-- nothing stands behind a load that was just made
pub any-loaded : (p : Touch → Bool) (t : List Touch) (a : Touch)
    → list_any p (drop (length t + 1) (t ++ a ∷ [])) ≡ false
any-loaded p t a =
    let len : length t + 1 ≡ length (t ++ a ∷ []) = omega (arith, length-append t (a ∷ [])) in
    let none : drop (length t + 1) (t ++ a ∷ []) ≡ [] =
    subst (λ n. drop n (t ++ a ∷ []) ≡ []) (sym len) (drop-all (t ++ a ∷ [])) in
    rw none refl

-- behind an older one stands the access too
pub any-kept : (p : Touch → Bool) (c : ℕ) (t : List Touch) (a : Touch) → c ≤ length t
    → list_any p (drop c (t ++ a ∷ [])) ≡ (list_any p (drop c t) || p a)
any-kept p c t a le =
    rw (drop-push t c a le, list_any-append p (drop c t) (a ∷ []), or-false) refl

-- a copy that was just loaded lacks nothing
lacks-loaded : (t : List Touch) (a : Touch) (h x : ℕ)
    → lacks (Some (length t)) (t ++ a ∷ []) h x ≡ false
lacks-loaded t a h x = any-loaded (changes h x) t a

-- one that stays lacks a word more where the access changes it
lacks-kept : (c : Option ℕ) (t : List Touch) (a : Touch) (h x : ℕ) → right_after c ≤ length t
    → lacks c (t ++ a ∷ []) h x ≡ (lacks c t h x || changes h x a)
lacks-kept None t a h x le = refl
lacks-kept (Some load) t a h x le = any-kept (changes h x) (load + 1) t a le

-- where a word isn't lacking there is a copy
pub lacks-some : (c : Option ℕ) (t : List Touch) (h x : ℕ) → lacks c t h x ≡ false
    → is_some c ≡ true
lacks-some None t h x e = absurd (false≢true (sym e))
lacks-some (Some load) t h x e = refl

pub wants-push : (line_of : ℕ → ℕ) (t : List Touch) (a : Touch) (h x : ℕ)
    → wants line_of (t ++ a ∷ []) h x ≡
    if is_by_in line_of h (line_of x) a && lacks (copies line_of t h (line_of x)) t h a.addr
    then false else (wants line_of t h x || changes h x a)
wants-push line_of t a h x =
    rw (copies-push line_of t a h (line_of x))
    (elim (cases_Bool (is_by_in line_of h (line_of x) a
    && lacks (copies line_of t h (line_of x)) t h a.addr)) [
      | inl e ↦ rw e (lacks-loaded t a h x)
      | inr e ↦ rw e (lacks-kept (copies line_of t h (line_of x)) t a h x
          (copies-within line_of t h (line_of x)))
    ])

-- at the beginning each word is lacking
pub wants-empty : (line_of : ℕ → ℕ) (h x : ℕ) → wants line_of [] h x ≡ true
wants-empty line_of h x = rw (copies-empty line_of h (line_of x)) refl
