-- Each needed load that isn't cold has a miss of its own: between a hart's load of its copy and the
-- next there is a miss of that hart in that line.
use Rattle.std.proofs.Common.{◌≡◌, ℕ, ◌+◌, ◌≤◌, Bool, true, false, eqb, not, ◌&&◌}
use Rattle.std.proofs.Common.{List, [], ◌∷◌, ◌++◌, length, drop, refl, sym, ap, ◌∙◌, subst}
use Rattle.std.proofs.Common.{arith, inl, inr}
use Rattle.std.proofs.lemmas.Bool.{cases_Bool, eqb-true, eq-eqb, or_cases}
use Rattle.std.proofs.lemmas.Bool.{and_parts, and_from, or_left, or_right, false≢true}
use Rattle.std.proofs.Math.Bool.{and-false, and-true, or-false}
use Rattle.std.specs.Prelude.{if◌then◌else◌, is_some, Some}
use Rattle.std.specs.List.{list_any}
use Rattle.base.specs.Touch.{Touch, is_write}
use Rattle.sharing_rules.specs.Holders.{holders}
use Rattle.sharing_rules.specs.Places.{count_places}
use Rattle.sharing_rules.specs.Laws.Counts.{holders-push}
use Rattle.sharing_rules.specs.Laws.Lists.{by_push, slice_cases}
use Rattle.sharing_rules.specs.Laws.Places.{count_places-empty, count_places-push}
use Rattle.misses.specs.Entries.{right_after}
use Rattle.misses.specs.Laws.Copies.{any-kept, any-loaded, copies-push, copies-within, lacks-some}
use Rattle.misses.specs.Laws.Sums.{count_places-by_hart, of_hart, one}
use Rattle.misses.specs.Misses.{changes, copies, is_by_in, is_miss, is_needed}
use Rattle.misses.specs.Misses.{lacks, wants}
use Rattle.misses.specs.WordLines.{KeepsWords}

-- another's access leaves nobody a line that he hadn't
held_before : (line_of : ℕ → ℕ) (h r : ℕ) (t : List Touch) (a : Touch)
    → is_by_in line_of h r a ≡ false → holders line_of (t ++ a ∷ []) h r ≡ true
    → holders line_of t h r ≡ true
held_before line_of h r t a other held =
    let now = sym (holders-push line_of t a h r) ∙ held in
    elim (cases_Bool (eqb (line_of a.addr) r)) [
      | inr i ↦ rw i at now
      | inl i ↦
          let stranger : eqb h a.hart ≡ false = rw (i, and-true) at other in
          let k : (not (is_write a.kind) && holders line_of t h r) ≡ true =
          rw (i, stranger) at now in
          (and_parts _ _ k).1
    ]

-- whoever holds a line has a copy of it
holds-copied : (line_of : ℕ → ℕ) (h r : ℕ) (t : List Touch) → holders line_of t h r ≡ true
    → is_some (copies line_of t h r) ≡ true
holds-copied line_of h r t =
    by_push (λ (t : List Touch). holders line_of t h r ≡ true
    → is_some (copies line_of t h r) ≡ true)
    (λ e. absurd (false≢true e))
    (λ t a ih held.
    rw (copies-push line_of t a h r)
    (elim (cases_Bool (is_by_in line_of h r a && lacks (copies line_of t h r) t h a.addr)) [
      | inl l ↦ rw l refl
      | inr l ↦ rw l (elim (cases_Bool (is_by_in line_of h r a)) [
        | inl mine ↦ let none : lacks (copies line_of t h r) t h a.addr ≡ false = rw mine at l in
            lacks-some (copies line_of t h r) t h a.addr none
        | inr other ↦ ih (held_before line_of h r t a other held)
      ])
    ]))
    t

-- the writes of a line by others than h
abbrev is_foreign : (ℕ → ℕ) → ℕ → ℕ → Touch → Bool
is_foreign line_of h r a = is_write a.kind && not (eqb h a.hart) && (eqb (line_of a.addr) r)

any-within : (p q : Touch → Bool) (t : List Touch)
    → ((a : Touch) → p a ≡ true → q a ≡ true) → list_any p t ≡ true → list_any q t ≡ true
any-within p q [] within e = e
any-within p q (a ∷ t) within e =
    elim (or_cases (p a) (list_any p t) e) [
      | inl here ↦ or_left _ _ (within a here)
      | inr later ↦ or_right _ _ (any-within p q t within later)
    ]

changes-foreign : (line_of : ℕ → ℕ) (h x : ℕ) (a : Touch) → KeepsWords line_of
    → changes h x a ≡ true → is_foreign line_of h (line_of x) a ≡ true
changes-foreign line_of h x a keeps e =
    let parts = and_parts _ _ e in
    and_from _ _ parts.0 (eq-eqb _ _ (keeps a.addr x (eqb-true _ _ parts.1)))

-- h holds a line that another hart wrote since h's copy was loaded: then h had a miss for nothing
abbrev is_ahead : (ℕ → ℕ) → ℕ → ℕ → List Touch → Bool
is_ahead line_of h r t =
    holders line_of t h r
    && list_any (is_foreign line_of h r) (drop (right_after (copies line_of t h r)) t)

-- h's needed loads, those for which it is ahead, and its misses
abbrev HasEnough : (ℕ → ℕ) → ℕ → ℕ → List Touch → Type 0
HasEnough line_of h r t =
    count_places (of_hart h (is_needed line_of r)) t + one (is_ahead line_of h r t)
    ≤ count_places (of_hart h (is_miss line_of r)) t

-- what h's own access adds
needed-own : (line_of : ℕ → ℕ) (t : List Touch) (a : Touch)
    → count_places (of_hart a.hart (is_needed line_of (line_of a.addr))) (t ++ a ∷ [])
    ≡ count_places (of_hart a.hart (is_needed line_of (line_of a.addr))) t
    + one (wants line_of t a.hart a.addr)
needed-own line_of t a =
    rw (
      count_places-push (of_hart a.hart (is_needed line_of (line_of a.addr))) t a,
      eq-eqb a.hart a.hart refl,
      eq-eqb (line_of a.addr) (line_of a.addr) refl,
    ) refl

missed-own : (line_of : ℕ → ℕ) (t : List Touch) (a : Touch)
    → count_places (of_hart a.hart (is_miss line_of (line_of a.addr))) (t ++ a ∷ [])
    ≡ count_places (of_hart a.hart (is_miss line_of (line_of a.addr))) t
    + one (not (holders line_of t a.hart (line_of a.addr)))
missed-own line_of t a =
    rw (
      count_places-push (of_hart a.hart (is_miss line_of (line_of a.addr))) t a,
      eq-eqb a.hart a.hart refl,
      eq-eqb (line_of a.addr) (line_of a.addr) refl,
    ) refl

holds-own : (line_of : ℕ → ℕ) (t : List Touch) (a : Touch)
    → holders line_of (t ++ a ∷ []) a.hart (line_of a.addr) ≡ true
holds-own line_of t a =
    rw (
      holders-push line_of t a a.hart (line_of a.addr),
      eq-eqb a.hart a.hart refl,
      eq-eqb (line_of a.addr) (line_of a.addr) refl,
    ) refl

pub copies-own : (line_of : ℕ → ℕ) (t : List Touch) (a : Touch)
    → copies line_of (t ++ a ∷ []) a.hart (line_of a.addr)
    ≡ if wants line_of t a.hart a.addr then Some (length t)
    else copies line_of t a.hart (line_of a.addr)
copies-own line_of t a =
    rw (
      copies-push line_of t a a.hart (line_of a.addr),
      eq-eqb a.hart a.hart refl,
      eq-eqb (line_of a.addr) (line_of a.addr) refl,
    ) refl

-- a needed load by a hart that holds the line: it is ahead
ahead-needed : (line_of : ℕ → ℕ) (t : List Touch) (a : Touch) → KeepsWords line_of
    → wants line_of t a.hart a.addr ≡ true → holders line_of t a.hart (line_of a.addr) ≡ true
    → is_ahead line_of a.hart (line_of a.addr) t ≡ true
ahead-needed line_of t a keeps needed held =
    and_from _ _ held
    (elim (slice_cases (copies line_of t a.hart (line_of a.addr))) [
      | inl none ↦
          let copied = holds-copied line_of a.hart (line_of a.addr) t held in
          absurd (false≢true (sym (ap is_some none) ∙ copied))
      | inr some ↦
          let changed : list_any (changes a.hart a.addr) (drop (some.0 + 1) t) ≡ true =
          rw some.1 at needed in
          rw some.1
          (any-within (changes a.hart a.addr) (is_foreign line_of a.hart (line_of a.addr))
          (drop (some.0 + 1) t) (λ b e. changes-foreign line_of a.hart a.addr b keeps e) changed)
    ])

ahead-loaded : (line_of : ℕ → ℕ) (t : List Touch) (a : Touch)
    → wants line_of t a.hart a.addr ≡ true
    → is_ahead line_of a.hart (line_of a.addr) (t ++ a ∷ []) ≡ false
ahead-loaded line_of t a needed =
    rw (
      copies-own line_of t a,
      needed,
      any-loaded (is_foreign line_of a.hart (line_of a.addr)) t a,
      and-false (holders line_of (t ++ a ∷ []) a.hart (line_of a.addr)),
    ) refl

ahead-unneeded : (line_of : ℕ → ℕ) (t : List Touch) (a : Touch)
    → wants line_of t a.hart a.addr ≡ false
    → is_ahead line_of a.hart (line_of a.addr) (t ++ a ∷ [])
    ≡ list_any (is_foreign line_of a.hart (line_of a.addr))
    (drop (right_after (copies line_of t a.hart (line_of a.addr))) t)
ahead-unneeded line_of t a unneeded =
    rw (
      copies-own line_of t a,
      unneeded,
      holds-own line_of t a,
      any-kept (is_foreign line_of a.hart (line_of a.addr))
          (right_after (copies line_of t a.hart (line_of a.addr))) t a
          (copies-within line_of t a.hart (line_of a.addr)),
      eq-eqb a.hart a.hart refl,
      and-false (is_write a.kind),
      or-false,
    ) refl

own-step : (n m i j : ℕ) (needed held ahead old later : Bool) → i ≡ n + one needed
    → j ≡ m + one (not held) → n + one old ≤ m → old ≡ (held && ahead)
    → (needed ≡ true → later ≡ false) → (needed ≡ true → held ≡ true → old ≡ true)
    → (needed ≡ false → later ≡ ahead) → i + one later ≤ j
own-step n m i j true true ahead old later ei ej le eo f g k =
    rw (f refl, ei, ej)
    (subst (λ b. n + one b ≤ m → n + 1 + 0 ≤ m + 0) (sym (g refl refl)) (λ l. omega (arith, l)) le)
own-step n m i j true false ahead old later ei ej le eo f g k =
    rw (f refl, ei, ej) (omega (arith, le))
own-step n m i j false true ahead old later ei ej le eo f g k =
    let same : later ≡ old = k refl ∙ sym eo in rw (same, ei, ej) (omega (arith, le))
own-step n m i j false false ahead old later ei ej le eo f g k =
    elim (cases_Bool later) [
      | inl e ↦ rw (e, ei, ej) (omega (arith, le))
      | inr e ↦ rw (e, ei, ej) (omega (arith, le))
    ]

enough-own : (line_of : ℕ → ℕ) (t : List Touch) (a : Touch) → KeepsWords line_of
    → HasEnough line_of a.hart (line_of a.addr) t
    → HasEnough line_of a.hart (line_of a.addr) (t ++ a ∷ [])
enough-own line_of t a keeps ih =
    own-step _ _ _ _ (wants line_of t a.hart a.addr) (holders line_of t a.hart (line_of a.addr))
    (list_any (is_foreign line_of a.hart (line_of a.addr))
    (drop (right_after (copies line_of t a.hart (line_of a.addr))) t))
    (is_ahead line_of a.hart (line_of a.addr) t)
    (is_ahead line_of a.hart (line_of a.addr) (t ++ a ∷ []))
    (needed-own line_of t a) (missed-own line_of t a) ih refl (ahead-loaded line_of t a)
    (ahead-needed line_of t a keeps) (ahead-unneeded line_of t a)

-- another's access adds nothing, and takes the line where it writes
enough-other : (line_of : ℕ → ℕ) (h r : ℕ) (t : List Touch) (a : Touch)
    → is_by_in line_of h r a ≡ false → HasEnough line_of h r t
    → HasEnough line_of h r (t ++ a ∷ [])
enough-other line_of h r t a other ih =
    let still : copies line_of (t ++ a ∷ []) h r ≡ copies line_of t h r =
    rw (copies-push line_of t a h r, other) refl in
    rw (
      count_places-push (of_hart h (is_needed line_of r)) t a,
      count_places-push (of_hart h (is_miss line_of r)) t a,
      holders-push line_of t a h r,
      still,
      any-kept (is_foreign line_of h r) (right_after (copies line_of t h r)) t a
          (copies-within line_of t h r),
    )
    (elim (cases_Bool (eqb (line_of a.addr) r)) [
      | inr i ↦ rw (
        i,
        and-false (eqb h a.hart),
        and-false (is_write a.kind && not (eqb h a.hart)),
        or-false,
      ) (omega (arith, ih))
      | inl i ↦
          let stranger : eqb h a.hart ≡ false = rw (i, and-true) at other in
          elim (cases_Bool (is_write a.kind)) [
            | inl w ↦ rw (i, stranger, w) (omega (arith, ih))
            | inr w ↦ rw (i, stranger, w, or-false) (omega (arith, ih))
          ]
    ])

enough : (line_of : ℕ → ℕ) (h r : ℕ) (t : List Touch) → KeepsWords line_of
    → HasEnough line_of h r t
enough line_of h r t keeps =
    by_push (HasEnough line_of h r)
    (omega (
      arith,
      count_places-empty (of_hart h (is_needed line_of r)),
      count_places-empty (of_hart h (is_miss line_of r)),
    ))
    (λ t a ih. elim (cases_Bool (is_by_in line_of h r a)) [
      | inr other ↦ enough-other line_of h r t a other ih
      | inl mine ↦
          let parts = and_parts _ _ mine in
          let mine_now : HasEnough line_of a.hart r t =
          subst (λ g. HasEnough line_of g r t) (eqb-true _ _ parts.0) ih in
          let here : HasEnough line_of a.hart (line_of a.addr) t =
          subst (λ q. HasEnough line_of a.hart q t) (sym (eqb-true _ _ parts.1)) mine_now in
          subst (λ g. HasEnough line_of g r (t ++ a ∷ [])) (sym (eqb-true _ _ parts.0))
          (subst (λ q. HasEnough line_of a.hart q (t ++ a ∷ [])) (eqb-true _ _ parts.1)
          (enough-own line_of t a keeps here))
    ])
    t

-- needed loads are at most misses
pub needed-missed : (line_of : ℕ → ℕ) (r : ℕ) (t : List Touch) → KeepsWords line_of
    → count_places (is_needed line_of r) t ≤ count_places (is_miss line_of r) t
needed-missed line_of r t keeps =
    count_places-by_hart (is_needed line_of r) (is_miss line_of r) t
    (λ h. let le = enough line_of h r t keeps in omega (arith, le))
