-- Another hart holds a line exactly where the latest access by another hart is there, and its hart
-- holds the line.
use Rattle.std.proofs.Common.{◌≡◌, ℕ, Bool, true, false, eqb, not, ◌&&◌, ◌||◌, List, [], ◌∷◌, ◌++◌}
use Rattle.std.proofs.Common.{Option, Some, None, refl, sym, ap, ◌∙◌, inl, inr, map}
use Rattle.std.proofs.lemmas.Bool.{and_parts, cases_Bool, eq-eqb, eqb-true, false≢true}
use Rattle.std.proofs.lemmas.List.Folds.{list_any-append}
use Rattle.std.proofs.Math.Bool.{and-false, or-false, or-true}
use Rattle.std.specs.List.{list_any}
use Rattle.std.specs.Option.{option_map_or}
use Rattle.std.specs.Prelude.{if◌then◌else◌}
use Rattle.base.specs.Lines.{line_number}
use Rattle.base.specs.Touch.{Touch, is_write}
use Rattle.sharing_rules.specs.Holders.{holders, is_held_by_another}
use Rattle.sharing_rules.specs.Lines.{Line}
use Rattle.sharing_rules.specs.Laws.Counts.{holders-push}
use Rattle.sharing_rules.specs.Laws.Held.{any_at, holds-touched, list_any-map_congr}
use Rattle.sharing_rules.specs.Laws.Holders.{holders-holds}
use Rattle.sharing_rules.specs.Laws.Lists.{by_push, slice_cases}
use Rattle.invalidations.specs.declared.sited.Sited.{Sited}
use Rattle.invalidations.specs.LineInvalidations.{holds_line}
use Rattle.invalidations.specs.Latest.{accesses_of, latest}
use Rattle.invalidations.specs.Laws.Latest.{accesses_of-push, latest-empty, latest-passes}
use Rattle.invalidations.specs.Laws.Latest.{latest-push}
use Rattle.invalidations.specs.Invalidations.{is_in, is_in_by_another}

any_same : (p q : Touch → Bool) → ((b : Touch) → p b ≡ q b) → (t : List Touch)
    → list_any p t ≡ list_any q t
any_same p q same [] = refl
any_same p q same (b ∷ t) = rw (same b, any_same p q same t) refl

any_and : (c : Bool) (p : Touch → Bool) (t : List Touch)
    → list_any (λ b. c && p b) t ≡ (c && list_any p t)
any_and true p t = refl
any_and false p [] = refl
any_and false p (b ∷ t) = any_and false p t

-- whether a hart other than h holds it: the test of is_held_by_another
abbrev other_holds : (ℕ → ℕ) → List Touch → ℕ → ℕ → Touch → Bool
other_holds line_of t h r b = not (eqb b.hart h) && holders line_of t b.hart r

-- who holds a line is among those that the list names
held-named : (line_of : ℕ → ℕ) (t : List Touch) (g h r : ℕ)
    → (not (eqb g h) && holders line_of t g r) ≡ true → is_held_by_another line_of t h r ≡ true
held-named line_of t g h r e =
    let parts = and_parts (not (eqb g h)) (holders line_of t g r) e in
    let named = holds-touched (λ a. eqb (line_of a) r) t g
    (sym (holders-holds line_of r t g) ∙ parts.1) in
    list_any-map_congr (other_holds line_of t h r) (λ k. not (eqb k h) && holders line_of t k r)
    (λ b. refl) t
    ∙ any_at (λ k. not (eqb k h) && holders line_of t k r) (map (λ b. b.hart) t) g named e

other_own : (w : Bool) (g h k : ℕ) (held : Bool) → eqb k h ≡ true
    → (not (eqb g h) && (eqb g k || (w && held))) ≡ (w && (not (eqb g h) && held))
other_own w g h k held own =
    let same : k ≡ h = eqb-true k h own in
    rw same (elim (cases_Bool (eqb g h)) [
      | inl e ↦ rw (e, and-false w) refl
      | inr e ↦ rw e refl
    ])

pub another-push : (line_of : ℕ → ℕ) (t : List Touch) (a : Touch) (h r : ℕ)
    → is_held_by_another line_of (t ++ a ∷ []) h r
    ≡ if eqb (line_of a.addr) r
    then (not (eqb a.hart h) || (not (is_write a.kind) && is_held_by_another line_of t h r))
    else is_held_by_another line_of t h r
another-push line_of t a h r =
    let now = other_holds line_of (t ++ a ∷ []) h r in
    let own_now = holders-push line_of t a a.hart r in
    list_any-append now t (a ∷ [])
    ∙ ap (λ x. list_any now t || x) (or-false (now a))
    ∙ elim (cases_Bool (eqb (line_of a.addr) r)) [
      | inl i ↦ elim (cases_Bool (eqb a.hart h)) [
        | inr other ↦
            let here : holders line_of (t ++ a ∷ []) a.hart r ≡ true =
            own_now ∙ rw (i, eq-eqb a.hart a.hart refl) refl in
            rw (i, other, here, or-true (list_any now t)) refl
        | inl own ↦
            rw (i, own, or-false (list_any now t))
            (any_same now
            (λ b. not (is_write a.kind) && other_holds line_of t h r b)
            (λ b. ap (λ x. not (eqb b.hart h) && x)
            (holders-push line_of t a b.hart r ∙ rw i refl)
            ∙ other_own (not (is_write a.kind)) b.hart h a.hart (holders line_of t b.hart r) own) t
            ∙ any_and (not (is_write a.kind)) (other_holds line_of t h r) t)
      ]
      | inr i ↦
          let same : (g : ℕ) → holders line_of (t ++ a ∷ []) g r ≡ holders line_of t g r =
          λ g. holders-push line_of t a g r ∙ rw i refl in
          rw (i, same a.hart)
          (ap (λ x. x || other_holds line_of t h r a)
          (any_same now (other_holds line_of t h r)
          (λ b. ap (λ x. not (eqb b.hart h) && x) (same b.hart)) t)
          ∙ elim (cases_Bool (other_holds line_of t h r a)) [
            | inl e ↦ rw (e, or-true (is_held_by_another line_of t h r))
                (sym (held-named line_of t a.hart h r e))
            | inr e ↦ rw (e, or-false (is_held_by_another line_of t h r)) refl
          ])
    ]

abbrev pub held_by_another : Line → List Sited → ℕ → Bool
held_by_another l u h =
    is_held_by_another (line_number l.size l.offset) (accesses_of u) h l.number

pub held-push : (l : Line) (u : List Sited) (s : Sited) (h : ℕ)
    → held_by_another l (u ++ s ∷ []) h
    ≡ if is_in l s
    then (not (eqb s.access.hart h)
    || (not (is_write s.access.kind) && held_by_another l u h)) else held_by_another l u h
held-push l u s h =
    rw (accesses_of-push u s)
    (another-push (line_number l.size l.offset) (accesses_of u) s.access h l.number)

pub holds_line-push : (l : Line) (u : List Sited) (s : Sited) (h : ℕ)
    → holds_line l (u ++ s ∷ []) h
    ≡ if is_in l s
    then (eqb h s.access.hart || (not (is_write s.access.kind) && holds_line l u h))
    else holds_line l u h
holds_line-push l u s h =
    rw (accesses_of-push u s)
    (holders-push (line_number l.size l.offset) (accesses_of u) s.access h l.number)

-- whether a latest access, where there is one, is by a hart that holds the line
abbrev pub by_holder : Line → List Sited → Option Sited → Bool
by_holder l u o = option_map_or (λ v. holds_line l u v.access.hart) o false

by_holder-own : (l : Line) (u : List Sited) (s : Sited) (h : ℕ) → is_in l s ≡ true
    → eqb s.access.hart h ≡ true
    → by_holder l (u ++ s ∷ []) (latest (is_in_by_another l h) u)
    ≡ (not (is_write s.access.kind) && by_holder l u (latest (is_in_by_another l h) u))
by_holder-own l u s h i own =
    elim (slice_cases (latest (is_in_by_another l h) u)) [
      | inl none ↦ rw (none, and-false (not (is_write s.access.kind))) refl
      | inr some ↦
          let passes = and_parts (is_in l some.0) (not (eqb some.0.access.hart h))
          (latest-passes (is_in_by_another l h) u some.0 some.1) in
          let apart : eqb some.0.access.hart s.access.hart ≡ false =
          rw (eqb-true s.access.hart h own) (elim (cases_Bool (eqb some.0.access.hart h)) [
            | inl e ↦ absurd (false≢true (rw e at passes.1))
            | inr e ↦ e
          ]) in
          rw (some.1, holds_line-push l u s some.0.access.hart, i, apart) refl
    ]

pub by_holder-elsewhere : (l : Line) (u : List Sited) (s : Sited) (o : Option Sited)
    → is_in l s ≡ false → by_holder l (u ++ s ∷ []) o ≡ by_holder l u o
by_holder-elsewhere l u s None i = refl
by_holder-elsewhere l u s (Some v) i = rw (holds_line-push l u s v.access.hart, i) refl

pub held-victim : (l : Line) (u : List Sited) (h : ℕ)
    → held_by_another l u h ≡ by_holder l u (latest (is_in_by_another l h) u)
held-victim l u h =
    by_push (λ (u : List Sited).
    held_by_another l u h ≡ by_holder l u (latest (is_in_by_another l h) u))
    (rw (latest-empty (is_in_by_another l h)) refl)
    (λ u s ih.
    rw (held-push l u s h, latest-push (is_in_by_another l h) u s)
    (elim (cases_Bool (is_in l s)) [
      | inr out ↦ rw out (ih ∙ sym (by_holder-elsewhere l u s _ out))
      | inl i ↦ elim (cases_Bool (eqb s.access.hart h)) [
        | inl own ↦ rw (i, own)
            (ap (λ x. not (is_write s.access.kind) && x) ih ∙ sym (by_holder-own l u s h i own))
        | inr other ↦ rw (
          i,
          other,
          holds_line-push l u s s.access.hart,
          i,
          eq-eqb s.access.hart s.access.hart refl,
        ) refl
      ]
    ]))
    u
