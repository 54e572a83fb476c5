-- Two accesses are enough: the latest access of a line, and the latest one by another hart than
-- that, determine every victim and whether the line is held.
use Rattle.std.proofs.Common.{◌≡◌, ℕ, Bool, true, false, eqb, not, ◌&&◌, List, [], ◌∷◌, ◌++◌}
use Rattle.std.proofs.Common.{Some, None, length, refl, sym, ap, ◌∙◌, inl, inr}
use Rattle.std.proofs.lemmas.Bool.{cases_Bool, eq-eqb, eqb-true}
use Rattle.std.proofs.lemmas.Option.{none-some, same_Some}
use Rattle.std.proofs.Math.Bool.{and-false}
use Rattle.std.specs.Prelude.{if◌then◌else◌, nat_lt, option_map}
use Rattle.base.specs.Touch.{is_write}
use Rattle.sharing_rules.specs.Lines.{Line}
use Rattle.sharing_rules.specs.Laws.Lists.{by_push, slice_cases}
use Rattle.invalidations.specs.declared.latest.LatestTwo.{LatestTwo}
use Rattle.invalidations.specs.declared.sited.Sited.{Sited}
use Rattle.invalidations.specs.LineInvalidations.{holds_line, is_held_by, latest_other, note_two}
use Rattle.invalidations.specs.LineInvalidations.{invalidation_by, two_of}
use Rattle.invalidations.specs.LineInvalidations.{victim_by}
use Rattle.invalidations.specs.Latest.{latest}
use Rattle.invalidations.specs.Laws.Another.{by_holder, by_holder-elsewhere, held-push, held-victim}
use Rattle.invalidations.specs.Laws.Another.{held_by_another, holds_line-push}
use Rattle.invalidations.specs.Laws.Latest.{latest-empty, latest-push}
use Rattle.invalidations.specs.Invalidations.{is_in, is_in_by_another, invalidation_of}

none-there : (l : Line) (h : ℕ) (u : List Sited) → latest (is_in l) u ≡ None
    → latest (is_in_by_another l h) u ≡ None
none-there l h u =
    by_push (λ (u : List Sited). latest (is_in l) u ≡ None
    → latest (is_in_by_another l h) u ≡ None)
    (λ e. latest-empty (is_in_by_another l h))
    (λ u s ih e.
    elim (cases_Bool (is_in l s)) [
      | inl i ↦
          let k : Some s ≡ None = rw (latest-push (is_in l) u s, i) at e in
          absurd (none-some s (sym k))
      | inr i ↦
          let k : latest (is_in l) u ≡ None = rw (latest-push (is_in l) u s, i) at e in
          rw (latest-push (is_in_by_another l h) u s, i) (ih k)
    ])
    u

-- where it is by another hart, it is the latest one by another
other-there : (l : Line) (h : ℕ) (u : List Sited) (a : Sited) → latest (is_in l) u ≡ Some a
    → eqb a.access.hart h ≡ false → latest (is_in_by_another l h) u ≡ Some a
other-there l h u a =
    by_push (λ (u : List Sited). latest (is_in l) u ≡ Some a → eqb a.access.hart h ≡ false
    → latest (is_in_by_another l h) u ≡ Some a)
    (λ e other. absurd (none-some a (rw (latest-empty (is_in l)) at e)))
    (λ u s ih e other.
    elim (cases_Bool (is_in l s)) [
      | inl i ↦
          let k : Some s ≡ Some a = rw (latest-push (is_in l) u s, i) at e in
          let same = same_Some s a k in
          let apart : eqb s.access.hart h ≡ false = rw same other in
          rw (latest-push (is_in_by_another l h) u s, i, apart) k
      | inr i ↦
          let k : latest (is_in l) u ≡ Some a = rw (latest-push (is_in l) u s, i) at e in
          rw (latest-push (is_in_by_another l h) u s, i) (ih k other)
    ])
    u

-- the hart of the latest access holds the line
latest-holds : (l : Line) (u : List Sited) (a : Sited) → latest (is_in l) u ≡ Some a
    → holds_line l u a.access.hart ≡ true
latest-holds l u a =
    by_push (λ (u : List Sited). latest (is_in l) u ≡ Some a
    → holds_line l u a.access.hart ≡ true)
    (λ e. absurd (none-some a (rw (latest-empty (is_in l)) at e)))
    (λ u s ih e.
    elim (cases_Bool (is_in l s)) [
      | inl i ↦
          let k : Some s ≡ Some a = rw (latest-push (is_in l) u s, i) at e in
          let same = same_Some s a k in
          rw (
            holds_line-push l u s a.access.hart,
            i,
            same,
            eq-eqb a.access.hart a.access.hart refl,
          ) refl
      | inr i ↦
          let k : latest (is_in l) u ≡ Some a = rw (latest-push (is_in l) u s, i) at e in
          rw (holds_line-push l u s a.access.hart, i) (ih k)
    ])
    u

pub victim-two : (l : Line) (u : List Sited) (h : ℕ)
    → latest (is_in_by_another l h) u ≡ victim_by (two_of l u) h
victim-two l u h =
    elim (slice_cases (latest (is_in l) u)) [
      | inl none ↦ rw none (none-there l h u none)
      | inr some ↦ elim (cases_Bool (eqb some.0.access.hart h)) [
        | inl own ↦ rw (some.1, own)
            (ap (λ g. latest (is_in_by_another l g) u) (sym (eqb-true some.0.access.hart h own)))
        | inr other ↦ rw (some.1, other) (other-there l h u some.0 some.1 other)
      ]
    ]

pub held-two : (l : Line) (u : List Sited) (h : ℕ)
    → held_by_another l u h ≡ is_held_by (two_of l u) h
held-two l u h =
    held-victim l u h
    ∙ elim (slice_cases (latest (is_in l) u)) [
      | inl none ↦ rw (none, none-there l h u none) refl
      | inr some ↦ elim (cases_Bool (eqb some.0.access.hart h)) [
        | inl own ↦ rw (some.1, own)
            (ap (λ g. by_holder l u (latest (is_in_by_another l g) u))
            (sym (eqb-true some.0.access.hart h own)))
        | inr other ↦ rw (some.1, other, other-there l h u some.0 some.1 other)
            (latest-holds l u some.0 some.1)
      ]
    ]

pub same_two : (x y : LatestTwo) → x.latest ≡ y.latest → x.other ≡ y.other → x.held ≡ y.held → x ≡ y
same_two x y e f g =
    ap (λ k. record { latest = k; other = x.other; held = x.held }) e
    ∙ ap (λ k. record { latest = y.latest; other = k; held = x.held }) f
    ∙ ap (λ k. record { latest = y.latest; other = y.other; held = k }) g

-- one access more, in the line and elsewhere
pub two_of-push : (l : Line) (u : List Sited) (s : Sited) → is_in l s ≡ true
    → two_of l (u ++ s ∷ []) ≡ note_two (two_of l u) s
two_of-push l u s i =
    let h = s.access.hart in
    let own : is_in_by_another l h s ≡ false = rw (i, eq-eqb h h refl) refl in
    let same : latest (is_in_by_another l h) (u ++ s ∷ []) ≡ latest (is_in_by_another l h) u =
    latest-push (is_in_by_another l h) u s ∙ rw own refl in
    let newest : latest (is_in l) (u ++ s ∷ []) ≡ Some s =
    latest-push (is_in l) u s ∙ rw i refl in
    same_two _ _
    newest
    (rw newest (same ∙ victim-two l u h))
    (rw newest
    (sym (held-victim l (u ++ s ∷ []) h) ∙ held-push l u s h
    ∙ rw (i, eq-eqb h h refl) (ap (λ x. not (is_write s.access.kind) && x) (held-two l u h))))

other-elsewhere : (l : Line) (u : List Sited) (s : Sited) → is_in l s ≡ false
    → latest_other l (u ++ s ∷ []) ≡ latest_other l u
other-elsewhere l u s i =
    let same : latest (is_in l) (u ++ s ∷ []) ≡ latest (is_in l) u =
    latest-push (is_in l) u s ∙ rw i refl in
    rw same
    (elim (slice_cases (latest (is_in l) u)) [
      | inl none ↦ rw none refl
      | inr some ↦ rw some.1
          (latest-push (is_in_by_another l some.0.access.hart) u s ∙ rw i refl)
    ])

pub two_of-elsewhere : (l : Line) (u : List Sited) (s : Sited) → is_in l s ≡ false
    → two_of l (u ++ s ∷ []) ≡ two_of l u
two_of-elsewhere l u s i =
    same_two _ _
    (latest-push (is_in l) u s ∙ rw i refl)
    (other-elsewhere l u s i)
    (rw (other-elsewhere l u s i) (by_holder-elsewhere l u s (latest_other l u) i))

same_test : (above writes held : Bool)
    → (above && (writes && true && held)) ≡ (above && writes && held)
same_test true true held = refl
same_test true false held = refl
same_test false writes held = refl

-- so the two determine what an access takes
pub invalidation-two : (l : Line) (start : ℕ) (u : List Sited) (s : Sited) → is_in l s ≡ true
    → invalidation_of l start u s ≡ invalidation_by (two_of l u) start (length u) s
invalidation-two l start u s i =
    rw (i, held-two l u s.access.hart, victim-two l u s.access.hart)
    (ap (λ b. if b then option_map (λ v. record { victim = v; taker = s })
    (victim_by (two_of l u) s.access.hart) else None)
    (same_test (nat_lt start (length u)) (is_write s.access.kind)
    (is_held_by (two_of l u) s.access.hart)))

pub invalidation-elsewhere : (l : Line) (start : ℕ) (u : List Sited) (s : Sited) → is_in l s ≡ false
    → invalidation_of l start u s ≡ None
invalidation-elsewhere l start u s i =
    rw (i, and-false (is_write s.access.kind), and-false (nat_lt start (length u))) refl
