-- How often a line is taken, beside the counts from a later start.
use Rattle.std.proofs.Common.{◌≡◌, ℕ, ◌+◌, ◌<◌, ◌≤◌, Bool, true, false, ltb, List, [], ◌∷◌, ◌++◌}
use Rattle.std.proofs.Common.{length, refl, sym, ap, ◌∙◌, subst, arith, inl, inr, Option, Some}
use Rattle.std.proofs.Common.{None}
use Rattle.std.proofs.lemmas.Bool.{cases_Bool, le-leb, lt-ltb}
use Rattle.std.proofs.lemmas.Bool.Decides.{nat_tests}
use Rattle.std.proofs.lemmas.List.{length-append}
use Rattle.std.proofs.lemmas.Option.{none-some, same_Some}
use Rattle.std.proofs.Math.Bool.{and-false}
use Rattle.std.specs.Option.{option_or}
use Rattle.std.specs.Prelude.{if◌then◌else◌, is_some}
use Rattle.base.specs.Levels.{Levels}
use Rattle.base.specs.Lines.{Grid, line_number}
use Rattle.base.specs.Touch.{Touch}
use Rattle.sharing_rules.specs.AccessLists.{writes_to}
use Rattle.sharing_rules.specs.Holders.{count_since, is_invalidation, line_count_since}
use Rattle.sharing_rules.specs.Laws.Counts.{count_since-push}
use Rattle.sharing_rules.specs.Laws.Lists.{by_push, slice_cases}
use Rattle.sharing_rules.specs.Laws.Places.{first_place-empty, first_place-within}
use Rattle.sharing_rules.specs.Laws.Recounts.{count_since-end}
use Rattle.sharing_rules.specs.Laws.Starts.{first_write_from-push}
use Rattle.sharing_rules.specs.Lines.{Line, is_inside}
use Rattle.sharing_rules.specs.Listed.{Finding, listed}
use Rattle.sharing_rules.specs.Members.{Member}
use Rattle.sharing_rules.specs.Observed.{first_write_from}
use Rattle.sharing_rules.specs.Places.{count_places}
use Rattle.invalidations.specs.declared.sited.Sited.{Sited}
use Rattle.invalidations.specs.Latest.{accesses_of}
use Rattle.invalidations.specs.Laws.Latest.{accesses_of-push, length-accesses_of}
use Rattle.invalidations.specs.Laws.Listed.{listed-counted}
use Rattle.invalidations.specs.Laws.Invalidations.{at-last, at-left, count-push, some-invalidation}
use Rattle.invalidations.specs.Invalidations.{invalidation_at, invalidation_count, invalidation_of}

-- a later start counts no more
later-start : (line_of : ℕ → ℕ) (r s : ℕ) (t : List Touch)
    → count_since line_of r s t ≤ count_since line_of r 0 t
unfolding count_places
later-start line_of r s t =
    by_push (λ (t : List Touch). count_since line_of r s t ≤ count_since line_of r 0 t)
    (omega arith)
    (λ t a ih.
    let one = count_since-push line_of r s t a in
    let other = count_since-push line_of r 0 t a in
    elim (cases_Bool (is_invalidation line_of r t a)) [
      | inl taken ↦ elim (cases_Bool (ltb s (length t))) [
        | inl above ↦
            let start : ltb 0 (length t) ≡ true = grind (arith, nat_tests) in
            let m = rw (taken, above) at one in
            let n = rw (taken, start) at other in
            omega (arith, ih, m, n)
        | inr below ↦ let m = rw (taken, below) at one in omega (arith, ih, m, other)
      ]
      | inr none ↦
          let m = rw (none, and-false (ltb s (length t))) at one in
          omega (arith, ih, m, other)
    ])
    t

pub listed-least : (g : Grid) (v : Levels) (u : List Sited) (f : Finding)
    → Member f (listed g v (accesses_of u)) → f.count ≤ invalidation_count f.line 0 u
listed-least g v u f m =
    let counted = listed-counted g v (accesses_of u) f m in
    let le = later-start (line_number f.line.size f.line.offset) f.line.number f.start
    (accesses_of u) in
    omega (arith, counted, le)

-- ---- the first write

abbrev first_write : Line → List Sited → Option ℕ
first_write l u = first_write_from 0 (is_inside l) (accesses_of u)

-- whether the access at a place is an invalidation
abbrev pub takes_at : Line → List Sited → ℕ → Bool
takes_at l u i = is_some (invalidation_at l 0 u i)

abbrev pub FirstWriteCounts : Line → List Sited → Type 0
FirstWriteCounts l u =
    ((s : ℕ) → first_write l u ≡ Some s
    → invalidation_count l 0 u
    ≡ line_count_since l s (accesses_of u) + (if takes_at l u s then 1 else 0))
    × (first_write l u ≡ None → invalidation_count l 0 u ≡ 0)

pushed-count : (l : Line) (u : List Sited) (s : Sited)
    → invalidation_count l 0 (u ++ s ∷ []) ≡ invalidation_count l 0 u
    + (if is_some (invalidation_of l 0 u s) then 1 else 0)
pushed-count l u s =
    count-push l 0 u s
    ∙ elim (cases_Bool (is_some (invalidation_of l 0 u s))) [
      | inl e ↦ rw e refl
      | inr e ↦ rw e (omega arith)
    ]

pushed-write : (l : Line) (u : List Sited) (s : Sited)
    → first_write l (u ++ s ∷ []) ≡ option_or (first_write l u)
    (if writes_to (is_inside l) s.access then Some (length u) else None)
pushed-write l u s =
    ap (first_write_from 0 (is_inside l)) (accesses_of-push u s)
    ∙ first_write_from-push 0 (is_inside l) (accesses_of u) s.access
    ∙ rw (length-accesses_of u, le-leb 0 (length u) (omega arith)) refl

-- an access after the first write
later-access : (l : Line) (u : List Sited) (s : Sited) (p : ℕ) → p < length u
    → invalidation_count l 0 u ≡ line_count_since l p (accesses_of u) + (if takes_at l u p then 1 else 0)
    → invalidation_count l 0 (u ++ s ∷ []) ≡ line_count_since l p (accesses_of (u ++ s ∷ []))
    + (if takes_at l (u ++ s ∷ []) p then 1 else 0)
later-access l u s p lt ih =
    let line_of = line_number l.size l.offset in
    let len = length-accesses_of u in
    let zero_below : ltb 0 (length (accesses_of u)) ≡ true =
    lt-ltb 0 (length (accesses_of u)) (omega (arith, lt, len)) in
    let first_below : ltb p (length (accesses_of u)) ≡ true =
    lt-ltb p (length (accesses_of u)) (omega (arith, lt, len)) in
    let all = count_since-push line_of l.number 0 (accesses_of u) s.access in
    let late = count_since-push line_of l.number p (accesses_of u) s.access in
    let all_now = rw zero_below at all in
    let late_now = rw first_below at late in
    rw (accesses_of-push u s, at-left l 0 u s p lt) (omega (arith, ih, all_now, late_now))

-- the first write itself
this-access : (l : Line) (u : List Sited) (s : Sited) → invalidation_count l 0 u ≡ 0
    → invalidation_count l 0 (u ++ s ∷ [])
    ≡ line_count_since l (length u) (accesses_of (u ++ s ∷ []))
    + (if takes_at l (u ++ s ∷ []) (length u) then 1 else 0)
this-access l u s none =
    let len = length-accesses_of (u ++ s ∷ []) in
    let longer = length-append u (s ∷ []) in
    let end = count_since-end (line_number l.size l.offset) l.number (length u)
    (accesses_of (u ++ s ∷ [])) (omega (arith, len, longer)) in
    let more = pushed-count l u s in
    rw (at-last l 0 u s) (omega (arith, none, more, end))

-- an access that isn't a write of the line takes nothing
no-write : (l : Line) (u : List Sited) (s : Sited) → writes_to (is_inside l) s.access ≡ false
    → invalidation_count l 0 u ≡ 0 → invalidation_count l 0 (u ++ s ∷ []) ≡ 0
no-write l u s none before =
    let quiet : is_some (invalidation_of l 0 u s) ≡ false =
    some-invalidation l 0 u s ∙ rw (none, and-false (ltb 0 (length u))) refl in
    let more = pushed-count l u s in
    let same = rw quiet at more in
    omega (arith, before, same)

counts-empty : (l : Line) → FirstWriteCounts l []
unfolding count_places
counts-empty l =
    (λ s e. absurd (none-some s (sym (first_place-empty _) ∙ e)), λ e. refl)

pub first_write-counts : (l : Line) (u : List Sited) → FirstWriteCounts l u
first_write-counts l u =
    by_push (FirstWriteCounts l)
    (counts-empty l)
    (λ u s ih. elim (slice_cases (first_write l u)) [
      | inl none ↦ elim (cases_Bool (writes_to (is_inside l) s.access)) [
        | inl w ↦
            let now : first_write l (u ++ s ∷ []) ≡ Some (length u) =
            pushed-write l u s ∙ rw (none, w) refl in (
              λ p e. subst (λ q. invalidation_count l 0 (u ++ s ∷ [])
                  ≡ line_count_since l q (accesses_of (u ++ s ∷ []))
                  + (if takes_at l (u ++ s ∷ []) q then 1 else 0))
                  (same_Some (length u) p (sym now ∙ e)) (this-access l u s (ih.1 none)),
              λ e. absurd (none-some (length u) (sym e ∙ now)),
            )
        | inr w ↦
            let now : first_write l (u ++ s ∷ []) ≡ None =
            pushed-write l u s ∙ rw (none, w) refl in (
              λ p e. absurd (none-some p (sym now ∙ e)),
              λ e. no-write l u s w (ih.1 none),
            )
      ]
      | inr some ↦
          let now : first_write l (u ++ s ∷ []) ≡ Some some.0 =
          pushed-write l u s ∙ rw some.1 refl in
          let within = first_place-within _ (accesses_of u) some.0 some.1 in
          let len = length-accesses_of u in (
            λ p e. subst (λ q. invalidation_count l 0 (u ++ s ∷ [])
                ≡ line_count_since l q (accesses_of (u ++ s ∷ []))
                + (if takes_at l (u ++ s ∷ []) q then 1 else 0))
                (same_Some some.0 p (sym now ∙ e))
                (later-access l u s some.0 (omega (arith, within, len)) (ih.0 some.0 some.1)),
            λ e. absurd (none-some some.0 (sym e ∙ now)),
          )
    ])
    u
