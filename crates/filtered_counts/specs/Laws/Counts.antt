-- Counts that two lists have in common, one of which is the other without redundant accesses.
use Rattle.std.proofs.Common.{◌≡◌, ℕ, ◌<◌, Bool, true, false, eqb, leb, ltb, not, ◌&&◌, ◌||◌}
use Rattle.std.proofs.Common.{[], ◌∷◌, Option, Some, None, length}
use Rattle.std.proofs.Common.{refl, sym, ap, ◌∙◌, subst, arith, inl, inr}
use Rattle.std.proofs.lemmas.Bool.{cases_Bool, false≢true, and_right, eqb-true, lt-ltb, le-leb}
use Rattle.std.proofs.lemmas.Bool.Decides.{nat_tests}
use Rattle.std.proofs.lemmas.Option.{none-some, same_Some}
use Rattle.std.proofs.Math.Bool.{or-false}
use Rattle.std.proofs.lemmas.List.Folds.{list_any-append}
use Rattle.std.specs.Prelude.{if◌then◌else◌, is_some, option_map}
use Rattle.std.specs.Option.{option_or}
use Rattle.std.specs.List.{list_any}
use Rattle.base.specs.Touch.{Touch, is_write}
use Rattle.sharing_rules.specs.AccessLists.{AccessList, writes_to}
use Rattle.sharing_rules.specs.Holders.{count_since, holders, is_held_by_another, is_invalidation}
use Rattle.sharing_rules.specs.Observed.{first_write_from}
use Rattle.sharing_rules.specs.Places.{Question, count_places}
use Rattle.sharing_rules.specs.Laws.Counts.{count_since-push}
use Rattle.sharing_rules.specs.Laws.Lists.{by_push, slice_cases}
use Rattle.sharing_rules.specs.Laws.Places.{count_places-empty, count_places-none, count_places-push}
use Rattle.sharing_rules.specs.Laws.Places.{first_place-empty, first_place-within}
use Rattle.sharing_rules.specs.Laws.Starts.{first_write_from-push}
use Rattle.misses.specs.Misses.{is_cold, is_in, is_miss, is_needed, wants}
use Rattle.misses.specs.WordLines.{KeepsWords}
use Rattle.sharing_rules.specs.Filtered.{IsWithoutRedundant}
use Rattle.filtered_counts.specs.Laws.Alike.{IsAlike, alike, alike-another, settled-another, walk-alike}
use Rattle.filtered_counts.specs.Laws.Settled.{IsSettled, LiesNear}

-- a question that is answered alike after two lists that are alike
abbrev pub AnswersAlike : (ℕ → ℕ) → Question → Type 0
AnswersAlike line_of asked = (t v : AccessList) (a : Touch) → IsAlike line_of t v
    → asked v a ≡ asked t a

-- and with no by each redundant access
abbrev pub IsSilent : (ℕ → ℕ) → Question → Type 0
IsSilent line_of asked = (t : AccessList) (a : Touch)
    → IsSettled line_of (is_write a.kind) a.hart a.addr t → asked t a ≡ false

-- the count of the accesses that pass such a question stays
pub same-count : (k : ℕ) (line_of : ℕ → ℕ) (asked : Question) → KeepsWords line_of
    → LiesNear k line_of → AnswersAlike line_of asked → IsSilent line_of asked
    → (t v : AccessList) → IsWithoutRedundant k t v → count_places asked v ≡ count_places asked t
same-count k line_of asked keeps near alike silent =
    walk-alike k line_of (λ t v. count_places asked v ≡ count_places asked t) keeps near refl
    (λ t v a s ih. rw (count_places-push asked t a, count_places-push asked v a, alike t v a s, ih)
    refl)
    (λ t v a s settled ih. ih ∙ sym (count_places-push asked t a
    ∙ rw (silent t a settled) (omega arith)))

-- ---- misses

pub miss-alike : (line_of : ℕ → ℕ) (r : ℕ) → AnswersAlike line_of (is_miss line_of r)
miss-alike line_of r t v a s = rw (s.held a.hart r) refl

pub cold-alike : (line_of : ℕ → ℕ) (r : ℕ) → AnswersAlike line_of (is_cold line_of r)
cold-alike line_of r t v a s = rw (s.held a.hart r, s.come a.hart r) refl

pub needed-alike : (line_of : ℕ → ℕ) (r : ℕ) → AnswersAlike line_of (is_needed line_of r)
needed-alike line_of r t v a s = rw (s.wanted a.hart a.addr) refl

pub miss-silent : (line_of : ℕ → ℕ) (r : ℕ) → IsSilent line_of (is_miss line_of r)
miss-silent line_of r t a s =
    elim (cases_Bool (eqb (line_of a.addr) r)) [
      | inl here ↦
          let holds : holders line_of t a.hart r ≡ true =
          ap (λ q. holders line_of t a.hart q) (sym (eqb-true _ _ here)) ∙ s.holds in
          and_right (is_in line_of r a) (not (holders line_of t a.hart r)) (ap not holds)
      | inr there ↦ rw there refl
    ]

pub cold-silent : (line_of : ℕ → ℕ) (r : ℕ) → IsSilent line_of (is_cold line_of r)
cold-silent line_of r t a s = rw (miss-silent line_of r t a s) refl

pub needed-silent : (line_of : ℕ → ℕ) (r : ℕ) → IsSilent line_of (is_needed line_of r)
needed-silent line_of r t a s =
    and_right (is_in line_of r a) (wants line_of t a.hart a.addr) s.complete

-- ---- invalidations

pub invalidation-alike : (line_of : ℕ → ℕ) (r : ℕ) → AnswersAlike line_of (is_invalidation line_of r)
invalidation-alike line_of r t v a s = rw (alike-another line_of t v a.hart r s) refl

pub invalidation-silent : (line_of : ℕ → ℕ) (r : ℕ) → IsSilent line_of (is_invalidation line_of r)
invalidation-silent line_of r t a s =
    elim (cases_Bool (is_write a.kind)) [
      | inl w ↦ elim (cases_Bool (eqb (line_of a.addr) r)) [
        | inl here ↦
            let mine : IsSettled line_of true a.hart a.addr t =
            subst (λ b. IsSettled line_of b a.hart a.addr t) w s in
            let none : is_held_by_another line_of t a.hart r ≡ false =
            ap (λ q. is_held_by_another line_of t a.hart q) (sym (eqb-true _ _ here))
            ∙ settled-another line_of t a.hart a.addr mine in
            and_right (is_write a.kind && eqb (line_of a.addr) r)
            (is_held_by_another line_of t a.hart r) none
        | inr there ↦ rw (w, there) refl
      ]
      | inr w ↦ rw w refl
    ]

-- from the start 0 each invalidation counts, since the first access is none
pub all-count : (line_of : ℕ → ℕ) (r : ℕ) (before : AccessList) (a : Touch)
    → (ltb 0 (length before) && is_invalidation line_of r before a)
    ≡ is_invalidation line_of r before a
all-count line_of r [] a = sym (and_right (is_write a.kind && eqb (line_of a.addr) r) false refl)
all-count line_of r (b ∷ bs) a =
    let some : ltb 0 (length (b ∷ bs)) ≡ true = lt-ltb 0 (length (b ∷ bs)) (omega arith) in
    rw some refl

pub same-invalidations : (k : ℕ) (line_of : ℕ → ℕ) (r : ℕ) → KeepsWords line_of
    → LiesNear k line_of → (t v : AccessList) → IsWithoutRedundant k t v
    → count_since line_of r 0 v ≡ count_since line_of r 0 t
same-invalidations k line_of r keeps near =
    same-count k line_of (λ before a. ltb 0 (length before) && is_invalidation line_of r before a)
    keeps near
    (λ t v a s. all-count line_of r v a ∙ invalidation-alike line_of r t v a s
    ∙ sym (all-count line_of r t a))
    (λ t a s. all-count line_of r t a ∙ invalidation-silent line_of r t a s)

-- ---- behind the first write

-- a write of the line
abbrev pub writes_line : (ℕ → ℕ) → ℕ → Touch → Bool
writes_line line_of r = writes_to (λ b. eqb (line_of b) r)

-- an invalidation of a line that was written before
abbrev pub invalidates_written : (ℕ → ℕ) → ℕ → Question
invalidates_written line_of r before a = list_any (writes_line line_of r) before
    && is_invalidation line_of r before a

pub written-alike : (line_of : ℕ → ℕ) (r : ℕ)
    → AnswersAlike line_of (invalidates_written line_of r)
written-alike line_of r t v a s =
    rw (s.written r, invalidation-alike line_of r t v a s) refl

pub written-silent : (line_of : ℕ → ℕ) (r : ℕ) → IsSilent line_of (invalidates_written line_of r)
written-silent line_of r t a s = and_right (list_any (writes_line line_of r) t)
    (is_invalidation line_of r t a) (invalidation-silent line_of r t a s)

first-part : (x y : Bool) → (x || y) ≡ false → x ≡ false
first-part true y e = absurd (false≢true (sym e))
first-part false y e = refl

first-here : (b : Bool) (n s : ℕ) → option_or None (if b then Some n else None) ≡ Some s → n ≡ s
first-here true n s e = same_Some n s e
first-here false n s e = absurd (none-some s e)

some-first : {X : Type 0} (o : Option X) (b : Bool) (x : X)
    → is_some (option_or o (if b then Some x else None)) ≡ (is_some o || b)
some-first None true x = refl
some-first None false x = refl
some-first (Some y) b x = refl

-- there is a first write where there is one
first-is_some : (line_of : ℕ → ℕ) (r : ℕ) (t : AccessList)
    → is_some (first_write_from 0 (λ b. eqb (line_of b) r) t)
    ≡ list_any (writes_line line_of r) t
first-is_some line_of r t =
    by_push (λ (t : AccessList). is_some (first_write_from 0 (λ b. eqb (line_of b) r) t)
    ≡ list_any (writes_line line_of r) t)
    (ap is_some (first_place-empty
    (λ before a. leb 0 (length before) && writes_line line_of r a)))
    (λ t a ih.
    rw (
      first_write_from-push 0 (λ b. eqb (line_of b) r) t a,
      some-first (first_write_from 0 (λ b. eqb (line_of b) r) t)
          (leb 0 (length t) && writes_line line_of r a) (length t),
      list_any-append (writes_line line_of r) t (a ∷ []),
      ih,
      le-leb 0 (length t) (omega arith),
      or-false (writes_line line_of r a),
    ) refl)
    t

none-unwritten : (line_of : ℕ → ℕ) (r : ℕ) (t : AccessList)
    → list_any (writes_line line_of r) t ≡ false
    → count_places (invalidates_written line_of r) t ≡ 0
none-unwritten line_of r t =
    by_push (λ (t : AccessList). list_any (writes_line line_of r) t ≡ false
    → count_places (invalidates_written line_of r) t ≡ 0)
    (λ e. count_places-empty (invalidates_written line_of r))
    (λ t a ih e.
    let before : list_any (writes_line line_of r) t ≡ false =
    first-part (list_any (writes_line line_of r) t) (list_any (writes_line line_of r) (a ∷ []))
    (sym (list_any-append (writes_line line_of r) t (a ∷ [])) ∙ e) in
    count_places-push (invalidates_written line_of r) t a ∙ rw (before, ih before) refl)
    t

-- what is counted from the first write on are the invalidations of the line once written
pub first-count : (line_of : ℕ → ℕ) (r : ℕ) (t : AccessList) (s : ℕ)
    → first_write_from 0 (λ b. eqb (line_of b) r) t ≡ Some s
    → count_since line_of r s t ≡ count_places (invalidates_written line_of r) t
first-count line_of r t s =
    by_push (λ (t : AccessList). first_write_from 0 (λ b. eqb (line_of b) r) t ≡ Some s
    → count_since line_of r s t ≡ count_places (invalidates_written line_of r) t)
    (λ e. absurd (none-some s (sym (first_place-empty
    (λ before a. leb 0 (length before) && writes_line line_of r a)) ∙ e)))
    (λ t a ih e.
    let inside : ℕ → Bool = λ b. eqb (line_of b) r in
    let there = first-is_some line_of r t in
    let pushed = sym (first_write_from-push 0 inside t a) ∙ e in
    elim (slice_cases (first_write_from 0 inside t)) [
      | inl none ↦
          let blank : list_any (writes_line line_of r) t ≡ false = sym there ∙ ap is_some none in
          let here : length t ≡ s =
          first-here (leb 0 (length t) && writes_line line_of r a) (length t) s
          (sym (ap (λ o. option_or o
          (if leb 0 (length t) && writes_line line_of r a then Some (length t) else None)) none)
          ∙ pushed) in
          let not_yet : ltb s (length t) ≡ false = grind (arith, nat_tests, here) in
          let nothing : count_since line_of r s t ≡ 0 =
          count_places-none
          (λ before b. ltb s (length before) && is_invalidation line_of r before b) t
          (λ before b short.
          let early : ltb s (length before) ≡ false = grind (arith, nat_tests, here, short) in
          rw early refl) in
          rw (
            count_since-push line_of r s t a,
            count_places-push (invalidates_written line_of r) t a,
            not_yet,
            nothing,
            blank,
            none-unwritten line_of r t blank,
          ) refl
      | inr some ↦
          let same : some.0 ≡ s =
          same_Some some.0 s (sym (ap (λ o. option_or o
          (if leb 0 (length t) && writes_line line_of r a then Some (length t) else None)) some.1)
          ∙ pushed) in
          let first : first_write_from 0 inside t ≡ Some s = some.1 ∙ ap Some same in
          let below : s < length t = first_place-within
          (λ before b. leb 0 (length before) && writes_line line_of r b) t s first in
          let written : list_any (writes_line line_of r) t ≡ true = sym there ∙ ap is_some first in
          rw (
            count_since-push line_of r s t a,
            count_places-push (invalidates_written line_of r) t a,
            lt-ltb s (length t) below,
            written,
            ih first,
          ) refl
    ])
    t

-- what is counted from the first write on, none where nothing writes the line
pub counted-first : (line_of : ℕ → ℕ) (r : ℕ) (t : AccessList)
    → option_map (λ s. count_since line_of r s t) (first_write_from 0 (λ b. eqb (line_of b) r) t)
    ≡ if list_any (writes_line line_of r) t
    then Some (count_places (invalidates_written line_of r) t) else None
counted-first line_of r t =
    let there = first-is_some line_of r t in
    elim (slice_cases (first_write_from 0 (λ b. eqb (line_of b) r) t)) [
      | inl none ↦
          let blank : list_any (writes_line line_of r) t ≡ false = sym there ∙ ap is_some none in
          rw (none, blank) refl
      | inr some ↦
          let written : list_any (writes_line line_of r) t ≡ true = sym there ∙ ap is_some some.1 in
          rw (some.1, written, first-count line_of r t some.0 some.1) refl
    ]

pub same-first : (k : ℕ) (line_of : ℕ → ℕ) (r : ℕ) → KeepsWords line_of
    → LiesNear k line_of → (t v : AccessList) → IsWithoutRedundant k t v
    → option_map (λ s. count_since line_of r s v) (first_write_from 0 (λ b. eqb (line_of b) r) v)
    ≡ option_map (λ s. count_since line_of r s t) (first_write_from 0 (λ b. eqb (line_of b) r) t)
same-first k line_of r keeps near t v w =
    let count = same-count k line_of (invalidates_written line_of r) keeps near
    (written-alike line_of r) (written-silent line_of r) t v w in
    let written : list_any (writes_line line_of r) v ≡ list_any (writes_line line_of r) t =
    (alike k line_of keeps near t v w).written r in
    counted-first line_of r v ∙ rw (count, written) refl ∙ sym (counted-first line_of r t)
