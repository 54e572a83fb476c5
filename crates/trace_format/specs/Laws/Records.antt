-- What is known of a record that is judged good, whatever its bytes: where it may come, and that it
-- may be written again.
use Rattle.std.proofs.Common.{◌≡◌, ◌≢◌, ◌⊎◌, inl, inr, ℕ, ◌+◌, ◌%◌, ◌≤◌, ◌<◌, Bool, true, false}
use Rattle.std.proofs.Common.{cond, ◌&&◌, ◌||◌, eqb, eqb-true, ltb, List, [], ◌∷◌, get_or, drop}
use Rattle.std.proofs.Common.{All, Option, Some, None, Result, Ok, Err, refl, subst, arith}
use Rattle.std.proofs.lemmas.Bool.Decides.{nat_tests}
use Rattle.std.proofs.lemmas.List.Elements.{All-nil, All-cons}
use Rattle.std.proofs.lemmas.Option.{none-some, same_Some}
use Rattle.std.specs.Int.{w16, w32, w64}
use Rattle.std.specs.List.{list_any}
use Rattle.base.specs.Names.{longest_name}
use Rattle.objects.specs.declared.symbol.SymbolKind.{SymbolKind}
use Rattle.base.specs.Touch.{Touch}
use Rattle.base.specs.declared.ending.Cause.{Cause}
use Rattle.base.specs.declared.ending.Outcome.{Outcome}
use Rattle.base.specs.declared.ending.Outcome.TheVariants.{Exit, Budget, Deadlock, Trap}
use Rattle.base.specs.declared.ending.Outcome.TheVariants.{Part}
use Rattle.trace_format.specs.declared.fault.TraceFault.{TraceFault}
use Rattle.trace_format.specs.declared.record.TraceRecord.{TraceRecord}
use Rattle.trace_format.specs.declared.record.TraceRecord.TheVariants as records
use Rattle.trace_format.specs.declared.tag.Tag.{Tag}
use Rattle.trace_format.specs.declared.tag.Tag.TheVariants as tags
use Rattle.trace_format.specs.declared.read_so_far.ReadSoFar.{ReadSoFar}
use Rattle.trace_format.specs.Tags.{tag_of}
use Rattle.trace_format.specs.Rules.{IsAllowedEnd, IsWritable, last_position}
use Rattle.trace_format.specs.Judging.{alloc_at, cause_of, end_counted, end_with, is_whole}
use Rattle.base.specs.Fields.{number_at}
use Rattle.trace_format.specs.Judging.{outcome_judged, plain_judged, plain_outcome_of, plain_with}
use Rattle.trace_format.specs.Judging.{record_judged, short_touch_judged, sited_touch_judged}
use Rattle.trace_format.specs.Judging.{symbol_judged, symbol_kind_of}
use Rattle.trace_format.specs.Judging.{symbol_with, tagged_if, tagged_judged, touch_counted}
use Rattle.trace_format.specs.Judging.{touch_judged, trap_for, trap_judged, whole_at, without_pc}
use Rattle.trace_format.specs.Laws.Again.{ComesAt}

-- It may come where it does, and it may be written.
pub record IsItem (p : ReadSoFar) (item : TraceRecord) : Type 0 where
  pub there : ComesAt p item
  pub writable : IsWritable item

-- ---- tests that a good record passes

pub same_Ok : {A : Type 0} (x y : A) → (let r : Result A TraceFault = Ok x in r ≡ Ok y) → x ≡ y
same_Ok x y e = cc

pub not_refused : {A : Type 0} (b : Bool) (fault : TraceFault) (y : Result A TraceFault) (z : A)
    → cond b (Err fault) y ≡ Ok z
    → (b ≡ false) × (y ≡ Ok z)
not_refused true fault y z e = absurd cc
not_refused false fault y z e = (refl, e)

pub granted : {A : Type 0} (b : Bool) (fault : TraceFault) (y : Result A TraceFault) (z : A)
    → cond b y (Err fault) ≡ Ok z
    → (b ≡ true) × (y ≡ Ok z)
granted true fault y z e = (refl, e)
granted false fault y z e = absurd cc

-- which way a test went
pub chosen : {A : Type 0} (b : Bool) (x y z : A) → cond b x y ≡ z
    → ((b ≡ true) × (x ≡ z)) ⊎ ((b ≡ false) × (y ≡ z))
chosen true x y z e = inl (refl, e)
chosen false x y z e = inr (refl, e)

-- ---- accesses

touch_item : (p : ReadSoFar) (j : Result (Touch × Option ℕ) TraceFault) (item : TraceRecord)
    → touch_counted p j ≡ Ok item → IsItem p item
touch_item p (Err fault) item e = absurd cc
touch_item p (Ok sited) item e =
    let g = granted (ltb (p.header.first + p.counted) last_position) _ _ item e in
    let low : ltb (p.header.first + p.counted) last_position ≡ true = g.0 in
    let there : p.header.first + p.counted < last_position = grind (arith, nat_tests) in
    subst (IsItem p) (same_Ok (records.Touch sited.0 sited.1) item g.1) (record { there = there; writable = tt })

-- ---- symbols

neither : (a b : Bool) → (a || b) ≡ false → (a ≡ false) × (b ≡ false)
neither true b e = absurd cc
neither false b e = (refl, e)

no_zero : (name : List ℕ) → list_any (eqb 0) name ≡ false → All (λ b. b ≢ 0) name
no_zero [] none = All-nil (λ b. b ≢ 0)
no_zero (b ∷ bs) none =
    let both = neither (eqb 0 b) (list_any (eqb 0) bs) none in
    let other : eqb 0 b ≡ false = both.0 in
    All-cons (λ b. b ≢ 0) b bs (λ zero. grind (arith, nat_tests)) (no_zero bs both.1)

symbol_item : (p : ReadSoFar) (place : ℕ) (bytes : List ℕ) (kind : Option SymbolKind)
    (item : TraceRecord)
    → symbol_with place bytes kind ≡ Ok item → IsItem p item
symbol_item p place bytes None item e = absurd cc
symbol_item p place bytes (Some kind) item e =
    let size = number_at w32 6 bytes in
    let name = drop 12 bytes in
    let first = not_refused (eqb size 0) _ _ item e in
    let second = not_refused (ltb longest_name (number_at w16 10 bytes)) _ _ item first.1 in
    let third = not_refused (list_any (eqb 0) name) _ _ item second.1 in
    let sized : eqb size 0 ≡ false = first.0 in
    let some : 1 ≤ size = grind (arith, nat_tests) in
    subst (IsItem p) (same_Ok (records.Symbol kind (number_at w32 2 bytes) size name) item third.1)
    (record { there = tt; writable = (some, no_zero name third.0) })

-- ---- the end

trap_allowed : (why : Option Cause) (harts place hart value steps : ℕ) (o : Outcome)
    → trap_for why harts place hart value ≡ Ok o
    → IsAllowedEnd steps o
trap_allowed None harts place hart value steps o e = absurd cc
trap_allowed (Some why) harts place hart value steps o e =
    let first = not_refused _ _ _ o e in
    let second = granted (eqb (value % 4) 0) _ _ o first.1 in
    subst (IsAllowedEnd steps) (same_Ok (Trap hart value why) o second.1)
    (eqb-true (value % 4) 0 second.0)

plain_says : (which value steps : ℕ) (o : Outcome) → (eqb which 4 && ltb 0 steps) ≡ false
    → plain_outcome_of which value ≡ Some o
    → IsAllowedEnd steps o
plain_says which value steps o no_steps e =
    let four : Option Outcome = cond (eqb which 4) (Some Part) None in
    let two : Option Outcome = cond (eqb which 2) (Some Deadlock) four in
    let one : Option Outcome = cond (eqb which 1) (Some Budget) two in
    elim (chosen (eqb which 0) (Some (Exit value)) one (Some o) e) [
      | inl h ↦ subst (IsAllowedEnd steps) (same_Some (Exit value) o h.1) tt
      | inr h0 ↦ elim (chosen (eqb which 1) (Some Budget) two (Some o) h0.1) [
        | inl h ↦ subst (IsAllowedEnd steps) (same_Some Budget o h.1) tt
        | inr h1 ↦ elim (chosen (eqb which 2) (Some Deadlock) four (Some o) h1.1) [
          | inl h ↦ subst (IsAllowedEnd steps) (same_Some Deadlock o h.1) tt
          | inr h2 ↦ elim (chosen (eqb which 4) (Some Part) None (Some o) h2.1) [
            | inl h ↦
                let at : which ≡ 4 = eqb-true which 4 h.0 in
                let none : steps ≡ 0 = grind (arith, nat_tests) in
                subst (IsAllowedEnd steps) (same_Some Part o h.1) none
            | inr h ↦ absurd (none-some o h.1)
          ]
        ]
      ]
    ]

plain_allowed : (plain : Option Outcome) (place which cause hart value steps : ℕ) (o : Outcome)
    → plain_outcome_of which value ≡ plain
    → plain_with plain place which cause hart value steps ≡ Ok o → IsAllowedEnd steps o
plain_allowed None place which cause hart value steps o known e = absurd cc
plain_allowed (Some x) place which cause hart value steps o known e =
    let first = not_refused (ltb 0 cause) _ _ o e in
    let second = not_refused (ltb 0 hart) _ _ o first.1 in
    let third = not_refused (ltb 0 which && ltb 0 value) _ _ o second.1 in
    let fourth = not_refused (eqb which 4 && ltb 0 steps) _ _ o third.1 in
    subst (IsAllowedEnd steps) (same_Ok x o fourth.1)
    (plain_says which value steps x fourth.0 known)

outcome_allowed : (harts place : ℕ) (bytes : List ℕ) (o : Outcome)
    → outcome_judged harts place bytes ≡ Ok o
    → IsAllowedEnd (number_at w64 9 bytes) o
unfolding outcome_judged trap_judged plain_judged
outcome_allowed harts place bytes o e =
    let which = get_or bytes 1 0 in
    let cause = get_or bytes 2 0 in
    let hart = number_at w16 3 bytes in
    let value = number_at w32 5 bytes in
    let steps = number_at w64 9 bytes in
    elim (chosen (eqb which 3) (trap_judged harts place cause hart value)
    (plain_judged place which cause hart value steps) (Ok o) e) [
      | inl h ↦ trap_allowed (cause_of cause) harts place hart value steps o h.1
      | inr h ↦ plain_allowed (plain_outcome_of which value) place which cause hart value steps o
          refl h.1
    ]

end_item : (p : ReadSoFar) (bytes : List ℕ) (j : Result Outcome TraceFault) (item : TraceRecord)
    → outcome_judged p.header.harts p.place bytes ≡ j → end_counted p bytes j ≡ Ok item
    → IsItem p item
end_item p bytes (Err fault) item known e = absurd cc
end_item p bytes (Ok o) item known e =
    let g = granted (eqb (number_at w64 17 bytes) p.counted) _ _ item e in
    let fits = granted (is_whole (number_at w64 17 bytes) (whole_at p.version bytes)) _ _ item g.1 in
    subst (IsItem p) (same_Ok (records.End (end_with p.version bytes o)) item fits.1)
    (record {
      there = eqb-true (number_at w64 17 bytes) p.counted g.0;
      writable =
          outcome_allowed p.header.harts p.place bytes o known;
    })

-- ---- one record

alloc_item : (p : ReadSoFar) (bytes : List ℕ) → IsItem p (alloc_at bytes)
unfolding alloc_at
alloc_item p bytes = record { there = tt; writable = tt }

tagged_item : (p : ReadSoFar) (tag : Tag) (bytes : List ℕ) (item : TraceRecord)
    → tagged_judged p tag bytes ≡ Ok item → IsItem p item
unfolding symbol_judged
tagged_item p (tags.Touch kind) bytes item e =
    touch_item p (without_pc (touch_judged kind p.header.harts p.place bytes)) item e
tagged_item p (tags.ShortTouch kind size) bytes item e =
    touch_item p
    (without_pc (short_touch_judged kind size p.header.harts p.before.last p.place bytes)) item e
tagged_item p (tags.SitedTouch kind size) bytes item e =
    touch_item p (sited_touch_judged kind size p.header.harts p.before p.place bytes) item e
tagged_item p tags.Alloc bytes item e = subst (IsItem p) (same_Ok (alloc_at bytes) item e)
    (alloc_item p bytes)
tagged_item p tags.Free bytes item e =
    subst (IsItem p) (same_Ok (records.Free (number_at w32 1 bytes)) item e)
    (record { there = tt; writable = tt })
tagged_item p tags.Symbol bytes item e = symbol_item p p.place bytes
    (symbol_kind_of (get_or bytes 1 0)) item e
tagged_item p tags.End bytes item e = end_item p bytes (outcome_judged p.header.harts p.place bytes)
    item refl e

item_if : (p : ReadSoFar) (tag : Option Tag) (bytes : List ℕ) (item : TraceRecord)
    → tagged_if p tag bytes ≡ Ok item → IsItem p item
item_if p None bytes item e = absurd cc
item_if p (Some tag) bytes item e = tagged_item p tag bytes item e

pub record_item : (p : ReadSoFar) (bytes : List ℕ) (item : TraceRecord)
    → record_judged p bytes ≡ Ok item → IsItem p item
unfolding record_judged
record_item p bytes item e = item_if p (tag_of p.version (get_or bytes 0 0)) bytes item e
