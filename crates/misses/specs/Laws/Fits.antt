-- Entries in a list of entries, and that counts stay within the position.
use Rattle.std.proofs.Common.{◌≡◌, ℕ, zero, suc, ◌+◌, ◌/◌, ◌^◌, ◌<◌, ◌≤◌, Bool}
use Rattle.std.proofs.Common.{true, false, eqb, List, [], ◌∷◌, length, refl, sym, ap}
use Rattle.std.proofs.Common.{◌∙◌, subst, arith, inl, inr, Some, get_or}
use Rattle.std.proofs.lemmas.Bool.{cases_Bool, false≢true}
use Rattle.std.proofs.lemmas.List.Quantifiers.{position-Some}
use Rattle.std.proofs.lemmas.Option.{none-some, same_Some}
use Rattle.std.proofs.Math.ListN.{length-set}
use Rattle.std.specs.List.{position}
use Rattle.std.specs.Map.{keys_of, lookup, values_of}
use Rattle.std.specs.Prelude.{slice_get, slice_set, nat_eq, is_some, if◌then◌else◌, IfOk, IfSome}
use Rattle.std.specs.Prelude.{OnOk, Ok, Err}
use Rattle.std.specs.Prelude.{Result}
use Rattle.indexmap.specs.IndexMap.{insert_entry, set_value_at}
use Rattle.base.specs.Touch.{Touch, is_write}
use Rattle.sharing_rules.specs.Laws.Lists.{slice_cases}
use Rattle.sharing_rules.specs.Lines.{Line, word_place}
use Rattle.misses.specs.Fits.{AreFit, IsFit, IsWithin}
use Rattle.misses.specs.MissCounts.{LineEntry, cost_of, counts_after, entry_of, note_in}
use Rattle.misses.specs.MissCounts.{note_line}
use Rattle.misses.specs.Laws.MissCounts.{length-blank_words}
use Rattle.misses.specs.declared.line_misses.Cost.{Cost}
use Rattle.misses.specs.declared.line_misses.Counts.{Counts}
use Rattle.misses.specs.declared.line_misses.LastWrite.{LastWrite}

-- an entry is put where its key stands first
insert_entry-first : (es : List (ℕ × LineEntry)) (r i : ℕ) (l : LineEntry)
    → i < length (keys_of es) → eqb r (get_or (keys_of es) i 0) ≡ true
    → ((k : ℕ) → k < i → eqb r (get_or (keys_of es) k 0) ≡ false)
    → insert_entry nat_eq es r l ≡ set_value_at es i l
insert_entry-first [] r i l within here none = absurd (omega (arith, within))
insert_entry-first (e ∷ es) r zero l within here none = rw here refl
insert_entry-first (e ∷ es) r (suc i) l within here none =
    let other : eqb r e.0 ≡ false = none 0 (omega arith) in
    rw other (ap (λ xs. e ∷ xs) (insert_entry-first es r i l (omega (arith, within)) here
    (λ k lt. none (suc k) (omega (arith, lt)))))

pub insert_entry-at : (es : List (ℕ × LineEntry)) (r i : ℕ) (l : LineEntry)
    → position (eqb r) (keys_of es) ≡ Some i → insert_entry nat_eq es r l ≡ set_value_at es i l
insert_entry-at es r i l e =
    let at = position-Some (eqb r) (keys_of es) i 0 e in insert_entry-first es r i l at.0 at.1 at.2

-- what a known line's entry becomes
known-noted : {E : Type 0} (result : Result Cost E) (es new : List (ℕ × LineEntry))
    (r i n p place : ℕ) (a : Touch)
    → ((l : LineEntry) → insert_entry nat_eq es r l ≡ set_value_at es i l)
    → slice_get (values_of es) i ≡ lookup (eqb r) es → true ≡ is_some (lookup (eqb r) es)
    → OnOk result (IfSome (slice_get (values_of es) i)
    (λ l. new ≡ set_value_at es i (note_line l p place a)))
    → OnOk result (new ≡ insert_entry nat_eq es r (note_line (entry_of es r n) p place a))
known-noted (Err e) es new r i n p place a at value found noted = tt
known-noted (Ok cost) es new r i n p place a at value found noted =
    elim (slice_cases (lookup (eqb r) es)) [
      | inl none ↦ let k : true ≡ false = rw none at found in absurd (false≢true (sym k))
      | inr some ↦
          let there : slice_get (values_of es) i ≡ Some some.0 = value ∙ some.1 in
          let set : new ≡ set_value_at es i (note_line some.0 p place a) = rw there at noted in
          rw some.1 (set ∙ sym (at (note_line some.0 p place a)))
    ]

pub known-noted-as : {E : Type 0} (result : Result Cost E) (es new : List (ℕ × LineEntry))
    (r q i n p place at : ℕ) (a : Touch) → q ≡ r → at ≡ place
    → ((l : LineEntry) → insert_entry nat_eq es q l ≡ set_value_at es i l)
    → slice_get (values_of es) i ≡ lookup (eqb q) es → true ≡ is_some (lookup (eqb q) es)
    → OnOk result (IfSome (slice_get (values_of es) i)
    (λ l. new ≡ set_value_at es i (note_line l p at a)))
    → OnOk result (new ≡ insert_entry nat_eq es r (note_line (entry_of es r n) p place a))
known-noted-as result es new r q i n p place at a same placed index value found noted =
    subst
    (λ z. OnOk result (new ≡ insert_entry nat_eq es z (note_line (entry_of es z n) p place a)))
    same
    (subst (λ z. OnOk result (new ≡ insert_entry nat_eq es q (note_line (entry_of es q n) p z a)))
    placed (known-noted result es new q i n p at a index value found noted))

-- and what it costs
known-stated : {E : Type 0} (result : Result Cost E) (es : List (ℕ × LineEntry)) (r i n place : ℕ)
    (a : Touch) → slice_get (values_of es) i ≡ lookup (eqb r) es
    → true ≡ is_some (lookup (eqb r) es)
    → IfOk result (λ cost. IfSome (slice_get (values_of es) i)
    (λ l. cost ≡ cost_of l place a.hart))
    → IfOk result (λ cost. cost ≡ cost_of (entry_of es r n) place a.hart)
known-stated (Err e) es r i n place a value found stated = tt
known-stated (Ok cost) es r i n place a value found stated =
    elim (slice_cases (lookup (eqb r) es)) [
      | inl none ↦ let k : true ≡ false = rw none at found in absurd (false≢true (sym k))
      | inr some ↦
          let there : slice_get (values_of es) i ≡ Some some.0 = value ∙ some.1 in
          let at : cost ≡ cost_of some.0 place a.hart = rw there at stated in
          rw some.1 at
    ]

pub known-stated-as : {E : Type 0} (result : Result Cost E) (es : List (ℕ × LineEntry))
    (r q i n place at : ℕ) (a : Touch) → q ≡ r → at ≡ place
    → slice_get (values_of es) i ≡ lookup (eqb q) es → true ≡ is_some (lookup (eqb q) es)
    → IfOk result (λ cost. IfSome (slice_get (values_of es) i) (λ l. cost ≡ cost_of l at a.hart))
    → IfOk result (λ cost. cost ≡ cost_of (entry_of es r n) place a.hart)
known-stated-as result es r q i n place at a same placed value found stated =
    subst (λ z. IfOk result (λ cost. cost ≡ cost_of (entry_of es z n) place a.hart)) same
    (subst (λ z. IfOk result (λ cost. cost ≡ cost_of (entry_of es q n) z a.hart)) placed
    (known-stated result es q i n at a value found stated))

-- the counts of an entry that is kept
pub fit-at : (n p : ℕ) (es : List (ℕ × LineEntry)) (i : ℕ) (l : LineEntry) → AreFit n p es
    → slice_get (values_of es) i ≡ Some l → IsFit (n / 4) p l
unfolding AreFit
fit-at n p [] i l fit at = absurd (none-some l at)
fit-at n p (e ∷ es) zero l fit at = subst (IsFit (n / 4) p) (same_Some e.1 l at) fit.0.1
fit-at n p (e ∷ es) (suc i) l fit at = fit-at n p es i l fit.1 at

pub known-fit : (n p : ℕ) (es : List (ℕ × LineEntry)) (i place : ℕ) → AreFit n p es
    → place < n / 4 → IfSome (slice_get (values_of es) i) (λ l. (place < length l.words)
    × (l.counts.cold ≤ p) × (l.counts.misses ≤ p) × (l.counts.needed ≤ p))
known-fit n p es i place fit within =
    elim (slice_cases (slice_get (values_of es) i)) [
      | inl none ↦ rw none tt
      | inr some ↦
          let f = fit-at n p es i some.0 fit some.1 in
          let len = f.words in
          rw some.1 (omega (arith, len, within), f.cold, f.misses, f.needed)
    ]

pub fit-none : (n p : ℕ) (es : List (ℕ × LineEntry)) → es ≡ [] → AreFit n p es
unfolding AreFit
fit-none n p es e = rw e tt

-- an access adds at most one
more : (b : Bool) (c p : ℕ) → c ≤ p → (if b then c + 1 else c) ≤ p + 1
more true c p le = omega (arith, le)
more false c p le = omega (arith, le)

length-if : (b : Bool) (l : LineEntry) (i : ℕ)
    (w : LastWrite)
    → length (if b then slice_set l.words i w else l.words) ≡ length l.words
length-if true l i w = length-set l.words i w
length-if false l i w = refl

note_line-fit : (n p place : ℕ) (a : Touch) (l : LineEntry) → IsFit n p l
    → IsFit n (p + 1) (note_line l p place a)
note_line-fit n p place a l f = record {
  words = length-if (is_write a.kind) l place _ ∙ f.words;
  cold = more _ l.counts.cold p f.cold;
  misses = more _ l.counts.misses p f.misses;
  needed = more _ l.counts.needed p f.needed;
}

later-fit : (n p : ℕ) (l : LineEntry) → IsFit n p l → IsFit n (p + 1) l
later-fit n p l f = record {
  words = f.words;
  cold = let le = f.cold in omega (arith, le);
  misses = let le = f.misses in omega (arith, le);
  needed = let le = f.needed in omega (arith, le);
}

later-all : (n p : ℕ) (es : List (ℕ × LineEntry)) → AreFit n p es → AreFit n (p + 1) es
unfolding AreFit
later-all n p [] all = tt
later-all n p (e ∷ es) all = ((all.0.0, later-fit (n / 4) p e.1 all.0.1), later-all n p es all.1)

insert_entry-fit : (n p : ℕ) (es : List (ℕ × LineEntry)) (r : ℕ) (l : LineEntry) → AreFit n p es
    → r ≤ 2 ^ 32 → IsFit (n / 4) (p + 1) l → AreFit n (p + 1) (insert_entry nat_eq es r l)
unfolding AreFit
insert_entry-fit n p [] r l all small f = ((small, f), tt)
insert_entry-fit n p (e ∷ es) r l all small f =
    elim (cases_Bool (eqb r e.0)) [
      | inl here ↦ rw here ((all.0.0, f), later-all n p es all.1)
      | inr other ↦ rw other (
        (all.0.0, later-fit (n / 4) p e.1 all.0.1),
        insert_entry-fit n p es r l all.1 small f,
      )
    ]

entry_of-fit : (n p : ℕ) (es : List (ℕ × LineEntry)) (r : ℕ) → AreFit n p es
    → IsFit (n / 4) p (entry_of es r (n / 4))
unfolding AreFit
entry_of-fit n p [] r all = record {
  words = length-blank_words (n / 4);
  cold = omega arith;
  misses = omega arith;
  needed = omega arith;
}
entry_of-fit n p (e ∷ es) r all =
    elim (cases_Bool (eqb r e.0)) [
      | inl here ↦ rw here all.0.1
      | inr other ↦ rw other (entry_of-fit n p es r all.1)
    ]

pub note_in-fit : (p : ℕ) (es : List (ℕ × LineEntry)) (l : Line) (a : Touch)
    → AreFit l.size p es → l.number ≤ 2 ^ 32 → AreFit l.size (p + 1) (note_in es l p a)
note_in-fit p es l a all small =
    insert_entry-fit l.size p es l.number _ all small
    (note_line-fit (l.size / 4) p (word_place l a.addr) a (entry_of es l.number (l.size / 4))
    (entry_of-fit l.size p es l.number all))

pub counts-within : (p : ℕ) (c : Counts) (cost : Cost) → IsWithin p c
    → IsWithin (p + 1) (counts_after c cost)
counts-within p c cost f = record {
  cold = more cost.cold c.cold p f.cold;
  misses = more cost.missed c.misses p f.misses;
  needed = more cost.needed c.needed p f.needed;
}

pub line_small : (n : ℕ) → n ≤ 2 ^ 30 → n ≤ 2 ^ 32
line_small n le = omega (arith, le)

pub number-small : (n p : ℕ) (es : List (ℕ × LineEntry)) (i k : ℕ) (l : LineEntry) → AreFit n p es
    → slice_get es i ≡ Some (k, l) → k ≤ 2 ^ 32
unfolding AreFit
number-small n p [] i k l fit at = absurd (none-some (k, l) at)
number-small n p (e ∷ es) zero k l fit at =
    subst (λ (x : ℕ × LineEntry). x.0 ≤ 2 ^ 32) (same_Some e (k, l) at) fit.0.0
number-small n p (e ∷ es) (suc i) k l fit at = number-small n p es i k l fit.1 at
