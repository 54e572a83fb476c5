-- The owners of the words, after one access more.
use Rattle.std.proofs.Common.{◌≡◌, ℕ, ◌+◌, ◌-◌, ◌/◌, ◌%◌, ◌<◌, ◌≤◌, max, Bool}
use Rattle.std.proofs.Common.{true, eqb, leb, List, [], ◌∷◌, ◌++◌, Option, Some, None, length}
use Rattle.std.proofs.Common.{refl, sym, ap, ◌∙◌, arith, inl, inr}
use Rattle.std.proofs.lemmas.Bool.{and_parts, cases_Bool, cases_eq, cases_lt, eq-eqb}
use Rattle.std.proofs.lemmas.Bool.{leb-true, ltb-true, le-leb, lt-ltb, ne_eqb}
use Rattle.std.proofs.lemmas.List.{append-nil, length-map, length-set}
use Rattle.std.proofs.lemmas.List.Elements.{filter-append}
use Rattle.std.proofs.lemmas.Option.{none-some, same_Some, slice_get_past}
use Rattle.std.specs.Prelude.{filter, if◌then◌else◌, slice_get, slice_set}
use Rattle.base.specs.Touch.{Touch, word_of}
use Rattle.sharing_rules.specs.Laws.Lists.{get-set_other, get-set_same, length-below, same_by_get}
use Rattle.sharing_rules.specs.Laws.Lists.{slice_get-map-below}
use Rattle.sharing_rules.specs.Laws.Words.{tally-push}
use Rattle.sharing_rules.specs.Places.{below}
use Rattle.sharing_rules.specs.Words.{note_owner}
use Rattle.sharing_rules.specs.declared.word.Owner.{Owner}
use Rattle.sharing_rules.specs.declared.word.Word.{Word}
use Rattle.placement.specs.Words.{Owned, end_of, first_word, index_of, is_word_of, owner_in}
use Rattle.placement.specs.Words.{owners_of, past_word, word_count}
use Rattle.placement.specs.declared.extent.Extent.{Extent}

pub owner-push : (t : List Touch) (a : Touch) (w : ℕ) → owner_in (t ++ a ∷ []) w
    ≡ if eqb (a.addr / 4) w then note_owner (owner_in t w) a.hart else owner_in t w
owner-push t a w =
    let p : Touch → Bool = λ b. eqb (b.addr / 4) w in
    rw (filter-append (λ (b : Touch). eqb (b.addr / 4) w) t (a ∷ []))
    (elim (cases_Bool (eqb (a.addr / 4) w)) [
      | inl e ↦ rw e (ap (λ (x : Word). x.owner) (tally-push (filter p t) a))
      | inr e ↦ rw (e, append-nil (filter (λ (b : Touch). eqb (b.addr / 4) w) t)) refl
    ])

pub length-owners : (e : Extent) (t : List Touch) → length (owners_of e t) ≡ word_count e
length-owners e t =
    length-map (below (word_count e)) (λ i. owner_in t (first_word e + i))
    ∙ length-below (word_count e)

pub owners-at : (e : Extent) (t : List Touch) (i : ℕ) → i < word_count e
    → slice_get (owners_of e t) i ≡ Some (owner_in t (first_word e + i))
owners-at e t i less = slice_get-map-below (λ i. owner_in t (first_word e + i)) (word_count e) i less

-- an access of word i of the object
pub owners-push : (e : Extent) (t : List Touch) (a : Touch) (i : ℕ) → i < word_count e
    → a.addr / 4 ≡ first_word e + i
    → slice_set (owners_of e t) i (note_owner (owner_in t (first_word e + i)) a.hart)
    ≡ owners_of e (t ++ a ∷ [])
owners-push e t a i less at =
    let o : Owner = note_owner (owner_in t (first_word e + i)) a.hart in
    let long = length-owners e t in
    let longer = length-owners e (t ++ a ∷ []) in
    same_by_get _ _ (λ j. elim (cases_lt j (word_count e)) [
      | inl within ↦ elim (cases_eq j i) [
        | inl same ↦
            let hit : owner_in (t ++ a ∷ []) (first_word e + i) ≡ o =
            rw (owner-push t a (first_word e + i), eq-eqb (a.addr / 4) (first_word e + i) at) refl in
            ap (slice_get (slice_set (owners_of e t) i o)) same
            ∙ get-set_same (owners_of e t) i o (omega (arith, long, less))
            ∙ ap Some (sym hit) ∙ sym (owners-at e (t ++ a ∷ []) i less)
            ∙ ap (slice_get (owners_of e (t ++ a ∷ []))) (sym same)
        | inr other ↦
            let miss : owner_in (t ++ a ∷ []) (first_word e + j) ≡ owner_in t (first_word e + j) =
            rw (
              owner-push t a (first_word e + j),
              ne_eqb (a.addr / 4) (first_word e + j) (λ is. other (omega (arith, is, at))),
            ) refl in
            get-set_other (owners_of e t) i j o other
            ∙ owners-at e t j within ∙ ap Some (sym miss)
            ∙ sym (owners-at e (t ++ a ∷ []) j within)
      ]
      | inr past ↦
          slice_get_past (slice_set (owners_of e t) i o) j
          (omega (arith, length-set (owners_of e t) i o, long, past))
          ∙ sym (slice_get_past (owners_of e (t ++ a ∷ [])) j (omega (arith, longer, past)))
    ])

-- an access elsewhere
pub owners-stay : (e : Extent) (t : List Touch) (a : Touch)
    → ((i : ℕ) → i < word_count e → a.addr / 4 ≡ first_word e + i → ⊥)
    → owners_of e t ≡ owners_of e (t ++ a ∷ [])
owners-stay e t a away =
    same_by_get _ _ (λ j. elim (cases_lt j (word_count e)) [
      | inl within ↦
          let miss : owner_in (t ++ a ∷ []) (first_word e + j) ≡ owner_in t (first_word e + j) =
          rw (
            owner-push t a (first_word e + j),
            ne_eqb (a.addr / 4) (first_word e + j) (away j within),
          ) refl in
          owners-at e t j within ∙ ap Some (sym miss) ∙ sym (owners-at e (t ++ a ∷ []) j within)
      | inr past ↦
          slice_get_past (owners_of e t) j (omega (arith, length-owners e t, past))
          ∙ sym (slice_get_past (owners_of e (t ++ a ∷ [])) j
          (omega (arith, length-owners e (t ++ a ∷ []), past)))
    ])

pub end-push : (t : List Touch) (a : Touch)
    → end_of (t ++ a ∷ []) ≡ max (end_of t) (word_of a.addr + 4)
end-push [] a = omega arith
end-push (b ∷ t) a = let rest = end-push t a in omega (arith, rest)

-- The words are found by their addresses.
pub record IsWord (e : Extent) (addr i : ℕ) : Type 0 where
  pub within : i < word_count e
  pub at : addr / 4 ≡ first_word e + i

pub word-found : (e : Extent) (addr i : ℕ) → Some i ≡ index_of e (word_of addr) → IsWord e addr i
word-found e addr i found =
    elim (cases_Bool (is_word_of e (word_of addr))) [
      | inl is ↦
          let parts = and_parts (eqb (word_of addr % 4) 0) _ is in
          let bounds = and_parts (leb (first_word e) (word_of addr / 4)) _ parts.1 in
          let low : first_word e ≤ word_of addr / 4 = leb-true _ _ bounds.0 in
          let high : word_of addr / 4 < past_word e = ltb-true _ _ bounds.1 in
          let same : i ≡ word_of addr / 4 - first_word e = same_Some _ _ (rw is at found) in
          let whole : word_of addr / 4 ≡ addr / 4 = omega arith in
          record {
            within = omega (arith, low, high, same);
            at = omega (arith, low, same, whole);
          }
      | inr none ↦ absurd (none-some i (sym (rw none at found)))
    ]

pub word-missed : (e : Extent) (addr word : ℕ) (found : Option ℕ) → word ≡ word_of addr
    → found ≡ index_of e word → found ≡ None
    → (i : ℕ) → i < word_count e → addr / 4 ≡ first_word e + i → ⊥
word-missed e addr word found begins same none i within at =
    let whole : word / 4 ≡ addr / 4 = omega (arith, begins) in
    let even : word % 4 ≡ 0 = omega (arith, begins) in
    let is : is_word_of e word ≡ true =
    rw (
      eq-eqb (word % 4) 0 even,
      le-leb (first_word e) (word / 4) (omega (arith, at, whole)),
      lt-ltb (word / 4) (past_word e) (omega (arith, at, within, whole)),
    ) refl in
    let some : index_of e word ≡ Some (word / 4 - first_word e) = rw is refl in
    none-some _ (sym none ∙ same ∙ some)

-- an object's owners, part by part
pub same-owned : (o p : Owned) → o.extent ≡ p.extent → o.owners ≡ p.owners → o.end ≡ p.end → o ≡ p
same-owned o p extent owners end =
    ap (λ (e : Extent). record { extent = e; owners = o.owners; end = o.end }) extent
    ∙ ap (λ (os : List Owner). record { extent = p.extent; owners = os; end = o.end }) owners
    ∙ ap (λ (n : ℕ). record { extent = p.extent; owners = p.owners; end = n }) end
