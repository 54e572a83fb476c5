-- Units of which an earlier one can leave no room for a later one.
use Rattle.std.proofs.Common.{◌≡◌, ℕ, ◌<◌, inl, inr, Bool, false, List, [], ◌∷◌, ◌++◌, length}
use Rattle.std.proofs.Common.{get_or, All, sym, subst, ◌∙◌, append_assoc, true≢false, arith}
use Rattle.std.specs.List.{AllPairs, list_any}
use Rattle.std.proofs.lemmas.Bool.{cases_Bool}
use Rattle.std.proofs.lemmas.List.{length-append}
use Rattle.std.proofs.lemmas.List.Elements.{All-append, All-cons, All-from_get_or, All-head, All-nil}
use Rattle.std.proofs.lemmas.List.Elements.{All-tail}
use Rattle.std.proofs.lemmas.List.Folds.{list_any_at, list_any_none}
use Rattle.std.proofs.lemmas.List.Quantifiers.{all_pairs_push}
use Rattle.std.proofs.Math.ListN.{get_or-append}
use Rattle.std.proofs.Math.Seq.{get_or-append_seam}
use Rattle.saved_state.specs.Reading.{AllInTurn}

abbrev pub IsByte : ℕ → Type 0
IsByte b = b < 256

-- what none passes, each fails
pub none_passes : {X : Type 0} (p : X → Bool) (xs : List X) → list_any p xs ≡ false → (k : ℕ)
    (d : X) → k < length xs → p (get_or xs k d) ≡ false
none_passes p xs none k d within =
    elim (cases_Bool (p (get_or xs k d))) [
      | inl passes ↦ absurd (true≢false (sym (list_any_at p xs k d within passes) ∙ none))
      | inr fails ↦ fails
    ]

module _ {X : Type 0} (IsGood : X → Type 0) (clash : X → X → Bool) where
  abbrev pub Roomy : List X → Type 0
  Roomy xs = AllPairs (λ a b. clash a b ≡ false) xs

  -- a unit that is good, and has room behind those before it
  abbrev pub MayFollow : List X → X → Type 0
  MayFollow before x = IsGood x × (list_any (λ a. clash a x) before ≡ false)

  -- good units, of which each has room
  abbrev pub AreGood : List X → Type 0
  AreGood xs = All IsGood xs × Roomy xs

  pub none_good : AreGood []
  none_good = (All-nil IsGood, λ i j d before within. absurd (omega arith))

  pub one_more_good : (before : List X) (x : X) → AreGood before → MayFollow before x
      → AreGood (before ++ x ∷ [])
  one_more_good before x good may = (
    All-append IsGood before (x ∷ []) good.0 (All-cons IsGood x [] may.0 (All-nil IsGood)),
    all_pairs_push (λ a b. clash a b ≡ false) before x good.1
        (λ i d within. none_passes (λ a. clash a x) before may.1 i d within),
  )

  room_there : (before more : List X) (x : X) → Roomy (before ++ x ∷ more)
      → list_any (λ a. clash a x) before ≡ false
  room_there before more x roomy =
      list_any_none (λ a. clash a x) before (All-from_get_or
      (λ a. clash a x ≡ false) before x (λ i within.
      (let fits : length before < length (before ++ x ∷ more) =
      omega (arith, length-append before (x ∷ more)) in
      let here = roomy i (length before) x within fits in
      rw (get_or-append before (x ∷ more) x i within, get_or-append_seam before x more x) at here)))

  pub in_turn : (more before : List X) → All IsGood more → Roomy (before ++ more)
      → AllInTurn MayFollow before more
  in_turn [] before good roomy = tt
  in_turn (x ∷ more) before good roomy = (
    (All-head IsGood x more good, room_there before more x roomy),
    in_turn more (before ++ x ∷ []) (All-tail IsGood x more good)
        (subst Roomy (sym (append_assoc before (x ∷ []) more)) roomy),
  )
