-- The doubled lines that an access opens.
use Rattle.std.proofs.Common.{◌≡◌, ℕ, ◌+◌, ◌-◌, ◌*◌, ◌%◌, ◌<◌, true, false}
use Rattle.std.proofs.Common.{eqb, ◌&&◌, ◌||◌, List, [], ◌∷◌, ◌++◌, Option, Some, None, length}
use Rattle.std.proofs.Common.{refl, sym, ap, ◌∙◌, subst, arith, inl, inr}
use Rattle.std.proofs.lemmas.Bool.{cases_Bool, eqb-true, eqb-false, eq-eqb, ne_eqb}
use Rattle.std.proofs.lemmas.Bool.{or_left, or_right, and_from, and_right, and_left}
use Rattle.std.proofs.lemmas.Option.{none-some, same_Some}
use Rattle.std.specs.Prelude.{◌⊎◌, if◌then◌else◌, is_some, option_map}
use Rattle.std.specs.Prelude.{option_to_list}
use Rattle.std.specs.List.{list_any}
use Rattle.std.specs.List.Sorted.{IsPermutation}
use Rattle.base.specs.Touch.{Touch}
use Rattle.base.specs.Lines.{line_number}
use Rattle.sharing_rules.specs.Lines.{native_grid}
use Rattle.sharing_rules.specs.Observed.{written_lines}
use Rattle.sharing_rules.specs.Predicted.{is_candidate, is_opening, best_between}
use Rattle.sharing_rules.specs.Predicted.{doubled_opening}
use Rattle.sharing_rules.specs.Predicted.{doubled_line}
use Rattle.sharing_rules.specs.Opened.{Opened, doubled_after}
use Rattle.sharing_rules.specs.Opened.{opened_doubled}
use Rattle.sharing_rules.specs.Opened.{doubled_ones}
use Rattle.sharing_rules.specs.Opened.{doubled_now, even_lower}
use Rattle.sharing_rules.specs.Laws.Arrivals.{each_once-distinct}
use Rattle.sharing_rules.specs.Laws.Grown.{fresh, fresh-none, fresh-some}
use Rattle.sharing_rules.specs.Laws.Grown.{filter_map-never, filter_map-single}
use Rattle.sharing_rules.specs.Laws.Lists.{slice_cases}
use Rattle.sharing_rules.specs.Laws.Openings.{doubled_opening-append}
use Rattle.sharing_rules.specs.Laws.Starts.{doubled_opening-push}
use Rattle.sharing_rules.specs.Laws.OpenedObserved.{doubled_opening-observed, fresh_written}
use Rattle.sharing_rules.specs.Laws.OpenedObserved.{grown_written, lower-written}
use Rattle.sharing_rules.specs.Laws.OpenedShifted.{no_candidate, other_line, quiet_opening}

-- A doubled line.
pub doubled-some : (n T P k : ℕ) (t : List Touch) (x : Opened) → opened_doubled n T P t k ≡ Some x
    → (o : ℕ) × (doubled_opening n T P k t ≡ Some o) × (x ≡ doubled_after (doubled_line n k) o)
doubled-some n T P k t x e =
    elim (slice_cases (doubled_opening n T P k t)) [
      | inl none ↦
          let z : opened_doubled n T P t k ≡ None =
          ap (option_map (doubled_after (doubled_line n k))) none in
          absurd (none-some x (sym z ∙ e))
      | inr some ↦ (
        some.0,
        some.1,
        same_Some x (doubled_after (doubled_line n k) some.0)
            (sym e ∙ ap (option_map (doubled_after (doubled_line n k))) some.1),
      )
    ]

pub opened_doubled-stays : (n T P : ℕ) (t s : List Touch) (k : ℕ) (x : Opened)
    → opened_doubled n T P t k ≡ Some x → opened_doubled n T P (t ++ s) k ≡ Some x
opened_doubled-stays n T P t s k x e =
    let w = doubled-some n T P k t x e in
    ap (option_map (doubled_after (doubled_line n k))) (doubled_opening-append n T P k t s w.0 w.1)
    ∙ ap Some (sym w.2)

pub opened_doubled-written : (n T P : ℕ) (t : List Touch) (k : ℕ) (x : Opened)
    → opened_doubled n T P t k ≡ Some x → list_any (eqb k) (written_lines (native_grid n) t) ≡ true
opened_doubled-written n T P t k x e =
    let w = doubled-some n T P k t x e in
    lower-written n T k t (doubled_opening-observed n T P k t (ap is_some w.1))

quiet_doubled : (n T P : ℕ) (t : List Touch) (a : Touch) (k : ℕ)
    → (eqb (k % 2) 1 && is_opening n T P (2 * n) k t a) ≡ false
    → fresh (opened_doubled n T P t) (opened_doubled n T P (t ++ a ∷ [])) k ≡ None
quiet_doubled n T P t a k quiet =
    elim (slice_cases (doubled_opening n T P k t)) [
      | inl none ↦
          let later : doubled_opening n T P k (t ++ a ∷ []) ≡ None =
          rw (doubled_opening-push n T P k t a, none, quiet) in
          fresh-none (opened_doubled n T P t) (opened_doubled n T P (t ++ a ∷ [])) k
          (ap (option_map (doubled_after (doubled_line n k))) none)
          ∙ ap (option_map (doubled_after (doubled_line n k))) later
      | inr some ↦ fresh-some (opened_doubled n T P t) (opened_doubled n T P (t ++ a ∷ [])) k
          (doubled_after (doubled_line n k) some.0)
          (ap (option_map (doubled_after (doubled_line n k))) some.1)
    ]

candidate_doubled : (n T P : ℕ) (t : List Touch) (a : Touch) (k : ℕ) → eqb (k % 2) 1 ≡ true
    → (is_candidate n P k t a || is_candidate n P (k + 1) t a) ≡ true
    → fresh (opened_doubled n T P t) (opened_doubled n T P (t ++ a ∷ [])) k ≡ doubled_now n T P t a
    k
candidate_doubled n T P t a k odd candidate =
    elim (slice_cases (doubled_opening n T P k t)) [
      | inl none ↦
          let first : doubled_now n T P t a k ≡ option_map
          (λ p. doubled_after (doubled_line n k) (length t))
          (best_between n T (2 * n) k (t ++ a ∷ [])) =
          ap (λ (z : Option ℕ). if is_some z then None
          else option_map (λ p. doubled_after (doubled_line n k) (length t))
          (best_between n T (2 * n) k (t ++ a ∷ []))) none in
          elim (slice_cases (best_between n T (2 * n) k (t ++ a ∷ []))) [
            | inl nothing ↦
                quiet_doubled n T P t a k (and_right _ _ (and_right _ _ (ap is_some nothing)))
                ∙ sym (first ∙ ap (option_map (λ p. doubled_after (doubled_line n k) (length t)))
                nothing)
            | inr pair ↦
                let opens : (eqb (k % 2) 1 && is_opening n T P (2 * n) k t a) ≡ true =
                and_from _ _ odd (and_from _ _ candidate (ap is_some pair.1)) in
                let there : doubled_opening n T P k (t ++ a ∷ []) ≡ Some (length t) =
                rw (doubled_opening-push n T P k t a, none, opens) in
                fresh-none (opened_doubled n T P t) (opened_doubled n T P (t ++ a ∷ [])) k
                (ap (option_map (doubled_after (doubled_line n k))) none)
                ∙ ap (option_map (doubled_after (doubled_line n k))) there
                ∙ sym (first ∙ ap (option_map (λ p. doubled_after (doubled_line n k) (length t)))
                pair.1)
          ]
      | inr some ↦
          fresh-some (opened_doubled n T P t) (opened_doubled n T P (t ++ a ∷ [])) k
          (doubled_after (doubled_line n k) some.0)
          (ap (option_map (doubled_after (doubled_line n k))) some.1)
          ∙ sym (ap (λ (z : Option ℕ). if is_some z then None
          else option_map (λ p. doubled_after (doubled_line n k) (length t))
          (best_between n T (2 * n) k (t ++ a ∷ []))) some.1)
    ]

-- the even pair of a line: its lower line is odd, and is the line or the one below it
pub record IsEvenLower (j e : ℕ) : Type 0 where
  pub odd : eqb (e % 2) 1 ≡ true
  pub near : (j ≡ e) ⊎ (j ≡ e + 1)

odd_below : (j : ℕ) → 0 < j → (j % 2 ≡ 1 → ⊥) → (j - 1) % 2 ≡ 1
odd_below j positive even = omega (arith, positive, even)

pub even_lower-is : (j : ℕ) → 0 < j → IsEvenLower j (even_lower j)
even_lower-is j positive =
    elim (cases_Bool (eqb (j % 2) 1)) [
      | inl odd ↦ rw odd (record { odd = odd; near = inl refl })
      | inr even ↦
          rw even (record {
            odd = eq-eqb _ _ (odd_below j positive (eqb-false _ _ even));
            near =
                inr (omega (arith, positive));
          })
    ]

-- an odd line other than it is neither the line nor the one below it
pub other_pair : (j e k : ℕ) → IsEvenLower j e → eqb e k ≡ false → eqb (k % 2) 1 ≡ true
    → (eqb j k ≡ false) × (eqb j (k + 1) ≡ false)
other_pair j e k w other odd =
    let o : e % 2 ≡ 1 = eqb-true _ _ w.odd in
    let q : k % 2 ≡ 1 = eqb-true _ _ odd in
    let d : e ≡ k → ⊥ = eqb-false e k other in
    elim w.near [
      | inl same ↦ (
        ne_eqb j k (λ z. d (omega (arith, same, z))),
        ne_eqb j (k + 1) (λ z. absurd (omega (arith, same, z, o, q))),
      )
      | inr above ↦ (
        ne_eqb j k (λ z. absurd (omega (arith, above, z, o, q))),
        ne_eqb j (k + 1) (λ z. d (omega (arith, above, z))),
      )
    ]

even_candidate : (n P j e : ℕ) (t : List Touch) (a : Touch) → IsEvenLower j e
    → is_candidate n P j t a ≡ true → (is_candidate n P e t a || is_candidate n P (e + 1) t a)
    ≡ true
even_candidate n P j e t a w yes_j =
    elim w.near [
      | inl same ↦ or_left _ _ (ap (λ z. is_candidate n P z t a) (sym same) ∙ yes_j)
      | inr above ↦ or_right _ _ (ap (λ z. is_candidate n P z t a) (sym above) ∙ yes_j)
    ]

pub doubled_ones-push : (n T P : ℕ) (t : List Touch) (a : Touch) → 0 < line_number n 0 a.addr
    → IsPermutation (doubled_ones n T P (t ++ a ∷ []))
    (doubled_ones n T P t ++ (if is_candidate n P (line_number n 0 a.addr) t a
    then option_to_list (doubled_now n T P t a (even_lower (line_number n 0 a.addr))) else []))
doubled_ones-push n T P t a positive =
    let j : ℕ = line_number n 0 a.addr in
    let e : ℕ = even_lower (line_number n 0 a.addr) in
    let even : IsEvenLower (line_number n 0 a.addr) (even_lower (line_number n 0 a.addr)) =
    even_lower-is (line_number n 0 a.addr) positive in
    let h = opened_doubled n T P t in
    let now = opened_doubled n T P (t ++ a ∷ []) in
    let ks = written_lines (native_grid n) (t ++ a ∷ []) in
    let grown = grown_written h now (native_grid n) t a
    (λ k x e. opened_doubled-stays n T P t (a ∷ []) k x e)
    (λ k x e. opened_doubled-written n T P t k x e) in
    let known = fresh_written h now ks (λ k x e. opened_doubled-written n T P (t ++ a ∷ []) k x e)
    in
    elim (cases_Bool (is_candidate n P (line_number n 0 a.addr) t a)) [
      | inl yes_j ↦
          let here : fresh h now (even_lower (line_number n 0 a.addr)) ≡ doubled_now n T P t a
          (even_lower (line_number n 0 a.addr)) =
          candidate_doubled n T P t a (even_lower (line_number n 0 a.addr)) even.odd
          (even_candidate n P (line_number n 0 a.addr) (even_lower (line_number n 0 a.addr)) t a
          even yes_j) in
          let one = filter_map-single (fresh h now) (even_lower (line_number n 0 a.addr)) ks
          (each_once-distinct _)
          (λ k other. elim (cases_Bool (eqb (k % 2) 1)) [
            | inl odd ↦
                let apart = other_pair (line_number n 0 a.addr)
                (even_lower (line_number n 0 a.addr)) k even other odd in
                quiet_doubled n T P t a k
                (and_right _ _ (quiet_opening n T P (2 * n) k t a (other_line n P k t a apart.0)
                (other_line n P (k + 1) t a apart.1)))
            | inr not_odd ↦ quiet_doubled n T P t a k (and_left _ _ not_odd)
          ])
          (known (even_lower (line_number n 0 a.addr))) in
          rw yes_j (subst (λ ys. IsPermutation (doubled_ones n T P (t ++ a ∷ []))
          (doubled_ones n T P t ++ ys)) (one ∙ ap option_to_list here) grown)
      | inr no_j ↦
          rw no_j (subst (λ ys. IsPermutation (doubled_ones n T P (t ++ a ∷ []))
          (doubled_ones n T P t ++ ys))
          (filter_map-never (fresh h now) ks
          (λ k. quiet_doubled n T P t a k
          (and_right _ _ (quiet_opening n T P (2 * n) k t a (no_candidate n P k t a no_j)
          (no_candidate n P (k + 1) t a no_j)))))
          grown)
    ]
