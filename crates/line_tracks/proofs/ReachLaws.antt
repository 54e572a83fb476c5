-- No best pair means no pair, and two whole lines hold every pair.
use Rattle.std.proofs.Common.{◌≡◌, ℕ, zero, suc, ◌+◌, ◌*◌, ◌/◌, ◌<◌, ◌≤◌, ◌^◌, Bool, true, false}
use Rattle.std.proofs.Common.{eqb, leb, ltb, ◌&&◌, List, [], ◌∷◌, ◌++◌}
use Rattle.std.proofs.Common.{Option, Some, None, length, refl, sym, ap, ◌∙◌, arith, inl, inr}
use Rattle.std.proofs.lemmas.List.{map-append}
use Rattle.std.proofs.lemmas.List.Elements.{filter-append}
use Rattle.std.proofs.lemmas.Bool.{cases_Bool, false≢true, le-leb, or_cases, and_parts, eqb-true}
use Rattle.std.proofs.lemmas.Bool.{leb-true}
use Rattle.std.specs.Prelude.{filter, is_some}
use Rattle.std.specs.List.{list_all, list_any}
use Rattle.sharing_rules.specs.Pairs.{all_pairs, best_pair_of, first_best, hot_pairs, is_hot_at}
use Rattle.sharing_rules.specs.Pairs.{is_near, score}
use Rattle.sharing_rules.specs.Places.{below}
use Rattle.sharing_rules.specs.Search.{row_pairs}
use Rattle.sharing_rules.specs.declared.word.Word.{Word}
use Rattle.sharing_rules.specs.Laws.Pairs.{all_pairs-more}
use Rattle.sharing_rules.specs.Predicted.{is_native_size}
use Rattle.line_tracks.specs.RangeWords.{AreWords, RangeWords}
use Rattle.line_tracks.specs.Neighbours.{AreNeighbours, reach}
use Rattle.line_tracks.specs.HotRows.{AreRows}
use Rattle.sharing_rules.specs.Laws.Lists.{slice_cases}

-- a list has no best pair where it is empty, and only there
best-some : (f : ℕ × ℕ → ℕ) (p : ℕ × ℕ) (ps : List (ℕ × ℕ)) → is_some (first_best f (p ∷ ps)) ≡ true
best-some f p ps =
    elim (slice_cases (first_best f ps)) [
      | inl none ↦ rw none
      | inr some ↦ rw some.1 (elim (cases_Bool (ltb (f p) (f some.0))) [
        | inl e ↦ rw e
        | inr e ↦
            rw e
      ])
    ]

none-empty : (f : ℕ × ℕ → ℕ) (ps : List (ℕ × ℕ)) → (is_some (first_best f ps) ≡ false → ps ≡ [])
    × (ps ≡ [] → is_some (first_best f ps) ≡ false)
none-empty f [] = (λ e. refl, λ e. refl)
none-empty f (p ∷ ps) = (λ e. absurd (false≢true (sym e ∙ best-some f p ps)), λ e. absurd (cc))

pub none-iff : (lower upper : List Word) (within : ℕ) (o : Option (ℕ × ℕ)) → o
    ≡ best_pair_of lower upper within
    → (is_some o ≡ false → hot_pairs lower upper within ≡ [])
    × (hot_pairs lower upper within ≡ [] → is_some o ≡ false)
unfolding best_pair_of
none-iff lower upper within o e =
    let k = none-empty (score lower upper) (hot_pairs lower upper within) in
    (λ none. k.0 (ap is_some (sym e) ∙ none), λ empty. ap is_some e ∙ k.1 empty)

-- every pair of a row is near enough, where the two lines are
near-row : (hot : ℕ × ℕ → Bool) (n within i m : ℕ) → 4 * (n + m) ≤ within
    → filter (λ p. hot p && is_near n within p) (row_pairs i m)
    ≡ filter hot (row_pairs i m)
near-row hot n within i zero le = refl
near-row hot n within i (suc m) le =
    let ih = near-row hot n within i m (omega arith) in
    let near : is_near n within (i, m) ≡ true = le-leb _ _ (omega arith) in
    rw (
      map-append {B = ℕ × ℕ} (λ k. (i, k)) (below m) (m ∷ []),
      filter-append (λ (p : ℕ × ℕ). hot p && is_near n within p) (row_pairs i m)
          ((i, m) ∷ []),
      filter-append hot (row_pairs i m) ((i, m) ∷ []),
      ih,
    )
    (elim (cases_Bool (hot (i, m))) [ inl e ↦ rw (e, near) | inr e ↦ rw e ])

near-all : (hot : ℕ × ℕ → Bool) (n within k m : ℕ) → 4 * (n + m) ≤ within
    → filter (λ p. hot p && is_near n within p) (all_pairs k m)
    ≡ filter hot (all_pairs k m)
near-all hot n within zero m le = refl
near-all hot n within (suc k) m le =
    let more : suc k ≡ k + 1 = omega arith in
    let step : all_pairs (suc k) m ≡ all_pairs k m ++ row_pairs k m = ap (λ x. all_pairs x m) more
    ∙ all_pairs-more k m in
    ap (filter (λ (p : ℕ × ℕ). hot p && is_near n within p)) step
    ∙ filter-append (λ (p : ℕ × ℕ). hot p && is_near n within p) (all_pairs k m) (row_pairs k m)
    ∙ ap (λ ps. ps ++ filter (λ (p : ℕ × ℕ). hot p && is_near n within p) (row_pairs k m))
    (near-all hot n within k m le)
    ∙ ap (λ ps. filter hot (all_pairs k m) ++ ps) (near-row hot n within k m le)
    ∙ sym (filter-append hot (all_pairs k m) (row_pairs k m)) ∙ ap (filter hot) (sym step)

-- with no distance given every hot pair is near enough
pub any-near : (lower upper : List Word) (size : ℕ) (within : Option ℕ) → 4 * length lower ≡ size
    → 4 * length upper ≡ size → within ≡ None
    → hot_pairs lower upper (reach size within) ≡ filter (is_hot_at lower upper)
    (all_pairs (length lower) (length upper))
any-near lower upper size None low up e = near-all (is_hot_at lower upper) (length lower) (2 * size)
    (length lower) (length upper)
    (omega arith)
any-near lower upper size (Some n) low up e = absurd (cc)

any-small : (n m : ℕ) (xs : List ℕ) → list_all (λ x. leb x m) xs ≡ true → list_any (eqb n) xs ≡ true
    → n ≤ m
any-small n m [] all any = absurd (false≢true any)
any-small n m (x ∷ xs) all any =
    let parts = and_parts (leb x m) (list_all (λ x. leb x m) xs) all in
    elim (or_cases (eqb n x) (list_any (eqb n) xs) any) [
      | inl here ↦ omega (arith, eqb-true n x here, leb-true x m parts.0)
      | inr later ↦ any-small n m xs parts.1 later
    ]

native-small : (n : ℕ) → is_native_size n ≡ true → n ≤ 256
native-small n e = any-small n 256 (32 ∷ (64 ∷ (128 ∷ (256 ∷ [])))) refl e

-- the words of two neighbours
pub rows-of : (lower upper : RangeWords) (within : ℕ) → AreNeighbours lower.range upper.range
    → AreWords lower → AreWords upper
    → within < 2 ^ 32 → AreRows lower upper (lower.range.size / 4) within
rows-of lower upper within n l u near =
    record {
      lower_words = omega (arith, l.size);
      upper_words = omega (arith, u.size, n.alike);
      lower_size = refl;
      upper_size = omega (arith, n.alike);
      short = omega (arith, native-small lower.range.size n.native);
      lower_few = l.few;
      upper_few = u.few;
      near = near;
    }
