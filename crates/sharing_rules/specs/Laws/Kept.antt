-- The kept lines of a list: no two are alike, and those with a start are the tracked ones.
use Rattle.std.proofs.Common.{◌≡◌, ℕ, ◌+◌, ◌-◌, ◌*◌, ◌/◌, ◌<◌, true, false, eqb, ltb, not, ◌&&◌}
use Rattle.std.proofs.Common.{◌||◌, ℤ, pos, List, [], ◌∷◌, ◌++◌, Option, Some, None, refl, sym, ap}
use Rattle.std.proofs.Common.{◌∙◌, subst, arith, inl, inr}
use Rattle.std.proofs.lemmas.Bool.{cases_Bool, eqb-false, and_parts}
use Rattle.std.proofs.lemmas.Bool.Decides.{nat_tests}
use Rattle.std.proofs.lemmas.Int.{ints}
use Rattle.std.proofs.lemmas.List.Elements.{filter_map-append}
use Rattle.std.specs.Prelude.{int_lt, filter_map, option_map, option_and_then, IsTrue}
use Rattle.std.specs.Option.{option_map_or}
use Rattle.std.specs.List.{AllByRecursion, IsDistinct}
use Rattle.base.specs.Touch.{Touch}
use Rattle.base.specs.Lines.{Grid}
use Rattle.base.specs.Levels.{Levels}
use Rattle.sharing_rules.specs.Lines.{Line, is_inside, grid_line, native_grid, range_of}
use Rattle.sharing_rules.specs.Listed.{found, opened_line, may_predict, observed_line}
use Rattle.sharing_rules.specs.Listed.{observed_lines, predicted_lines, rank, shifted_lines}
use Rattle.sharing_rules.specs.Listed.{doubled_lines, tracked, tracked_doubled, tracked_shifted}
use Rattle.sharing_rules.specs.Members.{Member, ties}
use Rattle.sharing_rules.specs.Observed.{observed_start, written_lines}
use Rattle.sharing_rules.specs.Opened.{Opened, doubled_ones, finding_of, is_placed_before}
use Rattle.sharing_rules.specs.Opened.{observed_from, observed_ones, opened, opened_doubled}
use Rattle.sharing_rules.specs.Opened.{opened_observed, opened_shifted, predicted_ones}
use Rattle.sharing_rules.specs.Opened.{shifted_after, shifted_ones}
use Rattle.sharing_rules.specs.Predicted.{doubled_opening, is_native_size, shifted_line}
use Rattle.sharing_rules.specs.Predicted.{shifted_opening}
use Rattle.sharing_rules.specs.declared.line_kind.LineKind.TheVariants.{Shifted}
use Rattle.sharing_rules.specs.Laws.Arrivals.{each_once-distinct}
use Rattle.sharing_rules.specs.Laws.Bases.{base_number, native-good, same_number}
use Rattle.sharing_rules.specs.Laws.Kinds.{observed_ones-member, opened_doubled-is}
use Rattle.sharing_rules.specs.Laws.Kinds.{opened_observed-is, opened_shifted-is}
use Rattle.sharing_rules.specs.Laws.Kinds.{predicted_ones-member, shifted_ones-member}
use Rattle.sharing_rules.specs.Laws.Kinds.{doubled_ones-member}
use Rattle.sharing_rules.specs.Laws.Lists.{all_at, all_from_members, Member-filter_map, slice_cases}
use Rattle.sharing_rules.specs.Laws.Starts.{observed_start-first_write}

-- Those with a start are the tracked ones.
through : {X Y : Type 0} (f : X → Option Y) (h : ℕ → Option X) (ks : List ℕ)
    → filter_map f (filter_map h ks) ≡ filter_map (λ k. option_and_then f (h k)) ks
through f h [] = refl
through f h (k ∷ ks) =
    elim (slice_cases (h k)) [
      | inl none ↦ rw none (through f h ks)
      | inr some ↦
          rw some.1 (elim (slice_cases (f some.0)) [
            | inl nothing ↦ rw nothing (through f h ks)
            | inr there ↦ rw there.1 (ap (λ ys. there.0 ∷ ys) (through f h ks))
          ])
    ]

alike : {Y : Type 0} (f g : ℕ → Option Y) (ks : List ℕ) → ((k : ℕ) → f k ≡ g k)
    → filter_map f ks ≡ filter_map g ks
alike f g [] same = refl
alike f g (k ∷ ks) same = rw (same k, alike f g ks same)

observed_found : (g : Grid) (T : ℕ) (t : List Touch) (k : ℕ)
    → observed_line g T t k ≡ option_and_then (finding_of t) (opened_observed g T t k)
observed_found g T t k =
    elim (slice_cases (observed_start T (is_inside (grid_line g k)) t)) [
      | inl none ↦ rw none
      | inr some ↦
          rw some.1 (sym
          (ap (option_map (found t (observed_from (grid_line g k) some.0).kind (grid_line g k)))
          (observed_start-first_write T (is_inside (grid_line g k)) t some.0 some.1)))
    ]

shifted_through : (t : List Touch) (o : Option ℕ) (l : Option Line)
    → option_and_then (λ q. option_and_then (λ m. opened_line t Shifted m q) l) o ≡ option_and_then
    (finding_of t) (option_and_then (λ q. option_map (shifted_after q) l) o)
shifted_through t None l = refl
shifted_through t (Some q) None = refl
shifted_through t (Some q) (Some m) = refl

shifted_found : (n T P : ℕ) (t : List Touch) (k : ℕ) → tracked_shifted n T P t k ≡ option_and_then
    (finding_of t) (opened_shifted n T P t k)
shifted_found n T P t k = shifted_through t (shifted_opening n T P k t) (shifted_line n T P k t)

doubled_found : (n T P : ℕ) (t : List Touch) (k : ℕ) → tracked_doubled n T P t k ≡ option_and_then
    (finding_of t) (opened_doubled n T P t k)
doubled_found n T P t k = elim (slice_cases (doubled_opening n T P k t))
    [ inl none ↦ rw none | inr some ↦ rw some.1 ]

observed_as : (g : Grid) (T : ℕ) (t : List Touch) → observed_lines g T t ≡ filter_map (finding_of t)
    (observed_ones g T t)
observed_as g T t = alike (observed_line g T t)
    (λ k. option_and_then (finding_of t) (opened_observed g T t k)) (written_lines g t)
    (observed_found g T t)
    ∙ sym (through (finding_of t) (opened_observed g T t) (written_lines g t))

predicted_as : (n T P : ℕ) (t : List Touch) → (shifted_lines n T P t ++ doubled_lines n T P t)
    ≡ filter_map (finding_of t) (predicted_ones n T P t)
predicted_as n T P t =
    ap (λ xs. xs ++ doubled_lines n T P t)
    (alike (tracked_shifted n T P t)
    (λ k. option_and_then (finding_of t) (opened_shifted n T P t k))
    (written_lines (native_grid n) t) (shifted_found n T P t)
    ∙ sym (through (finding_of t) (opened_shifted n T P t) (written_lines (native_grid n) t)))
    ∙ ap (λ ys. filter_map (finding_of t) (shifted_ones n T P t) ++ ys)
    (alike (tracked_doubled n T P t)
    (λ k. option_and_then (finding_of t) (opened_doubled n T P t k))
    (written_lines (native_grid n) t) (doubled_found n T P t)
    ∙ sym (through (finding_of t) (opened_doubled n T P t) (written_lines (native_grid n) t)))
    ∙ sym (filter_map-append (finding_of t) (shifted_ones n T P t) (doubled_ones n T P t))

pub tracked-opened : (g : Grid) (v : Levels) (t : List Touch)
    → tracked g v t ≡ filter_map (finding_of t) (opened g v t)
tracked-opened g v t =
    ap (λ xs. xs ++ predicted_lines g v t) (observed_as g v.tracking t)
    ∙ ap (λ ys. filter_map (finding_of t) (observed_ones g v.tracking t) ++ ys)
    (elim v.prediction
    as (λ p. option_map_or
    (λ P. shifted_lines g.size v.tracking P t ++ doubled_lines g.size v.tracking P t) p []
    ≡ filter_map (finding_of t)
    (option_map_or (λ P. predicted_ones g.size v.tracking P t) p [])) [
      | None ↦ refl
      | Some P ↦ predicted_as g.size v.tracking P t
    ])
    ∙ sym (filter_map-append (finding_of t) (observed_ones g v.tracking t)
    (option_map_or (λ P. predicted_ones g.size v.tracking P t) v.prediction []))

-- No two have one kind and one base.
placed_ties : (r : ℕ) (b : ℤ) (s : ℕ) (c : ℤ)
    → not ((ltb r s || (eqb r s && int_lt b c)) || (ltb s r || (eqb s r && int_lt c b))) ≡ true
    → (r ≡ s) × (b ≡ c)
placed_ties r b s c h = (grind (arith, ints, nat_tests), grind (arith, ints, nat_tests))

pub is_placed_before-ties : (x y : Opened) → ties is_placed_before x y ≡ true
    → (rank x.kind ≡ rank y.kind) × ((range_of x.line).base ≡ (range_of y.line).base)
is_placed_before-ties x y h = placed_ties (rank x.kind) (range_of x.line).base (rank y.kind)
    (range_of y.line).base h

abbrev IsApart : Opened → Opened → Type 0
IsApart x y = ties is_placed_before x y ≡ false

apart_unless : (x y : Opened) → (ties is_placed_before x y ≡ true → ⊥) → IsApart x y
apart_unless x y never = elim (cases_Bool (ties is_placed_before x y))
    [ inl e ↦ absurd (never e) | inr e ↦ e ]

apart_by_key : (h : ℕ → Option Opened)
    → ((j k : ℕ) (x y : Opened) → h j ≡ Some x → h k ≡ Some y → ties is_placed_before x y ≡ true
    → j ≡ k) → (ks : List ℕ) → IsDistinct eqb ks
    → IsDistinct (ties is_placed_before) (filter_map h ks)
unfolding IsDistinct
apart_by_key h one [] d = tt
apart_by_key h one (k ∷ ks) d =
    elim (slice_cases (h k)) [
      | inl none ↦ rw none (apart_by_key h one ks d.1)
      | inr some ↦ rw some.1 (
        all_from_members (IsApart some.0) (filter_map h ks)
            (λ y m.
            let w = Member-filter_map h ks y m in
            apart_unless some.0 y
            (λ tied. eqb-false k w.0 (all_at (λ j. eqb k j ≡ false) ks w.0 d.0 w.1)
            (one k w.0 some.0 y some.1 w.2 tied))),
        apart_by_key h one ks d.1,
      )
    ]

all_both : (P : Opened → Type 0) (xs ys : List Opened) → AllByRecursion P xs → AllByRecursion P ys
    → AllByRecursion P (xs ++ ys)
all_both P [] ys a b = b
all_both P (x ∷ xs) ys a b = (a.0, all_both P xs ys a.1 b)

both_distinct : (xs ys : List Opened) → IsDistinct (ties is_placed_before) xs
    → IsDistinct (ties is_placed_before) ys
    → ((x y : Opened) → Member x xs → Member y ys → IsApart x y)
    → IsDistinct (ties is_placed_before) (xs ++ ys)
unfolding IsDistinct
both_distinct [] ys d e apart = e
both_distinct (x ∷ xs) ys d e apart = (
  all_both (IsApart x) xs ys d.0
      (all_from_members (IsApart x) ys (λ y m. apart x y (inl refl) m)),
  both_distinct xs ys d.1 e (λ z y m n. apart z y (inr m) n),
)

pub two_ranks : (m i j : ℕ) → m ≡ i → m ≡ j → (i ≡ j → ⊥) → ⊥
two_ranks m i j e f apart = apart (sym e ∙ f)

rank_apart : (x y : Opened) (i j : ℕ) → rank x.kind ≡ i → rank y.kind ≡ j → (i ≡ j → ⊥)
    → IsApart x y
rank_apart x y i j e f apart = apart_unless x y
    (λ tied. apart (sym e ∙ (is_placed_before-ties x y tied).0 ∙ f))

observed-apart : (g : Grid) (T : ℕ) (t : List Touch) → 0 < g.size
    → IsDistinct (ties is_placed_before) (observed_ones g T t)
observed-apart g T t some =
    apart_by_key (opened_observed g T t)
    (λ j k x y e f tied.
    let a = opened_observed-is g T t j x e in
    let b = opened_observed-is g T t k y f in
    same_number g.size g.offset j k some
    (sym (ap (λ l. (range_of l).base) a.line) ∙ (is_placed_before-ties x y tied).1
    ∙ ap (λ l. (range_of l).base) b.line))
    (written_lines g t) (each_once-distinct _)

same_pos : (a b : ℕ) → pos a ≡ pos b → a ≡ b
same_pos a b e = omega (arith, ints, e)

shifted-apart : (n T P : ℕ) (t : List Touch) → is_native_size n ≡ true
    → IsDistinct (ties is_placed_before) (shifted_ones n T P t)
shifted-apart n T P t native =
    apart_by_key (opened_shifted n T P t)
    (λ j k x y e f tied.
    let a = opened_shifted-is n T P t j x native e in
    let b = opened_shifted-is n T P t k y native f in
    let p = a.base in
    let q = b.base in
    let same : p.0 ≡ q.0 = same_pos p.0 q.0 (sym p.1 ∙ (is_placed_before-ties x y tied).1 ∙ q.1) in
    sym (base_number n j p.0 a.number (omega (arith, p.2.above)) p.2.below)
    ∙ ap (λ z. (z + n) / n) same ∙ base_number n k q.0 b.number (omega (arith, q.2.above))
    q.2.below)
    (written_lines (native_grid n) t) (each_once-distinct _)

doubled-apart : (n T P : ℕ) (t : List Touch) → is_native_size n ≡ true
    → IsDistinct (ties is_placed_before) (doubled_ones n T P t)
doubled-apart n T P t native =
    let some = (native-good n native).some in
    apart_by_key (opened_doubled n T P t)
    (λ j k x y e f tied.
    let a = opened_doubled-is n T P t j x native e in
    let b = opened_doubled-is n T P t k y native f in
    let same : n * (j - 1) ≡ n * (k - 1) = same_pos (n * (j - 1)) (n * (k - 1))
    (sym a.base ∙ (is_placed_before-ties x y tied).1 ∙ b.base) in
    sym (base_number n j (n * (j - 1)) a.number (omega arith) (omega (arith, some)))
    ∙ ap (λ z. (z + n) / n) same ∙ base_number n k (n * (k - 1)) b.number (omega arith)
    (omega (arith, some)))
    (written_lines (native_grid n) t) (each_once-distinct _)

predicted-apart : (n T P : ℕ) (t : List Touch) → is_native_size n ≡ true
    → IsDistinct (ties is_placed_before) (predicted_ones n T P t)
predicted-apart n T P t native =
    both_distinct (shifted_ones n T P t) (doubled_ones n T P t) (shifted-apart n T P t native)
    (doubled-apart n T P t native)
    (λ x y m l.
    let a = shifted_ones-member n T P t x m in
    let b = doubled_ones-member n T P t y l in
    rank_apart x y 1 2 (ap rank (opened_shifted-is n T P t a.0 x native a.1).kind)
    (ap rank (opened_doubled-is n T P t b.0 y native b.1).kind)
    (λ z. absurd (omega (arith, z))))

predicted_rank : (n T P : ℕ) (t : List Touch) (y : Opened) → is_native_size n ≡ true
    → Member y (predicted_ones n T P t) → rank y.kind ≡ 0 → ⊥
predicted_rank n T P t y native m e =
    let w = predicted_ones-member n T P t y m in
    elim w.one [
      | inl f ↦ two_ranks (rank y.kind) 0 1 e
          (ap rank (opened_shifted-is n T P t w.number y native f).kind)
          (λ z. absurd (omega (arith, z)))
      | inr f ↦ two_ranks (rank y.kind) 0 2 e
          (ap rank (opened_doubled-is n T P t w.number y native f).kind)
          (λ z. absurd (omega (arith, z)))
    ]

pub opened-apart : (g : Grid) (v : Levels) (t : List Touch) → 0 < g.size → IsTrue (may_predict g v)
    → IsDistinct (ties is_placed_before) (opened g v t)
unfolding IsDistinct
opened-apart g v t some may =
    both_distinct (observed_ones g v.tracking t)
    (option_map_or (λ P. predicted_ones g.size v.tracking P t) v.prediction [])
    (observed-apart g v.tracking t some)
    (elim (slice_cases v.prediction) [
      | inl none ↦
          subst (λ p. IsDistinct (ties is_placed_before)
          (option_map_or (λ P. predicted_ones g.size v.tracking P t) p [])) (sym none) tt
      | inr there ↦
          let native =
          (and_parts _ _
          (subst (λ p. option_map_or (λ Q. is_native_size g.size && eqb g.offset 0) p true
          ≡ true) there.1 may)).0 in
          subst (λ p. IsDistinct (ties is_placed_before)
          (option_map_or (λ P. predicted_ones g.size v.tracking P t) p [])) (sym there.1)
          (predicted-apart g.size v.tracking there.0 t native)
    ])
    (λ x y m l.
    let a = observed_ones-member g v.tracking t x m in
    let zero_rank : rank x.kind ≡ 0 = ap rank (opened_observed-is g v.tracking t a.0 x a.1).kind in
    elim (slice_cases v.prediction) [
      | inl none ↦
          absurd (subst
          (λ p. Member y (option_map_or (λ P. predicted_ones g.size v.tracking P t) p [])) none l)
      | inr there ↦
          let native =
          (and_parts _ _
          (subst (λ p. option_map_or (λ Q. is_native_size g.size && eqb g.offset 0) p true
          ≡ true) there.1 may)).0 in
          let k : Member y (predicted_ones g.size v.tracking there.0 t) =
          subst (λ p. Member y (option_map_or (λ P. predicted_ones g.size v.tracking P t) p []))
          there.1 l in
          apart_unless x y (λ tied. predicted_rank g.size v.tracking there.0 t y native k
          (sym (is_placed_before-ties x y tied).0 ∙ zero_rank))
    ])
