-- The state of what stands for a list is the state of the list.
use Rattle.std.proofs.Common.{◌≡◌, ℕ, ◌+◌, ◌<◌, Bool, true, false, eqb, List, [], ◌∷◌, ◌++◌, length}
use Rattle.std.proofs.Common.{map, refl, sym, ap, ◌∙◌, subst, arith, inl, inr, IsTrue}
use Rattle.std.proofs.lemmas.Bool.{cases_Bool, eq-eqb, false≢true}
use Rattle.std.proofs.lemmas.Bool.Decides.{nat_tests}
use Rattle.std.proofs.lemmas.List.Sorted.{IsPermutation-sym, length_permutation}
use Rattle.std.proofs.lemmas.List.Sums.{sum_by-cons}
use Rattle.std.specs.Prelude.{nat_lt, flat_map, count_by, if◌then◌else◌}
use Rattle.std.specs.Cmp.{IsStrictWeakOrder}
use Rattle.std.specs.List.{IsDistinct, list_any}
use Rattle.std.specs.List.Sorted.{IsPermutation}
use Rattle.base.specs.Levels.{Levels}
use Rattle.base.specs.Lines.{Grid, is_layout}
use Rattle.sharing_rules.specs.AccessLists.{AccessList, writes_to}
use Rattle.sharing_rules.specs.Lines.{grid_line, is_inside}
use Rattle.sharing_rules.specs.Listed.{in_order, may_predict}
use Rattle.sharing_rules.specs.Members.{ties}
use Rattle.sharing_rules.specs.Observed.{written_lines}
use Rattle.sharing_rules.specs.Opened.{opened}
use Rattle.sharing_rules.specs.Laws.Arrivals.{each_once-distinct}
use Rattle.sharing_rules.specs.Laws.Lists.{Member-from_any, Member-permutation}
use Rattle.sharing_rules.specs.Laws.Observed.{written_lines-any}
use Rattle.sharing_rules.specs.Laws.Orders.{in_order-permutation, in_order-permutes, in_order-rises}
use Rattle.line_tracks.specs.TrackValue.{TrackValue}
use Rattle.line_tracks.specs.KeptIn.{kept_in}
use Rattle.line_tracks.specs.Placed.{AreApart, is_placed_before}
use Rattle.line_tracks.specs.Laws.Placed.{is_placed_before-ranks, kept-apart}
use Rattle.saved_state.specs.Counted.{AreCounted}
use Rattle.saved_state.specs.Laws.Counted.{counted-map, same_counted}
use Rattle.saved_state.specs.Laws.Lists.{one_passes}
use Rattle.saved_state.specs.OfLists.{counted_in, state_in, state_of_list, writes_of}
use Rattle.saved_state.specs.declared.state_parts.CountedLine.{CountedLine}
use Rattle.saved_state.specs.Spelling.{Header, State, header_of, spell_header, spell_line}
use Rattle.saved_state.specs.Spelling.{spell_state, spell_track}

numbers-one_way : (a b : ℕ) → nat_lt a b ≡ true → nat_lt b a ≡ false
numbers-one_way a b h = grind (arith, nat_tests)

numbers-chain : (a b c : ℕ) → nat_lt a b ≡ false → nat_lt b c ≡ false → nat_lt a c ≡ false
numbers-chain a b c h k = grind (arith, nat_tests)

numbers-rank : IsStrictWeakOrder nat_lt
numbers-rank = record {
  one_way = numbers-one_way;
  chain = numbers-chain;
}

-- numbers that tie are equal
tied : (a b : ℕ) → ties nat_lt a b ≡ eqb a b
tied a b = grind (arith, nat_tests)

-- how many pass is some exactly where one passes
count_by-cons : {X : Type 0} (p : X → Bool) (x : X) (xs : List X) (b : Bool) → p x ≡ b
    → count_by p (x ∷ xs) ≡ (if b then 1 else 0) + count_by p xs
count_by-cons p x xs b is = sum_by-cons (λ z. if p z then 1 else 0) x xs
    ∙ ap (λ (t : Bool). (if t then 1 else 0) + count_by p xs) is

some_from_any : {X : Type 0} (p : X → Bool) (xs : List X) → list_any p xs ≡ true → 0 < count_by p xs
some_from_any p [] h = absurd (false≢true h)
some_from_any p (x ∷ xs) h =
    elim (cases_Bool (p x)) [
      | inl passes ↦ omega (arith, count_by-cons p x xs true passes)
      | inr fails ↦ omega (
        arith,
        count_by-cons p x xs false fails,
        some_from_any p xs (rw fails at h),
      )
    ]

pub any_from_some : {X : Type 0} (p : X → Bool) (xs : List X) → 0 < count_by p xs
    → list_any p xs ≡ true
any_from_some p [] h = absurd (omega arith)
any_from_some p (x ∷ xs) h =
    elim (cases_Bool (p x)) [
      | inl passes ↦ rw passes
      | inr fails ↦ rw fails
          (any_from_some p xs (omega (arith, h, count_by-cons p x xs false fails)))
    ]

-- the written lines of a list are those that its count of writes gives
pub counted_in-counted : (g : Grid) (t : AccessList) → AreCounted (writes_of g t) (counted_in g t)
counted_in-counted g t =
    let ks = written_lines g t in
    let perm = in_order-permutes nat_lt ks in
    counted-map (writes_of g t) (in_order nat_lt ks)
    (in_order-rises nat_lt numbers-rank ks
    (subst (λ (e : ℕ → ℕ → Bool). IsDistinct e ks) (sym (λ i a b. tied a b i))
    (each_once-distinct _)))
    (λ k m.
    some_from_any (writes_to (is_inside (grid_line g k))) t
    (sym (written_lines-any g t k)
    ∙ one_passes (eqb k) ks k (Member-permutation ks (in_order nat_lt ks) k perm m)
    (eq-eqb k k refl)))
    (λ k some.
    Member-permutation (in_order nat_lt ks) ks k (IsPermutation-sym ks (in_order nat_lt ks) perm)
    (Member-from_any k ks
    (written_lines-any g t k ∙ any_from_some (writes_to (is_inside (grid_line g k))) t some)))

abbrev with_tracks : State → List TrackValue → State
with_tracks s xs = record {
  grid = s.grid;
  tracking = s.tracking;
  prediction = s.prediction;
  harts = s.harts;
  position = s.position;
  lines = s.lines;
  tracks = xs;
}

header-alike : (s : State) (xs : List TrackValue) → length xs ≡ length s.tracks
    → header_of (with_tracks s xs) ≡ header_of s
header-alike s xs same = λ i. record {
  grid = s.grid;
  tracking = s.tracking;
  prediction = s.prediction;
  harts = s.harts;
  position = s.position;
  lines = length s.lines;
  tracks = same i;
}

-- tracks in any order have one state
spell_state-permuted : (s : State) (xs : List TrackValue) → AreApart s.tracks → IsPermutation xs s.tracks
    → spell_state (with_tracks s xs) ≡ spell_state s
spell_state-permuted s xs apart perm =
    let lines = flat_map (spell_line s.grid) s.lines in
    let back = IsPermutation-sym xs s.tracks perm in
    ap (λ (h : Header). spell_header h ++ (lines ++ flat_map spell_track
    (in_order is_placed_before xs))) (header-alike s xs (sym (length_permutation xs s.tracks perm)))
    ∙ ap (λ (ys : List TrackValue). spell_header (header_of s) ++ (lines ++ flat_map spell_track ys))
    (sym (in_order-permutation is_placed_before is_placed_before-ranks s.tracks xs apart back))

-- The state of lines and tracks that are those of a list, the tracks in any order.
pub spell_state-of_list : (g : Grid) (v : Levels) (harts : ℕ) (t : AccessList)
    (lines : List CountedLine) (xs : List TrackValue) → is_layout g.size g.offset ≡ true
    → IsTrue (may_predict g v) → AreCounted (writes_of g t) lines
    → IsPermutation xs (map (kept_in t) (opened g v t))
    → spell_state (record {
      grid = g;
      tracking = v.tracking;
      prediction = v.prediction;
      harts = harts;
      position = length t;
      lines = lines;
      tracks = xs;
    }) ≡ state_of_list g v harts t
spell_state-of_list g v harts t lines xs good native counted perm =
    ap (λ (ls : List CountedLine). spell_state (record {
      grid = g;
      tracking = v.tracking;
      prediction = v.prediction;
      harts = harts;
      position = length t;
      lines = ls;
      tracks = xs;
    }))
    (same_counted (writes_of g t) lines (counted_in g t) counted (counted_in-counted g t))
    ∙ spell_state-permuted (state_in g v harts t) xs (kept-apart g v t good native) perm
