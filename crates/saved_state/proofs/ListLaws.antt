-- A detector that holds the state of a list stands for the list.
use Rattle.std.proofs.Common.{◌≡◌, ◌⊎◌, ℕ, ◌<◌, Bool, true, false, eqb, List, [], ◌∷◌, ◌++◌, length}
use Rattle.std.proofs.Common.{map, refl, sym, ap, ◌∙◌, subst, arith, inl, inr}
use Rattle.std.proofs.lemmas.Bool.{cases_Bool, cases_lt, eq-eqb, eqb-true, false≢true}
use Rattle.std.proofs.lemmas.List.Sorted.{IsPermutation-sym}
use Rattle.std.specs.Prelude.{cond, None, Ok, Option, Result, Some, unwrap_or}
use Rattle.std.specs.Cmp.{nat_cmp_total, unsigned_tied}
use Rattle.std.specs.FinMap as finite
use Rattle.std.specs.Ordering.{nat_cmp}
use Rattle.std.specs.List.Sorted.{IsPermutation}
use Rattle.base.specs.Levels.{Levels}
use Rattle.base.specs.Lines.{Grid}
use Rattle.base.specs.declared.faults.ResumeFault.{ResumeFault}
use Rattle.sharing_rules.specs.AccessLists.{AccessList}
use Rattle.sharing_rules.specs.Laws.Orders.{in_order-permutes}
use Rattle.sharing_rules.specs.Members.{Member}
use Rattle.sharing_rules.specs.Lines.{grid_line, is_inside}
use Rattle.sharing_rules.specs.Listed.{in_order}
use Rattle.sharing_rules.specs.Observed.{write_count}
use Rattle.sharing_rules.specs.Opened.{Opened, opened}
use Rattle.saved_state.specs.declared.state_parts.CountedLine.{CountedLine}
use Rattle.saved_state.specs.Counted.{AreCounted, counted_line}
use Rattle.saved_state.specs.Laws.GoodLists.{read-kept}
use Rattle.saved_state.specs.Laws.OfLists.{counted_in-counted}
use Rattle.saved_state.specs.OfLists.{MayKeep, counted_in, sorted_state_in, state_of_list}
use Rattle.saved_state.specs.OfLists.{writes_of}
use Rattle.saved_state.specs.Reading.{Found, read_state}
use Rattle.saved_state.specs.Spelling.{State}
use Rattle.line_tracks.specs.TrackValue.{TrackValue}
use Rattle.line_tracks.specs.KeptIn.{kept_in}
use Rattle.line_tracks.specs.Placed.{is_placed_before}
use Rattle.detector.specs.Counts.{count_at}
use Rattle.detector.specs.Standing.{StandsFor}
use Rattle.detector.specs.Watch.{Watch}
use Rattle.saved_state.specs.Resuming.{IsResumedFrom, counts_in, kept_of_list, resumption}
use Rattle.saved_state.specs.Resuming.{resumption_in, resumption_of}
use Rattle.saved_state.specs.Saving.{counted_lines, state_of}
use Rattle.saved_state.proofs.SaveLaws.{counted_lines-counted}

-- a count that is at least what its lines say
no_less : (f h : ℕ → ℕ) (lines : List CountedLine) → AreCounted f lines → AreCounted h lines
    → (k : ℕ) → 0 < f k → f k ≡ h k
no_less f h lines one other k some = (other.counted (counted_line f k) (one.all k some)).1

-- one list of lines has one count
same_counts : (f h : ℕ → ℕ) (lines : List CountedLine) → AreCounted f lines → AreCounted h lines
    → (k : ℕ) → f k ≡ h k
same_counts f h lines one other k = elim (cases_lt 0 (f k)) [
  | inl some ↦ no_less f h lines one other k some
  | inr none ↦ elim (cases_lt 0 (h k)) [
    | inl some ↦ sym (no_less h f lines other one k some)
    | inr neither ↦ omega (arith, none, neither)
  ]
]

-- the parts of a state that is a list's
stands_in : (g : Grid) (v : Levels) (harts : ℕ) (t : AccessList) (w : Watch) (n : ℕ)
    → state_of n w ≡ sorted_state_in g v harts t → StandsFor t w
stands_in g v harts t w n is =
    let grid : w.grid ≡ g = ap (λ (s : State). s.grid) is in
    let tracking : w.levels.tracking ≡ v.tracking = ap (λ (s : State). s.tracking) is in
    let prediction : w.levels.prediction ≡ v.prediction = ap (λ (s : State). s.prediction) is in
    let lines : counted_lines w.writes ≡ counted_in g t = ap (λ (s : State). s.lines) is in
    let tracks : w.tracks ≡ in_order is_placed_before (map (kept_in t) (opened g v t)) =
    ap (λ (s : State). s.tracks) is in
    let all : opened w.grid w.levels t ≡ opened g v t = λ i. opened (grid i) (record {
      tracking = tracking i;
      prediction = prediction i;
      report = w.levels.report;
    }) t in
    let kept = map (kept_in t) (opened g v t) in
    record {
      position = ap (λ (s : State). s.position) is;
      writes = λ k.
          same_counts (count_at w.writes) (writes_of g t) (counted_lines w.writes)
          (counted_lines-counted w.writes)
          (subst (AreCounted (writes_of g t)) (sym lines) (counted_in-counted g t)) k
          ∙ ap (λ (z : Grid). write_count (is_inside (grid_line z k)) t) (sym grid);
      tracks = subst (λ (os : List Opened). IsPermutation w.tracks (map (kept_in t) os)) (sym all)
          (subst (λ (xs : List TrackValue). IsPermutation xs kept) (sym tracks)
          (IsPermutation-sym kept (in_order is_placed_before kept)
          (in_order-permutes is_placed_before kept)));
    }

same_found : (a b : Found) → ◌≡◌ {A = Result Found ResumeFault} (Ok a) (Ok b) → a ≡ b
same_found a b e = cc

pub resumed_from : (part more : List ℕ) (g : Grid) (v : Levels) (harts : ℕ) (t : AccessList)
    (w : Watch) (n used : ℕ) → read_state part ≡ Ok (state_of n w, used) → MayKeep g v harts t
    → part ≡ state_of_list g v harts t ++ more → IsResumedFrom g v harts t w n used
resumed_from part more g v harts t w n used read may is =
    let again = read-kept g v harts t more may in
    let same = same_found (state_of n w, used)
    (sorted_state_in g v harts t, length (state_of_list g v harts t))
    (sym read ∙ ap read_state is ∙ again) in
    record {
      stands = stands_in g v harts t w n (ap (λ (f : Found). f.0) same);
      same_harts = ap (λ (f : Found). f.0.harts) same;
      whole = ap (λ (f : Found). f.1) same;
    }

-- ---- what is kept of a list, by its lines

abbrev pairs : List CountedLine → List (ℕ × ℕ)
pairs lines = map (λ l. (l.number, l.writes)) lines

find_here : (l : CountedLine) (lines : List CountedLine) (k : ℕ) → eqb k l.number ≡ true
    → finite.find nat_cmp k (pairs (l ∷ lines)) ≡ Some l.writes
find_here l lines k here =
    ap (λ (t : Bool). cond t (Some l.writes) (finite.find nat_cmp k (pairs lines)))
    (unsigned_tied k l.number ∙ here)

find_other : (l : CountedLine) (lines : List CountedLine) (k : ℕ) → eqb k l.number ≡ false
    → finite.find nat_cmp k (pairs (l ∷ lines)) ≡ finite.find nat_cmp k (pairs lines)
find_other l lines k other =
    ap (λ (t : Bool). cond t (Some l.writes) (finite.find nat_cmp k (pairs lines)))
    (unsigned_tied k l.number ∙ other)

-- a number is found in lines where it is that of one
record IsFound (f : ℕ → ℕ) (lines : List CountedLine) (k : ℕ) : Type 0 where
  pub found : Option ℕ
  pub is : finite.find nat_cmp k (pairs lines) ≡ found
  pub of : (found ≡ Some (f k)) ⊎ ((found ≡ None)
      × ((l : CountedLine) → Member l lines → l.number ≡ k → ⊥))

other_line : (k : ℕ) (l z : CountedLine) (lines : List CountedLine) → eqb k l.number ≡ false
    → ((y : CountedLine) → Member y lines → y.number ≡ k → ⊥) → Member z (l ∷ lines) → z.number ≡ k
    → ⊥
other_line k l z lines other none m e = elim m [
  | inl same ↦ absurd (false≢true (sym other
      ∙ eq-eqb k l.number (sym e ∙ ap (λ (y : CountedLine). y.number) same)))
  | inr later ↦ none z later e
]

found_of : (f : ℕ → ℕ) (lines : List CountedLine) → ((l : CountedLine) → Member l lines
    → l.writes ≡ f l.number) → (k : ℕ) → IsFound f lines k
found_of f [] is k = record { found = None; is = refl; of = inr (refl, λ l m e. absurd m) }
found_of f (l ∷ lines) is k =
    let rest = found_of f lines (λ z m. is z (inr m)) k in
    elim (cases_Bool (eqb k l.number)) [
      | inl here ↦
          let number = eqb-true k l.number here in
          let writes : l.writes ≡ f k = is l (inl refl) ∙ ap f (sym number) in
          record {
            found = Some l.writes;
            is = find_here l lines k here;
            of = inl (ap Some writes);
          }
      | inr other ↦ record {
        found = rest.found;
        is = find_other l lines k other ∙ rest.is;
        of = elim rest.of [
          | inl there ↦ inl there
          | inr none ↦ inr (none.0, λ z m e. other_line k l z lines other none.1 m e)
        ];
      }
    ]

count_in : (f : ℕ → ℕ) (lines : List CountedLine) → AreCounted f lines → (k : ℕ)
    → count_at (counts_in lines) k ≡ f k
count_in f lines counted k =
    let got : count_at (counts_in lines) k ≡ unwrap_or (finite.find nat_cmp k (pairs lines)) 0 =
    ap (λ o. unwrap_or o 0) (finite.get-from_entries nat_cmp_total (pairs lines) k) in
    let there = found_of f lines (λ l m. (counted.counted l m).1) k in
    elim there.of [
      | inl some ↦ got ∙ ap (λ o. unwrap_or o 0) (there.is ∙ some)
      | inr none ↦ elim (cases_lt 0 (f k)) [
        | inl some ↦ absurd (none.1 (counted_line f k) (counted.all k some) refl)
        | inr no_write ↦
            let nothing : 0 ≡ f k = omega (arith, no_write) in
            got ∙ ap (λ o. unwrap_or o 0) (there.is ∙ none.0) ∙ nothing
      ]
    ]

pub kept_stands : (g : Grid) (v : Levels) (harts : ℕ) (t : AccessList)
    → StandsFor t (kept_of_list g v harts t)
kept_stands g v harts t =
    let kept = map (kept_in t) (opened g v t) in
    record {
      position = refl;
      writes = λ k. count_in (writes_of g t) (counted_in g t) (counted_in-counted g t) k;
      tracks = IsPermutation-sym kept (in_order is_placed_before kept)
          (in_order-permutes is_placed_before kept);
    }

pub list_taken_up : (g : Grid) (v : Levels) (harts : ℕ) (t : AccessList) (more : List ℕ)
    → MayKeep g v harts t → resumption_in v.report (state_of_list g v harts t ++ more)
    ≡ Ok (resumption (kept_of_list g v harts t) harts (length (state_of_list g v harts t)))
list_taken_up g v harts t more may = ap (resumption_of v.report) (read-kept g v harts t more may)
