-- What one access more makes of the total of a layout and of its number of lines.
use Rattle.std.proofs.Common.{◌≡◌, ℕ, ◌+◌, ◌%◌, ◌<◌, Bool, true, false, cond, eqb, ltb, ◌&&◌, List}
use Rattle.std.proofs.Common.{[], ◌∷◌, ◌++◌, Some, None, refl, sym, ap, ◌∙◌, subst, arith}
use Rattle.std.proofs.Common.{inl, inr}
use Rattle.std.proofs.lemmas.Bool.{cases_Bool, eqb-true, false≢true}
use Rattle.std.proofs.lemmas.Bool.Decides.{nat_tests}
use Rattle.std.proofs.lemmas.List.Sums.{sum_by-cons}
use Rattle.std.specs.List.{list_any}
use Rattle.std.specs.Prelude.{filter, filter_map, if◌then◌else◌, sum_by}
use Rattle.base.specs.Lines.{Grid, line_number}
use Rattle.base.specs.Touch.{Touch, is_write}
use Rattle.sharing_rules.specs.Arrivals.{note_arrival}
use Rattle.sharing_rules.specs.Laws.Arrivals.{each_once-distinct}
use Rattle.sharing_rules.specs.Laws.Lists.{slice_cases}
use Rattle.sharing_rules.specs.Laws.Observed.{observed_written, written_lines-any}
use Rattle.sharing_rules.specs.Laws.Observed.{written_lines-push}
use Rattle.sharing_rules.specs.Laws.Starts.{observed_start-one}
use Rattle.sharing_rules.specs.Laws.Sums.{AgreeBut, sum-noted}
use Rattle.sharing_rules.specs.Laws.Tracks.{track_of-stays}
use Rattle.sharing_rules.specs.Lines.{grid_line, is_inside, line_at}
use Rattle.sharing_rules.specs.Listed.{Finding, found, observed_line}
use Rattle.sharing_rules.specs.declared.line_kind.LineKind.TheVariants.{Observed}
use Rattle.sharing_rules.specs.Observed.{first_write_from, observed_start, written_lines}
use Rattle.sharing_rules.specs.Tracks.{Traced, track_of, track_since}
use Rattle.layout_sweep.specs.Laws.Windows.{reads-take_nothing, window-noted}
use Rattle.layout_sweep.specs.Totals.{counted, counted_lines, part_of, total_of}
use Rattle.layout_sweep.specs.Windows.{takes, window_of}

sum-alike : (f g : ℕ → ℕ) (ks : List ℕ) → ((k : ℕ) → g k ≡ f k) → sum_by g ks ≡ sum_by f ks
sum-alike f g [] alike = refl
sum-alike f g (k ∷ ks) alike =
    let here = alike k in
    let rest = sum-alike f g ks alike in
    omega (arith, here, rest, sum_by-cons f k ks, sum_by-cons g k ks)

-- What is counted of line k of a layout, 0 where it isn't written, and what is made of it.
abbrev count_on : Grid → List Touch → ℕ → ℕ
count_on g t k = (track_of (grid_line g k) 0 t).count

found-sum : (val : ℕ → ℕ → ℕ) (g : Grid) (t : List Touch) (ks : List ℕ) → ((k : ℕ) → val k 0 ≡ 0)
    → sum_by (λ f. val f.line.number f.count) (filter_map (observed_line g 1 t) ks)
    ≡ sum_by (λ k. val k (count_on g t k)) ks
found-sum val g t [] blank = refl
found-sum val g t (k ∷ ks) blank =
    let inside : ℕ → Bool = is_inside (grid_line g k) in
    let one : observed_start 1 inside t ≡ first_write_from 0 inside t = observed_start-one inside t
    in
    let rest = found-sum val g t ks blank in
    elim (slice_cases (first_write_from 0 inside t)) [
      | inl none ↦
          let start : observed_start 1 inside t ≡ None = one ∙ none in
          let here : count_on g t k ≡ 0 = ap (λ (x : Traced). x.count)
          (ap (track_since (grid_line g k) t) none) in
          let nothing : val k (count_on g t k) ≡ 0 = ap (val k) here ∙ blank k in
          rw start (omega (arith, rest, nothing, sum_by-cons (λ k. val k (count_on g t k)) k ks))
      | inr some ↦
          let start : observed_start 1 inside t ≡ Some some.0 = one ∙ some.1 in
          let here : count_on g t k ≡ (track_since (grid_line g k) t (Some some.0)).count =
          ap (λ (x : Traced). x.count) (ap (track_since (grid_line g k) t) some.1) in
          rw start (
          let same = ap (val k) here in
          omega (
            arith,
            rest,
            same,
            sum_by-cons (λ k. val k (count_on g t k)) k ks,
            sum_by-cons (λ (f : Finding). val f.line.number f.count)
                (found t Observed (grid_line g k) some.0) (filter_map (observed_line g 1 t) ks),
          ))
    ]

never_written : (g : Grid) (t : List Touch) (k : ℕ) → list_any (eqb k) (written_lines g t) ≡ false
    → count_on g t k ≡ 0
never_written g t k none =
    let inside : ℕ → Bool = is_inside (grid_line g k) in
    elim (slice_cases (first_write_from 0 inside t)) [
      | inl none_yet ↦ ap (λ (x : Traced). x.count) (ap (track_since (grid_line g k) t) none_yet)
      | inr some ↦
          let written = observed_written 1 inside t some.0 (observed_start-one inside t ∙ some.1) in
          absurd (false≢true (sym none ∙ written_lines-any g t k ∙ written))
    ]

-- a sum over the written lines, where only the line of the access can change
written-sum : (val : ℕ → ℕ → ℕ) (g : Grid) (t : List Touch) (a : Touch) (n : ℕ)
    → ((k : ℕ) → val k 0 ≡ 0) → (is_write a.kind ≡ false → n ≡ 0)
    → val (line_number g.size g.offset a.addr)
    (count_on g (t ++ a ∷ []) (line_number g.size g.offset a.addr))
    ≡ val (line_number g.size g.offset a.addr) (count_on g t (line_number g.size g.offset a.addr)) + n
    → sum_by (λ k. val k (count_on g (t ++ a ∷ []) k)) (written_lines g (t ++ a ∷ []))
    ≡ sum_by (λ k. val k (count_on g t k)) (written_lines g t) + n
written-sum val g t a n blank quiet grows =
    let x : ℕ = line_number g.size g.offset a.addr in
    let before : ℕ → ℕ = λ k. val k (count_on g t k) in
    let after : ℕ → ℕ = λ k. val k (count_on g (t ++ a ∷ []) k) in
    let agree : AgreeBut x before after = λ k other.
    ap (λ (y : Traced). val k y.count) (track_of-stays (grid_line g k) 0 t a other) in
    elim (cases_Bool (is_write a.kind)) [
      | inl writes ↦
          let pushed : written_lines g (t ++ a ∷ []) ≡ note_arrival (written_lines g t) x =
          rw (written_lines-push g t a, writes) refl in
          ap (sum_by after) pushed
          ∙ sum-noted before after x n (written_lines g t) (each_once-distinct _) agree grows
          (λ none. ap (val x) (never_written g t x none) ∙ blank x)
      | inr reads ↦
          let pushed : written_lines g (t ++ a ∷ []) ≡ written_lines g t =
          rw (written_lines-push g t a, reads) refl in
          let zero_more : n ≡ 0 = quiet reads in
          let alike : (k : ℕ) → after k ≡ before k = λ k. elim (cases_Bool (eqb x k)) [
            | inl here ↦ subst (λ j. after j ≡ before j) (eqb-true x k here)
                (omega (arith, grows, zero_more))
            | inr other ↦ agree k other
          ] in
          let same = sum-alike before after (written_lines g t) alike in
          ap (sum_by after) pushed ∙ omega (arith, same, zero_more)
    ]

-- a layout of whole words
abbrev pub IsEven : Grid → Type 0
IsEven g = (0 < g.size) × (g.size % 4 ≡ 0)

inside_own : (g : Grid) (x : ℕ) → is_inside (line_at g x) x ≡ true
inside_own g x = own (line_number g.size g.offset x)
  where
    own : (k : ℕ) → eqb k k ≡ true
    own k = grind (arith, nat_tests)

no_more : (b : Bool) (n : ℕ) → b ≡ false → (if b then n else 0) ≡ 0
no_more b n e = rw e refl

pub total-push : (g : Grid) (t : List Touch) (a : Touch) → IsEven g
    → total_of g (t ++ a ∷ []) ≡ total_of g t + (if takes (window_of (line_at g a.addr) t) a then 1
    else 0)
total-push g t a even =
    let w = window_of (line_at g a.addr) t in
    let noted = window-noted (line_at g a.addr) t a
    (record { some = even.0; whole = even.1 }) (inside_own g a.addr) in
    found-sum (λ k c. c) g (t ++ a ∷ []) (written_lines g (t ++ a ∷ [])) (λ k. refl)
    ∙ written-sum (λ k c. c) g t a (if takes w a then 1 else 0) (λ k. refl)
    (λ reads. no_more (takes w a) 1 (reads-take_nothing w a reads)) noted.count
    ∙ sym (ap (λ s. s + (if takes w a then 1 else 0))
    (found-sum (λ k c. c) g t (written_lines g t) (λ k. refl)))

-- whether there is a count at all, as a number
abbrev is_counted : ℕ → ℕ
is_counted c = cond (ltb 0 c) 1 0

first_more : (c d : ℕ) (taken : Bool) → d ≡ c + (if taken then 1 else 0)
    → is_counted d ≡ is_counted c + (if taken then (if ltb 0 c then 0 else 1) else 0)
first_more c d true e =
    elim (cases_Bool (ltb 0 c)) [
      | inl some ↦ let more : ltb 0 d ≡ true = grind (arith, nat_tests) in rw (some, more) refl
      | inr none ↦ let more : ltb 0 d ≡ true = grind (arith, nat_tests) in rw (none, more) refl
    ]
first_more c d false e = let same : d ≡ c = omega (arith, e) in rw same (omega arith)

pub lines-push : (g : Grid) (t : List Touch) (a : Touch) → IsEven g
    → counted_lines g (t ++ a ∷ []) ≡ counted_lines g t
    + (if takes (window_of (line_at g a.addr) t) a
    then (if (window_of (line_at g a.addr) t).taken then 0 else 1) else 0)
lines-push g t a even =
    let w = window_of (line_at g a.addr) t in
    let noted = window-noted (line_at g a.addr) t a
    (record { some = even.0; whole = even.1 }) (inside_own g a.addr) in
    let more : ℕ = if takes w a then (if w.taken then 0 else 1) else 0 in
    found-sum (λ k c. is_counted c) g (t ++ a ∷ []) (written_lines g (t ++ a ∷ [])) (λ k. refl)
    ∙ written-sum (λ k c. is_counted c) g t a more (λ k. refl)
    (λ reads. no_more (takes w a) (if w.taken then 0 else 1) (reads-take_nothing w a reads))
    (first_more _ _ (takes w a) noted.count)
    ∙ sym (ap (λ s. s + more)
    (found-sum (λ k c. is_counted c) g t (written_lines g t) (λ k. refl)))

-- what a line adds to the part of the total on the lines that pass a test
abbrev added : (ℕ → Bool) → ℕ → ℕ → ℕ
added p k c = if p k then c else 0

first-added : (p : ℕ → Bool) (f : Finding) (fs : List Finding)
    → sum_by (λ (f : Finding). f.count) (filter (λ (f : Finding). p f.line.number) (f ∷ fs))
    ≡ added p f.line.number f.count
    + sum_by (λ (f : Finding). f.count) (filter (λ (f : Finding). p f.line.number) fs)
first-added p f fs =
    elim (cases_Bool (p f.line.number)) [
      | inl is ↦ rw is (sum_by-cons (λ (f : Finding). f.count) f
          (filter (λ (f : Finding). p f.line.number) fs))
      | inr other ↦ rw other (omega arith)
    ]

part-added : (p : ℕ → Bool) (fs : List Finding)
    → sum_by (λ (f : Finding). f.count) (filter (λ (f : Finding). p f.line.number) fs)
    ≡ sum_by (λ (f : Finding). added p f.line.number f.count) fs
part-added p [] = refl
part-added p (f ∷ fs) =
    first-added p f fs
    ∙ ap (λ (s : ℕ). added p f.line.number f.count + s) (part-added p fs)
    ∙ sym (sum_by-cons (λ (f : Finding). added p f.line.number f.count) f fs)

nothing-added : (p : ℕ → Bool) (k : ℕ) → added p k 0 ≡ 0
nothing-added p k = elim (cases_Bool (p k)) [ inl is ↦ rw is refl | inr other ↦ rw other refl ]

one-added : (p : ℕ → Bool) (k c d : ℕ) (taken : Bool) → d ≡ c + (if taken then 1 else 0)
    → added p k d ≡ added p k c + (if taken && p k then 1 else 0)
one-added p k c d taken more =
    elim (cases_Bool (p k)) [
      | inl is ↦ elim (cases_Bool taken) [
        | inl took ↦ rw (is, took) (rw took at more)
        | inr kept ↦ rw (is, kept) (rw kept at more)
      ]
      | inr other ↦ elim (cases_Bool taken) [
        | inl took ↦ rw (other, took) refl
        | inr kept ↦ rw (other, kept) refl
      ]
    ]

-- The part of the total on the lines that pass a test grows with theirs alone.
pub part-push : (p : ℕ → Bool) (g : Grid) (t : List Touch) (a : Touch) → IsEven g
    → part_of p g (t ++ a ∷ []) ≡ part_of p g t
    + (if takes (window_of (line_at g a.addr) t) a && p (line_number g.size g.offset a.addr)
    then 1 else 0)
part-push p g t a even =
    let w = window_of (line_at g a.addr) t in
    let x : ℕ = line_number g.size g.offset a.addr in
    let more : ℕ = if takes w a && p x then 1 else 0 in
    let noted = window-noted (line_at g a.addr) t a
    (record { some = even.0; whole = even.1 }) (inside_own g a.addr) in
    part-added p (counted g (t ++ a ∷ []))
    ∙ found-sum (added p) g (t ++ a ∷ []) (written_lines g (t ++ a ∷ [])) (nothing-added p)
    ∙ written-sum (added p) g t a more (nothing-added p)
    (λ reads. rw (reads-take_nothing w a reads) refl)
    (one-added p x _ _ (takes w a) noted.count)
    ∙ sym (ap (λ s. s + more)
    (part-added p (counted g t) ∙ found-sum (added p) g t (written_lines g t) (nothing-added p)))
