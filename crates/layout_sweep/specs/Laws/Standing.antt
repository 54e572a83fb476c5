-- One access more of a sweep that stands for a list, and one with no access.
use Rattle.std.proofs.Common.{◌≡◌, ℕ, ◌+◌, ◌*◌, ◌/◌, ◌%◌, ◌<◌, ◌≤◌, true, List, [], ◌∷◌}
use Rattle.std.proofs.Common.{◌++◌, Some, None, refl, sym, ap, ◌∙◌, subst, arith, inl, inr}
use Rattle.std.proofs.Common.{length, ◌⊎◌, eqb, ltb, ◌&&◌, false}
use Rattle.std.proofs.Math.Nat.{mod-lt}
use Rattle.std.proofs.lemmas.Bool.{and_parts, cases_Bool, cases_lt, eqb-true, ltb-true}
use Rattle.std.proofs.lemmas.List.{length-map}
use Rattle.std.proofs.lemmas.Nat.{div-add-mod', mod-mul-add}
use Rattle.std.proofs.lemmas.Option.{none-some, same_Some, slice_get_past}
use Rattle.std.specs.Prelude.{option_map, slice_get}
use Rattle.std.specs.List.{list_any}
use Rattle.base.specs.Lines.{line_number}
use Rattle.base.specs.Touch.{Touch, is_write}
use Rattle.sharing_rules.specs.AccessLists.{writes_to}
use Rattle.sharing_rules.specs.Lines.{is_inside, native_line}
use Rattle.sharing_rules.specs.Places.{below}
use Rattle.sharing_rules.specs.Laws.Lists.{length-below, same_by_get, slice_cases}
use Rattle.sharing_rules.specs.Laws.Lists.{slice_get-map-below}
use Rattle.layout_sweep.specs.Counts.{AreBelow, at_shift, sweep_of, swept_after, swept_of}
use Rattle.layout_sweep.specs.Laws.Counts.{swept-push}
use Rattle.layout_sweep.specs.Laws.Lines.{IsWhole, window-holds, window-lacks, window-of_shift}
use Rattle.layout_sweep.specs.Laws.Windows.{blank-unwritten, window-noted, window-stays}
use Rattle.layout_sweep.specs.Pages.{HasBlank}
use Rattle.layout_sweep.specs.Laws.Least.{within_list}
use Rattle.layout_sweep.specs.Windows.{BeginsLine, IsFirstWrite, blank_window, takes}
use Rattle.layout_sweep.specs.Windows.{window_after, window_line, window_of}
use Rattle.layout_sweep.specs.declared.counts.Swept.{Swept}
use Rattle.layout_sweep.specs.declared.window.Window.{Window}

pub length-sweep_of : (n : ℕ) (t : List Touch) → length (sweep_of n t) ≡ n / 4
length-sweep_of n t = length-map (below (n / 4)) (swept_of n t) ∙ length-below (n / 4)

pub swept-at : (n : ℕ) (t : List Touch) (i : ℕ) → i < n / 4
    → slice_get (sweep_of n t) i ≡ Some (swept_of n t i)
swept-at n t i less = slice_get-map-below (swept_of n t) (n / 4) i less

-- every window, of an access at some address
pub windows-noted : (n w : ℕ) (t : List Touch) (a : Touch) (old new : ℕ → Window) → IsWhole n
    → a.addr / 4 ≡ w
    → ((q : ℕ) → old q ≡ window_of (window_line n q) t)
    → ((q : ℕ) → w < q → q ≤ w + n / 4 → new q ≡ window_after (old q) a)
    → ((q : ℕ) → (q ≤ w) ⊎ (w + n / 4 < q) → new q ≡ old q)
    → (q : ℕ) → new q ≡ window_of (window_line n q) (t ++ a ∷ [])
windows-noted n w t a old new whole word stands inside outside q =
    let away : (q ≤ w) ⊎ (w + n / 4 < q) → new q ≡ window_of (window_line n q) (t ++ a ∷ []) =
    λ there. outside q there ∙ stands q ∙ sym (window-stays (window_line n q) t a
    (window-lacks n q a.addr whole (subst (λ z. (q ≤ z) ⊎ (z + n / 4 < q)) (sym word) there))) in
    elim (cases_lt w q) [
      | inl above ↦ elim (cases_lt (w + n / 4) q) [
        | inl past ↦ away (inr past)
        | inr within ↦
            inside q above within ∙ ap (λ (x : Window). window_after x a) (stands q)
            ∙ sym (window-noted (window_line n q) t a
            (record { some = omega (arith, whole.some); whole = omega (arith, whole.words) })
            (window-holds n q a.addr whole (omega (arith, word, above))
            (omega (arith, word, within)))).window
      ]
      | inr low ↦ away (inl low)
    ]

-- the window of a shift that holds a word
record HasWindow (m w i : ℕ) : Type 0 where
  number : ℕ
  above : w < number
  within : number ≤ w + m
  shift : number % m ≡ i

shift-window : (m w i : ℕ) → i < m → HasWindow m w i
shift-window m w i less =
    let split : w / m * m + w % m ≡ w = div-add-mod' w m in
    let rest : w % m < m = mod-lt w (omega (arith, less)) in
    elim (cases_lt (w % m) i) [
      | inl later ↦ record {
        number = w / m * m + i;
        above = omega (arith, split, later);
        within = omega (arith, split, less);
        shift = mod-mul-add (w / m) m i less;
      }
      | inr sooner ↦ record {
        number = (w / m + 1) * m + i;
        above = omega (arith, split, rest);
        within = omega (arith, split, sooner);
        shift = mod-mul-add (w / m + 1) m i less;
      }
    ]

-- every shift
pub counts-noted : (n w : ℕ) (t : List Touch) (a : Touch) (old : ℕ → Window) (xs ys : List Swept)
    → IsWhole n → a.addr / 4 ≡ w
    → ((q : ℕ) → old q ≡ window_of (window_line n q) t) → xs ≡ sweep_of n t
    → length ys ≡ length xs
    → ((i q : ℕ) → w < q → q ≤ w + n / 4 → q % (n / 4) ≡ i
    → slice_get ys i ≡ option_map (λ x. swept_after x (old q) a) (slice_get xs i))
    → ys ≡ sweep_of n (t ++ a ∷ [])
counts-noted n w t a old xs ys whole word stands was long noted =
    let later : List Touch = t ++ a ∷ [] in
    let short : length xs ≡ n / 4 = ap length was ∙ length-sweep_of n t in
    same_by_get ys (sweep_of n later) (λ i. elim (cases_lt i (n / 4)) [
      | inl within ↦
          let q = shift-window (n / 4) w i within in
          let line = window-of_shift n q.number i a.addr whole (omega (arith, word, q.above))
          (omega (arith, word, q.within)) q.shift in
          noted i q.number q.above q.within q.shift
          ∙ ap (option_map (λ x. swept_after x (old q.number) a))
          (ap (λ zs. slice_get zs i) was ∙ swept-at n t i within)
          ∙ ap (λ (v : Window). Some (swept_after (swept_of n t i) v a))
          (stands q.number ∙ ap (λ l. window_of l t) line)
          ∙ ap Some (sym (swept-push n i t a whole)) ∙ sym (swept-at n later i within)
      | inr past ↦ slice_get_past ys i (omega (arith, long, short, past))
          ∙ sym (slice_get_past (sweep_of n later) i (omega (arith, length-sweep_of n later, past)))
    ])

-- no number grows by more than one
after-below : (x : Swept) (w : Window) (a : Touch) (b : ℕ) → x.total < b → x.lines < b
    → ((swept_after x w a).total < b + 1) × ((swept_after x w a).lines < b + 1)
after-below x w a b total lines =
    elim (cases_Bool (takes w a)) [
      | inl taken ↦ elim (cases_Bool w.taken) [
        | inl before ↦ rw (taken, before) (omega (arith, total), omega (arith, lines))
        | inr first ↦ rw (taken, first) (omega (arith, total), omega (arith, lines))
      ]
      | inr kept ↦ rw kept (omega (arith, total), omega (arith, lines))
    ]

pub counts-below : (m w b : ℕ) (a : Touch) (old : ℕ → Window) (xs ys : List Swept) → AreBelow b xs
    → length xs ≡ m → length ys ≡ length xs
    → ((i q : ℕ) → w < q → q ≤ w + m → q % m ≡ i
    → slice_get ys i ≡ option_map (λ x. swept_after x (old q) a) (slice_get xs i))
    → AreBelow (b + 1) ys
counts-below m w b a old xs ys few size long noted = λ i y at.
    let within : i < length ys = within_list ys i y at in
    let q = shift-window m w i (omega (arith, within, long, size)) in
    let is = noted i q.number q.above q.within q.shift in
    elim (slice_cases (slice_get xs i)) [
      | inl none ↦ absurd (none-some y (sym (ap (option_map (λ x. swept_after x (old q.number) a)) none)
          ∙ sym is ∙ at))
      | inr some ↦
          let same : swept_after some.0 (old q.number) a ≡ y = same_Some _ _
          (sym (ap (option_map (λ x. swept_after x (old q.number) a)) some.1) ∙ sym is ∙ at) in
          let low = few i some.0 some.1 in
          subst (λ (z : Swept). (z.total < b + 1) × (z.lines < b + 1)) same
          (after-below some.0 (old q.number) a b low.0 low.1)
    ]

-- with no access nothing is counted
pub blank-below : (n : ℕ) → AreBelow 1 (sweep_of n [])
blank-below n = λ i x at.
    let within : i < length (sweep_of n []) = within_list (sweep_of n []) i x at in
    let less : i < n / 4 = subst (λ k. i < k) (length-sweep_of n []) within in
    let same : swept_of n [] i ≡ x = same_Some _ _ (sym (swept-at n [] i less) ∙ at) in
    subst (λ (v : Swept). (v.total < 1) × (v.lines < 1)) same (omega arith, omega arith)

-- what a shift counts stands at its place
pub shift-there : (n shift : ℕ) (t : List Touch) → IsWhole n
    → (ltb shift n && eqb (shift % 4) 0) ≡ true
    → slice_get (sweep_of n t) (shift / 4) ≡ at_shift n t shift
shift-there n shift t whole is =
    let parts = and_parts (ltb shift n) (eqb (shift % 4) 0) is in
    let less : shift < n = ltb-true shift n parts.0 in
    let even : shift % 4 ≡ 0 = eqb-true (shift % 4) 0 parts.1 in
    swept-at n t (shift / 4) (omega (arith, less, even, whole.words)) ∙ sym (rw is refl)

pub shift-missing : (n shift : ℕ) (t : List Touch)
    → (ltb shift n && eqb (shift % 4) 0) ≡ false → None ≡ at_shift n t shift
shift-missing n shift t is = sym (rw is refl)

-- where a window of the word is blank, the access is the first write of its line
pub first-write : (n w : ℕ) (t : List Touch) (a : Touch) (old : ℕ → Window) → IsWhole n
    → a.addr / 4 ≡ w → ((q : ℕ) → old q ≡ window_of (window_line n q) t)
    → is_write a.kind ≡ true → HasBlank old w (n / 4) → IsFirstWrite n t a
first-write n w t a old whole word stands writes blank =
    let q : ℕ = blank.number in
    let line = window-of_shift n q (q % (n / 4)) a.addr whole (omega (arith, word, blank.above))
    (omega (arith, word, blank.within)) refl in
    record {
      write = writes;
      shift = q % (n / 4);
      within = mod-lt q whole.some;
      first = subst (λ l. list_any (writes_to (is_inside l)) t ≡ false) line
          (blank-unwritten (window_line n q) t (sym (stands q) ∙ blank.blank));
    }

-- the same of one line
pub line-begins : (n k : ℕ) (t : List Touch) (a : Touch) (w : Window) → k ≡ line_number n 0 a.addr
    → w ≡ window_of (native_line n k) t → is_write a.kind ≡ true → w ≡ blank_window
    → BeginsLine n t a
line-begins n k t a w line stands writes blank = record {
  write = writes;
  first = blank-unwritten (native_line n (line_number n 0 a.addr)) t
      (ap (λ (j : ℕ). window_of (native_line n j) t) (sym line) ∙ sym stands ∙ blank);
}
