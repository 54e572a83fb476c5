-- The windows on each side of the cut, one row after the other.
use Rattle.std.proofs.Common.{◌≡◌, ℕ, ◌+◌, ◌-◌, ◌%◌, ◌<◌, ◌≤◌, ◌⊎◌, ◌∙◌, sym, ap, subst, arith, length}
use Rattle.std.proofs.Common.{slice_get}
use Rattle.std.specs.Prelude.{option_map}
use Rattle.layout_sweep.specs.Counts.{swept_after}
use Rattle.layout_sweep.specs.Laws.Lines.{cut_is}
use Rattle.layout_sweep.specs.Pages.{window_at}
use Rattle.layout_sweep.proofs.WordLaws.{counted_word, noted_inside}
use Rattle.layout_sweep.proofs.pages.note_apart.Goals as goal

pub returns-clause-inside : goal.returns-clause-inside
returns-clause-inside g c =
    let w : ℕ = c.args.word in
    let m : ℕ = length c.args.counts.now in
    let cut : ℕ = w - w % m + m in
    let front = c.split_at_mut-front.result.0.now in
    let back = c.split_at_mut-front.result.1.now in
    let front_size : length front ≡ w % m + 1 = c.split_at_mut-front.ensures.front_len in
    let back_size : length back ≡ m - (w % m + 1) =
    omega (arith, c.split_at_mut-front.ensures.back_len) in
    noted_inside m w cut c.args.access (window_at c.args.pages.now.items)
    (window_at c.note_windows.new.pages.items) (window_at c.note_windows-2.new.pages.items)
    (cut_is m w c.requires.sized)
    (record {
      upper = λ i less. c.note_windows.ensures.inside i
          (subst (λ (k : ℕ). i < k) (sym front_size) less);
      below = λ q away. c.note_windows.ensures.outside q
          (subst (λ (k : ℕ). (q < cut) ⊎ (cut + k ≤ q)) (sym front_size) away);
      lower = λ i less. c.note_windows-2.ensures.inside i
          (subst (λ (k : ℕ). i < k) (sym back_size) less);
      above = λ q away. c.note_windows-2.ensures.outside q
          (subst (λ (k : ℕ). (q < w + 1) ⊎ (w + 1 + k ≤ q)) (sym back_size) away);
    })

pub returns-clause-counts : goal.returns-clause-counts
returns-clause-counts g c = λ i q first last shift.
    let w : ℕ = c.args.word in
    let m : ℕ = length c.args.counts.now in
    let cut : ℕ = w - w % m + m in
    let front = c.split_at_mut-front.result.0.now in
    let back = c.split_at_mut-front.result.1.now in
    let front_size : length front ≡ w % m + 1 = c.split_at_mut-front.ensures.front_len in
    let old = window_at c.args.pages.now.items in
    counted_word m w cut c.args.access old (window_at c.note_windows.new.pages.items) front back
    c.note_windows.new.counts c.note_windows-2.new.counts (cut_is m w c.requires.sized) front_size
    (λ r away. c.note_windows.ensures.outside r
    (subst (λ (k : ℕ). (r < cut) ⊎ (cut + k ≤ r)) (sym front_size) away))
    (record {
      front_long = c.note_windows.ensures.long;
      upper = c.note_windows.ensures.counts;
      lower = c.note_windows-2.ensures.counts;
    })
    i q first last shift
    ∙ ap (λ xs. option_map (λ x. swept_after x (old q) c.args.access) (slice_get xs i))
    (sym c.split_at_mut-front.ensures.value)
