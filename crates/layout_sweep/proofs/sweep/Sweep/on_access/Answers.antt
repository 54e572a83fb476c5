-- What was noted in the windows of the word is what the list with the access makes of them.
use Rattle.std.proofs.Common.{◌≡◌, ℕ, ◌+◌, ◌/◌, ◌%◌, ◌<◌, ◌≤◌, ◌⊎◌, ◌∙◌, sym, ap, subst, arith, length}
use Rattle.std.proofs.Common.{List, [], ◌∷◌, slice_get, length-append}
use Rattle.std.proofs.lemmas.List.{with_items_is}
use Rattle.std.specs.Prelude.{option_map}
use Rattle.base.specs.Touch.{Touch}
use Rattle.layout_sweep.specs.Counts.{AreBelow, swept_after}
use Rattle.layout_sweep.specs.Laws.Lines.{size-whole}
use Rattle.layout_sweep.specs.Laws.Standing.{counts-below, counts-noted, first-write}
use Rattle.layout_sweep.specs.Laws.Standing.{windows-noted}
use Rattle.layout_sweep.specs.Pages.{HasBlank, window_at}
use Rattle.layout_sweep.specs.Windows.{window_after, window_line, window_of}
use Rattle.layout_sweep.specs.declared.counts.Swept.{Swept}
use Rattle.layout_sweep.specs.declared.window.Window.{Window}
use Rattle.layout_sweep.proofs.sweep.Sweep.on_access.Goals as goal

-- what each shift counts after an access of word w, of k shifts
abbrev AreNoted : (w k : ℕ) (xs ys : List Swept) (f : ℕ → Window) (a : Touch) → Type 0
AreNoted w k xs ys f a =
    (i q : ℕ) → w < q → q ≤ w + k → q % k ≡ i
    → slice_get ys i ≡ option_map (λ x. swept_after x (f q) a) (slice_get xs i)

noted_of : (w k : ℕ) (view xs ys : List Swept) (f : ℕ → Window) (a : Touch) → view ≡ xs
    → length xs ≡ k → AreNoted w (length view) view ys f a → AreNoted w k xs ys f a
noted_of w k view xs ys f a same size noted =
    subst (λ (j : ℕ). AreNoted w j xs ys f a) size
    (subst (λ (zs : List Swept). AreNoted w (length zs) zs ys f a) same noted)

pub invariant_of-self-2 : goal.invariant_of-self-2
invariant_of-self-2 g c =
    let s = c.args.self.now in
    let w : ℕ = c.from-word.result in
    let ys = c.note_word.new.counts in
    let old = window_at c.make_room.new.pages.items in
    let long : length ys ≡ length s.counts.items =
    c.note_word.ensures.long ∙ ap length c.as_mut_slice.ensures.value in
    let is = with_items_is s.counts ys (long ∙ sym s.counts.ok.0) in
    record {
      sized = s.sized;
      each = ap length is ∙ long ∙ s.each;
      few = subst (AreBelow (s.position + 1 + 1)) (sym is)
          (counts-below (s.size / 4) w (s.position + 1) c.args.access old s.counts.items ys s.few
          s.each long
          (noted_of w (s.size / 4) c.as_mut_slice.result.now s.counts.items ys old c.args.access
          c.as_mut_slice.ensures.value s.each c.note_word.ensures.counts));
    }

pub returns-clause-stands : goal.returns-clause-stands
returns-clause-stands g c = λ t stood.
    let s = c.args.self.now in
    let a = c.args.access in
    let w : ℕ = c.from-word.result in
    let ys = c.note_word.new.counts in
    let old = window_at c.make_room.new.pages.items in
    let view = c.as_mut_slice.result.now in
    let size : length view ≡ s.size / 4 = ap length c.as_mut_slice.ensures.value ∙ s.each in
    let long : length ys ≡ length s.counts.items =
    c.note_word.ensures.long ∙ ap length c.as_mut_slice.ensures.value in
    let word : a.addr / 4 ≡ w = omega (arith, c.from-word.ensures, c.addr.ensures) in
    let whole = size-whole s.size s.sized in
    let stands : (q : ℕ) → old q ≡ window_of (window_line s.size q) t =
    λ q. c.in-Ok.ensures.same q ∙ stood.windows q in
    record {
      position = omega (arith, stood.position, length-append t (a ∷ []));
      windows = windows-noted s.size w t a old (window_at c.note_word.new.pages.items) whole word
          stands
          (subst (λ (k : ℕ). (q : ℕ) → w < q → q ≤ w + k
          → window_at c.note_word.new.pages.items q ≡ window_after (old q) a) size
          c.note_word.ensures.inside)
          (subst (λ (k : ℕ). (q : ℕ) → (q ≤ w) ⊎ (w + k < q)
          → window_at c.note_word.new.pages.items q ≡ old q) size c.note_word.ensures.outside);
      counts = with_items_is s.counts ys (long ∙ sym s.counts.ok.0)
          ∙ counts-noted s.size w t a old s.counts.items ys whole word stands stood.counts long
          (noted_of w (s.size / 4) view s.counts.items ys old a c.as_mut_slice.ensures.value s.each
          c.note_word.ensures.counts);
    }

pub returns-in-Err-clause-known : goal.returns-in-Err-clause-known
returns-in-Err-clause-known g c = λ t stood.
    let s = c.args.self.now in
    let w : ℕ = c.from-word.result in
    let word : c.args.access.addr / 4 ≡ w = omega (arith, c.from-word.ensures, c.addr.ensures) in
    let words : c.from-words.result ≡ s.size / 4 = omega (arith, c.from-words.ensures) in
    first-write s.size w t c.args.access (window_at s.pages.items) (size-whole s.size s.sized) word
    stood.windows c.in-Err.ensures.blank.0
    (subst (HasBlank (window_at s.pages.items) w) words c.in-Err.ensures.blank.1)
