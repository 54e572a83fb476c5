-- Notes, and what undoes them.
use Rattle.std.proofs.Common.{◌≡◌, ℕ, ◌+◌, ◌≤◌, Bool, true, false, List, Option, Some, None, sym}
use Rattle.std.proofs.Common.{ap, ◌∙◌, refl, subst, arith}
use Rattle.std.proofs.lemmas.List.{set-set, set-get_or}
use Rattle.std.proofs.lemmas.Option.{get_or_from_slice_get, none-some, slice_get_within}
use Rattle.std.specs.Prelude.{slice_get, slice_set, if◌then◌else◌, is_some}
use Rattle.std.specs.Option.{option_map_or}
use Rattle.base.specs.Touch.{Touch}
use Rattle.base.specs.Ranges.{holds_address}
use Rattle.sharing_rules.specs.Laws.Lists.{get-set_same}
use Rattle.line_tracks.specs.TrackValue.{CanRestore, TrackValue, Marked, mark_of, note_kept}
use Rattle.detector.specs.declared.undo.Undo.{Undo}
use Rattle.detector.specs.Noting.{Undoes, UndoesNote, touched_at}
use Rattle.detector.specs.Watch.{touched}

set_back : (xs : List TrackValue) (i : ℕ) (x : TrackValue) → slice_get xs i ≡ Some x → slice_set xs i x ≡ xs
set_back xs i x at = ap (slice_set xs i) (sym (get_or_from_slice_get xs i x x at))
    ∙ set-get_or xs i x

touched-at : (p : ℕ) (a : Touch) (xs : List TrackValue) (i : ℕ) (x : TrackValue) (o : Option ℕ) → o ≡ Some i
    → slice_get xs i ≡ Some x
    → touched_at p a o xs ≡ slice_set xs i (touched p a x)
touched-at p a xs i x o is at = ap (λ q. touched_at p a q xs) is
    ∙ ap (λ q. option_map_or (λ z. slice_set xs i (touched p a z)) q xs) at

pub touched-misses : (p : ℕ) (a : Touch) (xs : List TrackValue) (i : ℕ) (x : TrackValue) (o : Option ℕ) → o
    ≡ Some i → slice_get xs i ≡ Some x
    → holds_address x.range a.addr ≡ false → xs ≡ touched_at p a o xs
touched-misses p a xs i x o is at misses =
    sym (touched-at p a xs i x o is at ∙ ap (λ b. slice_set xs i (if b then note_kept x p a else x))
    misses ∙ set_back xs i x at)

pub touched-holds : (p : ℕ) (a : Touch) (xs : List TrackValue) (i : ℕ) (x : TrackValue) (o : Option ℕ) → o
    ≡ Some i → slice_get xs i ≡ Some x
    → holds_address x.range a.addr ≡ true → touched_at p a o xs ≡ slice_set xs i (note_kept x p a)
touched-holds p a xs i x o is at holds = touched-at p a xs i x o is at
    ∙ ap (λ b. slice_set xs i (if b then note_kept x p a else x)) holds

-- the mark of a track undoes its note
pub undoes-note : (xs ys : List TrackValue) (i p : ℕ) (a : Touch) (x : TrackValue) (m : Marked)
    → slice_get xs i ≡ Some x → ys ≡ slice_set xs i (note_kept x p a) → m ≡ mark_of x a.addr
    → CanRestore (note_kept x p a) m → UndoesNote (record { place = i; mark = m }) ys xs
undoes-note xs ys i p a x m at is marked ready = record {
  track = x;
  position = p;
  access = a;
  noted = ap (λ zs. slice_get zs i) is
      ∙ get-set_same xs i (note_kept x p a) (slice_get_within xs i x at);
  marked = marked;
  ready = ready;
  back = ap (λ zs. slice_set zs i x) is ∙ set-set xs i (note_kept x p a) x ∙ set_back xs i x at;
}

-- what takes some tracks back takes the same tracks back
pub taken-on : (o : Option Undo) (zs ys xs : List TrackValue) → zs ≡ ys → Undoes o ys xs → Undoes o zs xs
taken-on o zs ys xs same undoes = subst (λ ws. Undoes o ws xs) (sym same) undoes

at_most : (o : Option ℕ) → (if is_some o then 1 else 0) ≤ 1
at_most None = omega arith
at_most (Some i) = omega arith

pub sum_of_four : (o₁ o₂ o₃ o₄ : Option ℕ) (s s₁ s₂ s₃ s₄ : ℕ)
    → s₁ ≤ s + (if is_some o₁ then 1 else 0)
    → s₂ ≤ s₁ + (if is_some o₂ then 1 else 0) → s₃ ≤ s₂ + (if is_some o₃ then 1 else 0)
    → s₄ ≤ s₃ + (if is_some o₄ then 1 else 0)
    → s₄ ≤ s + (if is_some o₁ then 4 else 3)
sum_of_four None o₂ o₃ o₄ s s₁ s₂ s₃ s₄ h₁ h₂ h₃ h₄ =
    omega (arith, at_most o₂, at_most o₃, at_most o₄)
sum_of_four (Some i) o₂ o₃ o₄ s s₁ s₂ s₃ s₄ h₁ h₂ h₃ h₄ =
    omega (arith, at_most o₂, at_most o₃, at_most o₄)

-- at most four notes, one less where the line's own track begins
pub four_steps : (own : Option ℕ) (begins : Bool) (old mid new cost : ℕ)
    → (begins ≡ true → own ≡ None)
    → mid ≤ old + (if is_some own then 4 else 3) → new ≤ mid + (if begins then 1 else 0) + cost
    → new ≤ old + 4 + cost
four_steps None true old mid new cost h m n = omega arith
four_steps None false old mid new cost h m n = omega arith
four_steps (Some i) true old mid new cost h m n = absurd (none-some i (sym (h refl)))
four_steps (Some i) false old mid new cost h m n = omega arith
