-- Where tracks of each kind lie.
use Rattle.std.proofs.Common.{◌≡◌, ℕ, ◌+◌, ◌-◌, ◌*◌, ◌/◌, ◌<◌, ◌≤◌, true, pos, ◌+ℤ◌, ◌-ℤ◌, sym, ap}
use Rattle.std.proofs.Common.{◌∙◌, ◌⊎◌, arith, inl, inr}
use Rattle.std.proofs.lemmas.Bool.{cases_lt, and_parts, eqb-true}
use Rattle.std.proofs.lemmas.Int.{ints}
use Rattle.std.proofs.lemmas.Nat.{div-mul-add}
use Rattle.std.specs.Prelude.{nat_abs, int_le, int_lt}
use Rattle.base.specs.Lines.{Grid, line_number}
use Rattle.base.specs.Ranges.{holds_address}
use Rattle.base.specs.declared.layout.Range.{Range}
use Rattle.sharing_rules.specs.Lines.{grid_line}
use Rattle.sharing_rules.specs.declared.line_kind.LineKind.{LineKind}
use Rattle.sharing_rules.specs.declared.line_kind.LineKind.TheVariants.{Observed, Shifted, Doubled}
use Rattle.line_tracks.specs.Laws.WordLines.{held-inside}
use Rattle.detector.specs.Named.{line_of_base}
use Rattle.detector.specs.Index.{IsShaped}
use Rattle.sharing_rules.specs.Laws.Bases.{base_is}

line_from_base : (g : Grid) (k d : ℕ) (r : Range) → d < g.size → r.base
    ≡ (pos (k * g.size + g.offset + d) -ℤ pos g.size)
    → line_of_base g r ≡ k
line_from_base g k d r less e =
    ap (λ b. nat_abs (b +ℤ pos g.size -ℤ pos g.offset) / g.size) e
    ∙ ap (λ m. m / g.size) (base_is (k * g.size) g.size g.offset d)
    ∙ div-mul-add k g.size d less

plus_zero : (n : ℕ) → n ≡ n + 0
plus_zero n = omega arith

pub line_from_base_0 : (g : Grid) (k : ℕ) (r : Range) → 0 < g.size → r.base
    ≡ (pos (k * g.size + g.offset) -ℤ pos g.size) → line_of_base g r ≡ k
line_from_base_0 g k r some e = line_from_base g k 0 r some
    (e ∙ ap (λ z. pos z -ℤ pos g.size) (plus_zero (k * g.size + g.offset)))

-- it begins in its line
pub shaped-line : (g : Grid) (k : ℕ) (kind : LineKind) (r : Range) → 0 < g.size
    → IsShaped g k kind r → line_of_base g r ≡ k
shaped-line g k Observed r some h = line_from_base_0 g k r some (ap (λ (q : Range). q.base) h.0)
shaped-line g k Shifted r some h = let w = h.2 in line_from_base g k w.0 r w.1 w.2
shaped-line g k Doubled r some h = line_from_base_0 g k r some h.2

two_lines : (n j q : ℕ) → 0 < n → j * n ≤ q → q < j * n + n + n → (q / n ≡ j) ⊎ (q / n ≡ j + 1)
two_lines n j q some low high =
    elim (cases_lt q (j * n + n)) [
      | inl near ↦ inl (let is : q ≡ j * n + (q - j * n) = omega arith in let less : q - j * n < n =
          omega arith in ap (λ z. z / n) is
          ∙ div-mul-add j n (q - j * n) less)
      | inr far ↦
          let next : (j + 1) * n ≡ j * n + n = omega arith in
          let is : q ≡ (j + 1) * n + (q - (j * n + n)) = omega arith in
          let less : q - (j * n + n) < n = omega arith in
          inr (ap (λ z. z / n) is ∙ div-mul-add (j + 1) n (q - (j * n + n)) less)
    ]

held_from : (b : ℕ) (n size a : ℕ) → holds_address (record { base = pos b -ℤ pos n; size = size }) a
    ≡ true → (b ≤ a + n)
    × (a + n < b + size)
held_from b n size a h =
    let k = and_parts (int_le (pos b -ℤ pos n) (pos a))
    (int_lt (pos a) (pos b -ℤ pos n +ℤ pos size)) h in
    let low = k.0 in
    let high = k.1 in
    (grind (arith, ints), grind (arith, ints))

held_between : (g : Grid) (j d size a : ℕ) (r : Range) → 0 < g.size → r.base
    ≡ (pos (j * g.size + g.offset + d) -ℤ pos g.size)
    → r.size ≡ size → d + size ≤ g.size + g.size
    → holds_address r a ≡ true → (line_number g.size g.offset a ≡ j)
    ⊎ (line_number g.size g.offset a ≡ j + 1)
held_between g j d size a r some base sized within h =
    let h' = rw (base, sized) at h in
    let k = held_from (j * g.size + g.offset + d) g.size size a h' in
    let low = k.0 in
    let high = k.1 in
    two_lines g.size j (a + g.size - g.offset) some (omega arith) (omega arith)

-- it holds addresses of its line alone, or of its line and the next one
abbrev pub Reaches : LineKind → ℕ → ℕ → Type 0
Reaches Observed j k = k ≡ j
Reaches Shifted j k = (k ≡ j) ⊎ (k ≡ j + 1)
Reaches Doubled j k = (k ≡ j) ⊎ (k ≡ j + 1)

pub shaped-reaches : (g : Grid) (j : ℕ) (kind : LineKind) (r : Range) (a : ℕ) → g.offset < g.size
    → IsShaped g j kind r
    → holds_address r a ≡ true → Reaches kind j (line_number g.size g.offset a)
shaped-reaches g j Observed r a small h held =
    eqb-true (line_number g.size g.offset a) j (held-inside (grid_line g j) a small
    (ap (λ q. holds_address q a) (sym h.0) ∙ held))
shaped-reaches g j Shifted r a small h held =
    let w = h.2 in
    let less : w.0 < g.size = w.1 in
    held_between g j w.0 g.size a r (omega arith) w.2 h.1 (omega arith) held
shaped-reaches g j Doubled r a small h held =
    held_between g j 0 (2 * g.size) a r (omega arith)
    (h.2 ∙ ap (λ z. pos z -ℤ pos g.size) (plus_zero (j * g.size + g.offset))) h.1
    (omega arith) held
