-- What one access more makes of a recount.
use Rattle.std.proofs.Common.{◌≡◌, ℕ, ◌+◌, ◌*◌, ◌%◌, ◌<◌, ◌&&◌, Bool, true, false, List, [], ◌∷◌}
use Rattle.std.proofs.Common.{◌++◌, Option, None, Some, refl, sym, ap, ◌∙◌, arith}
use Rattle.std.proofs.Math.Nat.{add-zero}
use Rattle.std.proofs.lemmas.Int.{ints}
use Rattle.std.proofs.lemmas.List.{map-append}
use Rattle.std.specs.Option.{option_map_or}
use Rattle.std.specs.Prelude.{if◌then◌else◌, int_le, pos, ℤ, ◌+ℤ◌, ◌-ℤ◌}
use Rattle.base.specs.Lines.{line_number}
use Rattle.base.specs.Touch.{Touch}
use Rattle.base.specs.declared.layout.Range.{Range}
use Rattle.sharing_rules.specs.Lines.{line_at, native_grid}
use Rattle.layout_sweep.specs.Laws.Totals.{part-push}
use Rattle.layout_sweep.specs.Windows.{takes, window_of}
use Rattle.placement.specs.Plans.{Planned, moved, moved_list}
use Rattle.placement.specs.Recounts.{is_line_in, is_of_many, many_count, total_in}

-- a line by the address at which it ends
pub line-ends : (n k end : ℕ) (r : Range) → end ≡ k * n
    → (int_le r.base (pos end -ℤ pos n) && int_le (pos end) (r.base +ℤ pos r.size))
    ≡ is_line_in n r k
line-ends n k end r is =
    let c : ℕ = k * n + 0 in
    let same : end ≡ c = omega (arith, is) in
    let back : (pos c -ℤ pos n +ℤ pos n) ≡ pos c = omega (arith, ints) in
    ap (λ (m : ℕ). int_le r.base (pos m -ℤ pos n) && int_le (pos m) (r.base +ℤ pos r.size)) same
    ∙ ap (λ (z : ℤ). int_le r.base (pos c -ℤ pos n) && int_le z (r.base +ℤ pos r.size)) (sym back)

pub moved-push : (p : Planned) (t : List Touch) (a : Touch)
    → moved_list p (t ++ a ∷ []) ≡ moved_list p t ++ moved p a ∷ []
moved-push p t a = map-append (moved p) t (a ∷ [])

-- the part on the lines of a range, if there is one
part-in : (n many : ℕ) (o : Option Range) (t : List Touch) (a : Touch) (taken : Bool) → 0 < n
    → n % 4 ≡ 0 → many ≡ option_map_or (λ r. total_in n r t) o 0
    → taken ≡ takes (window_of (line_at (native_grid n) a.addr) t) a
    → (if taken && option_map_or (λ r. is_line_in n r (line_number n 0 a.addr)) o false then many + 1
    else many) ≡ option_map_or (λ r. total_in n r (t ++ a ∷ [])) o 0
part-in n many None t a true some whole was is = was
part-in n many None t a false some whole was is = was
part-in n many (Some r) t a taken some whole was is =
    let inside : Bool = is_line_in n r (line_number n 0 a.addr) in
    counted (taken && inside)
    ∙ ap (λ (s : ℕ). s + (if taken && inside then 1 else 0)) was
    ∙ ap (λ (b : Bool). total_in n r t + (if b && inside then 1 else 0)) is
    ∙ sym (part-push (is_line_in n r) (native_grid n) t a (some, whole))
  where
    counted : (b : Bool) → (if b then many + 1 else many) ≡ many + (if b then 1 else 0)
    counted true = refl
    counted false = sym (add-zero many)

pub many-push : (n many : ℕ) (p : Planned) (t : List Touch) (a b : Touch) (taken : Bool) → 0 < n
    → n % 4 ≡ 0 → many ≡ many_count n p t → b ≡ moved p a
    → taken ≡ takes (window_of (line_at (native_grid n) b.addr) (moved_list p t)) b
    → (if taken && is_of_many n p b.addr then many + 1 else many) ≡ many_count n p (t ++ a ∷ [])
many-push n many p t a b taken some whole was there is =
    part-in n many p.many (moved_list p t) b taken some whole was is
    ∙ ap (λ (c : Touch). option_map_or (λ r. total_in n r (moved_list p t ++ c ∷ [])) p.many 0) there
    ∙ ap (λ (u : List Touch). option_map_or (λ r. total_in n r u) p.many 0) (sym (moved-push p t a))
