-- What is left of judging records once their fields are read.
use Rattle.std.proofs.Common.{◌≡◌, ℕ, ◌+◌, ◌%◌, ◌≤◌, ◌<◌, true, false, eqb, leb, ltb, List, length}
use Rattle.std.proofs.Common.{get_or, take, drop, Option, Some, Result, Ok, Err, refl, ap}
use Rattle.std.proofs.Common.{sym, ◌∙◌, arith}
use Rattle.std.specs.Int.{w16, w32}
use Rattle.std.specs.List.{list_any}
use Rattle.std.proofs.lemmas.Bool.Decides.{nat_tests}
use Rattle.std.proofs.lemmas.List.{take_all, take-take, length-drop, length-take-le}
use Rattle.base.specs.Names.{name_of}
use Rattle.objects.specs.declared.symbol.SymbolKind.{SymbolKind}
use Rattle.base.specs.Touch.{Touch}
use Rattle.base.specs.declared.access.Kind.{Kind}
use Rattle.trace_format.specs.declared.before.Before.{Before}
use Rattle.trace_format.specs.declared.fault.TraceFault.{TraceFault}
use Rattle.trace_format.specs.declared.fault.TraceFault.TheVariants as faults
use Rattle.trace_format.specs.declared.record.TraceRecord.TheVariants as records
use Rattle.trace_format.specs.Ahead.{HasNumberAt, with_site}
use Rattle.trace_format.specs.Laws.Extents.{front_still}
use Rattle.trace_format.specs.Numbers.{address_at, are_groups, group_count, number_in}
use Rattle.base.specs.Fields.{number_at}
use Rattle.trace_format.specs.Judging.{short_touch_extent, short_touch_judged}
use Rattle.trace_format.specs.Judging.{sited_touch_extent, sited_touch_judged, symbol_extent}
use Rattle.trace_format.specs.Judging.{symbol_judged}
use Rattle.trace_format.specs.Judging.{symbol_kind_of, with_pc}

-- an address that its size does not divide
pub misaligned_short_touch : (kind : Kind) (size harts last place addr : ℕ) (bytes : List ℕ)
    → get_or bytes 1 0 < harts
    → are_groups (drop 2 bytes) ≡ true → addr ≡ address_at last (number_in (drop 2 bytes))
    → (addr % size ≡ 0 → ⊥) → Err (faults.BadField (place + 2))
    ≡ short_touch_judged kind size harts last place bytes
unfolding short_touch_judged
misaligned_short_touch kind size harts last place addr bytes below spelled is odd =
    let inside : leb harts (get_or bytes 1 0) ≡ false = grind (arith, nat_tests) in
    let off : eqb (addr % size) 0 ≡ false = grind (arith, nat_tests) in
    let off_there : eqb (address_at last (number_in (drop 2 bytes)) % size) 0
    ≡ false = ap (λ (a : ℕ). eqb (a % size) 0) (sym is) ∙ off in
    rw (inside, spelled, off_there) refl

-- an access with a pc is judged by its two parts
pub sited_by_parts : (kind : Kind) (size harts place n : ℕ) (before : Before)
    (bytes front stated : List ℕ)
    → short_touch_extent bytes ≡ n → n ≤ length bytes → front ≡ take n bytes
    → stated ≡ drop n bytes
    → with_pc before (place + length front) stated
    (short_touch_judged kind size harts before.last place front)
    ≡ sited_touch_judged kind size harts before place bytes
unfolding sited_touch_judged
sited_by_parts kind size harts place n before bytes front stated is le front_is stated_is =
    let parts : ℕ → List ℕ → List ℕ → Result (Touch × Option ℕ) TraceFault =
    λ m xs ys. with_pc before (place + m) ys
    (short_touch_judged kind size harts before.last place xs) in
    let size_is : length front ≡ n = ap length front_is ∙ length-take-le n bytes le in
    (λ i. parts (size_is i) (front_is i) (stated_is i))
    ∙ ap (λ (m : ℕ). parts m (take m bytes) (drop m bytes)) (sym is)

-- the two parts of an access with a pc, whose bytes are the front of others
module _ (bytes part : List ℕ) (n m : ℕ) (n_is : n ≡ short_touch_extent bytes)
    (m_is : m ≡ n + group_count (drop n bytes)) (le : m ≤ length bytes)
    (cut : part ≡ take m bytes) where
  pub size_is : m ≡ sited_touch_extent bytes
  size_is = m_is ∙ ap (λ (k : ℕ). k + group_count (drop k bytes)) n_is

  some : 1 ≤ n
  some = omega (arith, n_is)

  pub front_there : short_touch_extent part ≡ n
  front_there =
      let front_some = some in
      let first : short_touch_extent bytes ≤ m = omega (arith, n_is, m_is) in
      let least : 1 ≤ m = omega (arith, front_some, n_is, m_is) in
      ap short_touch_extent cut ∙ front_still bytes m first least le ∙ sym n_is

  long : length part ≡ m
  long = ap length cut ∙ length-take-le m bytes le

  pub enough : n ≤ length part
  enough = omega (arith, long, m_is)

-- a pc whose distance is read
pub site_is_pc : (before : Before) (place z : ℕ) (stated : List ℕ) (touch : Result Touch TraceFault)
    → are_groups stated ≡ true → z ≡ number_in stated
    → with_site before z touch ≡ with_pc before place stated touch
site_is_pc before place z stated (Err fault) spelled is = refl
site_is_pc before place z stated (Ok touch) spelled is = rw (spelled, is) refl

-- an access with a pc, both of whose distances are read
pub sited_by_numbers : (kind : Kind) (size harts place n m z : ℕ) (before : Before)
    (bytes front : List ℕ)
    → n ≡ short_touch_extent bytes → HasNumberAt bytes n z m → front ≡ take n bytes
    → with_site before z (short_touch_judged kind size harts before.last place front)
    ≡ sited_touch_judged kind size harts before place (take m bytes)
sited_by_numbers kind size harts place n m z before bytes front n_is has front_is =
    let le : n ≤ m = omega (arith, has.extent) in
    site_is_pc before (place + length front) z (drop n (take m bytes)) _ has.spelled has.stated
    ∙ sited_by_parts kind size harts place n before (take m bytes) front (drop n (take m bytes))
    (front_there bytes (take m bytes) n m n_is has.extent has.there refl)
    (enough bytes (take m bytes) n m n_is has.extent has.there refl)
    (front_is ∙ sym (take-take n m bytes le)) refl

-- a symbol whose name is short
pub short_symbol : (kind : SymbolKind) (addr size stated place : ℕ) (name bytes : List ℕ)
    → length bytes ≡ symbol_extent bytes
    → Some kind ≡ symbol_kind_of (get_or bytes 1 0)
    → addr ≡ number_at w32 2 bytes → size ≡ number_at w32 6 bytes → (size ≡ 0 → ⊥) → stated
    ≡ number_at w16 10 bytes → stated ≤ 1024
    → list_any (eqb 0) (drop 12 bytes) ≡ false → name ≡ name_of (drop 12 bytes)
    → Ok (records.Symbol kind addr size name) ≡ symbol_judged place bytes
unfolding symbol_judged symbol_extent
short_symbol kind addr size stated place name bytes long known is_addr is_size some is_reported few clean
    named =
    let sized : eqb (number_at w32 6 bytes) 0 ≡ false = ap (λ (n : ℕ). eqb n 0) (sym is_size)
    ∙ grind (arith, nat_tests) in
    let fits : ltb 1024 (number_at w16 10 bytes) ≡ false = ap (λ (n : ℕ). ltb 1024 n) (sym is_reported)
    ∙ grind (arith, nat_tests) in
    let whole : length bytes ≤ 12 + stated = grind (arith, nat_tests) in
    let all : name ≡ drop 12 bytes = named ∙ take_all 1024 (drop 12 bytes)
    (omega (arith, length-drop 12 bytes)) in
    rw (← known, sized, fits, clean, is_addr, is_size, all) refl
