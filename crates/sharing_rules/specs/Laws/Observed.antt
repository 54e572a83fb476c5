-- The written lines and the observed lines: which they are, one access more, and that no two
-- observed lines tie.
use Rattle.std.proofs.Common.{◌≡◌, ℕ, ◌+◌, Bool, true, false, eqb, ◌&&◌, ◌||◌, List, [], ◌∷◌, ◌++◌}
use Rattle.std.proofs.Common.{Some, refl, sym, ap, ◌∙◌, subst, inl, inr}
use Rattle.std.proofs.lemmas.List.{append-nil, map-append}
use Rattle.std.proofs.lemmas.List.Folds.{list_any-append}
use Rattle.std.proofs.lemmas.List.Elements.{filter-append}
use Rattle.std.proofs.lemmas.Bool.{cases_Bool, false≢true, and_parts, eqb-true}
use Rattle.std.proofs.Math.Bool.{or-false, or-true}
use Rattle.std.specs.Prelude.{if◌then◌else◌, filter, option_map, slice_get, take}
use Rattle.std.specs.Cmp.{nat_eq_equiv}
use Rattle.std.specs.List.{list_any}
use Rattle.base.specs.Touch.{Touch, is_write}
use Rattle.base.specs.Lines.{Grid, line_number}
use Rattle.sharing_rules.specs.AccessLists.{writes_to}
use Rattle.sharing_rules.specs.Arrivals.{note_arrival}
use Rattle.sharing_rules.specs.Lines.{is_inside}
use Rattle.sharing_rules.specs.Observed.{write_count, observed_start, written_lines}
use Rattle.sharing_rules.specs.Listed.{found, observed_lines}
use Rattle.sharing_rules.specs.declared.line_kind.LineKind.TheVariants.{Observed}
use Rattle.sharing_rules.specs.Laws.Places.{first_place-passes}
use Rattle.sharing_rules.specs.Laws.Arrivals.{each_once-push}
use Rattle.sharing_rules.specs.Lines.{grid_line}
use Rattle.sharing_rules.specs.Members.{Member}
use Rattle.sharing_rules.specs.Laws.Lists.{Member-from_any, any_get, by_push}
use Rattle.sharing_rules.specs.Laws.Lists.{filter_map-Member, slice_cases}

-- one access more
pub written_lines-push : (g : Grid) (t : List Touch) (a : Touch)
    → written_lines g (t ++ a ∷ []) ≡ (if is_write a.kind then note_arrival (written_lines g t)
    (line_number g.size g.offset a.addr) else written_lines g t)
written_lines-push g t a =
    elim (cases_Bool (is_write a.kind)) [
      | inl w ↦
          rw (
            filter-append (λ (b : Touch). is_write b.kind) t (a ∷ []),
            w,
            map-append (λ (b : Touch). line_number g.size g.offset b.addr)
                (filter (λ (b : Touch). is_write b.kind) t) (a ∷ []),
            each_once-push,
          )
      | inr w ↦ rw (
        filter-append (λ (b : Touch). is_write b.kind) t (a ∷ []),
        w,
        append-nil (filter (λ (b : Touch). is_write b.kind) t),
      )
    ]

note_arrival-any : (k x : ℕ) (ks : List ℕ) → list_any (eqb k) (note_arrival ks x) ≡
    (list_any (eqb k) ks || eqb k x)
note_arrival-any k x ks =
    elim (cases_Bool (list_any (eqb x) ks)) [
      | inl u ↦ elim (cases_Bool (eqb k x)) [
        | inl e ↦ rw (u, e, or-true)
            (subst (λ z. list_any (eqb z) ks ≡ true) (sym (eqb-true k x e)) u)
        | inr e ↦ rw (u, e, or-false)
      ]
      | inr u ↦ rw (u, list_any-append (eqb k) ks (x ∷ []), or-false)
    ]

-- line k is among the written lines exactly where an access writes to it
pub written_lines-any : (g : Grid) (t : List Touch) (k : ℕ) → list_any (eqb k) (written_lines g t)
    ≡ list_any (writes_to (λ a. eqb (line_number g.size g.offset a) k)) t
written_lines-any g t k =
    by_push (λ (t : List Touch). list_any (eqb k) (written_lines g t) ≡ list_any
    (writes_to (λ a. eqb (line_number g.size g.offset a) k)) t)
    refl
    (λ t a ih.
    rw (
      written_lines-push g t a,
      list_any-append
          (writes_to (λ a. eqb (line_number g.size g.offset a) k)) t (a ∷ []),
      or-false,
    )
    (elim (cases_Bool (is_write a.kind)) [
      | inl w ↦ rw (w, note_arrival-any, ih)
          (ap (λ z. list_any (writes_to (λ a. eqb (line_number g.size g.offset a) k)) t || z)
          (nat_eq_equiv.symm k (line_number g.size g.offset a.addr)))
      | inr w ↦ rw (w, or-false) ih
    ]))
    t

-- an observed line was written
pub observed_written : (T : ℕ) (inside : ℕ → Bool) (t : List Touch) (s : ℕ)
    → observed_start T inside t ≡ Some s → list_any (writes_to inside) t ≡ true
observed_written T inside t s e =
    let k = first_place-passes
    (λ before a. writes_to inside a && eqb (write_count inside before + 1) T) t s e in
    elim (slice_cases (slice_get t s)) [
      | inl none ↦ let z : false ≡ true = rw none at k in absurd (false≢true z)
      | inr some ↦
          let z : (writes_to inside some.0 && eqb (write_count inside (take s t) + 1) T) ≡ true =
          rw some.1 at k in
          any_get (writes_to inside) t s some.0 some.1 (and_parts _ _ z).0
    ]

pub member-observed_lines : (g : Grid) (T : ℕ) (t : List Touch) (k s : ℕ)
    → observed_start T (is_inside (grid_line g k)) t ≡ Some s
    → Member (found t Observed (grid_line g k) s) (observed_lines g T t)
member-observed_lines g T t k s e =
    filter_map-Member
    (λ k. option_map (found t Observed (grid_line g k))
    (observed_start T (is_inside (grid_line g k)) t)) (written_lines g t) k
    (found t Observed (grid_line g k) s)
    (Member-from_any k (written_lines g t) (written_lines-any g t k
    ∙ observed_written T (is_inside (grid_line g k)) t s e))
    (ap (option_map (found t Observed (grid_line g k))) e)
