-- What one access more makes of what a list makes of each line.
use Rattle.std.proofs.Common.{◌≡◌, ℕ, true, false, eqb, List, [], ◌∷◌, ◌++◌, length}
use Rattle.std.proofs.Common.{refl, sym, ap, ◌∙◌, subst, arith, inl, inr}
use Rattle.std.proofs.lemmas.Bool.{cases_Bool, eq-eqb}
use Rattle.std.proofs.lemmas.Bool.Decides.{nat_tests}
use Rattle.std.specs.List.{list_any}
use Rattle.std.specs.Prelude.{is_some, nat_eq}
use Rattle.indexmap.specs.IndexMap.{insert_entry}
use Rattle.base.specs.Lines.{Grid}
use Rattle.misses.specs.MissCounts.{accessed_lines}
use Rattle.sharing_rules.specs.Laws.Sums.{AgreeBut}
use Rattle.misses.specs.Laws.Entered.{entries, insert-entries, lookup-entries}
use Rattle.misses.specs.Laws.KeptLines.{note_arrival-any}
use Rattle.misses.specs.Laws.KeptOf.{lines-push}
use Rattle.sharing_rules.specs.Arrivals.{note_arrival}
use Rattle.sharing_rules.specs.Laws.Arrivals.{each_once-distinct}
use Rattle.sharing_rules.specs.Laws.Lists.{by_push}
use Rattle.sharing_rules.specs.Lines.{grid_line}
use Rattle.sharing_rules.specs.Places.{count_places}
use Rattle.invalidations.specs.declared.blame_tables.LineTaken.{LineTaken}
use Rattle.invalidations.specs.declared.latest.LatestTwo.{LatestTwo}
use Rattle.invalidations.specs.declared.sited.Sited.{Sited}
use Rattle.invalidations.specs.BlameKept.{line_of, note_line, taken_in_list, taken_of, untouched}
use Rattle.invalidations.specs.LineInvalidations.{invalidation_by, two_of}
use Rattle.invalidations.specs.Latest.{accesses_of, latest, latest_place}
use Rattle.invalidations.specs.Laws.Latest.{accesses_of-push}
use Rattle.invalidations.specs.Laws.Invalidations.{count-push}
use Rattle.invalidations.specs.Laws.Two.{invalidation-elsewhere, invalidation-two, two_of-elsewhere}
use Rattle.invalidations.specs.Laws.Two.{two_of-push}
use Rattle.invalidations.specs.Invalidations.{is_in}

abbrev line_with : LatestTwo → ℕ → LineTaken
line_with x n = record { two = x; invalidations = n }

same_line : (x y : LatestTwo) (m n : ℕ) → x ≡ y → m ≡ n → line_with x m ≡ line_with y n
same_line x y m n e f = ap (λ k. line_with k m) e ∙ ap (line_with y) f

-- an access elsewhere, and one in the line
pub line-elsewhere : (g : Grid) (r : ℕ) (u : List Sited) (s : Sited)
    → is_in (grid_line g r) s ≡ false → taken_in_list g (u ++ s ∷ []) r ≡ taken_in_list g u r
line-elsewhere g r u s out =
    same_line _ _ _ _
    (two_of-elsewhere (grid_line g r) u s out)
    (count-push (grid_line g r) 0 u s ∙ rw (invalidation-elsewhere (grid_line g r) 0 u s out) refl)

pub line-own : (g : Grid) (r : ℕ) (u : List Sited) (s : Sited)
    → is_in (grid_line g r) s ≡ true
    → taken_in_list g (u ++ s ∷ []) r
    ≡ note_line (taken_in_list g u r) s
    (is_some (invalidation_by (two_of (grid_line g r) u) 0 (length u) s))
line-own g r u s i =
    same_line _ _ _ _
    (two_of-push (grid_line g r) u s i)
    (count-push (grid_line g r) 0 u s ∙ rw (invalidation-two (grid_line g r) 0 u s i) refl)

line-empty : (g : Grid) (r : ℕ) → taken_in_list g [] r ≡ untouched
unfolding count_places latest latest_place
line-empty g r = refl

other_line : (g : Grid) (r : ℕ) (s : Sited) → eqb r (line_of g s) ≡ false
    → is_in (grid_line g r) s ≡ false
other_line g r s e = grind (arith, nat_tests)

own_line : (g : Grid) (s : Sited) → is_in (grid_line g (line_of g s)) s ≡ true
own_line g s = eq-eqb (line_of g s) (line_of g s) refl

abbrev pub lines_in : Grid → List Sited → List ℕ
lines_in g u = accessed_lines g (accesses_of u)

pub lines_in-push : (g : Grid) (u : List Sited) (s : Sited)
    → lines_in g (u ++ s ∷ []) ≡ note_arrival (lines_in g u) (line_of g s)
lines_in-push g u s =
    ap (accessed_lines g) (accesses_of-push u s) ∙ lines-push g (accesses_of u) s.access

-- a line without any access is untouched
never-touched : (g : Grid) (r : ℕ) (u : List Sited) → list_any (eqb r) (lines_in g u) ≡ false
    → taken_in_list g u r ≡ untouched
never-touched g r u =
    by_push (λ (u : List Sited). list_any (eqb r) (lines_in g u) ≡ false
    → taken_in_list g u r ≡ untouched)
    (λ e. line-empty g r)
    (λ u s ih never.
    let parts = note_arrival-any r (line_of g s) (lines_in g u)
    (subst (λ ks. list_any (eqb r) ks ≡ false) (lines_in-push g u s) never) in
    line-elsewhere g r u s (other_line g r s parts.0) ∙ ih parts.1)
    u

-- what a list makes of all lines that it accesses, and of any
abbrev pub lines_made : Grid → List Sited → List (ℕ × LineTaken)
lines_made g u = entries (taken_in_list g u) (lines_in g u)

pub taken_of-made : (g : Grid) (u : List Sited) (r : ℕ)
    → taken_of (lines_made g u) r ≡ taken_in_list g u r
taken_of-made g u r =
    rw (lookup-entries (taken_in_list g u) (lines_in g u) r)
    (elim (cases_Bool (list_any (eqb r) (lines_in g u))) [
      | inl there ↦ rw there refl
      | inr never ↦ rw never (sym (never-touched g r u never))
    ])

-- an access more is an access more of its own line
pub lines_made-push : (g : Grid) (u : List Sited) (s : Sited)
    → lines_made g (u ++ s ∷ [])
    ≡ insert_entry nat_eq (lines_made g u) (line_of g s)
    (note_line (taken_in_list g u (line_of g s)) s
    (is_some (invalidation_by (two_of (grid_line g (line_of g s)) u) 0 (length u) s)))
lines_made-push g u s =
    let r = line_of g s in
    let agree : AgreeBut r (taken_in_list g u) (taken_in_list g (u ++ s ∷ [])) =
    λ j other. line-elsewhere g j u s
    (let e : eqb j r ≡ false = grind (arith, nat_tests) in other_line g j s e) in
    ap (entries (taken_in_list g (u ++ s ∷ []))) (lines_in-push g u s)
    ∙ sym (insert-entries (taken_in_list g u) (taken_in_list g (u ++ s ∷ [])) (lines_in g u) r
    (each_once-distinct _) agree)
    ∙ ap (insert_entry nat_eq (lines_made g u) r) (line-own g r u s (own_line g s))
