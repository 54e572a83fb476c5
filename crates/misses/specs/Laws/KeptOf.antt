-- One access more of a list is one access more of what is kept of it.
use Rattle.std.proofs.Common.{◌≡◌, ℕ, ◌+◌, ◌/◌, ◌<◌, true}
use Rattle.std.proofs.Common.{false, eqb, List, [], ◌∷◌, ◌++◌, length, refl, sym, ap}
use Rattle.std.proofs.Common.{◌∙◌, subst, arith, inl, inr, map, length-append}
use Rattle.std.proofs.lemmas.Bool.{cases_Bool}
use Rattle.std.proofs.lemmas.Bool.Decides.{nat_tests}
use Rattle.std.proofs.lemmas.List.{map-append}
use Rattle.std.specs.List.{list_any}
use Rattle.std.specs.Prelude.{nat_eq}
use Rattle.indexmap.specs.IndexMap.{insert_entry}
use Rattle.base.specs.Lines.{Grid, is_layout}
use Rattle.base.specs.Touch.{Touch}
use Rattle.sharing_rules.specs.Arrivals.{note_arrival}
use Rattle.sharing_rules.specs.Laws.Arrivals.{each_once-distinct, each_once-push}
use Rattle.sharing_rules.specs.Laws.Lists.{by_push}
use Rattle.sharing_rules.specs.Laws.Tracks.{word_place-within}
use Rattle.sharing_rules.specs.Lines.{Line, grid_line, line_at}
use Rattle.sharing_rules.specs.Places.{count_places}
use Rattle.misses.specs.MissCounts.{MissCounts, LineEntry, StandsFor, accessed_lines, all_counted}
use Rattle.misses.specs.MissCounts.{blank_line}
use Rattle.misses.specs.MissCounts.{cost_in, cost_of, counts_after, entry_of, kept_line, kept_of}
use Rattle.misses.specs.MissCounts.{lines_of, none_counted, note_access, note_in, note_line}
use Rattle.misses.specs.declared.line_misses.Cost.{Cost}
use Rattle.misses.specs.declared.line_misses.Counts.{Counts}
use Rattle.misses.specs.Laws.Entered.{entries, insert-entries, lookup-entries}
use Rattle.sharing_rules.specs.Laws.Sums.{AgreeBut}
use Rattle.misses.specs.Laws.KeptLines.{all_counted-push, cost-own, kept_line-elsewhere}
use Rattle.misses.specs.Laws.KeptLines.{kept_line-own, note_arrival-any, word_index_of}
use Rattle.misses.specs.Laws.WordLines.{layout-sized}
use Rattle.misses.specs.Misses.{is_in}

pub lines-push : (g : Grid) (t : List Touch) (a : Touch)
    → accessed_lines g (t ++ a ∷ []) ≡ note_arrival (accessed_lines g t) (lines_of g a.addr)
lines-push g t a =
    rw (map-append (λ (b : Touch). lines_of g b.addr) t (a ∷ []))
    (each_once-push (map (λ (b : Touch). lines_of g b.addr) t) (lines_of g a.addr))

kept_line-empty : (g : Grid) (r : ℕ) → kept_line g [] r ≡ blank_line (g.size / 4)
unfolding count_places
kept_line-empty g r = refl

other_line : (g : Grid) (r : ℕ) (a : Touch) → eqb r (lines_of g a.addr) ≡ false
    → is_in (lines_of g) r a ≡ false
other_line g r a e = grind (arith, nat_tests)

-- a line without any access is blank
pub never-accessed : (g : Grid) (r : ℕ) (t : List Touch)
    → list_any (eqb r) (accessed_lines g t) ≡ false
    → kept_line g t r ≡ blank_line (g.size / 4)
never-accessed g r t =
    by_push (λ (t : List Touch). list_any (eqb r) (accessed_lines g t) ≡ false
    → kept_line g t r ≡ blank_line (g.size / 4))
    (λ e. kept_line-empty g r)
    (λ t a ih never.
    let parts = note_arrival-any r (lines_of g a.addr) (accessed_lines g t)
    (subst (λ ks. list_any (eqb r) ks ≡ false) (lines-push g t a) never) in
    kept_line-elsewhere g r t a (other_line g r a parts.0) ∙ ih parts.1)
    t

-- the entry of any line
pub entry_of-kept : (g : Grid) (t : List Touch) (r : ℕ)
    → entry_of (kept_of g t).lines r (g.size / 4) ≡ kept_line g t r
entry_of-kept g t r =
    rw (lookup-entries (kept_line g t) (accessed_lines g t) r)
    (elim (cases_Bool (list_any (eqb r) (accessed_lines g t))) [
      | inl there ↦ rw there refl
      | inr never ↦ rw never (sym (never-accessed g r t never))
    ])

lines-noted : (g : Grid) (t : List Touch) (a : Touch) → is_layout g.size g.offset ≡ true
    → (kept_of g (t ++ a ∷ [])).lines
    ≡ note_in (kept_of g t).lines (line_at g a.addr) (length t) a
lines-noted g t a good =
    let r = lines_of g a.addr in
    let sized = layout-sized g.size g.offset good in
    let within : word_index_of g a.addr < g.size / 4 =
    word_place-within (grid_line g (lines_of g a.addr)) a.addr sized.0 sized.1 in
    let agree : AgreeBut r (kept_line g t) (kept_line g (t ++ a ∷ [])) =
    λ j other. kept_line-elsewhere g j t a (let e : eqb j r ≡ false = grind (arith, nat_tests)
    in other_line g j a e) in
    ap (entries (kept_line g (t ++ a ∷ []))) (lines-push g t a)
    ∙ sym (insert-entries (kept_line g t) (kept_line g (t ++ a ∷ [])) (accessed_lines g t) r
    (each_once-distinct _) agree)
    ∙ ap (insert_entry nat_eq (entries (kept_line g t) (accessed_lines g t)) r)
    (kept_line-own g t a good within
    ∙ ap (λ (l : LineEntry). note_line l (length t) (word_index_of g a.addr) a)
    (sym (entry_of-kept g t r)))

abbrev pub same_at : Grid → ℕ → Counts → List (ℕ × LineEntry) → MissCounts
same_at g p c es = record { grid = g; position = p; totals = c; lines = es }

totals-noted : (g : Grid) (t : List Touch) (a : Touch) → is_layout g.size g.offset ≡ true
    → all_counted g (t ++ a ∷ [])
    ≡ counts_after (all_counted g t) (cost_in (kept_of g t).lines (line_at g a.addr) a)
totals-noted g t a good =
    let sized = layout-sized g.size g.offset good in
    let within : word_index_of g a.addr < g.size / 4 =
    word_place-within (grid_line g (lines_of g a.addr)) a.addr sized.0 sized.1 in
    all_counted-push g t a
    ∙ ap (counts_after (all_counted g t))
    (sym (cost-own g t a good within)
    ∙ ap (λ (l : LineEntry). cost_of l (word_index_of g a.addr) a.hart)
    (sym (entry_of-kept g t (lines_of g a.addr))))

same_kept : (g : Grid) (p q : ℕ) (c d : Counts) (es fs : List (ℕ × LineEntry)) → p ≡ q → c ≡ d
    → es ≡ fs → same_at g p c es ≡ same_at g q d fs
same_kept g p q c d es fs e f h =
    ap (λ n. same_at g n c es) e ∙ ap (λ n. same_at g q n es) f ∙ ap (same_at g q d) h

pub kept_of-push : (g : Grid) (t : List Touch) (a : Touch) → is_layout g.size g.offset ≡ true
    → kept_of g (t ++ a ∷ []) ≡ note_access (kept_of g t) a
kept_of-push g t a good =
    same_kept g _ _ _ _ _ _ (length-append t (a ∷ [])) (totals-noted g t a good)
    (lines-noted g t a good)

-- so where what is kept stands for a list, it stands for the longer one after the access
pub stands-push : (t : List Touch) (k : MissCounts) (a : Touch)
    → is_layout k.grid.size k.grid.offset ≡ true
    → StandsFor t k → StandsFor (t ++ a ∷ []) (note_access k a)
stands-push t k a good stands =
    ap (λ (x : MissCounts). note_access x a) stands ∙ sym (kept_of-push k.grid t a good)

-- the empty list
pub kept_of-empty : (g : Grid) (es : List (ℕ × LineEntry)) → es ≡ []
    → same_at g 0 none_counted es ≡ kept_of g []
unfolding count_places
kept_of-empty g es none = ap (same_at g 0 none_counted) none

-- what was noted part by part
pub stands-noted : (t : List Touch) (g : Grid) (p : ℕ) (c d : Counts)
    (es fs : List (ℕ × LineEntry)) (l : Line) (a : Touch) (cost : Cost)
    → is_layout g.size g.offset ≡ true → l ≡ line_at g a.addr → cost ≡ cost_in es l a
    → d ≡ counts_after c cost → fs ≡ note_in es l p a → StandsFor t (same_at g p c es)
    → same_at g (p + 1) d fs ≡ kept_of g (t ++ a ∷ [])
stands-noted t g p c d es fs l a cost good line stated counted noted stands =
    same_kept g _ _ _ _ _ _ refl
    (counted ∙ ap (counts_after c) (stated ∙ ap (λ m. cost_in es m a) line))
    (noted ∙ ap (λ m. note_in es m p a) line)
    ∙ stands-push t (same_at g p c es) a good stands
