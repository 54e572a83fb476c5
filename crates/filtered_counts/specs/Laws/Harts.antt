-- The invalidations of each hart by each other one stay.
use Rattle.std.proofs.Common.{◌≡◌, ℕ, Bool, true, false, eqb, ltb, not, ◌&&◌, ◌||◌, List, []}
use Rattle.std.proofs.Common.{◌∷◌, ◌++◌, Option, Some, length, map}
use Rattle.std.proofs.Common.{refl, sym, ap, ◌∙◌, subst, arith, inl, inr}
use Rattle.std.proofs.lemmas.Bool.{cases_Bool, false≢true, and_from, and_parts, or_cases}
use Rattle.std.proofs.lemmas.Bool.{eqb-true, eq-eqb}
use Rattle.std.proofs.lemmas.List.{append-nil, map-append}
use Rattle.std.proofs.lemmas.List.Sums.{sum_by-cons}
use Rattle.std.specs.Prelude.{filter, if◌then◌else◌, option_map, option_to_list, sum_by}
use Rattle.base.specs.Lines.{Grid, line_number}
use Rattle.base.specs.Touch.{Touch}
use Rattle.sharing_rules.specs.Holders.{is_invalidation}
use Rattle.sharing_rules.specs.Listed.{in_order, put_in_order}
use Rattle.sharing_rules.specs.Lines.{Line, grid_line}
use Rattle.sharing_rules.specs.Laws.Lists.{by_push, map_same, slice_cases}
use Rattle.invalidations.specs.Blame.{TakenLine, is_taken, is_taken_more}
use Rattle.invalidations.specs.Blame.{most_taken, taken_line}
use Rattle.invalidations.specs.Groups.{group_of, keys_once}
use Rattle.invalidations.specs.Invalidations.{hart_pairs, harts_of, invalidates_line}
use Rattle.invalidations.specs.Invalidations.{invalidation_count, invalidation_of, invalidations}
use Rattle.invalidations.specs.Invalidations.{is_in_by_another, sides_eq, tally_taken, victim}
use Rattle.invalidations.specs.Latest.{accesses_of, latest}
use Rattle.invalidations.specs.Laws.Invalidations.{invalidations-push}
use Rattle.invalidations.specs.Laws.Latest.{accesses_of-push, latest-push, length-accesses_of}
use Rattle.invalidations.specs.declared.sited.Invalidation.{Invalidation}
use Rattle.invalidations.specs.declared.sited.Sides.{Sides}
use Rattle.invalidations.specs.declared.sited.Sited.{Sited}
use Rattle.invalidations.specs.declared.tables.Taken.{Taken}
use Rattle.misses.specs.MissCounts.{accessed_lines, lines_of}
use Rattle.sharing_rules.specs.Filtered.{IsWithoutRedundant, comes_near, covers}
use Rattle.sharing_rules.specs.Filtered.{filtered, is_kept_at, is_near, is_redundant}
use Rattle.filtered_counts.specs.SameCounts.{IsWithin}
use Rattle.filtered_counts.specs.SameHarts.{IsSitedWithoutRedundant, SameHarts, without_same}
use Rattle.filtered_counts.specs.SameHarts.{filtered_sited, without_sites}
use Rattle.filtered_counts.specs.Laws.Alike.{IsAlike, alike-both, alike-left, alike-none, not-yes}
use Rattle.filtered_counts.specs.Laws.Counts.{all-count, invalidation-alike, invalidation-silent}
use Rattle.filtered_counts.specs.Laws.Redundant.{covers-parts, is_redundant-push}
use Rattle.filtered_counts.specs.Laws.Same.{same-accessed, same-counts, within-keeps, within-near}
use Rattle.filtered_counts.specs.Laws.Settled.{LiesNear, own-hart, settled}
use Rattle.filtered_counts.specs.Laws.Walk.{at_places-map, walk}

pub sited-lists : (k : ℕ) (u w : List Sited) → IsSitedWithoutRedundant k u w
    → IsWithoutRedundant k (accesses_of u) (accesses_of w)
sited-lists k u w s = record {
  kept = s.kept;
  needed = s.needed;
  rest = ap accesses_of s.rest ∙ at_places-map (λ (x : Sited). x.access) s.kept u;
}

pub sited-filtered : (k : ℕ) (u : List Sited)
    → IsSitedWithoutRedundant k u (filtered_sited k u)
sited-filtered k u =
    record { kept = is_kept_at k (accesses_of u); needed = λ i e. e; rest = refl }

-- without pcs it is the filtered list
pub filtered-accesses : (k : ℕ) (u : List Sited)
    → accesses_of (filtered_sited k u) ≡ filtered k (accesses_of u)
unfolding filtered
filtered-accesses k u = at_places-map (λ (x : Sited). x.access) (is_kept_at k (accesses_of u)) u

-- ---- victims

-- the hart of the latest access of a line by another hart than h
abbrev pub victim_hart : Line → ℕ → List Sited → Option ℕ
victim_hart l h u = option_map (λ v. v.access.hart) (latest (is_in_by_another l h) u)

victim_hart-push : (l : Line) (h : ℕ) (u : List Sited) (s : Sited)
    → victim_hart l h (u ++ s ∷ [])
    ≡ if is_in_by_another l h s then Some s.access.hart else victim_hart l h u
victim_hart-push l h u s =
    ap (option_map (λ v. v.access.hart)) (latest-push (is_in_by_another l h) u s)
    ∙ elim (cases_Bool (is_in_by_another l h s)) [ inl e ↦ rw e refl | inr e ↦ rw e refl ]

-- where an access is redundant its hart is the latest victim of each other one
settled-victim : (k : ℕ) (l : Line) (h : ℕ) (u : List Sited) (a : Touch)
    → LiesNear k (line_number l.size l.offset)
    → ((x : ℕ) → eqb (line_number l.size l.offset x) l.number ≡ true
    → line_number l.size l.offset x ≡ l.number)
    → line_number l.size l.offset a.addr ≡ l.number
    → ((b : Touch) → covers b a ≡ true → line_number l.size l.offset b.addr ≡ l.number)
    → eqb a.hart h ≡ false → is_redundant k (accesses_of u) a ≡ true
    → victim_hart l h u ≡ Some a.hart
settled-victim k l h u a near exact here covered other =
    by_push (λ (u : List Sited). is_redundant k (accesses_of u) a ≡ true
    → victim_hart l h u ≡ Some a.hart)
    (λ e. absurd (false≢true e))
    (λ u s ih e.
    let t = accesses_of u in
    let c = s.access in
    let g : ((is_redundant k t a && not (comes_near k a.hart a.addr c)) || covers c a) ≡ true =
    sym (is_redundant-push k t c a) ∙ ap (λ v. is_redundant k v a) (sym (accesses_of-push u s)) ∙ e
    in
    victim_hart-push l h u s
    ∙ elim (or_cases (is_redundant k t a && not (comes_near k a.hart a.addr c)) (covers c a) g) [
      | inl before ↦
          let p = and_parts (is_redundant k t a) (not (comes_near k a.hart a.addr c)) before in
          elim (cases_Bool (is_in_by_another l h s)) [
            | inl new ↦
                let q = and_parts (eqb (line_number l.size l.offset c.addr) l.number)
                (not (eqb c.hart h)) new in
                let mine = own-hart (eqb c.hart a.hart) (is_near k c.addr a.addr) p.1
                (near c.addr a.addr (exact c.addr q.0 ∙ sym here)) in
                rw new (ap Some (eqb-true _ _ mine))
            | inr old ↦ rw old (ih p.0)
          ]
      | inr now ↦
          let p = covers-parts c a now in
          let hart : c.hart ≡ a.hart = eqb-true _ _ p.0 in
          let line : eqb (line_number l.size l.offset c.addr) l.number ≡ true =
          eq-eqb _ _ (covered c now) in
          let away : not (eqb c.hart h) ≡ true = ap not (ap (λ i. eqb i h) hart ∙ other) in
          let new : is_in_by_another l h s ≡ true = and_from _ _ line away in
          rw new (ap Some hart)
    ])
    u

-- ---- invalidations by their harts

-- the harts of an access's invalidation, if it is one
harts-of : (l : Line) (u : List Sited) (s : Sited)
    → map harts_of (option_to_list (invalidation_of l 0 u s))
    ≡ if is_invalidation (line_number l.size l.offset) l.number (accesses_of u) s.access
    then option_to_list (option_map
    (λ h. record { victim = h; taker = s.access.hart }) (victim_hart l s.access.hart u)) else []
harts-of l u s =
    let all : invalidates_line l 0 u s
    ≡ is_invalidation (line_number l.size l.offset) l.number (accesses_of u) s.access =
    ap (λ n. ltb 0 n && is_invalidation (line_number l.size l.offset) l.number (accesses_of u)
    s.access) (sym (length-accesses_of u))
    ∙ all-count (line_number l.size l.offset) l.number (accesses_of u) s.access in
    rw all
    (elim (cases_Bool (is_invalidation (line_number l.size l.offset) l.number (accesses_of u)
    s.access)) [
      | inl e ↦ elim (slice_cases (victim l u s)) [
        | inl none ↦ rw (e, none) refl
        | inr some ↦ rw (e, some.1) refl
      ]
      | inr e ↦ rw e refl
    ])

abbrev pub hart_sides : Line → List Sited → List Sides
hart_sides l u = map harts_of (invalidations l 0 u)

hart_sides-push : (l : Line) (u : List Sited) (s : Sited)
    → hart_sides l (u ++ s ∷ [])
    ≡ hart_sides l u ++ (if is_invalidation (line_number l.size l.offset) l.number (accesses_of u)
    s.access then option_to_list (option_map
    (λ h. record { victim = h; taker = s.access.hart }) (victim_hart l s.access.hart u)) else [])
hart_sides-push l u s =
    ap (map harts_of) (invalidations-push l 0 u s)
    ∙ map-append harts_of (invalidations l 0 u) (option_to_list (invalidation_of l 0 u s))
    ∙ ap (λ xs. hart_sides l u ++ xs) (harts-of l u s)

-- two sited lists alike for a line
record IsSame (g : Grid) (r : ℕ) (u w : List Sited) : Type 0 where
  alike : IsAlike (lines_of g) (accesses_of u) (accesses_of w)
  victims : (h : ℕ) → victim_hart (grid_line g r) h w ≡ victim_hart (grid_line g r) h u
  harts : hart_sides (grid_line g r) w ≡ hart_sides (grid_line g r) u

same-both : (g : Grid) (r : ℕ) (u w : List Sited) (s : Sited) → IsSame g r u w
    → IsSame g r (u ++ s ∷ []) (w ++ s ∷ [])
same-both g r u w s before =
    let l = grid_line g r in record {
      alike = rw (accesses_of-push u s, accesses_of-push w s)
          (alike-both (lines_of g) (accesses_of u) (accesses_of w) s.access before.alike);
      victims = λ h. rw (victim_hart-push l h u s, victim_hart-push l h w s, before.victims h) refl;
      harts = rw (
        hart_sides-push l u s,
        hart_sides-push l w s,
        before.harts,
        before.victims s.access.hart,
        invalidation-alike (lines_of g) r (accesses_of u) (accesses_of w) s.access before.alike,
      ) refl;
    }

same-left : (k : ℕ) (g : Grid) (r : ℕ) (u w : List Sited) (s : Sited) → IsWithin k g
    → is_redundant k (accesses_of u) s.access ≡ true → IsSame g r u w
    → IsSame g r (u ++ s ∷ []) w
same-left k g r u w s within e before =
    let l = grid_line g r in
    let a = s.access in
    let keeps = within-keeps k g within in
    let near = within-near k g within in
    let found = settled k (lines_of g) (accesses_of u) a keeps near e in
    let none = invalidation-silent (lines_of g) r (accesses_of u) a found in
    record {
      alike = rw (accesses_of-push u s)
          (alike-left (lines_of g) (accesses_of u) (accesses_of w) a found before.alike);
      victims = λ h. before.victims h ∙ sym (victim_hart-push l h u s
          ∙ elim (cases_Bool (is_in_by_another l h s)) [
            | inl new ↦
                let q = and_parts (eqb (lines_of g a.addr) r) (not (eqb a.hart h)) new in
                let here : lines_of g a.addr ≡ r = eqb-true _ _ q.0 in
                rw new (sym (settled-victim k l h u a near (λ x line. eqb-true _ _ line) here
                (λ b over. keeps b.addr a.addr (covers-parts b a over).1 ∙ here)
                (not-yes (eqb a.hart h) q.1) e))
            | inr old ↦ rw old refl
          ]);
      harts = before.harts ∙ sym (hart_sides-push l u s
          ∙ rw none (append-nil (hart_sides l u)));
    }

same-sides : (k : ℕ) (g : Grid) → IsWithin k g → (u w : List Sited)
    → IsSitedWithoutRedundant k u w → (r : ℕ) → IsSame g r u w
same-sides k g within u w without r =
    subst (λ w. IsSame g r u w) (sym without.rest)
    (walk (λ s. s.access) k without.kept (IsSame g r)
    (record { alike = alike-none (lines_of g); victims = λ h. refl; harts = refl })
    (same-both g r)
    (λ u w s e before. same-left k g r u w s within e before)
    u (λ i l e. without.needed i e))

-- ---- pairs of harts, from the harts of each invalidation

length-keyed : {K X : Type 0} (eq : K → K → Bool) (key : X → K) (k : K) (xs : List X)
    → length (group_of eq key xs k) ≡ length (filter (eq k) (map key xs))
length-keyed eq key k [] = refl
length-keyed eq key k (x ∷ xs) = elim (cases_Bool (eq k (key x))) [
  | inl e ↦ let rest = length-keyed eq key k xs in rw e (omega (arith, rest))
  | inr e ↦ rw e (length-keyed eq key k xs)
]

-- each pair once, with how often it stands there
abbrev counted_keys : List Sides → List (Sides × Taken)
counted_keys ks = map (λ k. (k, record { taken = length (filter (sides_eq k) ks); same = 0 }))
    (keys_once sides_eq ks)

keyed : (xs : List Invalidation) (ks : List Sides)
    → map without_same (map (λ k. (k, tally_taken (group_of sides_eq harts_of xs k))) ks)
    ≡ map (λ k. (k, record { taken = length (filter (sides_eq k) (map harts_of xs)); same = 0 })) ks
keyed xs [] = refl
keyed xs (k ∷ ks) = rw (length-keyed sides_eq harts_of k xs, keyed xs ks) refl

counted-harts : (l : Line) (u : List Sited)
    → map without_same (hart_pairs l 0 u) ≡ counted_keys (hart_sides l u)
counted-harts l u = keyed (invalidations l 0 u) (keys_once sides_eq (hart_sides l u))

pub same-pairs : (k : ℕ) (g : Grid) → IsWithin k g → (u w : List Sited)
    → IsSitedWithoutRedundant k u w → (r : ℕ)
    → map without_same (hart_pairs (grid_line g r) 0 w)
    ≡ map without_same (hart_pairs (grid_line g r) 0 u)
same-pairs k g within u w without r =
    counted-harts (grid_line g r) w
    ∙ ap counted_keys (same-sides k g within u w without r).harts
    ∙ sym (counted-harts (grid_line g r) u)

-- ---- the lines in their order

filter-sites : (xs : List TakenLine)
    → map without_sites (filter is_taken xs) ≡ filter is_taken (map without_sites xs)
filter-sites [] = refl
filter-sites (x ∷ xs) = elim (cases_Bool (is_taken x)) [
  | inl e ↦ rw e (ap (λ ys. without_sites x ∷ ys) (filter-sites xs))
  | inr e ↦ rw e (filter-sites xs)
]

put-sites : (x : TakenLine) (ys : List TakenLine)
    → map without_sites (put_in_order is_taken_more x ys)
    ≡ put_in_order is_taken_more (without_sites x) (map without_sites ys)
put-sites x [] = refl
put-sites x (y ∷ ys) = elim (cases_Bool (is_taken_more y x)) [
  | inl e ↦ rw e (ap (λ zs. without_sites y ∷ zs) (put-sites x ys))
  | inr e ↦ rw e refl
]

order-sites : (xs : List TakenLine)
    → map without_sites (in_order is_taken_more xs) ≡ in_order is_taken_more (map without_sites xs)
order-sites [] = refl
order-sites (x ∷ xs) = put-sites x (in_order is_taken_more xs)
    ∙ ap (put_in_order is_taken_more (without_sites x)) (order-sites xs)

map-twice : {X Y Z : Type 0} (f : Y → Z) (g : X → Y) (xs : List X)
    → map f (map g xs) ≡ map (λ x. f (g x)) xs
map-twice f g [] = refl
map-twice f g (x ∷ xs) = ap (λ ys. f (g x) ∷ ys) (map-twice f g xs)

most-is : (g : Grid) (u : List Sited)
    → map without_sites (most_taken g u)
    ≡ in_order is_taken_more (filter is_taken
    (map (λ r. without_sites (taken_line u (grid_line g r))) (accessed_lines g (accesses_of u))))
most-is g u =
    let xs = map (λ r. taken_line u (grid_line g r)) (accessed_lines g (accesses_of u)) in
    order-sites (filter is_taken xs)
    ∙ ap (in_order is_taken_more) (filter-sites xs
    ∙ ap (filter is_taken) (map-twice without_sites (λ r. taken_line u (grid_line g r))
    (accessed_lines g (accesses_of u))))

sum-alike : (f h : ℕ → ℕ) → ((r : ℕ) → f r ≡ h r) → (ks : List ℕ) → sum_by f ks ≡ sum_by h ks
sum-alike f h same [] = refl
sum-alike f h same (k ∷ ks) =
    let here = same k in
    let rest = sum-alike f h same ks in
    omega (arith, here, rest, sum_by-cons f k ks, sum_by-cons h k ks)

-- a sited list without redundant accesses has the pairs of harts of the whole one
pub same-harts : (k : ℕ) (g : Grid) → IsWithin k g → (u w : List Sited)
    → IsSitedWithoutRedundant k u w → SameHarts g u w
same-harts k g within u w without =
    let lists = sited-lists k u w without in
    let accessed = same-accessed k g within (accesses_of u) (accesses_of w) lists in
    let counts = same-counts k g within (accesses_of u) (accesses_of w) lists in
    let pairs = same-pairs k g within u w without in
    record {
      lines = pairs;
      most = most-is g w
          ∙ ap (λ ks. in_order is_taken_more (filter is_taken
          (map (λ r. without_sites (taken_line w (grid_line g r))) ks))) accessed
          ∙ ap (λ xs. in_order is_taken_more (filter is_taken xs))
          (map_same (λ r. without_sites (taken_line w (grid_line g r)))
          (λ r. without_sites (taken_line u (grid_line g r)))
          (λ r. rw ((counts.lines r).invalidations, pairs r) refl)
          (accessed_lines g (accesses_of u)))
          ∙ sym (most-is g u);
      all = ap (sum_by (λ r. invalidation_count (grid_line g r) 0 w)) accessed
          ∙ sum-alike (λ r. invalidation_count (grid_line g r) 0 w)
          (λ r. invalidation_count (grid_line g r) 0 u) (λ r. (counts.lines r).invalidations)
          (accessed_lines g (accesses_of u));
    }
