-- A plain recount of a line counts no less than what is found of it, and as much from its start on.
use Rattle.std.proofs.Common.{◌≡◌, ◌≤◌, ◌<◌, ℕ, suc, ◌+◌, ◌-◌, Bool, add-one, true, false, leb, ltb}
use Rattle.std.proofs.Common.{◌&&◌, List, [], ◌∷◌, ◌++◌, Some, None, length, length-append, take}
use Rattle.std.proofs.Common.{refl, sym, ap, ◌∙◌, subst, arith, inl, inr}
use Rattle.std.proofs.Math.Seq.{take-add}
use Rattle.std.proofs.lemmas.List.{length-take-le, take-append-drop}
use Rattle.std.proofs.lemmas.List.Elements.{All-from_recursion}
use Rattle.std.proofs.lemmas.List.Sorted.{IsPermutation-sym}
use Rattle.std.proofs.lemmas.Bool.{false≢true, and_parts, le-leb, leb-true, lt-ltb, le-ltb}
use Rattle.std.proofs.lemmas.Option.{get_or_from_slice_get, none-some, same_Some}
use Rattle.std.specs.Prelude.{drop, filter, slice_get}
use Rattle.std.specs.Option.{option_or}
use Rattle.std.specs.List.{All}
use Rattle.std.specs.List.Sorted.{IsPermutation}
use Rattle.base.specs.Touch.{Touch}
use Rattle.base.specs.Lines.{Grid, line_number}
use Rattle.base.specs.Levels.{Levels}
use Rattle.sharing_rules.specs.AccessLists.{writes_to}
use Rattle.sharing_rules.specs.Holders.{count_since, is_invalidation, line_count_since}
use Rattle.sharing_rules.specs.Lines.{Line, is_inside}
use Rattle.sharing_rules.specs.Listed.{Finding, comes_before, found, in_order, listed}
use Rattle.sharing_rules.specs.Listed.{observed_lines, tracked}
use Rattle.sharing_rules.specs.Members.{Member}
use Rattle.sharing_rules.specs.Observed.{first_write_from, observed_start}
use Rattle.sharing_rules.specs.Opened.{Opened, finding_of, opened}
use Rattle.sharing_rules.specs.Recounts.{IsListedPlainly, IsRecounted, layout_of, plain_levels}
use Rattle.sharing_rules.specs.Recounts.{recount}
use Rattle.sharing_rules.specs.declared.line_kind.LineKind.TheVariants.{Observed}
use Rattle.sharing_rules.specs.Laws.Counts.{count_since-push}
use Rattle.sharing_rules.specs.Laws.Kept.{tracked-opened}
use Rattle.sharing_rules.specs.Laws.Listed.{tracked-observed}
use Rattle.sharing_rules.specs.Laws.Lists.{Member-filter, Member-filter_map, Member-permutation}
use Rattle.sharing_rules.specs.Laws.Lists.{all_from_members, by_push_from, filter-Member}
use Rattle.sharing_rules.specs.Laws.Lists.{slice_cases, take_step}
use Rattle.sharing_rules.specs.Laws.Observed.{member-observed_lines}
use Rattle.sharing_rules.specs.Laws.Openings.{observed_start-append}
use Rattle.sharing_rules.specs.Laws.Orders.{in_order-permutes}
use Rattle.sharing_rules.specs.Laws.Places.{count_places-none, first_place-passes}
use Rattle.sharing_rules.specs.Laws.Places.{first_place-within}
use Rattle.sharing_rules.specs.Laws.Starts.{first_write_from-push, observed_start-one}

-- nothing is counted above a list's last position
pub count_since-end : (line_of : ℕ → ℕ) (r s : ℕ) (t : List Touch) → length t ≤ suc s
    → count_since line_of r s t ≡ 0
count_since-end line_of r s t short =
    count_places-none (λ before a. ltb s (length before) && is_invalidation line_of r before a) t
    (λ before a l. rw (le-ltb s (length before) (omega (arith, short, l))) refl)

-- a later start counts alike from there on
pub count_since-grows : (line_of : ℕ → ℕ) (r x s : ℕ) (p u : List Touch) → x ≤ s → length p ≡ suc s
    → count_since line_of r x (p ++ u) ≡ count_since line_of r x p + count_since line_of r s
    (p ++ u)
count_since-grows line_of r x s p u le len =
    (by_push_from
    (λ q. (s < length q)
    × (count_since line_of r x q ≡ count_since line_of r x p + count_since line_of r s q))
    (λ q a ih.
    let longer : s < length (q ++ a ∷ []) = omega (arith, length-append q (a ∷ []), ih.0) in
    let counts : ltb s (length q) ≡ true = lt-ltb s (length q) ih.0 in
    let counts_too : ltb x (length q) ≡ true = lt-ltb x (length q) (omega (arith, le, ih.0)) in (
      longer,
      rw (
        count_since-push line_of r x q a,
        count_since-push line_of r s q a,
        counts,
        counts_too,
        ih.1,
      ) (omega arith),
    ))
    p u (
      omega (arith, len),
      let none = count_since-end line_of r s p (omega (arith, len))
          in omega (arith, none),
    )).1

-- from its first write on, the recount is the count since that write
pub recount-since : (l : Line) (t : List Touch) (x : ℕ) → observed_start 1 (is_inside l) t ≡ Some x
    → recount l t ≡ line_count_since l x t
recount-since l t x e = rw e refl

-- whether a write of these addresses stands at or after a place
abbrev writes_after : ℕ → (ℕ → Bool) → List Touch → Touch → Bool
writes_after from inside before a = leb from (length before) && writes_to inside a

-- a list writes to these addresses at s
record WritesAt (inside : ℕ → Bool) (t : List Touch) (s : ℕ) : Type 0 where
  write : Touch
  within : s < length t
  there : slice_get t s ≡ Some write
  writes : writes_to inside write ≡ true

-- where it does, it has a first write, and no later
first_in : (inside : ℕ → Bool) (t : List Touch) (s : ℕ) → WritesAt inside t s
    → (x : ℕ) × (x ≤ s) × (observed_start 1 inside (take (suc s) t) ≡ Some x)
first_in inside t s w =
    let a : Touch = w.write in
    let before : List Touch = take s t in
    let len : length before ≡ s = length-take-le s t (omega (arith, w.within)) in
    let one_more : take (s + 1) t ≡ before ++ a ∷ [] = take_step t s a w.within
    (sym (get_or_from_slice_get t s a a w.there)) in
    let front : take (suc s) t ≡ before ++ a ∷ [] = ap (λ i. take i t) (sym (add-one s))
    ∙ one_more in
    let last : first_write_from 0 inside (before ++ a ∷ []) ≡ option_or
    (first_write_from 0 inside before) (Some s) =
    rw (
      first_write_from-push 0 inside before a,
      le-leb 0 (length before) (omega arith),
      w.writes,
      len,
    ) refl in
    elim (slice_cases (first_write_from 0 inside before)) [
      | inl none ↦
          (s, omega arith, rw (observed_start-one inside (take (suc s) t), front, last, none) refl)
      | inr some ↦
          let below : some.0 < length before = first_place-within (writes_after 0 inside) before
          some.0 some.1 in (
            some.0,
            omega (arith, below, len),
            rw (observed_start-one inside (take (suc s) t), front, last, some.1) refl,
          )
    ]

-- from a write of the line on, its recount counts alike
recount-grows : (l : Line) (t : List Touch) (s : ℕ) → WritesAt (is_inside l) t s → (u : List Touch)
    → recount l (take (suc s) t ++ u) ≡ recount l (take (suc s) t) + line_count_since l s
    (take (suc s) t ++ u)
recount-grows l t s at u =
    let p : List Touch = take (suc s) t in
    let w = first_in (is_inside l) t s at in
    let len : length p ≡ suc s = length-take-le (suc s) t (omega (arith, at.within)) in
    recount-since l (p ++ u) w.0 (observed_start-append 1 (is_inside l) p u w.0 w.2)
    ∙ count_since-grows (line_number l.size l.offset) l.number w.0 s p u w.1 len
    ∙ ap (λ n. n + line_count_since l s (p ++ u)) (sym (recount-since l p w.0 w.2))

-- what is found of a line: it starts at a write of it, and has the count since then
record IsFound (t : List Touch) (f : Finding) : Type 0 where
  from : ℕ
  starts : first_write_from from (is_inside f.line) t ≡ Some f.start
  counts : f.count ≡ line_count_since f.line f.start t

found_is : (t : List Touch) (o : Opened) (f : Finding) → finding_of t o ≡ Some f → IsFound t f
found_is t o f e =
    elim (slice_cases (first_write_from o.from (is_inside o.line) t)) [
      | inl none ↦ let z : None ≡ Some f = rw none at e in absurd (none-some f z)
      | inr some ↦
          let z : Some (found t o.kind o.line some.0) ≡ Some f = rw some.1 at e in
          subst (IsFound t) (same_Some _ f z)
          (record { from = o.from; starts = some.1; counts = refl })
    ]

starts_at_a_write : (t : List Touch) (f : Finding) → IsFound t f
    → WritesAt (is_inside f.line) t f.start
starts_at_a_write t f h =
    let asked : List Touch → Touch → Bool = writes_after h.from (is_inside f.line) in
    let k = first_place-passes asked t f.start h.starts in
    elim (slice_cases (slice_get t f.start)) [
      | inl none ↦ let z : false ≡ true = rw none at k in absurd (false≢true z)
      | inr some ↦
          let z : asked (take f.start t) some.0 ≡ true = rw some.1 at k in
          record {
            write = some.0;
            within = first_place-within asked t f.start h.starts;
            there = some.1;
            writes = (and_parts _ _ z).1;
          }
    ]

is_recounted : (t : List Touch) (f : Finding) → IsFound t f → IsRecounted t f
is_recounted t f h =
    let l : Line = f.line in
    let s : ℕ = f.start in
    let upto : ℕ = recount l (take (suc s) t) in
    let grows = recount-grows l t s (starts_at_a_write t f h) in
    let whole : recount l t ≡ upto + line_count_since l s t =
    subst (λ v. recount l v ≡ upto + line_count_since l s v) (take-append-drop (suc s) t)
    (grows (drop (suc s) t)) in
    let since : recount l t ≡ upto + f.count = whole ∙ ap (λ n. upto + n) (sym h.counts) in
    record {
      bounded = omega (arith, since);
      since = since;
      alike = λ n later.
          let more : ℕ = n - suc s in
          let parts : n ≡ suc s + more = omega (arith, later) in
          let cut : take n t ≡ take (suc s) t ++ take more (drop (suc s) t) =
          ap (λ i. take i t) parts ∙ take-add (suc s) more t in
          subst (λ v. recount l v ≡ upto + line_count_since l s v) (sym cut)
          (grows (take more (drop (suc s) t)));
    }

-- what is found of a line that may start from some position on
pub found_is_recounted : (t : List Touch) (o : Opened) (f : Finding) → finding_of t o ≡ Some f
    → IsRecounted t f
found_is_recounted t o f e = is_recounted t f (found_is t o f e)

tracked-found : (g : Grid) (v : Levels) (t : List Touch) (f : Finding) → Member f (tracked g v t)
    → IsFound t f
tracked-found g v t f m =
    let w = Member-filter_map (finding_of t) (opened g v t) f
    (subst (Member f) (tracked-opened g v t) m) in
    found_is t w.0 f w.2

-- the tracked lines that reach the report threshold, which the list of them has in order
abbrev reaches : Levels → Finding → Bool
reaches v f = leb v.report f.count

abbrev reaching : Grid → Levels → List Touch → List Finding
reaching g v t = filter (reaches v) (tracked g v t)

listed-tracked : (g : Grid) (v : Levels) (t : List Touch) (f : Finding) → Member f (listed g v t)
    → Member f (tracked g v t) × (reaches v f ≡ true)
listed-tracked g v t f m =
    let xs : List Finding = reaching g v t in
    let k : Member f xs = Member-permutation xs (in_order comes_before xs) f
    (in_order-permutes comes_before xs) m in
    Member-filter (reaches v) (tracked g v t) f k

tracked-listed : (g : Grid) (v : Levels) (t : List Touch) (f : Finding) → Member f (tracked g v t)
    → reaches v f ≡ true
    → Member f (listed g v t)
tracked-listed g v t f m e =
    let xs : List Finding = reaching g v t in
    let ys : List Finding = in_order comes_before xs in
    let same : IsPermutation ys xs = IsPermutation-sym xs ys (in_order-permutes comes_before xs) in
    Member-permutation ys xs f same (filter-Member (reaches v) (tracked g v t) f m e)

all_listed : (P : Finding → Type 0) (g : Grid) (v : Levels) (t : List Touch)
    → ((f : Finding) → Member f (listed g v t) → P f) → All P (listed g v t)
all_listed P g v t each = All-from_recursion P (listed g v t)
    (all_from_members P (listed g v t) each)

-- every tracked line, and so every listed one
pub tracked_are_recounted : (g : Grid) (v : Levels) (t : List Touch)
    → All (IsRecounted t) (tracked g v t)
tracked_are_recounted g v t =
    All-from_recursion (IsRecounted t) (tracked g v t)
    (all_from_members (IsRecounted t) (tracked g v t)
    (λ f m. is_recounted t f (tracked-found g v t f m)))

pub listed_are_recounted : (g : Grid) (v : Levels) (t : List Touch)
    → All (IsRecounted t) (listed g v t)
listed_are_recounted g v t =
    all_listed (IsRecounted t) g v t
    (λ f m. is_recounted t f (tracked-found g v t f (listed-tracked g v t f m).0))

-- the whole list has a first write too
first_write : (t : List Touch) (f : Finding) → IsFound t f
    → (x : ℕ) × (x ≤ f.start) × (observed_start 1 (is_inside f.line) t ≡ Some x)
first_write t f h =
    let inside : ℕ → Bool = is_inside f.line in
    let front : List Touch = take (suc f.start) t in
    let rest : List Touch = drop (suc f.start) t in
    let w = first_in inside t f.start (starts_at_a_write t f h) in
    let whole : observed_start 1 inside (front ++ rest) ≡ Some w.0 =
    observed_start-append 1 inside front rest w.0 w.2 in (
      w.0,
      w.1,
      subst (λ v. observed_start 1 inside v ≡ Some w.0) (take-append-drop (suc f.start) t)
          whole,
    )

-- the line as it is found under its own layout
abbrev plainly : Line → ℕ → ℕ → Finding
plainly l start count = record { kind = Observed; line = l; start = start; count = count }

plainly_tracked : (report : ℕ) (l : Line) (t : List Touch) (x : ℕ)
    → observed_start 1 (is_inside l) t ≡ Some x
    → Member (plainly l x (recount l t)) (tracked (layout_of l) (plain_levels report) t)
plainly_tracked report l t x e =
    let g : Grid = layout_of l in
    let v : Levels = plain_levels report in
    subst (Member (plainly l x (recount l t))) (sym (tracked-observed g v t refl))
    (subst (λ n. Member (plainly l x n) (observed_lines g 1 t)) (sym (recount-since l t x e))
    (member-observed_lines g 1 t l.number x e))

plainly_listed : (report : ℕ) (t : List Touch) (f : Finding) → IsFound t f
    → leb report f.count ≡ true → IsListedPlainly report t f
plainly_listed report t f h e =
    let l : Line = f.line in
    let x = first_write t f h in
    let bounded = (is_recounted t f h).bounded in
    let enough : leb report (recount l t) ≡ true = le-leb report (recount l t)
    (omega (arith, bounded, leb-true report f.count e)) in
    let m = plainly_tracked report l t x.0 x.2 in (
      x.0,
      x.1,
      tracked-listed (layout_of l) (plain_levels report) t (plainly l x.0 (recount l t)) m
          enough,
    )

-- and each is listed with its recount under its own layout
pub listed_are_listed_plainly : (g : Grid) (v : Levels) (t : List Touch)
    → All (IsListedPlainly v.report t) (listed g v t)
listed_are_listed_plainly g v t =
    all_listed (IsListedPlainly v.report t) g v t
    (λ f m. let w = listed-tracked g v t f m in plainly_listed v.report t f
    (tracked-found g v t f w.0) w.1)
