-- What is kept of a sited list, and what one access makes of it.
use Rattle.std.specs.Prelude.{◌≡◌, ℕ, ◌+◌, ◌<◌, ◌^◌, Bool, false, not, ◌&&◌, ◌||◌, ◌==◌, eqb}
use Rattle.std.specs.Prelude.{nat_eq, nat_le, nat_lt, if◌then◌else◌, List, [], length, Option, Some}
use Rattle.std.specs.Prelude.{None, IfSome}
use Rattle.std.specs.Prelude.{is_some, option_and_then, option_map}
use Rattle.std.specs.Option.{option_map_or}
use Rattle.std.specs.Map.{lookup}
use Rattle.indexmap.specs.IndexMap.{IndexMap, get, insert_entry, spare}
use Rattle.base.specs.Lines.{line_number}
use Rattle.base.specs.Touch.{Touch, is_write}
use Rattle.sharing_rules.specs.Holders.{holders}
use Rattle.sharing_rules.specs.Lines.{Line}
use Rattle.sharing_rules.specs.Words.{accesses, note_word, tally}
use Rattle.sharing_rules.specs.declared.word.Word.{Word}
use Rattle.invalidations.specs.declared.latest.LatestTwo.{LatestTwo}
use Rattle.invalidations.specs.declared.sited.Sides.{Sides}
use Rattle.invalidations.specs.declared.sited.Sited.{Sited}
use Rattle.invalidations.specs.declared.sited.Invalidation.{Invalidation}
use Rattle.invalidations.specs.declared.tables.Taken.{Taken}
use Rattle.invalidations.specs.Latest.{accesses_of, latest}
use Rattle.invalidations.specs.Invalidations.{hart_pairs, harts_of, is_in, is_in_by_another}
use Rattle.invalidations.specs.Invalidations.{is_of_one_word}
use Rattle.invalidations.specs.Invalidations.{pairs, pcs_of, sides_eq, sites, invalidation_count}

-- ---- two accesses

-- after a list a hart holds a line
abbrev pub holds_line : Line → List Sited → ℕ → Bool
holds_line l u h = holders (line_number l.size l.offset) (accesses_of u) h l.number

-- the latest access by another hart than that of the latest one
abbrev pub latest_other : Line → List Sited → Option Sited
latest_other l u = option_and_then
    (λ a. latest (is_in_by_another l a.access.hart) u) (latest (is_in l) u)

-- of a line the latest access, the latest one by another hart than that, and whether this other
-- hart holds the line
abbrev pub two_of : Line → List Sited → LatestTwo
two_of l u = record {
  latest = latest (is_in l) u;
  other = latest_other l u;
  held = option_map_or (λ v. holds_line l u v.access.hart) (latest_other l u) false;
}

-- What these determine of an access by hart h: whether the latest access is its own, the latest one
-- by another hart, and whether another hart holds the line.
abbrev pub is_latest_by : LatestTwo → ℕ → Bool
is_latest_by x h = option_map_or (λ a. a.access.hart == h) x.latest false

abbrev pub victim_by : LatestTwo → ℕ → Option Sited
victim_by x h = if is_latest_by x h then x.other else x.latest

abbrev pub is_held_by : LatestTwo → ℕ → Bool
is_held_by x h = if is_latest_by x h then x.held else is_some x.latest

-- what the next access of the line takes, and what it makes of the two
abbrev pub invalidation_by : LatestTwo → ℕ → ℕ → Sited → Option Invalidation
invalidation_by x start position s =
    if nat_lt start position && is_write s.access.kind && is_held_by x s.access.hart
    then option_map (λ v. record { victim = v; taker = s }) (victim_by x s.access.hart) else None

abbrev pub note_two : LatestTwo → Sited → LatestTwo
note_two x s = record {
  latest = Some s;
  other = victim_by x s.access.hart;
  held = not (is_write s.access.kind) && is_held_by x s.access.hart;
}

-- ---- tables

abbrev pub word_at : List (ℕ × Word) → ℕ → Word
word_at es pc = option_map_or (λ w. w) (lookup (eqb pc) es) (tally [])

abbrev pub note_site : List (ℕ × Word) → ℕ → Touch → List (ℕ × Word)
note_site es pc a = insert_entry nat_eq es pc (note_word (word_at es pc) a)

abbrev pub none_taken : Taken
none_taken = record { taken = 0; same = 0 }

abbrev pub taken_at : List (Sides × Taken) → Sides → Taken
taken_at es x = option_map_or (λ k. k) (lookup (sides_eq x) es) none_taken

abbrev pub note_taken : Taken → Bool → Taken
note_taken k same =
    record { taken = k.taken + 1; same = if same then k.same + 1 else k.same }

abbrev pub note_invalidation : List (Sides × Taken) → Sides → Bool → List (Sides × Taken)
note_invalidation es x same = insert_entry sides_eq es x (note_taken (taken_at es x) same)

-- counts below 2^40
pub record IsFew (k : Taken) : Type 0 where
  pub taken : k.taken < 2 ^ 40
  pub same : k.same < 2 ^ 40

-- an access of a site more, if it is one from the start on
abbrev pub note_since : List (ℕ × Word) → Sited → Bool → List (ℕ × Word)
note_since es s since = if since then note_site es s.pc s.access else es

-- an invalidation more, where there is one
abbrev pub note_sides : (Invalidation → Sides) → List (Sides × Taken) → Option Invalidation
    → List (Sides × Taken)
note_sides by es None = es
note_sides by es (Some k) = note_invalidation es (by k) (is_of_one_word k)

-- two sides are there, or fit without more memory
abbrev pub HasRoom : {S : Type 0} → IndexMap Sides Taken S → Sides → Type 0
HasRoom m x = get sides_eq m x ≡ None → 0 < spare m

-- an access and its invalidation, if it took the line, can be counted
pub record CanNote (sites : List (ℕ × Word)) (pairs harts : List (Sides × Taken)) (s : Sited)
    (invalidation : Option Invalidation) : Type 0 where
  pub site : accesses (word_at sites s.pc) < 2 ^ 63
  pub few_pairs : IfSome invalidation (λ k. IsFew (taken_at pairs (pcs_of k)))
  pub few_harts : IfSome invalidation (λ k. IsFew (taken_at harts (harts_of k)))

-- whether an access has a new site, and whether what it takes has two new sides: only there may
-- noting want memory
abbrev pub has_site : List (ℕ × Word) → ℕ → Bool
has_site es pc = is_some (lookup (eqb pc) es)

abbrev pub has_sides : List (Sides × Taken) → Sides → Bool
has_sides es x = is_some (lookup (sides_eq x) es)

abbrev pub is_new_site : List (ℕ × Word) → Sited → Bool → Bool
is_new_site sites s since = since && not (has_site sites s.pc)

abbrev pub is_new_invalidation : List (Sides × Taken) → List (Sides × Taken) → Option Invalidation → Bool
is_new_invalidation pairs harts invalidation = option_map_or
    (λ k. not (has_sides pairs (pcs_of k)) || not (has_sides harts (harts_of k))) invalidation false

-- the tables stayed as they were
pub record IsSameTables (sites : List (ℕ × Word)) (pairs harts : List (Sides × Taken))
    (new_sites : List (ℕ × Word)) (new_pairs new_harts : List (Sides × Taken)) : Type 0 where
  pub same_sites : new_sites ≡ sites
  pub same_pairs : new_pairs ≡ pairs
  pub same_harts : new_harts ≡ harts

-- ---- all of it

-- Of a line and a start: how many accesses there were, how many invalidations, the two accesses,
-- and the tables of the sites, of the pairs of instructions and of those of harts.
pub record LineInvalidations : Type 0 where
  pub line : Line
  pub start : ℕ
  pub position : ℕ
  pub count : ℕ
  pub two : LatestTwo
  pub sites : List (ℕ × Word)
  pub pairs : List (Sides × Taken)
  pub harts : List (Sides × Taken)

-- what a list makes of it
abbrev pub kept_of : Line → ℕ → List Sited → LineInvalidations
kept_of l start u = record {
  line = l;
  start = start;
  position = length u;
  count = invalidation_count l start u;
  two = two_of l u;
  sites = sites l start u;
  pairs = pairs l start u;
  harts = hart_pairs l start u;
}

-- an access more in the line
abbrev pub note_visit : LineInvalidations → Sited → LineInvalidations
note_visit k s =
    let invalidation = invalidation_by k.two k.start k.position s in record {
      line = k.line;
      start = k.start;
      position = k.position + 1;
      count = if is_some invalidation then k.count + 1 else k.count;
      two = note_two k.two s;
      sites = note_since k.sites s (nat_le k.start k.position);
      pairs = note_sides pcs_of k.pairs invalidation;
      harts = note_sides harts_of k.harts invalidation;
    }

-- an access more anywhere: one elsewhere changes the position alone
abbrev pub note_access : LineInvalidations → Sited → LineInvalidations
note_access k s =
    if is_in k.line s then note_visit k s else record k { position = k.position + 1 }

-- whether an access may want memory: one of the line whose site is new, or which takes it from new
-- instructions or a new hart
abbrev pub wants_memory : LineInvalidations → Sited → Bool
wants_memory k s = is_in k.line s && (is_new_site k.sites s (nat_le k.start k.position)
    || is_new_invalidation k.pairs k.harts (invalidation_by k.two k.start k.position s))

-- the accesses so far are those of a list
abbrev pub StandsFor : List Sited → LineInvalidations → Type 0
StandsFor u k = k ≡ kept_of k.line k.start u
