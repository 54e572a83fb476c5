-- Which instructions take a line from each other: the sites of a line from a start on, and its
-- invalidations above it.
use Rattle.std.specs.Prelude.{ℕ, Bool, not, ◌&&◌, ◌==◌, nat_eq, nat_lt, if◌then◌else◌, List}
use Rattle.std.specs.Prelude.{filter, filter_map, drop, take, length, count_by, slice_get, Option}
use Rattle.std.specs.Prelude.{None, option_map, option_and_then}
use Rattle.base.specs.Lines.{line_number}
use Rattle.base.specs.Touch.{word_of}
use Rattle.sharing_rules.specs.Holders.{is_invalidation, line_count_since}
use Rattle.sharing_rules.specs.Lines.{Line, is_inside}
use Rattle.sharing_rules.specs.Places.{below}
use Rattle.sharing_rules.specs.Words.{tally}
use Rattle.sharing_rules.specs.declared.word.Word.{Word}
use Rattle.invalidations.specs.declared.sited.Sides.{Sides}
use Rattle.invalidations.specs.declared.sited.Sited.{Sited}
use Rattle.invalidations.specs.declared.sited.Invalidation.{Invalidation}
use Rattle.invalidations.specs.declared.tables.Taken.{Taken}
use Rattle.invalidations.specs.Groups.{groups}
use Rattle.invalidations.specs.Latest.{accesses_of, latest, latest_place}

-- an access in a line, and one by another hart than h in it
abbrev pub is_in : Line → Sited → Bool
is_in l s = is_inside l s.access.addr

abbrev pub is_in_by_another : Line → ℕ → Sited → Bool
is_in_by_another l h s = is_in l s && not (s.access.hart == h)

-- ---- sites

-- the accesses in a line from a start on
abbrev pub visits : Line → ℕ → List Sited → List Sited
visits l start u = filter (is_in l) (drop start u)

-- the pcs of these, each with its reads, its writes and its owner
abbrev pub sites : Line → ℕ → List Sited → List (ℕ × Word)
sites l start u = groups nat_eq (λ s. s.pc) (λ v. tally (accesses_of v)) (visits l start u)

-- ---- invalidations

-- an invalidation of the line at a position above the start
abbrev pub invalidates_line : Line → ℕ → List Sited → Sited → Bool
invalidates_line l start before s = nat_lt start (length before)
    && is_invalidation (line_number l.size l.offset) l.number (accesses_of before) s.access

-- its victim: the latest access in the line, below it, by another hart than its own
abbrev pub victim : Line → List Sited → Sited → Option Sited
victim l before s = latest (is_in_by_another l s.access.hart) before

abbrev pub victim_place : Line → List Sited → Sited → Option ℕ
victim_place l before s = latest_place (is_in_by_another l s.access.hart) before

abbrev pub invalidation_of : Line → ℕ → List Sited → Sited → Option Invalidation
invalidation_of l start before s =
    if invalidates_line l start before s
    then option_map (λ v. record { victim = v; taker = s }) (victim l before s) else None

-- the invalidation at a place, and all of them in order
abbrev pub invalidation_at : Line → ℕ → List Sited → ℕ → Option Invalidation
invalidation_at l start u i = option_and_then (invalidation_of l start (take i u)) (slice_get u i)

unfoldable pub invalidations : Line → ℕ → List Sited → List Invalidation
invalidations l start u = filter_map (invalidation_at l start u) (below (length u))

-- the two sides by their pcs, and by their harts
abbrev pub pcs_of : Invalidation → Sides
pcs_of k = record { victim = k.victim.pc; taker = k.taker.pc }

abbrev pub harts_of : Invalidation → Sides
harts_of k = record { victim = k.victim.access.hart; taker = k.taker.access.hart }

abbrev pub sides_eq : Sides → Sides → Bool
sides_eq x y = nat_eq x.victim y.victim && nat_eq x.taker y.taker

-- both accesses lie in one word
abbrev pub is_of_one_word : Invalidation → Bool
is_of_one_word k = word_of k.victim.access.addr == word_of k.taker.access.addr

-- how many invalidations, and how many of one word
abbrev pub tally_taken : List Invalidation → Taken
tally_taken ks = record { taken = length ks; same = count_by is_of_one_word ks }

-- of each two instructions, and of each two harts
abbrev pub pairs : Line → ℕ → List Sited → List (Sides × Taken)
pairs l start u = groups sides_eq pcs_of tally_taken (invalidations l start u)

abbrev pub hart_pairs : Line → ℕ → List Sited → List (Sides × Taken)
hart_pairs l start u = groups sides_eq harts_of tally_taken (invalidations l start u)

-- how many invalidations in all
abbrev pub invalidation_count : Line → ℕ → List Sited → ℕ
invalidation_count l start u = line_count_since l start (accesses_of u)
