-- A plain recount of a line: over the same list, under the line's own layout, from its first write
-- on.
use Rattle.std.specs.Prelude.{◌≡◌, ◌≤◌, ◌<◌, ℕ, suc, ◌+◌, take, Option, None}
use Rattle.std.specs.Option.{option_map_or}
use Rattle.base.specs.Lines.{Grid}
use Rattle.base.specs.Levels.{Levels}
use Rattle.sharing_rules.specs.AccessLists.{AccessList}
use Rattle.sharing_rules.specs.Lines.{Line}
use Rattle.sharing_rules.specs.Holders.{line_count_since}
use Rattle.sharing_rules.specs.Members.{Member}
use Rattle.sharing_rules.specs.Listed.{Finding, listed, observed_line}
use Rattle.sharing_rules.specs.declared.line_kind.LineKind.TheVariants.{Observed}

-- the layout of a line
abbrev pub layout_of : Line → Grid
layout_of l = record { size = l.size; offset = l.offset }

-- the line as an observed one of its layout, with tracking threshold 1
abbrev pub recounted : Line → AccessList → Option Finding
recounted l t = observed_line (layout_of l) 1 t l.number

-- its count, 0 where nothing writes to it
abbrev pub recount : Line → AccessList → ℕ
recount l t = option_map_or (λ f. f.count) (recounted l t) 0

-- the recount up to the start of what is found of a line, the starting write with it
abbrev pub recount_to_start : AccessList → Finding → ℕ
recount_to_start t f = recount f.line (take (suc f.start) t)

-- What is found of a line beside its recount: the recount is no less, it counts as much after the
-- start, and so at each later point of the list.
pub record IsRecounted (t : AccessList) (f : Finding) : Type 0 where
  pub bounded : f.count ≤ recount f.line t
  pub since : recount f.line t ≡ recount_to_start t f + f.count
  pub alike : (n : ℕ) → f.start < n
      → recount f.line (take n t) ≡ recount_to_start t f + line_count_since f.line f.start
      (take n t)

-- thresholds that track every written line and predict nothing
abbrev pub plain_levels : ℕ → Levels
plain_levels report = record { tracking = 1; prediction = None; report = report }

-- under its own layout and such thresholds the line is listed with its recount, and starts no later
abbrev pub IsListedPlainly : ℕ → AccessList → Finding → Type 0
IsListedPlainly report t f =
    let plain : ℕ → Finding = λ s. record {
      kind = Observed;
      line = f.line;
      start = s;
      count =
          recount f.line t;
    } in
    (s : ℕ) × (s ≤ f.start) × Member (plain s) (listed (layout_of f.line) (plain_levels report) t)
