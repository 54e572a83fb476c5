-- What an observer reports of the accesses so far, and how records bring it on.
use Rattle.std.specs.Prelude.{◌≡◌, ℕ, ◌+◌, List, ◌++◌, length, Option}
use Rattle.std.specs.List.{filter_map}
use Rattle.trace_format.specs.Rules.{touches_in}
use Rattle.trace_format.specs.declared.record.TraceRecord.{TraceRecord}

-- How a value of V accounts for accesses: it stands for lists of X, under a setting of S.
pub record Account (V X S : Type 0) : Type 1 where
  -- what a record adds to a list, None where it is no access
  pub listed : TraceRecord → Option X
  -- that a value stands for a list
  pub StandsFor : List X → V → Type 0
  -- how many accesses came before the one that is next
  pub position : V → ℕ
  -- what stays the same, such as a layout
  pub setting : V → S

-- From what it was first, a value came to what it is by these records.
pub record CameBy {V X S : Type 0} (k : Account V X S) (begun now : V) (items : List TraceRecord)
    : Type 0 where
  -- for each list that it stood for, it stands for the list with their accesses
  pub stands : (t : List X) → k.StandsFor t begun
      → k.StandsFor (t ++ filter_map k.listed items) now
  -- each access moved it on by one
  pub position : k.position now ≡ k.position begun + length (touches_in items)
  -- its setting is the same
  pub setting : k.setting now ≡ k.setting begun

-- its first access has this position
abbrev pub BeginsAt : {V X S : Type 0} → Account V X S → V → ℕ → Type 0
BeginsAt k begun first = k.position begun ≡ first
