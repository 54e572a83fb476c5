-- When an observer may be given more records, and that it was given one.
use Rattle.std.specs.Prelude.{ℕ, ◌+◌, ◌≤◌, List, [], ◌∷◌, ◌++◌, length}
use Rattle.trace_format.specs.declared.record.TraceRecord.{TraceRecord}
use Rattle.trace_format.specs.Rules.{last_position, touches_in}

-- It was given some records since it began, and may begin at a position from which on the accesses
-- among them and these are no more than a trace may have.
pub record HasRoom {A : Type 0} (begins : A → ℕ → Type 0) (given : A → A → List TraceRecord
    → Type 0) (now : A)
    (more : List TraceRecord) : Type 0 where
  pub begun : A
  pub first : ℕ
  pub seen : List TraceRecord
  pub begins_there : begins begun first
  pub given_so_far : given begun now seen
  pub room : first + length (touches_in (seen ++ more)) ≤ last_position

-- Whatever records it was given before, it was given this one after them.
abbrev pub GivenNext : {A : Type 0} → (A → A → List TraceRecord → Type 0) → A → A → TraceRecord
    → Type 0
GivenNext {A} given old new item =
    (begun : A) (items : List TraceRecord) → given begun old items
    → given begun new (items ++ item ∷ [])
