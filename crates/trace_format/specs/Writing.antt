-- How far a trace is written.
use Rattle.std.specs.Prelude.{ℕ, List, [], ◌∷◌, ◌++◌}
use Rattle.trace_format.specs.declared.before.Before.{Before}
use Rattle.trace_format.specs.declared.record.Header.{Header}
use Rattle.trace_format.specs.declared.record.TraceRecord.{TraceRecord}
use Rattle.trace_format.specs.declared.record.Version.{Version}
use Rattle.trace_format.specs.Spelling.{before_after, nothing_before, spell_header}
use Rattle.trace_format.specs.Spelling.{spell_records}

pub record Writing : Type 0 where
  pub version : Version
  -- what the next access is spelled against
  pub before : Before

abbrev pub begin_writing : Version → Writing
begin_writing version = record { version = version; before = nothing_before }

-- what the next access behind records is spelled against
abbrev pub before_behind : Before → List TraceRecord → Before
before_behind before [] = before
before_behind before (item ∷ items) = before_behind (before_after before item) items

-- what stands of a trace that has its header and these records
abbrev pub begun_with : Version → Header → List TraceRecord → List ℕ
begun_with v header items = spell_header v header ++ spell_records v nothing_before items
