-- That bytes are what a good record spells.
use Rattle.std.specs.Prelude.{◌≡◌, ℕ, List, []}
use Rattle.std.specs.Prelude.{◌++◌, ◌∷◌}
use Rattle.trace_format.specs.declared.record.TraceEnd.{TraceEnd}
use Rattle.trace_format.specs.declared.record.Header.{Header}
use Rattle.trace_format.specs.declared.record.Version.{Version}
use Rattle.trace_format.specs.declared.record.TraceRecord.{TraceRecord}
use Rattle.trace_format.specs.declared.record.TraceRecord.TheVariants as records
use Rattle.trace_format.specs.declared.read_so_far.ReadSoFar.{ReadSoFar}
use Rattle.trace_format.specs.Rules.{IsGoodRecord, IsTrace}
use Rattle.trace_format.specs.Spelling.{spell_record}
use Rattle.trace_format.specs.Laws.Again.{ComesAt}

-- a good record that comes at a place, and its spelling
pub record IsFound (p : ReadSoFar) (bytes : List ℕ) (item : TraceRecord) : Type 0 where
  pub good : IsGoodRecord p.version p.header.harts item
  pub there : ComesAt p item
  pub spelled : bytes ≡ spell_record p.version p.before item

-- the bytes are a trace with these records, the last of which is this end
pub record IsTraceOf (bytes : List ℕ) (all : List TraceRecord) (e : TraceEnd) : Type 0 where
  pub version : Version
  pub header : Header
  pub items : List TraceRecord
  pub trace : IsTrace bytes version header items e
  pub records : all ≡ items ++ records.End e ∷ []
