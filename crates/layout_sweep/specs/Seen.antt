-- What a sweep has seen of the records of a trace.
use Rattle.std.specs.Prelude.{Option}
use Rattle.std.specs.Prelude.{ℕ, List}
use Rattle.base.specs.Touch.{Touch}
use Rattle.sharing_rules.specs.AccessLists.{AccessList}
use Rattle.trace_format.specs.Rules.{touch_in, touches_in}
use Rattle.trace_format.specs.declared.record.TraceRecord.{TraceRecord}
use Rattle.trace_format.specs.declared.record.TraceRecord.TheVariants as records
use Rattle.trace_passes.specs.Accounts.{Account, BeginsAt, CameBy}
use Rattle.layout_sweep.specs.Standing.{StandsFor}
use Rattle.layout_sweep.specs.Texts.{sweep_text}
use Rattle.layout_sweep.specs.Windows.{IsFirstWrite}
use Rattle.layout_sweep.specs.declared.sweep.Sweep.{Sweep}

-- how a sweep accounts for the accesses of a trace: under lines of a size
abbrev pub sweep_account : Account Sweep Touch ℕ
sweep_account = record {
  listed = touch_in;
  StandsFor = StandsFor;
  position = λ s. s.position;
  setting = λ s. s.size;
}

-- from what it was first, it came to what it is by these records
abbrev pub HasSwept : Sweep → Sweep → List TraceRecord → Type 0
HasSwept = CameBy sweep_account

-- its first access has this position
abbrev pub begins_at : Sweep → ℕ → Type 0
begins_at = BeginsAt sweep_account

-- a record behind these accesses that may want memory under lines of n bytes: the first write of a
-- line of some shift
abbrev pub WantsMemory : ℕ → AccessList → TraceRecord → Type 0
WantsMemory n t (records.Touch a pc) = IsFirstWrite n t a
WantsMemory n t _ = ⊥

-- one that wants none, by a list that the sweep stands for
abbrev pub NeedsNone : Sweep → TraceRecord → Type 0
NeedsNone s item = (t : AccessList) × StandsFor t s × (WantsMemory s.size t item → ⊥)

-- the text of a list of records, under every shift of a size
abbrev pub sweep_of_records : ℕ → Option ℕ → List TraceRecord → List ℕ
sweep_of_records n whole items = sweep_text n whole (touches_in items)
