-- A fault that no later byte changes.
use Rattle.std.proofs.Common.{◌≡◌, ℕ, inl, inr, List, [], ◌++◌, length, ap, ◌∙◌}
use Rattle.std.proofs.Common.{◌⊎◌, append_assoc, arith}
use Rattle.std.proofs.lemmas.List.{append-nil, length-append}
use Rattle.trace_format.specs.declared.fault.TraceFault.{TraceFault}
use Rattle.trace_format.specs.declared.record.TraceRecord.{TraceRecord}
use Rattle.trace_format.specs.declared.read_so_far.ReadSoFar.{ReadSoFar}
use Rattle.trace_format.specs.Rules.{touches_in}
use Rattle.trace_format.specs.Spelling.{nothing_before}
use Rattle.trace_format.specs.Writing.{before_behind, begun_with}
use Rattle.trace_format.specs.Faults.{Beginning, HasFault, IsAtFault, IsRefused, IsTooLong}
use Rattle.trace_format.specs.Faults.{KeepsRules, behind, records_in, spell_beginning}

-- a unit that is refused, or stands at the last place
pub record Stops (bytes : List ℕ) (items : List TraceRecord) (f : TraceFault) : Type 0 where
  pub before : Beginning
  pub unit : List ℕ
  pub rest : List ℕ
  pub good : KeepsRules before
  pub records : items ≡ records_in before
  pub spelled : bytes ≡ spell_beginning before ++ (unit ++ rest)
  pub judged : IsRefused before unit f ⊎ IsTooLong before unit rest f

still_judged : (before : Beginning) (unit rest more : List ℕ) (f : TraceFault)
    → IsRefused before unit f ⊎ IsTooLong before unit rest f
    → IsRefused before unit f ⊎ IsTooLong before unit (rest ++ more) f
still_judged before unit rest more f (inl refused) = inl refused
still_judged before unit rest more f (inr long) =
    let some = long.more in
    inr (record {
      part = long.part;
      last = long.last;
      more = omega (arith, length-append rest more);
      fault = long.fault;
    })

-- It stands whatever follows.
pub stops_longer : (bytes more : List ℕ) (items : List TraceRecord) (f : TraceFault)
    → Stops bytes items f → Stops (bytes ++ more) (items ++ []) f
stops_longer bytes more items f s =
    let front = spell_beginning s.before in
    record {
      before = s.before;
      unit = s.unit;
      rest = s.rest ++ more;
      good = s.good;
      records = append-nil items ∙ s.records;
      spelled = ap (λ (xs : List ℕ). xs ++ more) s.spelled
          ∙ append_assoc front (s.unit ++ s.rest) more
          ∙ ap (λ (xs : List ℕ). front ++ xs) (append_assoc s.unit s.rest more);
      judged = still_judged s.before s.unit s.rest more f s.judged;
    }

stopped : (before : Beginning) (unit rest : List ℕ) (f : TraceFault)
    → IsRefused before unit f ⊎ IsTooLong before unit rest f
    → IsAtFault before unit rest f
stopped before unit rest f (inl refused) = inl refused
stopped before unit rest f (inr long) = inr (inr long)

pub has_stopped : (bytes : List ℕ) (items : List TraceRecord) (f : TraceFault)
    → Stops bytes items f → HasFault bytes items f
has_stopped bytes items f s = record {
  before = s.before;
  unit = s.unit;
  rest = s.rest;
  good = s.good;
  records = s.records;
  spelled = s.spelled;
  judged = stopped s.before s.unit s.rest f s.judged;
}

-- what is read of records is how a record comes behind them
pub is_behind : (p : ReadSoFar) (items : List TraceRecord)
    → p.counted ≡ length (touches_in items) → p.before ≡ before_behind nothing_before items
    → p.place ≡ length (begun_with p.version p.header items)
    → p ≡ behind p.version p.header items
is_behind p items counted before place =
    λ i. let now : ReadSoFar =
    record {
      version = p.version;
      header = p.header;
      counted = counted i;
      before = before i;
      place = place i;
    } in now
