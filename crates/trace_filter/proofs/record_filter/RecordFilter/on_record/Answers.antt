use Rattle.std.proofs.Common.{◌≡◌, ◌∷◌, [], refl, subst, sym}
use Rattle.access_filter.specs.Standing.{near_of}
use Rattle.trace_format.specs.declared.record.TraceRecord.{TraceRecord}
use Rattle.trace_format.specs.Rules.{touches_in}
use Rattle.trace_filter.proofs.Passing.{other_item, quiet}
use Rattle.trace_filter.proofs.record_filter.RecordFilter.on_record.Goals as goal

pub returns-in-End-clause-filtered : goal.returns-in-End-clause-filtered
returns-in-End-clause-filtered c = λ items had.
    quiet items c.args.item.now c.args.self.now
    (subst (λ (x : TraceRecord). touches_in (x ∷ []) ≡ []) (sym c.in-End.is) refl) had

pub returns-in_default : goal.returns-in_default
returns-in_default c =
    let f = c.args.self.now in
    let item = c.args.item.now in
    record {
      written = λ items had.
          (other_item (near_of f.filter) (touches_in items) item c.in_default.not-Touch
          c.in_default.not-End).0;
      filtered = λ items had. quiet items item f
          (other_item (near_of f.filter) (touches_in items) item c.in_default.not-Touch
          c.in_default.not-End).1 had;
      near = refl;
      still = λ items had. tt;
    }
