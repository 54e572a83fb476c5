-- What two traces are to each other that are the halves of a third one.
use Rattle.std.specs.Prelude.{◌≡◌, ◌+◌, ◌++◌, length, None, Some}
use Rattle.base.specs.declared.ending.Outcome.TheVariants.{Part}
use Rattle.trace_format.specs.Rules.{IsTrace, touches_in}
use Rattle.trace_passes.specs.Passes.{Trace, spell_trace, trace_of}

-- its bytes are a trace, and are read as this one
pub record IsWhole (t : Trace) : Type 0 where
  pub good : IsTrace (spell_trace t) t.version t.header t.items t.ending
  pub read : trace_of (spell_trace t) ≡ Some t

-- Both are traces of as many harts as the whole. The first begins where the whole begins, and ends
-- as a part does; the second goes on behind its accesses, and ends as the whole. Each end states
-- how many accesses its own half has.
pub record AreHalves (whole first second : Trace) : Type 0 where
  pub first_is : IsWhole first
  pub second_is : IsWhole second
  pub items : whole.items ≡ first.items ++ second.items
  pub first_harts : first.header.harts ≡ whole.header.harts
  pub second_harts : second.header.harts ≡ whole.header.harts
  pub begins : first.header.first ≡ whole.header.first
  pub goes_on : second.header.first ≡ first.header.first + length (touches_in first.items)
  pub part : first.ending
      ≡ record {
        outcome = Part;
        steps = 0;
        accesses = length (touches_in first.items);
        whole = None;
      }
  pub ending : second.ending
      ≡ record whole.ending { accesses = length (touches_in second.items); whole = None }
