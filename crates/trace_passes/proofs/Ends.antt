-- What a reading gives that ended well: its version, its header and its end.
use Rattle.std.proofs.Common.{◌≡◌, ℕ, List, Option, Some, None, Ok, sym, ap, ◌∙◌, option_map}
use Rattle.trace_format.specs.declared.record.TraceEnd.{TraceEnd}
use Rattle.trace_format.specs.declared.read_so_far.ReadSoFar.{ReadSoFar}
use Rattle.trace_format.specs.Reading.{Reading, ending_of, reading_of}
use Rattle.trace_passes.specs.Laws.Passes.{whole_at_end}

-- it has a header
pub record HasHead (r : Reading) : Type 0 where
  pub now : ReadSoFar
  pub known : r.progress ≡ Some now

pub head_there : (r : Reading) (bytes : List ℕ) (e : TraceEnd) → r ≡ (reading_of bytes).1
    → ending_of r ≡ Ok e → HasHead r
head_there r bytes e is end =
    let whole = whole_at_end bytes e (sym (ap ending_of is) ∙ end) in
    record { now = whole.now; known = ap (λ (x : Reading). x.progress) is ∙ whole.known }

pub no_head : {A : Type 0} (f : ReadSoFar → A) (r : Reading) (stated : Option A) → HasHead r → stated
    ≡ option_map f r.progress → stated ≡ None → ⊥
no_head f r stated head is none =
    let some : option_map f r.progress ≡ Some (f head.now) = ap (option_map f) head.known in
    cc
