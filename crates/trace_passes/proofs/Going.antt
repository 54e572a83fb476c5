-- A pass on its way.
use Rattle.std.proofs.Common.{ℕ, List, Option}
use Rattle.shelf.specs.Agreeing.{HasReadFront}
use Rattle.shelf.specs.Shelf.{Files, Given}
use Rattle.trace_format.specs.declared.record.TraceRecord.{TraceRecord}
use Rattle.trace_format.specs.Reading.{reading_of}
use Rattle.trace_passes.specs.declared.wanted.Wanted.{Wanted}
use Rattle.trace_passes.specs.Cursors.{HasCome, Reached}

-- the cursor has read some bytes, as reads have given them since then, and their records were given
pub record IsAt (held : Option Files) (name : List ℕ) (w : Wanted)
    (given : List TraceRecord → Type 0) (first last : List Given) (now : Reached) : Type 0 where
  pub bytes : List ℕ
  pub front : HasReadFront name bytes first last
  pub come : HasCome held name w bytes now
  pub saw : given (reading_of bytes).0
