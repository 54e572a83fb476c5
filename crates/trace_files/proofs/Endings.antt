-- How a call ends that moves a trace, where the records of a piece can't all be put.
use Rattle.std.proofs.Common.{◌≡◌, ◌++◌, ℕ, List, Option, refl, subst, sym}
use Rattle.shelf.specs.Fetch.{IsFront}
use Rattle.shelf.specs.Shelf.{HasRead, Outside, Known, content}
use Rattle.trace_format.specs.declared.record.Header.{Header}
use Rattle.trace_format.specs.declared.record.TraceRecord.{TraceRecord}
use Rattle.trace_format.specs.declared.record.Version.{Version}
use Rattle.trace_passes.specs.declared.wanted.Wanted.{Wanted}
use Rattle.trace_passes.specs.Cursors.{GoesOn, HasCome, Reached, version_and_header}
use Rattle.trace_files.specs.declared.move_fault.MoveFault.{MoveFault}
use Rattle.trace_files.specs.declared.move_row.Move.{Move}
use Rattle.trace_files.specs.declared.mover.Mover.{Mover}
use Rattle.trace_files.specs.Copies.{any}
use Rattle.trace_files.specs.Movers.{Follows, HasMoved, StopsAt}
use Rattle.trace_files.proofs.GivingUp.{Gave, gave_stopped}
use Rattle.trace_files.proofs.Relocations.{IsMoving, at_all, front_still}

pub taken_up : (table : List Move) (trace file : List ℕ) (m : Mover) (cursor next : Reached)
    (old mid read new : Outside) (at : IsMoving table trace file m cursor old mid)
    → HasRead mid read → (w : Wanted) → w ≡ any
    → ((bytes : List ℕ) → HasCome mid.held trace w bytes cursor
    → GoesOn mid read trace w bytes next)
    → (head : Option (Version × Header)) (its : List TraceRecord) (fault : MoveFault)
    → head ≡ version_and_header next.reading.progress → its ≡ next.items
    → new.held ≡ read.held
    → ((known : Option (Version × Header)) (seen : List TraceRecord) (before : Outside)
    → HasMoved table m.name.now m known seen before read → Follows known seen head its
    → StopsAt table m.name.now head (seen ++ its) before new fault)
    → Gave new.held trace file table old new fault
taken_up table trace file m cursor next old mid read new at reads w is_any goes head its fault
    head_is its_are keeps_held stopped =
    let come = subst (λ (x : Wanted). HasCome mid.held trace x at.bytes cursor) (sym is_any) at.come
    in
    let on = subst (λ (x : Wanted). GoesOn mid read trace x at.bytes next) is_any
    (goes at.bytes come) in
    let all = at.bytes ++ on.more in
    let front : Known new.held (λ fs. IsFront (content fs trace) all) =
    front_still read.held new.held trace all keeps_held on.come.front in
    gave_stopped new.held trace file table all front old new fault
    (at_all table trace file m cursor old mid at read reads all next.items its next.reading head
    (λ n h l b. StopsAt table n h l b new fault) (on.more, refl) on.records on.come.read.reading
    head_is its_are stopped)
