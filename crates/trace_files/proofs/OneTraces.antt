-- One trace on its way: a record more, and a front of what comes.
use Rattle.std.proofs.Common.{◌≡◌, ℕ, List, [], ◌∷◌, ◌++◌, refl, sym, ap, ◌∙◌, subst}
use Rattle.std.proofs.Common.{Result, Ok, Err, OnOk}
use Rattle.shelf.specs.Shelf.{Outside}
use Rattle.shelf.specs.declared.shelf.ShelfError.{ShelfError}
use Rattle.shelf.specs.declared.shelf.ShelfError.TheVariants.{NoMemory}
use Rattle.shelf.specs.Files.{AreCut, Output}
use Rattle.shelf.specs.OnTheirWay.{AreBegun, IsOutputs, names_of, outputs_with}
use Rattle.shelf.specs.Laws.Files.{AreCut-longer, IsOutputs-begun, IsOutputs-cut}
use Rattle.trace_format.specs.declared.record.Header.{Header}
use Rattle.trace_format.specs.declared.record.TraceRecord.{TraceRecord}
use Rattle.trace_format.specs.declared.record.Version.{Version}
use Rattle.trace_format.specs.Spelling.{nothing_before, spell_record, spell_records}
use Rattle.trace_format.specs.Writing.{before_behind, begun_with}
use Rattle.trace_format.specs.Laws.Writing.{begun-append, begun-more}
use Rattle.trace_files.specs.declared.trace_file.TraceFile.{TraceFile}
use Rattle.trace_files.specs.OneTrace.{HasPut, IsOnItsWay, so_far, trace_so_far}
use Rattle.trace_files.specs.Copying.{IsUnderWay}

-- a record that is put after others
pub put_more : (f : TraceFile) (seen : List TraceRecord) (item : TraceRecord) → HasPut f seen
    → outputs_with (so_far f seen) 0 (spell_record f.writer.version f.writer.before item)
    ≡ so_far f (seen ++ item ∷ [])
put_more f seen item has =
    (λ i. outputs_with (so_far f seen) 0
    (spell_record (has.writer i).version (has.writer i).before item))
    ∙ ap (λ (l : List ℕ). let o : List Output = record { name = f.name.now; bytes = l } ∷ [] in o)
    (begun-more f.version f.header seen item)

-- what is cut after some records is cut after more
pub cut_more : (name : List ℕ) (v : Version) (h : Header) (items all more : List TraceRecord)
    (before now : Outside) (e : ShelfError) → items ++ more ≡ all
    → AreCut (trace_so_far name v h items) before now e
    → AreCut (trace_so_far name v h all) before now e
cut_more name v h items all more before now e is cut =
    let on : begun_with v h all
    ≡ begun_with v h items ++ spell_records v (before_behind nothing_before items) more =
    ap (begun_with v h) (sym is) ∙ begun-append v h items more in
    AreCut-longer (trace_so_far name v h items) (trace_so_far name v h all) before now e
    (refl, (spell_records v (before_behind nothing_before items) more, on), tt) cut

-- where memory runs out before a record is put, what was put stands but for what waits
pub record_unput : (f : TraceFile) (items : List TraceRecord) (item : TraceRecord)
    (before now : Outside) → IsOnItsWay f items before now
    → AreCut (so_far f (items ++ item ∷ [])) before now NoMemory
record_unput f items item before now on =
    cut_more f.name.now f.version f.header items (items ++ item ∷ []) (item ∷ []) before now
    NoMemory refl (IsOutputs-cut f.files (so_far f items) before now NoMemory (λ e. cc) on.outputs)

-- ---- on its way

-- a file that is begun
pub begun_file : (f : TraceFile) (name : List ℕ) (v : Version) (h : Header) (before now : Outside)
    → so_far f ≡ trace_so_far name v h → HasPut f []
    → IsOutputs f.files (trace_so_far name v h []) before now → IsOnItsWay f [] before now
begun_file f name v h before now same put on = record {
  came = put;
  outputs = subst (λ (s : List TraceRecord → List Output). IsOutputs f.files (s []) before now)
      (sym same) on;
}

pub way_of : (f : TraceFile) (items : List TraceRecord) (before now : Outside)
    → IsOnItsWay f items before now → IsUnderWay f.files (so_far f) (HasPut f) now
way_of f items before now on = record {
  seen = items;
  before = before;
  came = on.came;
  outputs = on.outputs;
}

pub on_way : (f : TraceFile) (now : Outside) → (way : IsUnderWay f.files (so_far f) (HasPut f) now)
    → IsOnItsWay f way.seen way.before now
on_way f now way = record { came = way.came; outputs = way.outputs }

pub begun_way : (f : TraceFile) (now : Outside) → IsUnderWay f.files (so_far f) (HasPut f) now
    → AreBegun (names_of f.files) now
begun_way f now way = IsOutputs-begun f.files (so_far f way.seen) way.before now way.outputs

-- once more was put
pub put_on : {T : Type 0} (r : Result T ShelfError) (f g : TraceFile) (item : TraceRecord)
    (old new : Outside)
    → so_far g ≡ so_far f
    → OnOk r ((seen : List TraceRecord) → HasPut f seen → HasPut g (seen ++ item ∷ []))
    → OnOk r ((seen : List TraceRecord) (before : Outside) → HasPut f seen
    → IsOutputs f.files (so_far f seen) before old
    → IsOutputs g.files (so_far f (seen ++ item ∷ [])) before new)
    → OnOk r ((items : List TraceRecord) (before : Outside) → IsOnItsWay f items before old
    → IsOnItsWay g (items ++ item ∷ []) before new)
put_on (Ok x) f g item old new same has outputs = λ items before on. record {
  came = has items on.came;
  outputs = subst (λ (s : List TraceRecord → List Output).
      IsOutputs g.files (s (items ++ item ∷ [])) before new) (sym same)
      (outputs items before on.came on.outputs);
}
put_on (Err e) f g item old new same has outputs = tt

-- once what waited was appended
pub still_on : {T : Type 0} (r : Result T ShelfError) (f g : TraceFile) (old new : Outside)
    → so_far g ≡ so_far f → OnOk r ((seen : List TraceRecord) → HasPut f seen → HasPut g seen)
    → OnOk r ((outputs : List Output) (before : Outside) → IsOutputs f.files outputs before old
    → IsOutputs g.files outputs before new)
    → OnOk r ((items : List TraceRecord) (before : Outside) → IsOnItsWay f items before old
    → IsOnItsWay g items before new)
still_on (Ok x) f g old new same has outputs = λ items before on. record {
  came = has items on.came;
  outputs = outputs (so_far g items) before
      (subst (λ (s : List TraceRecord → List Output). IsOutputs f.files (s items) before old)
      (sym same) on.outputs);
}
still_on (Err e) f g old new same has outputs = tt
