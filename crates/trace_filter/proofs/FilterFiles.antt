-- The file of a filtered trace, with one record more.
use Rattle.std.proofs.Common.{◌≡◌, ℕ, List, [], ◌∷◌, ◌++◌, Option, Some, None, refl, sym, ap, ◌∙◌, subst}
use Rattle.std.proofs.Common.{Result, Ok, Err, OnOk, append-nil}
use Rattle.std.specs.Option.{option_to_list}
use Rattle.access_filter.specs.Standing.{near_of}
use Rattle.shelf.specs.declared.shelf.ShelfError.TheVariants as errors
use Rattle.shelf.specs.Files.{AreCut, Output, one_file}
use Rattle.shelf.specs.Laws.Files.{AreCut-longer, IsOutputs-begun, IsOutputs-cut}
use Rattle.shelf.specs.OnTheirWay.{AreBegun, IsOutputs, names_of, outputs_with}
use Rattle.shelf.specs.Shelf.{Outside}
use Rattle.trace_format.specs.declared.record.Header.{Header}
use Rattle.trace_format.specs.declared.record.TraceRecord.{TraceRecord}
use Rattle.trace_format.specs.declared.record.Version.TheVariants.{Four}
use Rattle.trace_format.specs.Laws.Writing.{begun-append, begun-more, writer-more}
use Rattle.trace_format.specs.Rules.{touches_in}
use Rattle.trace_format.specs.Spelling.{before_after, nothing_before, spell_record, spell_records}
use Rattle.trace_format.specs.Writing.{Writing, before_behind, begun_with}
use Rattle.trace_filter.specs.Files.{IsUnderWay, MayCome, filtered_so_far}
use Rattle.trace_filter.specs.Filtering.{filtered_header, filtered_item, filtered_items}
use Rattle.trace_filter.specs.Passages.{HasFiltered}
use Rattle.trace_filter.specs.declared.filter_file.FilterFile.{FilterFile}
use Rattle.trace_filter.proofs.FilterLaws.{filtered_items-push, no_record}

pub both_ok : {T E P Q R : Type 0} (r : Result T E) → (P → Q → R) → OnOk r P → OnOk r Q → OnOk r R
both_ok (Ok x) f p q = f p q
both_ok (Err e) f p q = tt

-- nothing came yet
pub nothing_came : (k : ℕ) (name : List ℕ) (h : Header)
    → one_file name (begun_with Four (filtered_header k h) []) ≡ filtered_so_far k name h []
nothing_came k name h =
    ap (λ xs. one_file name (begun_with Four (filtered_header k h) xs)) (sym (no_record k))

pub nothing_written : (k : ℕ) → nothing_before ≡ before_behind nothing_before (filtered_items k [])
nothing_written k = ap (before_behind nothing_before) (sym (no_record k))

pub begun_file : (f : FilterFile) (now : Outside) → MayCome f now → AreBegun (names_of f.files) now
begun_file f now way =
    IsOutputs-begun f.files (filtered_so_far way.k way.name way.header way.seen) way.before now
    way.came.outputs

module _ (k : ℕ) (name : List ℕ) (h : Header) (f : FilterFile) (seen : List TraceRecord)
    (before old : Outside) (came : IsUnderWay k name h f seen before old) (item : TraceRecord)
  where
    -- what becomes of a record, by the size of regions that is given
    pub as_given : (o : Option TraceRecord)
        → o ≡ filtered_item (near_of f.records.filter) (touches_in seen) item
        → o ≡ filtered_item k (touches_in seen) item
    as_given o is = is ∙ ap (λ n. filtered_item n (touches_in seen) item) came.near

    more : (o : Option TraceRecord) → o ≡ filtered_item k (touches_in seen) item
        → filtered_items k (seen ++ item ∷ []) ≡ filtered_items k seen ++ option_to_list o
    more o is = filtered_items-push k seen item
        ∙ ap (λ p. filtered_items k seen ++ option_to_list p) (sym is)

    pub put_on : (x : TraceRecord) → Some x ≡ filtered_item k (touches_in seen) item
        → outputs_with (filtered_so_far k name h seen) 0
        (spell_record f.writer.version f.writer.before x)
        ≡ filtered_so_far k name h (seen ++ item ∷ [])
    put_on x is =
        (λ i. outputs_with (filtered_so_far k name h seen) 0
        (spell_record (came.writer i).version (came.writer i).before x))
        ∙ ap (one_file name) (begun-more Four (filtered_header k h) (filtered_items k seen) x
        ∙ ap (begun_with Four (filtered_header k h)) (sym (more (Some x) is)))

    pub has_put : (x : TraceRecord) (g : FilterFile) (new : Outside)
        → Some x ≡ filtered_item k (touches_in seen) item
        → near_of g.records.filter ≡ near_of f.records.filter
        → HasFiltered (seen ++ item ∷ []) g.records
        → g.writer ≡ record f.writer { before = before_after f.writer.before x }
        → IsOutputs g.files (outputs_with (filtered_so_far k name h seen) 0
        (spell_record f.writer.version f.writer.before x)) before new
        → IsUnderWay k name h g (seen ++ item ∷ []) before new
    has_put x g new is near filtered next outputs = record {
      near = near ∙ came.near;
      filtered = filtered;
      writer = next ∙ writer-more Four f.writer (filtered_items k seen) x came.writer
          ∙ ap (λ (l : List TraceRecord). let w : Writing = record
          { version = Four; before = before_behind nothing_before l } in w)
          (sym (more (Some x) is));
      outputs = subst (λ (l : List Output). IsOutputs g.files l before new) (put_on x is) outputs;
    }

    pub left_out : (g : FilterFile) → None ≡ filtered_item k (touches_in seen) item
        → near_of g.records.filter ≡ near_of f.records.filter
        → HasFiltered (seen ++ item ∷ []) g.records → g.writer ≡ f.writer → g.files ≡ f.files
        → IsUnderWay k name h g (seen ++ item ∷ []) before old
    left_out g is near filtered writer files =
        let same = more None is ∙ append-nil (filtered_items k seen) in
        record {
          near = near ∙ came.near;
          filtered = filtered;
          writer = writer ∙ came.writer
              ∙ ap (λ (l : List TraceRecord). let w : Writing = record
              { version = Four; before = before_behind nothing_before l } in w) (sym same);
          outputs = subst (λ w. IsOutputs w (filtered_so_far k name h (seen ++ item ∷ [])) before old)
              (sym files)
              (subst (λ (l : List TraceRecord). IsOutputs f.files
              (one_file name (begun_with Four (filtered_header k h) l)) before old) (sym same)
              came.outputs);
        }

    -- where memory runs out before anything is put, what was put stands but for what waits
    pub unput : AreCut (filtered_so_far k name h (seen ++ item ∷ [])) before old errors.NoMemory
    unput =
        let rest : List TraceRecord = option_to_list (filtered_item k (touches_in seen) item) in
        let on : begun_with Four (filtered_header k h) (filtered_items k (seen ++ item ∷ []))
        ≡ begun_with Four (filtered_header k h) (filtered_items k seen)
        ++ spell_records Four (before_behind nothing_before (filtered_items k seen)) rest =
        ap (begun_with Four (filtered_header k h)) (filtered_items-push k seen item)
        ∙ begun-append Four (filtered_header k h) (filtered_items k seen) rest in
        AreCut-longer (filtered_so_far k name h seen) (filtered_so_far k name h (seen ++ item ∷ []))
        before old errors.NoMemory (
          refl,
          (spell_records Four (before_behind nothing_before (filtered_items k seen)) rest, on),
          tt,
        )
        (IsOutputs-cut f.files (filtered_so_far k name h seen) before old errors.NoMemory (λ e. cc)
        came.outputs)
