-- A filtered trace on its way, piece after piece.
use Rattle.std.proofs.Common.{◌≡◌, ℕ, List, [], ◌∷◌, ◌++◌, take, drop}
use Rattle.std.proofs.Common.{Option, Some, None, refl, sym, ap, ◌∙◌, subst, append-nil}
use Rattle.std.proofs.Common.{append_assoc}
use Rattle.std.proofs.lemmas.List.{take-append-drop}
use Rattle.std.specs.Option.{option_to_list}
use Rattle.shelf.specs.declared.shelf.ShelfError.{ShelfError}
use Rattle.shelf.specs.Files.{AreCut, AreWritten, Output}
use Rattle.shelf.specs.Laws.Files.{IsOutputs-read}
use Rattle.shelf.specs.Laws.Known.{goes_map, goes_same, read_both, read_none, reads_alone, writes_both}
use Rattle.shelf.specs.OneFile.{Waiting}
use Rattle.shelf.specs.OnTheirWay.{IsNew, IsOutputs, names_of}
use Rattle.shelf.specs.Files.{HasCauseAmong, BegunInOrder}
use Rattle.shelf.specs.Shelf.{Files, Goes, HasRead, Outside}
use Rattle.trace_format.specs.declared.record.Header.{Header}
use Rattle.trace_format.specs.declared.record.TraceRecord.{TraceRecord}
use Rattle.trace_format.specs.declared.record.Version.{Version}
use Rattle.trace_format.specs.Rules.{touches_in}
use Rattle.trace_files.specs.Movers.{Follows}
use Rattle.trace_filter.specs.Files.{IsUnderWay, filtered_so_far}
use Rattle.trace_filter.specs.FilterPass.{IsCutAt, IsOnItsWay, so_far}
use Rattle.trace_filter.specs.Filtering.{filtered_item, filtered_items}
use Rattle.trace_filter.specs.declared.filter_file.FilterFile.{FilterFile}
use Rattle.trace_filter.proofs.FilterLaws.{filtered_items-push}

-- ---- reads alone

none_yet : (o : Outside) → IsOutputs [] [] o o
none_yet o = record {
  sunk = tt;
  others = goes_same (λ old new. (name : List ℕ) → IsNew name [] → new name ≡ old name) o.written
      (λ x name new. refl);
  faults = refl;
  only = reads_alone o o (read_none o);
}

pub none_sunk : (before now : Outside) → HasRead before now → IsOutputs [] [] before now
none_sunk before now read = IsOutputs-read [] [] before before now read (none_yet before)

pub none_written : (before now : Outside) → HasRead before now → AreWritten [] before now
none_written before now read =
    let on = none_sunk before now read in
    record {
      whole = goes_map before.written now.written (λ old new same name. same name tt) on.others;
      faults = on.faults;
      only = on.only;
    }

-- what came since some reads came since before them
pub read_first : (files : List Waiting) (outputs : List Output) (before old now : Outside)
    → HasRead before old → IsOutputs files outputs old now → IsOutputs files outputs before now
read_first files outputs before old now read on = record {
  sunk = on.sunk;
  others = subst (λ (w : Option Files). Goes w now.written
      (λ a b. (name : List ℕ) → IsNew name (names_of files) → b name ≡ a name)) read.only.written
      on.others;
  faults = on.faults ∙ read.only.write_faults;
  only = writes_both before old now (reads_alone before old read) on.only;
}

pub read_then_cut : (outputs : List Output) (before old now : Outside) (error : ShelfError)
    → HasRead before old → AreCut outputs old now error → AreCut outputs before now error
read_then_cut outputs before old now error read cut = record {
  begun = subst (λ (w : Option Files). Goes w now.written (BegunInOrder outputs)) read.only.written
      cut.begun;
  cause = subst (λ (f : List ℕ → ℕ). HasCauseAmong outputs f now.write_faults error)
      read.only.write_faults cut.cause;
  only = writes_both before old now (reads_alone before old read) cut.only;
}

-- ---- a file that is begun

under_head : (k : ℕ) (name : List ℕ) (begun : FilterFile) (head : Option (Version × Header))
    (seen : List TraceRecord) (before now : Outside)
    → IsOnItsWay k name (Some begun) head seen before now
    → (h : Version × Header) × (head ≡ Some h) × IsUnderWay k name h.1 begun seen before now
under_head k name begun None seen before now way = absurd way
under_head k name begun (Some h) seen before now way = (h, refl, way)

pub under : (k : ℕ) (name : List ℕ) (file : Option FilterFile) (begun : FilterFile)
    (head : Option (Version × Header)) (seen : List TraceRecord) (before now : Outside)
    → file ≡ Some begun → IsOnItsWay k name file head seen before now
    → (h : Version × Header) × (head ≡ Some h) × IsUnderWay k name h.1 begun seen before now
under k name file begun head seen before now is way =
    under_head k name begun head seen before now
    (subst (λ (o : Option FilterFile). IsOnItsWay k name o head seen before now) is way)

unbegun_head : (k : ℕ) (name : List ℕ) (head : Option (Version × Header))
    (seen : List TraceRecord) (before now : Outside)
    → IsOnItsWay k name None head seen before now → (head ≡ None) × HasRead before now
unbegun_head k name None seen before now way = (refl, way)
unbegun_head k name (Some h) seen before now way = absurd way

pub unbegun : (k : ℕ) (name : List ℕ) (file : Option FilterFile) (head : Option (Version × Header))
    (seen : List TraceRecord) (before now : Outside) → file ≡ None
    → IsOnItsWay k name file head seen before now → (head ≡ None) × HasRead before now
unbegun k name file head seen before now is way =
    unbegun_head k name head seen before now
    (subst (λ (o : Option FilterFile). IsOnItsWay k name o head seen before now) is way)

pub written_by : (k : ℕ) (name : List ℕ) (file : Option FilterFile) (begun : FilterFile)
    (head : Option (Version × Header)) (seen : List TraceRecord) (before now new : Outside)
    → file ≡ Some begun
    → ((j : ℕ) (n : List ℕ) (h : Header) (s : List TraceRecord) (b : Outside)
    → IsUnderWay j n h begun s b now → AreWritten (filtered_so_far j n h s) b new)
    → IsOnItsWay k name file head seen before now → AreWritten (so_far k name head seen) before new
written_by k name file begun head seen before now new is says way =
    let u = under k name file begun head seen before now is way in
    subst (λ (o : Option (Version × Header)). AreWritten (so_far k name o seen) before new)
    (sym u.1) (says k name u.0.1 seen before u.2)

pub cut_by : (k : ℕ) (name : List ℕ) (file : Option FilterFile) (begun : FilterFile)
    (head : Option (Version × Header)) (seen : List TraceRecord) (before now new : Outside)
    (error : ShelfError) → file ≡ Some begun
    → ((j : ℕ) (n : List ℕ) (h : Header) (s : List TraceRecord) (b : Outside)
    → IsUnderWay j n h begun s b now → AreCut (filtered_so_far j n h s) b new error)
    → IsOnItsWay k name file head seen before now → AreCut (so_far k name head seen) before new error
cut_by k name file begun head seen before now new error is says way =
    let u = under k name file begun head seen before now is way in
    subst (λ (o : Option (Version × Header)). AreCut (so_far k name o seen) before new error)
    (sym u.1) (says k name u.0.1 seen before u.2)

-- ---- the records of a piece

pub cut_among : (k : ℕ) (name : List ℕ) (head : Option (Version × Header))
    (seen items : List TraceRecord) (n : ℕ) (before now : Outside) (error : ShelfError)
    → AreCut (so_far k name head (seen ++ take n items)) before now error
    → IsCutAt k name head (seen ++ items) before now error
cut_among k name head seen items n before now error cut = record {
  put = seen ++ take n items;
  more = drop n items;
  first = sym (append_assoc seen (take n items) (drop n items)
      ∙ ap (λ (l : List TraceRecord). seen ++ l) (take-append-drop n items));
  cut = cut;
}

pub all_cut : (k : ℕ) (name : List ℕ) (head : Option (Version × Header)) (seen : List TraceRecord)
    (before now : Outside) (error : ShelfError) → AreCut (so_far k name head seen) before now error
    → IsCutAt k name head seen before now error
all_cut k name head seen before now error cut =
    record { put = seen; more = []; first = sym (append-nil seen); cut = cut }

pub head_same : (known head : Option (Version × Header)) (seen items : List TraceRecord)
    (h : Version × Header) → known ≡ Some h → Follows known seen head items → head ≡ Some h
head_same None head seen items h is follows = absurd cc
head_same (Some g) None seen items h is follows = absurd follows
head_same (Some g) (Some x) seen items h is follows = cc

-- of more records, into a file that is begun
pub more_came : (k : ℕ) (name : List ℕ) (file : Option FilterFile) (begun later : FilterFile)
    (known head : Option (Version × Header)) (seen items : List TraceRecord)
    (before old new : Outside) → file ≡ Some begun
    → ((j : ℕ) (n : List ℕ) (h : Header) (s : List TraceRecord) (b : Outside)
    → IsUnderWay j n h begun s b old → IsUnderWay j n h later (s ++ items) b new)
    → IsOnItsWay k name file known seen before old → Follows known seen head items
    → IsOnItsWay k name (Some later) head (seen ++ items) before new
more_came k name file begun later known head seen items before old new is says way follows =
    let u = under k name file begun known seen before old is way in
    subst (λ (o : Option (Version × Header)). IsOnItsWay k name (Some later) o (seen ++ items) before
    new) (sym (head_same known head seen items u.0 u.1 follows))
    (says k name u.0.1 seen before u.2)

pub more_cut : (k : ℕ) (name : List ℕ) (file : Option FilterFile) (begun : FilterFile)
    (known head : Option (Version × Header)) (seen items : List TraceRecord)
    (before old new : Outside) (error : ShelfError) (n : ℕ) → file ≡ Some begun
    → ((j : ℕ) (m : List ℕ) (h : Header) (s : List TraceRecord) (b : Outside)
    → IsUnderWay j m h begun s b old → AreCut (filtered_so_far j m h (s ++ take n items)) b new error)
    → IsOnItsWay k name file known seen before old → Follows known seen head items
    → IsCutAt k name head (seen ++ items) before new error
more_cut k name file begun known head seen items before old new error n is says way follows =
    let u = under k name file begun known seen before old is way in
    cut_among k name head seen items n before new error
    (subst (λ (o : Option (Version × Header)). AreCut (so_far k name o (seen ++ take n items)) before
    new error) (sym (head_same known head seen items u.0 u.1 follows))
    (says k name u.0.1 seen before u.2))

-- the first records come behind none
pub none_before : (known head : Option (Version × Header)) (seen items : List TraceRecord)
    (h : Version × Header) → known ≡ None → head ≡ Some h → Follows known seen head items → seen ≡ []
none_before None None seen items h none some follows = absurd cc
none_before None (Some x) seen items h none some follows = follows
none_before (Some g) head seen items h none some follows = absurd cc

-- of the first records, into a file that is begun with them
pub first_came : (k : ℕ) (name : List ℕ) (file : Option FilterFile) (begun : FilterFile)
    (known head : Option (Version × Header)) (h : Version × Header)
    (seen items : List TraceRecord) (before old new : Outside) → file ≡ None → head ≡ Some h
    → IsUnderWay k name h.1 begun items old new
    → IsOnItsWay k name file known seen before old → Follows known seen head items
    → IsOnItsWay k name (Some begun) head (seen ++ items) before new
first_came k name file begun known head h seen items before old new none is came way follows =
    let un = unbegun k name file known seen before old none way in
    let since : IsUnderWay k name h.1 begun items before new = record {
      near = came.near;
      filtered = came.filtered;
      writer = came.writer;
      outputs = read_first begun.files (filtered_so_far k name h.1 items) before old new un.1
          came.outputs;
    } in
    subst (λ (o : Option (Version × Header)). IsOnItsWay k name (Some begun) o (seen ++ items) before
    new) (sym is)
    (subst (λ (l : List TraceRecord). IsUnderWay k name h.1 begun (l ++ items) before new)
    (sym (none_before known head seen items h un.0 is follows)) since)

pub first_cut : (k : ℕ) (name : List ℕ) (file : Option FilterFile)
    (known head : Option (Version × Header)) (h : Version × Header)
    (seen items : List TraceRecord) (before old new : Outside) (error : ShelfError) → file ≡ None
    → head ≡ Some h → IsCutAt k name (Some h) items old new error
    → IsOnItsWay k name file known seen before old → Follows known seen head items
    → IsCutAt k name head (seen ++ items) before new error
first_cut k name file known head h seen items before old new error none is cut way follows =
    let un = unbegun k name file known seen before old none way in
    record {
      put = cut.put;
      more = cut.more;
      first = ap (λ (l : List TraceRecord). l ++ items)
          (none_before known head seen items h un.0 is follows) ∙ cut.first;
      cut = subst (λ (o : Option (Version × Header)). AreCut (so_far k name o cut.put) before new
          error) (sym is)
          (read_then_cut (so_far k name (Some h) cut.put) before old new error un.1 cut.cut);
    }

-- ---- at any time

-- what came is still so once more was read
read_begun : (k : ℕ) (name : List ℕ) (f : FilterFile) (h : Header) (seen : List TraceRecord)
    (before mid now : Outside) → HasRead mid now → IsUnderWay k name h f seen before mid
    → IsUnderWay k name h f seen before now
read_begun k name f h seen before mid now read way = record {
  near = way.near;
  filtered = way.filtered;
  writer = way.writer;
  outputs = IsOutputs-read f.files (filtered_so_far k name h seen) before mid now read way.outputs;
}

read_none_begun : (k : ℕ) (name : List ℕ) (head : Option (Version × Header))
    (seen : List TraceRecord) (before mid now : Outside) → HasRead mid now
    → IsOnItsWay k name None head seen before mid → IsOnItsWay k name None head seen before now
read_none_begun k name None seen before mid now read way = read_both before mid now way read
read_none_begun k name (Some h) seen before mid now read way = absurd way

read_some_begun : (k : ℕ) (name : List ℕ) (f : FilterFile) (head : Option (Version × Header))
    (seen : List TraceRecord) (before mid now : Outside) → HasRead mid now
    → IsOnItsWay k name (Some f) head seen before mid
    → IsOnItsWay k name (Some f) head seen before now
read_some_begun k name f None seen before mid now read way = absurd way
read_some_begun k name f (Some h) seen before mid now read way =
    read_begun k name f h.1 seen before mid now read way

-- what came is still so once more was read
pub has_read : (k : ℕ) (name : List ℕ) (file : Option FilterFile)
    (head : Option (Version × Header)) (seen : List TraceRecord) (before mid now : Outside)
    → HasRead mid now → IsOnItsWay k name file head seen before mid
    → IsOnItsWay k name file head seen before now
has_read k name None head seen before mid now read way =
    read_none_begun k name head seen before mid now read way
has_read k name (Some f) head seen before mid now read way =
    read_some_begun k name f head seen before mid now read way

outputs_none : (k : ℕ) (name : List ℕ) (head : Option (Version × Header))
    (seen : List TraceRecord) (before now : Outside)
    → IsOnItsWay k name None head seen before now
    → (files : List Waiting) × IsOutputs files (so_far k name head seen) before now
outputs_none k name None seen before now way = ([], none_sunk before now way)
outputs_none k name (Some h) seen before now way = absurd way

outputs_some : (k : ℕ) (name : List ℕ) (f : FilterFile) (head : Option (Version × Header))
    (seen : List TraceRecord) (before now : Outside)
    → IsOnItsWay k name (Some f) head seen before now
    → (files : List Waiting) × IsOutputs files (so_far k name head seen) before now
outputs_some k name f None seen before now way = absurd way
outputs_some k name f (Some h) seen before now way = (f.files, way.outputs)

-- the outputs on their way
pub way_outputs : (k : ℕ) (name : List ℕ) (file : Option FilterFile)
    (head : Option (Version × Header)) (seen : List TraceRecord) (before now : Outside)
    → IsOnItsWay k name file head seen before now
    → (files : List Waiting) × IsOutputs files (so_far k name head seen) before now
way_outputs k name None head seen before now way = outputs_none k name head seen before now way
way_outputs k name (Some f) head seen before now way = outputs_some k name f head seen before now way

-- ---- what stays of more records

pub items_on : (k : ℕ) (put rest : List TraceRecord)
    → (more : List TraceRecord) × (filtered_items k (put ++ rest) ≡ filtered_items k put ++ more)
items_on k put [] =
    ([], ap (filtered_items k) (append-nil put) ∙ sym (append-nil (filtered_items k put)))
items_on k put (x ∷ rest) =
    let later = items_on k (put ++ x ∷ []) rest in
    let one = option_to_list (filtered_item k (touches_in put) x) in (
      one ++ later.0,
      ap (filtered_items k) (sym (append_assoc put (x ∷ []) rest)) ∙ later.1
          ∙ ap (λ (l : List TraceRecord). l ++ later.0) (filtered_items-push k put x)
          ∙ append_assoc (filtered_items k put) one later.0,
    )
