-- What the files get of each record of a run, and of each piece of its output.
use Rattle.std.proofs.Common.{◌≡◌, ◌||◌, ℕ, Bool, true, false, List, [], ◌∷◌, ◌++◌, refl, sym}
use Rattle.std.proofs.Common.{ap, ◌∙◌, subst, inl, inr, Result, Ok, Err, OnOk}
use Rattle.std.proofs.lemmas.Bool.{cases_Bool}
use Rattle.std.proofs.lemmas.List.{append-nil}
use Rattle.shelf.specs.Shelf.{Outside}
use Rattle.shelf.specs.declared.shelf.ShelfError.{ShelfError}
use Rattle.shelf.specs.Files.{Output as AnOutput, AreCut, GoOn}
use Rattle.shelf.specs.OneFile.{Waiting}
use Rattle.shelf.specs.declared.shelf.ShelfError.TheVariants.{NoMemory}
use Rattle.shelf.specs.Laws.Files.{AreCut-longer, IsOutputs-cut}
use Rattle.trace_format.specs.declared.record.TraceRecord.{TraceRecord}
use Rattle.trace_format.specs.declared.record.TraceRecord.TheVariants as records
use Rattle.trace_format.specs.declared.record.Version.{Version}
use Rattle.trace_format.specs.declared.record.Header.{Header}
use Rattle.trace_format.specs.declared.before.Before.{Before}
use Rattle.trace_format.specs.Spelling.{before_after, nothing_before, spell_records}
use Rattle.trace_format.specs.Writing.{Writing, before_behind, begun_with}
use Rattle.trace_format.specs.Laws.Writing.{begun-all, begun-append, begun-more, writer-more}
use Rattle.guest.specs.Runs.{Run, output_of}
use Rattle.run_recorder.specs.declared.run_file.Content.{Content}
use Rattle.run_recorder.specs.declared.run_file.Content.TheVariants.{Trace, Output}
use Rattle.run_recorder.specs.declared.run_file.RunFile.{RunFile}
use Rattle.run_recorder.specs.Recorded.{end_for, near_for, bytes_of, outputs_for, outputs_of, records_of}
use Rattle.run_recorder.specs.Recording.{AreCutAfter, AreNoted, behind_records, bytes_so_far}
use Rattle.run_recorder.specs.Recording.{has_trace, is_trace, output_part, record_part}
use Rattle.run_recorder.specs.Recording.{records_part}
use Rattle.run_recorder.proofs.Putting.{longer, more_on}

abbrev head : Version → ℕ → Header
head v harts = record { first = 0; harts = harts; near = near_for v }

-- files whose bytes are the same are the same
pub outputs_as : (files : List RunFile) (g h : Content → List ℕ)
    → ((content : Content) → g content ≡ h content)
    → outputs_of files g ≡ outputs_of files h
outputs_as [] g h same = refl
outputs_as (f ∷ files) g h same =
    ap (λ (b : List ℕ). let o : AnOutput = record { name = f.name.now; bytes = b } in
    o ∷ outputs_of files g) (same f.content)
    ∙ ap (λ (l : List AnOutput). let o : AnOutput =
    record { name = f.name.now; bytes = h f.content } in o ∷ l)
    (outputs_as files g h same)

none_of : (b c : Bool) → (b || c) ≡ false → (b ≡ false) × (c ≡ false)
none_of true c none = cc
none_of false c none = (refl, none)

silent_as : (g h : Content → List ℕ) (c : Content) → is_trace c ≡ false → g Output ≡ h Output
    → g c ≡ h c
silent_as g h Trace none same = let no : true ≡ false = none in cc
silent_as g h Output none same = same

-- files without a trace have the same bytes, whatever a trace has
untraced_as : (files : List RunFile) (g h : Content → List ℕ) → has_trace files ≡ false
    → g Output ≡ h Output → outputs_of files g ≡ outputs_of files h
untraced_as [] g h none same = refl
untraced_as (f ∷ files) g h none same =
    let both = none_of (is_trace f.content) (has_trace files) none in
    ap (λ (b : List ℕ). let o : AnOutput = record { name = f.name.now; bytes = b } in
    o ∷ outputs_of files g) (silent_as g h f.content both.0 same)
    ∙ ap (λ (l : List AnOutput). let o : AnOutput =
    record { name = f.name.now; bytes = h f.content } in o ∷ l)
    (untraced_as files g h both.1 same)

-- nothing more is put where there is no trace
pub untraced : (files : List RunFile) (bytes : Content → List ℕ) (w : Writing) (item : TraceRecord)
    → has_trace files ≡ false
    → outputs_of files bytes ≡ outputs_of files (longer bytes (record_part w item))
untraced files bytes w item none =
    untraced_as files bytes (longer bytes (record_part w item)) none (sym (append-nil (bytes
    Output)))

record_bytes : (v : Version) (harts : ℕ) (items : List TraceRecord) (put : List ℕ)
    (item : TraceRecord) (content : Content)
    → longer (bytes_so_far v harts items put) (record_part (behind_records v items) item) content
    ≡ bytes_so_far v harts (items ++ item ∷ []) put content
record_bytes v harts items put item Trace = begun-more v (head v harts) items item
record_bytes v harts items put item Output = append-nil put

-- a record more, where the writer of the traces has spelled those before
pub record_put : (v : Version) (harts : ℕ) (files : List RunFile) (items : List TraceRecord)
    (put : List ℕ) (w : Writing) (item : TraceRecord)
    → (has_trace files ≡ true → w ≡ behind_records v items)
    → outputs_of files (longer (bytes_so_far v harts items put) (record_part w item))
    ≡ outputs_of files (bytes_so_far v harts (items ++ item ∷ []) put)
record_put v harts files items put w item behind =
    elim (cases_Bool (has_trace files)) [
      | inl traced ↦
          ap (λ (x : Writing). outputs_of files
          (longer (bytes_so_far v harts items put) (record_part x item))) (behind traced)
          ∙ outputs_as files
          (longer (bytes_so_far v harts items put) (record_part (behind_records v items) item))
          (bytes_so_far v harts (items ++ item ∷ []) put) (record_bytes v harts items put item)
      | inr none ↦
          sym (untraced files (bytes_so_far v harts items put) w item none)
          ∙ untraced_as files (bytes_so_far v harts items put)
          (bytes_so_far v harts (items ++ item ∷ []) put) none refl
    ]

-- and the writer has spelled it too
pub writer_on : (v : Version) (files : List RunFile) (items : List TraceRecord) (w later : Writing)
    (item : TraceRecord) → (has_trace files ≡ true → w ≡ behind_records v items)
    → (has_trace files ≡ true → later ≡ record w { before = before_after w.before item })
    → has_trace files ≡ true → later ≡ behind_records v (items ++ item ∷ [])
writer_on v files items w later item behind next traced =
    next traced ∙ writer-more v w items item (behind traced)

-- ---- several records at once

-- nothing more is put where there is no trace
pub untraced_all : (files : List RunFile) (bytes : Content → List ℕ) (w : Writing)
    (more : List TraceRecord) → has_trace files ≡ false
    → outputs_of files bytes ≡ outputs_of files (longer bytes (records_part w more))
untraced_all files bytes w more none =
    untraced_as files bytes (longer bytes (records_part w more)) none (sym (append-nil (bytes
    Output)))

records_bytes : (v : Version) (harts : ℕ) (items more : List TraceRecord) (put : List ℕ)
    (content : Content)
    → longer (bytes_so_far v harts items put) (records_part (behind_records v items) more) content
    ≡ bytes_so_far v harts (items ++ more) put content
records_bytes v harts items more put Trace = sym (begun-append v (head v harts) items more)
records_bytes v harts items more put Output = append-nil put

-- records more, where the writer of the traces has spelled those before
pub records_put : (v : Version) (harts : ℕ) (files : List RunFile) (items more : List TraceRecord)
    (put : List ℕ) (w : Writing) → (has_trace files ≡ true → w ≡ behind_records v items)
    → outputs_of files (longer (bytes_so_far v harts items put) (records_part w more))
    ≡ outputs_of files (bytes_so_far v harts (items ++ more) put)
records_put v harts files items more put w behind =
    elim (cases_Bool (has_trace files)) [
      | inl traced ↦
          ap (λ (x : Writing). outputs_of files
          (longer (bytes_so_far v harts items put) (records_part x more))) (behind traced)
          ∙ outputs_as files
          (longer (bytes_so_far v harts items put) (records_part (behind_records v items) more))
          (bytes_so_far v harts (items ++ more) put) (records_bytes v harts items more put)
      | inr none ↦
          sym (untraced_all files (bytes_so_far v harts items put) w more none)
          ∙ untraced_as files (bytes_so_far v harts items put)
          (bytes_so_far v harts (items ++ more) put) none refl
    ]

before_append : (before : Before) (xs ys : List TraceRecord)
    → before_behind before (xs ++ ys) ≡ before_behind (before_behind before xs) ys
before_append before [] ys = refl
before_append before (x ∷ xs) ys = before_append (before_after before x) xs ys

-- and the writer has spelled them too
pub writer_behind : (v : Version) (files : List RunFile) (items more : List TraceRecord)
    (w later : Writing) → (has_trace files ≡ true → w ≡ behind_records v items)
    → (has_trace files ≡ true → later ≡ record w { before = before_behind w.before more })
    → has_trace files ≡ true → later ≡ behind_records v (items ++ more)
writer_behind v files items more w later behind next traced =
    next traced
    ∙ ap (λ (x : Writing). let y : Writing =
    record { version = x.version; before = before_behind x.before more } in y) (behind traced)
    ∙ ap (λ (b : Before). let y : Writing = record { version = v; before = b } in y)
    (sym (before_append nothing_before items more))

-- ---- bytes that are put out

output_bytes : (v : Version) (harts : ℕ) (items : List TraceRecord) (put bytes : List ℕ) (content :
    Content)
    → longer (bytes_so_far v harts items put) (output_part bytes) content
    ≡ bytes_so_far v harts items (put ++ bytes) content
output_bytes v harts items put bytes Trace = append-nil (begun_with v (head v harts) items)
output_bytes v harts items put bytes Output = refl

pub output_put : (v : Version) (harts : ℕ) (files : List RunFile) (items : List TraceRecord)
    (put bytes : List ℕ)
    → outputs_of files (longer (bytes_so_far v harts items put) (output_part bytes))
    ≡ outputs_of files (bytes_so_far v harts items (put ++ bytes))
output_put v harts files items put bytes =
    outputs_as files (longer (bytes_so_far v harts items put) (output_part bytes))
    (bytes_so_far v harts items (put ++ bytes)) (output_bytes v harts items put bytes)

more_spelled : (v : Version) (harts : ℕ) (items more : List TraceRecord) → (rest : List ℕ)
    × (begun_with v (head v harts) (items ++ more) ≡ begun_with v (head v harts) items ++ rest)
more_spelled v harts items more = (
  spell_records v (before_behind nothing_before items) more,
  begun-append v (head v harts) items more,
)

goes_on : (v : Version) (harts : ℕ) (items more : List TraceRecord) (put out : List ℕ) (content :
    Content)
    → (rest : List ℕ) × (bytes_so_far v harts (items ++ more) (put ++ out) content
    ≡ bytes_so_far v harts items put content ++ rest)
goes_on v harts items more put out Trace = more_spelled v harts items more
goes_on v harts items more put out Output = (out, refl)

-- the fronts of what was noted are fronts of what comes
pub noted_on : (v : Version) (harts : ℕ) (files : List RunFile) (items more : List TraceRecord) (put
    out : List ℕ)
    → GoOn (outputs_of files (bytes_so_far v harts items put))
    (outputs_of files (bytes_so_far v harts (items ++ more) (put ++ out)))
noted_on v harts files items more put out =
    more_on files (bytes_so_far v harts items put) (bytes_so_far v harts (items ++ more) (put
    ++ out))
    (goes_on v harts items more put out)

more_records : (v : Version) (harts : ℕ) (items more : List TraceRecord) (put : List ℕ) (content :
    Content)
    → (rest : List ℕ) × (bytes_so_far v harts (items ++ more) put content
    ≡ bytes_so_far v harts items put content ++ rest)
more_records v harts items more put Trace = more_spelled v harts items more
more_records v harts items more put Output = ([], sym (append-nil put))

-- the same where nothing more is put out
pub records_on : (v : Version) (harts : ℕ) (files : List RunFile) (items more : List TraceRecord)
    (put : List ℕ)
    → GoOn (outputs_of files (bytes_so_far v harts items put))
    (outputs_of files (bytes_so_far v harts (items ++ more) put))
records_on v harts files items more put =
    more_on files (bytes_so_far v harts items put) (bytes_so_far v harts (items ++ more) put)
    (more_records v harts items more put)

-- what is cut is cut of what comes
pub cut_on : (v : Version) (harts : ℕ) (files : List RunFile) (items more : List TraceRecord) (put
    out : List ℕ)
    (before now : Outside)
    (e : ShelfError) → AreCutAfter v harts items put files before now e
    → AreCutAfter v harts (items ++ more) (put ++ out) files before now e
cut_on v harts files items more put out before now e cut =
    AreCut-longer (outputs_of files (bytes_so_far v harts items put))
    (outputs_of files (bytes_so_far v harts (items ++ more) (put ++ out)))
    before now e (noted_on v harts files items more put out) cut

-- all that a run leaves, its end last
whole_bytes : (v : Version) (harts : ℕ) (symbols : List TraceRecord) (r : Run) (content : Content)
    → bytes_so_far v harts (records_of v symbols r ++ records.End (end_for v r.ending)
    ∷ []) (output_of r) content
    ≡ bytes_of v harts symbols r content
whole_bytes v harts symbols r Trace = begun-all v (head v harts) (records_of v symbols r) (end_for v r.ending)
whole_bytes v harts symbols r Output = refl

pub whole_put : (v : Version) (harts : ℕ) (symbols : List TraceRecord) (files : List RunFile) (r :
    Run)
    → outputs_of files (bytes_so_far v harts (records_of v symbols r ++ records.End (end_for v r.ending) ∷ [])
    (output_of r))
    ≡ outputs_for v harts symbols r files
whole_put v harts symbols files r =
    outputs_as files (bytes_so_far v harts (records_of v symbols r ++ records.End (end_for v r.ending) ∷ [])
    (output_of r)) (bytes_of v harts symbols r)
    (whole_bytes v harts symbols r)

-- what is cut after some of its records and bytes is cut of a whole run
pub cut_whole : (v : Version) (harts : ℕ) (symbols : List TraceRecord) (files : List RunFile) (r :
    Run)
    (items more : List TraceRecord)
    (put out : List ℕ) (before now : Outside) (e : ShelfError)
    → items ++ more ≡ records_of v symbols r ++ records.End (end_for v r.ending) ∷ [] → put ++ out ≡ output_of r
    → AreCutAfter v harts items put files before now e
    → AreCut (outputs_for v harts symbols r files) before now e
cut_whole v harts symbols files r items more put out before now e all outs cut =
    subst (λ (l : List AnOutput). AreCut l before now e)
    (ap (λ (l : List TraceRecord). outputs_of files (bytes_so_far v harts l (put ++ out))) all
    ∙ ap (λ (l : List ℕ). outputs_of files
    (bytes_so_far v harts (records_of v symbols r ++ records.End (end_for v r.ending) ∷ []) l)) outs
    ∙ whole_put v harts symbols files r)
    (cut_on v harts files items more put out before now e cut)

-- a record beside which nothing is put out
pub noted_silent : (v : Version) (harts : ℕ) (items : List TraceRecord) (item other : TraceRecord)
    (put : List ℕ) (files : List RunFile) (waiting : List Waiting) (w : Writing)
    (before now : Outside) → item ≡ other
    → AreNoted v harts (items ++ item ∷ []) put files waiting w before now
    → AreNoted v harts (items ++ other ∷ []) (put ++ []) files waiting w before now
noted_silent v harts items item other put files waiting w before now same on =
    subst (λ (x : TraceRecord). AreNoted v harts (items ++ x ∷ []) (put ++ []) files waiting w
    before now) same
    (subst (λ (l : List ℕ). AreNoted v harts (items ++ item ∷ []) l files waiting w before now)
    (sym (append-nil put)) on)

pub cut_silent : (v : Version) (harts : ℕ) (items : List TraceRecord) (item other : TraceRecord)
    (put : List ℕ)
    (files : List RunFile)
    (before now : Outside) (e : ShelfError) → item ≡ other
    → AreCutAfter v harts (items ++ item ∷ []) put files before now e
    → AreCutAfter v harts (items ++ other ∷ []) (put ++ []) files before now e
cut_silent v harts items item other put files before now e same cut =
    subst (λ (x : TraceRecord). AreCutAfter v harts (items ++ x ∷ []) (put
    ++ []) files before now e)
    same
    (subst (λ (l : List ℕ). AreCutAfter v harts (items ++ item ∷ []) l files before now e)
    (sym (append-nil put)) cut)

-- what is cut is cut of more records
pub cut_records : (v : Version) (harts : ℕ) (files : List RunFile) (items more : List TraceRecord)
    (put : List ℕ)
    (before now : Outside)
    (e : ShelfError) → AreCutAfter v harts items put files before now e
    → AreCutAfter v harts (items ++ more) put files before now e
cut_records v harts files items more put before now e cut =
    AreCut-longer (outputs_of files (bytes_so_far v harts items put))
    (outputs_of files (bytes_so_far v harts (items ++ more) put))
    before now e (records_on v harts files items more put) cut

-- what was noted is cut of more records too, where none of them is put and memory is refused
pub cut_unput : (v : Version) (harts : ℕ) (items more : List TraceRecord) (put : List ℕ)
    (files : List RunFile) (waiting : List Waiting) (w : Writing) (before now : Outside)
    → AreNoted v harts items put files waiting w before now
    → AreCutAfter v harts (items ++ more) put files before now NoMemory
cut_unput v harts items more put files waiting w before now on =
    cut_records v harts files items more put before now NoMemory
    (IsOutputs-cut waiting (outputs_of files (bytes_so_far v harts items put)) before now NoMemory
    (λ e. cc) on.outputs)

-- ---- answers

-- what follows from two facts at Ok
pub both_at_ok : {T E P Q R : Type 0} (r : Result T E) → (P → Q → R) → OnOk r P → OnOk r Q
    → OnOk r R
both_at_ok (Ok x) f p q = f p q
both_at_ok (Err e) f p q = tt
