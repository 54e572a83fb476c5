use Rattle.std.proofs.Common.{◌++◌, ◌∷◌, [], ℕ, List, subst, sym}
use Rattle.std.proofs.lemmas.List.{append-nil}
use Rattle.std.proofs.lemmas.List.Elements.{All-cons, All-nil}
use Rattle.std.proofs.lemmas.Result.{IfErr-weaker, on_ok_weaker}
use Rattle.shelf.specs.Shelf.{Outside}
use Rattle.trace_format.specs.Rules.{IsGoodRecord}
use Rattle.trace_format.specs.declared.record.TraceRecord.{TraceRecord}
use Rattle.trace_format.specs.declared.record.Version.{Version}
use Rattle.trace_format.specs.Writing.{Writing}
use Rattle.trace_format.specs.declared.record.TraceRecord.TheVariants as records
use Rattle.run_recorder.specs.Recorded.{pc_for}
use Rattle.run_recorder.specs.Recording.{AreCutAfter, AreNoted, event_bytes, event_records}
use Rattle.run_recorder.proofs.Events.{cut_silent, noted_silent}
use Rattle.run_recorder.proofs.notes.note_event.Goals as goal

pub returns-in-Touch-clause-noted : goal.returns-in-Touch-clause-noted
unfolding event_records event_bytes
returns-in-Touch-clause-noted g c =
    let files = c.args.files.now in
    let new = g.S.Shelf.outside c.note_record.new.shelf in
    rw c.in-Touch.is
    (on_ok_weaker c.note_record.result (λ f harts items put before on. noted_silent c.args.version
    harts items
    c.touch_record.result
    (records.Touch c.in-Touch.access (pc_for c.args.version c.in-Touch.pc)) put files
    c.note_record.new.outputs c.note_record.new.speller.writer before new
    c.touch_record.ensures.value (f c.args.version harts items put before on))
    c.note_record.ensures.noted)

pub returns-in-Touch-clause-cut : goal.returns-in-Touch-clause-cut
unfolding event_records event_bytes
returns-in-Touch-clause-cut g c =
    let files = c.args.files.now in
    let old = g.S.Shelf.outside c.args.shelf.now in
    let new = g.S.Shelf.outside c.note_record.new.shelf in
    let item : TraceRecord = c.touch_record.result in
    let stated : TraceRecord = records.Touch c.in-Touch.access (pc_for c.args.version c.in-Touch.pc)
    in
    rw c.in-Touch.is
    (IfErr-weaker c.note_record.result (λ e. (v : Version) (harts : ℕ)
    (items : List TraceRecord) (put : List ℕ) (before : Outside)
    → AreNoted v harts items put files c.args.outputs.now c.args.speller.now.writer before old
    → AreCutAfter v harts (items ++ item ∷ []) put files before new e)
    (λ e. (harts : ℕ) (items : List TraceRecord) (put : List ℕ) (before : Outside)
    → AreNoted c.args.version harts items put files c.args.outputs.now
    c.args.speller.now.writer before old
    → AreCutAfter c.args.version harts (items ++ stated ∷ []) (put ++ []) files before new e)
    (λ e cut harts items put before on. cut_silent c.args.version harts items item stated put files
    before new e
    c.touch_record.ensures.value
    (cut c.args.version harts items put before on))
    c.note_record.ensures.cut)

pub returns-in-Alloc-clause-good : goal.returns-in-Alloc-clause-good
unfolding event_records event_bytes
returns-in-Alloc-clause-good g c =
    let P : TraceRecord → Type 0 = IsGoodRecord c.args.version c.args.guest.now.setup.harts in
    let item : TraceRecord = records.Alloc c.in-Alloc.addr c.in-Alloc.size c.in-Alloc.sites in
    let good : P item = subst P c.alloc_record.ensures.value
    (c.alloc_record.ensures.good c.args.version c.args.guest.now.setup.harts) in
    rw c.in-Alloc.is (All-cons P item [] good (All-nil P))

pub returns-in-Alloc-clause-noted : goal.returns-in-Alloc-clause-noted
unfolding event_records event_bytes
returns-in-Alloc-clause-noted g c =
    let files = c.args.files.now in
    let new = g.S.Shelf.outside c.note_record-in-Alloc.new.shelf in
    rw c.in-Alloc.is
    (on_ok_weaker c.note_record-in-Alloc.result
    (λ f harts items put before on. noted_silent c.args.version harts items c.alloc_record.result
    (records.Alloc c.in-Alloc.addr c.in-Alloc.size c.in-Alloc.sites) put files
    c.note_record-in-Alloc.new.outputs c.note_record-in-Alloc.new.speller.writer before new
    c.alloc_record.ensures.value
    (f c.args.version harts items put before on))
    c.note_record-in-Alloc.ensures.noted)

pub returns-in-Alloc-clause-cut : goal.returns-in-Alloc-clause-cut
unfolding event_records event_bytes
returns-in-Alloc-clause-cut g c =
    let files = c.args.files.now in
    let old = g.S.Shelf.outside c.args.shelf.now in
    let new = g.S.Shelf.outside c.note_record-in-Alloc.new.shelf in
    let item : TraceRecord = c.alloc_record.result in
    let stated : TraceRecord = records.Alloc c.in-Alloc.addr c.in-Alloc.size c.in-Alloc.sites in
    rw c.in-Alloc.is
    (IfErr-weaker c.note_record-in-Alloc.result
    (λ e. (v : Version) (harts : ℕ) (items : List TraceRecord) (put : List ℕ) (before : Outside)
    → AreNoted v harts items put files c.args.outputs.now c.args.speller.now.writer before old
    → AreCutAfter v harts (items ++ item ∷ []) put files before new e)
    (λ e. (harts : ℕ) (items : List TraceRecord) (put : List ℕ) (before : Outside)
    → AreNoted c.args.version harts items put files c.args.outputs.now
    c.args.speller.now.writer before old
    → AreCutAfter c.args.version harts (items ++ stated ∷ []) (put ++ []) files before new e)
    (λ e cut harts items put before on. cut_silent c.args.version harts items item stated put files
    before new e
    c.alloc_record.ensures.value
    (cut c.args.version harts items put before on))
    c.note_record-in-Alloc.ensures.cut)

pub returns-in-Free-clause-noted : goal.returns-in-Free-clause-noted
unfolding event_records event_bytes
returns-in-Free-clause-noted g c =
    let files = c.args.files.now in
    let new = g.S.Shelf.outside c.note_record-in-Free.new.shelf in
    rw c.in-Free.is
    (on_ok_weaker c.note_record-in-Free.result
    (λ f harts items put before on. noted_silent c.args.version harts items c.free_record.result
    (records.Free c.in-Free.addr) put files
    c.note_record-in-Free.new.outputs c.note_record-in-Free.new.speller.writer before new
    c.free_record.ensures.value
    (f c.args.version harts items put before on))
    c.note_record-in-Free.ensures.noted)

pub returns-in-Free-clause-cut : goal.returns-in-Free-clause-cut
unfolding event_records event_bytes
returns-in-Free-clause-cut g c =
    let files = c.args.files.now in
    let old = g.S.Shelf.outside c.args.shelf.now in
    let new = g.S.Shelf.outside c.note_record-in-Free.new.shelf in
    let item : TraceRecord = c.free_record.result in
    let stated : TraceRecord = records.Free c.in-Free.addr in
    rw c.in-Free.is
    (IfErr-weaker c.note_record-in-Free.result
    (λ e. (v : Version) (harts : ℕ) (items : List TraceRecord) (put : List ℕ) (before : Outside)
    → AreNoted v harts items put files c.args.outputs.now c.args.speller.now.writer before old
    → AreCutAfter v harts (items ++ item ∷ []) put files before new e)
    (λ e. (harts : ℕ) (items : List TraceRecord) (put : List ℕ) (before : Outside)
    → AreNoted c.args.version harts items put files c.args.outputs.now
    c.args.speller.now.writer before old
    → AreCutAfter c.args.version harts (items ++ stated ∷ []) (put ++ []) files before new e)
    (λ e cut harts items put before on. cut_silent c.args.version harts items item stated put files
    before new e
    c.free_record.ensures.value
    (cut c.args.version harts items put before on))
    c.note_record-in-Free.ensures.cut)

pub returns-in-Some-clause-noted : goal.returns-in-Some-clause-noted
unfolding event_records event_bytes
returns-in-Some-clause-noted g c =
    let files = c.args.files.now in
    let bytes = c.in-Some.bytes.now in
    let w = c.args.speller.now.writer in
    let new = g.S.Shelf.outside c.note_output.new.shelf in
    rw (c.in-Output.is, ← c.in-Some.ensures.bytes)
    (on_ok_weaker c.note_output.result
    (λ f harts items put before on. subst
    (λ (l : List TraceRecord). AreNoted c.args.version harts l (put ++ bytes) files
    c.note_output.new.outputs w before new)
    (sym (append-nil items)) (f c.args.version harts items put w before on))
    c.note_output.ensures.noted)

pub returns-in-Some-clause-cut : goal.returns-in-Some-clause-cut
unfolding event_records event_bytes
returns-in-Some-clause-cut g c =
    let files = c.args.files.now in
    let bytes = c.in-Some.bytes.now in
    let old = g.S.Shelf.outside c.args.shelf.now in
    let new = g.S.Shelf.outside c.note_output.new.shelf in
    rw (c.in-Output.is, ← c.in-Some.ensures.bytes)
    (IfErr-weaker c.note_output.result (λ e. (v : Version) (harts : ℕ) (items : List TraceRecord)
    (put : List ℕ) (w : Writing) (before : Outside)
    → AreNoted v harts items put files c.args.outputs.now w before old
    → AreCutAfter v harts items (put ++ bytes) files before new e)
    (λ e. (harts : ℕ) (items : List TraceRecord) (put : List ℕ) (before : Outside)
    → AreNoted c.args.version harts items put files c.args.outputs.now c.args.speller.now.writer
    before old
    → AreCutAfter c.args.version harts (items ++ []) (put ++ bytes) files before new e)
    (λ e cut harts items put before on. subst
    (λ (l : List TraceRecord). AreCutAfter c.args.version harts l (put ++ bytes) files before new e)
    (sym (append-nil items))
    (cut c.args.version harts items put c.args.speller.now.writer before on))
    c.note_output.ensures.cut)
