-- A second reading, piece after piece: what it may rest on, and how it ends.
use Rattle.std.proofs.Common.{◌≡◌, ℕ, List, [], ◌∷◌, ◌++◌, take, All, Option, Some, None, Err, refl}
use Rattle.std.proofs.Common.{sym, ap, ◌∙◌, subst, arith}
use Rattle.std.proofs.lemmas.List.Elements.{All-nil, All-tail}
use Rattle.shelf.specs.Agreeing.{HasShown}
use Rattle.shelf.specs.Shelf.{Files, Given, HasRead, Narrows, OnlyReads, Outside, Known, content}
use Rattle.shelf.specs.declared.shelf.ShelfError.{ShelfError}
use Rattle.shelf.specs.Files.{Output, AreCut}
use Rattle.shelf.specs.OneFile.{Waiting}
use Rattle.shelf.specs.OnTheirWay.{IsOutputs}
use Rattle.shelf.specs.Laws.Agreeing.{shown_then}
use Rattle.shelf.specs.Laws.Files.{IsOutputs-read}
use Rattle.shelf.specs.Laws.Known.{only_none}
use Rattle.trace_format.specs.declared.record.TraceEnd.{TraceEnd}
use Rattle.trace_format.specs.declared.read_so_far.ReadSoFar.{ReadSoFar}
use Rattle.trace_format.specs.declared.record.TraceRecord.{TraceRecord}
use Rattle.trace_format.specs.Reading.{reading_of}
use Rattle.trace_format.specs.Rules.{IsWritable}
use Rattle.trace_passes.specs.declared.passes.PassFault.{PassFault}
use Rattle.trace_passes.specs.declared.passes.PassFault.TheVariants as passes
use Rattle.trace_passes.specs.declared.passes.Passed.{Passed}
use Rattle.trace_format.specs.Laws.Counts.{IsSoFar, so_far}
use Rattle.trace_passes.specs.Cursors.{GoesOn, HasCome, HasEnded, Reached}
use Rattle.trace_passes.specs.declared.wanted.Refusal.{Refusal}
use Rattle.trace_passes.specs.declared.wanted.Wanted.{Wanted}
use Rattle.trace_passes.specs.Passes.{HasParts, HasPassCause, refusal_of, trace_of, trace_with}
use Rattle.trace_passes.specs.Laws.Passes.{trace-records}
use Rattle.trace_files.specs.declared.copy_fault.CopyFault.{CopyFault}
use Rattle.trace_files.specs.declared.copy_fault.CopyFault.TheVariants.{Changed, ReadFault}
use Rattle.trace_files.specs.declared.copy_fault.CopyFault.TheVariants.{NoMemory, Refused}
use Rattle.trace_files.specs.Copies.{unfiltered}
use Rattle.trace_files.specs.Copying.{AreFirst, IsCopied, IsCutShort, first_fault, second_fault}
use Rattle.trace_files.specs.Copying.{write_fault}
use Rattle.trace_files.proofs.Going.{IsAt, at_next}
use Rattle.trace_files.proofs.Readings.{first_none, first_of, first_read, first_still, short_read}
use Rattle.trace_files.proofs.Readings.{short_write}

-- ---- the records of a piece may be written

pub all_behind : {A : Type 0} (P : A → Type 0) (xs ys : List A) → All P (xs ++ ys) → All P ys
all_behind P [] ys is = is
all_behind P (x ∷ xs) ys is = all_behind P xs ys (All-tail P x (xs ++ ys) is)

pub writable_in : (p : Option ReadSoFar) (e : Option TraceEnd) (items : List TraceRecord)
    → IsSoFar p e items → All IsWritable items
writable_in None e items is = subst (All IsWritable) (sym is.0) (All-nil IsWritable)
writable_in (Some p) None items is = is.0.writable
writable_in (Some p) (Some e) items is = is.0.writable

pub piece_writable : (old new : Outside) (name bytes : List ℕ) (next : Reached)
    → GoesOn old new name unfiltered bytes next
    → All IsWritable next.items
piece_writable old new name bytes next on =
    let whole = reading_of (bytes ++ on.more) in
    all_behind IsWritable (reading_of bytes).0 next.items
    (subst (All IsWritable) on.records (writable_in whole.1.progress whole.1.ending whole.0
    (so_far (bytes ++ on.more))))

-- ---- what stands where it gives up, and at its end

-- how the name's bytes are refused, by a call that reads
pub refused_at : (held : Option Files) (name : List ℕ) (w : Wanted) → w ≡ unfiltered → (refusal : Refusal)
    → Known held (λ fs. refusal_of w (content fs name) ≡ Some refusal)
    → Known held (λ fs. refusal_of unfiltered (content fs name) ≡ Some refusal)
refused_at held name w is refusal stated =
    subst (λ (x : Wanted). Known held (λ fs. refusal_of x (content fs name) ≡ Some refusal)) is stated

module _ {A : Type 0} (waiting : A → List Waiting) (files : A → List TraceRecord → List Output)
    (has : A → List TraceRecord → Type 0)
    (name : List ℕ) (first now : A) (cursor : Reached) (old mid : Outside)
    (at : IsAt waiting files has name first now cursor old mid)
  where
    -- the cursor reads on from there
    pub come_at : (w : Wanted) → w ≡ unfiltered → HasCome mid.held name w at.bytes cursor
    come_at w is = subst (λ (x : Wanted). HasCome mid.held name x at.bytes cursor) (sym is) at.come

    pub on_at : (w : Wanted) → w ≡ unfiltered → (next : Reached) (read : Outside)
        → ((bytes : List ℕ) → HasCome mid.held name w bytes cursor
        → GoesOn mid read name w bytes next)
        → GoesOn mid read name unfiltered at.bytes next
    on_at w is next read goes =
        subst (λ (x : Wanted). GoesOn mid read name x at.bytes next) is
        (goes at.bytes (come_at w is))

    pub end_at : (w : Wanted) → w ≡ unfiltered → (passed : Passed) (read : Option Files)
        → ((bytes : List ℕ) → HasCome mid.held name w bytes cursor
        → HasEnded read name w bytes passed)
        → HasEnded read name unfiltered at.bytes passed
    end_at w is passed read ends =
        subst (λ (x : Wanted). HasEnded read name x at.bytes passed) is
        (ends at.bytes (come_at w is))

    -- what the reads since then have given is such a trace
    pub shown_at : (passed : Passed) (read : Option Files) (given : List Given)
        → HasEnded read name unfiltered at.bytes passed
        → HasShown name (λ file. at.bytes ≡ file) old.given given
        → HasShown name (HasParts passed) old.given given
    shown_at passed read given ended shown =
        shown_then name (λ file. at.bytes ≡ file) (HasParts passed) old.given given
        (λ file same. (ended.items, ap trace_of (sym same) ∙ ended.is)) shown

    pub ended_at : (passed : Passed) (new : Outside) → HasRead mid new
        → HasEnded new.held name unfiltered at.bytes passed → (before : Outside)
        → IsOutputs (waiting first) (files first []) before old
        → IsCopied new.held name passed (files first) (has now) (waiting now) before new
    ended_at passed new reads ended before began =
        let all = trace-records at.bytes (trace_with passed ended.items) ended.is in
        record {
          bytes = at.bytes;
          whole = ended.whole;
          items = ended.items;
          is = ended.is;
          came = subst (has now) all at.came;
          outputs = subst (λ (l : List TraceRecord). IsOutputs (waiting now)
              (files first l) before new) all
              (IsOutputs-read (waiting now) (files first (reading_of at.bytes).0) before mid new
              reads (at.outputs before began));
        }

    pub short_at : {T : Type 0} (fault : PassFault) (new : Outside) → OnlyReads mid new
        → HasPassCause {T = T} name mid new (Err fault)
        → (before : Outside) → IsOutputs (waiting first) (files first []) before old
        → IsCutShort new.held name (files first) before new (second_fault fault)
    short_at {T} fault new only cause before began =
        let seen = (reading_of at.bytes).0 in
        short_read new.held name (files first) seen (waiting now) before mid new
        (first_still mid.held new.held name seen only.held
        (first_read mid.held name at.bytes cursor at.come))
        (at.outputs before began) only {T = T} fault cause

    -- after a piece was read, its records are put
    module _ (next : Reached) (read : Outside) (reads : HasRead mid read)
        (on : GoesOn mid read name unfiltered at.bytes next)
      where
        pub next_at : (later : A) (new : Outside) → files later ≡ files now
            → ((seen : List TraceRecord) → has now seen → has later (seen ++ next.items))
            → ((seen : List TraceRecord) (b : Outside) → has now seen
            → IsOutputs (waiting now) (files now seen) b read
            → IsOutputs (waiting later) (files now (seen ++ next.items)) b new)
            → Narrows read.held new.held → new.given ≡ read.given
            → IsAt waiting files has name first later next old new
        next_at later new files_stay came outputs narrow gives =
            at_next waiting files has name first now later cursor next old mid read new at reads on
            files_stay came outputs narrow gives

        pub cut_at : (new : Outside) (error : ShelfError)
            → (k : ℕ) × ((seen : List TraceRecord) (before : Outside) → has now seen
            → IsOutputs (waiting now) (files now seen) before read
            → AreCut (files now (seen ++ take k next.items)) before new error)
            → Narrows read.held new.held
            → (before : Outside) → IsOutputs (waiting first) (files first []) before old
            → IsCutShort new.held name (files first) before new (write_fault error)
        cut_at new error cut narrow before began =
            let seen = (reading_of at.bytes).0 in
            let items = next.items in
            let put : IsOutputs (waiting now) (files now seen) before mid
            → AreCut (files now (seen ++ take cut.0 items)) before new error =
            λ is. cut.1 seen before at.came
            (IsOutputs-read (waiting now) (files now seen) before mid read reads is) in
            let first_put = subst (λ (f : List TraceRecord → List Output). IsOutputs (waiting now)
            (f seen) before mid
            → AreCut (f (seen ++ take cut.0 items)) before new error) at.files_stay put in
            short_write new.held name (files first) (seen ++ take cut.0 items) before new error
            (first_of new.held name seen items cut.0
            (first_still read.held new.held name (seen ++ items) narrow
            (subst (AreFirst read.held name) on.records
            (first_read read.held name (at.bytes ++ on.more) next on.come))))
            (first_put (at.outputs before began))

-- where not even a cursor can be had
pub short_none : (held : Option Files) (name : List ℕ) (files : List TraceRecord → List Output)
    (waiting : List Waiting)
    (fault : PassFault) → fault ≡ passes.NoMemory → (now before : Outside)
    → IsOutputs waiting (files []) before now
    → IsCutShort held name files before now (second_fault fault)
short_none held name files waiting fault memory now before began =
    subst (λ (f : PassFault). IsCutShort held name files before now (second_fault f)) (sym memory)
    (short_read held name files [] waiting before now now (first_none held name) began
    (only_none now) {T = Unit {0}} passes.NoMemory
    (record { later = λ n. omega arith; failed = λ e. absurd cc; quiet = λ e. refl }))

-- a first reading is refused where its call is
pub first_refused : (fault : PassFault) (x : CopyFault) (refusal : Refusal) → x ≡ first_fault fault
    → x ≡ Refused refusal → fault ≡ passes.Refused refusal
first_refused (passes.Refused r) x refusal is refused = let same : Refused r ≡ Refused refusal =
    sym is ∙ refused in cc
first_refused passes.ReadFault x refusal is refused = let same : ReadFault ≡ Refused refusal =
    sym is ∙ refused in absurd cc
first_refused passes.NoMemory x refusal is refused = let same : NoMemory ≡ Refused refusal =
    sym is ∙ refused in absurd cc

-- a second reading is refused where its call is
pub was_refused : (fault : PassFault) (x : CopyFault) (refusal : Refusal) → x ≡ second_fault fault
    → x ≡ Changed refusal
    → fault ≡ passes.Refused refusal
was_refused (passes.Refused r) x refusal is changed = let same : Changed r
    ≡ Changed refusal = sym is ∙ changed in cc
was_refused passes.ReadFault x refusal is changed = let same : ReadFault ≡ Changed refusal = sym is
    ∙ changed in absurd cc
was_refused passes.NoMemory x refusal is changed = let same : NoMemory ≡ Changed refusal = sym is
    ∙ changed in absurd cc
