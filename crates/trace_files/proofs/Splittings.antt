-- The halves of a trace on their way to the files that they would be.
use Rattle.std.proofs.Common.{None, ◌≡◌, ℕ, ◌+◌, ◌-◌, ◌≤◌, List, [], ◌∷◌, ◌++◌, length, Option, Some}
use Rattle.std.proofs.Common.{refl, sym, ap, ◌∙◌, subst}
use Rattle.std.proofs.Common.{append_assoc, arith}
use Rattle.std.specs.Prelude.{min}
use Rattle.std.proofs.lemmas.List.{append-nil}
use Rattle.std.proofs.lemmas.List.Elements.{All-head}
use Rattle.shelf.specs.Shelf.{Files, Narrows, Outside, Known, content}
use Rattle.shelf.specs.declared.shelf.ShelfError.{ShelfError}
use Rattle.shelf.specs.Files.{AreCut, AreWritten, GoOn, Output}
use Rattle.shelf.specs.OneFile.{Waiting}
use Rattle.shelf.specs.OnTheirWay.{outputs_with}
use Rattle.shelf.specs.Laws.Files.{GoOn-same}
use Rattle.shelf.specs.Laws.Known.{known_both, known_map, known_still}
use Rattle.trace_format.specs.declared.record.TraceEnd.{TraceEnd}
use Rattle.trace_format.specs.declared.record.Header.{Header}
use Rattle.trace_format.specs.declared.record.Version.{Version}
use Rattle.trace_format.specs.declared.record.TraceRecord.{TraceRecord}
use Rattle.trace_format.specs.declared.record.TraceRecord.TheVariants as records
use Rattle.trace_format.specs.Rules.{IsAllowedEnd, IsGoodHeader, IsWritable, last_position}
use Rattle.trace_format.specs.Rules.{touches_in}
use Rattle.trace_format.specs.Spelling.{before_after, nothing_before, spell, spell_ending}
use Rattle.trace_format.specs.Spelling.{spell_record}
use Rattle.trace_passes.specs.declared.passes.Passed.{Passed}
use Rattle.trace_passes.specs.Passes.{near_refusal, Trace, all_records, trace_of, trace_with}
use Rattle.trace_passes.specs.Laws.Passes.{trace-parts, trace-records}
use Rattle.trace_format.specs.declared.splitter.Side.{Side}
use Rattle.trace_format.specs.declared.splitter.Side.TheVariants.{First, Second, Neither}
use Rattle.trace_format.specs.Splits.{SameCut, Split, begin_split, endings_of, halves_of}
use Rattle.trace_format.specs.Splits.{headers_of, put_behind, side_after}
use Rattle.trace_format.specs.Writing.{Writing, begun_with, before_behind}
use Rattle.trace_format.specs.Laws.Writing.{begun-ended, begun-more, begun_on, writer-more}
use Rattle.trace_files.specs.declared.copy_fault.CopyFault.{CopyFault}
use Rattle.trace_files.specs.Copies.{IsUnfiltered, HasCopied, HasStopped, halves}
use Rattle.trace_files.specs.Copying.{AreAlike, AreFirst, IsAccepted, IsCopied, IsCutShort}
use Rattle.trace_files.specs.Copying.{halves_so_far, halves_with}
use Rattle.trace_files.specs.Copying.{write_fault}
use Rattle.trace_files.proofs.Again.{stopped_reading, stopped_writing}
use Rattle.trace_files.proofs.Pieces.{all_behind}
use Rattle.trace_files.proofs.Readings.{first_none}
use Rattle.trace_files.proofs.Stopped.{same_trace, known_parts}

-- the law of a cut that this rests on: one record more goes to its side
abbrev pub Grows : Type 0
Grows = (cut : ℕ) (seen : List TraceRecord) (item : TraceRecord)
    → halves_of cut (seen ++ item ∷ []) ≡ put_behind (side_after cut seen item) item
    (halves_of cut seen)

-- ---- one record more

-- the halves, once it is known to which side the record went
pub halves_more : Grows → (cut : ℕ) (seen : List TraceRecord) (item : TraceRecord) (side : Side)
    → side ≡ side_after cut seen item
    → halves_of cut (seen ++ item ∷ []) ≡ put_behind side item (halves_of cut seen)
halves_more grows cut seen item side is =
    grows cut seen item ∙ ap (λ (s : Side). put_behind s item (halves_of cut seen)) (sym is)

-- the splitter's count of what it met is not stated in the files
pub same_files : (first second : List ℕ) (v : Version) (old new : Split) → SameCut old new
    → halves_so_far first second v new ≡ halves_so_far first second v old
same_files first second v old new same = λ i seen.
    halves_so_far first second v (record {
      header = same.header i;
      total = same.total i;
      cut =
          same.cut i;
      met = 0;
    }) seen

-- a writer of the half that the record went to, and one of the other half
pub writer_behind : (v : Version) (w : Writing) (xs ys : List TraceRecord) (item : TraceRecord)
    → w ≡ record { version = v; before = before_behind nothing_before xs } → ys ≡ xs ++ item ∷ []
    → record w { before = before_after w.before item }
    ≡ record { version = v; before = before_behind nothing_before ys }
writer_behind v w xs ys item is more =
    writer-more v w xs item is
    ∙ ap (λ (l : List TraceRecord). let y : Writing =
    record { version = v; before = before_behind nothing_before l } in y) (sym more)

pub writer_stays : (v : Version) (w : Writing) (xs ys : List TraceRecord)
    → w ≡ record { version = v; before = before_behind nothing_before xs } → ys ≡ xs
    → w ≡ record { version = v; before = before_behind nothing_before ys }
writer_stays v w xs ys is same =
    is ∙ ap (λ (l : List TraceRecord). let y : Writing =
    record { version = v; before = before_behind nothing_before l } in y) (sym same)

module _ (first second : List ℕ) (v : Version) (s : Split) (seen : List TraceRecord)
    (item : TraceRecord) where
  abbrev before_it : List TraceRecord × List TraceRecord
  before_it = halves_of s.cut seen

  -- the record is put into the file of its half
  pub put_first : (w : Writing) → w ≡ record
      { version = v; before = before_behind nothing_before (halves_of s.cut seen).0 }
      → halves_of s.cut (seen ++ item ∷ []) ≡ put_behind First item (halves_of s.cut seen)
      → outputs_with (halves_so_far first second v s seen) 0 (spell_record w.version w.before item)
      ≡ halves_so_far first second v s (seen ++ item ∷ [])
  put_first w writer more =
      (λ i. outputs_with (halves_so_far first second v s seen) 0
      (spell_record (writer i).version (writer i).before item))
      ∙ ap (λ (l : List ℕ). let o : List Output = record { name = first; bytes = l }
      ∷ record { name = second; bytes = begun_with v (headers_of s).1 before_it.1 } ∷ [] in o)
      (begun-more v (headers_of s).0 before_it.0 item)
      ∙ ap (halves_with first second v s) (sym more)

  pub put_second : (w : Writing) → w ≡ record
      { version = v; before = before_behind nothing_before (halves_of s.cut seen).1 }
      → halves_of s.cut (seen ++ item ∷ []) ≡ put_behind Second item (halves_of s.cut seen)
      → outputs_with (halves_so_far first second v s seen) 1 (spell_record w.version w.before item)
      ≡ halves_so_far first second v s (seen ++ item ∷ [])
  put_second w writer more =
      (λ i. outputs_with (halves_so_far first second v s seen) 1
      (spell_record (writer i).version (writer i).before item))
      ∙ ap (λ (l : List ℕ). let o : List Output =
      record { name = first; bytes = begun_with v (headers_of s).0 before_it.0 }
      ∷ record { name = second; bytes = l } ∷ [] in o)
      (begun-more v (headers_of s).1 before_it.1 item)
      ∙ ap (halves_with first second v s) (sym more)

  pub put_nowhere : halves_of s.cut (seen ++ item ∷ [])
      ≡ put_behind Neither item (halves_of s.cut seen)
      → halves_so_far first second v s seen ≡ halves_so_far first second v s (seen ++ item ∷ [])
  put_nowhere more = ap (halves_with first second v s) (sym more)

-- ---- more records

-- the records that came to the halves go on
record GoOnTo (halves longer : List TraceRecord × List TraceRecord) : Type 0 where
  first : (more : List TraceRecord) × (longer.0 ≡ halves.0 ++ more)
  second : (more : List TraceRecord) × (longer.1 ≡ halves.1 ++ more)

go_behind : (side : Side) (item : TraceRecord) (halves longer : List TraceRecord × List TraceRecord)
    → GoOnTo (put_behind side item halves) longer → GoOnTo halves longer
go_behind First item halves longer on = record {
  first = (item ∷ on.first.0, on.first.1 ∙ append_assoc halves.0 (item ∷ []) on.first.0);
  second = on.second;
}
go_behind Second item halves longer on = record {
  first = on.first;
  second = (item ∷ on.second.0, on.second.1 ∙ append_assoc halves.1 (item ∷ []) on.second.0);
}
go_behind Neither item halves longer on = record { first = on.first; second = on.second }

go_on_to : Grows → (cut : ℕ) (seen more : List TraceRecord) → GoOnTo (halves_of cut seen)
    (halves_of cut (seen ++ more))
go_on_to grows cut seen [] =
    let same = ap (halves_of cut) (append-nil seen) in
    record {
      first = (
        [],
        ap (λ (h : List TraceRecord × List TraceRecord). h.0) same
            ∙ sym (append-nil (halves_of cut seen).0),
      );
      second = (
        [],
        ap (λ (h : List TraceRecord × List TraceRecord). h.1) same
            ∙ sym (append-nil (halves_of cut seen).1),
      );
    }
go_on_to grows cut seen (item ∷ more) =
    let longer = halves_of cut (seen ++ item ∷ more) in
    go_behind (side_after cut seen item) item (halves_of cut seen) longer
    (subst (λ (h : List TraceRecord × List TraceRecord). GoOnTo h longer) (grows cut seen item)
    (subst (λ (l : List TraceRecord). GoOnTo (halves_of cut (seen ++ item ∷ [])) (halves_of cut l))
    (append_assoc seen (item ∷ []) more) (go_on_to grows cut (seen ++ item ∷ []) more)))

-- so do the bytes of each half, to those of the whole half
half_on : (v : Version) (h : Header) (all seen : List TraceRecord) (e : TraceEnd)
    → (more : List TraceRecord) × (all ≡ seen ++ more)
    → (rest : List ℕ) × (spell v h all e ≡ begun_with v h seen ++ rest)
half_on v h all seen e on =
    begun_on v h all seen (on.0 ++ records.End e ∷ []) e
    (ap (λ (l : List TraceRecord). l ++ records.End e ∷ []) on.1
    ∙ append_assoc seen on.0 (records.End e ∷ []))

halves_on : Grows → (at : ℕ) (first second : List ℕ) (t : Trace) (seen more : List TraceRecord)
    → all_records t ≡ seen ++ more
    → GoOn (halves_so_far first second t.version (begin_split t.header t.ending.accesses at) seen)
    (halves at first second t)
halves_on grows at first second t seen more is =
    let s = begin_split t.header t.ending.accesses at in
    let on = subst (λ (l : List TraceRecord). GoOnTo (halves_of s.cut seen) (halves_of s.cut l))
    (sym is)
    (go_on_to grows s.cut seen more) in (
      refl,
      half_on t.version (headers_of s).0 (halves_of s.cut (all_records t)).0
          (halves_of s.cut seen).0 (endings_of s t.ending).0 on.first,
      (
        refl,
        half_on t.version (headers_of s).1 (halves_of s.cut (all_records t)).1
            (halves_of s.cut seen).1 (endings_of s t.ending).1 on.second,
        tt,
      ),
    )

-- ---- their ends

-- the files, once each half has its end
abbrev pub with_ends : Version → List Output → TraceEnd × TraceEnd → List Output
with_ends v outputs ends = outputs_with (outputs_with outputs 0 (spell_ending v ends.0)) 1
    (spell_ending v ends.1)

whole_halves : (at : ℕ) (first second : List ℕ) (t : Trace)
    → (let s = begin_split t.header t.ending.accesses at in
    with_ends t.version (halves_so_far first second t.version s (all_records t))
    (endings_of s t.ending))
    ≡ halves at first second t
whole_halves at first second t =
    let s = begin_split t.header t.ending.accesses at in
    let all = halves_of s.cut (all_records t) in
    λ i. record {
      name = first;
      bytes = begun-ended t.version (headers_of s).0 all.0
          (endings_of s t.ending).0 i;
    }
    ∷ record {
      name = second;
      bytes = begun-ended t.version (headers_of s).1 all.1
          (endings_of s t.ending).1 i;
    } ∷ []

-- the end of a trace may be written
pub end_allowed : (bytes : List ℕ) (t : Trace) → trace_of bytes ≡ Some t
    → IsAllowedEnd t.ending.steps t.ending.outcome
end_allowed bytes t is =
    let e = records.End t.ending in
    All-head IsWritable e [] (all_behind IsWritable t.items (e ∷ [])
    (trace-parts bytes t is).writable)

-- the second half's header is good
pub second_header : (h : Header) (total at : ℕ) → IsGoodHeader h → h.first + total ≤ last_position
    → IsGoodHeader (headers_of (begin_split h total at)).1
second_header h total at good positions =
    record { position = omega arith; some = good.some; few = good.few }

-- ---- a split, by its two readings

module _ (grows : Grows) (held : Option Files) (name : List ℕ) (at : ℕ) (first second : List ℕ)
    (passed : Passed)
    (accepted : IsAccepted held name passed) (s : Split)
    (cut : s ≡ begin_split passed.header passed.ending.accesses at)
  where
    abbrev names : List (List ℕ)
    names = first ∷ second ∷ []

    abbrev so_far : List TraceRecord → List Output
    so_far seen = halves_so_far first second passed.version s seen

    goes_on : (t : Trace) (items seen more : List TraceRecord) → t ≡ trace_with passed items
        → all_records t ≡ seen ++ more
        → GoOn (so_far seen) (halves at first second t)
    goes_on t items seen more is all =
        subst (λ (x : Split). GoOn (halves_so_far first second passed.version x seen)
        (halves at first second t)) (sym cut)
        (subst (λ (x : Trace). GoOn (halves_so_far first second x.version
        (begin_split x.header x.ending.accesses at) seen)
        (halves at first second t)) is (halves_on grows at first second t seen more all))

    goes : (seen : List TraceRecord) → AreFirst held name seen
        → Known held (λ fs. (t : Trace) → trace_of (content fs name) ≡ Some t
        → GoOn (so_far seen) (halves at first second t))
    goes seen are =
        known_both held (λ fs parts more t is.
        let same = parts t is in
        goes_on t same.0 seen more.0 same.1 (sym (trace-records (content fs name) t is) ∙ more.1))
        (known_parts held name passed accepted) are

    pub stopped_begun : (before now : Outside) (error : ShelfError)
        → AreCut (so_far []) before now error
        → HasStopped held name names (halves at first second) before now (write_fault error)
    stopped_begun =
        stopped_writing held name names (halves at first second) so_far (λ seen. refl) goes []
        (first_none held name)

    -- what the second reading says of its target
    module _ (files : List TraceRecord → List Output)
        (named : files ≡ halves_so_far first second passed.version s) (before : Outside)
      where
        pub stopped_copying : (now : Outside) (fault : CopyFault)
            → IsCutShort held name files before now fault
            → HasStopped held name names (halves at first second) before now fault
        stopped_copying =
            stopped_reading held name names (halves at first second) so_far
            (λ seen. refl) goes files named before

        -- once it is done
        module _ (again : Passed) (alike : AreAlike passed again) (has : List TraceRecord → Type 0)
            (waiting : List Waiting)
            (mid : Outside) (narrow : Narrows mid.held held)
            (copied : IsCopied mid.held name again files has waiting before mid)
            (ends : TraceEnd × TraceEnd) (are : ends ≡ endings_of s again.ending) (now : Outside)
          where
            abbrev trace : Trace
            trace = trace_with again copied.items

            stated : Known held (λ fs. copied.bytes ≡ content fs name)
            stated = known_still (λ fs. copied.bytes ≡ content fs name) mid.held held narrow
                copied.whole

            so_cut : s ≡ begin_split again.header again.ending.accesses at
            so_cut = cut ∙ (λ i. begin_split (sym alike.header i) (sym alike.accesses i) at)

            whole : with_ends passed.version (files (all_records trace)) ends
                ≡ halves at first second trace
            whole =
                (λ i. with_ends passed.version (named i (all_records trace)) (are i))
                ∙ (λ i. with_ends (sym alike.version i) (halves_so_far first second (sym alike.version i) (so_cut i)
                (all_records trace))
                (endings_of (so_cut i) again.ending))
                ∙ whole_halves at first second trace

            counted : again.ending.accesses ≡ length (touches_in copied.items)
            counted = (trace-parts copied.bytes trace copied.is).counted

            pub split_whole : AreWritten (with_ends passed.version (files (all_records trace)) ends)
                before now
                → HasCopied held name (halves at first second)
                (λ t. (ends.0.accesses ≡ min at (length (touches_in t.items)))
                × (ends.1.accesses ≡ length (touches_in t.items) - ends.0.accesses)
                × IsUnfiltered t) before now
            split_whole written =
                let cut_at : ends.0.accesses
                ≡ s.cut = ap (λ (e : TraceEnd × TraceEnd). e.0.accesses) are in
                record {
                  bytes = copied.bytes;
                  whole = stated;
                  trace = trace;
                  is = copied.is;
                  stated = (
                    cut_at ∙ ap (λ (x : Split). x.cut) so_cut ∙ ap (min at) counted,
                    ap (λ (e : TraceEnd × TraceEnd). e.1.accesses) are
                        ∙ ap (λ (x : Split). x.total - s.cut) so_cut
                        ∙ ap (λ (n : ℕ). n - s.cut) counted
                        ∙ ap (λ (n : ℕ). length (touches_in copied.items) - n) (sym cut_at),
                    ap (λ (h : Header). near_refusal None h.near) alike.header ∙ accepted.plain,
                  );
                  written = subst (λ (l : List Output). AreWritten l before now) whole written;
                }

            -- the ends, or what waits, could not be written
            same_goes : (seen : List TraceRecord) → AreFirst held name seen
                → Known held (λ fs. (t : Trace) → trace_of (content fs name) ≡ Some t
                → GoOn (halves at first second trace) (halves at first second t))
            same_goes seen first_ones =
                known_map held (λ fs bytes t is.
                subst (λ (x : Trace). GoOn (halves at first second trace)
                (halves at first second x))
                (same_trace trace t (trace_of (content fs name))
                (ap trace_of (sym bytes) ∙ copied.is) is)
                (GoOn-same (halves at first second trace))) stated

            pub stopped_ending : (error : ShelfError)
                → AreCut (with_ends passed.version (files (all_records trace)) ends) before now error
                → HasStopped held name names (halves at first second) before now (write_fault error)
            stopped_ending error short =
                stopped_writing held name names (halves at first second)
                (λ seen. halves at first second trace) (λ seen. refl)
                same_goes [] (first_none held name) before now error
                (subst (λ (l : List Output). AreCut l before now error) whole short)
