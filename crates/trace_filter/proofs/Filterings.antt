-- One pass over a trace that filters it.
use Rattle.std.proofs.Common.{◌≡◌, ◌<◌, ◌^◌, ◌++◌, ℕ, List, [], length, Option, Some, None}
use Rattle.std.proofs.Common.{refl, sym, ap, ◌∙◌, subst}
use Rattle.std.specs.Option.{IfSome}
use Rattle.shelf.specs.Fetch.{IsFront}
use Rattle.shelf.specs.Laws.Known.{read_none, known_same}
use Rattle.shelf.specs.Shelf.{Files, HasRead, Outside, content}
use Rattle.trace_format.specs.declared.record.Header.{Header}
use Rattle.trace_format.specs.declared.record.TraceRecord.{TraceRecord}
use Rattle.trace_format.specs.declared.record.Version.{Version}
use Rattle.trace_format.specs.Reading.{Reading, begin, read_on, reading_of}
use Rattle.trace_format.specs.Rules.{IsGoodHeader, touches_in}
use Rattle.trace_passes.specs.Cursors.{HasCome, Reached, version_and_header}
use Rattle.trace_passes.specs.Passes.{head_of, header_refusal}
use Rattle.trace_files.specs.Copies.{any}
use Rattle.trace_files.specs.Laws.Copies.{any_header}
use Rattle.trace_files.specs.Movers.{Follows}
use Rattle.trace_filter.specs.FilterPass.{IsOnItsWay, MayTake, sited, wanted_next}
use Rattle.trace_filter.specs.declared.filter_file.FilterFile.{FilterFile}
use Rattle.trace_filter.proofs.OnItsWay.{has_read, under}
use Rattle.trace_filter.proofs.Sited.{IsSited, few_in, follows_of, good_in, still_sited}

-- some bytes are read, and what stays of their records is on its way
pub record IsFiltering (k : ℕ) (trace name : List ℕ) (file : Option FilterFile) (cursor : Reached)
    (old now : Outside) : Type 0 where
  pub bytes : List ℕ
  pub come : HasCome now.held trace sited bytes cursor
  pub way : IsOnItsWay k name file (version_and_header (reading_of bytes).1.progress)
      (reading_of bytes).0 old now

nothing_read : reading_of [] ≡ ([], begin)
unfolding read_on
nothing_read = refl

pub filtering_first : (k : ℕ) (trace name : List ℕ) (cursor : Reached) (old : Outside)
    → HasCome old.held trace sited [] cursor → IsFiltering k trace name None cursor old old
filtering_first k trace name cursor old come = record {
  bytes = [];
  come = come;
  way = subst (λ (x : List TraceRecord × Reading). IsOnItsWay k name None
      (version_and_header x.1.progress) x.0 old old) (sym nothing_read) (read_none old);
}

-- what a cursor has read that is sited
pub come_sited : (held : Option Files) (trace bytes : List ℕ) (cursor : Reached)
    → HasCome held trace sited bytes cursor → IsSited bytes
come_sited held trace bytes cursor come = record {
  pcs = come.read.sited;
  header = ap (λ (r : Reading). header_refusal sited (head_of r.progress)) (sym come.read.reading)
      ∙ come.read.unrefused;
}

-- and it is read with what is wanted next
pub come_next : (held : Option Files) (trace bytes : List ℕ) (file : Option FilterFile)
    (cursor : Reached) → HasCome held trace sited bytes cursor
    → HasCome held trace (wanted_next file) bytes cursor
come_next held trace bytes None cursor come = come
come_next held trace bytes (Some f) cursor come = record {
  size = come.size;
  room = come.room;
  few = come.few;
  front = come.front;
  read = record {
    reading = come.read.reading;
    clean = come.read.clean;
    sited = refl;
    unrefused = any_header (head_of cursor.reading.progress);
  };
}

-- more that is read so is sited too, where the file is begun for its header
any_sited : (held : Option Files) (trace all : List ℕ) (next : Reached)
    → HasCome held trace any all next → IsSited all → HasCome held trace sited all next
any_sited held trace all next come good = record {
  size = come.size;
  room = come.room;
  few = come.few;
  front = come.front;
  read = record {
    reading = come.read.reading;
    clean = come.read.clean;
    sited = good.pcs;
    unrefused = ap (λ (r : Reading). header_refusal sited (head_of r.progress)) come.read.reading
        ∙ good.header;
  };
}

pub come_on : (k : ℕ) (name : List ℕ) (held : Option Files) (trace bytes more : List ℕ)
    (file : Option FilterFile) (next : Reached) (old mid : Outside) → IsSited bytes
    → IsOnItsWay k name file (version_and_header (reading_of bytes).1.progress) (reading_of bytes).0
    old mid
    → HasCome held trace (wanted_next file) (bytes ++ more) next
    → HasCome held trace sited (bytes ++ more) next
come_on k name held trace bytes more None next old mid good way come = come
come_on k name held trace bytes more (Some f) next old mid good way come =
    let u = under k name (Some f) f (version_and_header (reading_of bytes).1.progress)
    (reading_of bytes).0 old mid refl way in
    any_sited held trace (bytes ++ more) next come (still_sited bytes more u.0 u.1 good)

module _ (k : ℕ) (trace name : List ℕ) (file : Option FilterFile) (cursor : Reached)
    (old mid : Outside) (at : IsFiltering k trace name file cursor old mid) (read : Outside)
    (reads : HasRead mid read)
  where
    -- what came before
    pub had : IsOnItsWay k name file (version_and_header (reading_of at.bytes).1.progress)
        (reading_of at.bytes).0 old read
    had = has_read k name file (version_and_header (reading_of at.bytes).1.progress)
        (reading_of at.bytes).0 old mid read reads at.way

    -- the records of a piece may be taken
    pub may_take : (all : List ℕ) (items : List TraceRecord) (reading : Reading)
        → (more : List ℕ) × (all ≡ at.bytes ++ more)
        → (reading_of all).0 ≡ (reading_of at.bytes).0 ++ items → reading ≡ (reading_of all).1
        → MayTake k name file (version_and_header reading.progress) items read
    may_take all items reading behind records is = record {
      known = version_and_header (reading_of at.bytes).1.progress;
      seen = (reading_of at.bytes).0;
      before = old;
      way = had;
      follows = subst (λ (r : Reading). Follows
          (version_and_header (reading_of at.bytes).1.progress) (reading_of at.bytes).0
          (version_and_header r.progress) items) (sym is)
          (follows_of at.bytes all items behind records);
      room = subst (λ (l : List TraceRecord). length (touches_in l) < 2 ^ 63) records
          (few_in all (reading_of all).1.progress refl);
      good = subst (λ (r : Reading). IfSome (version_and_header r.progress) (λ h. IsGoodHeader h.1))
          (sym is) (good_in all (reading_of all).1.progress refl);
    }

    -- what is said of what came before and of a piece is said of all
    pub at_all : (all : List ℕ) (items its : List TraceRecord) (reading : Reading)
        (head : Option (Version × Header))
        (P : Option (Version × Header) → List TraceRecord → Outside → Type 0)
        → (more : List ℕ) × (all ≡ at.bytes ++ more)
        → (reading_of all).0 ≡ (reading_of at.bytes).0 ++ items → reading ≡ (reading_of all).1
        → head ≡ version_and_header reading.progress → its ≡ items
        → ((known : Option (Version × Header)) (seen : List TraceRecord) (before : Outside)
        → IsOnItsWay k name file known seen before read → Follows known seen head its
        → P head (seen ++ its) before)
        → P (version_and_header (reading_of all).1.progress) (reading_of all).0 old
    at_all all items its reading head P behind records is known_head same says =
        let seen = (reading_of at.bytes).0 in
        let known = version_and_header (reading_of at.bytes).1.progress in
        let head_is : head ≡ version_and_header (reading_of all).1.progress =
        known_head ∙ ap (λ (r : Reading). version_and_header r.progress) is in
        let follows : Follows known seen head its =
        subst (λ (h : Option (Version × Header)). Follows known seen h its) (sym head_is)
        (subst (λ (l : List TraceRecord). Follows known seen
        (version_and_header (reading_of all).1.progress) l) (sym same)
        (follows_of at.bytes all items behind records)) in
        let here : P head (seen ++ its) old = says known seen old had follows in
        let all_is : seen ++ its ≡ (reading_of all).0 =
        ap (λ (l : List TraceRecord). seen ++ l) same ∙ sym records in
        subst (λ (h : Option (Version × Header)). P h (reading_of all).0 old) head_is
        (subst (λ (l : List TraceRecord). P head l old) all_is here)

pub filtering_next : (k : ℕ) (trace name : List ℕ) (file : Option FilterFile) (cursor : Reached)
    (old read new : Outside) (all : List ℕ) → new.held ≡ read.held
    → HasCome read.held trace sited all cursor
    → IsOnItsWay k name file (version_and_header (reading_of all).1.progress) (reading_of all).0 old
    new
    → IsFiltering k trace name file cursor old new
filtering_next k trace name file cursor old read new all same come way = record {
  bytes = all;
  come = record {
    size = come.size;
    room = come.room;
    few = come.few;
    front = known_same (λ fs. IsFront (content fs trace) all) read.held new.held same come.front;
    read = come.read;
  };
  way = way;
}
