-- A moved trace on its way, piece after piece, and what stands where it gives up.
use Rattle.std.proofs.Common.{◌≡◌, ◌<◌, ◌≤◌, ◌^◌, ℕ, List, [], ◌∷◌, ◌++◌}
use Rattle.std.proofs.Common.{length, Option, Some, None}
use Rattle.std.proofs.Common.{refl, sym, ap, ◌∙◌, subst, arith, append-nil}
use Rattle.std.specs.List.{All}
use Rattle.std.specs.Option.{IfSome}
use Rattle.trace_format.specs.declared.record.TraceEnd.{TraceEnd}
use Rattle.shelf.specs.Shelf.{Files, HasRead, Outside, Known, content}
use Rattle.shelf.specs.Fetch.{IsFront}
use Rattle.shelf.specs.declared.shelf.ShelfError.{ShelfError}
use Rattle.shelf.specs.declared.shelf.ShelfError.TheVariants as errors
use Rattle.shelf.specs.Files.{AreCut, AreWritten}
use Rattle.shelf.specs.Laws.Files.{IsOutputs-read}
use Rattle.shelf.specs.Laws.Known.{known_same}
use Rattle.trace_format.specs.declared.read_so_far.ReadSoFar.{ReadSoFar}
use Rattle.trace_format.specs.declared.record.Header.{Header}
use Rattle.trace_format.specs.declared.record.TraceRecord.{TraceRecord}
use Rattle.trace_format.specs.declared.record.Version.{Version}
use Rattle.trace_format.specs.declared.record.Version.TheVariants.{One, Two, Three, Four}
use Rattle.trace_format.specs.Laws.Counts.{IsSoFar, counted_so_far, few_accesses, so_far}
use Rattle.trace_format.specs.Reading.{Reading, begin, read_on, reading_of}
use Rattle.trace_format.specs.Rules.{HasRegions, IsWritable, touches_in}
use Rattle.trace_passes.specs.declared.wanted.Refusal.{Refusal}
use Rattle.trace_passes.specs.Cursors.{HasCome, Reached}
use Rattle.trace_passes.specs.Cursors.{version_and_header}
use Rattle.trace_passes.specs.Laws.Passes.{HeadStays, head_of_front}
use Rattle.trace_files.specs.declared.move_fault.MoveFault.{MoveFault}
use Rattle.trace_files.specs.declared.move_fault.MoveFault.TheVariants as faults
use Rattle.trace_files.specs.declared.move_row.Move.{Move}
use Rattle.trace_files.specs.declared.mover.Mover.{Mover}
use Rattle.trace_files.specs.Copies.{any}
use Rattle.trace_files.specs.Movers.{EndsAt, Follows, HasMoved, IsAllWritten, IsCutAt}
use Rattle.trace_files.specs.Movers.{IsWell, MayTake, StopsAt}
use Rattle.trace_files.specs.Moving.{moved_so_far}
use Rattle.trace_files.proofs.Pieces.{all_behind, writable_in}

-- ---- where it ends

pub ends_by : (table : List Move) (name : List ℕ) (head : Option (Version × Header))
    (all : List TraceRecord) (before now : Outside) (fault : MoveFault)
    (why : Refusal) → StopsAt table name head all before now fault
    → EndsAt table name head all before now why fault
ends_by table name head all before now (faults.Refused refusal) why stops = absurd stops
ends_by table name head all before now (faults.Occupied addr) why stops = stops
ends_by table name head all before now (faults.Far addr) why stops = stops
ends_by table name head all before now faults.ReadFault why stops = stops
ends_by table name head all before now faults.WriteFault why stops = stops
ends_by table name head all before now faults.NoMemory why stops = stops

-- all that was put is cut, or written
pub all_cut : (table : List Move) (name : List ℕ) (m : Mover) (head : Option (Version × Header))
    (seen : List TraceRecord) (before old now : Outside) (error : ShelfError)
    → HasMoved table name m head seen before old
    → AreCut (moved_so_far table name head seen) before now error
    → IsCutAt table name head seen before now error
all_cut table name m head seen before old now error has cut = record {
  put = seen;
  more = [];
  free = has.free;
  first = sym (append-nil seen);
  cut = cut;
}

pub all_written : (table : List Move) (name : List ℕ) (m : Mover)
    (head : Option (Version × Header)) (seen : List TraceRecord) (before old now : Outside)
    → HasMoved table name m head seen before old
    → AreWritten (moved_so_far table name head seen) before now
    → AreCut (moved_so_far table name head seen) before now errors.NoMemory
    → IsAllWritten table name head seen before now
all_written table name m head seen before old now has written cut = record {
  free = has.free;
  written = written;
  cut = all_cut table name m head seen before old now errors.NoMemory has cut;
}

-- ---- the header

known_stays : (p q : Option ReadSoFar) (h : Version × Header) → version_and_header p ≡ Some h
    → HeadStays p q → version_and_header q ≡ Some h
known_stays None q h is stays = absurd cc
known_stays (Some p) None h is stays = let no_head = stays.0 in absurd cc
known_stays (Some p) (Some q) h is stays =
    let version = stays.0 in
    let header = stays.1 in
    let v : q.version ≡ p.version = cc in
    let w : q.header ≡ p.header = cc in
    (λ i. Some (v i, w i)) ∙ is

pub header_stays : (bytes more : List ℕ) (h : Version × Header)
    → version_and_header (reading_of bytes).1.progress ≡ Some h
    → version_and_header (reading_of (bytes ++ more)).1.progress ≡ Some h
header_stays bytes more h is =
    known_stays (reading_of bytes).1.progress (reading_of (bytes ++ more)).1.progress h is
    (head_of_front bytes more)

-- before a header is known there is no record
no_record : (p : Option ReadSoFar) (e : Option TraceEnd) (items : List TraceRecord)
    → IsSoFar p e items → version_and_header p ≡ None → items ≡ []
no_record None e items is none = is.0
no_record (Some p) e items is none = absurd cc

pub none_read : (bytes : List ℕ) → version_and_header (reading_of bytes).1.progress ≡ None
    → (reading_of bytes).0 ≡ []
none_read bytes none =
    no_record (reading_of bytes).1.progress (reading_of bytes).1.ending (reading_of bytes).0
    (so_far bytes) none

both_empty : (xs ys : List TraceRecord) → xs ++ ys ≡ [] → (xs ≡ []) × (ys ≡ [])
both_empty [] ys is = (refl, is)
both_empty (x ∷ xs) ys is = absurd cc

follows_by : (known now : Option (Version × Header)) (seen items all : List TraceRecord)
    → all ≡ seen ++ items
    → ((h : Version × Header) → known ≡ Some h → now ≡ Some h)
    → (known ≡ None → seen ≡ []) → (now ≡ None → all ≡ []) → Follows known seen now items
follows_by None None seen items all is stays first later =
    (first refl, (both_empty seen items (sym is ∙ later refl)).1)
follows_by None (Some h) seen items all is stays first later = first refl
follows_by (Some g) None seen items all is stays first later =
    let no_head = stays g refl in absurd cc
follows_by (Some g) (Some h) seen items all is stays first later =
    let same = stays g refl in cc

-- how the header of more bytes follows
pub follows_of : (bytes all : List ℕ) (items : List TraceRecord)
    → (more : List ℕ) × (all ≡ bytes ++ more)
    → (reading_of all).0 ≡ (reading_of bytes).0 ++ items
    → Follows (version_and_header (reading_of bytes).1.progress) (reading_of bytes).0
    (version_and_header (reading_of all).1.progress) items
follows_of bytes all items behind records =
    follows_by (version_and_header (reading_of bytes).1.progress)
    (version_and_header (reading_of all).1.progress) (reading_of bytes).0 items (reading_of all).0
    records
    (λ h is. ap (λ (l : List ℕ). version_and_header (reading_of l).1.progress) behind.1
    ∙ header_stays bytes behind.0 h is)
    (none_read bytes) (none_read all)

-- ---- what may be taken

small_regions : (v : Version) (h : Header) → HasRegions v h → h.near ≤ 16
small_regions One h regions = omega (arith, regions)
small_regions Two h regions = omega (arith, regions)
small_regions Three h regions = omega (arith, regions)
small_regions Four h regions = regions.1.1

good_in : (all : List ℕ) (p : Option ReadSoFar) → (reading_of all).1.progress ≡ p
    → IfSome (version_and_header p) IsWell
good_in all None is = tt
good_in all (Some p) is =
    let counted = counted_so_far all p is in
    record {
      good = counted.header;
      small = small_regions p.version p.header counted.regions;
    }

few_in : (all : List ℕ) (p : Option ReadSoFar) → (reading_of all).1.progress ≡ p
    → length (touches_in (reading_of all).0) < 2 ^ 63
few_in all None is =
    let none = ap (λ (l : List TraceRecord). length (touches_in l))
    (none_read all (ap version_and_header is)) in
    omega (arith, none)
few_in all (Some p) is = let few = few_accesses all p is in omega (arith, few)

pub writable_behind : (bytes all : List ℕ) (items : List TraceRecord)
    → (reading_of all).0 ≡ (reading_of bytes).0 ++ items → All IsWritable items
writable_behind bytes all items records =
    let whole = reading_of all in
    all_behind IsWritable (reading_of bytes).0 items
    (subst (All IsWritable) records
    (writable_in whole.1.progress whole.1.ending whole.0 (so_far all)))

-- what was put is still so once more was read
pub has_read : (table : List Move) (name : List ℕ) (m : Mover) (head : Option (Version × Header))
    (seen : List TraceRecord) (before mid now : Outside) → HasRead mid now
    → HasMoved table name m head seen before mid → HasMoved table name m head seen before now
has_read table name m head seen before mid now read has = record {
  named = has.named;
  outputs = IsOutputs-read m.files (moved_so_far table name head seen) before mid now read
      has.outputs;
  begun = has.begun;
  near = has.near;
  small = has.small;
  writer = has.writer;
  free = has.free;
  moved = has.moved;
}

-- some bytes are read, and their records are put
pub record IsMoving (table : List Move) (trace file : List ℕ) (m : Mover) (cursor : Reached)
    (old now : Outside) : Type 0 where
  pub bytes : List ℕ
  pub come : HasCome now.held trace any bytes cursor
  pub has : HasMoved table file m (version_and_header (reading_of bytes).1.progress)
      (reading_of bytes).0 old now

nothing_read : reading_of [] ≡ ([], begin)
unfolding read_on
nothing_read = refl

pub moving_first : (table : List Move) (trace file : List ℕ) (m : Mover) (cursor : Reached)
    (old : Outside) → HasCome old.held trace any [] cursor
    → HasMoved table file m None [] old old
    → IsMoving table trace file m cursor old old
moving_first table trace file m cursor old come has = record {
  bytes = [];
  come = come;
  has = subst (λ (x : List TraceRecord × Reading). HasMoved table file m
      (version_and_header x.1.progress) x.0 old old) (sym nothing_read) has;
}

module _ (table : List Move) (trace file : List ℕ) (m : Mover) (cursor : Reached)
    (old mid : Outside) (at : IsMoving table trace file m cursor old mid) (read : Outside)
    (reads : HasRead mid read)
  where
    -- the records of a piece may be taken
    pub may_take : (all : List ℕ) (items : List TraceRecord) (reading : Reading)
        → (more : List ℕ) × (all ≡ at.bytes ++ more)
        → (reading_of all).0 ≡ (reading_of at.bytes).0 ++ items → reading ≡ (reading_of all).1
        → MayTake table m (version_and_header reading.progress) items read
    may_take all items reading behind records is = record {
      name = file;
      known = version_and_header (reading_of at.bytes).1.progress;
      seen = (reading_of at.bytes).0;
      before = old;
      has = has_read table file m _ (reading_of at.bytes).0 old mid read reads at.has;
      follows = subst (λ (r : Reading). Follows
          (version_and_header (reading_of at.bytes).1.progress) (reading_of at.bytes).0
          (version_and_header r.progress) items) (sym is)
          (follows_of at.bytes all items behind records);
      room = subst (λ (l : List TraceRecord). length (touches_in l) < 2 ^ 63) records
          (few_in all (reading_of all).1.progress refl);
      good = subst (λ (r : Reading). IfSome (version_and_header r.progress) IsWell)
          (sym is) (good_in all (reading_of all).1.progress refl);
    }

    -- what was put before they came
    pub had_moved : HasMoved table m.name.now m
        (version_and_header (reading_of at.bytes).1.progress) (reading_of at.bytes).0 old read
    had_moved =
        subst (λ (n : List ℕ). HasMoved table n m
        (version_and_header (reading_of at.bytes).1.progress) (reading_of at.bytes).0 old read)
        (sym at.has.named)
        (has_read table file m _ (reading_of at.bytes).0 old mid read reads at.has)

    pub did_follow : (all : List ℕ) (items : List TraceRecord) (reading : Reading)
        → (more : List ℕ) × (all ≡ at.bytes ++ more)
        → (reading_of all).0 ≡ (reading_of at.bytes).0 ++ items → reading ≡ (reading_of all).1
        → Follows (version_and_header (reading_of at.bytes).1.progress) (reading_of at.bytes).0
        (version_and_header reading.progress) items
    did_follow all items reading behind records is =
        subst (λ (r : Reading). Follows (version_and_header (reading_of at.bytes).1.progress)
        (reading_of at.bytes).0 (version_and_header r.progress) items) (sym is)
        (follows_of at.bytes all items behind records)

    -- what is said of what was put before and what comes is said of all
    pub at_all : (all : List ℕ) (items its : List TraceRecord) (reading : Reading)
        (head : Option (Version × Header))
        (P : List ℕ → Option (Version × Header) → List TraceRecord → Outside → Type 0)
        → (more : List ℕ) × (all ≡ at.bytes ++ more)
        → (reading_of all).0 ≡ (reading_of at.bytes).0 ++ items → reading ≡ (reading_of all).1
        → head ≡ version_and_header reading.progress → its ≡ items
        → ((known : Option (Version × Header)) (seen : List TraceRecord) (before : Outside)
        → HasMoved table m.name.now m known seen before read → Follows known seen head its
        → P m.name.now head (seen ++ its) before)
        → P file (version_and_header (reading_of all).1.progress) (reading_of all).0 old
    at_all all items its reading head P behind records is known_head same says =
        let seen = (reading_of at.bytes).0 in
        let known = version_and_header (reading_of at.bytes).1.progress in
        let follows : Follows known seen head its =
        subst (λ (h : Option (Version × Header)). Follows known seen h its) (sym known_head)
        (subst (λ (l : List TraceRecord). Follows known seen
        (version_and_header reading.progress) l) (sym same)
        (did_follow all items reading behind records is)) in
        let here : P m.name.now head (seen ++ its) old = says known seen old had_moved follows in
        let head_is : head ≡ version_and_header (reading_of all).1.progress =
        known_head ∙ ap (λ (r : Reading). version_and_header r.progress) is in
        let all_is : seen ++ its ≡ (reading_of all).0 =
        ap (λ (l : List TraceRecord). seen ++ l) same ∙ sym records in
        subst (λ (n : List ℕ). P n (version_and_header (reading_of all).1.progress)
        (reading_of all).0 old) at.has.named
        (subst (λ (h : Option (Version × Header)). P m.name.now h (reading_of all).0 old) head_is
        (subst (λ (l : List TraceRecord). P m.name.now head l old) all_is here))

-- the bytes that were read are the first of the name's, as long as these are known
pub front_still : (o n : Option Files) (trace bytes : List ℕ) → n ≡ o
    → Known o (λ fs. IsFront (content fs trace) bytes)
    → Known n (λ fs. IsFront (content fs trace) bytes)
front_still o n trace bytes same front =
    known_same (λ fs. IsFront (content fs trace) bytes) o n same front

pub moving_next : (table : List Move) (trace file : List ℕ) (m : Mover) (cursor : Reached)
    (old read new : Outside) (all : List ℕ) → new.held ≡ read.held
    → HasCome read.held trace any all cursor
    → HasMoved table file m (version_and_header (reading_of all).1.progress) (reading_of all).0 old
    new
    → IsMoving table trace file m cursor old new
moving_next table trace file m cursor old read new all same come has = record {
  bytes = all;
  come = record {
    size = come.size;
    room = come.room;
    few = come.few;
    front = front_still read.held new.held trace all same come.front;
    read = come.read;
  };
  has = has;
}
