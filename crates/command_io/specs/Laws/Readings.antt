-- Files that are read in an order: what stops the first of them, or one after others that are
-- accepted.
use Rattle.std.proofs.Common.{◌≡◌, ℕ, List, [], ◌∷◌, ◌++◌, Option, Some, None, refl, inl, inr, ap}
use Rattle.std.proofs.Common.{sym, subst, ◌∙◌}
use Rattle.std.proofs.lemmas.Option.{none-some}
use Rattle.std.specs.Option.{option_or}
use Rattle.shelf.specs.Shelf.{Files, HasRead, Outside, Known, OnlyReads, Rose}
use Rattle.command_io.specs.Statuses.{Kind, kind_of, done, refusal, read_fault, write_fault}
use Rattle.command_io.specs.Statuses.{no_memory}
use Rattle.command_io.specs.Readings.{FailsInOrder, IsAccepted, IsRefusal, IsStopped}
use Rattle.command_io.specs.Readings.{Reading, RoseAt, StopsBy}
use Rattle.command_io.specs.Readings.{first_refusal, named_before, names_of, reading, unread}
use Rattle.command_io.specs.declared.status.Status.{Status}
use Rattle.command_io.specs.declared.status.Status.TheVariants as status
use Rattle.shelf.specs.Laws.Known.{only_both, only_none, read_both, read_none, if_known, known_both}
use Rattle.shelf.specs.Laws.Known.{known_map, known_still}

-- ---- two lists of files

some_kept : (x y z : Option Status) (s : Status) → (y ≡ Some s → z ≡ Some s)
    → option_or x y ≡ Some s → option_or x z ≡ Some s
some_kept None y z s keeps is = keeps is
some_kept (Some r) y z s keeps is = is

none_first : (x y : Option Status) → option_or x y ≡ None → x ≡ None
none_first None y is = refl
none_first (Some r) y is = absurd (none-some r (sym is))

none_later : (x y : Option Status) → option_or x y ≡ None → y ≡ None
none_later None y is = is
none_later (Some r) y is = absurd (none-some r (sym is))

pub refused_first : (s1 s2 : List Reading) (files : Files) (s : Status)
    → first_refusal s1 files ≡ Some s
    → first_refusal (s1 ++ s2) files ≡ Some s
refused_first [] s2 files s is = absurd (none-some s is)
refused_first (x ∷ s1) s2 files s is =
    some_kept (x.refusal files) (first_refusal s1 files) (first_refusal (s1 ++ s2) files) s
    (refused_first s1 s2 files s) is

pub passed : (s1 s2 : List Reading) (files : Files) → first_refusal s1 files ≡ None
    → first_refusal (s1 ++ s2) files ≡ first_refusal s2 files
passed [] s2 files none = refl
passed (x ∷ s1) s2 files none = rw (none_first (x.refusal files) (first_refusal s1 files) none)
    (passed s1 s2 files (none_later (x.refusal files) (first_refusal s1 files) none))

pub accepted_first : (s1 s2 : List Reading) (files : Files) → first_refusal (s1 ++ s2) files ≡ None
    → first_refusal s1 files ≡ None
accepted_first [] s2 files none = refl
accepted_first (x ∷ s1) s2 files none =
    rw (none_first (x.refusal files) (first_refusal (s1 ++ s2) files) none)
    (accepted_first s1 s2 files
    (none_later (x.refusal files) (first_refusal (s1 ++ s2) files) none))

-- a name before some, if there is one, changes nothing of those behind it
rose_kept : (n : Option (List ℕ)) (l m : List (List ℕ)) (before now : List ℕ → ℕ)
    → (RoseAt l before now → RoseAt m before now)
    → RoseAt (named_before n l) before now → RoseAt (named_before n m) before now
rose_kept None l m before now keeps rose = keeps rose
rose_kept (Some name) l m before now keeps (inl rose) = inl rose
rose_kept (Some name) l m before now keeps (inr rose) = inr (keeps rose)

rose_behind : (n : Option (List ℕ)) (l : List (List ℕ)) (before now : List ℕ → ℕ)
    → RoseAt l before now → RoseAt (named_before n l) before now
rose_behind None l before now rose = rose
rose_behind (Some name) l before now rose = inr rose

rose_first : (s1 s2 : List Reading) (before now : List ℕ → ℕ) → RoseAt (names_of s1) before now
    → RoseAt (names_of (s1 ++ s2)) before now
rose_first [] s2 before now rose = absurd rose
rose_first (x ∷ s1) s2 before now rose =
    rose_kept x.name (names_of s1) (names_of (s1 ++ s2)) before now
    (rose_first s1 s2 before now) rose

rose_later : (s1 s2 : List Reading) (before now : List ℕ → ℕ) → RoseAt (names_of s2) before now
    → RoseAt (names_of (s1 ++ s2)) before now
rose_later [] s2 before now rose = rose
rose_later (x ∷ s1) s2 before now rose =
    rose_behind x.name (names_of (s1 ++ s2)) before now (rose_later s1 s2 before now rose)

fails_first : (s1 s2 : List Reading) (files : Files) (before now : List ℕ → ℕ)
    → FailsInOrder s1 files before now
    → FailsInOrder (s1 ++ s2) files before now
fails_first [] s2 files before now fails = absurd fails
fails_first (x ∷ s1) s2 files before now (inl rose) = inl rose
fails_first (x ∷ s1) s2 files before now (inr (none, fails)) =
    inr (none, fails_first s1 s2 files before now fails)

fails_later : (s1 s2 : List Reading) (files : Files) (before now : List ℕ → ℕ)
    → first_refusal s1 files ≡ None
    → FailsInOrder s2 files before now → FailsInOrder (s1 ++ s2) files before now
fails_later [] s2 files before now none fails = fails
fails_later (x ∷ s1) s2 files before now none fails =
    inr (
      none_first (x.refusal files) (first_refusal s1 files) none,
      fails_later s1 s2 files before now
          (none_later (x.refusal files) (first_refusal s1 files) none) fails,
    )

why_first : (s1 s2 : List Reading) (a b : Outside) (k : Kind) (s : Status) → StopsBy s1 a b k s
    → StopsBy (s1 ++ s2) a b k s
why_first s1 s2 a b done s why = why
why_first s1 s2 a b refusal s why =
    (known_map b.held (λ files is. refused_first s1 s2 files s is) why.0, why.1)
why_first s1 s2 a b read_fault s why = (
  rose_first s1 s2 a.read_faults b.read_faults why.0,
  known_map b.held
      (λ files fails. fails_first s1 s2 files a.read_faults b.read_faults fails) why.1,
)
why_first s1 s2 a b write_fault s why = why
why_first s1 s2 a b no_memory s why = why

-- the numbers of faults of reading before a call are those before the calls that failed nowhere
-- ahead of it
why_later : (s1 s2 : List Reading) (a b d : Outside) (k : Kind) (s : Status)
    → Known d.held (λ files. first_refusal s1 files ≡ None) → b.read_faults ≡ a.read_faults
    → StopsBy s2 b d k s → StopsBy (s1 ++ s2) a d k s
why_later s1 s2 a b d done s accepts same why = why
why_later s1 s2 a b d refusal s accepts same why = (
  known_both d.held (λ files none is. passed s1 s2 files none ∙ is) accepts why.0,
  why.1 ∙ same,
)
why_later s1 s2 a b d read_fault s accepts same why = (
  rose_later s1 s2 a.read_faults d.read_faults
      (subst (λ (f : List ℕ → ℕ). RoseAt (names_of s2) f d.read_faults) same why.0),
  known_both d.held
      (λ files none fails. fails_later s1 s2 files a.read_faults d.read_faults none
      (subst (λ (f : List ℕ → ℕ). FailsInOrder s2 files f d.read_faults) same fails)) accepts
      why.1,
)
why_later s1 s2 a b d write_fault s accepts same why = why
why_later s1 s2 a b d no_memory s accepts same why = why ∙ same

-- what stops the first files stops them with others behind them
pub stopped_first : (s1 s2 : List Reading) (a b : Outside) (s : Status) → IsStopped s1 a b s
    → IsStopped (s1 ++ s2) a b s
stopped_first s1 s2 a b s stopped = record {
  why = why_first s1 s2 a b (kind_of s) s stopped.why;
  words = stopped.words;
  memory =
      stopped.memory;
  only = stopped.only;
}

pub accepted_both : (s1 s2 : List Reading) (o : Option Files)
    → Known o (λ files. first_refusal s1 files ≡ None)
    → Known o (λ files. first_refusal s2 files ≡ None)
    → Known o (λ files. first_refusal (s1 ++ s2) files ≡ None)
accepted_both s1 s2 o first later =
    known_both o (λ files none is. passed s1 s2 files none ∙ is) first later

-- ---- one file

or_none : (x : Option Status) (s : Status) → x ≡ Some s → option_or x None ≡ Some s
or_none x s is = rw is refl

pub none_alone : (x : Option Status) → x ≡ None → option_or x None ≡ None
none_alone x is = rw is refl

-- a file is accepted
pub accepted_alone : (name : List ℕ) (refuses : Files → Option Status) (o : Option Files)
    → Known o (λ files. refuses files ≡ None)
    → Known o (λ files. first_refusal (reading name refuses ∷ []) files ≡ None)
accepted_alone name refuses o none = known_map o (λ files is. none_alone (refuses files) is) none

-- memory ran out
pub memory_stopped : (readings : List Reading) (a b : Outside) → b.read_faults ≡ a.read_faults
    → OnlyReads a b → IsStopped readings a b status.NoMemory
memory_stopped readings a b peace only =
    record { why = peace; words = λ e. cc; memory = refl; only = only }

-- reading a file failed
pub fault_stopped : (name : List ℕ) (refuses : Files → Option Status) (a b : Outside)
    → Rose (a.read_faults name) (b.read_faults name)
    → OnlyReads a b → IsStopped (reading name refuses ∷ []) a b status.ReadFault
fault_stopped name refuses a b rose only = record {
  why = (inl rose, if_known b.held (λ files. inl rose));
  words = λ e. cc;
  memory = refl;
  only = only;
}

-- a file is refused
pub refused_stopped : (name : List ℕ) (refuses : Files → Option Status) (a b : Outside) (s : Status)
    → IsRefusal s
    → Known b.held (λ files. refuses files ≡ Some s) → b.read_faults ≡ a.read_faults → OnlyReads a b
    → IsStopped (reading name refuses ∷ []) a b s
refused_stopped name refuses a b s is_refusal is peace only =
    let why : StopsBy (reading name refuses ∷ []) a b refusal s =
    (known_map b.held (λ files same. or_none (refuses files) s same) is, peace)
    in
    record {
      why = rw is_refusal.kind why;
      words = is_refusal.words;
      memory = is_refusal.memory;
      only = only;
    }

-- ---- without a file

pub unread_stopped : (refused : Option Status) (a : Outside) (s : Status) → IsRefusal s
    → refused ≡ Some s → IsStopped (unread refused ∷ []) a a s
unread_stopped refused a s is_refusal is =
    let why : StopsBy (unread refused ∷ []) a a refusal s =
    (if_known a.held (λ files. or_none refused s is), refl)
    in
    record {
      why = rw is_refusal.kind why;
      words = is_refusal.words;
      memory = is_refusal.memory;
      only = only_none a;
    }

pub unread_accepted : (refused : Option Status) (a : Outside) → refused ≡ None
    → IsAccepted (unread refused ∷ []) a a
unread_accepted refused a none =
    record { accepts = if_known a.held (λ files. none_alone refused none); read = read_none a }

-- ---- a file that is refused alike

alone_fails : (name : List ℕ) (r1 r2 : Files → Option Status) (files : Files)
    (before now : List ℕ → ℕ)
    → FailsInOrder (reading name r1 ∷ []) files before now
    → FailsInOrder (reading name r2 ∷ []) files before now
alone_fails name r1 r2 files before now (inl rose) = inl rose
alone_fails name r1 r2 files before now (inr later) = absurd later.1

alike_why : (name : List ℕ) (r1 r2 : Files → Option Status) (a b : Outside) (k : Kind) (s : Status)
    → Known b.held (λ files. r2 files ≡ r1 files) → StopsBy (reading name r1 ∷ []) a b k s
    → StopsBy (reading name r2 ∷ []) a b k s
alike_why name r1 r2 a b done s alike why = why
alike_why name r1 r2 a b refusal s alike why =
    (known_both b.held (λ files same is. ap (λ x. option_or x None) same ∙ is) alike why.0, why.1)
alike_why name r1 r2 a b read_fault s alike why = (
  why.0,
  known_map b.held
      (λ files fails. alone_fails name r1 r2 files a.read_faults b.read_faults fails) why.1,
)
alike_why name r1 r2 a b write_fault s alike why = why
alike_why name r1 r2 a b no_memory s alike why = why

pub alike_stopped : (name : List ℕ) (r1 r2 : Files → Option Status) (a b : Outside) (s : Status)
    → Known b.held (λ files. r2 files ≡ r1 files) → IsStopped (reading name r1 ∷ []) a b s
    → IsStopped (reading name r2 ∷ []) a b s
alike_stopped name r1 r2 a b s alike stopped = record {
  why = alike_why name r1 r2 a b (kind_of s) s alike stopped.why;
  words =
      stopped.words;
  memory = stopped.memory;
  only = stopped.only;
}

pub alike_accepted : (name : List ℕ) (r1 r2 : Files → Option Status) (a b : Outside)
    → Known b.held (λ files. r2 files ≡ r1 files)
    → IsAccepted (reading name r1 ∷ []) a b → IsAccepted (reading name r2 ∷ []) a b
alike_accepted name r1 r2 a b alike accepted =
    record {
      accepts = known_both b.held
          (λ files same is. ap (λ x. option_or x None) same ∙ is) alike accepted.accepts;
      read = accepted.read;
    }

-- ---- one after another

-- what stops behind files that are accepted
pub stopped_behind : (s1 s2 : List Reading) (a b d : Outside) (s : Status) → IsAccepted s1 a b
    → IsStopped s2 b d s
    → IsStopped (s1 ++ s2) a d s
stopped_behind s1 s2 a b d s accepted stopped =
    let accepts = known_still (λ files. first_refusal s1 files ≡ None) b.held d.held
    stopped.only.held accepted.accepts in
    record {
      why = why_later s1 s2 a b d (kind_of s) s accepts accepted.read.faults stopped.why;
      words = stopped.words;
      memory = stopped.memory;
      only = only_both a b d accepted.read.only stopped.only;
    }

pub accepted_behind : (s1 s2 : List Reading) (a b d : Outside) → IsAccepted s1 a b
    → IsAccepted s2 b d → IsAccepted (s1 ++ s2) a d
accepted_behind s1 s2 a b d first later =
    let accepts = known_still (λ files. first_refusal s1 files ≡ None) b.held d.held
    later.read.only.held first.accepts in
    record {
      accepts = accepted_both s1 s2 d.held accepts later.accepts;
      read = read_both a b d first.read later.read;
    }

-- what holds of the known files holds of those still known, once more was read
pub known_again : (P : Files → Type 0) (a b : Outside) → HasRead a b → Known a.held P → Known b.held P
known_again P a b read is = known_still P a.held b.held read.only.held is
