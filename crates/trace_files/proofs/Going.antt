-- Records that come to a target, and a second reading on its way.
use Rattle.std.proofs.Common.{◌≡◌, ℕ, List, [], ◌++◌, take, Option, refl, sym, subst, ◌∙◌}
use Rattle.std.proofs.lemmas.List.{append-nil}
use Rattle.shelf.specs.Agreeing.{HasReadFront}
use Rattle.shelf.specs.Shelf.{Files, HasRead, Narrows, Outside, content}
use Rattle.shelf.specs.Fetch.{IsFront}
use Rattle.shelf.specs.Files.{Output}
use Rattle.shelf.specs.OneFile.{Waiting}
use Rattle.shelf.specs.OnTheirWay.{IsOutputs}
use Rattle.shelf.specs.Laws.Agreeing.{front_none}
use Rattle.shelf.specs.Laws.Files.{IsOutputs-read}
use Rattle.shelf.specs.Laws.Known.{narrows_same, narrows_then, known_still}
use Rattle.trace_format.specs.declared.record.TraceRecord.{TraceRecord}
use Rattle.trace_format.specs.Reading.{read_on, reading_of}
use Rattle.trace_passes.specs.Cursors.{GoesOn, HasCome, Reached}
use Rattle.trace_files.specs.Copies.{unfiltered}
use Rattle.trace_files.specs.Copying.{IsUnderWay}

-- The first so many of some records came behind those before.
pub record PutTo {A : Type 0} (waiting : A → List Waiting)
    (files : A → List TraceRecord → List Output)
    (has : A → List TraceRecord → Type 0) (items : List TraceRecord) (i : ℕ) (first now : A)
    (old new : Outside) : Type 0 where
  pub files_stay : files now ≡ files first
  pub came : (seen : List TraceRecord) → has first seen → has now (seen ++ take i items)
  pub outputs : (seen : List TraceRecord) (before : Outside) → has first seen
      → IsOutputs (waiting first) (files first seen) before old
      → IsOutputs (waiting now) (files first (seen ++ take i items)) before new
  pub keeps_held : new.held ≡ old.held
  pub gives : new.given ≡ old.given

module _ {A : Type 0} (waiting : A → List Waiting) (files : A → List TraceRecord → List Output)
    (has : A → List TraceRecord → Type 0)
  where
    pub put_none : (items : List TraceRecord) (first : A) (old : Outside)
        → PutTo waiting files has items 0 first first old old
    put_none items first old = record {
      files_stay = refl;
      came = λ seen h. subst (has first) (sym (append-nil seen)) h;
      outputs = λ seen before h on. subst
          (λ (l : List TraceRecord). IsOutputs (waiting first) (files first l) before old)
          (sym (append-nil seen)) on;
      keeps_held = refl;
      gives = refl;
    }

    -- more may come
    pub under_way : (items : List TraceRecord) (i : ℕ) (first now : A) (old new : Outside)
        → IsUnderWay (waiting first) (files first) (has first) old
        → PutTo waiting files has items i first now old new
        → IsUnderWay (waiting now) (files now) (has now) new
    under_way items i first now old new way to = record {
      seen = way.seen ++ take i items;
      before = way.before;
      came = to.came way.seen way.came;
      outputs = subst (λ (f : List TraceRecord → List Output). IsOutputs (waiting now)
          (f (way.seen ++ take i items)) way.before new)
          (sym to.files_stay) (to.outputs way.seen way.before way.came way.outputs);
    }

-- What was read stands as long as its file is known.
come_still : (o n : Option Files) (name bytes : List ℕ) (cursor : Reached) → Narrows o n
    → HasCome o name unfiltered bytes cursor → HasCome n name unfiltered bytes cursor
come_still o n name bytes cursor narrow come = record {
  size = come.size;
  room = come.room;
  few = come.few;
  front = known_still (λ files. IsFront (content files name) bytes) o n narrow come.front;
  read = come.read;
}

-- Some bytes are read, and all their records came to the target.
pub record IsAt {A : Type 0} (waiting : A → List Waiting)
    (files : A → List TraceRecord → List Output)
    (has : A → List TraceRecord → Type 0) (name : List ℕ) (first now : A)
    (cursor : Reached)
    (old new : Outside) : Type 0 where
  pub bytes : List ℕ
  pub come : HasCome new.held name unfiltered bytes cursor
  pub front : HasReadFront name bytes old.given new.given
  pub narrow : Narrows old.held new.held
  pub files_stay : files now ≡ files first
  pub came : has now (reading_of bytes).0
  pub outputs : (before : Outside) → IsOutputs (waiting first) (files first []) before old
      → IsOutputs (waiting now) (files first (reading_of bytes).0) before new

module _ {A : Type 0} (waiting : A → List Waiting) (files : A → List TraceRecord → List Output)
    (has : A → List TraceRecord → Type 0)
    (name : List ℕ)
  where
    nothing_read : (reading_of []).0 ≡ []
    unfolding read_on
    nothing_read = refl

    pub at_first : (target : A) (cursor : Reached) (old : Outside)
        → HasCome old.held name unfiltered [] cursor → has target []
        → IsAt waiting files has name target target cursor old old
    at_first target cursor old come none = record {
      bytes = [];
      come = come;
      front = front_none name old.given;
      narrow = narrows_same old.held;
      files_stay = refl;
      came = subst (has target) (sym nothing_read) none;
      outputs = λ before on. subst (λ (l : List TraceRecord). IsOutputs (waiting target)
          (files target l) before old)
          (sym nothing_read) on;
    }

    -- what the call may rest on once a piece was read, where it began with files on their way
    pub way_at : (first now : A) (cursor : Reached) (old mid new : Outside) (before : Outside)
        → IsOutputs (waiting first) (files first []) before old
        → IsAt waiting files has name first now cursor old mid → HasRead mid new
        → IsUnderWay (waiting now) (files now) (has now) new
    way_at first now cursor old mid new before on at read =
        let seen = (reading_of at.bytes).0 in
        record {
          seen = seen;
          before = before;
          came = at.came;
          outputs = IsOutputs-read (waiting now) (files now seen) before mid new read
              (subst (λ (f : List TraceRecord → List Output). IsOutputs (waiting now) (f seen)
              before mid) (sym at.files_stay) (at.outputs before on));
        }

    -- one piece more was read, and its records were put
    pub at_next : (first now later : A) (cursor next : Reached) (old mid read new : Outside)
        → (at : IsAt waiting files has name first now cursor old mid)
        → HasRead mid read
        → (on : GoesOn mid read name unfiltered at.bytes next)
        → files later ≡ files now
        → ((seen : List TraceRecord) → has now seen → has later (seen ++ next.items))
        → ((seen : List TraceRecord) (b : Outside) → has now seen
        → IsOutputs (waiting now) (files now seen) b read
        → IsOutputs (waiting later) (files now (seen ++ next.items)) b new)
        → Narrows read.held new.held → new.given ≡ read.given
        → IsAt waiting files has name first later next old new
    at_next first now later cursor next old mid read new at reads on files_stay came outputs narrow
        gives =
        let seen = (reading_of at.bytes).0 in
        let put : (b : Outside) → IsOutputs (waiting first) (files first []) b old
        → IsOutputs (waiting later) (files first (seen ++ next.items)) b new =
        λ b is. subst (λ (f : List TraceRecord → List Output). IsOutputs (waiting later)
        (f (seen ++ next.items)) b new) at.files_stay
        (outputs seen b at.came (IsOutputs-read (waiting now) (files now seen) b mid read reads
        (subst (λ (f : List TraceRecord → List Output). IsOutputs (waiting now) (f seen) b mid)
        (sym at.files_stay) (at.outputs b is)))) in
        record {
          bytes = at.bytes ++ on.more;
          come = come_still read.held new.held name (at.bytes ++ on.more) next narrow on.come;
          front = subst (HasReadFront name (at.bytes ++ on.more) old.given) (sym gives)
              (on.front old.given at.front);
          narrow = narrows_then old.held mid.held new.held at.narrow
              (narrows_then mid.held read.held new.held reads.only.held narrow);
          files_stay = files_stay ∙ at.files_stay;
          came = subst (has later) (sym on.records) (came seen at.came);
          outputs = λ b is. subst (λ (l : List TraceRecord). IsOutputs (waiting later)
              (files first l) b new) (sym on.records) (put b is);
        }
