-- One of the files on their way, and the others beside it.
use Rattle.std.proofs.Common.{◌≡◌, ◌≢◌, ℕ, ◌<◌, ◌≤◌, zero, suc, List, [], ◌∷◌, ◌++◌, length, get_or}
use Rattle.std.proofs.Common.{Option, Some, None, take, true, false}
use Rattle.std.proofs.Common.{Result, Ok, Err, ◌⊎◌, OnOk, OnErr, IfErr, refl, sym, ap, ◌∙◌, subst}
use Rattle.std.proofs.Common.{inl, inr, arith}
use Rattle.std.specs.Prelude.{IsErrOf, IsErrAnd}
use Rattle.std.proofs.Math.ListN.{set}
use Rattle.std.proofs.Common.{length-set}
use Rattle.std.proofs.lemmas.Bool.{cases_Bool}
use Rattle.std.proofs.lemmas.Slice.Eq.{bytes_eq-Decides}
use Rattle.std.specs.Str.{bytes_eq}
use Rattle.std.proofs.Math.Seq.{map-set_same}
use Rattle.std.proofs.lemmas.List.{append-nil}
use Rattle.std.proofs.Math.Seq.{take-append_seam}
use Rattle.shelf.specs.Shelf.{Outside, Files, Known, Goes, HasCauseAt, ChangesAt, OnlyWrites}
use Rattle.shelf.specs.Shelf.{OnlyWritesAndReads, Rose}
use Rattle.shelf.specs.declared.shelf.ShelfError.{ShelfError}
use Rattle.shelf.specs.declared.shelf.ShelfError.TheVariants.{Failed, NoMemory}
use Rattle.shelf.specs.Files.{Output, BegunInOrder, RoseAmong, AreCut, AreWritten}
use Rattle.shelf.specs.OneFile.{Waiting, kept_of, AddsUp, Holds, IsBegun, Sunk, HoldsFront}
use Rattle.shelf.specs.OneFile.{LosesNothing, OthersStay, OthersStand}
use Rattle.shelf.specs.OnTheirWay.{names_of, IsNew, AreApart, AreBegun, AreSunk, IsOutputs}
use Rattle.shelf.specs.OnTheirWay.{NothingWaits, changed_at, waiting_with}
use Rattle.shelf.specs.Laws.Files.{Sunk-front, goes_by, goes_then, Others, output_names, HaveFronts}
use Rattle.shelf.specs.Laws.Files.{AreHeld, all_begun, front_at, front_name, held_whole}
use Rattle.shelf.specs.Laws.Files.{sunk_fronts, sunk_names}
use Rattle.shelf.specs.Laws.Known.{writes_alone, writes_both}
use Rattle.shelf.proofs.Lasting.{stays_then}

pub changed_not : (outputs : List Output) (place : ℕ) → changed_at outputs place (λ b. b) ≡ outputs
changed_not [] place = refl
changed_not (o ∷ outputs) zero = refl
changed_not (o ∷ outputs) (suc place) = ap (λ (l : List Output). o ∷ l) (changed_not outputs place)

-- a call that did its work on one file
pub record Moves (f after : Waiting) (g : List ℕ → List ℕ) (old new : Outside) : Type 0 where
  pub name : after.name ≡ f.name
  pub sunk : (bytes : List ℕ) → Sunk f bytes old → Sunk after (g bytes) new
  pub others : OthersStay f.name old new
  pub stand : OthersStand f.name old new
  pub faults : new.write_faults ≡ old.write_faults
  pub only : OnlyWrites old new

-- a call that gave up on one file
pub record Stops (f : Waiting) (g : List ℕ → List ℕ) (old new : Outside)
    (e : ShelfError) : Type 0 where
  pub front : (bytes : List ℕ) → Sunk f bytes old → HoldsFront f.name (g bytes) new
  pub others : OthersStay f.name old new
  pub stand : OthersStand f.name old new
  pub cause : HasCauseAt {T = Unit {0}} f.name old.write_faults new.write_faults (Err e)
  pub only : OnlyWrites old new

-- one file is written more, behind what was written before
pub only_then : (a b c : Outside) → OnlyWritesAndReads a b → OnlyWrites b c → OnlyWritesAndReads a c
only_then a b c first then = writes_both a b c first (writes_alone b c then)

same_error : (T : Type 0) (e f : ShelfError) → e ≡ f → IsErrOf {T = T} (Err e) f
same_error T e f same = ap (λ (x : ShelfError). let r : Result T ShelfError = Err x in r) same

other_error : (T : Type 0) (e f : ShelfError) → e ≢ f → IsErrOf {T = T} (Err e) f → ⊥
other_error T e f other is = other (cc)

-- ---- names

pub name_at : (files : List Waiting) (i : ℕ) (f after : Waiting) → get_or files i f ≡ f → after.name
    ≡ f.name
    → names_of (set files i after) ≡ names_of files
name_at files i f after is same = map-set_same (λ x. x.name) files i after f
    (same ∙ sym (ap (λ (x : Waiting). x.name) is))

-- a name that is none of the files' is not that of one of them
pub new_at : (name : List ℕ) (files : List Waiting) (i : ℕ) (f : Waiting) → i < length files
    → get_or files i f ≡ f
    → IsNew name (names_of files) → f.name ≢ name
new_at name [] i f below is new = absurd (omega arith)
new_at name (x ∷ files) zero f below is new = subst (λ (y : Waiting). y.name ≢ name) is new.0
new_at name (x ∷ files) (suc i) f below is new = new_at name files i f (omega arith) is new.1

pub begun_at : (files : List Waiting) (i : ℕ) (f : Waiting) (outside : Outside) → i < length files
    → get_or files i f ≡ f
    → AreBegun (names_of files) outside → IsBegun f.name outside
begun_at [] i f outside below is begun = absurd (omega arith)
begun_at (x ∷ files) zero f outside below is begun = subst (λ (y : Waiting). IsBegun y.name outside)
    is begun.0
begun_at (x ∷ files) (suc i) f outside below is begun = begun_at files i f outside
    (omega arith) is begun.1

pub new_append : (name last : List ℕ) (names : List (List ℕ)) → IsNew name (names ++ last ∷ [])
    → IsNew name names × (last ≢ name)
new_append name last [] new = (tt, new.0)
new_append name last (n ∷ names) new = let r = new_append name last names new.1 in
    ((new.0, r.0), r.1)

pub new_added : (name last : List ℕ) (names : List (List ℕ)) → IsNew name names → last ≢ name
    → IsNew name (names ++ last ∷ [])
new_added name last [] new other = (other, tt)
new_added name last (n ∷ names) new other = (new.0, new_added name last names new.1 other)

pub apart_added : (last : List ℕ) (names : List (List ℕ)) → AreApart names → IsNew last names
    → AreApart (names ++ last ∷ [])
apart_added last [] apart new = (tt, tt)
apart_added last (n ∷ names) apart new = (
  new_added n last names apart.0 (λ e. new.0 (sym e)),
  apart_added last names apart.1 new.1,
)

-- ---- what was put

pub begun_stays : (name : List ℕ) (names : List (List ℕ)) (old new : Outside)
    → OthersStand name old new → IsBegun name new
    → AreBegun names old → AreBegun names new
begun_stays name [] old new stand is begun = tt
begun_stays name (n ∷ names) old new stand is begun =
    let one : IsBegun n new =
    elim (cases_Bool (bytes_eq n name)) [
      | inl same ↦ subst (λ (x : List ℕ). IsBegun x new) (sym ((bytes_eq-Decides n name).0 same)) is
      | inr not_same ↦ stand.begun n (λ e. let both : true
          ≡ false = sym ((bytes_eq-Decides n name).1 e) ∙ not_same in cc) begun.0
    ] in
    (one, begun_stays name names old new stand is begun.1)

-- files of other names stand
pub all_stay : (name : List ℕ) (files : List Waiting) (outputs : List Output) (old new : Outside)
    → IsNew name (names_of files)
    → OthersStand name old new
    → AreSunk files outputs old → AreSunk files outputs new
all_stay name [] [] old new is stand sunk = tt
all_stay name [] (o ∷ outputs) old new is stand sunk = absurd sunk
all_stay name (f ∷ files) [] old new is stand sunk = absurd sunk
all_stay name (f ∷ files) (o ∷ outputs) old new is stand sunk = (
  sunk.0,
  stand.sunk f o.bytes is.0 sunk.1,
  all_stay name files outputs old new is.1 stand
      sunk.2,
)

sunk_moved : (f after : Waiting) (g : List ℕ → List ℕ) (old new : Outside) → Moves f after g old new
    → (files : List Waiting) (i : ℕ)
    → i < length files → get_or files i f ≡ f
    → AreApart (names_of files) → (outputs : List Output) → AreSunk files outputs old
    → AreSunk (set files i after) (changed_at outputs i g) new
sunk_moved f after g old new moves [] i below is apart outputs sunk = absurd (omega arith)
sunk_moved f after g old new moves (x ∷ files) i below is apart [] sunk = absurd sunk
sunk_moved f after g old new moves (x ∷ files) zero below is apart (o ∷ outputs) sunk =
    let name : after.name ≡ o.name = moves.name ∙ sym (ap (λ (y : Waiting). y.name) is) ∙ sunk.0 in
    let put : Sunk f o.bytes old = subst (λ (y : Waiting). Sunk y o.bytes old) is sunk.1 in
    let new_name : IsNew f.name (names_of files) =
    subst (λ (y : Waiting). IsNew y.name (names_of files)) is apart.0 in (
      name,
      moves.sunk o.bytes put,
      all_stay f.name files outputs old new new_name moves.stand
          sunk.2,
    )
sunk_moved f after g old new moves (x ∷ files) (suc i) below is apart (o ∷ outputs) sunk =
    let other : f.name ≢ x.name = new_at x.name files i f (omega arith) is apart.0 in (
      sunk.0,
      moves.stand.sunk x o.bytes (λ e. other (sym e)) sunk.1,
      sunk_moved f after g old new moves files i (omega arith) is apart.1
          outputs sunk.2,
    )

-- one file moves on, and all are on their way
pub outputs_moved : (f after : Waiting) (g : List ℕ → List ℕ) (old new : Outside)
    → Moves f after g old new
    → (files : List Waiting) (i : ℕ) → i < length files → get_or files i f ≡ f
    → AreApart (names_of files) → (outputs : List Output) (before : Outside)
    → IsOutputs files outputs before old
    → IsOutputs (set files i after) (changed_at outputs i g) before new
outputs_moved f after g old new moves files i below is apart outputs before on = record {
  sunk = sunk_moved f after g old new moves files i below is apart outputs on.sunk;
  others = goes_then (Others (names_of files)) (λ b n. (m : List ℕ) → m ≢ f.name → n m ≡ b m)
      (Others (names_of (set files i after)))
      before.written old.written new.written
      (λ x y z p q name fresh.
      let so : IsNew name (names_of files) = subst (λ (l : List (List ℕ)). IsNew name l)
      (name_at files i f after is moves.name) fresh
      in
      q name (λ e. new_at name files i f below is so (sym e)) ∙ p name so) on.others moves.others;
  faults = moves.faults ∙ on.faults;
  only = only_then before old new on.only moves.only;
}

-- ---- where a call gave up

fronts_moved : (f : Waiting) (g : List ℕ → List ℕ) (old new : Outside) (r : ShelfError)
    → Stops f g old new r → (n : Files) → new.written ≡ Some n
    → (files : List Waiting) (i : ℕ) → i < length files → get_or files i f ≡ f
    → AreApart (names_of files) → (outputs : List Output)
    → AreSunk files outputs old
    → HaveFronts (changed_at outputs i g) n
fronts_moved f g old new r stops n stated [] i below is apart outputs sunk = absurd (omega arith)
fronts_moved f g old new r stops n stated (x ∷ files) i below is apart [] sunk = absurd sunk
fronts_moved f g old new r stops n stated (x ∷ files) zero below is apart (o ∷ outputs) sunk =
    let name : f.name ≡ o.name = sym (ap (λ (y : Waiting). y.name) is) ∙ sunk.0 in
    let put : Sunk f o.bytes old = subst (λ (y : Waiting). Sunk y o.bytes old) is sunk.1 in
    let new_name : IsNew f.name (names_of files) =
    subst (λ (y : Waiting). IsNew y.name (names_of files)) is apart.0 in (
      front_at o.name (g o.bytes) new n stated
          (subst (λ (m : List ℕ). HoldsFront m (g o.bytes) new) name (stops.front o.bytes put)),
      sunk_fronts files outputs new n stated
          (all_stay f.name files outputs old new new_name stops.stand sunk.2),
    )
fronts_moved f g old new r stops n stated (x ∷ files) (suc i) below is apart (o ∷ outputs) sunk =
    let other : f.name ≢ x.name = new_at x.name files i f (omega arith) is apart.0 in
    let stays : Sunk x o.bytes new = stops.stand.sunk x o.bytes (λ e. other (sym e)) sunk.1 in (
      front_at o.name o.bytes new n stated
          (subst (λ (m : List ℕ). HoldsFront m o.bytes new) sunk.0
          (Sunk-front x o.bytes new stays)),
      fronts_moved f g old new r stops n stated files i (omega arith) is apart.1 outputs sunk.2,
    )

rose_at : (f : Waiting) (g : List ℕ → List ℕ) (before now : List ℕ → ℕ) (old : Outside)
    → Rose (before f.name) (now f.name)
    → (files : List Waiting) (i : ℕ) → i < length files → get_or files i f ≡ f
    → (outputs : List Output) → AreSunk files outputs old
    → RoseAmong (changed_at outputs i g) before now
rose_at f g before now old rose [] i below is outputs sunk = absurd (omega arith)
rose_at f g before now old rose (x ∷ files) i below is [] sunk = absurd sunk
rose_at f g before now old rose (x ∷ files) zero below is (o ∷ outputs) sunk =
    let name : f.name ≡ o.name = sym (ap (λ (y : Waiting). y.name) is) ∙ sunk.0 in
    inl (subst (λ (n : List ℕ). Rose (before n) (now n)) name rose)
rose_at f g before now old rose (x ∷ files) (suc i) below is (o ∷ outputs) sunk = inr
    (rose_at f g before now old rose files i (omega arith) is outputs sunk.2)

changed_names : (outputs : List Output) (i : ℕ) (g : List ℕ → List ℕ)
    → output_names (changed_at outputs i g) ≡ output_names outputs
changed_names [] i g = refl
changed_names (o ∷ outputs) zero g = refl
changed_names (o ∷ outputs) (suc i) g = ap (λ (l : List (List ℕ)). o.name ∷ l)
    (changed_names outputs i g)

-- one file is cut, and all the others stand
pub outputs_stopped : (f : Waiting) (g : List ℕ → List ℕ) (old new : Outside) (r : ShelfError)
    → Stops f g old new r
    → (files : List Waiting) (i : ℕ) → i < length files
    → get_or files i f ≡ f → AreApart (names_of files) → (outputs : List Output) (before : Outside)
    → IsOutputs files outputs before old
    → AreCut (changed_at outputs i g) before new r
outputs_stopped f g old new r stops files i below is apart outputs before on =
    let names : output_names (changed_at outputs i g) ≡ names_of files = changed_names outputs i g
    ∙ sunk_names files outputs old
    on.sunk in
    let goes : Goes before.written new.written (Others (names_of files)) =
    goes_then (Others (names_of files)) (λ b n. (m : List ℕ) → m ≢ f.name → n m ≡ b m)
    (Others (names_of files)) before.written old.written new.written
    (λ x y z p q name so. q name (λ e. new_at name files i f below is so (sym e)) ∙ p name so)
    on.others stops.others in
    let same : old.write_faults ≡ before.write_faults = on.faults in
    let cause : HasCauseAt {T = Unit {0}} f.name before.write_faults new.write_faults (Err r) =
    subst
    (λ (h : List ℕ → ℕ). HasCauseAt {T = Unit {0}} f.name h new.write_faults (Err r)) same
    stops.cause in
    record {
      begun = goes_by (Others (names_of files)) (BegunInOrder (changed_at outputs i g))
          before.written new.written
          (λ b n stated there others. all_begun (changed_at outputs i g) b n
          (fronts_moved f g old new r stops n there files i below is apart outputs on.sunk)
          (subst (λ (l : List (List ℕ)). Others l b n) (sym names) others)) goes;
      cause = record {
        later = cause.later;
        failed = λ e. rose_at f g before.write_faults new.write_faults old
            (cause.failed (same_error (Unit {0}) r Failed e)) files i
            below is outputs on.sunk;
        quiet = λ other. cause.quiet (other_error (Unit {0}) r Failed other);
      };
      only = only_then before old new on.only stops.only;
    }

-- ---- all is written

held_known : (name kept bytes : List ℕ) (written : Option Files) → kept ≡ []
    → Known written (AddsUp (record { name = name; kept = kept }) bytes)
    → Known written (λ files. files name ≡ Some bytes)
held_known name kept bytes None none sunk = tt
held_known name kept bytes (Some files) none sunk =
    let all : sunk.0 ++ [] ≡ bytes = subst (λ (l : List ℕ). sunk.0 ++ l ≡ bytes) none sunk.2 in
    sunk.1 ∙ ap (λ (l : List ℕ). Some l) (sym (append-nil sunk.0) ∙ all)

all_held : (files : List Waiting) (outputs : List Output) (outside : Outside) → NothingWaits files
    → AreSunk files outputs outside
    → AreHeld outputs outside
all_held files [] outside nothing sunk = tt
all_held [] (o ∷ outputs) outside nothing sunk = absurd sunk
all_held (f ∷ files) (o ∷ outputs) outside nothing sunk = (
  subst (λ (n : List ℕ). Holds n o.bytes outside) sunk.0
      (held_known f.name f.kept o.bytes outside.written nothing.0 sunk.1),
  all_held
      files outputs outside nothing.1 sunk.2,
)

pub outputs_written : (files : List Waiting) (outputs : List Output) (before now : Outside)
    → NothingWaits files
    → IsOutputs files outputs before now → AreWritten outputs before now
outputs_written files outputs before now nothing on = record {
  whole = held_whole outputs before now (subst
      (λ (l : List (List ℕ)). Goes before.written now.written (Others l))
      (sym (sunk_names files outputs now on.sunk)) on.others)
      (all_held files outputs now nothing on.sunk);
  faults = on.faults;
  only = on.only;
}

-- ---- a call by its answer

pub moves_ok : {T : Type 0} (f after : Waiting) (g : List ℕ → List ℕ) (old new : Outside)
    (r : Result T ShelfError)
    → OnOk r ((bytes : List ℕ) → Sunk f bytes old → Sunk after (g bytes) new)
    → after.name ≡ f.name → OthersStay f.name old new → OthersStand f.name old new
    → HasCauseAt f.name old.write_faults new.write_faults r → OnlyWrites old new
    → OnOk r (Moves f after g old new)
moves_ok f after g old new (Ok x) sunk name others stand cause only = record {
  name = name;
  sunk = sunk;
  others = others;
  stand = stand;
  faults = cause.quiet (λ e. cc);
  only = only;
}
moves_ok f after g old new (Err e) sunk name others stand cause only = tt

pub stops_err : (f : Waiting) (g : List ℕ → List ℕ) (old new : Outside)
    (r : Result (Unit {0}) ShelfError)
    → OnErr r ((bytes : List ℕ) → Sunk f bytes old → HoldsFront f.name (g bytes) new)
    → OthersStay f.name old new → OthersStand f.name old new
    → HasCauseAt f.name old.write_faults new.write_faults r
    → OnlyWrites old new → IfErr r (λ e. Stops f g old new e)
stops_err f g old new (Ok x) front others stand cause only = tt
stops_err f g old new (Err e) front others stand cause only = record
    { front = front; others = others; stand = stand; cause = cause; only = only }

waiting_of : (w : Waiting) (name kept : List ℕ) → w.name ≡ name → w.kept ≡ kept → w
    ≡ record { name = name; kept = kept }
waiting_of w name kept p q =
    ap (λ (n : List ℕ). let r : Waiting = record { name = n; kept = w.kept } in r) p ∙ ap
    (λ (k : List ℕ). let r : Waiting = record { name = name; kept = k } in r) q

-- what waits after a put
pub waits_at : (files : List Waiting) (i : ℕ) (f after : Waiting) (bytes : List ℕ)
    → i < length files → get_or files i f ≡ f
    → after.name ≡ f.name → after.kept ≡ kept_of (f.kept ++ bytes)
    → set files i after ≡ waiting_with files i bytes
waits_at [] i f after bytes below is name kept = absurd (omega arith)
waits_at (x ∷ files) zero f after bytes below is name kept =
    let same : after ≡ record f { kept = kept_of (f.kept ++ bytes) } = waiting_of after f.name
    (kept_of (f.kept ++ bytes)) name kept in
    ap (λ (w : Waiting). w ∷ files) (same
    ∙ ap (λ (w : Waiting). let r : Waiting = record w { kept = kept_of (w.kept ++ bytes) } in r)
    (sym is))
waits_at (x ∷ files) (suc i) f after bytes below is name kept = ap (λ (l : List Waiting). x ∷ l)
    (waits_at files i f after bytes (omega arith) is name kept)

-- ---- each file in turn

-- of the first so many files nothing waits
abbrev pub FirstDone : ℕ → List Waiting → Type 0
FirstDone zero files = Unit {0}
FirstDone (suc i) [] = Unit {0}
FirstDone (suc i) (f ∷ files) = (f.kept ≡ []) × FirstDone i files

pub done_more : (files : List Waiting) (i : ℕ) (after : Waiting) → after.kept ≡ []
    → FirstDone i files
    → FirstDone (suc i) (set files i after)
done_more [] i after none done = tt
done_more (x ∷ files) zero after none done = (none, tt)
done_more (x ∷ files) (suc i) after none done = (done.0, done_more files i after none done.1)

pub done_all : (files : List Waiting) → FirstDone (length files) files → NothingWaits files
done_all [] done = tt
done_all (f ∷ files) done = (done.0, done_all files done.1)

-- the first so many files are whole, and all are on their way
pub record FinishedTo (first now : List Waiting) (place : ℕ) (old new : Outside) : Type 0 where
  pub names : names_of now ≡ names_of first
  pub long : length now ≡ length first
  pub begun : AreBegun (names_of now) new
  pub outputs : (outputs : List Output) (before : Outside) → IsOutputs first outputs before old
      → IsOutputs now outputs before new
  pub keeps_held : new.held ≡ old.held
  pub gives : new.given ≡ old.given
  pub done : FirstDone place now
  pub stays : LosesNothing old new

-- ---- one file more

names_added : (files : List Waiting) (f : Waiting) → names_of (files ++ f ∷ [])
    ≡ names_of files ++ f.name ∷ []
names_added [] f = refl
names_added (x ∷ files) f = ap (λ (l : List (List ℕ)). x.name ∷ l) (names_added files f)

output_names_added : (outputs : List Output) (o : Output) → output_names (outputs ++ o ∷ [])
    ≡ output_names outputs ++ o.name ∷ []
output_names_added [] o = refl
output_names_added (x ∷ outputs) o = ap (λ (l : List (List ℕ)). x.name ∷ l)
    (output_names_added outputs o)

sunk_added : (files : List Waiting) (outputs : List Output) (f : Waiting) (o : Output)
    (outside : Outside)
    → AreSunk files outputs outside → f.name ≡ o.name → Sunk f o.bytes outside
    → AreSunk (files ++ f ∷ []) (outputs ++ o ∷ []) outside
sunk_added [] [] f o outside sunk same last = (same, last, tt)
sunk_added [] (x ∷ outputs) f o outside sunk same last = absurd sunk
sunk_added (y ∷ files) [] f o outside sunk same last = absurd sunk
sunk_added (y ∷ files) (x ∷ outputs) f o outside sunk same last =
    (sunk.0, sunk.1, sunk_added files outputs f o outside sunk.2 same last)

-- a file that was begun
pub record IsBegunFile (f : Waiting) (old new : Outside) : Type 0 where
  pub sunk : Sunk f [] new
  pub others : OthersStay f.name old new
  pub stand : OthersStand f.name old new
  pub faults : new.write_faults ≡ old.write_faults
  pub only : OnlyWrites old new

pub apart_more : (files : List Waiting) (f : Waiting) → IsNew f.name (names_of files)
    → AreApart (names_of files)
    → AreApart (names_of (files ++ f ∷ []))
apart_more files f new apart = subst AreApart (sym (names_added files f))
    (apart_added f.name (names_of files) apart new)

pub outputs_begun : (f : Waiting) (files : List Waiting) (outputs : List Output)
    (before old new : Outside)
    → IsNew f.name (names_of files) → IsBegunFile f old new → IsOutputs files outputs before old
    → IsOutputs (files ++ f ∷ []) (outputs ++ record { name = f.name; bytes = [] } ∷ []) before new
outputs_begun f files outputs before old new is begins on = record {
  sunk = sunk_added files outputs f (record { name = f.name; bytes = [] }) new
      (all_stay f.name files outputs old new is begins.stand on.sunk) refl begins.sunk;
  others = goes_then (Others (names_of files)) (λ b n. (m : List ℕ) → m ≢ f.name → n m ≡ b m)
      (Others (names_of (files ++ f ∷ [])))
      before.written old.written new.written
      (λ x y z p q name fresh.
      let both : IsNew name (names_of files) × (f.name ≢ name) = new_append name f.name
      (names_of files)
      (subst (λ (l : List (List ℕ)). IsNew name l) (names_added files f) fresh) in
      q name (λ e. both.1 (sym e)) ∙ p name both.0) on.others begins.others;
  faults = begins.faults ∙ on.faults;
  only = only_then before old new on.only begins.only;
}

begun_added : (names : List (List ℕ)) (last : List ℕ) (outside : Outside) → AreBegun names outside
    → IsBegun last outside
    → AreBegun (names ++ last ∷ []) outside
begun_added [] last outside begun is = (is, tt)
begun_added (n ∷ names) last outside begun is = (begun.0, begun_added names last outside begun.1 is)

pub begun_more : (files : List Waiting) (f : Waiting) (old new : Outside)
    → OthersStand f.name old new → IsBegun f.name new
    → AreBegun (names_of files) old → AreBegun (names_of (files ++ f ∷ [])) new
begun_more files f old new stand is begun =
    subst (λ (l : List (List ℕ)). AreBegun l new) (sym (names_added files f))
    (begun_added (names_of files) f.name new
    (begun_stays f.name (names_of files) old new stand is begun) is)

pub begun_moved : (files : List Waiting) (i : ℕ) (f after : Waiting) (old new : Outside)
    → get_or files i f ≡ f → after.name ≡ f.name
    → OthersStand f.name old new → IsBegun f.name new
    → AreBegun (names_of files) old → AreBegun (names_of (set files i after)) new
begun_moved files i f after old new at name stand is begun =
    subst (λ (l : List (List ℕ)). AreBegun l new) (sym (name_at files i f after at name))
    (begun_stays f.name (names_of files) old new stand is begun)

fronts_added : (outputs : List Output) (o : Output) (n : Files) → HaveFronts outputs n
    → (k : ℕ) × (n o.name ≡ Some (take k o.bytes)) → HaveFronts (outputs ++ o ∷ []) n
fronts_added [] o n fronts last = (last, tt)
fronts_added (x ∷ outputs) o n fronts last = (fronts.0, fronts_added outputs o n fronts.1 last)

rose_added : (outputs : List Output) (o : Output) (f g : List ℕ → ℕ) → Rose (f o.name) (g o.name)
    → RoseAmong (outputs ++ o ∷ []) f g
rose_added [] o f g rose = inl rose
rose_added (x ∷ outputs) o f g rose = inr (rose_added outputs o f g rose)

-- a name that may have been made empty, or is as it was
abbrev MayBegin : List ℕ → Files → Files → Type 0
MayBegin name old new = ChangesAt name (λ was now. (now ≡ was) ⊎ (now ≡ Some [])) old new

-- the name was left alone: it is none of those that are begun
not_begun : (name : List ℕ) (names : List (List ℕ)) (b o n : Files) → Others names b o
    → MayBegin name o n → n name ≡ o name → Others names b n
not_begun name names b o n others change same m new =
    let kept : n m ≡ o m = elim (cases_Bool (bytes_eq m name)) [
      | inl is ↦ subst (λ (x : List ℕ). n x ≡ o x) (sym ((bytes_eq-Decides m name).0 is)) same
      | inr is ↦ change.others m (λ e. let both : true ≡ false = sym ((bytes_eq-Decides m name).1 e)
          ∙ is in cc)
    ] in
    kept ∙ others m new

-- where the begin of a file gave up, the earlier ones are begun, or it is too
begun_or_last : (last : Output) (outputs : List Output) (b o n : Files)
    → Others (output_names outputs) b o → MayBegin last.name o n → HaveFronts outputs n
    → BegunInOrder (outputs ++ last ∷ []) b n
begun_or_last last outputs b o n others change fronts =
    elim change.here [
      | inl same ↦ (
        length outputs,
        λ m. rw (take-append_seam outputs (last ∷ [])) (front_name outputs m b n fronts
            (not_begun last.name (output_names outputs) b o n others change same m)),
      )
      | inr empty ↦ all_begun (outputs ++ last ∷ []) b n
          (fronts_added outputs last n fronts (0, empty)) (λ m fresh.
          let both = new_append m last.name (output_names outputs)
          (subst (λ (l : List (List ℕ)). IsNew m l) (output_names_added outputs last) fresh) in
          change.others m (λ e. both.1 (sym e)) ∙ others m both.0)
    ]

pub begin_cut : {T : Type 0} (name : List ℕ) (files : List Waiting) (outputs : List Output)
    (before old new : Outside) (r : ShelfError)
    → IsNew name (names_of files)
    → Goes old.written new.written (ChangesAt name (λ was now. (now ≡ was) ⊎ (now ≡ Some [])))
    → OthersStand name old new
    → HasCauseAt {T = T} name old.write_faults new.write_faults (Err r) → OnlyWrites old new
    → IsOutputs files outputs before old → AreCut
    (outputs ++ record { name = name; bytes = [] } ∷ []) before new r
begin_cut {T = T} name files outputs before old new r is begins stand cause only on =
    let last : Output = record { name = name; bytes = [] } in
    let Both : Files → Files → Type 0 = λ b n. (o : Files) × Others (names_of files) b o
    × MayBegin name o n in
    let goes : Goes before.written new.written Both =
    goes_then (Others (names_of files)) (MayBegin name) Both before.written old.written new.written
    (λ x y z p q. (y, p, q)) on.others begins in
    let since : HasCauseAt {T = T} name before.write_faults new.write_faults (Err r) = subst
    (λ (h : List ℕ → ℕ). HasCauseAt {T = T} name h new.write_faults (Err r)) on.faults cause in
    record {
      begun = goes_by Both (BegunInOrder (outputs ++ last ∷ [])) before.written new.written
          (λ b n i j both. begun_or_last last outputs b both.0 n
          (subst (λ (l : List (List ℕ)). Others l b both.0)
          (sym (sunk_names files outputs old on.sunk)) both.1) both.2
          (sunk_fronts files outputs new n j
          (all_stay name files outputs old new is stand on.sunk))) goes;
      cause = record {
        later = since.later;
        failed = λ e. rose_added outputs last before.write_faults new.write_faults
            (since.failed (same_error T r Failed e));
        quiet = λ other. since.quiet (other_error T r Failed other);
      };
      only = only_then before old new on.only only;
    }

pub begun_file : (f sink : Waiting) (old new : Outside) → sink ≡ f → Sunk sink [] new
    → OthersStay f.name old new
    → OthersStand f.name old new
    → HasCauseAt f.name old.write_faults new.write_faults (Ok sink) → OnlyWrites old new
    → IsBegunFile f old new
begun_file f sink old new same sunk others stand cause only =
    record {
      sunk = subst (λ (w : Waiting). Sunk w [] new) same sunk;
      others = others;
      stand = stand;
      faults = cause.quiet (λ e. cc);
      only = only;
    }

-- an answer whose only error is want of memory
pub only_memory : {T : Type 0} (P : ShelfError → Type 0) (r : Result T ShelfError)
    → IsErrAnd r (λ e. e ≡ NoMemory) → P NoMemory
    → IfErr r P
only_memory P (Ok x) is p = tt
only_memory P (Err x) is p = subst P (sym is) p

pub finished_more : (first files : List Waiting) (i : ℕ) (f after : Waiting) (old mid new : Outside)
    → FinishedTo first files i old mid
    → AreApart (names_of first) → i < length files → get_or files i f ≡ f
    → Moves f after (λ put. put) mid new → IsBegun f.name new → after.kept ≡ []
    → LosesNothing mid new → FinishedTo first (set files i after) (suc i) old new
finished_more first files i f after old mid new finished apart below is moves begun none stays =
    let named : names_of (set files i after)
    ≡ names_of files = name_at files i f after is moves.name in
    record {
      names = named ∙ finished.names;
      long = length-set files i after ∙ finished.long;
      begun = subst (λ (l : List (List ℕ)). AreBegun l new) (sym named)
          (begun_stays f.name (names_of files) mid new moves.stand begun finished.begun);
      outputs = λ outputs before on.
          subst (λ (l : List Output). IsOutputs (set files i after) l before new)
          (changed_not outputs i)
          (outputs_moved f after (λ put. put) mid new moves files i below is
          (subst AreApart (sym finished.names) apart) outputs before
          (finished.outputs outputs before on));
      keeps_held = moves.only.held ∙ finished.keeps_held;
      gives = moves.only.given ∙ finished.gives;
      done = done_more files i after none finished.done;
      stays = stays_then old mid new finished.stays stays;
    }

pub finished_stops : (first files : List Waiting) (i : ℕ) (f : Waiting) (old mid new : Outside)
    (r : ShelfError)
    → FinishedTo first files i old mid → AreApart (names_of first)
    → i < length files → get_or files i f ≡ f → Stops f (λ put. put) mid new r
    → (outputs : List Output) (before : Outside)
    → IsOutputs first outputs before old → AreCut outputs before new r
finished_stops first files i f old mid new r finished apart below is stops outputs before on =
    subst (λ (l : List Output). AreCut l before new r) (changed_not outputs i)
    (outputs_stopped f (λ put. put) mid new r stops files i below is
    (subst AreApart (sym finished.names) apart) outputs before
    (finished.outputs outputs before on))

pub finished_all : (first files : List Waiting) (i : ℕ) (old new : Outside)
    → FinishedTo first files i old new → length first ≤ i
    → i ≤ length first → NothingWaits files
finished_all first files i old new finished above below =
    let same : i ≡ length files = omega (arith, finished.long) in
    done_all files (subst (λ (n : ℕ). FirstDone n files) same finished.done)
