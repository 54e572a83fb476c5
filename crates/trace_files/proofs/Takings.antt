-- The records of a piece, on their way to the file of a moved trace.
use Rattle.std.proofs.Common.{◌≡◌, ℕ, ◌+◌, ◌<◌, Bool, true, false, not, List, [], ◌∷◌}
use Rattle.std.proofs.Common.{◌++◌, length, cond, take, drop, get_or, Option, Some, None, refl, sym, ap}
use Rattle.std.proofs.Common.{◌∙◌, subst, arith, append-nil, append_assoc, find, inl, inr}
use Rattle.std.proofs.lemmas.Bool.{cases_Bool}
use Rattle.std.specs.Prelude.{◌||◌, if◌then◌else◌, is_some}
use Rattle.std.specs.List.{list_any, take_while}
use Rattle.std.specs.Option.{option_and_then, option_or}
use Rattle.std.proofs.lemmas.List.{take-append-drop}
use Rattle.std.proofs.lemmas.List.Folds.{find-append}
use Rattle.std.proofs.lemmas.List.Sums.{take_while-cons}
use Rattle.shelf.specs.Shelf.{Outside}
use Rattle.shelf.specs.declared.shelf.ShelfError.{ShelfError}
use Rattle.shelf.specs.declared.shelf.ShelfError.TheVariants as errors
use Rattle.shelf.specs.Files.{AreCut, AreWritten}
use Rattle.trace_format.specs.declared.record.Header.{Header}
use Rattle.trace_format.specs.declared.record.TraceRecord.{TraceRecord}
use Rattle.trace_format.specs.declared.record.TraceRecord.TheVariants as records
use Rattle.trace_format.specs.declared.record.Version.{Version}
use Rattle.trace_format.specs.Laws.Counts.{touches_in-front}
use Rattle.trace_format.specs.Rules.{touches_in}
use Rattle.trace_files.specs.declared.move_fault.MoveFault.{MoveFault}
use Rattle.trace_files.specs.declared.move_fault.MoveFault.TheVariants as faults
use Rattle.trace_files.specs.declared.move_row.Move.{Move}
use Rattle.trace_files.specs.declared.mover.Mover.{Mover}
use Rattle.trace_files.specs.Movers.{Follows, HasMoved, IsCutAt, IsHeldUp, MayPut, MayTake, StopsAt}
use Rattle.trace_files.specs.Movers.{write_fault}
use Rattle.trace_files.specs.Moves.{is_taken}
use Rattle.trace_files.specs.Moving.{access_fault, before_the_first, first_fault, is_at_fault}
use Rattle.trace_files.specs.Moving.{moved_so_far, near_of, record_fault}
use Rattle.trace_files.specs.NearMoves.{is_far}
use Rattle.trace_files.proofs.Lookups.{any_find}
use Rattle.trace_files.proofs.Movings.{free_more}
use Rattle.trace_files.proofs.Readings.{seen_more}

-- ---- the first that is in the way

of_test : {X : Type 0} (o : Option X) → is_some o ≡ false → o ≡ None
of_test None is = refl
of_test (Some x) is = absurd cc

pub neither_passes : (a b : Bool) → (a || b) ≡ false → (a ≡ false) × (b ≡ false)
neither_passes true b is = absurd cc
neither_passes false b is = (refl, is)

none_found : {X : Type 0} (p : X → Bool) (xs : List X) → list_any p xs ≡ false → find p xs ≡ None
none_found p xs none = of_test (find p xs) (sym (any_find p xs) ∙ none)

pub front_free : (p : TraceRecord → Bool) (xs ys : List TraceRecord) → list_any p xs ≡ false
    → take_while (λ x. not (p x)) (xs ++ ys) ≡ xs ++ take_while (λ x. not (p x)) ys
front_free p [] ys none = refl
front_free p (x ∷ xs) ys none =
    let parts = neither_passes (p x) (list_any p xs) none in
    take_while-cons (λ y. not (p y)) x (xs ++ ys)
    ∙ ap (λ (b : Bool). cond (not b) (x ∷ take_while (λ y. not (p y)) (xs ++ ys)) []) parts.0
    ∙ ap (λ (l : List TraceRecord). x ∷ l) (front_free p xs ys parts.1)

pub all_free : (p : TraceRecord → Bool) (xs : List TraceRecord) → list_any p xs ≡ false
    → take_while (λ x. not (p x)) xs ≡ xs
all_free p xs none =
    ap (take_while (λ x. not (p x))) (sym (append-nil xs)) ∙ front_free p xs [] none
    ∙ append-nil xs

stops_first : (p : TraceRecord → Bool) (x : TraceRecord) (ys : List TraceRecord) → p x ≡ true
    → take_while (λ y. not (p y)) (x ∷ ys) ≡ []
stops_first p x ys is =
    take_while-cons (λ y. not (p y)) x ys
    ∙ ap (λ (b : Bool). cond (not b) (x ∷ take_while (λ y. not (p y)) ys) []) is

-- what comes behind the first one changes nothing
front_stays : (p : TraceRecord → Bool) (xs ys : List TraceRecord) → list_any p xs ≡ true
    → take_while (λ x. not (p x)) (xs ++ ys) ≡ take_while (λ x. not (p x)) xs
front_stays p [] ys some = absurd cc
front_stays p (x ∷ xs) ys some = elim (cases_Bool (p x)) [
  | inl here ↦ stops_first p x (xs ++ ys) here ∙ sym (stops_first p x xs here)
  | inr other ↦
      let rest : list_any p xs ≡ true = ap (λ (b : Bool). b || list_any p xs) (sym other) ∙ some in
      take_while-cons (λ y. not (p y)) x (xs ++ ys)
      ∙ ap (λ (b : Bool). cond (not b) (x ∷ take_while (λ y. not (p y)) (xs ++ ys)) []) other
      ∙ ap (λ (l : List TraceRecord). x ∷ l) (front_stays p xs ys rest)
      ∙ sym (take_while-cons (λ y. not (p y)) x xs
      ∙ ap (λ (b : Bool). cond (not b) (x ∷ take_while (λ y. not (p y)) xs) []) other)
]

pub none_in_front : (near : ℕ) (table : List Move) (all more : List TraceRecord)
    → list_any (is_at_fault near table) all ≡ false
    → first_fault near table (all ++ more) ≡ first_fault near table more
none_in_front near table all more none =
    ap (option_and_then (record_fault near table)) (find-append (is_at_fault near table) all more
    ∙ ap (λ (o : Option TraceRecord). option_or o (find (is_at_fault near table) more))
    (none_found (is_at_fault near table) all none))

pub none_at_fault : (near : ℕ) (table : List Move) (all : List TraceRecord)
    → list_any (is_at_fault near table) all ≡ false → first_fault near table all ≡ None
none_at_fault near table all none =
    ap (option_and_then (record_fault near table)) (none_found (is_at_fault near table) all none)

some_found : (f : TraceRecord → Option MoveFault) (o q : Option TraceRecord) (fault : MoveFault)
    → option_and_then f o ≡ Some fault
    → (option_and_then f (option_or o q) ≡ Some fault) × (is_some o ≡ true)
some_found f None q fault is = absurd cc
some_found f (Some x) q fault is = (is, refl)

-- the first one stays
pub first_stays : (near : ℕ) (table : List Move) (all more : List TraceRecord) (fault : MoveFault)
    → first_fault near table all ≡ Some fault → first_fault near table (all ++ more) ≡ Some fault
first_stays near table all more fault is =
    let p = is_at_fault near table in
    ap (option_and_then (record_fault near table)) (find-append p all more)
    ∙ (some_found (record_fault near table) (find p all) (find p more) fault is).0

pub front_same : (near : ℕ) (table : List Move) (all more : List TraceRecord) (fault : MoveFault)
    → first_fault near table all ≡ Some fault
    → before_the_first near table (all ++ more) ≡ before_the_first near table all
front_same near table all more fault is =
    let p = is_at_fault near table in
    let found = some_found (record_fault near table) (find p all) (find p more) fault is in
    front_stays p all more (any_find p all ∙ found.1)

-- ---- where it gives up

pub stops_by : (table : List Move) (name : List ℕ) (head : Option (Version × Header))
    (all : List TraceRecord) (before now : Outside) (error : ShelfError)
    → IsCutAt table name head all before now error
    → StopsAt table name head all before now (write_fault error)
stops_by table name head all before now errors.Failed cut = cut
stops_by table name head all before now errors.NoMemory cut = cut

cut_on : (table : List Move) (name : List ℕ) (head : Option (Version × Header))
    (all more : List TraceRecord) (before now : Outside) (error : ShelfError)
    → IsCutAt table name head all before now error
    → IsCutAt table name head (all ++ more) before now error
cut_on table name head all more before now error cut = record {
  put = cut.put;
  more = cut.more ++ more;
  free = cut.free;
  first = ap (λ (l : List TraceRecord). l ++ more) cut.first
      ∙ append_assoc cut.put cut.more more;
  cut = cut.cut;
}

held_up_on : (table : List Move) (name : List ℕ) (head : Option (Version × Header))
    (all more : List TraceRecord) (before now : Outside) (fault : MoveFault)
    → IsHeldUp table name head all before now fault
    → IsHeldUp table name head (all ++ more) before now fault
held_up_on table name head all more before now fault held =
    let near = near_of head in record {
      first = first_stays near table all more fault held.first;
      written = subst (λ (l : List TraceRecord). AreWritten (moved_so_far table name head l) before
          now) (sym (front_same near table all more fault held.first)) held.written;
      cut = cut_on table name head all more before now errors.NoMemory held.cut;
    }

-- more records that were to be put change nothing
pub stops_on : (table : List Move) (name : List ℕ) (head : Option (Version × Header))
    (all more : List TraceRecord) (before now : Outside) (fault : MoveFault)
    → StopsAt table name head all before now fault
    → StopsAt table name head (all ++ more) before now fault
stops_on table name head all more before now (faults.Refused refusal) stops = absurd stops
stops_on table name head all more before now faults.ReadFault stops = absurd stops
stops_on table name head all more before now faults.WriteFault stops =
    cut_on table name head all more before now errors.Failed stops
stops_on table name head all more before now faults.NoMemory stops =
    cut_on table name head all more before now errors.NoMemory stops
stops_on table name head all more before now (faults.Occupied addr) stops =
    held_up_on table name head all more before now (faults.Occupied addr) stops
stops_on table name head all more before now (faults.Far addr) stops =
    held_up_on table name head all more before now (faults.Far addr) stops

-- a record is refused for an access that is in the way, or far
of_access : (taken far : Bool) (addr : ℕ) (o : Option MoveFault) (fault : MoveFault)
    → o ≡ (if taken then Some (faults.Occupied addr)
    else (if far then Some (faults.Far addr) else None)) → o ≡ Some fault
    → (P : MoveFault → Type 0)
    → (o ≡ Some (faults.Occupied addr) → P (faults.Occupied addr))
    → (o ≡ Some (faults.Far addr) → P (faults.Far addr)) → P fault
of_access true far addr o fault is at P occupied beside =
    let same : faults.Occupied addr ≡ fault = cc in subst P same (occupied is)
of_access false true addr o fault is at P occupied beside =
    let same : faults.Far addr ≡ fault = cc in subst P same (beside is)
of_access false false addr o fault is at P occupied beside = absurd cc

stops_at_record : (near : ℕ) (table : List Move) (item : TraceRecord) (fault : MoveFault)
    → record_fault near table item ≡ Some fault → (P : MoveFault → Type 0)
    → ((addr : ℕ) → record_fault near table item ≡ Some (faults.Occupied addr)
    → P (faults.Occupied addr))
    → ((addr : ℕ) → record_fault near table item ≡ Some (faults.Far addr) → P (faults.Far addr))
    → P fault
stops_at_record near table (records.Touch a pc) fault is P occupied beside =
    of_access (is_taken table a.addr) (is_far near table a.addr) a.addr
    (access_fault near table a.addr) fault refl is P (occupied a.addr) (beside a.addr)
stops_at_record near table (records.Alloc addr size sites) fault is P occupied beside = absurd cc
stops_at_record near table (records.Free addr) fault is P occupied beside = absurd cc
stops_at_record near table (records.Symbol kind addr size symbol) fault is P occupied beside =
    absurd cc
stops_at_record near table (records.End e) fault is P occupied beside = absurd cc

module _ (table : List Move) (name : List ℕ) (m : Mover) (head : Version × Header)
    (seen : List TraceRecord) (before old : Outside)
    (has : HasMoved table name m (Some head) seen before old) (item : TraceRecord)
  where
    pub held_up : (now : Outside) (fault : MoveFault)
        → record_fault head.1.near table item ≡ Some fault
        → AreWritten (moved_so_far table name (Some head) seen) before now
        → AreCut (moved_so_far table name (Some head) seen) before now errors.NoMemory
        → IsHeldUp table name (Some head) (seen ++ item ∷ []) before now fault
    held_up now fault is written cut =
        let near = head.1.near in
        let here : is_at_fault near table item ≡ true = ap is_some is in
        record {
          first = none_in_front near table seen (item ∷ []) has.free
              ∙ ap (λ (b : Bool). option_and_then (record_fault near table)
              (cond b (Some item) None)) here
              ∙ is;
          written = subst (λ (l : List TraceRecord). AreWritten
              (moved_so_far table name (Some head) l) before now)
              (sym (front_free (is_at_fault near table) seen (item ∷ []) has.free
              ∙ ap (λ (l : List TraceRecord). seen ++ l)
              (stops_first (is_at_fault near table) item [] here)
              ∙ append-nil seen)) written;
          cut = record {
            put = seen;
            more = item ∷ [];
            free = has.free;
            first = refl;
            cut = cut;
          };
        }

    -- at the fault that is found of it
    pub held_up_so : (now : Outside) (fault : MoveFault)
        → record_fault m.near table item ≡ Some fault
        → AreWritten (moved_so_far table name (Some head) seen) before now
        → AreCut (moved_so_far table name (Some head) seen) before now errors.NoMemory
        → StopsAt table name (Some head) (seen ++ item ∷ []) before now fault
    held_up_so now fault is written cut =
        let so : record_fault head.1.near table item ≡ Some fault =
        ap (λ (k : ℕ). record_fault k table item) (sym has.near) ∙ is in
        stops_at_record head.1.near table item fault so
        (λ f. StopsAt table name (Some head) (seen ++ item ∷ []) before now f)
        (λ addr e. held_up now (faults.Occupied addr) e written cut)
        (λ addr e. held_up now (faults.Far addr) e written cut)

    pub cut_before : (now : Outside) (error : ShelfError)
        → AreCut (moved_so_far table name (Some head) seen) before now error
        → IsCutAt table name (Some head) (seen ++ item ∷ []) before now error
    cut_before now error cut = record {
      put = seen;
      more = item ∷ [];
      free = has.free;
      first = refl;
      cut = cut;
    }

    pub cut_behind : (now : Outside) (error : ShelfError)
        → is_at_fault m.near table item ≡ false
        → AreCut (moved_so_far table name (Some head) (seen ++ item ∷ [])) before now error
        → IsCutAt table name (Some head) (seen ++ item ∷ []) before now error
    cut_behind now error free cut = record {
      put = seen ++ item ∷ [];
      more = [];
      free = free_more head.1.near table seen item has.free
          (ap (λ (k : ℕ). is_at_fault k table item) (sym has.near) ∙ free);
      first = sym (append-nil (seen ++ item ∷ []));
      cut = cut;
    }

-- ---- records one after the other

-- The first so many of some records were put behind those before.
pub record MovedTo (table : List Move) (items : List TraceRecord) (i : ℕ) (first now : Mover)
    (old new : Outside) : Type 0 where
  pub name : now.name ≡ first.name
  pub moved : (head : Version × Header) (seen : List TraceRecord) (before : Outside)
      → HasMoved table first.name.now first (Some head) seen before old
      → HasMoved table first.name.now now (Some head) (seen ++ take i items) before new
  pub keeps_held : new.held ≡ old.held

pub moved_none : (table : List Move) (items : List TraceRecord) (first : Mover) (old : Outside)
    → MovedTo table items 0 first first old old
moved_none table items first old = record {
  name = refl;
  moved = λ head seen before has.
      subst (λ (l : List TraceRecord). HasMoved table first.name.now first (Some head) l before old)
      (sym (append-nil seen)) has;
  keeps_held = refl;
}

-- under the name that it has
pub named_so : (table : List Move) (name : List ℕ) (m : Mover) (head : Option (Version × Header))
    (seen : List TraceRecord) (before now : Outside)
    → HasMoved table name m head seen before now
    → HasMoved table m.name.now m head seen before now
named_so table name m head seen before now has =
    subst (λ (n : List ℕ). HasMoved table n m head seen before now) (sym has.named) has

module _ (table : List Move) (items : List TraceRecord) (i : ℕ) (first now : Mover)
    (old new : Outside) (to : MovedTo table items i first now old new)
    (item : TraceRecord) (inside : i < length items) (is : item ≡ get_or items i item)
  where
    -- the rest of the records
    whole : (seen : List TraceRecord)
        → seen ++ items ≡ ((seen ++ take i items) ++ item ∷ []) ++ drop (i + 1) items
    whole seen =
        ap (λ (l : List TraceRecord). seen ++ l) (sym (take-append-drop (i + 1) items))
        ∙ sym (append_assoc seen (take (i + 1) items) (drop (i + 1) items))
        ∙ ap (λ (l : List TraceRecord). l ++ drop (i + 1) items)
        (sym (seen_more items i item inside is seen))

    pub may_put : MayPut table first items old → MayPut table now (item ∷ []) new
    may_put may =
        let all = may.seen ++ take i items in
        let few = touches_in-front (all ++ item ∷ []) (drop (i + 1) items) in
        let same = ap (λ (l : List TraceRecord). length (touches_in l)) (whole may.seen) in
        record {
          name = first.name.now;
          head = may.head;
          seen = all;
          before = may.before;
          has = to.moved may.head may.seen may.before
              (named_so table may.name first (Some may.head) may.seen may.before old may.has);
          room = omega (arith, may.room, few, same);
        }

    now_named : now.name.now ≡ first.name.now
    now_named = ap (λ n. n.now) to.name

    pub moved_next : (later : Mover) (last : Outside) → later.name ≡ now.name
        → last.held ≡ new.held
        → ((head : Version × Header) (seen : List TraceRecord) (before : Outside)
        → HasMoved table now.name.now now (Some head) seen before new
        → HasMoved table now.name.now later (Some head) (seen ++ item ∷ []) before last)
        → MovedTo table items (i + 1) first later old last
    moved_next later last named keeps_held moved = record {
      name = named ∙ to.name;
      moved = λ head seen before has.
          let all = seen ++ take i items in
          subst (λ (l : List TraceRecord). HasMoved table first.name.now later (Some head) l before
          last) (seen_more items i item inside is seen)
          (subst (λ (n : List ℕ). HasMoved table n later (Some head) (all ++ item ∷ []) before last)
          now_named
          (moved head all before
          (subst (λ (n : List ℕ). HasMoved table n now (Some head) all before new) (sym now_named)
          (to.moved head seen before has))));
      keeps_held = keeps_held ∙ to.keeps_held;
    }

    pub stops_next : (last : Outside) (fault : MoveFault)
        → ((head : Version × Header) (seen : List TraceRecord) (before : Outside)
        → HasMoved table now.name.now now (Some head) seen before new
        → StopsAt table now.name.now (Some head) (seen ++ item ∷ []) before last fault)
        → (head : Version × Header) (seen : List TraceRecord) (before : Outside)
        → HasMoved table first.name.now first (Some head) seen before old
        → StopsAt table first.name.now (Some head) (seen ++ items) before last fault
    stops_next last fault stops head seen before has =
        let all = seen ++ take i items in
        subst (λ (l : List TraceRecord). StopsAt table first.name.now (Some head) l before last fault)
        (sym (whole seen))
        (stops_on table first.name.now (Some head) (all ++ item ∷ []) (drop (i + 1) items) before
        last fault
        (subst (λ (n : List ℕ). StopsAt table n (Some head) (all ++ item ∷ []) before last fault)
        now_named
        (stops head all before
        (subst (λ (n : List ℕ). HasMoved table n now (Some head) all before new) (sym now_named)
        (to.moved head seen before has)))))

pub moved_all : (table : List Move) (items : List TraceRecord) (i : ℕ) (first now : Mover)
    (old new : Outside) → MovedTo table items i first now old new → take i items ≡ items
    → (head : Version × Header) (seen : List TraceRecord) (before : Outside)
    → HasMoved table first.name.now first (Some head) seen before old
    → HasMoved table first.name.now now (Some head) (seen ++ items) before new
moved_all table items i first now old new to all head seen before has =
    subst (λ (l : List TraceRecord). HasMoved table first.name.now now (Some head) (seen ++ l)
    before new) all (to.moved head seen before has)

-- ---- the header

-- where it is known now, no matter which records come
pub follows_any : (known : Option (Version × Header)) (seen : List TraceRecord)
    (head : Version × Header) (more other : List TraceRecord)
    → Follows known seen (Some head) more → Follows known seen (Some head) other
follows_any None seen head more other follows = follows
follows_any (Some g) seen head more other follows = follows

-- where nothing is begun, nothing is put
pub not_begun : (table : List Move) (name : List ℕ) (m : Mover)
    (known : Option (Version × Header)) (seen : List TraceRecord) (before now : Outside)
    (head : Version × Header) → HasMoved table name m known seen before now
    → Follows known seen (Some head) [] → m.begun ≡ false
    → HasMoved table name m None [] before now × (seen ≡ [])
not_begun table name m None seen before now head has follows off =
    (subst (λ (l : List TraceRecord). HasMoved table name m None l before now) follows has, follows)
not_begun table name m (Some g) seen before now head has follows off =
    let no_way : false ≡ true = sym off ∙ has.begun in absurd cc

-- where it is, it is begun with this header
pub is_begun : (table : List Move) (name : List ℕ) (m : Mover)
    (known : Option (Version × Header)) (seen : List TraceRecord) (before now : Outside)
    (head : Version × Header) → HasMoved table name m known seen before now
    → Follows known seen (Some head) [] → m.begun ≡ true
    → HasMoved table name m (Some head) seen before now
is_begun table name m None seen before now head has follows on =
    let no_way : true ≡ false = sym on ∙ has.begun in absurd cc
is_begun table name m (Some g) seen before now head has follows on =
    subst (λ (h : Version × Header). HasMoved table name m (Some h) seen before now) follows has

-- the file was cut as its header was put
pub cut_header : (table : List Move) (name : List ℕ) (head : Version × Header)
    (seen : List TraceRecord) (before now : Outside) (error : ShelfError) → seen ≡ []
    → AreCut (moved_so_far table name (Some head) []) before now error
    → IsCutAt table name (Some head) seen before now error
cut_header table name head seen before now error none cut = record {
  put = [];
  more = [];
  free = refl;
  first = none;
  cut = cut;
}

-- without a header no record came
pub none_taken : (table : List Move) (name : List ℕ) (m : Mover)
    (known : Option (Version × Header)) (seen items : List TraceRecord) (before now : Outside)
    → HasMoved table name m known seen before now → Follows known seen None items
    → HasMoved table name m None (seen ++ items) before now
none_taken table name m None seen items before now has follows =
    subst (λ (l : List TraceRecord). HasMoved table name m None l before now)
    (sym (ap (λ (l : List TraceRecord). seen ++ l) follows.1 ∙ append-nil seen)) has
none_taken table name m (Some g) seen items before now has follows = absurd follows

-- ---- a piece

module _ (table : List Move) (m n : Mover) (head : Version × Header) (items : List TraceRecord)
    (old mid : Outside) (named : n.name ≡ m.name)
    (begun : (known : Option (Version × Header)) (seen : List TraceRecord) (before : Outside)
    → HasMoved table m.name.now m known seen before old → Follows known seen (Some head) []
    → HasMoved table m.name.now n (Some head) seen before mid)
  where
    abbrev same_name : n.name.now ≡ m.name.now
    same_name = ap (λ v. v.now) named

    pub then_put : MayTake table m (Some head) items old → MayPut table n items mid
    then_put may = record {
      name = m.name.now;
      head = head;
      seen = may.seen;
      before = may.before;
      has = begun may.known may.seen may.before
          (named_so table may.name m may.known may.seen may.before old may.has)
          (follows_any may.known may.seen head items [] may.follows);
      room = may.room;
    }

    pub then_moved : (later : Mover) (last : Outside)
        → ((head : Version × Header) (seen : List TraceRecord) (before : Outside)
        → HasMoved table n.name.now n (Some head) seen before mid
        → HasMoved table n.name.now later (Some head) (seen ++ items) before last)
        → (known : Option (Version × Header)) (seen : List TraceRecord) (before : Outside)
        → HasMoved table m.name.now m known seen before old → Follows known seen (Some head) items
        → HasMoved table m.name.now later (Some head) (seen ++ items) before last
    then_moved later last put known seen before has follows =
        subst (λ (x : List ℕ). HasMoved table x later (Some head) (seen ++ items) before last)
        same_name
        (put head seen before
        (subst (λ (x : List ℕ). HasMoved table x n (Some head) seen before mid) (sym same_name)
        (begun known seen before has (follows_any known seen head items [] follows))))

    pub then_stopped : (last : Outside) (fault : MoveFault)
        → ((head : Version × Header) (seen : List TraceRecord) (before : Outside)
        → HasMoved table n.name.now n (Some head) seen before mid
        → StopsAt table n.name.now (Some head) (seen ++ items) before last fault)
        → (known : Option (Version × Header)) (seen : List TraceRecord) (before : Outside)
        → HasMoved table m.name.now m known seen before old → Follows known seen (Some head) items
        → StopsAt table m.name.now (Some head) (seen ++ items) before last fault
    then_stopped last fault put known seen before has follows =
        subst (λ (x : List ℕ). StopsAt table x (Some head) (seen ++ items) before last fault)
        same_name
        (put head seen before
        (subst (λ (x : List ℕ). HasMoved table x n (Some head) seen before mid) (sym same_name)
        (begun known seen before has (follows_any known seen head items [] follows))))
