-- The making of a trace, as far as it has come.
use Rattle.std.proofs.Common.{◌≡◌, ℕ, ◌+◌, ◌*◌, ◌/◌, ◌%◌, ◌^◌, ◌<◌, ◌≤◌, suc, List, [], ◌∷◌}
use Rattle.std.proofs.Common.{◌++◌, None, drop, refl, sym, ap, ◌∙◌, subst, arith}
use Rattle.base.specs.Touch.{Touch}
use Rattle.shelf.specs.Shelf.{Outside}
use Rattle.shelf.specs.declared.shelf.ShelfError.{ShelfError}
use Rattle.shelf.specs.Files.{AreCut, AreWritten, Output, one_file}
use Rattle.trace_format.specs.declared.record.TraceRecord.{TraceRecord}
use Rattle.trace_format.specs.declared.record.TraceRecord.TheVariants as records
use Rattle.trace_format.specs.declared.record.Version.TheVariants.{One}
use Rattle.trace_format.specs.Laws.Writing.{begun-all}
use Rattle.trace_passes.specs.Passes.{all_records}
use Rattle.trace_passes.specs.Rooms.{HasRoom}
use Rattle.trace_files.specs.declared.trace_file.TraceFile.{TraceFile}
use Rattle.trace_files.specs.Copying.{IsUnderWay}
use Rattle.trace_files.specs.Made.{made, made_file, made_header, made_item, made_items}
use Rattle.trace_files.specs.Made.{state, touch_of}
use Rattle.trace_files.specs.OneTrace.{HasPut, IsOnItsWay, so_far, trace_so_far}
use Rattle.trace_files.proofs.Items.{items_front, items_more, touches_all, touches_with}
use Rattle.trace_files.proofs.OneTraces.{cut_more, on_way, way_of}

-- so many accesses are made, and the state is the one after the last of them
pub record AreMade {A : Type 0} (given : A → A → List TraceRecord → Type 0)
    (place now_state : ℕ) (first now : A) (one two : TraceFile) (old new : Outside) : Type 0 where
  pub state_is : now_state ≡ state place
  pub given_so_far : given first now (made_items place)
  pub files_stay : so_far two ≡ so_far one
  pub noted : (before : Outside) → IsOnItsWay one [] before old
      → IsOnItsWay two (made_items place) before new
  pub way : IsUnderWay two.files (so_far two) (HasPut two) new

-- before the first access
pub none_made : {A : Type 0} (given : A → A → List TraceRecord → Type 0) (first : A)
    (one : TraceFile) (outside : Outside) → given first first []
    → IsUnderWay one.files (so_far one) (HasPut one) outside
    → AreMade given 0 1 first first one one outside outside
none_made given first one outside fresh way = record {
  state_is = refl;
  given_so_far = fresh;
  files_stay = refl;
  noted = λ before on. on;
  way = way;
}

-- the next state
pub next_is : (place before after : ℕ) → before ≡ state place
    → after ≡ (before * 6364136223846793005 + 1442695040888963407) % 2 ^ 64 → after
    ≡ state (place + 1)
next_is place before after is next =
    let on : place + 1 ≡ suc place = omega arith in
    next ∙ ap (λ (s : ℕ). (s * 6364136223846793005 + 1442695040888963407) % 2 ^ 64) is
    ∙ sym (ap state on)

-- what the next state says is the record of the next access
pub item_is : (place before after : ℕ) (a : Touch) → before ≡ state place
    → after ≡ (before * 6364136223846793005 + 1442695040888963407) % 2 ^ 64 → a
    ≡ touch_of (after / 2 ^ 32)
    → records.Touch a None ≡ made_item place
item_is place before after a is next says =
    ap (λ (t : Touch). records.Touch t None) (says ∙ ap (λ (s : ℕ). touch_of (s / 2 ^ 32))
    (next_is place before after is next))

-- there is room for the next access, and for the end
pub room_for_access : {A : Type 0} (begins : A → ℕ → Type 0)
    (given : A → A → List TraceRecord → Type 0) (place : ℕ)
    (item : TraceRecord) (first now : A) → place < 10 ^ 9 → item ≡ made_item place → begins first 0
    → given first now (made_items place) → HasRoom begins given now (item ∷ [])
room_for_access begins given place item first now few is begins_there so =
    subst (λ (x : TraceRecord). HasRoom begins given now (x ∷ [])) (sym is)
    (record {
      begun = first;
      first = 0;
      seen = made_items place;
      begins_there = begins_there;
      given_so_far = so;
      room = omega (arith, touches_with place, few);
    })

pub room_for_end : {A : Type 0} (begins : A → ℕ → Type 0)
    (given : A → A → List TraceRecord → Type 0) (count : ℕ) (first now : A)
    → count ≤ 10 ^ 9 → begins first 0 → given first now (made_items count)
    → HasRoom begins given now (records.End (made count).ending ∷ [])
room_for_end begins given count first now few begins_there so = record {
  begun = first;
  first = 0;
  seen = made_items count;
  begins_there = begins_there;
  given_so_far = so;
  room = omega (arith, touches_all count, few);
}

-- one access more
pub one_more : {A : Type 0} (given : A → A → List TraceRecord → Type 0) (place before after : ℕ)
    (item : TraceRecord) (first now later : A) (one two three four : TraceFile)
    (old mid put new : Outside)
    → AreMade given place before first now one two old mid → after ≡ state (place + 1)
    → item ≡ made_item place
    → ((begun : A) (earlier : List TraceRecord) → given begun now earlier
    → given begun later (earlier ++ item ∷ []))
    → so_far three ≡ so_far two → so_far four ≡ so_far three
    → ((items : List TraceRecord) (before : Outside) → IsOnItsWay two items before mid
    → IsOnItsWay three (items ++ item ∷ []) before put)
    → ((items : List TraceRecord) (before : Outside) → IsOnItsWay three items before put
    → IsOnItsWay four items before new)
    → AreMade given (place + 1) after first later one four old new
one_more given place before after item first now later one two three four old mid put new
    so state_is is given_on put_stays end_stays noted_on appended =
    let all : made_items place ++ item ∷ [] ≡ made_items (place + 1) =
    ap (λ (x : TraceRecord). made_items place ++ x ∷ []) is ∙ sym (items_more place) in
    record {
      state_is = state_is;
      given_so_far = subst (given first later) all
          (given_on first (made_items place) so.given_so_far);
      files_stay = end_stays ∙ put_stays ∙ so.files_stay;
      noted = λ before on. subst (λ (l : List TraceRecord). IsOnItsWay four l before new) all
          (appended (made_items place ++ item ∷ []) before
          (noted_on (made_items place) before (so.noted before on)));
      way = way_of four (so.way.seen ++ item ∷ []) so.way.before new
          (appended (so.way.seen ++ item ∷ []) so.way.before
          (noted_on so.way.seen so.way.before (on_way two mid so.way)));
    }

-- what is cut at an access is cut of them all
pub cut_access : (f g : TraceFile) (count place : ℕ) (item : TraceRecord) (before now : Outside)
    (e : ShelfError) → so_far g ≡ so_far f → place < count → item ≡ made_item place
    → AreCut (so_far g (made_items place ++ item ∷ [])) before now e
    → AreCut (so_far f (made_items count)) before now e
cut_access f g count place item before now e same below is cut =
    cut_more f.name.now f.version f.header (made_items (place + 1)) (made_items count)
    (drop (place + 1) (made_items count)) before now e
    (items_front count (place + 1) (omega (arith, below)))
    (subst (λ (l : List TraceRecord). AreCut (so_far f l) before now e)
    (ap (λ (x : TraceRecord). made_items place ++ x ∷ []) is ∙ sym (items_more place))
    (subst (λ (s : List TraceRecord → List Output).
    AreCut (s (made_items place ++ item ∷ [])) before now e) same cut))

-- ---- the whole

-- with all records it is the file of the made trace
whole : (name : List ℕ) (count : ℕ)
    → trace_so_far name One made_header (all_records (made count)) ≡ made_file name count
whole name count =
    ap (λ (l : List ℕ). one_file name l)
    (begun-all One made_header (made_items count) (made count).ending)

-- a file that is on its way to it
pub whole_written : (f : TraceFile) (name : List ℕ) (count : ℕ) (before now : Outside)
    → so_far f ≡ trace_so_far name One made_header
    → AreWritten (so_far f (all_records (made count))) before now
    → AreWritten (made_file name count) before now
whole_written f name count before now same written =
    subst (λ (l : List Output). AreWritten l before now)
    (ap (λ (s : List TraceRecord → List Output). s (all_records (made count))) same
    ∙ whole name count) written

-- is cut of it, where it is cut after some of the records
pub whole_cut : (name : List ℕ) (count : ℕ) (items more : List TraceRecord) (before now : Outside)
    (e : ShelfError) → items ++ more ≡ all_records (made count)
    → AreCut (trace_so_far name One made_header items) before now e
    → AreCut (made_file name count) before now e
whole_cut name count items more before now e is cut =
    subst (λ (l : List Output). AreCut l before now e) (whole name count)
    (cut_more name One made_header items (all_records (made count)) more before now e is cut)

pub file_cut : (f : TraceFile) (name : List ℕ) (count : ℕ) (items more : List TraceRecord)
    (before now : Outside) (e : ShelfError) → so_far f ≡ trace_so_far name One made_header
    → items ++ more ≡ all_records (made count) → AreCut (so_far f items) before now e
    → AreCut (made_file name count) before now e
file_cut f name count items more before now e same is cut =
    whole_cut name count items more before now e is
    (subst (λ (s : List TraceRecord → List Output). AreCut (s items) before now e) same cut)
