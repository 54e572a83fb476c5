-- A trace on its way, with its accesses moved.
use Rattle.std.proofs.Common.{◌≡◌, ℕ, ◌+◌, ◌<◌, ◌≤◌, ◌^◌, Bool, true, false, List, [], ◌∷◌, ◌++◌, length}
use Rattle.std.proofs.Common.{Result, Ok, Err, OnOk}
use Rattle.std.proofs.Common.{cond, Option, Some, None, refl, sym, ap, ◌∙◌, subst, arith}
use Rattle.std.specs.Prelude.{◌||◌, if◌then◌else◌}
use Rattle.std.specs.List.{list_any}
use Rattle.std.proofs.lemmas.List.{map-append, length-append}
use Rattle.std.proofs.lemmas.List.Folds.{list_any-append}
use Rattle.std.proofs.lemmas.List.Sums.{count_by-le-length, sum_by-append}
use Rattle.base.specs.Touch.{Touch}
use Rattle.shelf.specs.Shelf.{Outside}
use Rattle.shelf.specs.Files.{Output, one_file}
use Rattle.shelf.specs.OneFile.{Waiting}
use Rattle.shelf.specs.OnTheirWay.{AreBegun, IsNew, IsOutputs, names_of, outputs_with}
use Rattle.shelf.specs.Laws.Files.{IsOutputs-begun}
use Rattle.trace_format.specs.declared.record.Header.{Header}
use Rattle.trace_format.specs.declared.record.TraceRecord.{TraceRecord}
use Rattle.trace_format.specs.declared.record.TraceRecord.TheVariants as records
use Rattle.trace_format.specs.declared.record.Version.{Version}
use Rattle.trace_format.specs.Rules.{touches_in}
use Rattle.trace_format.specs.Spelling.{before_after, nothing_before, spell_record}
use Rattle.trace_format.specs.Writing.{Writing, before_behind, begin_writing, begun_with}
use Rattle.trace_format.specs.Laws.Touches.{touches-push}
use Rattle.trace_format.specs.Laws.Writing.{begun-more, writer-more}
use Rattle.trace_files.specs.declared.move_row.Move.{Move}
use Rattle.trace_files.specs.declared.mover.Mover.{Mover}
use Rattle.trace_files.specs.Movers.{HasMoved, MayPut}
use Rattle.trace_files.specs.Moves.{count_moved, is_moved}
use Rattle.trace_files.specs.Moving.{narrowed}
use Rattle.trace_files.specs.Moving.{is_at_fault, moved_item, moved_items, moved_so_far}
use Rattle.trace_files.proofs.Begun.{as_many}

-- ---- one record more

moved_more : (table : List Move) (seen : List TraceRecord) (item : TraceRecord)
    → moved_items table (seen ++ item ∷ []) ≡ moved_items table seen ++ moved_item table item ∷ []
moved_more table seen item = map-append (moved_item table) seen (item ∷ [])

one_more : (b : Bool) → (if b then 1 else 0) ≡ 0 + cond b 1 0
one_more true = refl
one_more false = refl

count_more : (table : List Move) (seen : List TraceRecord) (item : TraceRecord)
    → count_moved table (touches_in (seen ++ item ∷ []))
    ≡ count_moved table (touches_in seen) + count_moved table (touches_in (item ∷ []))
count_more table seen item =
    ap (count_moved table) (touches-push seen item)
    ∙ sum_by-append (λ (a : Touch). cond (is_moved table a.addr) 1 0) (touches_in seen)
    (touches_in (item ∷ []))

pub free_more : (near : ℕ) (table : List Move) (seen : List TraceRecord) (item : TraceRecord)
    → list_any (is_at_fault near table) seen ≡ false → is_at_fault near table item ≡ false
    → list_any (is_at_fault near table) (seen ++ item ∷ []) ≡ false
free_more near table seen item free here =
    list_any-append (is_at_fault near table) seen (item ∷ [])
    ∙ (λ i. free i || (here i || false))

module _ (table : List Move) (name : List ℕ) (m : Mover) (head : Version × Header)
    (seen : List TraceRecord) (before old : Outside)
    (has : HasMoved table name m (Some head) seen before old)
  where
    pub put_on : (item : TraceRecord)
        → outputs_with (moved_so_far table name (Some head) seen) 0
        (spell_record m.writer.version m.writer.before (moved_item table item))
        ≡ moved_so_far table name (Some head) (seen ++ item ∷ [])
    put_on item =
        (λ i. outputs_with (moved_so_far table name (Some head) seen) 0
        (spell_record (has.writer i).version (has.writer i).before (moved_item table item)))
        ∙ ap (one_file name) (begun-more head.0 (narrowed head.1) (moved_items table seen)
        (moved_item table item)
        ∙ ap (begun_with head.0 (narrowed head.1)) (sym (moved_more table seen item)))

    pub one_file_there : length m.files ≡ 1
    one_file_there =
        sym (as_many m.files (moved_so_far table name (Some head) seen) before old has.outputs)

    pub begun_there : AreBegun (names_of m.files) old
    begun_there =
        IsOutputs-begun m.files (moved_so_far table name (Some head) seen) before old has.outputs

    -- a record was put
    pub has_put : (item : TraceRecord) (n : Mover) (new : Outside)
        → is_at_fault m.near table item ≡ false → n.name ≡ m.name → n.begun ≡ m.begun
        → n.near ≡ m.near
        → n.moved ≡ m.moved + count_moved table (touches_in (item ∷ []))
        → n.writer ≡ record m.writer
        { before = before_after m.writer.before (moved_item table item) }
        → IsOutputs n.files (outputs_with (moved_so_far table name (Some head) seen) 0
        (spell_record m.writer.version m.writer.before (moved_item table item))) before new
        → HasMoved table name n (Some head) (seen ++ item ∷ []) before new
    has_put item n new free named begun near moved next outputs = record {
      named = ap (λ v. v.now) named ∙ has.named;
      outputs = subst (λ (l : List Output). IsOutputs n.files l before new) (put_on item) outputs;
      begun = begun ∙ has.begun;
      near = near ∙ has.near;
      small = has.small;
      writer = next
          ∙ writer-more head.0 m.writer (moved_items table seen) (moved_item table item) has.writer
          ∙ ap (λ (l : List TraceRecord). let w : Writing = record
          { version = head.0; before = before_behind nothing_before l } in w)
          (sym (moved_more table seen item));
      free = free_more head.1.near table seen item has.free
          (ap (λ (k : ℕ). is_at_fault k table item) (sym has.near) ∙ free);
      moved = moved
          ∙ ap (λ (k : ℕ). k + count_moved table (touches_in (item ∷ []))) has.moved
          ∙ sym (count_more table seen item);
    }

-- ---- counts

few_moved : (table : List Move) (accesses : List Touch) → count_moved table accesses ≤ length accesses
few_moved table accesses = count_by-le-length (λ (a : Touch). is_moved table a.addr) accesses

pub may_count : (table : List Move) (m : Mover) (item : TraceRecord) (now : Outside)
    → MayPut table m (item ∷ []) now → m.moved < 2 ^ 63
may_count table m item now may =
    let seen = may.seen in
    let few = few_moved table (touches_in seen) in
    let more = ap length (touches-push seen item) in
    let long = length-append (touches_in seen) (touches_in (item ∷ [])) in
    omega (arith, few, may.has.moved, may.room, more, long)

pub one_counted : (table : List Move) (a : Touch) (pc : Option ℕ) (goes : Bool)
    → goes ≡ is_moved table a.addr
    → (if goes then 1 else 0) ≡ count_moved table (touches_in (records.Touch a pc ∷ []))
one_counted table a pc goes is =
    ap (λ (b : Bool). if b then 1 else 0) is ∙ one_more (is_moved table a.addr)

-- ---- the file

-- none is begun, and nothing is put
pub nothing_moved : (table : List Move) (m : Mover) (outside : Outside) → m.begun ≡ false
    → m.near ≡ 0 → m.moved ≡ 0 → IsOutputs m.files [] outside outside
    → HasMoved table m.name.now m None [] outside outside
nothing_moved table m outside begun near moved outputs = record {
  named = refl;
  outputs = outputs;
  begun = begun;
  near = near;
  small = omega arith;
  writer = tt;
  free = refl;
  moved = moved;
}

none_long : (l : List Waiting) → length l ≡ 0 → l ≡ []
none_long [] is = refl
none_long (x ∷ xs) is = absurd (omega (arith, is))

module _ (table : List Move) (name : List ℕ) (m : Mover) (before old : Outside)
    (has : HasMoved table name m None [] before old)
  where
    pub no_file_there : m.files ≡ []
    no_file_there = none_long m.files (sym (as_many m.files [] before old has.outputs))

    pub none_new : (other : List ℕ) → IsNew other (names_of m.files)
    none_new other = subst (λ (l : List Waiting). IsNew other (names_of l)) (sym no_file_there) tt

    pub none_begun_there : AreBegun (names_of m.files) old
    none_begun_there = subst (λ (l : List Waiting). AreBegun (names_of l) old) (sym no_file_there) tt

    pub has_begun : (v : Version) (h : Header) (n : Mover) (new : Outside) → n.name ≡ m.name
        → n.begun ≡ true → n.near ≡ h.near → n.moved ≡ m.moved → n.writer ≡ begin_writing v
        → IsOutputs n.files (one_file name (begun_with v (narrowed h) [])) before new
        → h.near ≤ 16
        → HasMoved table name n (Some (v, h)) [] before new
    has_begun v h n new named begun near moved writer outputs small = record {
      named = ap (λ x. x.now) named ∙ has.named;
      outputs = outputs;
      begun = begun;
      near = near;
      small = small;
      writer = writer;
      free = refl;
      moved = moved ∙ has.moved;
    }

-- ---- by an answer

pub both_ok : {T E P Q R : Type 0} (r : Result T E) → (P → Q → R) → OnOk r P → OnOk r Q → OnOk r R
both_ok (Ok x) f p q = f p q
both_ok (Err e) f p q = tt

-- a record that is no access stays as it is, and counts none
pub other_item : (table : List Move) (item : TraceRecord)
    → ((a : Touch) (pc : Option ℕ) → item ≡ records.Touch a pc → ⊥)
    → (moved_item table item ≡ item) × (touches_in (item ∷ []) ≡ [])
other_item table (records.Touch a pc) other = absurd (other a pc refl)
other_item table (records.Alloc addr size sites) other = (refl, refl)
other_item table (records.Free addr) other = (refl, refl)
other_item table (records.Symbol kind addr size symbol) other = (refl, refl)
other_item table (records.End e) other = (refl, refl)
