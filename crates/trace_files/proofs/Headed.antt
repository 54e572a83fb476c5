-- How what is written goes on to what is written of all bytes.
use Rattle.std.proofs.Common.{◌≡◌, ◌≢◌, ℕ, false, List, ◌++◌}
use Rattle.std.proofs.Common.{length, drop}
use Rattle.std.proofs.Common.{Option, Some, None, refl, sym, ap}
use Rattle.std.proofs.Common.{◌∙◌, subst, append_assoc}
use Rattle.std.specs.List.{list_any}
use Rattle.std.proofs.lemmas.List.{map-append, take-append-drop}
use Rattle.shelf.specs.Fetch.{IsFront}
use Rattle.shelf.specs.Files.{GoOn, one_file}
use Rattle.shelf.specs.OnTheirWay.{IsNew}
use Rattle.shelf.specs.Laws.Files.{output_names}
use Rattle.trace_format.specs.declared.record.Header.{Header}
use Rattle.trace_format.specs.declared.record.TraceRecord.{TraceRecord}
use Rattle.trace_format.specs.declared.record.Version.{Version}
use Rattle.trace_format.specs.Laws.Writing.{begun-append}
use Rattle.trace_format.specs.Reading.{reading_of}
use Rattle.trace_format.specs.Spelling.{nothing_before, spell_records}
use Rattle.trace_format.specs.Writing.{before_behind, begun_with}
use Rattle.trace_passes.specs.Cursors.{version_and_header}
use Rattle.trace_files.specs.declared.move_row.Move.{Move}
use Rattle.trace_files.specs.Moving.{before_the_first, is_at_fault, moved_item, moved_items}
use Rattle.trace_files.specs.Moving.{moved_so_far, narrowed, near_of, written_of}
use Rattle.trace_files.proofs.Readings.{front_first}
use Rattle.trace_files.proofs.Relocations.{header_stays}
use Rattle.trace_files.proofs.Takings.{front_free}

go_head : (table : List Move) (file : List ℕ) (known now : Option (Version × Header))
    (put more all : List TraceRecord)
    → ((h : Version × Header) → known ≡ Some h → now ≡ Some h) → all ≡ put ++ more
    → list_any (is_at_fault (near_of known) table) put ≡ false
    → GoOn (moved_so_far table file known put)
    (moved_so_far table file now (before_the_first (near_of now) table all))
go_head table file None now put more all stays is free = tt
go_head table file (Some h) now put more all stays is free =
    let near = h.1.near in
    let rest = before_the_first near table more in
    let first : before_the_first near table all ≡ put ++ rest =
    ap (before_the_first near table) is ∙ front_free (is_at_fault near table) put more free in
    let split : begun_with h.0 (narrowed h.1) (moved_items table (put ++ rest))
    ≡ begun_with h.0 (narrowed h.1) (moved_items table put)
    ++ spell_records h.0 (before_behind nothing_before (moved_items table put))
    (moved_items table rest) =
    ap (begun_with h.0 (narrowed h.1)) (map-append (moved_item table) put rest)
    ∙ begun-append h.0 (narrowed h.1) (moved_items table put) (moved_items table rest) in
    let longer : GoOn (one_file file (begun_with h.0 (narrowed h.1) (moved_items table put)))
    (one_file file (begun_with h.0 (narrowed h.1) (moved_items table (put ++ rest)))) = (
      refl,
      (
        spell_records h.0 (before_behind nothing_before (moved_items table put))
            (moved_items table rest),
        split,
      ),
      tt,
    ) in
    subst (λ (k : Option (Version × Header)). GoOn (moved_so_far table file (Some h) put)
    (moved_so_far table file k (before_the_first (near_of k) table all))) (sym (stays h refl))
    (subst (λ (l : List TraceRecord). GoOn (moved_so_far table file (Some h) put)
    (moved_so_far table file (Some h) l)) (sym first) longer)

-- bytes that some begin with
front_whole : (all bytes : List ℕ) → IsFront all bytes → all ≡ bytes ++ drop (length bytes) all
front_whole all bytes front =
    let rest = drop (length bytes) all in
    sym (ap (λ (xs : List ℕ). xs ++ rest) front.same ∙ take-append-drop (length bytes) all)

pub head_kept : (all bytes : List ℕ) → IsFront all bytes → (h : Version × Header)
    → version_and_header (reading_of bytes).1.progress ≡ Some h
    → version_and_header (reading_of all).1.progress ≡ Some h
head_kept all bytes front h is =
    ap (λ (l : List ℕ). version_and_header (reading_of l).1.progress) (front_whole all bytes front)
    ∙ header_stays bytes (drop (length bytes) all) h is

pub new_name : (table : List Move) (file : List ℕ) (head : Option (Version × Header))
    (put : List TraceRecord) (n : List ℕ) → n ≢ file
    → IsNew n (output_names (moved_so_far table file head put))
new_name table file None put n other = tt
new_name table file (Some h) put n other = (λ e. other (sym e), tt)

pub known_or_not : (k : Option (Version × Header)) (P : Type 0) → (k ≡ None → P)
    → ((h : Version × Header) → k ≡ Some h → P) → P
known_or_not None P none some = none refl
known_or_not (Some h) P none some = some h refl

abbrev pub head_in : List ℕ → Option (Version × Header)
head_in bytes = version_and_header (reading_of bytes).1.progress

pub go_all : (table : List Move) (file all bytes : List ℕ) (put more : List TraceRecord)
    → IsFront all bytes → (reading_of bytes).0 ≡ put ++ more
    → list_any (is_at_fault (near_of (head_in bytes)) table) put ≡ false
    → GoOn (moved_so_far table file (head_in bytes) put) (written_of table file all)
go_all table file all bytes put more front is free =
    let first = front_first all bytes front in
    go_head table file (head_in bytes) (head_in all) put (more ++ first.0) (reading_of all).0
    (head_kept all bytes front)
    (first.1 ∙ ap (λ (l : List TraceRecord). l ++ first.0) is ∙ append_assoc put more first.0) free
