-- What more records add to a trace that is begun.
use Rattle.std.proofs.Common.{◌≡◌, ℕ, List, [], ◌∷◌, ◌++◌, refl, sym, ap, ◌∙◌, append_assoc}
use Rattle.std.specs.List.{flat_map}
use Rattle.std.proofs.lemmas.List.{append-nil}
use Rattle.trace_format.specs.declared.record.TraceEnd.{TraceEnd}
use Rattle.trace_format.specs.declared.before.Before.{Before}
use Rattle.trace_format.specs.declared.record.Header.{Header}
use Rattle.trace_format.specs.declared.record.Version.{Version}
use Rattle.trace_format.specs.declared.record.Version.TheVariants.{One}
use Rattle.trace_format.specs.declared.record.TraceRecord.{TraceRecord}
use Rattle.trace_format.specs.declared.record.TraceRecord.TheVariants as records
use Rattle.trace_format.specs.Spelling.{before_after, nothing_before, spell, spell_ending}
use Rattle.trace_format.specs.Spelling.{spell_header, spell_record, spell_records, spell_touch}
use Rattle.trace_format.specs.Writing.{Writing, before_behind, begun_with}

spell-append : (v : Version) (before : Before) (xs ys : List TraceRecord)
    → spell_records v before (xs ++ ys)
    ≡ spell_records v before xs ++ spell_records v (before_behind before xs) ys
spell-append v before [] ys = refl
spell-append v before (x ∷ xs) ys =
    ap (λ (l : List ℕ). spell_record v before x ++ l) (spell-append v (before_after before x) xs ys)
    ∙ sym (append_assoc (spell_record v before x) (spell_records v (before_after before x) xs) _)

pub before_more : (before : Before) (xs : List TraceRecord) (x : TraceRecord)
    → before_behind before (xs ++ x ∷ []) ≡ before_after (before_behind before xs) x
before_more before [] x = refl
before_more before (y ∷ ys) x = before_more (before_after before y) ys x

-- ---- what stands

-- with more records
pub begun-append : (v : Version) (h : Header) (xs ys : List TraceRecord)
    → begun_with v h (xs ++ ys) ≡ begun_with v h xs ++ spell_records v (before_behind nothing_before xs) ys
begun-append v h xs ys =
    ap (λ (l : List ℕ). spell_header v h ++ l) (spell-append v nothing_before xs ys)
    ∙ sym (append_assoc (spell_header v h) (spell_records v nothing_before xs)
    (spell_records v (before_behind nothing_before xs) ys))

-- with one record more
pub begun-more : (v : Version) (h : Header) (xs : List TraceRecord) (x : TraceRecord)
    → begun_with v h xs ++ spell_record v (before_behind nothing_before xs) x ≡ begun_with v h (xs ++ x ∷ [])
begun-more v h xs x =
    ap (λ (l : List ℕ). begun_with v h xs ++ l)
    (sym (append-nil (spell_record v (before_behind nothing_before xs) x)))
    ∙ sym (begun-append v h xs (x ∷ []))

-- with its end it is the whole
pub begun-ended : (v : Version) (h : Header) (items : List TraceRecord) (e : TraceEnd)
    → begun_with v h items ++ spell_ending v e ≡ spell v h items e
unfolding spell
begun-ended v h items e = append_assoc (spell_header v h) (spell_records v nothing_before items) (spell_ending v e)

pub begun-all : (v : Version) (h : Header) (items : List TraceRecord) (e : TraceEnd)
    → begun_with v h (items ++ records.End e ∷ []) ≡ spell v h items e
begun-all v h items e = sym (begun-more v h items (records.End e)) ∙ begun-ended v h items e

-- what some records spell goes on to what all of them do, and their end
pub begun_on : (v : Version) (h : Header) (items seen more : List TraceRecord) (e : TraceEnd)
    → items ++ records.End e ∷ [] ≡ seen ++ more
    → (rest : List ℕ) × (spell v h items e ≡ begun_with v h seen ++ rest)
begun_on v h items seen more e is = (
  spell_records v (before_behind nothing_before seen) more,
  sym (begun-all v h items e) ∙ ap (begun_with v h) is ∙ begun-append v h seen more,
)

-- ---- writers

-- a writer behind one record more
pub writer-more : (v : Version) (w : Writing) (seen : List TraceRecord) (item : TraceRecord)
    → w ≡ record { version = v; before = before_behind nothing_before seen }
    → record w { before = before_after w.before item }
    ≡ record { version = v; before = before_behind nothing_before (seen ++ item ∷ []) }
writer-more v w seen item is =
    (λ i. let x : Writing = is i in
    let y : Writing = record { version = x.version; before = before_after x.before item } in y)
    ∙ (λ i. let y : Writing = record { version = v; before = sym (before_more nothing_before seen item) i } in y)

-- ---- version 1

-- no access is spelled against the one before
pub spelled_alone : (before : Before) (item : TraceRecord)
    → spell_record One before item ≡ spell_record One nothing_before item
unfolding spell_touch
spelled_alone before (records.Touch a pc) = refl
spelled_alone before (records.Alloc addr size sites) = refl
spelled_alone before (records.Free addr) = refl
spelled_alone before (records.Symbol kind addr size name) = refl
spelled_alone before (records.End e) = refl

pub spelled_each : (before : Before) (items : List TraceRecord)
    → spell_records One before items ≡ flat_map (spell_record One nothing_before) items
spelled_each before [] = refl
spelled_each before (item ∷ items) =
    ap (λ (l : List ℕ). l ++ spell_records One (before_after before item) items)
    (spelled_alone before item)
    ∙ ap (λ (l : List ℕ). spell_record One nothing_before item ++ l)
    (spelled_each (before_after before item) items)
