-- The accesses of a turn, spelled one behind the other.
use Rattle.std.proofs.Common.{◌≡◌, ◌∙◌, ℕ, ◌+◌, ◌<◌, ◌≤◌, List, ◌∷◌, [], ◌++◌, length, take, get_or}
use Rattle.std.proofs.Common.{ap, refl, subst, sym}
use Rattle.std.proofs.lemmas.List.{append-nil, take_all}
use Rattle.trace_format.specs.declared.before.Before.{Before}
use Rattle.trace_format.specs.declared.record.TraceRecord.{TraceRecord}
use Rattle.trace_format.specs.declared.record.Version.{Version}
use Rattle.trace_format.specs.Laws.Writing.{before_more}
use Rattle.trace_format.specs.Spelling.{before_after, spell_record, spell_records}
use Rattle.trace_format.specs.Writing.{Writing, before_behind}
use Rattle.guest.specs.declared.turn.Touched.{Touched}
use Rattle.run_recorder.specs.Recording.{touch_records}
use Rattle.run_recorder.proofs.Records.{spell-append}
use Rattle.run_recorder.proofs.Touching.{one_more, touch_record}

-- a writer has spelled records in these bytes, and is another one then
pub record AreSpelled (items : List TraceRecord) (w later : Writing) (bytes : List ℕ) : Type 0 where
  pub spelled : bytes ≡ spell_records w.version w.before items
  pub next : later ≡ record w { before = before_behind w.before items }

pub none_spelled : (w : Writing) → AreSpelled [] w w []
none_spelled w = record { spelled = refl; next = refl }

-- one record more
record_more : (w : Writing) (items : List TraceRecord) (item : TraceRecord)
    → spell_records w.version w.before items
    ++ spell_record w.version (before_behind w.before items) item
    ≡ spell_records w.version w.before (items ++ item ∷ [])
record_more w items item =
    ap (λ (l : List ℕ). spell_records w.version w.before items ++ l)
    (sym (append-nil (spell_record w.version (before_behind w.before items) item)))
    ∙ sym (spell-append w.version w.before items (item ∷ []))

spelled_more : (items : List TraceRecord) (item : TraceRecord) (w mid later : Writing)
    (bytes more : List ℕ) → AreSpelled items w mid bytes
    → more ≡ bytes ++ spell_record mid.version mid.before item
    → later ≡ record mid { before = before_after mid.before item }
    → AreSpelled (items ++ item ∷ []) w later more
spelled_more items item w mid later bytes more so is next = record {
  spelled =
      is ∙ ap (λ (l : List ℕ). l ++ spell_record mid.version mid.before item) so.spelled
      ∙ ap (λ (x : Writing). spell_records w.version w.before items
      ++ spell_record x.version x.before item) so.next
      ∙ record_more w items item;
  next =
      next
      ∙ ap (λ (x : Writing). let y : Writing =
      record { version = x.version; before = before_after x.before item } in y) so.next
      ∙ ap (λ (b : Before). let y : Writing = record { version = w.version; before = b } in y)
      (sym (before_more w.before items item));
}

-- one access more
pub touch_spelled : (v : Version) (touches : List Touched) (i : ℕ) (t : Touched)
    (item : TraceRecord) (w mid later : Writing) (bytes more : List ℕ)
    → i < length touches → t ≡ get_or touches i t → item ≡ touch_record v t
    → AreSpelled (touch_records v (take i touches)) w mid bytes
    → more ≡ bytes ++ spell_record mid.version mid.before item
    → later ≡ record mid { before = before_after mid.before item }
    → AreSpelled (touch_records v (take (i + 1) touches)) w later more
touch_spelled v touches i t item w mid later bytes more below is stated so adds next =
    subst (λ (l : List TraceRecord). AreSpelled l w later more)
    (one_more v touches i t item below is stated)
    (spelled_more (touch_records v (take i touches)) item w mid later bytes more so adds next)

-- all of them
pub all_spelled : (v : Version) (touches : List Touched) (place : ℕ) (w later : Writing)
    (bytes : List ℕ) → length touches ≤ place
    → AreSpelled (touch_records v (take place touches)) w later bytes
    → AreSpelled (touch_records v touches) w later bytes
all_spelled v touches place w later bytes all so =
    subst (λ (ts : List Touched). AreSpelled (touch_records v ts) w later bytes)
    (take_all place touches all) so
