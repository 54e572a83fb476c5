-- The file of a filtered trace, with records one after another.
use Rattle.std.proofs.Common.{◌≡◌, ℕ, ◌+◌, ◌<◌, List, [], ◌∷◌, ◌++◌, length, get_or, take, drop}
use Rattle.std.proofs.Common.{refl, sym, ap, ◌∙◌, subst, append_assoc, append-nil, arith}
use Rattle.std.proofs.lemmas.List.{take-append-drop, take_more}
use Rattle.shelf.specs.Shelf.{Outside}
use Rattle.trace_format.specs.declared.record.Header.{Header}
use Rattle.trace_format.specs.declared.record.TraceRecord.{TraceRecord}
use Rattle.trace_format.specs.Laws.Counts.{touches_in-front}
use Rattle.trace_format.specs.Rules.{touches_in}
use Rattle.trace_filter.specs.Files.{IsUnderWay, MayCome, MayComeAll}
use Rattle.trace_filter.specs.declared.filter_file.FilterFile.{FilterFile}

-- the first so many of some records came behind those before
pub record CameTo (items : List TraceRecord) (i : ℕ) (first now : FilterFile) (old new : Outside)
    : Type 0 where
  pub came : (k : ℕ) (name : List ℕ) (h : Header) (seen : List TraceRecord) (before : Outside)
      → IsUnderWay k name h first seen before old
      → IsUnderWay k name h now (seen ++ take i items) before new
  pub keeps_held : new.held ≡ old.held

pub came_none : (items : List TraceRecord) (f : FilterFile) (old : Outside)
    → CameTo items 0 f f old old
came_none items f old = record {
  came = λ k name h seen before came.
      subst (λ (l : List TraceRecord). IsUnderWay k name h f l before old) (sym (append-nil seen))
      came;
  keeps_held = refl;
}

pub seen_more : (items : List TraceRecord) (i : ℕ) (x : TraceRecord) → i < length items
    → x ≡ get_or items i x → (seen : List TraceRecord)
    → (seen ++ take i items) ++ x ∷ [] ≡ seen ++ take (i + 1) items
seen_more items i x below is seen =
    append_assoc seen (take i items) (x ∷ [])
    ∙ ap (λ (xs : List TraceRecord). seen ++ xs)
    (sym (take_more items i x below ∙ ap (λ (y : TraceRecord). take i items ++ y ∷ []) (sym is)))

-- one more may come
pub may_come : (items : List TraceRecord) (i : ℕ) (first now : FilterFile) (old new : Outside)
    → CameTo items i first now old new → MayComeAll first items old → MayCome now new
may_come items i first now old new to may =
    let all = may.seen ++ take i items in
    let whole : all ++ drop i items ≡ may.seen ++ items =
    append_assoc may.seen (take i items) (drop i items)
    ∙ ap (λ (l : List TraceRecord). may.seen ++ l) (take-append-drop i items) in
    let few = touches_in-front all (drop i items) in
    let same = ap (λ (l : List TraceRecord). length (touches_in l)) whole in
    record {
      k = may.k;
      name = may.name;
      header = may.header;
      seen = all;
      before = may.before;
      came = to.came may.k may.name may.header may.seen may.before may.came;
      room = omega (arith, may.room, few, same);
    }
