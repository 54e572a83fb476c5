-- Records of a list that are given one after the other.
use Rattle.std.proofs.Common.{◌≡◌, ℕ, ◌+◌, ◌<◌, List, [], ◌∷◌, ◌++◌, length, get_or, take, drop}
use Rattle.std.proofs.Common.{sym, ap, ◌∙◌, append_assoc, arith}
use Rattle.std.proofs.lemmas.List.{take-append-drop, take_more}
use Rattle.trace_format.specs.declared.record.TraceRecord.{TraceRecord}
use Rattle.trace_format.specs.Rules.{touches_in}
use Rattle.trace_format.specs.Laws.Counts.{touches_in-front}
use Rattle.trace_passes.specs.Rooms.{HasRoom}

module _ (items : List TraceRecord) (i : ℕ) (x : TraceRecord) (below : i < length items)
    (is : x ≡ get_or items i x) where
  one_more : take (i + 1) items ≡ take i items ++ x ∷ []
  one_more =
      take_more items i x below ∙ ap (λ (y : TraceRecord). take i items ++ y ∷ []) (sym is)

  pub seen_more : (seen : List TraceRecord) → (seen ++ take i items) ++ x ∷ []
      ≡ seen ++ take (i + 1) items
  seen_more seen = append_assoc seen (take i items) (x ∷ [])
      ∙ ap (λ (xs : List TraceRecord). seen ++ xs) (sym one_more)

  whole_list : (seen : List TraceRecord) → ((seen ++ take i items) ++ x ∷ []) ++ drop (i + 1) items
      ≡ seen ++ items
  whole_list seen =
      ap (λ (xs : List TraceRecord). xs ++ drop (i + 1) items) (seen_more seen)
      ∙ append_assoc seen (take (i + 1) items) (drop (i + 1) items)
      ∙ ap (λ (xs : List TraceRecord). seen ++ xs) (take-append-drop (i + 1) items)

  -- where there is room for all of them, there is for the next one
  pub room_for_one : {A : Type 0} (begins : A → ℕ → Type 0)
      (given : A → A → List TraceRecord → Type 0) (first now : A)
      → HasRoom begins given first items
      → ((begun : A) (seen : List TraceRecord) → given begun first seen
      → given begun now (seen ++ take i items))
      → HasRoom begins given now (x ∷ [])
  room_for_one begins given first now room later =
      let front = touches_in-front ((room.seen ++ take i items) ++ x ∷ []) (drop (i + 1) items) in
      let whole = ap (λ (xs : List TraceRecord). length (touches_in xs)) (whole_list room.seen) in
      let fits = room.room in
      record {
        begun = room.begun;
        first = room.first;
        seen = room.seen ++ take i items;
        begins_there = room.begins_there;
        given_so_far = later room.begun room.seen room.given_so_far;
        room = omega (arith, front, whole, fits);
      }
