-- The text of a placement: where each touched word of an object goes, and what that comes to.
use Rattle.std.specs.Prelude.{ℕ, ◌+◌, ◌*◌, List, [], ◌∷◌, ◌++◌, codes, filter_map, length, Option}
use Rattle.std.specs.Prelude.{Some, None, option_and_then, option_map, pos, slice_get, Result, Ok, Err}
use Rattle.std.specs.Prelude.{if◌then◌else◌}
use Rattle.std.specs.Fmt.{decimal}
use Rattle.std.specs.Option.{option_map_or}
use Rattle.base.specs.Addresses.{address_text}
use Rattle.base.specs.PrintedNames.{name_text}
use Rattle.base.specs.TextLines.{text_of}
use Rattle.sharing_rules.specs.AccessLists.{AccessList}
use Rattle.sharing_rules.specs.Places.{below}
use Rattle.sharing_rules.specs.declared.word.Owner.{Owner}
use Rattle.sharing_rules.specs.declared.word.Owner.TheVariants as owner
use Rattle.trace_format.specs.Rules.{touches_in}
use Rattle.trace_format.specs.declared.record.TraceRecord.{TraceRecord}
use Rattle.placement.specs.Plans.{Planned, has_room, plan_of}
use Rattle.placement.specs.Recounts.{many_count, total_after, total_before}
use Rattle.placement.specs.Sought.{is_too_large, object_of}
use Rattle.placement.specs.Words.{Owned, first_word, owned_of}
use Rattle.placement.specs.declared.extent.Extent.{Extent}
use Rattle.placement.specs.declared.refusal.PlaceRefusal.{PlaceRefusal}
use Rattle.placement.specs.declared.refusal.PlaceRefusal.TheVariants as refusals
pub use Rattle.placement.specs.declared.sums.Sums.{Sums}

-- a line, as its words
abbrev pub TextLine : Type 0
TextLine = List (List ℕ)

abbrev pub address_word : ℕ → List ℕ
address_word at = address_text (pos at)

-- the object, the line size, and how many words the object has
abbrev pub head_lines : ℕ → List ℕ → Extent → ℕ → List TextLine
head_lines n name e words =
    (codes "place" ∷ name_text name ∷ address_word e.addr ∷ decimal e.size
    ∷ codes "line" ∷ decimal n ∷ [])
    ∷ (codes "words" ∷ decimal words ∷ []) ∷ []

-- who touches a word, None where no one does
abbrev pub owner_words : Owner → Option TextLine
owner_words owner.None = None
owner_words (owner.One h) = Some (codes "hart" ∷ decimal h ∷ [])
owner_words owner.Many = Some (codes "many" ∷ [])

abbrev pub word_line : ℕ → ℕ → TextLine → TextLine
word_line from to owner =
    codes "word" ∷ address_word from ∷ codes "to" ∷ address_word to ∷ owner

-- the line of word i, if it is touched
abbrev pub touched_line : Owned → Planned → ℕ → Option TextLine
touched_line o p i =
    option_and_then (λ w. option_and_then (λ to.
    option_map (word_line (4 * (first_word o.extent + i)) to) (owner_words w))
    (slice_get p.places i)) (slice_get o.owners i)

abbrev pub touched_lines : Owned → Planned → List TextLine
touched_lines o p = filter_map (touched_line o p) (below (length o.owners))

abbrev pub end_lines : Planned → Sums → List TextLine
end_lines p sums =
    (codes "area" ∷ address_word p.start ∷ decimal p.size ∷ [])
    ∷ (codes "before" ∷ decimal sums.before ∷ [])
    ∷ (codes "after" ∷ decimal sums.after ∷ [])
    ∷ (codes "many" ∷ decimal sums.many ∷ [])
    ∷ (codes "end" ∷ []) ∷ []

abbrev pub place_lines : ℕ → List ℕ → Owned → Planned → Sums → List TextLine
place_lines n name o p sums =
    head_lines n name o.extent (length o.owners) ++ touched_lines o p ++ end_lines p sums

-- what a plan comes to for a list
abbrev pub sums_of : ℕ → Planned → AccessList → Sums
sums_of n p t = record {
  before = total_before n t;
  after = total_after n p t;
  many = many_count n p t;
}

-- of an object and a list, under lines of n bytes
unfoldable pub place_text : ℕ → List ℕ → Extent → AccessList → List ℕ
place_text n name e t =
    let o : Owned = owned_of e t in
    let p : Planned = plan_of n o in
    text_of (place_lines n name o p (sums_of n p t))

-- the text for an object that was found, unless there is no room behind the accesses
abbrev pub placed : ℕ → List ℕ → AccessList → Extent → Result (List ℕ) PlaceRefusal
placed n name t e =
    if is_too_large e then Err refusals.TooLarge
    else if has_room n (owned_of e t) then Ok (place_text n name e t)
    else Err refusals.NoRoom

-- What is reported of a list of records under lines of n bytes, or why no place is reported: for
-- the object that a name means, or an address where the name is one.
abbrev pub place_of_records : ℕ → List ℕ → Option ℕ → List TraceRecord
    → Result (List ℕ) PlaceRefusal
place_of_records n name at items =
    option_map_or (placed n name (touches_in items)) (object_of name at items)
    (Err refusals.NoObject)
