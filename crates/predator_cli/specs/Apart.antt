-- What is promised of `place`: the places that it prints keep apart what harts access, and its
-- counts add up.
use Rattle.std.specs.Prelude.{◌≡◌, ◌≢◌, ℕ, ◌+◌, ◌<◌, ◌≤◌, All, IsFalse, IsTrue, Some}
use Rattle.base.specs.Lines.{line_number}
use Rattle.base.specs.TextLines.{text_of}
use Rattle.base.specs.Touch.{word_of}
use Rattle.command_io.specs.Works.{done_with}
use Rattle.command_line.specs.Place.{PlaceDemand}
use Rattle.placement.specs.ObjectLines.{HasLinesToItself, object_total}
use Rattle.placement.specs.Plans.{Planned, has_room, moved_list, place, plan_of}
use Rattle.placement.specs.Recounts.{area_count}
use Rattle.placement.specs.Sought.{is_too_large}
use Rattle.placement.specs.Texts.{place_lines, sums_of}
use Rattle.placement.specs.Words.{Owned, first_word, owned_of, owner_in, word_count}
use Rattle.placement.specs.declared.extent.Extent.{Extent}
use Rattle.placement.specs.declared.sums.Sums.{Sums}
use Rattle.sharing_rules.specs.AccessLists.{AccessList}
use Rattle.sharing_rules.specs.Lines.{line_at, native_grid}
use Rattle.sharing_rules.specs.Recounts.{recount}
use Rattle.sharing_rules.specs.declared.word.Owner.{Owner}
use Rattle.sharing_rules.specs.declared.word.Owner.TheVariants.{One}
use Rattle.shelf.specs.Shelf.{Files, content}
use Rattle.trace_format.specs.Rules.{touches_in}
use Rattle.trace_passes.specs.Passes.{Trace, all_records, trace_of}
use Rattle.predator_cli.specs.Place.{Means, place_work}

-- The words of an object keep apart under lines of n bytes. `to` is where each of them goes, `who`
-- its owner, and u is the list t with its accesses moved.
pub record KeepsApart (n : ℕ) (e : Extent) (to : ℕ → ℕ) (who : ℕ → Owner) (t u : AccessList)
    : Type 0 where
  -- no two words have the same place
  pub places : (i j : ℕ) → i < word_count e → j < word_count e → i ≢ j → to i ≢ to j
  -- no place lies in a word that is accessed, nor before one
  pub free : (i : ℕ) → i < word_count e → All (λ a. word_of a.addr + 4 ≤ to i) t
  -- words on one line have the same owner: one hart, or many, or none
  pub lines : (i j : ℕ) → i < word_count e → j < word_count e
      → line_number n 0 (to i) ≡ line_number n 0 (to j) → who i ≡ who j
  -- to the line of a word of one hart no other hart comes
  pub alone : (i h : ℕ) → i < word_count e → who i ≡ One h
      → All (λ a. line_number n 0 a.addr ≡ line_number n 0 (to i) → a.hart ≡ h) u
  -- and so it counts nothing
  pub nothing : (i h : ℕ) → i < word_count e → who i ≡ One h
      → recount (line_at (native_grid n) (to i)) u ≡ 0

-- What is counted in the area is the part of many harts. Where the object has its lines to itself,
-- all that they counted is saved but for that part.
pub record AddsUp (n : ℕ) (e : Extent) (p : Planned) (sums : Sums) (t : AccessList) : Type 0 where
  pub area : area_count n p t ≡ sums.many
  pub saved : HasLinesToItself n e t → sums.before + sums.many ≡ sums.after + object_total n e t

-- where the object can be placed, what is printed are the places of a plan and these sums
abbrev pub IsPrinted : PlaceDemand → Files → Owned → Planned → Sums → Type 0
IsPrinted demand files o p sums =
    IsFalse (is_too_large o.extent) → IsTrue (has_room demand.size o)
    → place_work demand files
    ≡ done_with (text_of (place_lines demand.size demand.name o p sums))

-- Where the file is a trace, and the name means an object there, the printed places keep the words
-- of the object apart, and the printed counts add up.
abbrev pub PlaceKeepsApart : PlaceDemand → Files → Type 0
PlaceKeepsApart demand files =
    (trace : Trace) (e : Extent) → All (λ b. b < 256) (content files demand.trace)
    → trace_of (content files demand.trace) ≡ Some trace
    → Means demand (Some e) (all_records trace)
    → (let n = demand.size in
    let t = touches_in (all_records trace) in
    let o = owned_of e t in
    let p = plan_of n o in
    let sums = sums_of n p t in
    IsPrinted demand files o p sums
    × KeepsApart n e (place n o) (λ i. owner_in t (first_word e + i)) t (moved_list p t)
    × AddsUp n e p sums t)
