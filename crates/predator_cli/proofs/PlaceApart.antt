-- The places that `place` prints keep apart what harts access.
use Rattle.std.proofs.Common.{◌≡◌, ℕ, ◌+◌, ◌<◌, List, Option, Some, Result, All}
use Rattle.std.proofs.Common.{[], sym, ap, ◌∙◌, refl, subst, arith}
use Rattle.std.proofs.lemmas.List.Elements.{All-from_recursion, All-push}
use Rattle.std.specs.Option.{option_map_or}
use Rattle.std.specs.Prelude.{IsFalse, IsTrue}
use Rattle.std.specs.Result.{result_map_both}
use Rattle.base.specs.Lines.{is_line_size, line_number}
use Rattle.command_io.specs.Works.{done_or_refused, done_with}
use Rattle.command_io.specs.declared.status.Status.TheVariants as status
use Rattle.command_line.specs.Place.{PlaceDemand}
use Rattle.placement.specs.Groups.{group_of, many_group, untouched_group}
use Rattle.placement.specs.Laws.Groups.{IsLineSize, line-sized}
use Rattle.placement.specs.Laws.Moved.{IsLineOf, in_line, line_of, one_group, owner_low}
use Rattle.placement.specs.Laws.MovedCounts.{AreHarts, area_is_many, place_alone, place_line}
use Rattle.placement.specs.Laws.Plans.{area-whole, behind-end, ends-before, in-group, places-apart}
use Rattle.placement.specs.Laws.Saved.{saved}
use Rattle.placement.specs.Laws.Stated.{stated-placed}
use Rattle.placement.specs.Laws.Words.{owners-at}
use Rattle.placement.specs.Plans.{area_start, has_room, moved_list, place, plan_of}
use Rattle.placement.specs.Sought.{is_too_large}
use Rattle.placement.specs.Texts.{place_of_records, place_text, sums_of}
use Rattle.placement.specs.Words.{first_word, owned_of, owner_in, word_count}
use Rattle.placement.specs.declared.extent.Extent.{Extent}
use Rattle.placement.specs.declared.refusal.PlaceRefusal.{PlaceRefusal}
use Rattle.saved_state.specs.Laws.GoodTracks.{hart-few}
use Rattle.sharing_rules.specs.AccessLists.{AccessList}
use Rattle.sharing_rules.specs.declared.word.Owner.{Owner}
use Rattle.sharing_rules.specs.declared.word.Owner.TheVariants as owner
use Rattle.shelf.specs.Shelf.{Files, content}
use Rattle.trace_format.specs.Rules.{IsGoodRecord, IsTrace, touches_in}
use Rattle.trace_format.specs.declared.record.TraceRecord.{TraceRecord}
use Rattle.trace_format.specs.declared.record.TraceRecord.TheVariants as records
use Rattle.trace_passes.specs.Passes.{Trace, all_records, trace_of}
use Rattle.predator_cli.specs.Apart.{AddsUp, KeepsApart, PlaceKeepsApart}
use Rattle.predator_cli.specs.Place.{Means, place_work, records_for}
use Rattle.predator_cli.proofs.GoodLaws.{of_harts}

-- what `a_trace_is_its_spelling` of trace_passes says
abbrev pub TracesAreSpelled : Type 0
TracesAreSpelled =
    (bytes : List ℕ) (t : Trace) → All (λ b. b < 256) bytes → trace_of bytes ≡ Some t
    → IsTrace bytes t.version t.header t.items t.ending

-- the harts of a trace have numbers below 256
trace_harts : TracesAreSpelled → (bytes : List ℕ) (t : Trace) → All (λ b. b < 256) bytes
    → trace_of bytes ≡ Some t → AreHarts (touches_in (all_records t))
trace_harts spelled bytes t small is =
    let good = (spelled bytes t small is).good in
    let few = good.header.few in
    let all : All (IsGoodRecord t.version t.header.harts) (all_records t) =
    All-push (IsGoodRecord t.version t.header.harts) t.items (records.End t.ending) good.records
    good.ending
    in
    λ a there.
    let low = hart-few t.header.harts (touches_in (all_records t))
    (of_harts t.version t.header.harts (all_records t) all) a there in
    omega (arith, low, few)

-- owners of one group are the same
same_owner : (o p : Owner) → ((h : ℕ) → o ≡ owner.One h → h < 256)
    → ((h : ℕ) → p ≡ owner.One h → h < 256) → group_of o ≡ group_of p → o ≡ p
unfolding many_group untouched_group
same_owner owner.None owner.None a b is = refl
same_owner owner.None (owner.One h) a b is = let few = b h refl in absurd (omega (arith, is, few))
same_owner owner.None owner.Many a b is = absurd (omega (arith, is))
same_owner (owner.One g) owner.None a b is = let few = a g refl in absurd (omega (arith, is, few))
same_owner (owner.One g) (owner.One h) a b is = ap owner.One is
same_owner (owner.One g) owner.Many a b is = let few = a g refl in absurd (omega (arith, is, few))
same_owner owner.Many owner.None a b is = absurd (omega (arith, is))
same_owner owner.Many (owner.One h) a b is = let few = b h refl in absurd (omega (arith, is, few))
same_owner owner.Many owner.Many a b is = refl

module _ (n : ℕ) (e : Extent) (t : AccessList) (sized : IsLineSize n) (harts : AreHarts t) where
  -- the line of a word's place is one of its group
  group_line : (i : ℕ) → i < word_count e
      → IsLineOf n (owned_of e t) (group_of (owner_in t (first_word e + i)))
      (line_number n 0 (place n (owned_of e t) i))
  group_line i within =
      let o = owned_of e t in
      let w : Owner = owner_in t (first_word e + i) in
      let x : ℕ = place n o i in
      let group = in-group n (area_start n o) o.owners i w sized.some (owners-at e t i within) in
      let above = group.low in
      let below = group.high in
      line_of n o (group_of w) (line_number n 0 x) x sized.some (in_line n _ x sized.some refl)
      above (omega (arith, below))

  one_owner : (i j : ℕ) → i < word_count e → j < word_count e
      → line_number n 0 (place n (owned_of e t) i) ≡ line_number n 0 (place n (owned_of e t) j)
      → owner_in t (first_word e + i) ≡ owner_in t (first_word e + j)
  one_owner i j low high same =
      let o = owned_of e t in
      let v : Owner = owner_in t (first_word e + i) in
      let w : Owner = owner_in t (first_word e + j) in
      let there : IsLineOf n o (group_of v) (line_number n 0 (place n o j)) =
      subst (IsLineOf n o (group_of v)) same (group_line i low) in
      same_owner v w (owner_low t (first_word e + i) harts) (owner_low t (first_word e + j) harts)
      (one_group n o (group_of v) (group_of w) _ sized.some there (group_line j high))

  pub keeps_apart : KeepsApart n e (place n (owned_of e t)) (λ i. owner_in t (first_word e + i)) t
      (moved_list (plan_of n (owned_of e t)) t)
  keeps_apart =
      let o = owned_of e t in
      record {
        places = λ i j low high apart. places-apart n (area_start n o) o.owners i j
            (owner_in t (first_word e + i)) (owner_in t (first_word e + j)) sized.some
            (area-whole n o sized.some) (owners-at e t i low) (owners-at e t j high) apart;
        free = λ i low. All-from_recursion _ t (ends-before (place n o i) t
            (behind-end n o i (owner_in t (first_word e + i)) sized.some (owners-at e t i low)));
        lines = one_owner;
        alone = λ i h low is. place_alone n e t i h sized low
            (owner_low t (first_word e + i) harts h is) is;
        nothing = λ i h low is. place_line n e t i h sized low
            (owner_low t (first_word e + i) harts h is) is;
      }

  pub adds_up : (let p = plan_of n (owned_of e t) in AddsUp n e p (sums_of n p t) t)
  adds_up = record {
    area = area_is_many n e t sized harts;
    saved = saved n e t sized harts;
  }

-- what is printed of the records of a trace
passed_of : (d : PlaceDemand) (files : Files) (t : Trace) (e : Extent)
    → trace_of (content files d.trace) ≡ Some t → Means d (Some e) (all_records t)
    → IsFalse (is_too_large e)
    → IsTrue (has_room d.size (owned_of e (touches_in (all_records t))))
    → place_work d files ≡ done_with (place_text d.size d.name e (touches_in (all_records t)))
passed_of d files t e is one small room =
    let items : List TraceRecord = all_records t in
    let read : records_for d files ≡ items =
    ap (λ (x : Option Trace). option_map_or all_records x []) is in
    let if_known : Result (List ℕ) PlaceRefusal → Type 0 = λ r.
    done_or_refused (result_map_both (λ text. text) status.Place r)
    ≡ done_with (place_text d.size d.name e (touches_in items)) in
    subst if_known
    (sym (ap (place_of_records d.size d.name d.at) read
    ∙ stated-placed d.size d.name d.at items e one small room)) refl

pub place_apart : TracesAreSpelled → (d : PlaceDemand) → IsTrue (is_line_size d.size)
    → (files : Files) → PlaceKeepsApart d files
unfolding place_text
place_apart spelled d allowed files =
    λ t e small is one.
    let list : AccessList = touches_in (all_records t) in
    let sized = line-sized d.size allowed in
    let harts = trace_harts spelled (content files d.trace) t small is in (
      passed_of d files t e is one,
      keeps_apart d.size e list sized harts,
      adds_up d.size e list sized harts,
    )
