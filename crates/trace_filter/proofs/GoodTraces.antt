-- A filtered trace is a trace.
use Rattle.std.proofs.Common.{ℕ, ◌≤◌, Bool, true, false, List, [], ◌∷◌, ◌++◌, length}
use Rattle.std.proofs.Common.{Some, None, refl, sym, ap, ◌∙◌, subst, arith, length-append}
use Rattle.std.specs.List.{All}
use Rattle.std.specs.Option.{option_to_list}
use Rattle.std.specs.Prelude.{if◌then◌else◌}
use Rattle.std.proofs.lemmas.List.Elements.{All-append, All-cons, All-head, All-nil, All-tail}
use Rattle.base.specs.Touch.{Touch}
use Rattle.sharing_rules.specs.AccessLists.{AccessList}
use Rattle.sharing_rules.specs.Filtered.{filtered, is_redundant}
use Rattle.sharing_rules.specs.Laws.Lists.{by_push}
use Rattle.trace_format.specs.declared.record.TraceRecord.{TraceRecord}
use Rattle.trace_format.specs.declared.record.TraceRecord.TheVariants as records
use Rattle.trace_format.specs.declared.record.Version.TheVariants.{Three, Four}
use Rattle.trace_format.specs.Rules.{IsGoodRecord, IsGoodTrace, IsInner, longest_trace, touches_in}
use Rattle.trace_passes.specs.Passes.{Trace, spell_trace}
use Rattle.trace_filter.specs.Filtering.{filtered_item, filtered_items, filtered_trace}
use Rattle.trace_filter.proofs.FilterLaws.{filtered-push, filtered_items-push, filtered_touches}
use Rattle.trace_filter.proofs.FilterLaws.{no_access, no_record}

front_of : {A : Type 0} (P : A → Type 0) (xs ys : List A) → All P (xs ++ ys) → All P xs
front_of P [] ys is = All-nil P
front_of P (x ∷ xs) ys is = All-cons P x xs (All-head P x (xs ++ ys) is)
    (front_of P xs ys (All-tail P x (xs ++ ys) is))

back_of : {A : Type 0} (P : A → Type 0) (xs ys : List A) → All P (xs ++ ys) → All P ys
back_of P [] ys is = is
back_of P (x ∷ xs) ys is = back_of P xs ys (All-tail P x (xs ++ ys) is)

-- ---- no more accesses

at_most_one : (b : Bool) (a : Touch) → length (option_to_list (if b then None else Some a)) ≤ 1
at_most_one true a = omega arith
at_most_one false a = omega arith

pub fewer : (k : ℕ) (t : AccessList) → length (filtered k t) ≤ length t
fewer k =
    by_push (λ t. length (filtered k t) ≤ length t)
    (let none = ap length (no_access k) in omega (arith, none))
    (λ t a few.
    let one = at_most_one (is_redundant k t a) a in
    let push = ap length (filtered-push k t a)
    ∙ length-append (filtered k t) (option_to_list (if is_redundant k t a then None else Some a)) in
    omega (arith, few, one, push, length-append t (a ∷ [])))

-- ---- each record that stays is good

-- a record of an inner place that stays is the record itself
one_good : (k harts : ℕ) (t : AccessList) (item : TraceRecord) → IsInner item
    → IsGoodRecord Three harts item
    → All (IsGoodRecord Four harts) (option_to_list (filtered_item k t item))
    × All IsInner (option_to_list (filtered_item k t item))
one_good k harts t (records.Touch a pc) inner good = go (is_redundant k t a)
  where
    go : (b : Bool)
        → All (IsGoodRecord Four harts) (option_to_list (if b then None else Some (records.Touch a pc)))
        × All IsInner (option_to_list (if b then None else Some (records.Touch a pc)))
    go true = (All-nil (IsGoodRecord Four harts), All-nil IsInner)
    go false = (
      All-cons (IsGoodRecord Four harts) (records.Touch a pc) [] good (All-nil (IsGoodRecord Four harts)),
      All-cons IsInner (records.Touch a pc) [] inner (All-nil IsInner),
    )
one_good k harts t (records.Alloc addr size sites) inner good = (
  All-cons (IsGoodRecord Four harts) (records.Alloc addr size sites) [] good
      (All-nil (IsGoodRecord Four harts)),
  All-cons IsInner (records.Alloc addr size sites) [] inner (All-nil IsInner),
)
one_good k harts t (records.Free addr) inner good = (
  All-cons (IsGoodRecord Four harts) (records.Free addr) [] good (All-nil (IsGoodRecord Four harts)),
  All-cons IsInner (records.Free addr) [] inner (All-nil IsInner),
)
one_good k harts t (records.Symbol kind addr size name) inner good = (
  All-cons (IsGoodRecord Four harts) (records.Symbol kind addr size name) [] good
      (All-nil (IsGoodRecord Four harts)),
  All-cons IsInner (records.Symbol kind addr size name) [] inner (All-nil IsInner),
)
one_good k harts t (records.End e) inner good = absurd inner

all_good : (k harts : ℕ) (items : List TraceRecord) → All IsInner items
    → All (IsGoodRecord Three harts) items
    → All (IsGoodRecord Four harts) (filtered_items k items) × All IsInner (filtered_items k items)
all_good k harts =
    by_push (λ items. All IsInner items → All (IsGoodRecord Three harts) items
    → All (IsGoodRecord Four harts) (filtered_items k items) × All IsInner (filtered_items k items))
    (λ inner good. (
      subst (All (IsGoodRecord Four harts)) (sym (no_record k)) (All-nil (IsGoodRecord Four harts)),
      subst (All IsInner) (sym (no_record k)) (All-nil IsInner),
    ))
    (λ items item before inner good.
    let front = before (front_of IsInner items (item ∷ []) inner)
    (front_of (IsGoodRecord Three harts) items (item ∷ []) good) in
    let last = one_good k harts (touches_in items) item
    (All-head IsInner item [] (back_of IsInner items (item ∷ []) inner))
    (All-head (IsGoodRecord Three harts) item []
    (back_of (IsGoodRecord Three harts) items (item ∷ []) good)) in
    let kept = option_to_list (filtered_item k (touches_in items) item) in (
      subst (All (IsGoodRecord Four harts)) (sym (filtered_items-push k items item))
          (All-append (IsGoodRecord Four harts) (filtered_items k items) kept front.0 last.0),
      subst (All IsInner) (sym (filtered_items-push k items item))
          (All-append IsInner (filtered_items k items) kept front.1 last.1),
    ))

-- ---- the whole

pub good_filtered : (k : ℕ) (t : Trace) → 6 ≤ k → k ≤ 16
    → IsGoodTrace Three t.header t.items t.ending
    → length (spell_trace (filtered_trace k t)) ≤ longest_trace
    → IsGoodTrace Four (filtered_trace k t).header (filtered_trace k t).items
    (filtered_trace k t).ending
good_filtered k t low high good short =
    let all = all_good k t.header.harts t.items good.inner good.records in
    let few = fewer k (touches_in t.items) in
    let same = ap length (filtered_touches k t.items) in
    record {
      header = record {
        position = omega arith;
        some = good.header.some;
        few = good.header.few;
      };
      regions = (refl, (low, high));
      records = all.0;
      inner = all.1;
      ending = record {
        allowed = good.ending.allowed;
        outcome = good.ending.outcome;
        steps = good.ending.steps;
        accesses = omega (arith, few, good.positions);
        whole = (few, omega (arith, good.positions));
      };
      positions = omega (arith, same, few, good.positions);
      counted = sym same;
      short = short;
    }
