-- Choices of a hart that goes on: each takes one of the turns that its streak has left.
use Rattle.std.proofs.Common.{◌≡◌, ◌∙◌, ℕ, zero, suc, ◌+◌, ◌-◌, ◌<◌, ◌≤◌, Bool, true, List, []}
use Rattle.std.proofs.Common.{Option, Some, None, ap, arith, length, refl, subst, sym, true≢false}
use Rattle.std.proofs.lemmas.Bool.{and_from, eqb-true, lt-ltb}
use Rattle.std.proofs.lemmas.Bool.Decides.{nat_tests}
use Rattle.std.specs.Prelude.{nat_eq, nat_lt, IsTrue}
use Rattle.std.specs.Option.{IfSome, option_map_or}
use Rattle.hart_scheduler.specs.ScheduleParts.{AStreak}
use Rattle.hart_scheduler.specs.declared.turns.Turns.{Turns}
use Rattle.hart_scheduler.specs.declared.turns.Turns.TheVariants.{First, Round, Drawn}
use Rattle.hart_scheduler.specs.Choices.{AreOf, IsLone, Plan, choice, goes_on, is_runnable}
use Rattle.hart_scheduler.specs.Choices.{plan_after, plan_after_all, plan_with, shortened}
use Rattle.hart_scheduler.specs.ScheduleInside.{IsInOrder}
use Rattle.hart_scheduler.proofs.InTurn.{choice_able, lone_chosen}
use Rattle.hart_scheduler.proofs.Ordered.{after_chosen, plan_by, went_on}

-- a streak without so many of its turns
abbrev pub cut : ℕ → AStreak → AStreak
cut n s = record { hart = s.hart; left = s.left - n }

pub order_kept : (turns : Turns) (listed : List ℕ) (latest : AStreak) (n : ℕ)
    → IsInOrder turns listed latest → IsInOrder turns listed (cut n latest)
order_kept (First draws) listed latest n order = omega (arith, order)
order_kept Round listed latest n order = order
order_kept (Drawn draws) listed latest n order = order

-- what contracts see of it
pub cut_seen : (turns : Turns) (listed : List ℕ) (latest : AStreak) (harts quantum n : ℕ)
    → plan_by turns listed (cut n latest) harts quantum
    ≡ shortened n (plan_by turns listed latest harts quantum)
cut_seen (First draws) listed latest harts quantum n = refl
cut_seen Round listed latest harts quantum n = refl
cut_seen (Drawn draws) listed latest harts quantum n = refl

able_chosen : (runnable : List Bool) (plan : Plan) (hart : ℕ) → choice runnable plan ≡ Some hart
    → is_runnable runnable hart ≡ true
able_chosen runnable plan hart chosen =
    let P : Option ℕ → Type 0 = λ o. IfSome o (λ h. IsTrue (is_runnable runnable h)) in
    subst P chosen (choice_able runnable plan)

-- one that can run and has turns left is chosen
going-chosen : (runnable : List Bool) (turns : Turns) (listed : List ℕ) (latest : AStreak)
    (harts quantum : ℕ) → IsInOrder turns listed latest
    → is_runnable runnable latest.hart ≡ true → nat_lt 0 latest.left ≡ true
    → choice runnable (plan_by turns listed latest harts quantum) ≡ Some latest.hart
going-chosen runnable (First draws) listed latest harts quantum order able left =
    absurd (true≢false (sym (rw order at left)))
going-chosen runnable Round listed latest harts quantum order able left =
    let on : goes_on runnable latest ≡ true = and_from _ _ able left in
    rw (order, on) refl
going-chosen runnable (Drawn draws) listed latest harts quantum order able left =
    let on : goes_on runnable latest ≡ true = and_from _ _ able left in
    rw (order, on) refl

own-test : (n : ℕ) → nat_eq n n ≡ true
own-test n = grind (arith, nat_tests)

one-less : (n : ℕ) (s : AStreak) → cut 1 (cut n s) ≡ cut (suc n) s
one-less n s =
    let e : s.left - n - 1 ≡ s.left - suc n = omega arith in
    ap (λ (left : ℕ). let t : AStreak = record { hart = s.hart; left = left } in t) e

none-less : (s : AStreak) → s ≡ cut 0 s
none-less s =
    let e : s.left ≡ s.left - 0 = omega arith in
    ap (λ (left : ℕ). let t : AStreak = record { hart = s.hart; left = left } in t) e

-- of one that can run each choice takes a turn while it has any
pub all_shorter : (runnable : List Bool) (turns : Turns) (listed : List ℕ) (latest : AStreak)
    (harts quantum n : ℕ) → IsInOrder turns listed latest
    → is_runnable runnable latest.hart ≡ true → n ≤ latest.left
    → plan_after_all runnable n (plan_by turns listed latest harts quantum)
    ≡ plan_by turns listed (cut n latest) harts quantum
all_shorter runnable turns listed latest harts quantum zero order able few =
    ap (λ (s : AStreak). plan_by turns listed s harts quantum) (none-less latest)
all_shorter runnable turns listed latest harts quantum (suc n) order able few =
    let before = plan_by turns listed (cut n latest) harts quantum in
    let kept : IsInOrder turns listed (cut n latest) = order_kept turns listed latest n order in
    let left : nat_lt 0 (latest.left - n) ≡ true = lt-ltb 0 (latest.left - n) (omega (arith, few)) in
    let chosen : choice runnable before ≡ Some latest.hart =
    going-chosen runnable turns listed (cut n latest) harts quantum kept able left in
    ap (λ (plan : Plan). plan_after runnable plan)
    (all_shorter runnable turns listed latest harts quantum n order able (omega (arith, few)))
    ∙ sym (after_chosen runnable before latest.hart chosen)
    ∙ sym (went_on runnable turns listed (cut n latest) harts quantum latest.hart kept chosen
    (and_from _ _ (own-test latest.hart) left))
    ∙ ap (λ (s : AStreak). plan_by turns listed s harts quantum) (one-less n latest)

-- so its turns that are left are sure
pub left_sure : (runnable : List Bool) (turns : Turns) (listed : List ℕ) (latest : AStreak)
    (harts quantum : ℕ) → IsInOrder turns listed latest
    → is_runnable runnable latest.hart ≡ true
    → AreOf runnable (plan_by turns listed latest harts quantum) latest.left latest.hart
left_sure runnable turns listed latest harts quantum order able = λ k below.
    let left : nat_lt 0 (latest.left - k) ≡ true = lt-ltb 0 (latest.left - k)
    (omega (arith, below)) in
    ap (λ (plan : Plan). choice runnable plan)
    (all_shorter runnable turns listed latest harts quantum k order able (omega (arith, below)))
    ∙ going-chosen runnable turns listed (cut k latest) harts quantum
    (order_kept turns listed latest k order) able left

-- where turns go round, each choice of the hart in turn takes a turn, or finds none left
round-one : (runnable : List Bool) (listed : List ℕ) (latest : AStreak) (harts quantum : ℕ)
    → listed ≡ []
    → plan_with runnable (plan_by Round listed latest harts quantum) latest.hart
    ≡ plan_by Round listed (cut 1 latest) harts quantum
round-one runnable listed latest harts quantum over = rw (over, own-test latest.hart) refl

pub round_shorter : (runnable : List Bool) (listed : List ℕ) (latest : AStreak)
    (harts quantum n : ℕ) → listed ≡ []
    → AreOf runnable (plan_by Round listed latest harts quantum) n latest.hart
    → plan_after_all runnable n (plan_by Round listed latest harts quantum)
    ≡ plan_by Round listed (cut n latest) harts quantum
round_shorter runnable listed latest harts quantum zero over own =
    ap (λ (s : AStreak). plan_by Round listed s harts quantum) (none-less latest)
round_shorter runnable listed latest harts quantum (suc n) over own =
    let start = plan_by Round listed latest harts quantum in
    let before = plan_after_all runnable n start in
    let so_far : before ≡ plan_by Round listed (cut n latest) harts quantum =
    round_shorter runnable listed latest harts quantum n over
    (λ k below. own k (omega (arith, below))) in
    sym (after_chosen runnable before latest.hart (own n (omega arith)))
    ∙ ap (λ (plan : Plan). plan_with runnable plan latest.hart) so_far
    ∙ round-one runnable listed (cut n latest) harts quantum over
    ∙ ap (λ (s : AStreak). plan_by Round listed s harts quantum) (one-less n latest)

-- where all of them are of the hart, it can run
pub own_shorter : (runnable : List Bool) (turns : Turns) (listed : List ℕ) (latest : AStreak)
    (harts quantum n : ℕ) → IsInOrder turns listed latest → n ≤ latest.left
    → AreOf runnable (plan_by turns listed latest harts quantum) n latest.hart
    → plan_after_all runnable n (plan_by turns listed latest harts quantum)
    ≡ plan_by turns listed (cut n latest) harts quantum
own_shorter runnable turns listed latest harts quantum zero order few own =
    ap (λ (s : AStreak). plan_by turns listed s harts quantum) (none-less latest)
own_shorter runnable turns listed latest harts quantum (suc n) order few own =
    all_shorter runnable turns listed latest harts quantum (suc n) order
    (able_chosen runnable (plan_by turns listed latest harts quantum) latest.hart
    (own 0 (omega arith))) few

-- the same of a plan that is seen so
pub only_shorter : (runnable : List Bool) (turns : Turns) (listed : List ℕ) (latest : AStreak)
    (harts quantum hart n : ℕ) (plan : Plan) → IsInOrder turns listed latest
    → plan_by turns listed latest harts quantum ≡ plan → nat_eq latest.hart hart ≡ true
    → n ≤ latest.left → AreOf runnable plan n hart
    → shortened n plan ≡ plan_after_all runnable n plan
only_shorter runnable turns listed latest harts quantum hart n plan order is own few all =
    let start = plan_by turns listed latest harts quantum in
    let same : latest.hart ≡ hart = eqb-true _ _ own in
    let P : Plan → Type 0 = λ p. AreOf runnable p n hart in
    let H : ℕ → Type 0 = λ h. AreOf runnable start n h in
    let Q : Plan → Type 0 = λ p. shortened n p ≡ plan_after_all runnable n p in
    subst Q is
    (sym (cut_seen turns listed latest harts quantum n)
    ∙ sym (own_shorter runnable turns listed latest harts quantum n order few
    (subst H (sym same) (subst P (sym is) all))))

pub only_rounds : (runnable : List Bool) (turns : Turns) (listed : List ℕ) (latest : AStreak)
    (harts quantum hart n : ℕ) (plan : Plan) → turns ≡ Round → IsInOrder turns listed latest
    → plan_by turns listed latest harts quantum ≡ plan → nat_eq latest.hart hart ≡ true
    → AreOf runnable plan n hart
    → shortened n plan ≡ plan_after_all runnable n plan
only_rounds runnable (First draws) listed latest harts quantum hart n plan round order is own all =
    absurd (cc)
only_rounds runnable Round listed latest harts quantum hart n plan round order is own all =
    let start = plan_by Round listed latest harts quantum in
    let same : latest.hart ≡ hart = eqb-true _ _ own in
    let P : Plan → Type 0 = λ p. AreOf runnable p n hart in
    let H : ℕ → Type 0 = λ h. AreOf runnable start n h in
    let Q : Plan → Type 0 = λ p. shortened n p ≡ plan_after_all runnable n p in
    subst Q is
    (sym (cut_seen Round listed latest harts quantum n)
    ∙ sym (round_shorter runnable listed latest harts quantum n order
    (subst H (sym same) (subst P (sym is) all))))
only_rounds runnable (Drawn draws) listed latest harts quantum hart n plan round order is own all =
    absurd (cc)

pub left_of : (runnable : List Bool) (turns : Turns) (listed : List ℕ) (latest : AStreak)
    (harts quantum hart n : ℕ) (plan : Plan) → IsInOrder turns listed latest
    → plan_by turns listed latest harts quantum ≡ plan → nat_eq latest.hart hart ≡ true
    → n ≡ latest.left → is_runnable runnable hart ≡ true
    → AreOf runnable plan n hart
left_of runnable turns listed latest harts quantum hart n plan order is own all able =
    let start = plan_by turns listed latest harts quantum in
    let same : latest.hart ≡ hart = eqb-true _ _ own in
    let R : ℕ → Type 0 = λ h. is_runnable runnable h ≡ true in
    let H : ℕ → Type 0 = λ h. AreOf runnable start latest.left h in
    let N : ℕ → Type 0 = λ m. AreOf runnable start m hart in
    let P : Plan → Type 0 = λ p. AreOf runnable p n hart in
    subst P is
    (subst N (sym all)
    (subst H same
    (left_sure runnable turns listed latest harts quantum order (subst R (sym same) able))))

-- no choice changes for how many harts a plan is
one-harts : (o : Option ℕ) (runnable : List Bool) (plan : Plan)
    → (option_map_or (plan_with runnable plan) o plan).harts ≡ plan.harts
one-harts None runnable plan = refl
one-harts (Some hart) runnable plan = refl

all-harts : (runnable : List Bool) (n : ℕ) (plan : Plan)
    → (plan_after_all runnable n plan).harts ≡ plan.harts
all-harts runnable zero plan = refl
all-harts runnable (suc n) plan =
    let before = plan_after_all runnable n plan in
    one-harts (choice runnable before) runnable before ∙ all-harts runnable n plan

pub lone_all : (runnable : List Bool) (plan : Plan) (hart n : ℕ) → length runnable ≡ plan.harts
    → IsLone runnable hart
    → AreOf runnable plan n hart
lone_all runnable plan hart n all lone = λ k below.
    lone_chosen runnable (plan_after_all runnable k plan) hart
    (all ∙ sym (all-harts runnable k plan)) lone

-- so many choices, and then so many more
pub all_after : (runnable : List Bool) (m n : ℕ) (plan : Plan)
    → plan_after_all runnable n (plan_after_all runnable m plan)
    ≡ plan_after_all runnable (m + n) plan
all_after runnable m zero plan =
    let e : m ≡ m + 0 = omega arith in
    ap (λ (k : ℕ). plan_after_all runnable k plan) e
all_after runnable m (suc n) plan =
    let e : suc (m + n) ≡ m + suc n = omega arith in
    ap (λ (p : Plan). plan_after runnable p) (all_after runnable m n plan)
    ∙ ap (λ (k : ℕ). plan_after_all runnable k plan) e

-- those that are left are of the hart too
pub rest_of_hart : (runnable : List Bool) (plan : Plan) (turns made hart : ℕ)
    → AreOf runnable plan turns hart
    → AreOf runnable (plan_after_all runnable made plan) (turns - made) hart
rest_of_hart runnable plan turns made hart all = λ k below.
    ap (λ (p : Plan). choice runnable p) (all_after runnable made k plan)
    ∙ all (made + k) (omega (arith, below))

pub all_made : (runnable : List Bool) (plan now new : Plan) (turns made : ℕ)
    → now ≡ plan_after_all runnable made plan → made < turns
    → shortened (turns - made) now ≡ plan_after_all runnable (turns - made) now
    → new ≡ shortened (turns - made) now
    → new ≡ plan_after_all runnable turns plan
all_made runnable plan now new turns made so_far below short is =
    let e : made + (turns - made) ≡ turns = omega (arith, below) in
    is ∙ short ∙ ap (λ (p : Plan). plan_after_all runnable (turns - made) p) so_far
    ∙ all_after runnable made (turns - made) plan
    ∙ ap (λ (k : ℕ). plan_after_all runnable k plan) e
