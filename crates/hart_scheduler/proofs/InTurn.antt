-- Choices after the list: where there is none, no hart is runnable, and the one that is made is
-- runnable.
use Rattle.std.proofs.Common.{◌≡◌, ℕ, zero, suc, ◌+◌, ◌-◌, ◌<◌, ◌≤◌, Bool, true, false, List, []}
use Rattle.std.proofs.Common.{◌∷◌, ◌++◌, length, Option, Some, None, refl}
use Rattle.std.proofs.Common.{sym, ap, subst, ◌∙◌, inl, inr, arith}
use Rattle.std.proofs.lemmas.Bool.{both_ways, cases_Bool, cases_eq, cases_lt, and_left, and_parts}
use Rattle.std.proofs.lemmas.Bool.{or_parts}
use Rattle.std.proofs.lemmas.List.{get_or_past}
use Rattle.std.proofs.lemmas.List.Folds.{find-append}
use Rattle.std.proofs.lemmas.Option.{none-some}
use Rattle.std.specs.Prelude.{◌↔◌, ◌||◌, IsTrue}
use Rattle.std.specs.List.{find, range_with_len}
use Rattle.std.specs.Option.{option_or, option_map_or, IfSome}
use Rattle.hart_scheduler.specs.ScheduleParts.{AStreak}
use Rattle.hart_scheduler.specs.Choices.{Plan, is_runnable, IsLone, NoneRunnable, harts_after}
use Rattle.hart_scheduler.specs.Choices.{goes_on, choice_after, harts_in_order, going_on}
use Rattle.hart_scheduler.specs.Choices.{drawn_hart, choice}
use Rattle.hart_scheduler.specs.Draws.{next_state, number_in}
use Rattle.hart_scheduler.proofs.Drawn.{no_hart-found, no_hart-drawn, drawn_runs}

option_or-none : (first second : Option ℕ) → option_or first second ≡ None → (first ≡ None)
    × (second ≡ None)
option_or-none None second none = (refl, none)
option_or-none (Some x) second none = absurd (none-some x (sym none))

module _ (p : ℕ → Bool) where
  find-none : (xs : List ℕ) → ((x : ℕ) → p x ≡ false) → find p xs ≡ None
  find-none [] miss = refl
  find-none (x ∷ xs) miss = rw (miss x) (find-none xs miss)

  none-in-range : (n a x : ℕ) → find p (range_with_len a n) ≡ None → a ≤ x → x < a + n → p x ≡ false
  none-in-range zero a x none from below = absurd (omega arith)
  none-in-range (suc n) a x none from below =
      elim (cases_Bool (p a)) [
        | inl hit ↦ absurd (none-some a (sym (rw hit at none)))
        | inr miss ↦ elim (cases_lt a x) [
          | inl later ↦ none-in-range n (a + 1) x (rw miss at none) (omega arith) (omega arith)
          | inr same ↦ let e : x ≡ a = omega arith in rw e miss
        ]
      ]

  found-passes : (xs : List ℕ) → IfSome (find p xs) (λ x. p x ≡ true)
  found-passes [] = tt
  found-passes (x ∷ xs) =
      elim (cases_Bool (p x)) [
        | inl hit ↦ rw hit hit
        | inr miss ↦ rw miss (found-passes xs)
      ]

  range-past : (a end : ℕ) → a < end → p a ≡ false → find p (range_with_len a (end - a))
      ≡ find p (range_with_len (a + 1) (end - (a + 1)))
  range-past a end below miss = let e : end - a ≡ suc (end - (a + 1)) = omega arith in
      rw e (rw miss refl)

pub range_past : (runnable : List Bool) (a end : ℕ) → a < end → is_runnable runnable a ≡ false
    → find (is_runnable runnable) (range_with_len a (end - a)) ≡ find (is_runnable runnable)
    (range_with_len (a + 1) (end - (a + 1)))
range_past runnable a end below miss = range-past (is_runnable runnable) a end below miss

-- four harts that aren't runnable make no difference
pub four_past : (runnable : List Bool) (a end : ℕ) → a + 4 ≤ end
    → (is_runnable runnable a || is_runnable runnable (a + 1) || is_runnable runnable (a + 2)
    || is_runnable runnable (a + 3)) ≡ false
    → find (is_runnable runnable) (range_with_len a (end - a)) ≡ find (is_runnable runnable)
    (range_with_len (a + 4) (end - (a + 4)))
four_past runnable a end below idle =
    let p = is_runnable runnable in
    let three : ((p a || p (a + 1) || p (a + 2)) ≡ false) × (p (a + 3) ≡ false) = or_parts _ _ idle
    in
    let two : ((p a || p (a + 1)) ≡ false) × (p (a + 2) ≡ false) = or_parts _ _ three.0 in
    let one : (p a ≡ false) × (p (a + 1) ≡ false) = or_parts _ _ two.0 in
    let e1 : a + 1 + 1 ≡ a + 2 = omega arith in
    let e2 : a + 2 + 1 ≡ a + 3 = omega arith in
    let e3 : a + 3 + 1 ≡ a + 4 = omega arith in
    range-past p a end (omega arith) one.0 ∙ range-past p (a + 1) end (omega arith) one.1
    ∙ ap (λ n. find p (range_with_len n (end - n))) e1
    ∙ range-past p (a + 2) end (omega arith) two.1
    ∙ ap (λ n. find p (range_with_len n (end - n))) e2
    ∙ range-past p (a + 3) end (omega arith) three.1
    ∙ ap (λ n. find p (range_with_len n (end - n))) e3

-- the first of a range and then of another
pub first_of : (runnable : List Bool) (from harts : ℕ) (first second : Option ℕ)
    → first ≡ find (is_runnable runnable) (range_with_len from (harts - from))
    → second ≡ find (is_runnable runnable) (range_with_len 0 (from - 0))
    → option_or first second
    ≡ find (is_runnable runnable) (range_with_len from (harts - from) ++ range_with_len 0 from)
first_of runnable from harts first second is_first is_second =
    let z : from - 0 ≡ from = omega arith in
    rw (is_first, is_second, z)
    (sym (find-append (is_runnable runnable) (range_with_len from (harts - from))
    (range_with_len 0 from)))

-- the one after a hart is found at once where it is runnable
pub next_found : (runnable : List Bool) (harts hart : ℕ) → hart + 1 < harts
    → is_runnable runnable (hart + 1) ≡ true
    → Some (hart + 1) ≡ find (is_runnable runnable) (harts_after harts hart)
next_found runnable harts hart below able =
    let e : harts - (hart + 1) ≡ suc (harts - (hart + 1) - 1) = omega arith in
    rw e (rw able refl)

-- no hart is runnable where there is no choice in turn
none-in-order : (runnable : List Bool) (harts : ℕ) → length runnable ≡ harts
    → find (is_runnable runnable) (range_with_len 0 harts) ≡ None
    → NoneRunnable runnable
none-in-order runnable harts all none = λ hart.
    elim (cases_lt hart harts) [
      | inl below ↦ none-in-range (is_runnable runnable) harts 0 hart none (omega arith)
          (omega arith)
      | inr past ↦ get_or_past runnable hart false (omega arith)
    ]

none-after : (runnable : List Bool) (harts n : ℕ) → length runnable ≡ harts
    → find (is_runnable runnable) (harts_after harts n) ≡ None
    → NoneRunnable runnable
none-after runnable harts n all none = λ hart.
    let above = find (is_runnable runnable) (range_with_len (n + 1) (harts - (n + 1))) in
    let rest = find (is_runnable runnable) (range_with_len 0 (n + 1)) in
    let parts : (above ≡ None) × (rest ≡ None) = option_or-none above rest
    (sym (find-append (is_runnable runnable) (range_with_len (n + 1) (harts - (n + 1)))
    (range_with_len 0 (n + 1))) ∙ none) in
    elim (cases_lt hart (n + 1)) [
      | inl below ↦ none-in-range (is_runnable runnable) (n + 1) 0 hart parts.1 (omega arith)
          (omega arith)
      | inr past ↦ elim (cases_lt hart harts) [
        | inl inside ↦ none-in-range (is_runnable runnable) (harts - (n + 1)) (n + 1) hart parts.0
            past (omega arith)
        | inr outside ↦ get_or_past runnable hart false (omega arith)
      ]
    ]

none-after-streak : (runnable : List Bool) (harts : ℕ) (streak : AStreak) → length runnable ≡ harts
    → choice_after runnable harts streak ≡ None → NoneRunnable runnable
none-after-streak runnable harts streak all none =
    elim (cases_Bool (goes_on runnable streak)) [
      | inl on ↦ absurd (none-some streak.hart (sym (rw on at none)))
      | inr off ↦ none-after runnable harts streak.hart all (rw off at none)
    ]

abbrev first_in_turn : List Bool → ℕ → Option AStreak → Option ℕ
first_in_turn runnable harts streak =
    option_map_or (choice_after runnable harts) streak
    (find (is_runnable runnable) (harts_in_order harts))

none-in-turn : (runnable : List Bool) (harts : ℕ) (streak : Option AStreak)
    → length runnable ≡ harts → first_in_turn runnable harts streak ≡ None → NoneRunnable runnable
none-in-turn runnable harts None all none = none-in-order runnable harts all none
none-in-turn runnable harts (Some streak) all none = none-after-streak runnable harts streak all
    none

-- and there is none where no hart is runnable
off-where-none : (runnable : List Bool) (streak : AStreak) → NoneRunnable runnable
    → goes_on runnable streak ≡ false
off-where-none runnable streak none = and_left _ _ (none streak.hart)

in-turn-none : (runnable : List Bool) (harts : ℕ) (streak : Option AStreak) → NoneRunnable runnable
    → first_in_turn runnable harts streak ≡ None
in-turn-none runnable harts None none = find-none (is_runnable runnable) (range_with_len 0 harts)
    none
in-turn-none runnable harts (Some streak) none =
    let off : goes_on runnable streak ≡ false = off-where-none runnable streak none in
    rw off (find-none (is_runnable runnable) (harts_after harts streak.hart) none)

-- the same where turns are drawn
abbrev first_drawn : List Bool → ℕ → Option AStreak → ℕ → Option ℕ
first_drawn runnable harts streak state =
    option_map_or (λ s. Some s.hart) (going_on runnable streak)
    (drawn_hart runnable harts (number_in (next_state state)))

none-drawn : (runnable : List Bool) (harts : ℕ) (streak : Option AStreak) (state : ℕ)
    → length runnable ≡ harts → first_drawn runnable harts streak state ≡ None
    → NoneRunnable runnable
none-drawn runnable harts None state all none = none-in-order runnable harts all
    (no_hart-found runnable harts _ none)
none-drawn runnable harts (Some streak) state all none =
    elim (cases_Bool (goes_on runnable streak)) [
      | inl on ↦ absurd (none-some streak.hart (sym (rw on at none)))
      | inr off ↦ none-in-order runnable harts all (no_hart-found runnable harts _ (rw off at none))
    ]

drawn-none : (runnable : List Bool) (harts : ℕ) (streak : Option AStreak) (state : ℕ)
    → NoneRunnable runnable → first_drawn runnable harts streak state ≡ None
drawn-none runnable harts None state none = no_hart-drawn runnable harts _ none
drawn-none runnable harts (Some streak) state none =
    let off : goes_on runnable streak ≡ false = off-where-none runnable streak none in
    rw off (no_hart-drawn runnable harts (number_in (next_state state)) none)

-- and so after the list
abbrev first_after_list : List Bool → ℕ → Option AStreak → Option ℕ → Option ℕ
first_after_list runnable harts streak draws =
    option_map_or (first_drawn runnable harts streak) draws (first_in_turn runnable harts streak)

none-after-list : (runnable : List Bool) (harts : ℕ) (streak : Option AStreak) (draws : Option ℕ)
    → length runnable ≡ harts → first_after_list runnable harts streak draws ≡ None
    → NoneRunnable runnable
none-after-list runnable harts streak None all none = none-in-turn runnable harts streak all none
none-after-list runnable harts streak (Some state) all none = none-drawn runnable harts streak state
    all none

after-list-none : (runnable : List Bool) (harts : ℕ) (streak : Option AStreak) (draws : Option ℕ)
    → NoneRunnable runnable → first_after_list runnable harts streak draws ≡ None
after-list-none runnable harts streak None none = in-turn-none runnable harts streak none
after-list-none runnable harts streak (Some state) none = drawn-none runnable harts streak state
    none

pub choice_none : (runnable : List Bool) (plan : Plan) → length runnable ≡ plan.harts
    → (choice runnable plan ≡ None)
    ↔ NoneRunnable runnable
choice_none runnable plan all = (
  (λ none. none-after-list runnable plan.harts plan.streak plan.draws all
      (option_or-none _ _ none).1),
  (λ none. let listed : find (is_runnable runnable) plan.listed
      ≡ None = find-none (is_runnable runnable) plan.listed none in
      rw listed (after-list-none runnable plan.harts plan.streak plan.draws none)),
)

-- what is chosen is runnable
able-after : (runnable : List Bool) (harts : ℕ) (streak : AStreak)
    → IfSome (choice_after runnable harts streak)
    (λ hart. IsTrue (is_runnable runnable hart))
able-after runnable harts streak =
    elim (cases_Bool (goes_on runnable streak)) [
      | inl on ↦ rw on (and_parts _ _ on).0
      | inr off ↦ rw off (found-passes (is_runnable runnable) (harts_after harts streak.hart))
    ]

able-in-turn : (runnable : List Bool) (harts : ℕ) (streak : Option AStreak)
    → IfSome (first_in_turn runnable harts streak) (λ hart. IsTrue (is_runnable runnable hart))
able-in-turn runnable harts None = found-passes (is_runnable runnable) (range_with_len 0 harts)
able-in-turn runnable harts (Some streak) = able-after runnable harts streak

able-drawn : (runnable : List Bool) (harts : ℕ) (streak : Option AStreak) (state : ℕ)
    → IfSome (first_drawn runnable harts streak state)
    (λ hart. IsTrue (is_runnable runnable hart))
able-drawn runnable harts None state = drawn_runs runnable harts _
able-drawn runnable harts (Some streak) state =
    elim (cases_Bool (goes_on runnable streak)) [
      | inl on ↦ rw on (and_parts _ _ on).0
      | inr off ↦ rw off (drawn_runs runnable harts (number_in (next_state state)))
    ]

able-after-list : (runnable : List Bool) (harts : ℕ) (streak : Option AStreak) (draws : Option ℕ)
    → IfSome (first_after_list runnable harts streak draws)
    (λ hart. IsTrue (is_runnable runnable hart))
able-after-list runnable harts streak None = able-in-turn runnable harts streak
able-after-list runnable harts streak (Some state) = able-drawn runnable harts streak state

either : (first second : Option ℕ) (P : ℕ → Type 0) → IfSome first P → IfSome second P
    → IfSome (option_or first second) P
either None second P a b = b
either (Some x) second P a b = a

pub choice_able : (runnable : List Bool) (plan : Plan) → IfSome (choice runnable plan)
    (λ hart. IsTrue (is_runnable runnable hart))
choice_able runnable plan =
    either _ _ (λ hart. IsTrue (is_runnable runnable hart))
    (found-passes (is_runnable runnable) plan.listed)
    (able-after-list runnable plan.harts plan.streak plan.draws)

pub chosen_inside : (runnable : List Bool) (plan : Plan) (hart : ℕ) → length runnable ≡ plan.harts
    → choice runnable plan ≡ Some hart
    → hart < plan.harts
chosen_inside runnable plan hart all chosen =
    let P : Option ℕ → Type 0 = λ o. IfSome o (λ h. IsTrue (is_runnable runnable h)) in
    let able : is_runnable runnable hart ≡ true = subst P chosen (choice_able runnable plan) in
    elim (cases_lt hart (length runnable)) [
      | inl inside ↦ omega (arith, inside, all)
      | inr past ↦ absurd (both_ways _ (get_or_past runnable hart false past) able)
    ]

-- the only runnable hart is the one that is chosen
only-able : (runnable : List Bool) (hart : ℕ) (o : Option ℕ) → IsLone runnable hart
    → (o ≡ None → NoneRunnable runnable)
    → IfSome o (λ h. IsTrue (is_runnable runnable h)) → o ≡ Some hart
only-able runnable hart None lone none able = absurd (both_ways _ (none refl hart) lone.runs)
only-able runnable hart (Some h) lone none able =
    elim (cases_eq h hart) [
      | inl same ↦ ap (λ (n : ℕ). Some n) same
      | inr other ↦ absurd (both_ways _ (lone.others h other) able)
    ]

pub lone_chosen : (runnable : List Bool) (plan : Plan) (hart : ℕ) → length runnable ≡ plan.harts
    → IsLone runnable hart
    → choice runnable plan ≡ Some hart
lone_chosen runnable plan hart all lone =
    only-able runnable hart (choice runnable plan) lone (choice_none runnable plan all).0
    (choice_able runnable plan)
