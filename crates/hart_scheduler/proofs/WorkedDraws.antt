-- Worked draws: the numbers, choices and turns that the definitions draw from a seed.
use Rattle.std.proofs.Common.{◌≡◌, ℕ, zero, suc, ◌+◌, true, false, List, [], ◌∷◌, replicate, Some}
use Rattle.std.proofs.Common.{refl, map}
use Rattle.std.specs.Prelude.{unwrap_or}
use Rattle.std.specs.List.{range_with_len}
use Rattle.hart_scheduler.specs.Choices.{Plan, choice, plan_after, drawn_hart, drawn_turns}
use Rattle.hart_scheduler.specs.Draws.{drawn_number, state_after}
use Rattle.hart_scheduler.specs.Texts.{plan_of}

-- the first eight drawn numbers of a seed
first_numbers : ℕ → List ℕ
first_numbers seed = map (drawn_number seed) (range_with_len 1 8)

-- so many choices of a plan whose harts are all runnable for ever
choices : ℕ → Plan → List ℕ
choices zero plan = []
choices (suc n) plan =
    let runnable = replicate plan.harts true in
    unwrap_or (choice runnable plan) 0 ∷ choices n (plan_after runnable plan)

-- so many choices of a number of harts, by a seed and a quantum, without a list
drawn : ℕ → ℕ → ℕ → List ℕ
drawn harts seed quantum = choices 40 (plan_of harts quantum seed [])

-- so many turns, by how many numbers were drawn before them: a hart, and how many turns in a row
turns_from : ℕ → ℕ → ℕ → ℕ → ℕ → List (ℕ × ℕ)
turns_from zero harts seed quantum n = []
turns_from (suc k) harts seed quantum n = (
  unwrap_or (drawn_hart (replicate harts true) harts (drawn_number seed (n + 1))) 0,
  drawn_turns quantum (drawn_number seed (n + 2)),
) ∷ turns_from k harts seed quantum (n + 2)

first_turns : ℕ → ℕ → List (ℕ × ℕ)
first_turns harts seed = turns_from 10 harts seed 100 0

numbers_1 : first_numbers 1 ≡
    1817669548 ∷ 2187888307 ∷ 2784682393 ∷ 1644385741 ∷ 3416422068 ∷ 2149679590 ∷ 2379134260 ∷
    280973805 ∷ []
unfolding first_numbers
numbers_1 = refl

numbers_2 : first_numbers 2 ≡
    3299435481 ∷ 3938983765 ∷ 2969520912 ∷ 1565561008 ∷ 890216591 ∷ 1890485398 ∷ 123524857 ∷
    3327994956 ∷ []
unfolding first_numbers
numbers_2 = refl

numbers_4294967295 : first_numbers 4294967295 ≡
    139003518 ∷ 3006858072 ∷ 2182559648 ∷ 4259028502 ∷ 1327692541 ∷ 2959537919 ∷ 984219632 ∷
    3720665680 ∷ []
unfolding first_numbers
numbers_4294967295 = refl

choices_2_1_1 : drawn 2 1 1 ≡
    0 ∷ 1 ∷ 0 ∷ 0 ∷ 0 ∷ 0 ∷ 1 ∷ 0 ∷ 0 ∷ 1 ∷ 1 ∷ 0 ∷ 0 ∷ 1 ∷ 1 ∷ 1 ∷ 0 ∷ 1 ∷ 0 ∷ 1 ∷ 1 ∷ 0 ∷ 0 ∷
    0 ∷ 1 ∷ 0 ∷ 0 ∷ 1 ∷ 1 ∷ 0 ∷ 0 ∷ 0 ∷ 0 ∷ 0 ∷ 1 ∷ 0 ∷ 1 ∷ 1 ∷ 0 ∷ 0 ∷ []
unfolding drawn choices
choices_2_1_1 = refl

choices_2_1_3 : drawn 2 1 3 ≡
    0 ∷ 0 ∷ 0 ∷ 1 ∷ 1 ∷ 0 ∷ 0 ∷ 0 ∷ 0 ∷ 0 ∷ 0 ∷ 0 ∷ 0 ∷ 0 ∷ 0 ∷ 0 ∷ 1 ∷ 0 ∷ 0 ∷ 0 ∷ 1 ∷ 1 ∷ 0 ∷
    0 ∷ 0 ∷ 0 ∷ 0 ∷ 1 ∷ 1 ∷ 1 ∷ 1 ∷ 1 ∷ 1 ∷ 0 ∷ 1 ∷ 0 ∷ 0 ∷ 1 ∷ 1 ∷ 1 ∷ []
unfolding drawn choices
choices_2_1_3 = refl

choices_2_1_100 : drawn 2 1 100 ≡
    0 ∷ 0 ∷ 0 ∷ 0 ∷ 0 ∷ 0 ∷ 0 ∷ 0 ∷ 0 ∷ 0 ∷ 0 ∷ 0 ∷ 0 ∷ 0 ∷ 0 ∷ 0 ∷ 0 ∷ 0 ∷ 0 ∷ 0 ∷ 0 ∷ 0 ∷ 0 ∷
    0 ∷ 0 ∷ 0 ∷ 0 ∷ 0 ∷ 0 ∷ 0 ∷ 0 ∷ 0 ∷ 0 ∷ 0 ∷ 0 ∷ 0 ∷ 0 ∷ 0 ∷ 0 ∷ 0 ∷ []
unfolding drawn choices
choices_2_1_100 = refl

choices_2_2_1 : drawn 2 2 1 ≡
    1 ∷ 0 ∷ 1 ∷ 1 ∷ 1 ∷ 0 ∷ 1 ∷ 0 ∷ 1 ∷ 0 ∷ 0 ∷ 1 ∷ 0 ∷ 1 ∷ 1 ∷ 0 ∷ 1 ∷ 1 ∷ 1 ∷ 1 ∷ 1 ∷ 0 ∷ 1 ∷
    1 ∷ 1 ∷ 1 ∷ 1 ∷ 0 ∷ 1 ∷ 1 ∷ 0 ∷ 1 ∷ 0 ∷ 0 ∷ 1 ∷ 1 ∷ 0 ∷ 1 ∷ 0 ∷ 0 ∷ []
unfolding drawn choices
choices_2_2_1 = refl

choices_2_2_3 : drawn 2 2 3 ≡
    1 ∷ 0 ∷ 0 ∷ 0 ∷ 0 ∷ 1 ∷ 1 ∷ 1 ∷ 1 ∷ 1 ∷ 1 ∷ 1 ∷ 1 ∷ 1 ∷ 1 ∷ 1 ∷ 0 ∷ 1 ∷ 1 ∷ 1 ∷ 1 ∷ 1 ∷ 0 ∷
    0 ∷ 0 ∷ 0 ∷ 0 ∷ 1 ∷ 1 ∷ 1 ∷ 0 ∷ 0 ∷ 0 ∷ 1 ∷ 1 ∷ 1 ∷ 1 ∷ 1 ∷ 0 ∷ 0 ∷ []
unfolding drawn choices
choices_2_2_3 = refl

choices_2_2_100 : drawn 2 2 100 ≡
    1 ∷ 1 ∷ 1 ∷ 1 ∷ 1 ∷ 1 ∷ 1 ∷ 1 ∷ 1 ∷ 1 ∷ 1 ∷ 1 ∷ 1 ∷ 1 ∷ 1 ∷ 1 ∷ 1 ∷ 1 ∷ 1 ∷ 1 ∷ 1 ∷ 1 ∷ 1 ∷
    1 ∷ 1 ∷ 1 ∷ 1 ∷ 1 ∷ 1 ∷ 1 ∷ 1 ∷ 1 ∷ 1 ∷ 1 ∷ 1 ∷ 1 ∷ 1 ∷ 1 ∷ 1 ∷ 1 ∷ []
unfolding drawn choices
choices_2_2_100 = refl

choices_2_4294967295_1 : drawn 2 4294967295 1 ≡
    0 ∷ 0 ∷ 1 ∷ 0 ∷ 0 ∷ 1 ∷ 0 ∷ 1 ∷ 1 ∷ 1 ∷ 0 ∷ 1 ∷ 1 ∷ 0 ∷ 1 ∷ 1 ∷ 0 ∷ 1 ∷ 1 ∷ 0 ∷ 1 ∷ 1 ∷ 1 ∷
    0 ∷ 0 ∷ 0 ∷ 1 ∷ 0 ∷ 1 ∷ 0 ∷ 1 ∷ 1 ∷ 1 ∷ 0 ∷ 1 ∷ 1 ∷ 1 ∷ 1 ∷ 0 ∷ 0 ∷ []
unfolding drawn choices
choices_2_4294967295_1 = refl

choices_2_4294967295_3 : drawn 2 4294967295 3 ≡
    0 ∷ 0 ∷ 0 ∷ 0 ∷ 0 ∷ 0 ∷ 1 ∷ 1 ∷ 1 ∷ 1 ∷ 1 ∷ 0 ∷ 0 ∷ 0 ∷ 1 ∷ 0 ∷ 0 ∷ 0 ∷ 0 ∷ 1 ∷ 1 ∷ 1 ∷ 1 ∷
    1 ∷ 1 ∷ 0 ∷ 1 ∷ 1 ∷ 1 ∷ 1 ∷ 1 ∷ 1 ∷ 0 ∷ 0 ∷ 0 ∷ 0 ∷ 1 ∷ 1 ∷ 1 ∷ 1 ∷ []
unfolding drawn choices
choices_2_4294967295_3 = refl

choices_2_4294967295_100 : drawn 2 4294967295 100 ≡
    0 ∷ 0 ∷ 0 ∷ 0 ∷ 0 ∷ 0 ∷ 0 ∷ 0 ∷ 0 ∷ 0 ∷ 0 ∷ 0 ∷ 0 ∷ 0 ∷ 0 ∷ 0 ∷ 0 ∷ 0 ∷ 0 ∷ 0 ∷ 0 ∷ 0 ∷ 0 ∷
    0 ∷ 0 ∷ 0 ∷ 0 ∷ 0 ∷ 0 ∷ 0 ∷ 0 ∷ 0 ∷ 0 ∷ 0 ∷ 0 ∷ 0 ∷ 0 ∷ 0 ∷ 0 ∷ 0 ∷ []
unfolding drawn choices
choices_2_4294967295_100 = refl

choices_3_1_1 : drawn 3 1 1 ≡
    1 ∷ 1 ∷ 0 ∷ 1 ∷ 0 ∷ 0 ∷ 1 ∷ 1 ∷ 2 ∷ 0 ∷ 0 ∷ 1 ∷ 0 ∷ 1 ∷ 1 ∷ 2 ∷ 0 ∷ 2 ∷ 0 ∷ 0 ∷ 2 ∷ 1 ∷ 0 ∷
    0 ∷ 2 ∷ 0 ∷ 1 ∷ 0 ∷ 2 ∷ 2 ∷ 0 ∷ 0 ∷ 2 ∷ 2 ∷ 1 ∷ 0 ∷ 2 ∷ 2 ∷ 0 ∷ 0 ∷ []
unfolding drawn choices
choices_3_1_1 = refl

choices_3_1_3 : drawn 3 1 3 ≡
    1 ∷ 1 ∷ 1 ∷ 1 ∷ 1 ∷ 0 ∷ 1 ∷ 0 ∷ 0 ∷ 0 ∷ 0 ∷ 0 ∷ 0 ∷ 0 ∷ 0 ∷ 0 ∷ 1 ∷ 1 ∷ 2 ∷ 2 ∷ 0 ∷ 0 ∷ 1 ∷
    1 ∷ 0 ∷ 0 ∷ 0 ∷ 1 ∷ 1 ∷ 1 ∷ 1 ∷ 2 ∷ 2 ∷ 0 ∷ 2 ∷ 0 ∷ 0 ∷ 0 ∷ 0 ∷ 0 ∷ []
unfolding drawn choices
choices_3_1_3 = refl

choices_3_1_100 : drawn 3 1 100 ≡
    1 ∷ 1 ∷ 1 ∷ 1 ∷ 1 ∷ 1 ∷ 1 ∷ 1 ∷ 1 ∷ 1 ∷ 1 ∷ 1 ∷ 1 ∷ 1 ∷ 1 ∷ 1 ∷ 1 ∷ 1 ∷ 1 ∷ 1 ∷ 1 ∷ 1 ∷ 1 ∷
    1 ∷ 1 ∷ 1 ∷ 1 ∷ 1 ∷ 1 ∷ 1 ∷ 1 ∷ 1 ∷ 1 ∷ 1 ∷ 1 ∷ 1 ∷ 1 ∷ 1 ∷ 1 ∷ 1 ∷ []
unfolding drawn choices
choices_3_1_100 = refl

choices_3_2_1 : drawn 3 2 1 ≡
    0 ∷ 0 ∷ 2 ∷ 1 ∷ 1 ∷ 1 ∷ 0 ∷ 0 ∷ 1 ∷ 1 ∷ 1 ∷ 2 ∷ 2 ∷ 2 ∷ 2 ∷ 0 ∷ 1 ∷ 1 ∷ 2 ∷ 1 ∷ 1 ∷ 2 ∷ 0 ∷
    2 ∷ 0 ∷ 0 ∷ 1 ∷ 1 ∷ 1 ∷ 1 ∷ 1 ∷ 1 ∷ 1 ∷ 1 ∷ 2 ∷ 1 ∷ 1 ∷ 1 ∷ 2 ∷ 2 ∷ []
unfolding drawn choices
choices_3_2_1 = refl

choices_3_2_3 : drawn 3 2 3 ≡
    0 ∷ 0 ∷ 0 ∷ 0 ∷ 0 ∷ 2 ∷ 2 ∷ 2 ∷ 2 ∷ 1 ∷ 1 ∷ 1 ∷ 1 ∷ 1 ∷ 1 ∷ 1 ∷ 1 ∷ 0 ∷ 0 ∷ 0 ∷ 0 ∷ 0 ∷ 0 ∷
    0 ∷ 0 ∷ 0 ∷ 0 ∷ 1 ∷ 1 ∷ 1 ∷ 1 ∷ 1 ∷ 1 ∷ 2 ∷ 2 ∷ 2 ∷ 2 ∷ 2 ∷ 2 ∷ 2 ∷ []
unfolding drawn choices
choices_3_2_3 = refl

choices_3_2_100 : drawn 3 2 100 ≡
    0 ∷ 0 ∷ 0 ∷ 0 ∷ 0 ∷ 0 ∷ 0 ∷ 0 ∷ 0 ∷ 0 ∷ 0 ∷ 0 ∷ 0 ∷ 0 ∷ 0 ∷ 0 ∷ 0 ∷ 0 ∷ 0 ∷ 0 ∷ 0 ∷ 0 ∷ 0 ∷
    0 ∷ 0 ∷ 0 ∷ 0 ∷ 0 ∷ 0 ∷ 0 ∷ 0 ∷ 0 ∷ 0 ∷ 0 ∷ 0 ∷ 0 ∷ 0 ∷ 0 ∷ 0 ∷ 0 ∷ []
unfolding drawn choices
choices_3_2_100 = refl

choices_3_4294967295_1 : drawn 3 4294967295 1 ≡
    0 ∷ 2 ∷ 1 ∷ 2 ∷ 2 ∷ 1 ∷ 2 ∷ 0 ∷ 2 ∷ 2 ∷ 2 ∷ 2 ∷ 0 ∷ 1 ∷ 1 ∷ 0 ∷ 0 ∷ 1 ∷ 0 ∷ 0 ∷ 0 ∷ 1 ∷ 2 ∷
    0 ∷ 0 ∷ 2 ∷ 1 ∷ 2 ∷ 2 ∷ 1 ∷ 1 ∷ 1 ∷ 1 ∷ 1 ∷ 0 ∷ 1 ∷ 0 ∷ 2 ∷ 0 ∷ 0 ∷ []
unfolding drawn choices
choices_3_4294967295_1 = refl

choices_3_4294967295_3 : drawn 3 4294967295 3 ≡
    0 ∷ 0 ∷ 0 ∷ 2 ∷ 2 ∷ 2 ∷ 1 ∷ 1 ∷ 1 ∷ 1 ∷ 1 ∷ 2 ∷ 2 ∷ 2 ∷ 1 ∷ 2 ∷ 2 ∷ 2 ∷ 2 ∷ 0 ∷ 0 ∷ 2 ∷ 2 ∷
    2 ∷ 2 ∷ 2 ∷ 2 ∷ 2 ∷ 2 ∷ 2 ∷ 2 ∷ 0 ∷ 1 ∷ 1 ∷ 1 ∷ 1 ∷ 1 ∷ 1 ∷ 1 ∷ 1 ∷ []
unfolding drawn choices
choices_3_4294967295_3 = refl

choices_3_4294967295_100 : drawn 3 4294967295 100 ≡
    0 ∷ 0 ∷ 0 ∷ 0 ∷ 0 ∷ 0 ∷ 0 ∷ 0 ∷ 0 ∷ 0 ∷ 0 ∷ 0 ∷ 0 ∷ 0 ∷ 0 ∷ 0 ∷ 0 ∷ 0 ∷ 0 ∷ 0 ∷ 0 ∷ 0 ∷ 0 ∷
    0 ∷ 0 ∷ 0 ∷ 0 ∷ 0 ∷ 0 ∷ 0 ∷ 0 ∷ 0 ∷ 0 ∷ 0 ∷ 0 ∷ 0 ∷ 0 ∷ 0 ∷ 0 ∷ 0 ∷ []
unfolding drawn choices
choices_3_4294967295_100 = refl

turns_2_1 : first_turns 2 1 ≡
    (0, 121) ∷ (1, 186) ∷ (0, 1) ∷ (0, 134) ∷ (0, 175) ∷ (0, 128) ∷ (1, 198) ∷ (0, 1) ∷ (0, 39) ∷
    (1, 155) ∷ []
unfolding first_turns turns_from
turns_2_1 = refl

turns_2_2 : first_turns 2 2 ≡
    (1, 54) ∷ (0, 149) ∷ (1, 125) ∷ (1, 149) ∷ (1, 145) ∷ (0, 19) ∷ (1, 168) ∷ (0, 124) ∷
    (1, 128) ∷ (0, 133) ∷ []
unfolding first_turns turns_from
turns_2_2 = refl

turns_2_4294967295 : first_turns 2 4294967295 ≡
    (0, 112) ∷ (0, 56) ∷ (1, 169) ∷ (0, 93) ∷ (0, 2) ∷ (1, 55) ∷ (0, 144) ∷ (1, 25) ∷ (1, 29) ∷
    (1, 164) ∷ []
unfolding first_turns turns_from
turns_2_4294967295 = refl

turns_3_1 : first_turns 3 1 ≡
    (1, 121) ∷ (1, 186) ∷ (0, 1) ∷ (1, 134) ∷ (0, 175) ∷ (0, 128) ∷ (1, 198) ∷ (1, 1) ∷ (2, 39) ∷
    (0, 155) ∷ []
unfolding first_turns turns_from
turns_3_1 = refl

turns_3_2 : first_turns 3 2 ≡
    (0, 54) ∷ (0, 149) ∷ (2, 125) ∷ (1, 149) ∷ (1, 145) ∷ (1, 19) ∷ (0, 168) ∷ (0, 124) ∷
    (1, 128) ∷ (1, 133) ∷ []
unfolding first_turns turns_from
turns_3_2 = refl

turns_3_4294967295 : first_turns 3 4294967295 ≡
    (0, 112) ∷ (2, 56) ∷ (1, 169) ∷ (2, 93) ∷ (2, 2) ∷ (1, 55) ∷ (2, 144) ∷ (0, 25) ∷ (2, 29) ∷
    (2, 164) ∷ []
unfolding first_turns turns_from
turns_3_4294967295 = refl

-- a list draws nothing: `1 2` and `0 1` of two harts, and then the first choices of the seed
listed : choices 12 (plan_of 2 3 1
    (record { hart = 1; count = 2 } ∷ record { hart = 0; count = 1 } ∷ [])) ≡
    1 ∷ 1 ∷ 0 ∷ 0 ∷ 0 ∷ 0 ∷ 1 ∷ 1 ∷ 0 ∷ 0 ∷ 0 ∷ 0 ∷ []
unfolding choices
listed = refl

-- a turn of three ends early where its hart is blocked, and the next two numbers draw the next one
blocked : choice (false ∷ true ∷ []) (plan_after (true ∷ true ∷ []) (plan_of 2 3 1 [])) ≡ Some 1
blocked = refl

blocked_state :
    (plan_after (false ∷ true ∷ []) (plan_after (true ∷ true ∷ []) (plan_of 2 3 1 []))).draws
    ≡ Some (state_after 1 4)
blocked_state = refl

-- and so where the only runnable hart has had its turns
alone : (plan_after (true ∷ false ∷ []) (plan_after (true ∷ false ∷ []) (plan_of 2 1 1 []))).draws
    ≡ Some (state_after 1 4)
alone = refl
