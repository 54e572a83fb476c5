-- The calls that a hart has made and not returned from: where each was made, the newest first. The
-- link registers x1 and x5 determine which instructions call and which return, as the unprivileged
-- specification hints to those who predict returns.
use Rattle.std.specs.Prelude.{ℕ, Bool, not, ◌&&◌, ◌||◌, if◌then◌else◌, nat_eq, List, ◌∷◌, take}
use Rattle.std.specs.Prelude.{drop, unwrap_or, slice_get, []}
use Rattle.rv32_decode.specs.declared.instruction.Instr.{Instr}
use Rattle.rv32_decode.specs.declared.instruction.Instr.TheVariants.{Jal, Jalr}

abbrev pub most_calls : ℕ
most_calls = 256

-- a call at pc; the oldest of 256 is dropped for it
abbrev pub pushed : ℕ → List ℕ → List ℕ
pushed pc calls = take most_calls (pc ∷ calls)

-- a return, which takes the newest call off
abbrev pub popped : List ℕ → List ℕ
popped calls = drop 1 calls

abbrev pub is_link : ℕ → Bool
is_link r = nat_eq r 1 || nat_eq r 5

-- An indirect jump calls where it links, and returns where it goes to a link register; where it
-- does both by two link registers, it returns and then calls.
abbrev pub calls_after_jalr : ℕ → ℕ → ℕ → List ℕ → List ℕ
calls_after_jalr rd rs1 pc calls =
    if is_link rd then
    (if is_link rs1 && not (nat_eq rd rs1) then pushed pc (popped calls) else pushed pc calls)
    else if is_link rs1 then popped calls else calls

-- the calls after an instruction that was made at pc
abbrev pub calls_after : Instr → ℕ → List ℕ → List ℕ
calls_after (Jal rd offset) pc calls = if is_link rd then pushed pc calls else calls
calls_after (Jalr rd rs1 offset) pc calls = calls_after_jalr rd rs1 pc calls
calls_after _ pc calls = calls

-- call i, the newest being call 0, or 0 where there is none
abbrev pub call_at : List ℕ → ℕ → ℕ
call_at calls i = unwrap_or (slice_get calls i) 0

abbrev pub last_four : List ℕ → List ℕ
last_four calls = call_at calls 0 ∷ (call_at calls 1 ∷ (call_at calls 2 ∷ (call_at calls 3 ∷ [])))
