-- What a step keeps that is for its hart's registers alone.
use Rattle.std.proofs.Common.{◌≡◌, ◌∙◌, ◌⊎◌, ℕ, ◌%◌, Bool, true, false, List, Option, Some, None}
use Rattle.std.proofs.Common.{Result, Ok, Err, ap, inl, inr, refl, subst, sym, nat_eq}
use Rattle.std.specs.Prelude.{if◌then◌else◌}
use Rattle.rv32_decode.specs.Table.{decoded}
use Rattle.rv32_decode.specs.declared.instruction.Instr.{Instr}
use Rattle.rv32_decode.specs.declared.instruction.Instr.TheVariants.{Lui, Auipc, Jal, Jalr, Branch}
use Rattle.rv32_decode.specs.declared.instruction.Instr.TheVariants.{Load, Store, Imm, Op, Fence}
use Rattle.rv32_decode.specs.declared.instruction.Instr.TheVariants.{Ecall}
use Rattle.rv32_decode.specs.declared.instruction.Instr.TheVariants.{Ebreak, Lr, Sc, Amo}
use Rattle.base.specs.Touch.{Touch}
use Rattle.base.specs.declared.ending.Cause.{Cause}
use Rattle.rv32_hart.specs.Space.{Space}
use Rattle.rv32_hart.specs.Faults.{fetched}
use Rattle.rv32_hart.specs.KeptInstructions.{instr_at, instr_in, instr_of}
use Rattle.rv32_hart.specs.declared.page.MemFault.{MemFault}
use Rattle.rv32_hart.specs.Registers.{reg, moved}
use Rattle.rv32_hart.specs.declared.step_end.StepEnd.{StepEnd}
use Rattle.rv32_hart.specs.declared.step_end.StepEnd.TheVariants.{Next, Call, Trap}
use Rattle.rv32_hart.specs.Effect.{Machine, Outcome, IsOwnStep, machine, outcome, jumps, branches}
use Rattle.rv32_hart.specs.Effect.{after_decode, after_fetch, effect, holds, is_own, stepped}

-- it makes no access, and leaves the memory and the reservations, or it leaves all
abbrev pub IsOwnEnd : Machine → StepEnd → Machine → Type 0
IsOwnEnd x (Next i None) y = (y.memory ≡ x.memory) × (y.held ≡ x.held)
IsOwnEnd x (Next i (Some a)) y = ⊥
IsOwnEnd x Call y = ⊥
IsOwnEnd x (Trap c) y = y ≡ x

abbrev IsOwn : Machine → Outcome → Type 0
IsOwn x o = IsOwnEnd x o.end o.machine

either : (b : Bool) (x : Machine) (o p : Outcome) → IsOwn x o → IsOwn x p
    → IsOwn x (if b then o else p)
either true x o p h k = h
either false x o p h k = k

own_jump : (i : Instr) (d v target : ℕ) (x : Machine) → IsOwn x (jumps i d v target x)
own_jump i d v target x = either (nat_eq (target % 4) 0) x _ _ (refl, refl) refl

own_branch : (i : Instr) (target : ℕ) (x : Machine) → IsOwn x (branches i target x)
own_branch i target x = either (nat_eq (target % 4) 0) x _ _ (refl, refl) refl

own_effect : (hart : ℕ) (i : Instr) (x : Machine) → is_own i ≡ true → IsOwn x (effect hart i x)
own_effect hart (Lui d n) x own = (refl, refl)
own_effect hart (Auipc d n) x own = (refl, refl)
own_effect hart (Jal d z) x own = own_jump _ _ _ _ x
own_effect hart (Jalr d s z) x own = own_jump _ _ _ _ x
own_effect hart (Branch t s r z) x own =
    either (holds t (reg x.state s) (reg x.state r)) x _ _
    (own_branch (Branch t s r z) (moved x.state.pc z) x)
    (refl, refl)
own_effect hart (Load k d s z) x own = absurd (cc)
own_effect hart (Store k s t z) x own = absurd (cc)
own_effect hart (Imm o d s z) x own = (refl, refl)
own_effect hart (Op o d s t) x own = (refl, refl)
own_effect hart (Fence d s n) x own = (refl, refl)
own_effect hart Ecall x own = absurd (cc)
own_effect hart Ebreak x own = absurd (cc)
own_effect hart (Lr d s o) x own = absurd (cc)
own_effect hart (Sc d s t o) x own = absurd (cc)
own_effect hart (Amo op d s t o) x own = absurd (cc)

own_acted : (hart : ℕ) (i : Instr) (x y : Machine) (e : StepEnd) → is_own i ≡ true
    → outcome e y ≡ effect hart i x
    → IsOwnEnd x e y
own_acted hart i x y e own h = let P : Outcome → Type 0 = λ o. IsOwn x o in
    subst P (sym h) (own_effect hart i x own)

-- the step of an instruction that was read
decoded-step : (hart : ℕ) (x : Machine) (i : Instr) (o : Option Instr) → Ok i ≡ instr_in o
    → after_decode hart x o ≡ effect hart i x
decoded-step hart x i None h = absurd (cc)
decoded-step hart x i (Some j) h = let e : j ≡ i = cc in ap (λ k. effect hart k x) e

fetched-step : (hart : ℕ) (x : Machine) (i : Instr) (r : Result ℕ MemFault) → Ok i ≡ instr_of r
    → after_fetch hart x r ≡ effect hart i x
fetched-step hart x i (Ok word) h = decoded-step hart x i (decoded word) h
fetched-step hart x i (Err fault) h = absurd (cc)

pub read_step : (hart : ℕ) (x : Machine) (i : Instr) → Ok i ≡ instr_at x.memory x.state.pc
    → stepped hart x ≡ effect hart i x
unfolding stepped
read_step hart x i h = fetched-step hart x i (fetched x.memory x.state.pc) h

-- what an own instruction leaves that was made
pub record Own (hart : ℕ) (x : Machine) (i : Instr) (y : Machine) : Type 0 where
  pub memory : y.memory ≡ x.memory
  pub held : y.held ≡ x.held
  pub step : IsOwnStep hart x.memory x.held x.state i y.state

made_with : (hart : ℕ) (x y : Machine) (i : Instr) (a : Option Touch)
    → outcome (Next i a) y ≡ stepped hart x → IsOwnEnd x (Next i a) y
    → Own hart x i y
made_with hart x y i None h own = record {
  memory = own.0;
  held = own.1;
  step =
      ap (λ (m : Space). outcome (Next i None) (machine y.state m x.held)) (sym own.0)
      ∙ ap (λ (l : List (Option ℕ)). outcome (Next i None) (machine y.state y.memory l))
      (sym own.1)
      ∙ h;
}
made_with hart x y i (Some a) h own = absurd own

pub own_made : (hart : ℕ) (i j : Instr) (x y : Machine) (a : Option Touch) → is_own i ≡ true
    → Ok i ≡ instr_at x.memory x.state.pc → outcome (Next j a) y ≡ effect hart i x
    → Own hart x j y
own_made hart i j x y a own read h =
    made_with hart x y j a (h ∙ sym (read_step hart x i read))
    (own_acted hart i x y (Next j a) own h)

-- and one that was not made leaves all
pub own_left : (hart : ℕ) (i : Instr) (x y : Machine) (e : StepEnd) → is_own i ≡ true
    → (e ≡ Call) ⊎ ((cause : Cause) × (e ≡ Trap cause)) → outcome e y ≡ effect hart i x
    → y ≡ x
own_left hart i x y (Next j a) own (inl other) h = absurd (cc)
own_left hart i x y (Next j a) own (inr other) h = let e = other.1 in absurd (cc)
own_left hart i x y Call own other h = absurd (own_acted hart i x y Call own h)
own_left hart i x y (Trap c) own other h = own_acted hart i x y (Trap c) own h
