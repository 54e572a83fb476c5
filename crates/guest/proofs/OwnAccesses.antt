-- A step of a hart makes no other hart's access.
use Rattle.std.specs.Option.{option_map_or}
use Rattle.guest.specs.Configs.{Config}
use Rattle.guest.specs.declared.turn.Event.TheVariants.{Quiet, Touch as Touched}
use Rattle.guest.specs.declared.turn.Turn.TheVariants.{Ran}
use Rattle.guest.specs.SeenTurns.{IsSeen}
use Rattle.std.proofs.Common.{◌≡◌, ℕ, ◌<◌, Bool, true, false, Option, Some, None, Result, Ok, Err}
use Rattle.std.proofs.Common.{refl, sym, subst}
use Rattle.std.specs.Prelude.{if◌then◌else◌, nat_eq, ◌%◌}
use Rattle.base.specs.Touch.{Touch}
use Rattle.rv32_hart.specs.Faults.{fetched}
use Rattle.rv32_hart.specs.declared.page.MemFault.{MemFault}
use Rattle.rv32_decode.specs.Table.{decoded}
use Rattle.rv32_decode.specs.declared.instruction.Instr.{Instr}
use Rattle.rv32_decode.specs.declared.instruction.Instr.TheVariants.{Lui, Auipc, Jal, Jalr, Branch}
use Rattle.rv32_decode.specs.declared.instruction.Instr.TheVariants.{Load, Store, Imm, Op, Fence}
use Rattle.rv32_decode.specs.declared.instruction.Instr.TheVariants.{Ecall}
use Rattle.rv32_decode.specs.declared.instruction.Instr.TheVariants.{Ebreak, Lr, Sc, Amo}
use Rattle.rv32_hart.specs.Registers.{Registers, reg, moved}
use Rattle.rv32_hart.specs.Reserved.{is_of, held_by}
use Rattle.rv32_hart.specs.declared.step_end.StepEnd.{StepEnd}
use Rattle.rv32_hart.specs.declared.step_end.StepEnd.TheVariants.{Next, Call, Trap}
use Rattle.rv32_hart.specs.Effect.{Machine, Outcome, outcome, jumps, branches, holds, extended}
use Rattle.rv32_hart.specs.Effect.{after_load, after_store, after_lr}
use Rattle.rv32_hart.specs.Effect.{after_sc, effect, after_decode, after_fetch, stepped}

abbrev pub IsOwnAccess : ℕ → Option Touch → Type 0
IsOwnAccess hart None = Unit {0}
IsOwnAccess hart (Some a) = a.hart ≡ hart

abbrev pub IsOwnEnd : ℕ → StepEnd → Type 0
IsOwnEnd hart (Next i a) = IsOwnAccess hart a
IsOwnEnd hart Call = Unit {0}
IsOwnEnd hart (Trap cause) = Unit {0}

abbrev pub IsOwn : ℕ → Outcome → Type 0
IsOwn hart o = IsOwnEnd hart o.end

either : (b : Bool) (hart : ℕ) (o p : Outcome) → IsOwn hart o → IsOwn hart p
    → IsOwn hart (if b then o else p)
either true hart o p h k = h
either false hart o p h k = k

own_load : (hart : ℕ) (i : Instr) (d a size : ℕ) (f : ℕ → ℕ) (x : Machine) (r : Result ℕ MemFault)
    → IsOwn hart (after_load hart i d a size f x r)
own_load hart i d a size f x (Ok v) = refl
own_load hart i d a size f x (Err e) = tt

own_store : (hart : ℕ) (i : Instr) (a size value : ℕ) (s : Registers) (x : Machine)
    (r : Option MemFault)
    → IsOwn hart (after_store hart i a size value s x r)
own_store hart i a size value s x None = refl
own_store hart i a size value s x (Some e) = tt

own_lr : (hart : ℕ) (i : Instr) (d a : ℕ) (x : Machine) (r : Result ℕ MemFault)
    → IsOwn hart (after_lr hart i d a x r)
own_lr hart i d a x (Ok v) = refl
own_lr hart i d a x (Err e) = tt

own_sc : (hart : ℕ) (i : Instr) (d a value : ℕ) (x : Machine) (r : Option MemFault)
    → IsOwn hart (after_sc hart i d a value x r)
own_sc hart i d a value x None = either (is_of (held_by x.held hart) a) hart _ _ refl tt
own_sc hart i d a value x (Some e) = tt

own_jump : (hart : ℕ) (i : Instr) (d v target : ℕ) (x : Machine) → IsOwn hart (jumps i d v target x)
own_jump hart i d v target x = either (nat_eq (target % 4) 0) hart _ _ tt tt

own_branch : (hart : ℕ) (i : Instr) (target : ℕ) (x : Machine) → IsOwn hart (branches i target x)
own_branch hart i target x = either (nat_eq (target % 4) 0) hart _ _ tt tt

own_effect : (hart : ℕ) (i : Instr) (x : Machine) → IsOwn hart (effect hart i x)
own_effect hart (Lui d n) x = tt
own_effect hart (Auipc d n) x = tt
own_effect hart (Jal d z) x = own_jump hart _ _ _ _ x
own_effect hart (Jalr d s z) x = own_jump hart _ _ _ _ x
own_effect hart (Branch t s r z) x = either (holds t (reg x.state s) (reg x.state r)) hart _ _
    (own_branch hart (Branch t s r z) (moved x.state.pc z) x) tt
own_effect hart (Load k d s z) x = own_load hart _ _ _ _ (extended k) x _
own_effect hart (Store k s t z) x = own_store hart _ _ _ _ _ x _
own_effect hart (Imm o d s z) x = tt
own_effect hart (Op o d s t) x = tt
own_effect hart (Fence d s n) x = tt
own_effect hart Ecall x = tt
own_effect hart Ebreak x = tt
own_effect hart (Lr d s o) x = own_lr hart _ _ _ x _
own_effect hart (Sc d s t o) x = own_sc hart _ _ _ _ x _
own_effect hart (Amo op d s t o) x = own_store hart _ _ _ _ _ x _

own_decode : (hart : ℕ) (x : Machine) (o : Option Instr) → IsOwn hart (after_decode hart x o)
own_decode hart x None = tt
own_decode hart x (Some i) = own_effect hart i x

own_fetch : (hart : ℕ) (x : Machine) (r : Result ℕ MemFault) → IsOwn hart (after_fetch hart x r)
own_fetch hart x (Ok w) = own_decode hart x (decoded w)
own_fetch hart x (Err e) = tt

own_step : (hart : ℕ) (x : Machine) → IsOwn hart (stepped hart x)
unfolding stepped
own_step hart x = own_fetch hart x (fetched x.memory x.state.pc)

pub own_access : (hart : ℕ) (x y : Machine) (i : Instr) (a : Touch) → outcome (Next i (Some a)) y
    ≡ stepped hart x → a.hart ≡ hart
own_access hart x y i a h = let P : Outcome → Type 0 = λ o. IsOwn hart o in subst P (sym h)
    (own_step hart x)

pub own_below : (hart harts : ℕ) (x y : Machine) (i : Instr) (a : Touch) → outcome (Next i (Some a)) y
    ≡ stepped hart x → hart < harts
    → a.hart < harts
own_below hart harts x y i a h below = rw (own_access hart x y i a h) below

-- what is seen of a step is an access of its hart, or nothing
pub own_seen : (hart harts pc : ℕ) (x y : Machine) (i : Instr) (o : Option Touch) (c : Config)
    → outcome (Next i o) y ≡ stepped hart x
    → hart < harts
    → IsSeen harts (Ran (option_map_or (λ a. Touched a pc) o Quiet)) c
own_seen hart harts pc x y i None c h below = tt
own_seen hart harts pc x y i (Some a) c h below = own_below hart harts x y i a h below
