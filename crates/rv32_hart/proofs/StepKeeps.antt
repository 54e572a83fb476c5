-- What a step keeps: all, unless it is to the next instruction, and always the number of harts and
-- the memory's pages.
use Rattle.std.specs.Prelude.{◌≡◌, ℕ, ◌-◌, ◌%◌, Bool, false, List, Option}
use Rattle.std.specs.Prelude.{Some, None, Result, Ok, Err, length, nat_eq}
use Rattle.std.specs.Prelude.{if◌then◌else◌, map}
use Rattle.std.proofs.Common.{refl, subst, sym, true, ◌∙◌}
use Rattle.std.proofs.lemmas.List.{length-set, length-map}
use Rattle.rv32_hart.specs.Space.{Space}
use Rattle.rv32_hart.specs.Faults.{fetched}
use Rattle.rv32_hart.specs.Changes.{stored}
use Rattle.rv32_hart.specs.declared.page.MemFault.{MemFault}
use Rattle.rv32_decode.specs.Table.{decoded}
use Rattle.rv32_decode.specs.declared.instruction.Instr.{Instr}
use Rattle.rv32_decode.specs.declared.instruction.Instr.TheVariants.{Lui, Auipc, Jal, Jalr, Branch}
use Rattle.rv32_decode.specs.declared.instruction.Instr.TheVariants.{Load, Store, Imm, Op, Fence}
use Rattle.rv32_decode.specs.declared.instruction.Instr.TheVariants.{Ecall}
use Rattle.rv32_decode.specs.declared.instruction.Instr.TheVariants.{Ebreak, Lr, Sc, Amo}
use Rattle.rv32_hart.specs.Registers.{Registers, reg, moved}
use Rattle.rv32_hart.specs.Reserved.{is_of, held_by, released, without, word_at}
use Rattle.rv32_hart.specs.declared.step_end.StepEnd.{StepEnd}
use Rattle.rv32_hart.specs.Effect.{Machine, Outcome, outcome, jumps, branches, holds, after_load}
use Rattle.rv32_hart.specs.Effect.{after_store, after_lr, after_sc}
use Rattle.rv32_hart.specs.Effect.{effect, after_decode, after_fetch, stepped, extended}
use Rattle.rv32_hart.specs.Effect.{LeavesUnlessNext, KeepsPages}
use Rattle.rv32_hart.proofs.Stores.{length-with_number}

pub record StepKept (x : Machine) (o : Outcome) : Type 0 where
  pub left : LeavesUnlessNext x o.end o.machine
  pub harts : length o.machine.held ≡ length x.held
  pub pages : KeepsPages x.memory o.machine.memory

same_pages : (m : Space) → KeepsPages m m
same_pages m = record { base = refl; size = refl; pages = refl }

stored_pages : (m : Space) (a size value : ℕ) → KeepsPages m (stored m a size value)
stored_pages m a size value =
    record { base = refl; size = length-with_number m.bytes (a - m.base) size value; pages = refl }

length-released : (hart word : ℕ) (held : List (Option ℕ)) → length (released hart word held)
    ≡ length held
length-released hart word held = length-set (map (without word) held) hart (held_by held hart)
    ∙ length-map held (without word)

either : (b : Bool) (x : Machine) (o p : Outcome) → StepKept x o → StepKept x p
    → StepKept x (if b then o else p)
either true x o p h k = h
either false x o p h k = k

kept_load : (hart : ℕ) (i : Instr) (d a size : ℕ) (f : ℕ → ℕ) (x : Machine) (r : Result ℕ MemFault)
    → StepKept x (after_load hart i d a size f x r)
kept_load hart i d a size f x (Ok v) =
    record { left = tt; harts = refl; pages = same_pages x.memory }
kept_load hart i d a size f x (Err e) =
    record { left = refl; harts = refl; pages = same_pages x.memory }

kept_store : (hart : ℕ) (i : Instr) (a size value : ℕ) (s : Registers) (x : Machine)
    (r : Option MemFault)
    → StepKept x (after_store hart i a size value s x r)
kept_store hart i a size value s x None = record {
  left = tt;
  harts = length-released hart (word_at a) x.held;
  pages = stored_pages x.memory a size value;
}
kept_store hart i a size value s x (Some e) =
    record { left = refl; harts = refl; pages = same_pages x.memory }

kept_lr : (hart : ℕ) (i : Instr) (d a : ℕ) (x : Machine) (r : Result ℕ MemFault)
    → StepKept x (after_lr hart i d a x r)
kept_lr hart i d a x (Ok v) = record {
  left = tt;
  harts = length-set x.held hart (Some a);
  pages =
      same_pages x.memory;
}
kept_lr hart i d a x (Err e) = record { left = refl; harts = refl; pages = same_pages x.memory }

kept_sc : (hart : ℕ) (i : Instr) (d a value : ℕ) (x : Machine) (r : Option MemFault)
    → StepKept x (after_sc hart i d a value x r)
kept_sc hart i d a value x None =
    either (is_of (held_by x.held hart) a) x _ _
    (record {
      left = tt;
      harts = length-set (released hart a x.held) hart None ∙ length-released hart a x.held;
      pages = stored_pages x.memory a 4 value;
    })
    (record { left = tt; harts = length-set x.held hart None; pages = same_pages x.memory })
kept_sc hart i d a value x (Some e) =
    record { left = refl; harts = refl; pages = same_pages x.memory }

kept_jump : (i : Instr) (d v target : ℕ) (x : Machine) → StepKept x (jumps i d v target x)
kept_jump i d v target x =
    either (nat_eq (target % 4) 0) x _ _
    (record { left = tt; harts = refl; pages = same_pages x.memory })
    (record { left = refl; harts = refl; pages = same_pages x.memory })

kept_branch : (i : Instr) (target : ℕ) (x : Machine) → StepKept x (branches i target x)
kept_branch i target x =
    either (nat_eq (target % 4) 0) x _ _
    (record { left = tt; harts = refl; pages = same_pages x.memory })
    (record { left = refl; harts = refl; pages = same_pages x.memory })

kept_effect : (hart : ℕ) (i : Instr) (x : Machine) → StepKept x (effect hart i x)
kept_effect hart (Lui d n) x = record { left = tt; harts = refl; pages = same_pages x.memory }
kept_effect hart (Auipc d n) x = record { left = tt; harts = refl; pages = same_pages x.memory }
kept_effect hart (Jal d z) x = kept_jump _ _ _ _ x
kept_effect hart (Jalr d s z) x = kept_jump _ _ _ _ x
kept_effect hart (Branch t s r z) x =
    either (holds t (reg x.state s) (reg x.state r)) x _ _
    (kept_branch (Branch t s r z) (moved x.state.pc z) x)
    (record { left = tt; harts = refl; pages = same_pages x.memory })
kept_effect hart (Load k d s z) x = kept_load _ _ _ _ _ (extended k) x _
kept_effect hart (Store k s t z) x = kept_store _ _ _ _ _ _ x _
kept_effect hart (Imm o d s z) x = record { left = tt; harts = refl; pages = same_pages x.memory }
kept_effect hart (Op o d s t) x = record { left = tt; harts = refl; pages = same_pages x.memory }
kept_effect hart (Fence d s n) x = record { left = tt; harts = refl; pages = same_pages x.memory }
kept_effect hart Ecall x = record { left = refl; harts = refl; pages = same_pages x.memory }
kept_effect hart Ebreak x = record { left = refl; harts = refl; pages = same_pages x.memory }
kept_effect hart (Lr d s o) x = kept_lr _ _ _ _ x _
kept_effect hart (Sc d s t o) x = kept_sc _ _ _ _ _ x _
kept_effect hart (Amo op d s t o) x = kept_store _ _ _ _ _ _ x _

kept_decode : (hart : ℕ) (x : Machine) (o : Option Instr) → StepKept x (after_decode hart x o)
kept_decode hart x None = record { left = refl; harts = refl; pages = same_pages x.memory }
kept_decode hart x (Some i) = kept_effect hart i x

kept_fetch : (hart : ℕ) (x : Machine) (r : Result ℕ MemFault) → StepKept x (after_fetch hart x r)
kept_fetch hart x (Ok w) = kept_decode hart x (decoded w)
kept_fetch hart x (Err e) = record { left = refl; harts = refl; pages = same_pages x.memory }

kept_step : (hart : ℕ) (x : Machine) → StepKept x (stepped hart x)
unfolding stepped
kept_step hart x = kept_fetch hart x (fetched x.memory x.state.pc)

pub kept : (hart : ℕ) (x y : Machine) (e : StepEnd) → outcome e y ≡ stepped hart x
    → StepKept x (outcome e y)
kept hart x y e h = let P : Outcome → Type 0 = λ o. StepKept x o in subst P (sym h) (kept_step hart x)
