-- A number that is always 0 doesn't rise.
use Rattle.std.proofs.Common.{◌≡◌, ◌≢◌, ℕ, List, [], ◌∷◌, Option, inl, inr, arith, subst}
use Rattle.shelf.specs.Shelf.{Outside}
use Rattle.command_line.specs.Words.{Demand}
use Rattle.command_io.specs.Readings.{RoseAt}
use Rattle.command_io.specs.Statuses.{kind_of, write_fault}
use Rattle.command_io.specs.declared.status.Status.{Status}
use Rattle.command_io.specs.declared.status.Status.TheVariants as status
use Rattle.predator_cli.specs.Answer.{inputs, outputs}
use Rattle.predator_cli.specs.Meets.{IsCaused, NoFaults, ReadingFailed}

none_rose : (names : List (List ℕ)) (before now : List ℕ → ℕ) → ((n : List ℕ) → now n ≡ 0)
    → RoseAt names before now → ⊥
none_rose [] before now zero rose = rose
none_rose (n ∷ names) before now zero (inl rose) = omega (arith, zero n, rose)
none_rose (n ∷ names) before now zero (inr rose) = none_rose names before now zero rose

pub no_faults : (asked : Option Demand) (old new : Outside) → ((n : List ℕ) → new.read_faults n ≡ 0)
    → ((n : List ℕ) → new.write_faults n ≡ 0) → new.print_faults ≡ 0 → NoFaults asked old new
no_faults asked old new reads writes prints = record {
  reads = none_rose (inputs asked) old.read_faults new.read_faults reads;
  writes = none_rose (outputs asked) old.write_faults new.write_faults writes;
  prints = λ rose. omega (arith, prints, rose);
}

pub no_read_fault : (asked : Option Demand) (old new : Outside) (s : Status)
    → NoFaults asked old new → IsCaused asked old new (kind_of s)
    → s ≢ status.ReadFault
no_read_fault asked old new s none caused e =
    let failed : ReadingFailed asked old new =
    subst (λ (x : Status). IsCaused asked old new (kind_of x)) e caused in
    none.reads failed.reads

write_cause : (asked : Option Demand) (old new : Outside) → NoFaults asked old new
    → IsCaused asked old new write_fault → ⊥
write_cause asked old new none (inl failed) = none.writes failed.writes
write_cause asked old new none (inr failed) = none.prints failed.1

pub no_write_fault : (asked : Option Demand) (old new : Outside) (s : Status)
    → NoFaults asked old new → IsCaused asked old new (kind_of s)
    → s ≢ status.WriteFault
no_write_fault asked old new s none caused e = write_cause asked old new none
    (subst (λ (x : Status). IsCaused asked old new (kind_of x)) e caused)
