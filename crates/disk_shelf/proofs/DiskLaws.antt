-- A call that failed is the cause of what a shelf answers.
use Rattle.std.proofs.Common.{◌≡◌, ℕ, ◌+◌, ◌≤◌, Bool, true, false, List, ◌∷◌, Err, refl, arith}
use Rattle.std.specs.Prelude.{if◌then◌else◌}
use Rattle.std.specs.Str.{bytes_eq}
use Rattle.std.proofs.lemmas.Slice.Eq.{bytes_eq-Decides}
use Rattle.shelf.specs.Shelf.{HasCause, HasCauseAt, Rose}
use Rattle.shelf.specs.declared.shelf.ShelfError.{ShelfError}
use Rattle.shelf.specs.declared.shelf.ShelfError.TheVariants.{Failed, NoMemory}
use Rattle.disk_shelf.specs.Disk.{how_many, is_print_fault, is_read_fault, is_write_fault}
use Rattle.disk_shelf.specs.Done.{Done, PrintingFailed, ReadingFailed, WritingFailed}

later : (test : Bool) (n : ℕ) → n ≤ (if test then n + 1 else n)
later true n = omega arith
later false n = omega arith

rose : (test : Bool) (n : ℕ) → test ≡ true → Rose n (if test then n + 1 else n)
rose true n is = omega arith
rose false n is = cc

itself : (name : List ℕ) → bytes_eq name name ≡ true
itself name = (bytes_eq-Decides name name).1 refl

pub read_cause : {T : Type 0} (name : List ℕ) (before : List Done) (e : ShelfError)
    → HasCauseAt {T = T} name (λ n. how_many (is_read_fault n) before)
    (λ n. how_many (is_read_fault n) (ReadingFailed name e ∷ before)) (Err e)
read_cause name before Failed = record {
  later = λ n. later (bytes_eq name n) (how_many (is_read_fault n) before);
  failed = λ f. rose (bytes_eq name name) (how_many (is_read_fault name) before) (itself name);
  quiet = λ q. absurd (q refl);
}
read_cause name before NoMemory =
    record { later = λ n. omega arith; failed = λ f. cc; quiet = λ q. refl }

pub write_cause : {T : Type 0} (name : List ℕ) (before : List Done) (e : ShelfError)
    → HasCauseAt {T = T} name (λ n. how_many (is_write_fault n) before)
    (λ n. how_many (is_write_fault n) (WritingFailed name e ∷ before)) (Err e)
write_cause name before Failed = record {
  later = λ n. later (bytes_eq name n) (how_many (is_write_fault n) before);
  failed = λ f. rose (bytes_eq name name) (how_many (is_write_fault name) before) (itself name);
  quiet = λ q. absurd (q refl);
}
write_cause name before NoMemory =
    record { later = λ n. omega arith; failed = λ f. cc; quiet = λ q. refl }

pub print_cause : {T : Type 0} (before : List Done) (e : ShelfError)
    → HasCause {T = T} (how_many is_print_fault before)
    (how_many is_print_fault (PrintingFailed e ∷ before)) (Err e)
print_cause before Failed = record {
  later = omega arith;
  failed = λ f. omega arith;
  quiet = λ q. absurd (q refl);
}
print_cause before NoMemory = record { later = omega arith; failed = λ f. cc; quiet = λ q. refl }
