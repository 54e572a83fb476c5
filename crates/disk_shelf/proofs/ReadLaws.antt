-- The files are known exactly as long as what was read is of them.
use Rattle.std.proofs.Common.{◌≡◌, ◌≤◌, ◌&&◌, ℕ, List, [], ◌∷◌, Bool, true, false, Some, None, length}
use Rattle.std.proofs.Common.{take, refl}
use Rattle.std.specs.Prelude.{if◌then◌else◌}
use Rattle.std.specs.List.{list_all}
use Rattle.std.proofs.lemmas.Bool.{and_parts}
use Rattle.shelf.specs.Shelf.{Files, Narrows, OnlyReads, Reads, Known, content, read_of}
use Rattle.disk_shelf.specs.Disk.{Seen, agrees, disk_outside, held_by, reads_so}
use Rattle.disk_shelf.specs.Done.{Done, WasRead}
use Rattle.disk_shelf.specs.Laws.Reads.{reads_so-Decides}

known_if : {A : Type 0} (b : Bool) (x : A) (P : A → Type 0) → (b ≡ true → P x)
    → Known (if b then Some x else None) P
known_if true x P h = h refl
known_if false x P h = tt

-- where files are known after a reading, what was read is of them
pub known_read : (files : Files) (name : List ℕ) (at n : ℕ) (buffer : List ℕ) (before : List Done)
    → n ≤ length buffer
    → Known (held_by files (WasRead name at (length buffer) (take n buffer) ∷ before))
    (λ f. Reads (content f name) at n buffer)
known_read files name at n buffer before fits =
    known_if (reads_so (content files name) at (length buffer) (take n buffer)
    && list_all (agrees files) before) files (λ f. Reads (content f name) at n buffer) (λ both.
    (reads_so-Decides (content files name) at n buffer fits).0 (and_parts _ _ both).0)

still_if : {A : Type 0} (a b : Bool) (x : A) (P : A → Type 0) → (P x → a ≡ true)
    → Known (if b then Some x else None) (λ y. P y → (if a && b then Some x else None) ≡ Some y)
still_if a true x P h = λ p. rw (h p) refl
still_if a false x P h = tt

narrow_if : {A : Type 0} (a b : Bool) (x : A)
    → Narrows (if b then Some x else None) (if a && b then Some x else None)
narrow_if true true x = refl
narrow_if true false x = tt
narrow_if false b x = tt

-- a reading changes nothing else
pub only_read : (files : Files) (seen : Seen) (name : List ℕ) (at room : ℕ) (bytes : List ℕ)
    → OnlyReads (disk_outside files seen)
    (disk_outside files (record seen { done = WasRead name at room bytes ∷ seen.done }))
only_read files seen name at room bytes = record {
  held = narrow_if (reads_so (content files name) at room bytes)
      (list_all (agrees files) seen.done) files;
  written = refl;
  printed = refl;
  write_faults = refl;
  print_faults = refl;
  given = (read_of name at room bytes ∷ [], refl);
}

-- what was known is known after a reading, where what was read is of it
pub stays_known : (files : Files) (name : List ℕ) (at n : ℕ) (buffer : List ℕ) (before : List Done)
    → n ≤ length buffer
    → Known (held_by files before) (λ f. Reads (content f name) at n buffer
    → held_by files (WasRead name at (length buffer) (take n buffer) ∷ before) ≡ Some f)
stays_known files name at n buffer before fits =
    still_if (reads_so (content files name) at (length buffer) (take n buffer))
    (list_all (agrees files) before) files (λ f. Reads (content f name) at n buffer)
    (reads_so-Decides (content files name) at n buffer fits).1
