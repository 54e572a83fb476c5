-- A cell's fields are got back from its word.
use Rattle.std.proofs.Common.{◌≡◌, ℕ, ◌+◌, ◌*◌, ◌/◌, ◌%◌, eqb, ap, sym, refl, arith, inl, inr}
use Rattle.std.proofs.lemmas.Bool.{cases_Bool, eqb-true}
use Rattle.line_tracks.specs.declared.cell.Cell.TheInside.{Inside}
use Rattle.line_tracks.specs.CellFields.{fields_of, word_of, IsOwned}
use Rattle.line_tracks.specs.OwnerNumbers.{owner_number, owner_of}

number_back : (n : ℕ) → owner_number (owner_of n) ≡ n
number_back n =
    elim (cases_Bool (eqb n 256)) [
      | inl t ↦ rw t (sym (eqb-true n 256 t))
      | inr f ↦ rw f (elim (cases_Bool (eqb n 257)) [
        | inl t ↦ rw t (sym (eqb-true n 257 t))
        | inr g ↦ rw g refl
      ])
    ]

reads_is : (m n w : ℕ) → m ≡ n → (let x : Inside = record { reads = m; writes = w } in x)
    ≡ (let y : Inside = record { reads = n; writes = w } in y)
reads_is m n w e = ap (λ k. let x : Inside = record { reads = k; writes = w } in x) e

pub fields_back : (c : Inside) → IsOwned c → fields_of (word_of c) ≡ c
fields_back c owned =
    let same = number_back (c.reads % 65536) in
    reads_is (c.reads / 65536 * 65536 + owner_number (owner_of (c.reads % 65536))) c.reads c.writes
    (omega (arith, same))
