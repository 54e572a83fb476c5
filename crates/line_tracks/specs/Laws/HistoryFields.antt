-- A history's field is got back from its entries.
use Rattle.std.proofs.Common.{◌≡◌, ℕ, ◌+◌, ◌-◌, ◌*◌, ◌/◌, ◌%◌, eqb, ap, refl, arith, inl, inr}
use Rattle.std.proofs.lemmas.Bool.{cases_Bool, eqb-false}
use Rattle.line_tracks.specs.declared.history.History.TheInside.{Inside}
use Rattle.line_tracks.specs.HistoryFields.{entries, fields_of}

both_is : (m n : ℕ) → m ≡ n
    → (let x : Inside = record { both = m } in x) ≡ (let y : Inside = record { both = n } in y)
both_is m n e = ap (λ k. let x : Inside = record { both = k } in x) e

pub fields_back : (a : Inside) → fields_of (entries a) ≡ a
fields_back a =
    elim (cases_Bool (eqb (a.both / 256) 0)) [
      | inl t ↦ rw t refl
      | inr t ↦
          let some = eqb-false (a.both / 256) 0 t in
          rw t (both_is (a.both % 256 + 256 * (a.both / 256 - 1 + 1)) a.both (omega (arith, some)))
    ]
