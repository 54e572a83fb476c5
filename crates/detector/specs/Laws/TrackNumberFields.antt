-- A place's field is got back from the option.
use Rattle.std.proofs.Common.{◌≡◌, ℕ, ◌==◌, true, sym, ap, refl, arith, inl, inr}
use Rattle.std.proofs.lemmas.Bool.{cases_Bool}
use Rattle.std.proofs.lemmas.Bool.Decides.{nat_tests}
use Rattle.detector.specs.declared.line_entry.TrackNumber.TheInside.{Inside}
use Rattle.detector.specs.TrackNumberFields.{fields_of, track_number_of}

is_same : (a b : ℕ) → (a == b) ≡ true → a ≡ b
is_same a b e = grind (arith, nat_tests)

pub fields_back : (a : Inside) → fields_of (track_number_of a) ≡ a
fields_back a =
    elim (cases_Bool (a.number == 4294967295)) [
      | inl t ↦ rw t (ap (λ n. let x : Inside = record { number = n } in x)
          (sym (is_same a.number 4294967295 t)))
      | inr t ↦ rw t refl
    ]
