-- A window's fields are got back from what is kept of it.
use Rattle.std.proofs.Common.{◌≡◌, ℕ, Bool, eqb, sym, ap, inl, inr}
use Rattle.std.proofs.lemmas.Bool.{cases_Bool, eqb-true}
use Rattle.line_tracks.specs.Laws.HistoryFields.{fields_back as entries_back}
use Rattle.layout_sweep.specs.WindowFields.{fields_of, kept}
use Rattle.layout_sweep.specs.declared.window.Window.TheInside.{Inside}

fields_are : (m n : ℕ) (b : Bool) → m ≡ n
    → (let x : Inside = record { harts = m; taken = b } in x)
    ≡ (let y : Inside = record { harts = n; taken = b } in y)
fields_are m n b e = ap (λ k. let x : Inside = record { harts = k; taken = b } in x) e

pub fields_back : (a : Inside) → fields_of (kept a) ≡ a
fields_back a =
    elim (cases_Bool (eqb a.harts 1048576)) [
      | inl t ↦ rw t (fields_are 1048576 a.harts a.taken (sym (eqb-true a.harts 1048576 t)))
      | inr t ↦ rw t (fields_are _ a.harts a.taken
          (ap (λ h. h.both) (entries_back (record { both = a.harts }))))
    ]
