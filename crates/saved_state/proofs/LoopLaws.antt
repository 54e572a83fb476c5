-- Units that are read one by one.
use Rattle.std.proofs.Common.{◌≡◌, ℕ, suc, ◌+◌, ◌-◌, ◌<◌, ◌≤◌, List, [], ◌∷◌, ◌++◌, length, drop}
use Rattle.std.proofs.Common.{refl, ap, ◌∙◌, arith}
use Rattle.std.specs.Prelude.{Option, None, Some, Ok, Err}
use Rattle.base.specs.declared.faults.ResumeFault.{ResumeFault}
use Rattle.base.specs.declared.faults.ResumeFault.TheVariants.{BadState}
use Rattle.saved_state.specs.Reading.{Units, read_units}

-- so many units behind u are what is left of them behind v once some were read
abbrev pub GoesOn : {X : Type 0} → (List X → List ℕ → Option X) → (X → List ℕ) → ℕ → Units X → ℕ
    → Units X → Type 0
GoesOn unit spell count u done v =
    read_units unit spell count u ≡ read_units unit spell (count - done) v

module _ {X : Type 0} (unit : List X → List ℕ → Option X) (spell : X → List ℕ) (u : Units X) where
  -- one unit more, of so many bytes
  pub next_unit : (x : X) (size more : ℕ) → unit u.read u.left ≡ Some x → length (spell x) ≡ size
      → read_units unit spell (suc more) u ≡ read_units unit spell more (record {
        read = u.read ++ x ∷ [];
        place = u.place + size;
        left = drop size u.left;
      })
  next_unit x size more is long =
      rw is (ap (λ (n : ℕ). read_units unit spell more (record {
        read = u.read ++ x ∷ [];
        place = u.place + n;
        left = drop n u.left;
      })) long)

  pub no_unit : (more : ℕ) → unit u.read u.left ≡ None
      → read_units unit spell (suc more) u ≡ Err (BadState u.place)
  no_unit more none = rw none refl

module _ {X : Type 0} (unit : List X → List ℕ → Option X) (spell : X → List ℕ) (count : ℕ)
    (u : Units X) where
  pub starts : GoesOn unit spell count u 0 u
  starts =
      let all : count ≡ count - 0 = omega arith in
      ap (λ n. read_units unit spell n u) all

  one_fewer : (done : ℕ) (v : Units X) → done < count → GoesOn unit spell count u done v
      → read_units unit spell count u ≡ read_units unit spell (suc (count - (done + 1))) v
  one_fewer done v within on =
      let fewer : count - done ≡ suc (count - (done + 1)) = omega arith in
      on ∙ ap (λ n. read_units unit spell n v) fewer

  pub steps : (done : ℕ) (v w : Units X) → done < count → GoesOn unit spell count u done v
      → ((more : ℕ) → read_units unit spell (suc more) v ≡ read_units unit spell more w)
      → GoesOn unit spell count u (done + 1) w
  steps done v w within on one = one_fewer done v within on ∙ one (count - (done + 1))

  pub stops : (done : ℕ) (v : Units X) (fault : ResumeFault) → done < count
      → GoesOn unit spell count u done v
      → ((more : ℕ) → read_units unit spell (suc more) v ≡ Err fault)
      → read_units unit spell count u ≡ Err fault
  stops done v fault within on one = one_fewer done v within on ∙ one (count - (done + 1))

  pub ends : (done : ℕ) (v : Units X) → count ≤ done → GoesOn unit spell count u done v
      → read_units unit spell count u ≡ Ok v
  ends done v past on =
      let none : count - done ≡ 0 = omega arith in
      on ∙ ap (λ n. read_units unit spell n v) none
