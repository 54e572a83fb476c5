-- One record more, for what counts the accesses among records.
use Rattle.std.proofs.Common.{◌≡◌, ℕ, ◌+◌, ◌≤◌, List, [], ◌∷◌, ◌++◌, length, refl, sym, ap, ◌∙◌}
use Rattle.std.proofs.Common.{append_assoc, arith, subst}
use Rattle.std.proofs.Math.Nat.{add-zero}
use Rattle.std.proofs.lemmas.List.{append-nil, length-append}
use Rattle.std.proofs.lemmas.List.Elements.{filter_map-append}
use Rattle.base.specs.Touch.{Touch}
use Rattle.trace_format.specs.Reading.{counted_after}
use Rattle.trace_format.specs.Rules.{last_position, touch_in, touches_in}
use Rattle.trace_format.specs.declared.record.TraceRecord.{TraceRecord}
use Rattle.trace_format.specs.declared.record.TraceRecord.TheVariants as records

pub touches-push : (xs : List TraceRecord) (x : TraceRecord)
    → touches_in (xs ++ x ∷ []) ≡ touches_in xs ++ touches_in (x ∷ [])
touches-push xs x = filter_map-append touch_in xs (x ∷ [])

pub touched-push : (xs : List TraceRecord) (x : TraceRecord)
    → length (touches_in (xs ++ x ∷ [])) ≡ length (touches_in xs) + length (touches_in (x ∷ []))
touched-push xs x =
    ap length (touches-push xs x) ∙ length-append (touches_in xs) (touches_in (x ∷ []))

pub counted-one : (p : ℕ) (x : TraceRecord) → counted_after p x ≡ p + length (touches_in (x ∷ []))
counted-one p (records.Touch a pc) = refl
counted-one p (records.Alloc addr size sites) = sym (add-zero p)
counted-one p (records.Free addr) = sym (add-zero p)
counted-one p (records.Symbol kind addr size name) = sym (add-zero p)
counted-one p (records.End e) = sym (add-zero p)

-- ---- the position of a counter that began at p and came to q by records

module _ (p q : ℕ) (xs : List TraceRecord) (x : TraceRecord)
    (came : q ≡ p + length (touches_in xs))
  where
    pub position-next : (r : ℕ) → r ≡ q + length (touches_in (x ∷ []))
        → r ≡ p + length (touches_in (xs ++ x ∷ []))
    position-next r one = omega (arith, came, one, touched-push xs x)

    -- where there is room for the records and one more, the position behind it is allowed
    pub room-next : (first : ℕ) → p ≡ first
        → first + length (touches_in (xs ++ x ∷ [])) ≤ last_position
        → counted_after q x ≤ last_position
    room-next first begins room =
        omega (arith, came, begins, room, touched-push xs x, counted-one q x)

pub position-quiet : (p : ℕ) (x : TraceRecord) → touches_in (x ∷ []) ≡ []
    → p ≡ p + length (touches_in (x ∷ []))
position-quiet p x none = sym (ap (λ (list : List Touch). p + length list) none ∙ add-zero p)

-- ---- what a value stands for, a list with the accesses of records

module _ {V : Type 0} (StandsFor : List Touch → V → Type 0) (v : V) (t : List Touch) where
  pub stands-next : (xs : List TraceRecord) (x : TraceRecord)
      → StandsFor ((t ++ touches_in xs) ++ touches_in (x ∷ [])) v
      → StandsFor (t ++ touches_in (xs ++ x ∷ [])) v
  stands-next xs x =
      subst (λ (list : List Touch). StandsFor list v)
      (append_assoc t (touches_in xs) (touches_in (x ∷ []))
      ∙ ap (λ (list : List Touch). t ++ list) (sym (touches-push xs x)))

  pub stands-none : StandsFor t v → StandsFor (t ++ []) v
  stands-none = subst (λ (list : List Touch). StandsFor list v) (sym (append-nil t))

  -- with a record that is no access
  pub stands-quiet : (x : TraceRecord) → touches_in (x ∷ []) ≡ []
      → StandsFor t v → StandsFor (t ++ touches_in (x ∷ [])) v
  stands-quiet x none stood =
      subst (λ (list : List Touch). StandsFor (t ++ list) v) (sym none) (stands-none stood)
