-- The blocks of a list of records with one record more.
use Rattle.std.proofs.Common.{◌≡◌, ℕ, ◌+◌, Bool, true, false, List, [], ◌∷◌, ◌++◌, length, map}
use Rattle.std.proofs.Common.{Option, Some, None}
use Rattle.std.proofs.Common.{refl, sym, ap, ◌∙◌, inl, inr, append_assoc, arith}
use Rattle.std.specs.Prelude.{◌&&◌, is_none, if◌then◌else◌}
use Rattle.std.proofs.Math.Bool.{and-false}
use Rattle.std.proofs.Math.Nat.{add-zero}
use Rattle.std.proofs.lemmas.Bool.{cases_Bool}
use Rattle.std.proofs.lemmas.List.{append-nil, map-append}
use Rattle.objects.specs.declared.block.Block.{Block}
use Rattle.objects.specs.Blocks.{newborn}
use Rattle.trace_format.specs.Reading.{counted_after}
use Rattle.trace_format.specs.Rules.{touches_in}
use Rattle.trace_format.specs.declared.record.TraceRecord.{TraceRecord}
use Rattle.trace_format.specs.declared.record.TraceRecord.TheVariants as records
use Rattle.trace_passes.specs.Lives.{death_in, ends_at, lived, made_by, made_in}

-- the position behind records
abbrev pub position_after : ℕ → List TraceRecord → ℕ
position_after position items = position + length (touches_in items)

counted : (p : ℕ) (x : TraceRecord) (xs : List TraceRecord) → position_after (counted_after p x) xs
    ≡ position_after p (x ∷ xs)
counted p (records.Touch a pc) xs = omega arith
counted p (records.Alloc addr size sites) xs = refl
counted p (records.Free addr) xs = refl
counted p (records.Symbol kind addr size name) xs = refl
counted p (records.End e) xs = refl

-- a block once a record came at a position
abbrev pub ended : ℕ → TraceRecord → Block → Block
ended position item b =
    if is_none b.died && ends_at b.addr item then record b { died = Some position } else b

death_in-push : (addr p : ℕ) (xs : List TraceRecord) (x : TraceRecord)
    → death_in addr p (xs ++ x ∷ [])
    ≡ if is_none (death_in addr p xs) && ends_at addr x then Some (position_after p xs)
    else death_in addr p xs
death_in-push addr p [] x = ap (λ q. if ends_at addr x then Some q else None) (sym (add-zero p))
death_in-push addr p (y ∷ xs) x =
    elim (cases_Bool (ends_at addr y)) [
      | inl ends ↦ rw ends refl
      | inr other ↦
          let later : Option ℕ = death_in addr (counted_after p y) xs in
          rw other (death_in-push addr (counted_after p y) xs x
          ∙ ap (λ q. if is_none later && ends_at addr x then Some q else later) (counted p y xs))
    ]

chosen : (c : Bool) (b : Block) (new old : Option ℕ)
    → record b { died = if c then new else old } ≡ if c then record b { died = new }
    else record b { died = old }
chosen true b new old = refl
chosen false b new old = refl

lived_at : (p : ℕ) (xs : List TraceRecord) (x : TraceRecord) (b : Block) (died : Option ℕ)
    → lived p (xs ++ x ∷ []) (record b { died = died }) ≡ ended (position_after p xs) x
    (lived p xs (record b { died = died }))
lived_at p xs x b (Some d) = refl
lived_at p xs x b None =
    ap (λ (d : Option ℕ). record b { died = d }) (death_in-push b.addr p xs x)
    ∙ chosen (is_none (death_in b.addr p xs) && ends_at b.addr x) b (Some (position_after p xs))
    (death_in b.addr p xs)

lived-push : (p : ℕ) (xs : List TraceRecord) (x : TraceRecord) (b : Block)
    → lived p (xs ++ x ∷ []) b ≡ ended (position_after p xs) x (lived p xs b)
lived-push p xs x b = lived_at p xs x b b.died

lived-all : (p : ℕ) (xs : List TraceRecord) (x : TraceRecord) (bs : List Block)
    → map (lived p (xs ++ x ∷ [])) bs ≡ map (ended (position_after p xs) x) (map (lived p xs) bs)
lived-all p xs x [] = refl
lived-all p xs x (b ∷ bs) =
    ap (λ c. c ∷ map (lived p (xs ++ x ∷ [])) bs) (lived-push p xs x b)
    ∙ ap (λ cs. ended (position_after p xs) x (lived p xs b) ∷ cs) (lived-all p xs x bs)

made_by-push : (p : ℕ) (y : TraceRecord) (xs : List TraceRecord) (x : TraceRecord)
    → made_by p y (xs ++ x ∷ []) ≡ map (ended (position_after p (y ∷ xs)) x) (made_by p y xs)
made_by-push p (records.Touch a pc) xs x = refl
made_by-push p (records.Alloc addr size sites) xs x =
    ap (λ b. b ∷ []) (lived-push p xs x (newborn p addr size sites))
made_by-push p (records.Free addr) xs x = refl
made_by-push p (records.Symbol kind addr size name) xs x = refl
made_by-push p (records.End e) xs x = refl

made_in-push : (p : ℕ) (xs : List TraceRecord) (x : TraceRecord)
    → made_in p (xs ++ x ∷ []) ≡ map (ended (position_after p xs) x) (made_in p xs) ++ made_by
    (position_after p xs) x []
made_in-push p [] x = append-nil (made_by p x []) ∙ ap (λ q. made_by q x []) (sym (add-zero p))
made_in-push p (y ∷ xs) x =
    let q = position_after p (y ∷ xs) in
    let later = counted_after p y in
    ap (λ bs. bs ++ made_in later (xs ++ x ∷ [])) (made_by-push p y xs x)
    ∙ ap (λ bs. map (ended q x) (made_by p y xs) ++ bs) (made_in-push later xs x
    ∙ ap (λ n. map (ended n x) (made_in later xs) ++ made_by n x []) (counted p y xs))
    ∙ sym (append_assoc (map (ended q x) (made_by p y xs)) (map (ended q x) (made_in later xs))
    (made_by q x []))
    ∙ ap (λ bs. bs ++ made_by q x [])
    (sym (map-append (ended q x) (made_by p y xs) (made_in later xs)))

-- the blocks of records and of what was there before
abbrev pub blocks_behind : List Block → ℕ → List TraceRecord → List Block
blocks_behind before p xs = map (lived p xs) before ++ made_in p xs

pub blocks_behind-push : (before : List Block) (p : ℕ) (xs : List TraceRecord) (x : TraceRecord)
    → blocks_behind before p (xs ++ x ∷ [])
    ≡ map (ended (position_after p xs) x) (blocks_behind before p xs) ++ made_by
    (position_after p xs) x []
blocks_behind-push before p xs x =
    let q = position_after p xs in
    ap (λ bs. bs ++ made_in p (xs ++ x ∷ [])) (lived-all p xs x before)
    ∙ ap (λ bs. map (ended q x) (map (lived p xs) before) ++ bs) (made_in-push p xs x)
    ∙ sym (append_assoc (map (ended q x) (map (lived p xs) before)) (map (ended q x) (made_in p xs))
    (made_by q x []))
    ∙ ap (λ bs. bs ++ made_by q x [])
    (sym (map-append (ended q x) (map (lived p xs) before) (made_in p xs)))

-- a record at which nothing dies
pub none_ended : (q : ℕ) (x : TraceRecord) → ((addr : ℕ) → ends_at addr x ≡ false)
    → (bs : List Block)
    → map (ended q x) bs ≡ bs
none_ended q x never [] = refl
none_ended q x never (b ∷ bs) =
    rw (never b.addr, and-false (is_none b.died)) (ap (λ cs. b ∷ cs) (none_ended q x never bs))
