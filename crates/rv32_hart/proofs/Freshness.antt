-- A memory of zeros.
use Rattle.std.proofs.Common.{◌≡◌, ℕ, zero, suc, ◌-◌, ◌/◌, Bool, true, false, cond, replicate}
use Rattle.std.proofs.Common.{get_or, refl, nat_lt}
use Rattle.std.proofs.lemmas.List.{length-replicate}
use Rattle.rv32_hart.specs.Space.{IsFresh, no_page}

-- copies of the default, wherever they are read
get_or-copies : {X : Type 0} → (n : ℕ) (x : X) (i : ℕ) → get_or (replicate n x) i x ≡ x
get_or-copies zero x i = refl
get_or-copies (suc n) x zero = refl
get_or-copies (suc n) x (suc i) = get_or-copies n x i

either : {X : Type 0} → (b : Bool) (x y : X) → y ≡ x → cond b x y ≡ x
either true x y h = refl
either false x y h = h

pub fresh : (base size : ℕ)
    → IsFresh (record {
      base = base;
      bytes = replicate size 0;
      pages = replicate (size / 4096)
          no_page;
    }) base size
fresh base size = record {
  place = refl;
  extent = length-replicate size 0;
  bytes = λ a. either (nat_lt a base) 0 _ (get_or-copies size 0 (a - base));
  pages = λ a. either (nat_lt a base) no_page _
      (get_or-copies (size / 4096) no_page ((a - base) / 4096));
}
