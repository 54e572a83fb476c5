-- The harts that came since a line's last write are those that hold it.
use Rattle.std.proofs.Common.{◌≡◌, ℕ, Bool, false, eqb, not, ◌&&◌, ◌||◌, List, [], ◌∷◌, ◌++◌, refl}
use Rattle.std.proofs.Common.{ap}
use Rattle.std.proofs.lemmas.List.Sums.{fold-append}
use Rattle.std.specs.Prelude.{if◌then◌else◌, fold}
use Rattle.base.specs.Touch.{Touch, is_write}
use Rattle.sharing_rules.specs.Holders.{holders, after_access}

-- holders of one line, by a test of its addresses
abbrev pub held_after : (ℕ → Bool) → (ℕ → Bool) → Touch → ℕ → Bool
held_after inside held a h = if inside a.addr
    then (eqb h a.hart || (not (is_write a.kind) && held h)) else held h

abbrev pub holds : (ℕ → Bool) → List Touch → ℕ → Bool
holds inside t = fold (held_after inside) (λ h. false) t

-- the holders at one line are the holders of that line alone
holders-from : (line_of : ℕ → ℕ) (r : ℕ) (t : List Touch) (held : ℕ → ℕ → Bool) (h : ℕ)
    → fold (after_access line_of) held t h r ≡ fold (held_after (λ a. eqb (line_of a) r))
    (λ g. held g r) t h
holders-from line_of r [] held h = refl
holders-from line_of r (a ∷ t) held h = holders-from line_of r t (after_access line_of held a) h

pub holders-holds : (line_of : ℕ → ℕ) (r : ℕ) (t : List Touch) (h : ℕ)
    → holders line_of t h r ≡ holds (λ a. eqb (line_of a) r) t h
holders-holds line_of r t h = holders-from line_of r t (λ g q. false) h

pub holds-push : (inside : ℕ → Bool) (t : List Touch) (a : Touch) (h : ℕ)
    → holds inside (t ++ a ∷ []) h ≡ held_after inside (holds inside t) a h
holds-push inside t a h = ap (λ (f : ℕ → Bool). f h)
    (fold-append (held_after inside) (λ h. false) t (a ∷ []))
