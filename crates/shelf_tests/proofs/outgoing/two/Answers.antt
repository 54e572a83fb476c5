use Rattle.std.proofs.Common.{◌≡◌, ◌≢◌, [], ◌∷◌, List, ℕ, ap, false, get_or, nat_eq, subst, sym}
use Rattle.std.proofs.Common.{true}
use Rattle.shelf.specs.OnTheirWay.{IsNew}
use Rattle.shelf_tests.proofs.outgoing.two.Goals as goal

other : (let l : List ℕ = 97 ∷ [] in l) ≢ (98 ∷ [])
other = λ e. let codes : true ≡ false = ap (λ (l : List ℕ). nat_eq (get_or l 0 0) 97) e in cc

pub begin-requires : goal.begin-requires
begin-requires c = subst (IsNew (98 ∷ [])) (sym c.in-Ok.ensures.names) (other, tt)
