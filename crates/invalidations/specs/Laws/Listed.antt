-- The count that is reported of a listed line is the one that is listed.
use Rattle.std.proofs.Common.{◌≡◌, Bool, leb, List, None, Some, refl, subst, inl, inr}
use Rattle.std.proofs.lemmas.Option.{none-some, same_Some}
use Rattle.std.specs.Prelude.{filter}
use Rattle.base.specs.Levels.{Levels}
use Rattle.base.specs.Lines.{Grid}
use Rattle.base.specs.Touch.{Touch}
use Rattle.sharing_rules.specs.Holders.{line_count_since}
use Rattle.sharing_rules.specs.Laws.Kept.{tracked-opened}
use Rattle.sharing_rules.specs.Laws.Lists.{Member-filter, Member-filter_map, Member-permutation}
use Rattle.sharing_rules.specs.Laws.Lists.{slice_cases}
use Rattle.sharing_rules.specs.Laws.Orders.{in_order-permutes}
use Rattle.sharing_rules.specs.Lines.{is_inside}
use Rattle.sharing_rules.specs.Listed.{Finding, comes_before, found, in_order, listed, tracked}
use Rattle.sharing_rules.specs.Members.{Member}
use Rattle.sharing_rules.specs.Observed.{first_write_from}
use Rattle.sharing_rules.specs.Opened.{finding_of, opened}

abbrev reaches : Levels → Finding → Bool
reaches v f = leb v.report f.count

pub listed-counted : (g : Grid) (v : Levels) (t : List Touch) (f : Finding)
    → Member f (listed g v t) → f.count ≡ line_count_since f.line f.start t
listed-counted g v t f m =
    let xs : List Finding = filter (reaches v) (tracked g v t) in
    let one : Member f xs = Member-permutation xs (in_order comes_before xs) f
    (in_order-permutes comes_before xs) m in
    let two = (Member-filter (reaches v) (tracked g v t) f one).0 in
    let o = Member-filter_map (finding_of t) (opened g v t) f
    (subst (Member f) (tracked-opened g v t) two) in
    elim (slice_cases (first_write_from o.0.from (is_inside o.0.line) t)) [
      | inl none ↦ let z : None ≡ Some f = rw none at o.2 in absurd (none-some f z)
      | inr some ↦
          let z : Some (found t o.0.kind o.0.line some.0) ≡ Some f = rw some.1 at o.2 in
          subst (λ (x : Finding). x.count ≡ line_count_since x.line x.start t) (same_Some _ f z)
          refl
    ]
