-- Only a mapped page has rights.
use Rattle.std.proofs.Common.{◌≡◌, ℕ, ◌-◌, ◌/◌, ◌&&◌, Bool, true, false, cond, List, length}
use Rattle.std.proofs.Common.{replicate, get_or, sym, subst, inl, inr}
use Rattle.std.proofs.Common.{nat_le, nat_lt, refl}
use Rattle.std.specs.List.{All}
use Rattle.std.proofs.lemmas.Bool.{cases_lt}
use Rattle.std.proofs.lemmas.List.{get_or_past}
use Rattle.std.proofs.lemmas.List.Elements.{All-get_or, All-from_get_or, All-replicate}
use Rattle.rv32_hart.specs.declared.page.Page.{Page}
use Rattle.rv32_hart.specs.Space.{Space, IsSpace, IsRightful, page_at, no_page}
use Rattle.rv32_hart.specs.Changes.{granted}

no_rights : IsRightful no_page
no_rights = (λ h. h, λ h. h)

pub fresh_rights : (n : ℕ) → All IsRightful (replicate n no_page)
fresh_rights n = All-replicate IsRightful n no_page no_rights

rightful_or : (pages : List Page) (i : ℕ) → All IsRightful pages
    → IsRightful (get_or pages i no_page)
rightful_or pages i h =
    elim (cases_lt i (length pages)) [
      | inl inside ↦ All-get_or IsRightful pages i no_page inside h
      | inr past ↦ subst IsRightful (sym (get_or_past pages i no_page past)) no_rights
    ]

above : (b : Bool) (p : Page) → IsRightful p → IsRightful (cond b no_page p)
above true p h = no_rights
above false p h = h

pub rightful_at : (m : Space) (a : ℕ) → IsSpace m → IsRightful (page_at m a)
rightful_at m a k = above (nat_lt a m.base) _ (rightful_or m.pages ((a - m.base) / 4096) k.rights)

kept : (b w x : Bool) (p : Page) → IsRightful p → IsRightful (cond b (granted w x p) p)
kept true w x p h = (λ right. refl, λ right. refl)
kept false w x p h = h

pub granted_rights : (old new : List Page) (first end : ℕ) (w x : Bool)
    → ((k : ℕ) → get_or new k no_page ≡ cond (nat_le first k && nat_lt k end)
    (granted w x (get_or old k no_page)) (get_or old k no_page))
    → All IsRightful old → All IsRightful new
granted_rights old new first end w x e h =
    All-from_get_or IsRightful new no_page
    (λ i inside. subst IsRightful (sym (e i))
    (kept (nat_le first i && nat_lt i end) w x (get_or old i no_page) (rightful_or old i h)))
