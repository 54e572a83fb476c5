-- The page of the stamp is filled, and the other pages stay as they are.
use Rattle.std.proofs.Common.{◌≡◌, ℕ, ◌<◌, ◌≤◌, ◌/◌, ◌%◌, true, refl, arith, length, nat_lt, []}
use Rattle.std.proofs.Common.{sym, ◌∙◌, ap, subst}
use Rattle.std.proofs.lemmas.Bool.{lt-ltb}
use Rattle.std.proofs.lemmas.Bool.Decides.{nat_tests}
use Rattle.std.proofs.lemmas.Result.{on_err_weaker, on_ok_weaker}
use Rattle.std.specs.Prelude.{vec_len}
use Rattle.access_filter.specs.Pages.{page_at, stamp_in}
use Rattle.access_filter.proofs.PageLaws.{missing_blank, page_at-held, page_at-past}
use Rattle.access_filter.proofs.PageLaws.{page_at-related, page_at-same}
use Rattle.access_filter.proofs.pages.make_page.Goals as goal

still_below : (a b n : ℕ) → nat_lt a b ≡ true → b ≤ n → nat_lt a n ≡ true
still_below a b n below more = grind (arith, nat_tests)

pub returns-in-Ok-clause-same : goal.returns-in-Ok-clause-same
returns-in-Ok-clause-same c = λ q.
    let number : ℕ = c.args.place / 4096 in
    let within : number < length c.reach.new.pages.items = omega (arith, c.in-Ok.ensures.reached) in
    let held = page_at-held c.reach.new.pages.items number c.index_mut.result.now within
    c.index_mut.ensures.value in
    page_at-related (λ es fs. (k : ℕ) → stamp_in fs k ≡ stamp_in es k) (λ es k. refl)
    c.reach.new.pages.items number c.fill.new.page within
    (λ k. c.fill.ensures.same k ∙ ap (λ es. stamp_in es k) (sym held)) (q / 4096) (q % 4096)
    ∙ ap (λ es. stamp_in es (q % 4096)) (c.in-Ok.ensures.same (q / 4096))

pub returns-in-Ok-clause-keeps : goal.returns-in-Ok-clause-keeps
returns-in-Ok-clause-keeps c = λ q had.
    let number : ℕ = c.args.place / 4096 in
    let within : number < length c.reach.new.pages.items = omega (arith, c.in-Ok.ensures.reached) in
    let held = page_at-held c.reach.new.pages.items number c.index_mut.result.now within
    c.index_mut.ensures.value in
    let grown : length c.index_mut.result.now.items ≤ length c.fill.new.page.items =
    omega (arith, c.fill.ensures.grown) in
    still_below (q % 4096) (length (page_at c.reach.new.pages.items (q / 4096))) _
    (subst (λ es. nat_lt (q % 4096) (length es) ≡ true) (sym (c.in-Ok.ensures.same (q / 4096))) had)
    (page_at-related (λ es fs. length es ≤ length fs) (λ es. omega arith) c.reach.new.pages.items
    number c.fill.new.page within
    (subst (λ es. length es ≤ length c.fill.new.page.items) (sym held) grown) (q / 4096))

pub returns-in-Ok-clause-made : goal.returns-in-Ok-clause-made
returns-in-Ok-clause-made c =
    let w : ℕ = c.args.place in
    let within : w / 4096 < length c.reach.new.pages.items =
    omega (arith, c.in-Ok.ensures.reached) in
    on_ok_weaker c.fill.result
    (λ (filled : w % 4096 < vec_len c.fill.new.page). λ q same below.
    let size : w % 4096 < length c.fill.new.page.items = omega (arith, filled) in
    let place : q % 4096 ≤ w % 4096 = omega (arith, same, below) in
    lt-ltb _ _ (subst (λ es. q % 4096 < length es)
    (sym (ap (page_at _) same ∙ page_at-same c.reach.new.pages.items (w / 4096) c.fill.new.page
    within))
    (omega (arith, size, place))))
    c.fill.ensures.filled

pub returns-in-Ok-clause-blank : goal.returns-in-Ok-clause-blank
returns-in-Ok-clause-blank c =
    let w : ℕ = c.args.place in
    let within : w / 4096 < length c.reach.new.pages.items =
    omega (arith, c.in-Ok.ensures.reached) in
    let held = page_at-held c.reach.new.pages.items (w / 4096) c.index_mut.result.now within
    c.index_mut.ensures.value in
    on_err_weaker c.fill.result
    (λ (refused : vec_len c.index_mut.result.now ≤ w % 4096).
    missing_blank c.args.pages.now.items w c.index_mut.result.now.items
    (sym (c.in-Ok.ensures.same (w / 4096)) ∙ held) (omega (arith, refused)))
    c.fill.ensures.refused

pub returns-in-Err-clause-blank : goal.returns-in-Err-clause-blank
returns-in-Err-clause-blank c =
    let w : ℕ = c.args.place in
    let past : length c.args.pages.now.items ≤ w / 4096 = omega (arith, c.in-Err.ensures.refused) in
    missing_blank c.args.pages.now.items w []
    (page_at-past c.args.pages.now.items (w / 4096) past) (omega arith)
