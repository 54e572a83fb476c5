-- The page of the line is filled, and the other pages stay as they are.
use Rattle.std.proofs.Common.{◌≡◌, ℕ, ◌<◌, ◌≤◌, ◌/◌, ◌%◌, true, false, refl, arith, length, nat_lt}
use Rattle.std.proofs.Common.{sym, ◌∙◌, ap, subst, unwrap_or}
use Rattle.std.proofs.lemmas.Bool.{lt-ltb, le-ltb}
use Rattle.std.proofs.lemmas.Bool.Decides.{nat_tests}
use Rattle.std.proofs.lemmas.Option.{slice_get_past}
use Rattle.std.proofs.lemmas.Result.{on_err_weaker, on_ok_weaker}
use Rattle.std.specs.Prelude.{vec_len}
use Rattle.detector.specs.Entries.{blank_entry}
use Rattle.detector.specs.Pages.{items_at, page_entry}
use Rattle.detector.proofs.PageLaws.{items_at-held, items_at-past, items_at-set_same, related-set}
use Rattle.detector.proofs.pages.make_page.Goals as goal

still_below : (a b n : ℕ) → nat_lt a b ≡ true → b ≤ n → nat_lt a n ≡ true
still_below a b n below more = grind (arith, nat_tests)

pub returns-in-Ok-clause-same : goal.returns-in-Ok-clause-same
returns-in-Ok-clause-same c = λ q.
    let number : ℕ = c.args.place / 64 in
    let within : number < length c.reach.new.all.items = omega (arith, c.in-Ok.ensures.reached) in
    let held : items_at c.reach.new.all.items number ≡ c.index_mut.result.now.items =
    items_at-held c.reach.new.all.items number
    c.index_mut.result.now within c.index_mut.ensures.value in
    related-set (λ es fs. (k : ℕ) → page_entry fs k ≡ page_entry es k)
    (λ es k. refl) c.reach.new.all.items number
    c.fill_page.new.page within
    (λ k. c.fill_page.ensures.same k ∙ ap (λ es. page_entry es k) (sym held)) (q / 64) (q % 64)
    ∙ ap (λ es. page_entry es (q % 64)) (c.in-Ok.ensures.same (q / 64))

pub returns-in-Ok-clause-keeps : goal.returns-in-Ok-clause-keeps
returns-in-Ok-clause-keeps c = λ q had.
    let number : ℕ = c.args.place / 64 in
    let within : number < length c.reach.new.all.items = omega (arith, c.in-Ok.ensures.reached) in
    let held : items_at c.reach.new.all.items number ≡ c.index_mut.result.now.items =
    items_at-held c.reach.new.all.items number
    c.index_mut.result.now within c.index_mut.ensures.value in
    let grown : length c.index_mut.result.now.items ≤ length c.fill_page.new.page.items =
    omega (arith, c.fill_page.ensures.grown) in
    still_below (q % 64) (length (items_at c.reach.new.all.items (q / 64))) _
    (subst (λ es. nat_lt (q % 64) (length es) ≡ true) (sym (c.in-Ok.ensures.same (q / 64))) had)
    (related-set (λ es fs. length es ≤ length fs)
    (λ es. omega arith) c.reach.new.all.items number c.fill_page.new.page within
    (subst (λ es. length es ≤ length c.fill_page.new.page.items) (sym held) grown) (q / 64))

pub returns-in-Ok-clause-placed : goal.returns-in-Ok-clause-placed
returns-in-Ok-clause-placed c =
    let within : c.args.place / 64 < length c.reach.new.all.items =
    omega (arith, c.in-Ok.ensures.reached) in
    let size : vec_len c.fill_page.new.page ≡ length c.fill_page.new.page.items = omega arith in
    on_ok_weaker c.fill_page.result
    (λ (filled : c.args.place % 64 < vec_len c.fill_page.new.page). subst
    (λ es. nat_lt (c.args.place % 64) (length es) ≡ true)
    (sym (items_at-set_same c.reach.new.all.items (c.args.place / 64) c.fill_page.new.page within))
    (lt-ltb _ _ (subst (λ n. c.args.place % 64 < n) size filled)))
    c.fill_page.ensures.filled

pub returns-in-Ok-clause-unplaced : goal.returns-in-Ok-clause-unplaced
returns-in-Ok-clause-unplaced c =
    let within : c.args.place / 64 < length c.reach.new.all.items =
    omega (arith, c.in-Ok.ensures.reached) in
    let size : vec_len c.index_mut.result.now ≡ length c.index_mut.result.now.items = omega arith in
    on_err_weaker c.fill_page.result
    (λ (refused : vec_len c.index_mut.result.now ≤ c.args.place % 64). subst
    (λ es. nat_lt (c.args.place % 64) (length es) ≡ false)
    (sym (items_at-held c.reach.new.all.items (c.args.place / 64) c.index_mut.result.now within
    c.index_mut.ensures.value)
    ∙ c.in-Ok.ensures.same (c.args.place / 64)) (le-ltb _ _
    (subst (λ n. n ≤ c.args.place % 64) size refused)))
    c.fill_page.ensures.refused

pub returns-in-Ok-clause-blank : goal.returns-in-Ok-clause-blank
returns-in-Ok-clause-blank c =
    let within : c.args.place / 64 < length c.reach.new.all.items =
    omega (arith, c.in-Ok.ensures.reached) in
    let size : vec_len c.index_mut.result.now ≡ length c.index_mut.result.now.items = omega arith in
    on_err_weaker c.fill_page.result
    (λ (refused : vec_len c.index_mut.result.now ≤ c.args.place % 64). subst
    (λ es. page_entry es (c.args.place % 64) ≡ blank_entry)
    (sym (items_at-held c.reach.new.all.items (c.args.place / 64) c.index_mut.result.now within
    c.index_mut.ensures.value)
    ∙ c.in-Ok.ensures.same (c.args.place / 64))
    (ap (λ o. unwrap_or o blank_entry) (slice_get_past c.index_mut.result.now.items
    (c.args.place % 64) (subst (λ n. n ≤ c.args.place % 64) size refused))))
    c.fill_page.ensures.refused

pub returns-in-Err-clause-unplaced : goal.returns-in-Err-clause-unplaced
returns-in-Err-clause-unplaced c =
    let past : length c.args.directory.now.items ≤ c.args.place / 64 =
    omega (arith, c.in-Err.ensures.refused) in
    ap (λ es. nat_lt (c.args.place % 64) (length es))
    (items_at-past c.args.directory.now.items (c.args.place / 64) past)
    ∙ le-ltb (c.args.place % 64) 0 (omega arith)

pub returns-in-Err-clause-blank : goal.returns-in-Err-clause-blank
returns-in-Err-clause-blank c =
    let past : length c.args.directory.now.items ≤ c.args.place / 64 =
    omega (arith, c.in-Err.ensures.refused) in
    ap (λ es. page_entry es (c.args.place % 64))
    (items_at-past c.args.directory.now.items (c.args.place / 64) past)
