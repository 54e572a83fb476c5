use Rattle.std.proofs.Common.{◌≡◌, ℕ, ◌<◌, ◌≤◌, ◌/◌, ◌%◌, false, refl, IsTrue, OnErr, OnOk, arith}
use Rattle.std.proofs.Common.{length, sym, ◌∙◌, ap, subst}
use Rattle.detector.specs.Entries.{blank_entry}
use Rattle.detector.specs.Lending.{KeepsPlaces}
use Rattle.detector.specs.Pages.{directory_entry, has_line, items_at}
use Rattle.detector.proofs.PageLaws.{items_at-held, items_at-past, items_at-set_same, related-set}
use Rattle.detector.proofs.paged_index.PagedIndex.make_page.Goals as goal
use Rattle.std.proofs.lemmas.Bool.{le-ltb}

pub returns-in-Ok-clause-same : goal.returns-in-Ok-clause-same
returns-in-Ok-clause-same c = λ q.
    let number : ℕ = c.args.line / 262144 in
    let within : number < length c.reach.new.all.items = omega (arith, c.in-Ok.ensures.reached) in
    let held : items_at c.reach.new.all.items number ≡ c.index_mut.result.now.items =
    items_at-held c.reach.new.all.items number
    c.index_mut.result.now within c.index_mut.ensures.value in
    related-set (λ ps qs. (k : ℕ) → directory_entry qs k ≡ directory_entry ps k)
    (λ ps k. refl) c.reach.new.all.items number
    c.make_page.new.directory within
    (λ k. c.make_page.ensures.same k ∙ ap (λ pages. directory_entry pages k) (sym held))
    (q / 262144) (q % 262144)
    ∙ ap (λ pages. directory_entry pages (q % 262144)) (c.in-Ok.ensures.same (q / 262144))

pub returns-in-Ok-clause-keeps : goal.returns-in-Ok-clause-keeps
returns-in-Ok-clause-keeps c = λ q had.
    let number : ℕ = c.args.line / 262144 in
    let within : number < length c.reach.new.all.items = omega (arith, c.in-Ok.ensures.reached) in
    let held : items_at c.reach.new.all.items number ≡ c.index_mut.result.now.items =
    items_at-held c.reach.new.all.items number
    c.index_mut.result.now within c.index_mut.ensures.value in
    related-set (λ ps qs. KeepsPlaces (has_line ps) (has_line qs))
    (λ ps k h. h) c.reach.new.all.items number c.make_page.new.directory
    within
    (λ k h. c.make_page.ensures.keeps k (subst (λ ps. IsTrue (has_line ps k)) held h)) (q / 262144)
    (q % 262144)
    (subst (λ ps. IsTrue (has_line ps (q % 262144))) (sym (c.in-Ok.ensures.same (q / 262144))) had)

pub returns-in-Ok-clause-placed : goal.returns-in-Ok-clause-placed
returns-in-Ok-clause-placed c =
    let within : c.args.line / 262144 < length c.reach.new.all.items =
    omega (arith, c.in-Ok.ensures.reached) in
    subst (λ pages. OnOk c.make_page.result (IsTrue (has_line pages (c.args.line % 262144))))
    (sym (items_at-set_same c.reach.new.all.items
    (c.args.line / 262144) c.make_page.new.directory within)) c.make_page.ensures.placed

pub returns-in-Ok-clause-unplaced : goal.returns-in-Ok-clause-unplaced
returns-in-Ok-clause-unplaced c =
    let within : c.args.line / 262144 < length c.reach.new.all.items =
    omega (arith, c.in-Ok.ensures.reached) in
    subst (λ pages. OnErr c.make_page.result (has_line pages (c.args.line % 262144) ≡ false))
    (sym (items_at-held c.reach.new.all.items (c.args.line / 262144) c.index_mut.result.now within
    c.index_mut.ensures.value)
    ∙ c.in-Ok.ensures.same (c.args.line / 262144))
    c.make_page.ensures.unplaced

pub returns-in-Ok-clause-blank : goal.returns-in-Ok-clause-blank
returns-in-Ok-clause-blank c =
    let within : c.args.line / 262144 < length c.reach.new.all.items =
    omega (arith, c.in-Ok.ensures.reached) in
    subst (λ pages. OnErr c.make_page.result (directory_entry pages (c.args.line % 262144)
    ≡ blank_entry))
    (sym (items_at-held c.reach.new.all.items (c.args.line / 262144) c.index_mut.result.now within
    c.index_mut.ensures.value)
    ∙ c.in-Ok.ensures.same (c.args.line / 262144))
    c.make_page.ensures.blank

pub returns-in-Err-clause-unplaced : goal.returns-in-Err-clause-unplaced
returns-in-Err-clause-unplaced c =
    let past : length c.args.self.now.directories.items ≤ c.args.line / 262144 =
    omega (arith, c.in-Err.ensures.refused) in
    ap (λ pages. has_line pages (c.args.line % 262144))
    (items_at-past c.args.self.now.directories.items (c.args.line / 262144) past)
    ∙ le-ltb (c.args.line % 262144 % 64) 0 (omega arith)

pub returns-in-Err-clause-blank : goal.returns-in-Err-clause-blank
returns-in-Err-clause-blank c =
    let past : length c.args.self.now.directories.items ≤ c.args.line / 262144 =
    omega (arith, c.in-Err.ensures.refused) in
    ap (λ pages. directory_entry pages (c.args.line % 262144))
    (items_at-past c.args.self.now.directories.items (c.args.line / 262144) past)
