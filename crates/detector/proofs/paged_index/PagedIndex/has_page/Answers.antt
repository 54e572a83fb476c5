-- The page is that of the line.
use Rattle.std.proofs.Common.{◌≡◌, ℕ, ◌/◌, ◌%◌, arith, length, nat_lt, sym, ◌∙◌, ap}
use Rattle.detector.specs.Pages.{items_at}
use Rattle.detector.proofs.PageLaws.{items_at-read}
use Rattle.detector.proofs.paged_index.PagedIndex.has_page.Goals as goal

pub returns-in-Some-get : goal.returns-in-Some-get
returns-in-Some-get c =
    let number : ℕ = c.args.line / 262144 in
    let place : ℕ = c.args.line % 262144 in
    let directory : items_at c.args.self.now.directories.items number
    ≡ c.in-Some.directory.now.items =
    items_at-read c.args.self.now.directories.items c.deref.result.now number
    c.in-Some.directory.now c.deref.ensures.value
    c.in-Some.ensures.lookup.0 c.in-Some.ensures.lookup.1 in
    let page : items_at c.in-Some.directory.now.items (place / 64) ≡ c.in-Some-get.page.now.items =
    items_at-read c.in-Some.directory.now.items c.deref-in-Some.result.now
    (place / 64) c.in-Some-get.page.now
    c.deref-in-Some.ensures.value c.in-Some-get.ensures.lookup.0 c.in-Some-get.ensures.lookup.1 in
    let size : c.len.result ≡ length c.in-Some-get.page.now.items = omega (arith, c.len.ensures) in
    ap (nat_lt (place % 64)) size
    ∙ sym (ap (λ ps. nat_lt (place % 64) (length (items_at ps (place / 64)))) directory
    ∙ ap (λ es. nat_lt (place % 64) (length es)) page)
