use Rattle.std.proofs.Common.{arith, ◌≡◌, ◌<◌, ℕ, List, Some, length, get_or, true, sym, ◌∙◌, ap}
use Rattle.std.specs.List.{find}
use Rattle.hart_scheduler.specs.Choices.{is_runnable}
use Rattle.hart_scheduler.specs.Listed.{is_able, harts_from}
use Rattle.hart_scheduler.specs.ScheduleParts.{ListEntry}
use Rattle.hart_scheduler.proofs.ListedLaws.{found_at}
use Rattle.hart_scheduler.proofs.listed.Listed.first.Goals as goal

pub returns-then-place-len : goal.returns-then-place-len
returns-then-place-len c =
    let runnable = c.args.runnable.now in
    let items = c.self.inside.entries.items in
    let place = c.first_able-place.result in
    let d = c.index.result.now in
    let same : c.as_slice.result.now ≡ items = c.as_slice.ensures.value in
    let inside : place < length items = omega arith in
    let before : place < length c.as_slice.result.now = omega arith in
    let able : is_able runnable (get_or items place d)
    ≡ true = rw same at (c.first_able-place.ensures.able d before) in
    let found : find (is_runnable runnable) (harts_from items c.self.inside.place)
    ≡ find (is_runnable runnable) (harts_from items place) =
    rw same at c.first_able-place.ensures.found in
    ap (λ (entry : ListEntry). Some entry.hart) (c.behind-self.view_is ∙ c.index.ensures)
    ∙ sym (found_at runnable items place d inside able) ∙ sym found
    ∙ ap (λ (harts : List ℕ). find (is_runnable runnable) harts) c.self.view_is
