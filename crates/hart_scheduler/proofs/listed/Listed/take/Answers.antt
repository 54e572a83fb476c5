use Rattle.std.proofs.Common.{arith, ◌≡◌, ◌<◌, ◌≤◌, List, ℕ, Option, length, get_or, true, is_some}
use Rattle.std.proofs.Common.{subst, sym, ◌∙◌, ap}
use Rattle.std.specs.List.{after_first, find}
use Rattle.hart_scheduler.specs.Choices.{is_runnable}
use Rattle.hart_scheduler.specs.Listed.{is_able, harts_from}
use Rattle.hart_scheduler.specs.ScheduleParts.{ListEntry}
use Rattle.hart_scheduler.proofs.ListedLaws.{found_at, taken, nothing_left}
use Rattle.hart_scheduler.proofs.listed.Listed.take.Goals as goal

pub returns-then-place-len-clause-after : goal.returns-then-place-len-clause-after
returns-then-place-len-clause-after c =
    let runnable = c.args.runnable.now in
    let items = c.self.inside.entries.items in
    let place = c.first_able-place.result in
    let same : c.as_slice.result.now ≡ items = c.as_slice.ensures.value in
    let left : after_first (is_runnable runnable) (harts_from items c.self.inside.place)
    ≡ after_first (is_runnable runnable)
    (harts_from items place) =
    rw same at c.first_able-place.ensures.left in
    let whole : after_first (is_runnable runnable) (harts_from items place)
    ≡ after_first (is_runnable runnable) c.args.self.now =
    sym left ∙ ap (λ (harts : List ℕ). after_first (is_runnable runnable) harts) c.self.view_is in
    let entry : ListEntry = record { hart = c.entry.inside.hart; count = c.entry.inside.count } in
    let own : entry ≡ get_or items place entry = subst (λ (e : ListEntry). e ≡ get_or items place e)
    (sym c.entry.view_is)
    c.index_mut-entry.ensures.value in
    let inside : place < length items = omega arith in
    let before : place < length c.as_slice.result.now = omega arith in
    let able : is_able runnable (get_or items place entry)
    ≡ true = rw same at (c.first_able-place.ensures.able entry before) in
    taken runnable items place entry inside own able ∙ whole

pub returns-then-place-len-clause-taken : goal.returns-then-place-len-clause-taken
returns-then-place-len-clause-taken c =
    let runnable = c.args.runnable.now in
    let items = c.self.inside.entries.items in
    let place = c.first_able-place.result in
    let d : ListEntry = record { hart = c.entry.inside.hart; count = c.entry.inside.count } in
    let same : c.as_slice.result.now ≡ items = c.as_slice.ensures.value in
    let inside : place < length items = omega arith in
    let before : place < length c.as_slice.result.now = omega arith in
    let able : is_able runnable (get_or items place d)
    ≡ true = rw same at (c.first_able-place.ensures.able d before) in
    let found : find (is_runnable runnable) (harts_from items c.self.inside.place)
    ≡ find (is_runnable runnable) (harts_from items place) =
    rw same at c.first_able-place.ensures.found in
    ap (λ (o : Option ℕ). is_some o)
    (sym (found_at runnable items place d inside able) ∙ sym found
    ∙ ap (λ (harts : List ℕ). find (is_runnable runnable) harts)
    c.self.view_is)

pub returns-else-place-len-clause-after : goal.returns-else-place-len-clause-after
returns-else-place-len-clause-after c =
    let runnable = c.args.runnable.now in
    let items = c.self.inside.entries.items in
    let place = c.first_able-place.result in
    let same : c.as_slice.result.now ≡ items = c.as_slice.ensures.value in
    let left : after_first (is_runnable runnable) (harts_from items c.self.inside.place)
    ≡ after_first (is_runnable runnable)
    (harts_from items place) =
    rw same at c.first_able-place.ensures.left in
    let past : length items ≤ place = omega arith in
    nothing_left runnable items place past ∙ sym left
    ∙ ap (λ (harts : List ℕ). after_first (is_runnable runnable) harts) c.self.view_is
