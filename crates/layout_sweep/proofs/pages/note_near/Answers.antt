-- The row is noted in its page, and the shifts turn with it.
use Rattle.std.proofs.Common.{◌≡◌, ℕ, ◌+◌, ◌/◌, ◌%◌, ◌<◌, ◌∙◌, sym, ap, subst, arith, length}
use Rattle.std.proofs.Common.{List}
use Rattle.std.specs.Vec.{with_items}
use Rattle.layout_sweep.specs.Laws.Lines.{cut_is}
use Rattle.layout_sweep.specs.Pages.{page_at}
use Rattle.layout_sweep.specs.declared.window.Window.{Window}
use Rattle.layout_sweep.proofs.PageLaws.{page_at-held}
use Rattle.layout_sweep.proofs.RowLaws.{AreTurned, behind, behind-low, near_counts, near_inside}
use Rattle.layout_sweep.proofs.RowLaws.{near_outside, row_noted}
use Rattle.layout_sweep.proofs.pages.note_near.Goals as goal

pub note_row-requires-clause-there : goal.note_row-requires-clause-there
note_row-requires-clause-there g c =
    let w : ℕ = c.args.word in
    let row = c.requires.row in
    let held = page_at-held c.args.pages.now.items ((w + 1) / 4096) c.index_mut.result.now row.page
    c.index_mut.ensures.value in
    let size : length (page_at c.args.pages.now.items ((w + 1) / 4096))
    ≡ length c.as_mut_slice.result.now = ap length (held ∙ sym c.as_mut_slice.ensures.value) in
    omega (arith, row.there, size)

pub note_row-requires-clause-first : goal.note_row-requires-clause-first
note_row-requires-clause-first g c =
    let w : ℕ = c.args.word in
    let m : ℕ = length c.args.counts.now in
    subst (λ (k : ℕ). k < m) (sym (c.shift_behind-shift.ensures ∙ ap (behind m) c.shift_of.ensures))
    (behind-low m (w % m) (cut_is m w c.requires.sized).place)

pub returns-clause-inside : goal.returns-clause-inside
returns-clause-inside g c =
    let w : ℕ = c.args.word in
    let m : ℕ = length c.args.counts.now in
    let pages = c.args.pages.now.items in
    let v = c.index_mut.result.now in
    let ws = c.note_row.new.windows in
    let row = c.requires.row in
    near_inside pages w m (with_items v ws) v.items c.args.access row
    (page_at-held pages ((w + 1) / 4096) v row.page c.index_mut.ensures.value)
    (row_noted m (w + 1) c.args.access v c.as_mut_slice.result.now ws c.as_mut_slice.ensures.value
    c.note_row.ensures.windows c.note_row.ensures.inside c.note_row.ensures.outside)

pub returns-clause-outside : goal.returns-clause-outside
returns-clause-outside g c =
    let w : ℕ = c.args.word in
    let m : ℕ = length c.args.counts.now in
    let pages = c.args.pages.now.items in
    let v = c.index_mut.result.now in
    let ws = c.note_row.new.windows in
    let row = c.requires.row in
    near_outside pages w m (with_items v ws) v.items c.args.access row
    (page_at-held pages ((w + 1) / 4096) v row.page c.index_mut.ensures.value)
    (row_noted m (w + 1) c.args.access v c.as_mut_slice.result.now ws c.as_mut_slice.ensures.value
    c.note_row.ensures.windows c.note_row.ensures.inside c.note_row.ensures.outside)

pub returns-clause-counts : goal.returns-clause-counts
returns-clause-counts g c =
    let w : ℕ = c.args.word in
    let m : ℕ = length c.args.counts.now in
    let pages = c.args.pages.now.items in
    let v = c.index_mut.result.now in
    let row = c.requires.row in
    near_counts pages w m c.shift_behind-shift.result v.items c.args.access c.args.counts.now
    c.note_row.new.counts c.requires.sized
    (c.shift_behind-shift.ensures ∙ ap (behind m) c.shift_of.ensures) row
    (page_at-held pages ((w + 1) / 4096) v row.page c.index_mut.ensures.value)
    (subst (λ (old : List Window). AreTurned m c.shift_behind-shift.result (w + 1) c.args.access old
    c.args.counts.now c.note_row.new.counts) c.as_mut_slice.ensures.value
    c.note_row.ensures.counts)
