use Rattle.std.proofs.Common.{◌≡◌, ◌<◌, ◌≤◌, ap, drop, length, not, subst, take, ◌∙◌}
use Rattle.std.specs.List.{AllWithin, list_all}
use Rattle.trace_files.specs.NearMoves.{comes_from_near, moved_near, near_end, near_from}
use Rattle.trace_files.specs.Rows.{turned}
use Rattle.trace_files.proofs.NearRanges.{part-around}
use Rattle.trace_files.proofs.near_moves.some_come_from_far.Goals as goal

pub returns : goal.returns
returns c =
    let near = c.args.near in
    let x = c.args.moved in
    let places = c.args.places.now in
    let before = c.begun_below-before in
    let end = c.begun_below-end in
    let from : c.near_from.result ≡ near_from (moved_near near) x =
    c.near_from.ensures ∙ ap (λ n. near_from n x) c.min.ensures in
    let until : c.near_end.result ≡ near_end (moved_near near) x =
    c.near_end.ensures ∙ ap (λ n. near_end n x) c.min-2.ensures in
    let low : AllWithin (λ m. m.from < near_from (moved_near near) x) places 0 before.result =
    subst (λ n. AllWithin (λ m. m.from < n) places 0 before.result) from before.ensures.below in
    let high : AllWithin (λ m. near_end (moved_near near) x ≤ m.from) places end.result
    (length places) =
    subst (λ n. AllWithin (λ m. n ≤ m.from) places end.result (length places)) until
    end.ensures.above in
    ap not
    (c.all_come_from_near.ensures
    ∙ ap (list_all (λ m. comes_from_near near x c.args.addr (turned m)))
    (c.part_behind.ensures
    ∙ ap (λ n. drop n (take end.result places)) c.saturating_sub.ensures)
    ∙ part-around near x c.args.addr places c.requires.rising before.result end.result
    before.ensures.bound end.ensures.bound low high)
