-- Each list is noted where it is counted, and what the second takes is counted where it belongs.
use Rattle.std.proofs.Common.{ℕ, ◌+◌, ◌&&◌, [], ◌∷◌, ◌++◌, List, ◌∙◌, ap, arith}
use Rattle.std.proofs.Common.{length-append, subst, sym}
use Rattle.std.specs.Prelude.{if◌then◌else◌}
use Rattle.base.specs.Touch.{Touch}
use Rattle.sharing_rules.specs.Lines.{line_at, native_grid}
use Rattle.layout_sweep.specs.Standing.{HasCounted}
use Rattle.layout_sweep.specs.Windows.{takes, window_of}
use Rattle.placement.specs.Laws.Groups.{line-sized}
use Rattle.placement.specs.Laws.Recounts.{many-push, moved-push}
use Rattle.placement.specs.Plans.{moved_list}
use Rattle.placement.specs.Recounts.{is_of_many}
use Rattle.placement.proofs.recount.Recount.count.Goals as goal

pub returns-clause-stands : goal.returns-clause-stands
returns-clause-stands c = λ t was.
    let s = c.args.self.now in
    let a = c.args.access in
    let b = c.args.there in
    let sized = line-sized s.size s.sized in
    let list : List Touch = moved_list s.plan t in
    record {
      position = omega (arith, was.position, length-append t (a ∷ []));
      before = c.note.ensures.counts t was.before;
      after = subst (λ (u : List Touch). HasCounted u c.note-taken.new.self)
          (sym (moved-push s.plan t a ∙ ap (λ (x : Touch). list ++ x ∷ []) (sym c.requires.moved)))
          (c.note-taken.ensures.counts list was.after);
      many = c.count_many.ensures.value
          ∙ ap (λ (x : ℕ). if c.note-taken.result && is_of_many s.size s.plan x then s.many + 1
          else s.many) c.addr.ensures
          ∙ many-push s.size s.many s.plan t a b c.note-taken.result sized.some sized.whole was.many
          c.requires.moved
          (c.note-taken.ensures.taken list was.after
          ∙ ap (λ (n : ℕ). takes (window_of (line_at (native_grid n) b.addr) list) b) s.each.1);
    }
