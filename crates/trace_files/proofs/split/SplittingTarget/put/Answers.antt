use Rattle.std.proofs.Common.{◌∷◌, [], ◌++◌, ◌∙◌, List, ap, subst, arith}
use Rattle.std.proofs.lemmas.Result.{IfErr-weaker, on_ok_weaker}
use Rattle.shelf.specs.Files.{AreCut, Output}
use Rattle.shelf.specs.OnTheirWay.{IsOutputs}
use Rattle.shelf.specs.Laws.Files.{IsOutputs-begun}
use Rattle.trace_format.specs.declared.splitter.Side.TheVariants.{First, Second, Neither}
use Rattle.trace_format.specs.Splits.{halves_of}
use Rattle.trace_files.specs.Copying.{halves_so_far}
use Rattle.trace_files.proofs.Splittings.{halves_more, put_first, put_nowhere, put_second}
use Rattle.trace_files.proofs.Splittings.{same_files, writer_behind, writer_stays}
use Rattle.trace_files.proofs.split.SplittingTarget.put.Goals as goal

-- ---- to the first half

pub put_record-requires-clause-place : goal.put_record-requires-clause-place
put_record-requires-clause-place g c = rw c.requires.way.came.count (omega arith)

pub put_record-requires-clause-begun : goal.put_record-requires-clause-begun
put_record-requires-clause-begun g c =
    let w = c.requires.way in
    IsOutputs-begun c.args.self.now.files _ w.before (g.S.Shelf.outside c.args.shelf.now) w.outputs

pub returns-in-First-clause-files : goal.returns-in-First-clause-files
returns-in-First-clause-files g c =
    let s = c.args.self.now in
    same_files s.first.now s.second.now s.version s.splitter c.side.new.self c.in-First.ensures.same

pub returns-in-First-clause-has : goal.returns-in-First-clause-has
returns-in-First-clause-has g c =
    on_ok_weaker c.put_record.result
    (λ next seen has.
    let s = c.args.self.now in
    let item = c.args.item.now in
    let old = halves_of s.splitter.cut seen in
    let new = halves_of c.side.new.self.cut (seen ++ item ∷ []) in
    let more = ap (λ k. halves_of k (seen ++ item ∷ [])) c.in-First.ensures.same.cut
    ∙ halves_more c.a_trace_is_cut_in_two.ensures.grows s.splitter.cut seen item First
    (c.in-First.ensures.side seen has.splitter) in
    record {
      splitter = c.in-First.ensures.seen seen has.splitter;
      first = next ∙ writer_behind s.version s.first_writer old.0 new.0 item has.first
          (λ i. (more i).0);
      second = writer_stays s.version s.second_writer old.1 new.1 has.second (λ i. (more i).1);
      count = c.put_record.ensures.count ∙ has.count;
    })
    c.put_record.ensures.next

pub returns-in-First-clause-outputs : goal.returns-in-First-clause-outputs
returns-in-First-clause-outputs g c =
    let s = c.args.self.now in
    on_ok_weaker c.put_record.result
    (λ outputs seen before has on.
    subst (λ (l : List Output). IsOutputs c.put_record.new.self l before
    (g.S.Shelf.outside c.put_record.new.shelf))
    (put_first s.first.now s.second.now s.version s.splitter seen c.args.item.now s.first_writer
    has.first
    (halves_more c.a_trace_is_cut_in_two.ensures.grows s.splitter.cut seen c.args.item.now First
    (c.in-First.ensures.side seen has.splitter)))
    (outputs (halves_so_far s.first.now s.second.now s.version s.splitter seen) before on))
    c.put_record.ensures.outputs

pub returns-in-First-clause-cut : goal.returns-in-First-clause-cut
returns-in-First-clause-cut g c =
    let s = c.args.self.now in
    IfErr-weaker c.put_record.result _ _
    (λ error cut seen before has on.
    subst (λ (l : List Output). AreCut l before (g.S.Shelf.outside c.put_record.new.shelf) error)
    (put_first s.first.now s.second.now s.version s.splitter seen c.args.item.now s.first_writer
    has.first
    (halves_more c.a_trace_is_cut_in_two.ensures.grows s.splitter.cut seen c.args.item.now First
    (c.in-First.ensures.side seen has.splitter)))
    (cut (halves_so_far s.first.now s.second.now s.version s.splitter seen) before on))
    c.put_record.ensures.cut

-- ---- to the second half

pub put_record-requires-in-Second-clause-place : goal.put_record-requires-in-Second-clause-place
put_record-requires-in-Second-clause-place g c = rw c.requires.way.came.count (omega arith)

pub put_record-requires-in-Second-clause-begun : goal.put_record-requires-in-Second-clause-begun
put_record-requires-in-Second-clause-begun g c =
    let w = c.requires.way in
    IsOutputs-begun c.args.self.now.files _ w.before (g.S.Shelf.outside c.args.shelf.now) w.outputs

pub returns-in-Second-clause-files : goal.returns-in-Second-clause-files
returns-in-Second-clause-files g c =
    let s = c.args.self.now in
    same_files s.first.now s.second.now s.version s.splitter c.side.new.self
    c.in-Second.ensures.same

pub returns-in-Second-clause-has : goal.returns-in-Second-clause-has
returns-in-Second-clause-has g c =
    on_ok_weaker c.put_record-in-Second.result
    (λ next seen has.
    let s = c.args.self.now in
    let item = c.args.item.now in
    let old = halves_of s.splitter.cut seen in
    let new = halves_of c.side.new.self.cut (seen ++ item ∷ []) in
    let more = ap (λ k. halves_of k (seen ++ item ∷ [])) c.in-Second.ensures.same.cut
    ∙ halves_more c.a_trace_is_cut_in_two.ensures.grows s.splitter.cut seen item Second
    (c.in-Second.ensures.side seen has.splitter) in
    record {
      splitter = c.in-Second.ensures.seen seen has.splitter;
      first = writer_stays s.version s.first_writer old.0 new.0 has.first (λ i. (more i).0);
      second = next ∙ writer_behind s.version s.second_writer old.1 new.1 item has.second
          (λ i. (more i).1);
      count = c.put_record-in-Second.ensures.count ∙ has.count;
    })
    c.put_record-in-Second.ensures.next

pub returns-in-Second-clause-outputs : goal.returns-in-Second-clause-outputs
returns-in-Second-clause-outputs g c =
    let s = c.args.self.now in
    on_ok_weaker c.put_record-in-Second.result
    (λ outputs seen before has on.
    subst (λ (l : List Output). IsOutputs c.put_record-in-Second.new.self l before
    (g.S.Shelf.outside c.put_record-in-Second.new.shelf))
    (put_second s.first.now s.second.now s.version s.splitter seen c.args.item.now s.second_writer
    has.second
    (halves_more c.a_trace_is_cut_in_two.ensures.grows s.splitter.cut seen c.args.item.now Second
    (c.in-Second.ensures.side seen has.splitter)))
    (outputs (halves_so_far s.first.now s.second.now s.version s.splitter seen) before on))
    c.put_record-in-Second.ensures.outputs

pub returns-in-Second-clause-cut : goal.returns-in-Second-clause-cut
returns-in-Second-clause-cut g c =
    let s = c.args.self.now in
    IfErr-weaker c.put_record-in-Second.result _ _
    (λ error cut seen before has on.
    subst (λ (l : List Output). AreCut l before (g.S.Shelf.outside c.put_record-in-Second.new.shelf)
    error)
    (put_second s.first.now s.second.now s.version s.splitter seen c.args.item.now s.second_writer
    has.second
    (halves_more c.a_trace_is_cut_in_two.ensures.grows s.splitter.cut seen c.args.item.now Second
    (c.in-Second.ensures.side seen has.splitter)))
    (cut (halves_so_far s.first.now s.second.now s.version s.splitter seen) before on))
    c.put_record-in-Second.ensures.cut

-- ---- to neither

pub returns-in-Neither-clause-files : goal.returns-in-Neither-clause-files
returns-in-Neither-clause-files g c =
    let s = c.args.self.now in
    same_files s.first.now s.second.now s.version s.splitter c.side.new.self
    c.in-Neither.ensures.same

pub returns-in-Neither-clause-has : goal.returns-in-Neither-clause-has
returns-in-Neither-clause-has g c = λ seen has.
    let s = c.args.self.now in
    let item = c.args.item.now in
    let old = halves_of s.splitter.cut seen in
    let new = halves_of c.side.new.self.cut (seen ++ item ∷ []) in
    let more = ap (λ k. halves_of k (seen ++ item ∷ [])) c.in-Neither.ensures.same.cut
    ∙ halves_more c.a_trace_is_cut_in_two.ensures.grows s.splitter.cut seen item Neither
    (c.in-Neither.ensures.side seen has.splitter) in
    record {
      splitter = c.in-Neither.ensures.seen seen has.splitter;
      first = writer_stays s.version s.first_writer old.0 new.0 has.first (λ i. (more i).0);
      second = writer_stays s.version s.second_writer old.1 new.1 has.second (λ i. (more i).1);
      count = has.count;
    }

pub returns-in-Neither-clause-outputs : goal.returns-in-Neither-clause-outputs
returns-in-Neither-clause-outputs g c = λ seen before has on.
    let s = c.args.self.now in
    subst (λ (l : List Output). IsOutputs s.files l before (g.S.Shelf.outside c.args.shelf.now))
    (put_nowhere s.first.now s.second.now s.version s.splitter seen c.args.item.now
    (halves_more c.a_trace_is_cut_in_two.ensures.grows s.splitter.cut seen c.args.item.now Neither
    (c.in-Neither.ensures.side seen has.splitter))) on
