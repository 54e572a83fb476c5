use Rattle.std.proofs.Common.{arith, length}
use Rattle.trace_passes.specs.Lives.{objects_of}
use Rattle.trace_format.specs.Rules.{touches_in}
use Rattle.predator_cli.specs.Replay.{grid_in, levels_in}
use Rattle.predator_cli.specs.GoesOn.{work_of_both}
use Rattle.predator_cli.proofs.CutLaws.{carried_on, halves_cut}
use Rattle.predator_cli.proofs.GoOnAnswers.{answered_on}
use Rattle.predator_cli.proofs.GoOnLaws.{begun_there, gone_on, replay_taken, taken_up}
use Rattle.predator_cli.proofs.GoodLaws.{of_harts, savable}
use Rattle.predator_cli.proofs.TrackLaws.{notes_alone}
use Rattle.predator_cli.proofs.laws.a_replay_goes_on_from_a_list.Goals as goal

pub returns-clause-taken : goal.returns-clause-taken
returns-clause-taken c = λ g v harts before may.
    taken_up g v harts before may
    (λ more. c.the_state_of_a_list_is_taken_up.ensures.taken g v harts (touches_in before) more
    may.kept)
    (λ place. c.what_is_resumed_was_saved.ensures.again place (length (touches_in before))
    (objects_of before) may.kept.short may.objects)

pub returns-clause-goes_on : goal.returns-clause-goes_on
returns-clause-goes_on c =
    gone_on c.what_is_noted_is_seen.ensures.seen c.what_is_noted_is_seen.ensures.report
    c.what_is_noted_is_seen.ensures.objects c.what_is_noted_is_seen.ensures.apart
    c.the_state_of_a_list_is_taken_up.ensures.stands
    c.the_state_of_a_list_is_taken_up.ensures.saved

pub returns-clause-replayed : goal.returns-clause-replayed
returns-clause-replayed c = λ demand files name harts before t named may held trace same.
    let g = grid_in demand files in
    let v = levels_in demand files in
    replay_taken demand files name harts before named held
    (returns-clause-taken c g v harts before may) t
    (work_of_both demand.save g v harts before t) trace
    (returns-clause-goes_on c demand.save g v harts before t may same)

pub returns-clause-answered : goal.returns-clause-answered
returns-clause-answered c = λ demand files harts before t so settings.
    let g = grid_in demand files in
    let v = levels_in demand files in
    let taken = returns-clause-taken c g v harts before so.may in
    answered_on demand files harts before t so taken
    (begun_there demand files so.name harts before so.named so.state taken)
    (work_of_both demand.save g v harts before t)
    (returns-clause-replayed c demand files so.name harts before t so.named so.may so.state
    so.trace so.same_harts)
    settings

pub returns-clause-no_new_track : goal.returns-clause-no_new_track
returns-clause-no_new_track c = notes_alone c.an_access_changes_what_it_meets.ensures.none_added

pub returns-clause-carried : goal.returns-clause-carried
returns-clause-carried c = λ save g v whole final earlier cut.
    carried_on c.what_is_noted_is_seen.ensures.objects save g v whole final earlier cut

pub returns-clause-halves : goal.returns-clause-halves
returns-clause-halves c = λ at bytes whole small is plain.
    halves_cut at whole
    (c.the_halves_are_traces.ensures.halves at whole
    (c.the_halves_are_traces.ensures.whole bytes whole small is) plain)
    (c.a_trace_is_its_spelling.ensures bytes whole small is).good.counted

pub returns-clause-good : goal.returns-clause-good
returns-clause-good c = λ w harts before good short.
    savable w harts before good
    (omega (arith, c.what_stands_was_noted.ensures.few_symbols before, short))
    (omega (arith, c.what_stands_was_noted.ensures.few_blocks before, short))
    (c.what_stands_was_noted.ensures.lives before) (c.what_stands_was_noted.ensures.symbols before)
    (c.what_stands_was_noted.ensures.lone before) (c.what_is_noted_is_seen.ensures.apart before)

pub returns-clause-of_harts : goal.returns-clause-of_harts
returns-clause-of_harts c = of_harts
