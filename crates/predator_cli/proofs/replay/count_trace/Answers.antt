use Rattle.command_line.specs.Replay.{replay_meaning}
use Rattle.predator_cli.proofs.ReplayEnds.{settings_stopped, state_stopped, trace_counted}
use Rattle.predator_cli.proofs.ReplayEnds.{trace_stopped}
use Rattle.predator_cli.proofs.replay.count_trace.Goals as goal

pub returns-in-Err-clause-stopped : goal.returns-in-Err-clause-stopped
returns-in-Err-clause-stopped g c =
    settings_stopped (replay_meaning c.args.options.now) (g.S.Shelf.outside c.args.shelf.now)
    (g.S.Shelf.outside c.read_settings.new.shelf) c.in-Err.status c.in-Err.ensures.stopped

pub returns-in-Err-read_state-clause-stopped : goal.returns-in-Err-read_state-clause-stopped
returns-in-Err-read_state-clause-stopped g c =
    state_stopped (replay_meaning c.args.options.now) c.in-Ok.settings c.unwrap_or-layout.result
    c.thresholds_of-thresholds.result
    (rw c.native_layout.ensures at c.unwrap_or-layout.ensures)
    c.thresholds_of-thresholds.ensures.value
    (g.S.Shelf.outside c.args.shelf.now) (g.S.Shelf.outside c.read_settings.new.shelf)
    (g.S.Shelf.outside c.read_state.new.shelf)
    c.in-Err-read_state.status c.in-Ok.ensures.read c.in-Ok.ensures.accepted
    c.in-Err-read_state.ensures.stopped

pub returns-in-Ok-count_from-clause-counted : goal.returns-in-Ok-count_from-clause-counted
returns-in-Ok-count_from-clause-counted g c =
    trace_counted (replay_meaning c.args.options.now) c.in-Ok.settings c.unwrap_or-layout.result
    c.thresholds_of-thresholds.result
    (rw c.native_layout.ensures at c.unwrap_or-layout.ensures)
    c.thresholds_of-thresholds.ensures.value
    c.in-Ok-read_state.begun
    (g.S.Shelf.outside c.args.shelf.now) (g.S.Shelf.outside c.read_settings.new.shelf)
    (g.S.Shelf.outside c.read_state.new.shelf)
    (g.S.Shelf.outside c.count_from.new.shelf) c.in-Ok.ensures.read c.in-Ok.ensures.accepted
    c.in-Ok-read_state.ensures.accepted
    c.in-Ok-read_state.ensures.begun c.in-Ok-count_from.counted.text.items
    c.in-Ok-count_from.counted.state.items
    c.in-Ok-count_from.ensures.accepted c.in-Ok-count_from.ensures.counted

pub returns-in-Err-count_from-clause-stopped : goal.returns-in-Err-count_from-clause-stopped
returns-in-Err-count_from-clause-stopped g c =
    trace_stopped (replay_meaning c.args.options.now) c.in-Ok.settings c.unwrap_or-layout.result
    c.thresholds_of-thresholds.result
    (rw c.native_layout.ensures at c.unwrap_or-layout.ensures)
    c.thresholds_of-thresholds.ensures.value
    c.in-Ok-read_state.begun
    (g.S.Shelf.outside c.args.shelf.now) (g.S.Shelf.outside c.read_settings.new.shelf)
    (g.S.Shelf.outside c.read_state.new.shelf)
    (g.S.Shelf.outside c.count_from.new.shelf) c.in-Ok.ensures.read c.in-Ok.ensures.accepted
    c.in-Ok-read_state.ensures.accepted
    c.in-Ok-read_state.ensures.begun c.in-Err-count_from.status c.in-Err-count_from.ensures.stopped
