use Rattle.std.proofs.Common.{◌≡◌, ◌∙◌, ◌+◌, ◌≤◌, ◌&&◌, pos, true, false, ap, length, sym, arith}
use Rattle.std.specs.Prelude.{int_le, is_some, nat_le, not}
use Rattle.saved_state.specs.Parts.{header_meant, kept_of}
use Rattle.detector.specs.Counts.{count_at}
use Rattle.saved_state.specs.Ready.{due_numbers}
use Rattle.saved_state.proofs.AddLaws.{predicted_is}
use Rattle.saved_state.proofs.placing.is_predicted.Goals as goal
use Rattle.sharing_rules.specs.Lines.{number_of_base}

pub returns-then-is_due-clause-value : goal.returns-then-is_due-clause-value
returns-then-is_due-clause-value g c =
    let h = header_meant c.args.header.now in
    let w = c.args.detector.now in
    let x = kept_of c.args.track.now in
    let k = number_of_base h.grid x.range.base in
    let predicts = ap is_some (sym c.prediction.ensures) ∙ c.is_none.ensures
    ∙ ap not c.if-is_none.false in
    let few : length (due_numbers h w) ≤ length w.tracks =
    omega (arith, c.if-due-tracks.false, ap length c.requires.due, ap length c.tracks.ensures.value)
    in
    let high : int_le (pos 0) x.range.base ≡ true = sym c.is_high.ensures
    ∙ c.if-not-is_high.false in
    let line = c.line_of-line.ensures in
    let low : nat_le h.tracking (count_at w.writes k) ≡ true =
    ap (λ j. nat_le h.tracking (count_at w.writes j)) (sym line) ∙ sym c.is_due.ensures.value
    ∙ c.if-is_due.true in
    c.is_due-then-is_due.ensures.value ∙ ap (λ j. nat_le h.tracking (count_at w.writes (j + 1)))
    line
    ∙ sym (ap (λ b. b && nat_le h.tracking (count_at w.writes (k + 1))) low)
    ∙ sym (predicted_is h w x c.requires.ready predicts few high)

pub returns-else-is_due-clause-value : goal.returns-else-is_due-clause-value
returns-else-is_due-clause-value g c =
    let h = header_meant c.args.header.now in
    let w = c.args.detector.now in
    let x = kept_of c.args.track.now in
    let k = number_of_base h.grid x.range.base in
    let predicts = ap is_some (sym c.prediction.ensures) ∙ c.is_none.ensures
    ∙ ap not c.if-is_none.false in
    let few : length (due_numbers h w) ≤ length w.tracks =
    omega (arith, c.if-due-tracks.false, ap length c.requires.due, ap length c.tracks.ensures.value)
    in
    let high : int_le (pos 0) x.range.base ≡ true = sym c.is_high.ensures
    ∙ c.if-not-is_high.false in
    let line = c.line_of-line.ensures in
    let low : nat_le h.tracking (count_at w.writes k) ≡ false =
    ap (λ j. nat_le h.tracking (count_at w.writes j)) (sym line) ∙ sym c.is_due.ensures.value
    ∙ c.if-is_due.false in
    c.if-is_due.false ∙ sym (ap (λ b. b && nat_le h.tracking (count_at w.writes (k + 1))) low)
    ∙ sym (predicted_is h w x c.requires.ready predicts few high)
