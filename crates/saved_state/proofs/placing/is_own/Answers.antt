use Rattle.std.proofs.Common.{◌≡◌, ◌∙◌, ◌&&◌, ℕ, List, Some, ap, length, slice_get, sym}
use Rattle.std.specs.Prelude.{is_some}
use Rattle.saved_state.specs.Parts.{header_meant, kept_of}
use Rattle.saved_state.specs.Ready.{due_numbers}
use Rattle.saved_state.proofs.AddLaws.{no_own, own_placed, own_small}
use Rattle.saved_state.proofs.placing.is_own.Given.{Over}
use Rattle.saved_state.proofs.placing.is_own.Goals as goal
use Rattle.saved_state.proofs.placing.is_own.Goals.{In-Some}
use Rattle.sharing_rules.specs.Laws.Lists.{is_some-mapped}

there : (g : Over) (c : In-Some g)
    → slice_get (due_numbers (header_meant c.args.header.now) c.args.detector.now)
    (length c.args.detector.now.tracks) ≡ Some c.in-Some.line
there g c =
    let value = c.tracks.ensures.value in
    (λ i. slice_get (sym c.requires.due i) (length (sym value i))) ∙ sym c.in-Some.ensures

pub is_base-requires : goal.is_base-requires
is_base-requires g c =
    own_small (header_meant c.args.header.now) c.args.detector.now c.in-Some.line
    (length c.args.detector.now.tracks) c.requires.ready
    (there g (goal.at.is_base-requires g c).In-Some)

pub returns-then-is_base : goal.returns-then-is_base
returns-then-is_base g c =
    let h = header_meant c.args.header.now in
    let x = kept_of c.args.track.now in
    let start : ℕ × List ℕ → ℕ = λ s. s.0 in
    c.is_some.ensures ∙ sym (is_some-mapped start c.args.track.now.start)
    ∙ sym (own_placed h c.args.detector.now x c.in-Some.line
    (there g (goal.at.returns-then-is_base g c).In-Some)
    ∙ ap (λ b. b && is_some x.start) (sym c.is_base.ensures ∙ c.if-is_base.true))

pub returns-else-is_base : goal.returns-else-is_base
returns-else-is_base g c =
    let h = header_meant c.args.header.now in
    let x = kept_of c.args.track.now in
    c.if-is_base.false
    ∙ sym (own_placed h c.args.detector.now x c.in-Some.line
    (there g (goal.at.returns-else-is_base g c).In-Some)
    ∙ ap (λ b. b && is_some x.start) (sym c.is_base.ensures ∙ c.if-is_base.false))

pub returns-in-None : goal.returns-in-None
returns-in-None g c =
    let value = c.tracks.ensures.value in
    sym (no_own (header_meant c.args.header.now) c.args.detector.now (kept_of c.args.track.now)
    ((λ i. slice_get (sym c.requires.due i) (length (sym value i))) ∙ sym c.in-None.ensures))
