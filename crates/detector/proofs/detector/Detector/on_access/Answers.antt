-- What `touch` leaves is the value with one access more.
use Rattle.std.proofs.Common.{◌≡◌, ◌∷◌, ◌++◌, [], refl, sym, ap, ◌∙◌, subst, arith}
use Rattle.base.specs.Lines.{line_number}
use Rattle.detector.specs.Named.{number_of}
use Rattle.detector.specs.Standing.{StandsFor}
use Rattle.detector.specs.Watch.{Watch, may_take_memory, takes_memory, watch_of, watched}
use Rattle.detector.proofs.AfterLaws.{levels-some, watched-is}
use Rattle.detector.proofs.StandsLaws.{stands_watched}
use Rattle.detector.proofs.detector.Detector.on_access.Goals as goal

pub touch-requires-clause-reached : goal.touch-requires-clause-reached
touch-requires-clause-reached g c = (c.addr.result, omega arith, sym c.number_of-line.ensures.value)

pub touch-requires-clause-line : goal.touch-requires-clause-line
touch-requires-clause-line g c = c.number_of-line.ensures.value
    ∙ ap (line_number c.self.inside.layout.size c.self.inside.layout.offset)
    c.addr.ensures

pub touch-requires-clause-indexed : goal.touch-requires-clause-indexed
touch-requires-clause-indexed g c = c.self.invariant.0

pub touch-requires-clause-some : goal.touch-requires-clause-some
touch-requires-clause-some g c = levels-some c.self.inside.thresholds c.tracking.ensures.allowed

pub invariant_of-self : goal.invariant_of-self
invariant_of-self g c = (c.in-Ok.ensures.indexed, c.self.invariant.1, c.self.invariant.2)

pub returns-in-Ok-clause-watched : goal.returns-in-Ok-clause-watched
returns-in-Ok-clause-watched g c =
    let d = c.self.inside in
    let line : c.number_of-line.result ≡ number_of d.layout c.args.access =
    c.number_of-line.ensures.value
    ∙ ap (line_number d.layout.size d.layout.offset) c.addr.ensures in
    watched-is (g.I.LineIndex.entries d.index) (g.I.LineIndex.entries c.touch.new.index) d.tracks
    c.touch.new.tracks d.layout d.thresholds
    d.position c.number_of-line.result c.args.access line c.in-Ok.ensures.tracks
    c.in-Ok.ensures.counts
    ∙ ap (λ (w : Watch). watched w c.args.access) c.self.view_is

pub returns-in-Ok-clause-known : goal.returns-in-Ok-clause-known
returns-in-Ok-clause-known g c = λ none. refl

pub returns-in-Ok-clause-stands : goal.returns-in-Ok-clause-stands
returns-in-Ok-clause-stands g c = λ t stands.
    let d = c.self.inside in
    let line : c.number_of-line.result ≡ number_of d.layout c.args.access =
    c.number_of-line.ensures.value
    ∙ ap (line_number d.layout.size d.layout.offset) c.addr.ensures in
    let before : Watch = watch_of (g.I.LineIndex.entries d.index) d.tracks d.layout d.thresholds
    d.position in
    let stood : StandsFor t before = subst (StandsFor t) (sym c.self.view_is) stands in
    subst (λ (w : Watch). StandsFor (t ++ c.args.access ∷ []) w)
    (sym (watched-is (g.I.LineIndex.entries d.index)
    (g.I.LineIndex.entries c.touch.new.index) d.tracks c.touch.new.tracks d.layout
    d.thresholds d.position c.number_of-line.result c.args.access line c.in-Ok.ensures.tracks
    c.in-Ok.ensures.counts))
    (stands_watched t c.args.access before c.self.invariant.1 c.self.invariant.2
    (levels-some d.thresholds c.tracking.ensures.allowed)
    stood)

pub returns-in-Err-clause-known : goal.returns-in-Err-clause-known
returns-in-Err-clause-known g c = λ none.
    let d = c.self.inside in
    let line : c.number_of-line.result ≡ number_of d.layout c.args.access =
    c.number_of-line.ensures.value
    ∙ ap (line_number d.layout.size d.layout.offset) c.addr.ensures in
    c.in-Err.ensures.known
    (ap (λ k. may_take_memory (watch_of (g.I.LineIndex.entries d.index) d.tracks d.layout
    d.thresholds d.position) k c.args.access) line
    ∙ ap (λ (w : Watch). takes_memory w c.args.access) c.self.view_is ∙ none)
