use Rattle.std.proofs.Common.{◌≡◌, ◌∙◌, ◌&&◌, Bool, true, false, ap, refl, sym}
use Rattle.std.specs.Prelude.{not}
use Rattle.std.specs.List.{list_any}
use Rattle.sharing_rules.specs.declared.line_kind.LineKind.TheVariants.{Shifted}
use Rattle.saved_state.specs.Parts.{header_meant, kept_of}
use Rattle.saved_state.specs.Units.{is_multiple, is_predicted, is_shifted_at}
use Rattle.detector.specs.Named.{is_named}
use Rattle.saved_state.specs.Saving.{counted_lines}
use Rattle.saved_state.proofs.PlaceLaws.{any_found}
use Rattle.saved_state.proofs.placing.is_shifted.Goals as goal
use Rattle.sharing_rules.specs.Lines.{number_of_base}

and_false : (b : Bool) → (b && false) ≡ false
and_false true = refl
and_false false = refl

and_true : (b : Bool) → (true && b && true && true) ≡ b
and_true true = refl
and_true false = refl

pub returns-then-has_track : goal.returns-then-has_track
returns-then-has_track g c =
    let h = header_meant c.args.header.now in
    let w = c.args.detector.now in
    let x = kept_of c.args.track.now in
    let k = number_of_base h.grid x.range.base in
    let grid = c.requires.ready.grid in
    let line = c.line_of.ensures in
    let taken : list_any (is_shifted_at h.grid k) w.tracks ≡ true =
    sym (c.has_track.ensures ∙ any_found (is_named w.grid Shifted c.line_of.result) w.tracks
    ∙ (λ i. list_any (is_named (grid i) Shifted (line i)) w.tracks)) ∙ c.if-has_track.true in
    let rest = is_predicted h (counted_lines w.writes) w.tracks x && is_multiple 4 x && not
    (is_multiple h.grid.size x) in
    sym (ap (λ b. rest && not b) taken ∙ and_false rest)

pub returns : goal.returns
returns g c =
    let h = header_meant c.args.header.now in
    let w = c.args.detector.now in
    let x = kept_of c.args.track.now in
    let k = number_of_base h.grid x.range.base in
    let grid = c.requires.ready.grid in
    let line = c.line_of.ensures in
    let taken : list_any (is_shifted_at h.grid k) w.tracks ≡ false =
    sym (c.has_track.ensures ∙ any_found (is_named w.grid Shifted c.line_of.result) w.tracks
    ∙ (λ i. list_any (is_named (grid i) Shifted (line i)) w.tracks)) ∙ c.if-has_track.false in
    let predicted : is_predicted h (counted_lines w.writes) w.tracks x ≡ true =
    sym c.is_predicted.ensures.value ∙ c.if-not-is_predicted.false in
    let first : is_multiple h.grid.size x ≡ false =
    ap (λ n. is_multiple n x) (sym c.size.ensures.value) ∙ sym c.is_multiple.ensures
    ∙ c.if-is_multiple.false in
    c.is_multiple-2.ensures
    ∙ sym ((λ i. predicted i && is_multiple 4 x && not (first i) && not (taken i))
    ∙ and_true (is_multiple 4 x))
