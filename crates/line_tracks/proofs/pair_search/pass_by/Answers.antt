-- No pair with a word that isn't hot passes.
use Rattle.std.proofs.Common.{◌≡◌, ℕ, false, List, refl, inl, inr, arith}
use Rattle.std.specs.Prelude.{slice_get}
use Rattle.sharing_rules.specs.Pairs.{is_hot, score}
use Rattle.sharing_rules.specs.Search.{is_passing}
use Rattle.sharing_rules.specs.Laws.Lists.{slice_cases}
use Rattle.sharing_rules.specs.Laws.Pairs.{IsChosen, best_more}
use Rattle.sharing_rules.specs.declared.word.Word.{Word}
use Rattle.line_tracks.specs.RangeWords.{is_hot_place}
use Rattle.line_tracks.proofs.pair_search.pass_by.Goals as goal

cold : (lower upper : List Word) (within i j : ℕ) → is_hot_place lower i ≡ false
    → is_passing lower upper within (i, j) ≡ false
cold lower upper within i j e =
    elim (slice_cases (slice_get lower i)) [
      | inl none ↦ rw none refl
      | inr x ↦
          let low : is_hot lower x.0 ≡ false = (rw x.1 at e) in
          elim (slice_cases (slice_get upper j)) [
            | inl none ↦ rw (x.1, none) refl
            | inr y ↦ rw (x.1, y.1, low) refl
          ]
    ]

pub loop-j-preserved : goal.loop-j-preserved
loop-j-preserved g c =
    let f = score c.args.lines.now.lower.now.words c.args.lines.now.upper.now.words in
    let t = is_passing c.args.lines.now.lower.now.words c.args.lines.now.upper.now.words
    c.args.lines.now.within in
    let choice : IsChosen f t (c.args.i, c.loop-j._j) c.args.best c.args.best =
    inr (
      cold c.args.lines.now.lower.now.words c.args.lines.now.upper.now.words
          c.args.lines.now.within c.args.i c.loop-j._j c.requires.cold,
      refl,
    ) in
    record {
      best = best_more f t c.args.i c.loop-j._j c.args.best c.args.best c.args.best choice
          c.loop-j.invariant.best;
      cost = omega (arith, c.tick.ensures, c.loop-j.invariant.cost);
    }
