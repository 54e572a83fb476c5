use Rattle.std.proofs.Common.{◌≡◌, ◌+◌, ◌-◌, ◌*◌, ◌/◌, ◌∷◌, [], ◌++◌, List, drop, refl, sym, ap}
use Rattle.std.proofs.Common.{◌∙◌, arith}
use Rattle.std.specs.Prelude.{slice_set, sum_by}
use Rattle.base.specs.declared.layout.Range.{Range}
use Rattle.sharing_rules.specs.Words.{accesses, tally}
use Rattle.sharing_rules.specs.declared.word.Word.{Word}
use Rattle.line_tracks.specs.Laws.Words.{map_below_same}
use Rattle.line_tracks.specs.RangeWords.{RangeWords}
use Rattle.saved_state.specs.Parts.{word_in}
use Rattle.saved_state.specs.Units.{word_at, words_at}
use Rattle.saved_state.proofs.Words.{are_words-fail, are_words-none, are_words-pass}
use Rattle.saved_state.proofs.Words.{length-words_at, put_next, sum-more, sum-next}
use Rattle.saved_state.proofs.Words.{then_blank}
use Rattle.saved_state.proofs.Words.{words_at-more}
use Rattle.saved_state.proofs.track_read.put_words.Goals as goal

pub loop-i-init : goal.loop-i-init
loop-i-init c =
    let n = c.args.shadow.now.range.size / 4 in
    record {
      range = refl;
      words = ap (λ (v : RangeWords). v.words) c.requires.blank ∙ sym (map_below_same n (tally []))
          ∙ ap (λ k. then_blank [] k) (let e : n ≡ n - 0 = omega arith in e);
      left = omega arith;
      passes = are_words-none c.args.harts c.args.most c.args.bytes.now;
    }

pub returns-in_default-clause-passes : goal.returns-in_default-clause-passes
returns-in_default-clause-passes c =
    let i = c.loop-i.i in
    let size = ap (λ (r : Range). r.size) c.range-i-end.ensures.value in
    let bytes = c.args.bytes.now in
    let left : c.loop-i.left ≡ c.args.most - sum_by accesses (words_at i bytes) =
    omega (arith, c.loop-i.invariant.left) in
    sym (are_words-fail c.args.harts c.args.most i (c.args.shadow.now.range.size / 4) bytes
    (omega (arith, size))
    (ap (λ m. word_in c.args.harts m (drop (32 + 20 * i) bytes)) (sym left)
    ∙ ap (word_in c.args.harts c.loop-i.left) (sym c.behind.ensures.value)
    ∙ sym c.in_default.ensures.value))

pub put-requires-clause-few : goal.put-requires-clause-few
put-requires-clause-few c =
    let i = c.loop-i.i in
    let size = ap (λ (r : Range). r.size) c.range-i-end.ensures.value in
    let bytes = c.args.bytes.now in
    let n = c.args.shadow.now.range.size / 4 in
    let w = c.in-Some.word in
    let put : slice_set c.loop-i.shadow.words i w
    ≡ then_blank (words_at i bytes ++ w ∷ []) (n - (i + 1)) =
    ap (λ (ws : List Word). slice_set ws i w) c.loop-i.invariant.words
    ∙ put_next (words_at i bytes) i n w (length-words_at i bytes) (omega
    (arith, size)) in
    let total = ap (sum_by accesses) put ∙ sum-next (words_at i bytes) w (n - (i + 1)) in
    omega (arith, total, c.loop-i.invariant.left, c.in-Some.ensures.few, c.requires.low)

pub loop-i-preserved : goal.loop-i-preserved
loop-i-preserved c =
    let i = c.loop-i.i in
    let size = ap (λ (r : Range). r.size) c.range-i-end.ensures.value in
    let bytes = c.args.bytes.now in
    let n = c.args.shadow.now.range.size / 4 in
    let w = c.in-Some.word in
    let stated : w ≡ word_at (drop (32 + 20 * i) bytes) = c.in-Some.ensures.stated
    ∙ ap word_at c.behind.ensures.value in
    let left : c.loop-i.left ≡ c.args.most - sum_by accesses (words_at i bytes) =
    omega (arith, c.loop-i.invariant.left) in
    record {
      range = ap (λ (v : RangeWords). v.range) c.put.ensures ∙ c.loop-i.invariant.range;
      words = ap (λ (v : RangeWords). v.words) c.put.ensures
          ∙ ap (λ (ws : List Word). slice_set ws i w) c.loop-i.invariant.words
          ∙ put_next (words_at i bytes) i n w (length-words_at i bytes) (omega (arith, size))
          ∙ ap (λ ws. then_blank ws (n - (i + 1))) (words_at-more i bytes w stated);
      left = omega (
        arith,
        c.loop-i.invariant.left,
        sum-more i bytes w stated,
        c.in-Some.ensures.few,
        c.accesses-left.ensures,
      );
      passes = are_words-pass c.args.harts c.args.most i bytes w c.loop-i.invariant.passes
          (ap (λ m. word_in c.args.harts m (drop (32 + 20 * i) bytes)) (sym left)
          ∙ ap (word_in c.args.harts c.loop-i.left) (sym c.behind.ensures.value)
          ∙ sym c.in-Some.ensures.value);
    }
