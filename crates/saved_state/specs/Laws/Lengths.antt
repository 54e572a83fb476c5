-- How many bytes a state has.
use Rattle.std.proofs.Common.{◌≡◌, ℕ, ◌+◌, ◌*◌, List, [], ◌∷◌, ◌++◌, length, refl, arith}
use Rattle.std.proofs.lemmas.List.{length-append}
use Rattle.std.proofs.lemmas.List.Sorted.{length_permutation, sum_by-IsPermutation}
use Rattle.std.proofs.lemmas.List.Sums.{sum_by-cons}
use Rattle.std.specs.Prelude.{flat_map, sum_by}
use Rattle.base.specs.Lines.{Grid}
use Rattle.sharing_rules.specs.Listed.{in_order}
use Rattle.sharing_rules.specs.Laws.Orders.{in_order-permutes}
use Rattle.sharing_rules.specs.declared.word.Word.{Word}
use Rattle.line_tracks.specs.TrackValue.{TrackValue}
use Rattle.line_tracks.specs.Placed.{is_placed_before}
use Rattle.saved_state.specs.declared.state_parts.CountedLine.{CountedLine}
use Rattle.saved_state.specs.Spelling.{Header, State, header_of, spell_head, spell_header}
use Rattle.saved_state.specs.Spelling.{spell_line, spell_state, spell_track, spell_word}

pub length-header : (h : Header) → length (spell_header h) ≡ 64
unfolding spell_header
length-header h = refl

pub length-line : (g : Grid) (l : CountedLine) → length (spell_line g l) ≡ 16
unfolding spell_line
length-line g l = refl

pub length-word : (w : Word) → length (spell_word w) ≡ 20
unfolding spell_word
length-word w = refl

pub length-head : (x : TrackValue) → length (spell_head x) ≡ 32
unfolding spell_head
length-head x = refl

pub length-words : (ws : List Word) → length (flat_map spell_word ws) ≡ 20 * length ws
length-words [] = refl
length-words (w ∷ ws) = omega (
  arith,
  length-append (spell_word w) (flat_map spell_word ws),
  length-word w,
  length-words ws,
)

length-lines : (g : Grid) (ls : List CountedLine) → length (flat_map (spell_line g) ls)
    ≡ 16 * length ls
length-lines g [] = refl
length-lines g (l ∷ ls) = omega (
  arith,
  length-append (spell_line g l) (flat_map (spell_line g) ls),
  length-line g l,
  length-lines g ls,
)

-- how many words the tracks have together
abbrev pub all_words : List TrackValue → ℕ
all_words xs = sum_by (λ x. length x.words) xs

pub length-track : (x : TrackValue) → length (spell_track x) ≡ 32 + 20 * length x.words
length-track x = omega (
  arith,
  length-append (spell_head x) (flat_map spell_word x.words),
  length-head x,
  length-words x.words,
)

length-tracks : (xs : List TrackValue) → length (flat_map spell_track xs) ≡ 32 * length xs
    + 20 * all_words xs
length-tracks [] = refl
length-tracks (x ∷ xs) = omega (
  arith,
  sum_by-cons (λ (y : TrackValue). length y.words) x xs,
  length-append (spell_track x) (flat_map spell_track xs),
  length-track x,
  length-tracks xs,
)

-- 64, 16 for each line, 32 for each track and 20 for each of its words
pub length-state : (s : State) → length (spell_state s) ≡ 64 + 16 * length s.lines
    + 32 * length s.tracks + 20 * all_words s.tracks
length-state s =
    let tracks = in_order is_placed_before s.tracks in
    let lines = flat_map (spell_line s.grid) s.lines in
    let perm = in_order-permutes is_placed_before s.tracks in
    omega (
      arith,
      length-append (spell_header (header_of s)) (lines ++ flat_map spell_track tracks),
      length-append lines (flat_map spell_track tracks),
      length-header (header_of s),
      length-lines s.grid s.lines,
      length-tracks tracks,
      length_permutation s.tracks tracks perm,
      sum_by-IsPermutation (λ x. length x.words) s.tracks tracks perm,
    )
