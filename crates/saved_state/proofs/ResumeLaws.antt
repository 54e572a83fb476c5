-- What is read of a state, part by part.
use Rattle.std.proofs.Common.{◌≡◌, ℕ, ◌<◌, ◌≤◌, Bool, true, false, List, [], ◌∷◌, length, drop, map}
use Rattle.std.proofs.Common.{refl}
use Rattle.std.proofs.Common.{sym, ap, ◌∙◌, arith, inl}
use Rattle.std.proofs.lemmas.Bool.{le-leb, lt-leb}
use Rattle.std.proofs.lemmas.List.{length-map}
use Rattle.std.specs.Prelude.{if◌then◌else◌, IsTrue, nat_le, Option, Some, Ok, Err, unwrap_or}
use Rattle.std.specs.List.{list_all}
use Rattle.std.specs.Option.{option_map_or}
use Rattle.std.specs.FinMap as finite
use Rattle.std.specs.Ordering.{nat_cmp}
use Rattle.base.specs.Levels.{Levels}
use Rattle.base.specs.Lines.{Grid, is_layout}
use Rattle.base.specs.declared.faults.ResumeFault.{ResumeFault}
use Rattle.base.specs.declared.faults.ResumeFault.TheVariants.{BadState}
use Rattle.sharing_rules.specs.Listed.{may_predict}
use Rattle.sharing_rules.specs.Members.{Member}
use Rattle.saved_state.specs.declared.state_parts.CountedLine.{CountedLine}
use Rattle.saved_state.specs.declared.state_parts.StateHeader.{StateHeader}
use Rattle.saved_state.specs.Parts.{header_meant}
use Rattle.saved_state.specs.Reading.{lines_then, read_state, read_units, state_with, tracks_then}
use Rattle.saved_state.specs.Spelling.{Header, State, spell_line, spell_track}
use Rattle.saved_state.specs.Units.{due, header_in, is_line, line_in, track_in}
use Rattle.line_tracks.specs.TrackValue.{TrackValue}
use Rattle.detector.specs.Adding.{nothing_kept}
use Rattle.detector.specs.Counts.{count_at, no_writes}
use Rattle.detector.specs.Watch.{Watch}
use Rattle.saved_state.specs.Ready.{IsReady, due_numbers, lines_at, lines_read, tracks_at}
use Rattle.saved_state.specs.Ready.{tracks_read}
use Rattle.saved_state.specs.Resuming.{counts_in, resumption, resumption_in, resumption_of}
use Rattle.saved_state.specs.Resuming.{watch_in}
use Rattle.saved_state.specs.Saving.{counted_lines, state_of}
use Rattle.saved_state.proofs.SaveLaws.{counted_lines-counted}

-- nothing was written yet
pub no_lines : counted_lines no_writes ≡ []
no_lines = empty (counted_lines no_writes) (λ l m.
    let is = (counted_lines-counted no_writes).counted l m in
    let none : count_at no_writes l.number ≡ 0 =
    ap (λ o. unwrap_or o 0) (finite.get-empty nat_cmp l.number) in
    omega (arith, is.0, is.1, none))
  where
    empty : (lines : List CountedLine) → ((l : CountedLine) → Member l lines → ⊥) → lines ≡ []
    empty [] never = refl
    empty (l ∷ lines) never = absurd (never l (inl refl))

-- a detector of whose accesses nothing is kept yet
pub ready_start : (h : StateHeader) → 1 ≤ h.thresholds.tracking
    → IsTrue (is_layout h.layout.size h.layout.offset)
    → IsTrue (may_predict h.layout h.thresholds)
    → IsReady (header_meant h) (nothing_kept h.layout h.thresholds h.position)
ready_start h some layout native = record {
  grid = refl;
  tracking = refl;
  prediction = refl;
  position = refl;
  layout = layout;
  native = native;
  some = some;
  counts = sym (ap counts_in no_lines ∙ refl);
  lines = ap (list_all (λ (l : CountedLine). is_line h.layout l.number)) no_lines;
  rising = tt;
}

pub no_due : (h : Header) (g : Grid) (v : Levels) (position : ℕ)
    → due_numbers h (nothing_kept g v position) ≡ []
no_due h g v position = ap (λ ls. map (λ (l : CountedLine). l.number) (due h ls)) no_lines

-- ---- the whole, behind its header

module _ (report : ℕ) (h : Header) (g : Grid) (v : Levels) (position : ℕ) (part : List ℕ)
    (header : header_in part ≡ Some h) where
  abbrev start : Watch
  start = nothing_kept g v position

  begun : read_state part ≡ lines_then h (lines_read h h.lines start 64 (drop 64 part))
  begun =
      ap (λ (o : Option Header). option_map_or (λ k. lines_then k (read_units (line_in k)
      (spell_line k.grid) k.lines (record { read = []; place = 64; left = drop 64 part }))) o
      (Err (BadState 0))) header
      ∙ ap (λ (ls : List CountedLine). lines_then h (read_units (line_in h) (spell_line h.grid)
      h.lines (record { read = ls; place = 64; left = drop 64 part }))) (sym no_lines)

  pub bad_lines : (fault : ResumeFault) → lines_read h h.lines start 64 (drop 64 part) ≡ Err fault
      → resumption_in report part ≡ Err fault
  bad_lines fault is = ap (resumption_of report) (begun ∙ ap (lines_then h) is)

  module _ (w : Watch) (place : ℕ) (left : List ℕ)
      (lines : lines_read h h.lines start 64 (drop 64 part) ≡ Ok (lines_at w place left))
      (trackless : w.tracks ≡ []) where
    behind_lines : read_state part
        ≡ tracks_then h (counted_lines w.writes) (tracks_read h h.tracks w place left)
    behind_lines =
        begun ∙ ap (lines_then h) lines
        ∙ ap (λ (xs : List TrackValue). tracks_then h (counted_lines w.writes)
        (read_units (track_in h (counted_lines w.writes)) spell_track h.tracks
        (record { read = xs; place = place; left = left }))) (sym trackless)

    pub bad_tracks : (fault : ResumeFault) → tracks_read h h.tracks w place left ≡ Err fault
        → resumption_in report part ≡ Err fault
    bad_tracks fault is =
        ap (resumption_of report) (behind_lines ∙ ap (tracks_then h (counted_lines w.writes)) is)

    module _ (x : Watch) (end : ℕ) (rest : List ℕ)
        (tracks : tracks_read h h.tracks w place left ≡ Ok (tracks_at x end rest)) where
      -- whether each due line has its track
      whole : (b : Bool) → nat_le (length (due h (counted_lines w.writes))) (length x.tracks) ≡ b
          → read_state part ≡ (if b then Ok (state_with h (counted_lines w.writes) x.tracks, end)
          else Err (BadState end))
      whole b is =
          behind_lines ∙ ap (tracks_then h (counted_lines w.writes)) tracks
          ∙ ap (λ c. if c then Ok (state_with h (counted_lines w.writes) x.tracks, end)
          else Err (BadState end)) is

      due_count : length (due_numbers h w) ≡ length (due h (counted_lines w.writes))
      due_count = length-map (due h (counted_lines w.writes)) (λ (l : CountedLine). l.number)

      pub missing : length x.tracks < length (due_numbers h w) → resumption_in report part
          ≡ Err (BadState end)
      missing few =
          ap (resumption_of report) (whole false (lt-leb (length (due h (counted_lines w.writes)))
          (length x.tracks) (omega (arith, few, due_count))))

      -- the state itself
      pub state_read : length (due_numbers h w) ≤ length x.tracks → IsReady h x → x.writes
          ≡ w.writes
          → read_state part ≡ Ok (state_of h.harts x, end)
      state_read enough ready writes =
          let same : state_with h (counted_lines w.writes) x.tracks ≡ state_of h.harts x =
          λ i. record {
            grid = sym ready.grid i;
            tracking = sym ready.tracking i;
            prediction = sym ready.prediction i;
            harts = h.harts;
            position = sym ready.position i;
            lines = counted_lines (sym writes i);
            tracks = x.tracks;
          } in
          whole true (le-leb (length (due h (counted_lines w.writes))) (length x.tracks)
          (omega (arith, enough, due_count)))
          ∙ ap (λ (s : State). Ok (s, end)) same

      pub all_read : length (due_numbers h w) ≤ length x.tracks → IsReady h x → x.writes ≡ w.writes
          → x.levels ≡ record { tracking = h.tracking; prediction = h.prediction; report = report }
          → resumption_in report part ≡ Ok (resumption x h.harts end)
      all_read enough ready writes levels =
          let same : watch_in report (state_of h.harts x) ≡ x = λ i. record {
            position = x.position;
            grid = x.grid;
            levels = record x.levels { report = sym (ap (λ (v : Levels). v.report) levels) i };
            writes = sym ready.counts i;
            tracks = x.tracks;
          } in
          ap (resumption_of report) (state_read enough ready writes)
          ∙ ap (λ (y : Watch). Ok (resumption y h.harts end)) same
