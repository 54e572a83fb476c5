-- Before the start no word was touched, and the track is that of the list with the access.
use Rattle.std.proofs.Common.{◌≡◌, ℕ, ◌≤◌, true, List, [], ◌∷◌, ◌++◌, length, sym, subst, arith}
use Rattle.std.proofs.Common.{rules}
use Rattle.base.specs.Lines.{is_layout}
use Rattle.base.specs.Ranges.{holds_address}
use Rattle.base.specs.Touch.{Touch}
use Rattle.sharing_rules.specs.Lines.{Line}
use Rattle.line_tracks.specs.TrackValue.{IsTrackOf, TrackValue, note_kept}
use Rattle.line_tracks.specs.Laws.TrackValue.{kept-push, untouched-none}
use Rattle.line_tracks.proofs.track.Track.note.Goals as goal

noted-follows : (l : Line) (from : ℕ) (t : List Touch) (a : Touch) (x y : TrackValue) (p : ℕ)
    → is_layout l.size l.offset ≡ true → length t ≡ p → from ≤ p
    → holds_address x.range a.addr ≡ true → y ≡ note_kept x p a
    → IsTrackOf l from t x → IsTrackOf l from (t ++ a ∷ []) y
noted-follows l from t a x y p allowed at due inside is old =
    subst (λ (z : TrackValue). IsTrackOf l from (t ++ a ∷ []) z) (sym is)
    (kept-push l from t a x p allowed at due inside old)

pub note-requires-clause-room : goal.note-requires-clause-room
note-requires-clause-room g c = omega (
  arith,
  untouched-none c.self.inside.shadow.range c.self.inside.shadow.words
      (c.self.invariant c.in-None.is).words,
)

pub returns-then-is_write-clause-in_time : goal.returns-then-is_write-clause-in_time
returns-then-is_write-clause-in_time g c =
    let none = untouched-none c.self.inside.shadow.range c.self.inside.shadow.words
    (c.self.invariant c.in-None.is).words in
    record {
      later = omega arith;
      accessed = omega (arith, none, c.note.ensures.more);
      counted = omega (arith, (c.self.invariant c.in-None.is).count);
    }

pub returns-then-is_write-clause-follows : goal.returns-then-is_write-clause-follows
returns-then-is_write-clause-follows g c = λ l from t allowed at due old.
    noted-follows l from t c.args.access c.args.self.now _ c.args.position allowed at due
    c.requires.inside (search rules) old

pub returns-else-is_write-clause-follows : goal.returns-else-is_write-clause-follows
returns-else-is_write-clause-follows g c = λ l from t allowed at due old.
    noted-follows l from t c.args.access c.args.self.now _ c.args.position allowed at due
    c.requires.inside (search rules) old

pub returns-in-Some-clause-follows : goal.returns-in-Some-clause-follows
returns-in-Some-clause-follows g c = λ l from t allowed at due old.
    noted-follows l from t c.args.access c.args.self.now _ c.args.position allowed at due
    c.requires.inside (search rules) old
