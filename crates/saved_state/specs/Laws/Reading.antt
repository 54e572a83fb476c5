-- What is read of bytes is what they spell.
use Rattle.std.proofs.Common.{◌≡◌, ℕ, zero, suc, ◌+◌, Bool, true, ◌&&◌, List, [], ◌∷◌, ◌++◌, length}
use Rattle.std.proofs.Common.{drop, refl, sym, ap, ◌∙◌, ◌⊎◌, subst, arith, inl, inr, append_assoc}
use Rattle.std.proofs.Common.{append-nil}
use Rattle.std.proofs.lemmas.Bool.{cases_Bool, and_parts}
use Rattle.std.proofs.lemmas.Bool.Decides.{Decides-eqb}
use Rattle.std.proofs.lemmas.List.{length-append}
use Rattle.std.proofs.lemmas.Option.{none-some, same_Some}
use Rattle.std.proofs.lemmas.Slice.Eq.{starts_is}
use Rattle.std.specs.Prelude.{flat_map, nat_eq, nat_le, Option, None, Some, Result, Ok, Err}
use Rattle.std.specs.List.{list_all, starts_with}
use Rattle.base.specs.declared.faults.ResumeFault.TheVariants.{BadState}
use Rattle.sharing_rules.specs.Listed.{in_order}
use Rattle.sharing_rules.specs.Members.{IsRising, Member}
use Rattle.sharing_rules.specs.Laws.Lists.{slice_cases}
use Rattle.sharing_rules.specs.Laws.Orders.{in_order-same}
use Rattle.line_tracks.specs.TrackValue.{TrackValue}
use Rattle.line_tracks.specs.Placed.{is_placed_before}
use Rattle.line_tracks.specs.Laws.Placed.{is_placed_before-ranks}
use Rattle.saved_state.specs.declared.state_parts.CountedLine.{CountedLine}
use Rattle.saved_state.specs.Laws.Counted.{rising-push}
use Rattle.saved_state.specs.Laws.Lengths.{length-header}
use Rattle.saved_state.specs.Reading.{BeginsWith, Found, Units, lines_then, read_state, read_units}
use Rattle.saved_state.specs.Reading.{state_with, tracks_then}
use Rattle.saved_state.specs.Spelling.{Header, State, header_of, spell_header, spell_line}
use Rattle.saved_state.specs.Spelling.{spell_state, spell_track}
use Rattle.saved_state.specs.Units.{due, header_at, header_in, if_spelled, is_good_header}
use Rattle.saved_state.specs.Units.{is_good_line, is_good_track, is_kind_placed, is_placed, line_at}
use Rattle.saved_state.specs.Units.{line_in, track_at, track_in}

pub result_cases : {A E : Type 0} (r : Result A E) → ((e : E) × (r ≡ Err e)) ⊎ ((x : A) × (r ≡ Ok x))
result_cases (Ok x) = inr (x, refl)
result_cases (Err e) = inl (e, refl)

ok_or : {A E : Type 0} → A → Result A E → A
ok_or d (Ok x) = x
ok_or d (Err e) = d

pub same_Ok : {A E : Type 0} (x y : A) → ◌≡◌ {A = Result A E} (Ok x) (Ok y) → x ≡ y
unfolding ok_or
same_Ok x y e = ap (ok_or x) e

pub never_Ok : {A E : Type 0} (e : E) (x : A) → ◌≡◌ {A = Result A E} (Err e) (Ok x) → ⊥
never_Ok e x is = cc

-- a unit that was read is good, and the bytes begin with its spelling
pub record IsUnit {X : Type 0} (spell : X → List ℕ) (good : X → Bool) (bytes : List ℕ) (x : X) :
    Type 0 where
  pub is_good : good x ≡ true
  pub begins : bytes ≡ spell x ++ drop (length (spell x)) bytes

pub unit_is : {X : Type 0} (spell : X → List ℕ) (good : X → Bool) (x y : X) (bytes : List ℕ)
    → if_spelled spell (good x) x bytes ≡ Some y → IsUnit spell good bytes y
unit_is spell good x y bytes is =
    elim (cases_Bool (good x && starts_with nat_eq bytes (spell x))) [
      | inl passes ↦
          let same : x ≡ y = same_Some x y (rw passes at is) in
          let parts = and_parts (good x) (starts_with nat_eq bytes (spell x)) passes in
          subst (IsUnit spell good bytes) same (record {
            is_good = parts.0;
            begins = (starts_is Decides-eqb bytes (spell x)
                (starts_with nat_eq bytes (spell x)) refl).0 parts.1;
          })
      | inr fails ↦ let never : None ≡ Some y = rw fails at is in absurd (none-some y never)
    ]

-- and it is what the fields say
pub unit_stated : {X : Type 0} (spell : X → List ℕ) (good : Bool) (x y : X) (bytes : List ℕ)
    → if_spelled spell good x bytes ≡ Some y → x ≡ y
unit_stated spell good x y bytes is =
    elim (cases_Bool (good && starts_with nat_eq bytes (spell x))) [
      | inl passes ↦ same_Some x y (rw passes at is)
      | inr fails ↦ let never : None ≡ Some y = rw fails at is in absurd (none-some y never)
    ]

pub header_is : (bytes : List ℕ) (h : Header) → header_in bytes ≡ Some h
    → IsUnit spell_header is_good_header bytes h
unfolding header_in
header_is bytes h is = unit_is spell_header is_good_header (header_at bytes) h bytes is

pub line_is : (h : Header) (before : List CountedLine) (bytes : List ℕ) (l : CountedLine)
    → line_in h before bytes ≡ Some l → IsUnit (spell_line h.grid) (is_good_line h before) bytes l
unfolding line_in
line_is h before bytes l is = unit_is (spell_line h.grid) (is_good_line h before)
    (line_at h.grid bytes) l bytes is

abbrev pub fits : Header → List CountedLine → List TrackValue → TrackValue → Bool
fits h lines before x = is_good_track h x && is_placed h lines before x

pub track_is : (h : Header) (lines : List CountedLine) (before : List TrackValue) (bytes : List ℕ)
    (x : TrackValue)
    → track_in h lines before bytes ≡ Some x → IsUnit spell_track (fits h lines before) bytes x
unfolding track_in
track_is h lines before bytes x is = unit_is spell_track (fits h lines before)
    (track_at h.grid bytes) x bytes is

-- units that were read behind others
pub record AreRead {X : Type 0} (spell : X → List ℕ) (n : ℕ) (u v : Units X) : Type 0 where
  pub more : List X
  pub read : v.read ≡ u.read ++ more
  pub count : length more ≡ n
  pub place : v.place ≡ u.place + length (flat_map spell more)
  pub begins : u.left ≡ flat_map spell more ++ v.left

-- the same, one unit before
one_more : {X : Type 0} (spell : X → List ℕ) (n : ℕ) (u v : Units X) (x : X)
    → u.left ≡ spell x ++ drop (length (spell x)) u.left
    → AreRead spell n (record {
      read = u.read ++ x ∷ [];
      place = u.place + length (spell x);
      left = drop (length (spell x)) u.left;
    }) v → AreRead spell (suc n) u v
one_more spell n u v x begins rest = record {
  more = x ∷ rest.more;
  read = rest.read ∙ append_assoc u.read (x ∷ []) rest.more;
  count = ap suc rest.count;
  place = omega (arith, rest.place, length-append (spell x) (flat_map spell rest.more));
  begins = begins ∙ ap (λ (t : List ℕ). spell x ++ t) rest.begins
      ∙ sym (append_assoc (spell x) (flat_map spell rest.more) v.left);
}

-- what holds of the units read so far and of the bytes behind them, if each unit keeps it
pub units_are : {X : Type 0} (unit : List X → List ℕ → Option X) (spell : X → List ℕ)
    (P : List X → List ℕ → Type 0)
    → ((before : List X) (left : List ℕ) (x : X) → unit before left ≡ Some x → P before left
    → (left ≡ spell x ++ drop (length (spell x)) left)
    × P (before ++ x ∷ []) (drop (length (spell x)) left))
    → (n : ℕ) (u v : Units X) → read_units unit spell n u ≡ Ok v → P u.read u.left
    → AreRead spell n u v × P v.read v.left
units_are {X = X} unit spell P keeps zero u v is held =
    let same : u ≡ v = same_Ok u v is in (
      subst (AreRead spell 0 u) same (record {
        more = [];
        read = sym (append-nil u.read);
        count = refl;
        place = omega arith;
        begins = refl;
      }),
      subst (λ (w : Units X). P w.read w.left) same held,
    )
units_are unit spell P keeps (suc n) u v is held =
    elim (slice_cases (unit u.read u.left)) [
      | inl none ↦ absurd (never_Ok (BadState u.place) v (rw none at is))
      | inr there ↦
          let x = there.0 in
          let kept = keeps u.read u.left x there.1 held in
          let rest = units_are unit spell P keeps n (record {
            read = u.read ++ x ∷ [];
            place = u.place + length (spell x);
            left = drop (length (spell x)) u.left;
          }) v (rw there.1 at is) kept.1 in
          (one_more spell n u v x kept.0 rest.0, rest.1)
    ]

pub each_passes : {X : Type 0} (p : X → Bool) (xs : List X) → list_all p xs ≡ true → (y : X)
    → Member y xs → p y ≡ true
each_passes p [] all y m = absurd m
each_passes p (x ∷ xs) all y m =
    let parts = and_parts (p x) (list_all p xs) all in
    elim m [
      | inl is ↦ ap p is ∙ parts.0
      | inr later ↦ each_passes p xs parts.1 y later
    ]

-- a track that was read comes behind those before it
track_rises : (h : Header) (lines : List CountedLine) (before : List TrackValue) (left : List ℕ)
    (x : TrackValue) → track_in h lines before left ≡ Some x → IsRising is_placed_before before
    → IsRising is_placed_before (before ++ x ∷ [])
track_rises h lines before left x is rising =
    let unit = track_is h lines before left x is in
    let placed = (and_parts (is_good_track h x) (is_placed h lines before x) unit.is_good).1 in
    let behind = (and_parts (list_all (λ y. is_placed_before y x) before)
    (is_kind_placed h lines before x x.kind) placed).0 in
    rising-push is_placed_before before x rising
    (each_passes (λ y. is_placed_before y x) before behind)

-- the units put together
spelled_whole : (h : Header) (lines : List CountedLine) (tracks : List TrackValue)
    → length lines ≡ h.lines → length tracks ≡ h.tracks → IsRising is_placed_before tracks
    → spell_state (state_with h lines tracks)
    ≡ spell_header h ++ (flat_map (spell_line h.grid) lines ++ flat_map spell_track tracks)
spelled_whole h lines tracks line_count track_count rising =
    let same : header_of (state_with h lines tracks) ≡ h = λ i. record {
      grid = h.grid;
      tracking = h.tracking;
      prediction = h.prediction;
      harts = h.harts;
      position = h.position;
      lines = line_count i;
      tracks = track_count i;
    } in
    ap (λ (k : Header). spell_header k ++ (flat_map (spell_line h.grid) lines
    ++ flat_map spell_track (in_order is_placed_before tracks))) same
    ∙ ap (λ (ts : List TrackValue). spell_header h ++ (flat_map (spell_line h.grid) lines
    ++ flat_map spell_track ts))
    (in_order-same is_placed_before is_placed_before-ranks tracks rising)

three_lengths : (a b c : List ℕ) → length (a ++ (b ++ c)) ≡ length a + length b + length c
three_lengths a b c = omega (arith, length-append a (b ++ c), length-append b c)

abbrev at_lines : List ℕ → Units CountedLine
at_lines bytes = record { read = []; place = 64; left = drop 64 bytes }

abbrev at_tracks : Units CountedLine → Units TrackValue
at_tracks u = record { read = []; place = u.place; left = u.left }

-- what was read, once header, lines and tracks are
whole_is : (bytes : List ℕ) (h : Header) (u : Units CountedLine) (v : Units TrackValue)
    → bytes ≡ spell_header h ++ drop 64 bytes
    → AreRead (spell_line h.grid) h.lines (at_lines bytes) u
    → AreRead spell_track h.tracks (at_tracks u) v → IsRising is_placed_before v.read
    → BeginsWith bytes (state_with h u.read v.read) v.place
whole_is bytes h u v header lines tracks rising =
    let ls = flat_map (spell_line h.grid) u.read in
    let ts = flat_map spell_track v.read in
    let line_count : length u.read ≡ h.lines = ap length lines.read ∙ lines.count in
    let track_count : length v.read ≡ h.tracks = ap length tracks.read ∙ tracks.count in
    let spelled = spelled_whole h u.read v.read line_count track_count rising in
    let lines_begin : drop 64 bytes ≡ ls ++ u.left =
    lines.begins ∙ ap (λ (ms : List CountedLine). flat_map (spell_line h.grid) ms ++ u.left)
    (sym lines.read) in
    let tracks_begin : u.left ≡ ts ++ v.left =
    tracks.begins ∙ ap (λ (ms : List TrackValue). flat_map spell_track ms ++ v.left) (sym tracks.read) in
    let line_bytes : length (flat_map (spell_line h.grid) lines.more) ≡ length ls =
    ap (λ (ms : List CountedLine). length (flat_map (spell_line h.grid) ms)) (sym lines.read) in
    let track_bytes : length (flat_map spell_track tracks.more) ≡ length ts =
    ap (λ (ms : List TrackValue). length (flat_map spell_track ms)) (sym tracks.read) in
    record {
      left = v.left;
      spelled = header
          ∙ ap (λ (t : List ℕ). spell_header h ++ t) (lines_begin ∙ ap (λ (t : List ℕ). ls ++ t)
          tracks_begin ∙ sym (append_assoc ls ts v.left))
          ∙ sym (append_assoc (spell_header h) (ls ++ ts) v.left)
          ∙ ap (λ (t : List ℕ). t ++ v.left) (sym spelled);
      place_is = omega (
        arith,
        lines.place,
        tracks.place,
        line_bytes,
        track_bytes,
        length-header h,
        three_lengths (spell_header h) ls ts,
        ap length spelled,
      );
    }

tracks_are : (bytes : List ℕ) (h : Header) (u : Units CountedLine) (s : State) (place : ℕ)
    → bytes ≡ spell_header h ++ drop 64 bytes
    → AreRead (spell_line h.grid) h.lines (at_lines bytes) u
    → tracks_then h u.read (read_units (track_in h u.read) spell_track h.tracks (at_tracks u))
    ≡ Ok (s, place) → BeginsWith bytes s place
tracks_are bytes h u s place header lines is =
    elim (result_cases (read_units (track_in h u.read) spell_track h.tracks (at_tracks u))) [
      | inl fault ↦ absurd (never_Ok fault.0 (s, place) (rw fault.1 at is))
      | inr there ↦
          let v = there.0 in
          let read = units_are (track_in h u.read) spell_track
          (λ before left. IsRising is_placed_before before)
          (λ before left x e rising. (
            (track_is h u.read before left x e).begins,
            track_rises h u.read before left x e rising,
          ))
          h.tracks (at_tracks u) v there.1 tt in
          let rest : tracks_then h u.read (Ok v) ≡ Ok (s, place) = rw there.1 at is in
          elim (cases_Bool (nat_le (length (due h u.read)) (length v.read))) [
            | inl whole ↦
                let same : (state_with h u.read v.read, v.place) ≡ (s, place) =
                same_Ok (state_with h u.read v.read, v.place) (s, place) (rw whole at rest) in
                subst (λ (f : Found). BeginsWith bytes f.0 f.1) same
                (whole_is bytes h u v header lines read.0 read.1)
            | inr missing ↦ absurd (never_Ok (BadState v.place) (s, place) (rw missing at rest))
          ]
    ]

-- the bytes begin with the state that is read of them, up to its place
pub read_is_spelled : (bytes : List ℕ) (s : State) (place : ℕ) → read_state bytes ≡ Ok (s, place)
    → BeginsWith bytes s place
read_is_spelled bytes s place is =
    elim (slice_cases (header_in bytes)) [
      | inl none ↦ absurd (never_Ok (BadState 0) (s, place) (rw none at is))
      | inr there ↦
          let h = there.0 in
          let unit = header_is bytes h there.1 in
          let header : bytes ≡ spell_header h ++ drop 64 bytes =
          unit.begins ∙ ap (λ (n : ℕ). spell_header h ++ drop n bytes) (length-header h) in
          let rest : lines_then h (read_units (line_in h) (spell_line h.grid) h.lines
          (at_lines bytes)) ≡ Ok (s, place) = rw there.1 at is in
          elim (result_cases (read_units (line_in h) (spell_line h.grid) h.lines
          (at_lines bytes))) [
            | inl fault ↦ absurd (never_Ok fault.0 (s, place) (rw fault.1 at rest))
            | inr lines ↦
                let read = units_are (line_in h) (spell_line h.grid) (λ before left. Unit {0})
                (λ before left l e held. ((line_is h before left l e).begins, tt))
                h.lines (at_lines bytes) lines.0 lines.1 tt in
                tracks_are bytes h lines.0 s place header read.0 (rw lines.1 at rest)
          ]
    ]
