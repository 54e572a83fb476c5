-- Units by their spelling: bytes that are too few, what is good and then spelled, and a line behind
-- the last one alone.
use Rattle.std.proofs.Common.{◌≡◌, ℕ, suc, ◌-◌, ◌<◌, Bool, true, false, ◌&&◌, ltb, List, [], ◌∷◌}
use Rattle.std.proofs.Common.{◌++◌, length, drop, refl, sym, ap, ◌∙◌, arith, inl, inr, slice_get}
use Rattle.std.proofs.lemmas.Bool.{cases_Bool}
use Rattle.std.proofs.lemmas.Bool.Decides.{Decides-eqb, nat_tests}
use Rattle.std.proofs.lemmas.List.Prefix.{front_fits}
use Rattle.std.proofs.lemmas.Slice.Eq.{starts_is}
use Rattle.std.specs.Prelude.{nat_eq, nat_lt, Option, None, Some, if◌then◌else◌, option_map}
use Rattle.std.specs.Prelude.{option_and_then}
use Rattle.std.specs.List.{list_all, starts_with}
use Rattle.std.specs.Option.{option_map_or}
use Rattle.base.specs.Levels.{is_from_to}
use Rattle.sharing_rules.specs.Members.{IsRising}
use Rattle.line_tracks.specs.TrackValue.{TrackValue}
use Rattle.saved_state.specs.declared.state_parts.CountedLine.{CountedLine}
use Rattle.saved_state.specs.Counted.{has_lower_number}
use Rattle.saved_state.specs.Laws.Lengths.{length-header, length-line}
use Rattle.saved_state.specs.Parts.{IsLast, good_head, head_at, head_in, is_good_behind}
use Rattle.saved_state.specs.Parts.{line_behind}
use Rattle.saved_state.specs.Spelling.{Header, spell_head, spell_header, spell_line}
use Rattle.saved_state.specs.Units.{header_at, header_in, if_spelled, is_good_header, is_line}
use Rattle.saved_state.specs.Units.{is_since, line_at, line_in}

-- ---- bytes that are too few

begins_short : (bytes p : List ℕ) → length bytes < length p → starts_with nat_eq bytes p ≡ false
begins_short bytes p few = elim (cases_Bool (starts_with nat_eq bytes p)) [
  | inl begins ↦
      let is : bytes ≡ p ++ drop (length p) bytes = (starts_is Decides-eqb bytes p
      (starts_with nat_eq bytes p) refl).0 begins in
      absurd (let fits = front_fits bytes p (drop (length p) bytes) is in omega (arith, few, fits))
  | inr fails ↦ fails
]

and_false : (b c : Bool) → c ≡ false → (b && c) ≡ false
and_false true c is = is
and_false false c is = refl

pub if_spelled-short : {X : Type 0} (spell : X → List ℕ) (good : Bool) (x : X) (bytes : List ℕ)
    → length bytes < length (spell x) → if_spelled spell good x bytes ≡ None
if_spelled-short spell good x bytes few =
    ap (λ b. if b then Some x else None) (and_false good (starts_with nat_eq bytes (spell x))
    (begins_short bytes (spell x) few))

pub header_in-short : (bytes : List ℕ) → length bytes < 64 → header_in bytes ≡ None
unfolding header_in
header_in-short bytes few =
    if_spelled-short spell_header (is_good_header (header_at bytes)) (header_at bytes) bytes
    (omega (arith, few, length-header (header_at bytes)))

-- what is good, and then spelled
pub if_spelled-then : {X : Type 0} (spell : X → List ℕ) (good : Bool) (x : X) (bytes : List ℕ)
    → if_spelled spell good x bytes
    ≡ option_and_then (λ y. if starts_with nat_eq bytes (spell y) then Some y else None)
    (if good then Some x else None)
if_spelled-then spell true x bytes = refl
if_spelled-then spell false x bytes = refl

pub header_in-then : (bytes : List ℕ) (o : Option Header)
    → o ≡ (if is_good_header (header_at bytes) then Some (header_at bytes) else None)
    → header_in bytes
    ≡ option_and_then (λ h. if starts_with nat_eq bytes (spell_header h) then Some h else None) o
unfolding header_in
header_in-then bytes o is =
    if_spelled-then spell_header (is_good_header (header_at bytes)) (header_at bytes) bytes
    ∙ ap (option_and_then (λ h. if starts_with nat_eq bytes (spell_header h) then Some h else None))
    (sym is)

pub head_in-then : (h : Header) (bytes : List ℕ) (o : Option TrackValue)
    → o ≡ good_head h (head_at h.grid bytes).start bytes
    → head_in h bytes
    ≡ option_and_then (λ x. if starts_with nat_eq bytes (spell_head x) then Some x else None) o
unfolding head_in
head_in-then h bytes o is =
    if_spelled-then spell_head (is_since h (head_at h.grid bytes) (head_at h.grid bytes).start)
    (head_at h.grid bytes) bytes
    ∙ ap (option_and_then (λ x. if starts_with nat_eq bytes (spell_head x) then Some x else None))
    (sym is)

pub line_behind-short : (h : Header) (last : Option ℕ) (bytes : List ℕ) → length bytes < 16
    → line_behind h last bytes ≡ None
unfolding line_behind
line_behind-short h last bytes few =
    if_spelled-short (spell_line h.grid) (is_good_behind h last (line_at h.grid bytes))
    (line_at h.grid bytes) bytes (omega (arith, few, length-line h.grid (line_at h.grid bytes)))

-- ---- a line behind others

below_both : (x y k : ℕ) → ltb x y ≡ true → ltb y k ≡ true → ltb x k ≡ true
below_both x y k one other = grind (arith, nat_tests)

and_weaker : (a b c : Bool) → (b ≡ true → a ≡ true) → (b && c) ≡ (a && (b && c))
and_weaker a true c law = ap (λ d. d && c) (sym (law refl))
and_weaker true false c law = refl
and_weaker false false c law = refl

last_more : (x y : CountedLine) (ys : List CountedLine) (last : Option ℕ)
    → IsLast (x ∷ y ∷ ys) last → IsLast (y ∷ ys) last
last_more x y ys last is =
    let one : length (x ∷ y ∷ ys) - 1 ≡ suc (length ys) = omega arith in
    let other : length (y ∷ ys) - 1 ≡ length ys = omega arith in
    ap (λ n. option_map (λ (l : CountedLine). l.number) (slice_get (y ∷ ys) n)) other
    ∙ ap (λ n. option_map (λ (l : CountedLine). l.number) (slice_get (x ∷ y ∷ ys) n)) (sym one)
    ∙ is

-- above the last is above all
all_below : (before : List CountedLine) (last : Option ℕ) (k : ℕ)
    → IsRising has_lower_number before → IsLast before last
    → option_map_or (λ n. nat_lt n k) last true ≡ list_all (λ x. nat_lt x.number k) before
all_below [] last k rising is = ap (λ o. option_map_or (λ n. nat_lt n k) o true) (sym is)
all_below (x ∷ []) last k rising is =
    ap (λ o. option_map_or (λ n. nat_lt n k) o true) (sym is)
    ∙ grind arith
all_below (x ∷ y ∷ ys) last k rising is =
    all_below (y ∷ ys) last k rising.1 (last_more x y ys last is)
    ∙ and_weaker (nat_lt x.number k) (nat_lt y.number k) (list_all (λ z. nat_lt z.number k) ys)
    (λ below. below_both x.number y.number k rising.0.0 below)

pub line_behind-in : (h : Header) (before : List CountedLine) (last : Option ℕ) (bytes : List ℕ)
    → IsRising has_lower_number before → IsLast before last
    → line_behind h last bytes ≡ line_in h before bytes
unfolding line_behind line_in
line_behind-in h before last bytes rising is =
    let l = line_at h.grid bytes in
    ap (λ b. if_spelled (spell_line h.grid) (is_line h.grid l.number && b
    && is_from_to 1 h.position l.writes) l bytes) (all_below before last l.number rising is)
