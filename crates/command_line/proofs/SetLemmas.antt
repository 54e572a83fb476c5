-- A text that is cut at its first comma, and a part at its first `=`.
use Rattle.std.proofs.Common.{◌≡◌, ℕ, ◌+◌, ◌<◌, Bool, List, [], ◌∷◌, length, Option, Some, None, arith}
use Rattle.std.proofs.Common.{Result, Ok, Err, ap, ap₂, refl, sym, ◌∙◌, eqb, length-drop}
use Rattle.std.proofs.lemmas.List.Splits.{slice_split_first, slice_split_none}
use Rattle.std.proofs.lemmas.List.Sums.{fails_before_first}
use Rattle.std.proofs.lemmas.List.{drop_all}
use Rattle.std.proofs.lemmas.Str.Pattern.{IsSplitOnceResult, split_once_first}
use Rattle.std.specs.Borrow.{Bor}
use Rattle.std.specs.List.{after_first, before_first, position_or_len, slice_split}
use Rattle.std.specs.Prelude.{is_none, option_and_then}
use Rattle.std.specs.Result.{is_err, result_ok}
use Rattle.settings.specs.Keys.{key_named}
use Rattle.settings.specs.declared.changes.Changes.{Changes}
use Rattle.settings.specs.declared.key.Key.{Key}
use Rattle.command_line.specs.Set.{and_part, and_words}

abbrev is_comma : ℕ → Bool
is_comma b = eqb b 44

abbrev is_equals : ℕ → Bool
is_equals b = eqb b 61

pub split_at_comma : (text : List ℕ) (part rest : Bor (List ℕ))
    → IsSplitOnceResult 44 text (Some (part, rest))
    → slice_split is_comma text ≡ part.now ∷ slice_split is_comma rest.now
split_at_comma text part rest cut =
    let (inside, front, back) = split_once_first 44 text (Some (part, rest)) cut (omega arith) in
    slice_split_first is_comma text 0 inside
    ∙ ap₂ (λ x y. x ∷ slice_split is_comma y) (sym front) (sym back)

pub behind_shorter : (text : List ℕ) (part rest : Bor (List ℕ))
    → IsSplitOnceResult 44 text (Some (part, rest))
    → length rest.now < length text
behind_shorter text part rest cut =
    let (inside, front, back) = split_once_first 44 text (Some (part, rest)) cut (omega arith) in
    omega (arith, ap length back, length-drop (position_or_len is_comma text + 1) text, inside)

pub split_without_comma : (text : List ℕ) → IsSplitOnceResult 44 text None
    → slice_split is_comma text ≡ text ∷ []
split_without_comma text lacks =
    let none = split_once_first 44 text None lacks (omega arith) in
    slice_split_none is_comma text (λ k d within.
    fails_before_first is_comma text k d (omega (arith, none, within)))

pub part_at_equals : (c : Changes) (part : List ℕ) (name digits : Bor (List ℕ))
    → IsSplitOnceResult 61 part (Some (name, digits))
    → and_words c name.now digits.now ≡ and_part c part
part_at_equals c part name digits cut =
    let (inside, front, back) = split_once_first 61 part (Some (name, digits)) cut (omega arith) in
    ap₂ (and_words c) front back

abbrev no_change : Key → Option Changes
no_change key = None

none_then : (o : Option Key) → option_and_then no_change o ≡ None
none_then None = refl
none_then (Some key) = refl

pub part_without_equals : (c : Changes) (part : List ℕ) → IsSplitOnceResult 61 part None
    → and_part c part ≡ None
part_without_equals c part lacks =
    let none = split_once_first 61 part None lacks (omega arith) in
    let bare : after_first is_equals part ≡ [] =
    drop_all (position_or_len is_equals part + 1) part (omega (arith, none)) in
    ap (and_words c (before_first is_equals part)) bare
    ∙ none_then (key_named (before_first is_equals part))

pub is_err-none : {X E : Type 0} (r : Result X E) → is_err r ≡ is_none (result_ok r)
is_err-none (Ok x) = refl
is_err-none (Err e) = refl
