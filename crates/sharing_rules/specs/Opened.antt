-- What is kept of an access list: its observed lines, and its predicted ones from their opening on.
use Rattle.std.specs.Prelude.{Bool, ◌||◌, nat_lt, int_lt, ℕ, suc, ◌+◌, ◌-◌, ◌*◌, ◌%◌, ◌&&◌, ◌==◌}
use Rattle.std.specs.Prelude.{if◌then◌else◌, List, [], ◌∷◌, ◌++◌, Option, None, Some, length}
use Rattle.std.specs.Prelude.{filter_map, is_some, option_map, option_and_then, option_to_list}
use Rattle.std.specs.Option.{option_map_or}
use Rattle.base.specs.Touch.{Touch}
use Rattle.base.specs.Lines.{Grid, line_number}
use Rattle.base.specs.Levels.{Levels}
use Rattle.sharing_rules.specs.AccessLists.{AccessList, writes_to}
use Rattle.sharing_rules.specs.Lines.{Line, is_inside, native_grid, grid_line, line_at, range_of}
use Rattle.sharing_rules.specs.Observed.{write_count, observed_start, first_write_from}
use Rattle.sharing_rules.specs.Observed.{written_lines}
use Rattle.sharing_rules.specs.Predicted.{is_candidate, best_between, shifted_opening}
use Rattle.sharing_rules.specs.Predicted.{doubled_opening, shifted_around, shifted_line}
use Rattle.sharing_rules.specs.Predicted.{doubled_line}
use Rattle.sharing_rules.specs.Listed.{Finding, found, rank}
use Rattle.sharing_rules.specs.declared.line_kind.LineKind.{LineKind}
use Rattle.sharing_rules.specs.declared.line_kind.LineKind.TheVariants.{Observed, Shifted, Doubled}

-- a line that is kept, how it came to be kept, and the position from which it may start
pub record Opened : Type 0 where
  pub kind : LineKind
  pub line : Line
  pub from : ℕ

-- an observed line starts where it is observed, and a predicted one after its opening
abbrev pub observed_from : Line → ℕ → Opened
observed_from l start = record { kind = Observed; line = l; from = start }

abbrev pub shifted_after : ℕ → Line → Opened
shifted_after opening l = record { kind = Shifted; line = l; from = suc opening }

abbrev pub doubled_after : Line → ℕ → Opened
doubled_after l opening = record { kind = Doubled; line = l; from = suc opening }

-- line k of a layout, where it is observed
abbrev pub opened_observed : Grid → ℕ → AccessList → ℕ → Option Opened
opened_observed g T t k =
    let l : Line = grid_line g k in option_map (observed_from l) (observed_start T (is_inside l) t)

-- the shifted and the doubled line of lines k and k+1 of the native layout (n, 0), where opened
abbrev pub opened_shifted : ℕ → ℕ → ℕ → AccessList → ℕ → Option Opened
opened_shifted n T P t k =
    option_and_then
    (λ o. option_map (shifted_after o) (shifted_line n T P k t))
    (shifted_opening n T P k t)

abbrev pub opened_doubled : ℕ → ℕ → ℕ → AccessList → ℕ → Option Opened
opened_doubled n T P t k = option_map (doubled_after (doubled_line n k)) (doubled_opening n T P k t)

-- those of all written lines; a predicted one by the lower line of its pair
abbrev pub observed_ones : Grid → ℕ → AccessList → List Opened
observed_ones g T t = filter_map (opened_observed g T t) (written_lines g t)

abbrev pub shifted_ones : ℕ → ℕ → ℕ → AccessList → List Opened
shifted_ones n T P t = filter_map (opened_shifted n T P t) (written_lines (native_grid n) t)

abbrev pub doubled_ones : ℕ → ℕ → ℕ → AccessList → List Opened
doubled_ones n T P t = filter_map (opened_doubled n T P t) (written_lines (native_grid n) t)

abbrev pub predicted_ones : ℕ → ℕ → ℕ → AccessList → List Opened
predicted_ones n T P t = shifted_ones n T P t ++ doubled_ones n T P t

-- all that is kept of a list
abbrev pub opened : Grid → Levels → AccessList → List Opened
opened g v t =
    observed_ones g v.tracking t
    ++ option_map_or (λ P. predicted_ones g.size v.tracking P t) v.prediction []

-- the line of an access that is its T-th write
abbrev pub observed_now : Grid → ℕ → AccessList → Touch → Option Opened
observed_now g T t a =
    let l : Line = line_at g a.addr in
    if writes_to (is_inside l) a && (write_count (is_inside l) t + 1 == T)
    then Some (observed_from l (length t)) else None

-- the shifted and the doubled line of lines k and k+1 that open at access a, a candidate of one of
-- the two: where none opened before, and the words with a in them have a hot pair near enough
abbrev pub shifted_now : ℕ → ℕ → ℕ → AccessList → Touch → ℕ → Option Opened
shifted_now n T P t a k =
    if is_some (shifted_opening n T P k t) then None
    else option_map (λ p. shifted_after (length t) (shifted_around n k p))
    (best_between n T n k (t ++ a ∷ []))

abbrev pub doubled_now : ℕ → ℕ → ℕ → AccessList → Touch → ℕ → Option Opened
doubled_now n T P t a k =
    if is_some (doubled_opening n T P k t) then None
    else option_map (λ p. doubled_after (doubled_line n k) (length t))
    (best_between n T (2 * n) k (t ++ a ∷ []))

-- the lower line of the even pair that holds line k
abbrev pub even_lower : ℕ → ℕ
even_lower k = if k % 2 == 1 then k else k - 1

-- the predicted lines that open at an access: those of its line with the lower neighbour and with
-- the upper one
abbrev pub predicted_now : ℕ → ℕ → ℕ → AccessList → Touch → List Opened
predicted_now n T P t a =
    let k : ℕ = line_number n 0 a.addr in
    if is_candidate n P k t a then
    option_to_list (shifted_now n T P t a (k - 1))
    ++ (option_to_list (shifted_now n T P t a k)
    ++ option_to_list (doubled_now n T P t a (even_lower k)))
    else []

-- what opens at one access more
abbrev pub opened_now : Grid → Levels → AccessList → Touch → List Opened
opened_now g v t a =
    option_to_list (observed_now g v.tracking t a)
    ++ option_map_or (λ P. predicted_now g.size v.tracking P t a) v.prediction []

-- what is found of a kept line, once it has a start
abbrev pub finding_of : AccessList → Opened → Option Finding
finding_of t o = option_map (found t o.kind o.line) (first_write_from o.from (is_inside o.line) t)

-- by kind, then by base; the kept lines of a list have no ties in it
abbrev pub is_placed_before : Opened → Opened → Bool
is_placed_before x y =
    nat_lt (rank x.kind) (rank y.kind)
    || ((rank x.kind == rank y.kind) && int_lt (range_of x.line).base (range_of y.line).base)
