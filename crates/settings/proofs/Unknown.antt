-- The first unknown name of an ordered table is the least.
use Rattle.std.proofs.Common.{◌≡◌, ℕ, Bool, List, [], ◌∷◌, Option, Some, None, option_map, String}
use Rattle.std.proofs.Common.{Global, Less, string_bytes, find, filter}
use Rattle.std.proofs.Common.{Bor, refl, ◌∙◌, ap, inl, inr}
use Rattle.std.proofs.lemmas.Bool.{cases_Bool}
use Rattle.std.specs.List.{AllByRecursion}
use Rattle.std.specs.List.Sorted.{IsStrictlySortedBy}
use Rattle.std.specs.Map.{keys_of}
use Rattle.std.specs.Option.{option_map_or, option_copied}
use Rattle.std.specs.String.{string_cmp}
use Rattle.toml.specs.declared.value.Value.{Value}
use Rattle.toml.specs.View.{members_view}
use Rattle.settings.specs.Tables.{names_of, is_unknown, lesser, least, least_unknown}

abbrev Entry : Type 0
Entry = String Global × Value

module _ (test : List ℕ → Bool) where
  abbrev first_name : List Entry → Option (List ℕ)
  first_name es = option_map string_bytes (find (λ name. test (string_bytes name)) (keys_of es))

  -- a key before all others is the lesser of itself and any of them
  lesser-first : (k : String Global) (es : List Entry) → AllByRecursion (λ y. string_cmp k y ≡ Less)
      (keys_of es)
      → option_map_or (lesser (string_bytes k)) (first_name es) (string_bytes k) ≡ string_bytes k
  lesser-first k [] h = refl
  lesser-first k (e ∷ es) h =
      elim (cases_Bool (test (string_bytes e.0))) [
        | inl passes ↦ rw (passes, h.0)
        | inr fails ↦ rw fails (lesser-first k es h.1)
      ]

  first-least : (es : List Entry) → IsStrictlySortedBy string_cmp (keys_of es)
      → first_name es ≡ least (filter test (names_of (members_view es)))
  unfolding IsStrictlySortedBy
  first-least [] h = refl
  first-least (e ∷ es) h =
      elim (cases_Bool (test (string_bytes e.0))) [
        | inl passes ↦ rw (passes, ← first-least es h.1, lesser-first e.0 es h.0)
        | inr fails ↦ rw fails (first-least es h.1)
      ]

copied : (found : Option (Bor (String Global))) → option_map (λ name. string_bytes name.now) found
    ≡ option_map string_bytes
    (option_copied found)
copied None = refl
copied (Some name) = refl

pub first-least_unknown : (found : Option (Bor (String Global))) (es : List Entry)
    → IsStrictlySortedBy string_cmp (keys_of es)
    → option_copied found ≡ find (λ name. is_unknown (string_bytes name)) (keys_of es)
    → option_map (λ name. string_bytes name.now) found ≡ least_unknown (members_view es)
unfolding least_unknown
first-least_unknown found es ordered is = copied found ∙ ap (option_map string_bytes) is
    ∙ first-least is_unknown es ordered
