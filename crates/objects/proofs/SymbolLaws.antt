-- The symbols of a table with one symbol more.
use Rattle.std.proofs.Common.{◌≡◌, false, List, [], ◌∷◌, ◌++◌, refl, sym, ◌∙◌, ap}
use Rattle.std.specs.List.{list_any}
use Rattle.objects.specs.Symbols.{NoTwoAlike, Symbol, is_in_place_of, symbols_of}
use Rattle.objects.specs.Laws.Symbols.{symbols_after, symbols_after-alone, symbols_of-push}

module _ (old after : List Symbol) (new : Symbol) (is : after ≡ symbols_after old new) where
  -- the table's symbols are those of the whole list that was noted
  pub whole : (seen : List Symbol) → old ≡ symbols_of seen → after ≡ symbols_of (seen ++ new ∷ [])
  whole seen same = is ∙ ap (λ ss. symbols_after ss new) same ∙ sym (symbols_of-push seen new)

  pub added : NoTwoAlike old → after ≡ symbols_of (old ++ new ∷ [])
  added alone = whole old (sym alone)

  pub still : NoTwoAlike old → NoTwoAlike after
  still alone = rw is (symbols_after-alone old new alone)

  -- and where its place is new, it stands behind the others
  pub behind : NoTwoAlike old → list_any (is_in_place_of new) old ≡ false → after ≡ old ++ new ∷ []
  behind alone fresh = is ∙ rw fresh refl
