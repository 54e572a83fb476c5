-- The symbols of a program, in first-seen order. One in the place of an earlier one is dropped.
use Rattle.std.specs.Prelude.{◌≡◌, ℕ, ◌+◌, List, [], ◌∷◌, Bool, true, false, not, ◌&&◌, ◌==◌}
use Rattle.std.specs.Prelude.{nat_le, nat_lt, Option}
use Rattle.std.specs.List.{AllPairs, filter, find}
use Rattle.std.specs.Option.{option_map}
use Rattle.objects.specs.declared.symbol.SymbolKind.{SymbolKind}
use Rattle.objects.specs.declared.symbol.SymbolKind.TheVariants.{Object, Function}
use Rattle.base.specs.Names.{name_of}

pub record Symbol : Type 0 where
  pub kind : SymbolKind
  pub addr : ℕ
  pub size : ℕ
  pub name : List ℕ

-- a symbol as a table keeps it: its name is cut
abbrev pub kept_symbol : SymbolKind → ℕ → ℕ → List ℕ → Symbol
kept_symbol kind addr size name =
    record { kind = kind; addr = addr; size = size; name = name_of name }

abbrev pub is_same_kind : SymbolKind → SymbolKind → Bool
is_same_kind Object Object = true
is_same_kind Function Function = true
is_same_kind _ _ = false

-- the same kind, address and size
abbrev pub is_in_place_of : Symbol → Symbol → Bool
is_in_place_of new old =
    is_same_kind new.kind old.kind && ((new.addr == old.addr) && (new.size == old.size))

-- the symbols of a list without those in the place of an earlier one
abbrev pub symbols_of : List Symbol → List Symbol
symbols_of [] = []
symbols_of (s ∷ others) = s ∷ filter (λ t. not (is_in_place_of t s)) (symbols_of others)

-- no symbol is in the place of an earlier one
abbrev pub NoTwoAlike : List Symbol → Type 0
NoTwoAlike symbols = symbols_of symbols ≡ symbols

-- which is to say that each is in another place than every earlier one
abbrev pub EachApart : List Symbol → Type 0
EachApart symbols = AllPairs (λ old new. is_in_place_of new old ≡ false) symbols

-- whether a symbol is a function whose bytes hold an address
abbrev pub is_function_at : ℕ → Symbol → Bool
is_function_at pc s =
    is_same_kind s.kind Function && (nat_le s.addr pc && nat_lt pc (s.addr + s.size))

-- the name of the first function that holds an address
abbrev pub function_at : List Symbol → ℕ → Option (List ℕ)
function_at symbols pc = option_map (λ s. s.name) (find (is_function_at pc) symbols)
