-- One symbol more is counted.
use Rattle.std.proofs.Common.{ap, ◌≡◌, ℕ, ◌+◌, ◌<◌, Bool, true, false, List, [], length, take}
use Rattle.std.proofs.Common.{get_or, Option}
use Rattle.std.specs.Prelude.{slice_get}
use Rattle.std.specs.List.{count_by}
use Rattle.std.specs.Option.{option_map_or}
use Rattle.std.proofs.lemmas.List.Sums.{count_by_more_no, count_by_more_yes}
use Rattle.std.proofs.lemmas.Option.{slice_get-get_or}
use Rattle.objects.specs.declared.symbol.SymbolKind.TheVariants.{Object}
use Rattle.objects.specs.Symbols.{Symbol}

-- what stands past a table's end
no_symbol : Symbol
no_symbol = record { kind = Object; addr = 0; size = 0; name = [] }

found : (p : Symbol → Bool) (xs : List Symbol) (i : ℕ) (d : Symbol) → i < length xs
    → option_map_or p (slice_get xs i) false ≡ p
    (get_or xs i d)
found p xs i d inside = ap (λ (o : Option Symbol). option_map_or p o false)
    (slice_get-get_or xs i d inside)

pub counted : (p : Symbol → Bool) (xs : List Symbol) (i : ℕ) → i < length xs
    → option_map_or p (slice_get xs i) false ≡ true
    → count_by p (take (i + 1) xs) ≡ count_by p (take i xs) + 1
counted p xs i inside is = count_by_more_yes p xs i no_symbol inside
    (rw (found p xs i no_symbol inside) at is)

pub not_counted : (p : Symbol → Bool) (xs : List Symbol) (i : ℕ) → i < length xs
    → option_map_or p (slice_get xs i) false ≡ false
    → count_by p (take (i + 1) xs) ≡ count_by p (take i xs)
not_counted p xs i inside is = count_by_more_no p xs i no_symbol inside
    (rw (found p xs i no_symbol inside) at is)
