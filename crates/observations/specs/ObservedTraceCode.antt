-- What is seen, as plain data.
use Rattle.std.specs.Prelude.{◌≡◌, ℕ, zero, suc, List, Option, refl}
use Rattle.std.specs.Coded.{Coded, code_by, coded×, coded_ℕ, coded_list, coded_option}
use Rattle.objects.specs.declared.block.Block.{Block}
use Rattle.objects.specs.declared.symbol.SymbolKind.{SymbolKind}
use Rattle.objects.specs.declared.symbol.SymbolKind.TheVariants.{Object, Function}
use Rattle.objects.specs.Objects.{Objects}
use Rattle.objects.specs.Symbols.{Symbol}
use Rattle.detector.specs.Watch.{Watch}
use Rattle.detector.specs.WatchCode.{watch_code}
use Rattle.observations.specs.ObservedTraces.{ObservedTrace}

abbrev number_of : SymbolKind → ℕ
number_of Object = 0
number_of Function = 1

abbrev of_number : ℕ → SymbolKind
of_number zero = Object
of_number (suc n) = Function

abbrev of_number-number : (kind : SymbolKind) → of_number (number_of kind) ≡ kind
of_number-number Object = refl
of_number-number Function = refl

abbrev kind_code : Coded SymbolKind
kind_code = code_by ℕ coded_ℕ number_of of_number of_number-number

abbrev symbol_code : Coded Symbol
symbol_code =
    code_by (SymbolKind × (ℕ × (ℕ × List ℕ)))
    (coded× kind_code (coded× coded_ℕ (coded× coded_ℕ (coded_list coded_ℕ))))
    (λ s. (s.kind, (s.addr, (s.size, s.name))))
    (λ p. record { kind = p.0; addr = p.1.0; size = p.1.1.0; name = p.1.1.1 }) (λ _. refl)

abbrev block_code : Coded Block
block_code =
    code_by (ℕ × (ℕ × (List ℕ × (ℕ × Option ℕ))))
    (coded× coded_ℕ
    (coded× coded_ℕ (coded× (coded_list coded_ℕ) (coded× coded_ℕ (coded_option coded_ℕ)))))
    (λ b. (b.addr, (b.size, (b.sites, (b.born, b.died)))))
    (λ p. record { addr = p.0; size = p.1.0; sites = p.1.1.0; born = p.1.1.1.0; died = p.1.1.1.1 })
    (λ _. refl)

abbrev objects_code : Coded Objects
objects_code =
    code_by (List Symbol × List Block) (coded× (coded_list symbol_code) (coded_list block_code))
    (λ o. (o.symbols, o.blocks)) (λ p. record { symbols = p.0; blocks = p.1 }) (λ _. refl)

-- what the accesses show, and the objects
abbrev pub observed_code : Coded ObservedTrace
observed_code =
    code_by (Watch × Objects) (coded× watch_code objects_code)
    (λ s. (s.watch, s.objects)) (λ p. record { watch = p.0; objects = p.1 }) (λ _. refl)
