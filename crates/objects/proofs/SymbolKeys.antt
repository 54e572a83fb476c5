-- The entries of a table's map beside the symbols that they are.
use Rattle.std.proofs.Common.{◌≡◌, ℕ, Bool, true, false, cond, ◌&&◌, ◌||◌, List, []}
use Rattle.std.proofs.Common.{◌∷◌, ◌++◌, map, Option, Some, is_some, refl, ap, sym, ◌∙◌, true≢false}
use Rattle.std.proofs.lemmas.Bool.{cases_Bool}
use Rattle.std.proofs.Common.{inl, inr}
use Rattle.std.specs.List.{list_any}
use Rattle.std.specs.Map.{lookup}
use Rattle.indexmap.specs.IndexMap.{insert_entry}
use Rattle.objects.specs.declared.symbol.SymbolKey.{SymbolKey}
use Rattle.objects.specs.declared.symbol.SymbolKind.{SymbolKind}
use Rattle.objects.specs.declared.symbol.SymbolKind.TheVariants.{Object, Function}
use Rattle.objects.specs.contracts.symbol.SymbolKind.{the_type}
use Rattle.objects.specs.contracts.symbol.SymbolKeyPartialEq.TheImpl.{eq-value}
use Rattle.base.specs.Names.{name_of}
use Rattle.objects.specs.Symbols.{Symbol, is_same_kind, is_in_place_of}
use Rattle.objects.specs.Laws.Symbols.{symbols_after}
use denote.Enum.Bare.{sameb}

abbrev pub Entry : Type 0
Entry = SymbolKey × List ℕ

-- the symbol that an entry is
abbrev pub symbol_in : Entry → Symbol
symbol_in e = record { kind = e.0.kind; addr = e.0.addr; size = e.0.size; name = e.1 }

-- the map's comparison of two places is the one of symbols
kinds : (k l : SymbolKind) (rest : Bool) → (sameb the_type k l && rest) ≡ (is_same_kind k l && rest)
kinds Object Object rest = refl
kinds Object Function rest = refl
kinds Function Object rest = refl
kinds Function Function rest = refl

same : (new : Entry) (old : Entry) → (eq-value).it new.0 old.0 ≡ is_in_place_of (symbol_in new)
    (symbol_in old)
same new old = kinds new.0.kind old.0.kind _

found_or : (b : Bool) (v : List ℕ) (rest : Option (List ℕ)) → is_some (cond b (Some v) rest)
    ≡ (b || is_some rest)
found_or true v rest = refl
found_or false v rest = refl

-- the map has a place exactly where a symbol of that place is there
pub seen : (new : Entry) (es : List Entry) → list_any (is_in_place_of (symbol_in new))
    (map symbol_in es) ≡ is_some (lookup
    ((eq-value).it new.0) es)
seen new [] = refl
seen new (e ∷ es) = rw (seen new es, ← same new e)
    (sym (found_or ((eq-value).it new.0 e.0) e.1 (lookup ((eq-value).it new.0) es)))

pub kept : (new : Entry) (es : List Entry) → is_some (lookup ((eq-value).it new.0) es) ≡ true
    → map symbol_in es ≡ symbols_after (map symbol_in es) (symbol_in new)
kept new es h = rw (seen new es, h)

-- a new place goes last
added : (new : Entry) (es : List Entry) → is_some (lookup ((eq-value).it new.0) es) ≡ false
    → map symbol_in (insert_entry (eq-value).it es new.0 new.1)
    ≡ map symbol_in es ++ symbol_in new ∷ []
added new [] h = refl
added new (e ∷ es) h =
    elim (cases_Bool ((eq-value).it new.0 e.0)) [
      | inl same ↦ absurd (true≢false (rw same at h))
      | inr other ↦ let rest : is_some (lookup ((eq-value).it new.0) es)
          ≡ false = rw other at h in rw other (ap (λ t. symbol_in e ∷ t)
          (added new es rest))
    ]

pub noted : (new : Entry) (es : List Entry) → is_some (lookup ((eq-value).it new.0) es) ≡ false
    → map symbol_in (insert_entry (eq-value).it es new.0 new.1) ≡ symbols_after (map symbol_in es)
    (symbol_in new)
noted new es h = rw (seen new es, h) (added new es h)

-- the entry of a symbol with its name cut
abbrev pub entry_of : SymbolKind → ℕ → ℕ → List ℕ → Entry
entry_of kind addr size name = (record { kind = kind; addr = addr; size = size }, name_of name)

pub unknown : (new : Entry) (es : List Entry) → is_some (lookup ((eq-value).it new.0) es) ≡ false
    → list_any (is_in_place_of (symbol_in new)) (map symbol_in es) ≡ true → ⊥
unknown new es fresh known = true≢false (sym known ∙ seen new es ∙ fresh)
