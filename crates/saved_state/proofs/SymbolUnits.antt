-- A symbol is read as it was spelled, and one that is read is good.
use Rattle.std.proofs.Common.{◌≡◌, ◌≢◌, ℕ, ◌+◌, ◌<◌, ◌≤◌, Bool, true, false, ◌&&◌, eqb}
use Rattle.std.proofs.Common.{List, ◌∷◌, ◌++◌, length, get_or, take, drop, All, Some, None}
use Rattle.std.proofs.Common.{refl, sym, ap, subst, ◌∙◌, arith}
use Rattle.std.specs.Prelude.{if◌then◌else◌, nat_eq, nat_le, not, unwrap_or}
use Rattle.std.specs.Int.{to_le_bytes, w16, w32}
use Rattle.std.specs.List.{list_any, starts_with}
use Rattle.std.proofs.lemmas.Bool.{and_from, and_parts, le-leb, leb-true, not-true}
use Rattle.std.proofs.lemmas.Bool.Decides.{Decides-eqb, nat_tests}
use Rattle.std.proofs.lemmas.List.{take_all, take-append-drop}
use Rattle.std.proofs.lemmas.List.Elements.{All-drop, All-take}
use Rattle.std.proofs.lemmas.List.Folds.{list_any_none}
use Rattle.std.proofs.lemmas.Nat.{from_le_bytes-to_le_bytes_2, from_le_bytes-to_le_bytes_4}
use Rattle.std.proofs.lemmas.Slice.Eq.{starts_is}
use Rattle.std.proofs.Math.Seq.{take-append_seam}
use Rattle.base.specs.Fields.{number_at}
use Rattle.base.specs.Names.{longest_name}
use Rattle.objects.specs.declared.symbol.SymbolKind.{SymbolKind}
use Rattle.objects.specs.declared.symbol.SymbolKind.TheVariants.{Function, Object}
use Rattle.objects.specs.Symbols.{Symbol, is_in_place_of, kept_symbol}
use Rattle.trace_format.specs.Judging.{symbol_kind_of}
use Rattle.trace_format.specs.Laws.Bytes.{below_32, bytes_of}
use Rattle.trace_format.specs.Spelling.{kind_number, spell_symbol}
use Rattle.saved_state.specs.Laws.Again.{spelled_again}
use Rattle.saved_state.specs.Laws.Reading.{IsUnit, unit_is, unit_stated}
use Rattle.saved_state.specs.ObjectJudging.{is_good_name, is_good_symbol, symbol_at}
use Rattle.saved_state.specs.ObjectJudging.{symbol_in}
use Rattle.saved_state.specs.ObjectRules.{IsSavedSymbol}
use Rattle.saved_state.specs.ObjectSpelling.{spell_saved_symbol}
use Rattle.saved_state.proofs.Spelled.{if_spelled-short}
use Rattle.saved_state.proofs.UnitLaws.{IsByte, MayFollow, none_passes}
use Rattle.saved_state.proofs.Words.{starts_append}

-- whether an earlier symbol has the place of a later one
abbrev pub is_taken : Symbol → Symbol → Bool
is_taken old new = is_in_place_of new old

-- a table keeps all of a name that fits
pub kept_whole : (kind : SymbolKind) (addr size : ℕ) (name : List ℕ) → length name ≤ 1024
    → (let s : Symbol = record { kind = kind; addr = addr; size = size; name = name } in
    kept_symbol kind addr size name ≡ s)
kept_whole kind addr size name short =
    ap (λ (n : List ℕ). (let s : Symbol = record { kind = kind; addr = addr; size = size; name = n }
    in s)) (take_all 1024 name short)

pub length-symbol : (s : Symbol) → length (spell_saved_symbol s) ≡ 12 + length s.name
unfolding spell_symbol
length-symbol s = omega arith

-- ---- what the bytes of a symbol say

-- what stands before its name
abbrev pub front_of : Symbol → List ℕ
front_of s = 5 ∷ kind_number s.kind ∷ (to_le_bytes w32 s.addr ++ (to_le_bytes w32 s.size
    ++ to_le_bytes w16 (length s.name)))

-- Its name is taken of the bytes, so they begin with the symbol where they begin with its front.
pub starts_front : (bytes : List ℕ)
    → starts_with nat_eq bytes (spell_saved_symbol (symbol_at bytes))
    ≡ starts_with nat_eq bytes (front_of (symbol_at bytes))
unfolding symbol_at spell_symbol
starts_front bytes =
    let s = symbol_at bytes in
    let behind = drop 12 bytes in
    let name : starts_with nat_eq behind s.name ≡ true =
    (starts_is Decides-eqb behind s.name (starts_with nat_eq behind s.name) refl).1
    (drop (number_at w16 10 bytes) behind)
    (sym (take-append-drop (number_at w16 10 bytes) behind)) in
    starts_append bytes (front_of s) s.name ∙ (λ i. starts_with nat_eq bytes (front_of s) && name i)
    ∙ and_true (starts_with nat_eq bytes (front_of s))
  where
    and_true : (b : Bool) → (b && true) ≡ b
    and_true true = refl
    and_true false = refl

pub symbol_in-short : (before : List Symbol) (bytes : List ℕ) → length bytes < 12
    → symbol_in before bytes ≡ None
unfolding symbol_in
symbol_in-short before bytes few =
    if_spelled-short spell_saved_symbol (is_good_symbol before (symbol_at bytes)) (symbol_at bytes)
    bytes (omega (arith, few, length-symbol (symbol_at bytes)))

-- whether a symbol begins the bytes
abbrev pub is_symbol : List Symbol → List ℕ → Bool
is_symbol before bytes = is_good_symbol before (symbol_at bytes)
    && starts_with nat_eq bytes (spell_saved_symbol (symbol_at bytes))

pub symbol_there : (before : List Symbol) (bytes : List ℕ) → is_symbol before bytes ≡ true
    → symbol_in before bytes ≡ Some (symbol_at bytes)
unfolding symbol_in
symbol_there before bytes is = ap (λ b. if b then Some (symbol_at bytes) else None) is

pub no_symbol : (before : List Symbol) (bytes : List ℕ) → is_symbol before bytes ≡ false
    → symbol_in before bytes ≡ None
unfolding symbol_in
no_symbol before bytes is = ap (λ b. if b then Some (symbol_at bytes) else None) is

-- ---- a symbol that is read

pub symbol_is : (before : List Symbol) (bytes : List ℕ) (s : Symbol)
    → symbol_in before bytes ≡ Some s
    → IsUnit spell_saved_symbol (is_good_symbol before) bytes s × (symbol_at bytes ≡ s)
unfolding symbol_in
symbol_is before bytes s is = (
  unit_is spell_saved_symbol (is_good_symbol before) (symbol_at bytes) s bytes is,
  unit_stated spell_saved_symbol (is_good_symbol before (symbol_at bytes)) (symbol_at bytes) s bytes
      is,
)

-- the rules of a symbol, one by one
pub record KeepsRules (before : List Symbol) (s : Symbol) : Type 0 where
  pub some : nat_le 1 s.size ≡ true
  pub short : length s.name ≤ longest_name
  pub no_zero : list_any (nat_eq 0) s.name ≡ false
  pub room : list_any (is_in_place_of s) before ≡ false

pub rules_of : (before : List Symbol) (s : Symbol) → is_good_symbol before s ≡ true
    → KeepsRules before s
rules_of before s good =
    let outer = and_parts _ (not (list_any (is_in_place_of s) before)) good in
    let inner = and_parts (nat_le 1 s.size) (is_good_name s.name) outer.0 in
    let name = and_parts (nat_le (length s.name) longest_name) (not (list_any (nat_eq 0) s.name))
    inner.1 in
    record {
      some = inner.0;
      short = leb-true (length s.name) longest_name name.0;
      no_zero = not-true (list_any (nat_eq 0) s.name) name.1;
      room = not-true (list_any (is_in_place_of s) before) outer.1;
    }

not_zero : (n : ℕ) → eqb 0 n ≡ false → n ≢ 0
not_zero n h e = grind (arith, nat_tests)

fits_symbol : (before : List Symbol) (bytes : List ℕ) → All IsByte bytes
    → is_good_symbol before (symbol_at bytes) ≡ true → IsSavedSymbol (symbol_at bytes)
unfolding symbol_at
fits_symbol before bytes fits good =
    let s = symbol_at bytes in
    let rules = rules_of before s good in
    let is = bytes_of bytes fits in
    record {
      addr_in_range = below_32 bytes 2 is;
      size_in_range = below_32 bytes 6 is;
      some = leb-true 1 s.size rules.some;
      short = rules.short;
      bytes = All-take IsByte (number_at w16 10 bytes) (drop 12 bytes)
          (All-drop IsByte 12 bytes fits);
      no_zero = λ k d within. not_zero (get_or s.name k d)
          (none_passes (nat_eq 0) s.name rules.no_zero k d within);
    }

pub symbol_follows : (before : List Symbol) (bytes : List ℕ) (s : Symbol) → All IsByte bytes
    → symbol_in before bytes ≡ Some s → MayFollow IsSavedSymbol is_taken before s
symbol_follows before bytes s fits is =
    let unit = symbol_is before bytes s is in (
      subst IsSavedSymbol unit.1 (fits_symbol before bytes fits
          (subst (λ (x : Symbol). is_good_symbol before x ≡ true) (sym unit.1) unit.0.is_good)),
      (rules_of before s unit.0.is_good).room,
    )

-- ---- a symbol that is spelled

good_again : (before : List Symbol) (s : Symbol) → MayFollow IsSavedSymbol is_taken before s
    → is_good_symbol before s ≡ true
good_again before s may =
    let good = may.0 in
    let no_zero : list_any (nat_eq 0) s.name ≡ false =
    list_any_none (nat_eq 0) s.name (λ k d within. other (get_or s.name k d)
    (good.no_zero k d within)) in
    let apart : not (list_any (nat_eq 0) s.name) ≡ true = rw no_zero refl in
    let room : not (list_any (is_in_place_of s) before) ≡ true = rw may.1 refl in
    and_from _ _ (and_from _ _ (le-leb 1 s.size good.some)
    (and_from _ _ (le-leb (length s.name) longest_name good.short) apart)) room
  where
    other : (n : ℕ) → n ≢ 0 → eqb 0 n ≡ false
    other n some = grind (arith, nat_tests)

kind_again : (kind : SymbolKind) → unwrap_or (symbol_kind_of (kind_number kind)) Object ≡ kind
kind_again Object = refl
kind_again Function = refl

-- its fields give it back
of_fields : (s : Symbol) (more : List ℕ) → IsSavedSymbol s
    → symbol_at (spell_saved_symbol s ++ more) ≡ s
unfolding symbol_at spell_symbol
of_fields s more good =
    let kind = kind_again s.kind in
    let addr = from_le_bytes-to_le_bytes_4 s.addr good.addr_in_range in
    let size = from_le_bytes-to_le_bytes_4 s.size good.size_in_range in
    let name = ap (λ (n : ℕ). take n (s.name ++ more))
    (from_le_bytes-to_le_bytes_2 (length s.name) (omega (arith, good.short)))
    ∙ take-append_seam s.name more in
    λ i. record { kind = kind i; addr = addr i; size = size i; name = name i }

pub symbol_again : (before : List Symbol) (s : Symbol) (more : List ℕ)
    → MayFollow IsSavedSymbol is_taken before s
    → symbol_in before (spell_saved_symbol s ++ more) ≡ Some s
unfolding symbol_in
symbol_again before s more may =
    spelled_again spell_saved_symbol (is_good_symbol before)
    (symbol_at (spell_saved_symbol s ++ more)) s more (of_fields s more may.0)
    (good_again before s may)
