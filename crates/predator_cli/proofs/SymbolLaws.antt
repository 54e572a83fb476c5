-- The symbols of a program file that are kept have bytes and a name without zero bytes, and there
-- are few of them.
use Rattle.std.proofs.Common.{◌≡◌, ◌≢◌, ℕ, zero, suc, ◌+◌, ◌/◌, ◌^◌, ◌≤◌, ◌==◌, Bool, true, ◌&&◌}
use Rattle.std.proofs.Common.{not, nat_lt, if◌then◌else◌, append_assoc}
use Rattle.std.proofs.Common.{◌++◌, List, [], ◌∷◌, length, map, take, drop, find, slice_get, ◌%◌}
use Rattle.std.proofs.Common.{Option, Some, None, refl, sym, ap, subst}
use Rattle.std.proofs.Common.{◌∙◌, inl, inr, arith}
use Rattle.std.proofs.lemmas.Bool.{cases_Bool, and_parts, leb-true, ltb-true}
use Rattle.std.proofs.lemmas.List.{length-map}
use Rattle.std.proofs.lemmas.List.Elements.{All-cons, All-nil, All-weaker}
use Rattle.std.specs.List.{All, cons_option, filter_map, prefix_len, take_while}
use Rattle.std.specs.Option.{option_and_then, option_map, option_map_or}
use Rattle.std.specs.Simd.{first_chunks}
use Rattle.objects.specs.declared.symbol.SymbolKind.{SymbolKind}
use Rattle.objects.specs.Symbols.{Symbol}
use Rattle.program_files.specs.Fields.{lies_in, rows}
use Rattle.program_files.specs.Symbols.{SymbolTable, is_symbols, is_table, kind_of, name_at}
use Rattle.program_files.specs.Symbols.{names_in, section_headers, symbol_entry}
use Rattle.program_files.specs.Symbols.{symbol_in, symbol_table, symbols_of, table_in}
use Rattle.trace_format.specs.declared.record.TraceRecord.{TraceRecord}
use Rattle.predator_cli.specs.Run.{HasNameAndSize, symbol_record}

-- ---- each of them

not_zero : (b : ℕ) → not (b == 0) ≡ true → b ≢ 0
not_zero zero is = cc
not_zero (suc b) is = λ e. cc

front_passes : (p : ℕ → Bool) (xs : List ℕ) → All (λ b. p b ≡ true) (take_while p xs)
front_passes p [] = All-nil (λ b. p b ≡ true)
front_passes p (x ∷ xs) = elim (cases_Bool (p x)) [
  | inl is ↦
      let k : ℕ = prefix_len p xs in
      let longer : suc k ≡ 1 + k = omega arith in
      let front : All (λ b. p b ≡ true) (take (1 + k) (x ∷ xs)) =
      subst (λ (n : ℕ). All (λ b. p b ≡ true) (take n (x ∷ xs))) longer
      (All-cons (λ b. p b ≡ true) x (take k xs) is (front_passes p xs)) in
      rw is front
  | inr is ↦ rw is (All-nil (λ b. p b ≡ true))
]

no_zero : (names : List ℕ) (place : ℕ) → All (λ b. b ≢ 0) (name_at names place)
no_zero names place =
    All-weaker (λ b. not (b == 0) ≡ true) (λ b. b ≢ 0) not_zero (name_at names place)
    (front_passes (λ b. not (b == 0)) (drop place names))

-- the symbol that an entry of a kind is
abbrev entry_symbol : List ℕ → ℕ → ℕ → ℕ → SymbolKind → Symbol
entry_symbol names addr size place kind =
    record { kind = kind; addr = addr; size = size; name = name_at names place }

some_size : (section size : ℕ) → (not (section == 0) && nat_lt 0 size) ≡ true → 1 ≤ size
some_size section size is =
    let sized : nat_lt 0 size ≡ true = (and_parts (not (section == 0)) (nat_lt 0 size) is).1 in
    omega (arith, ltb-true 0 size sized)

found_good : (names : List ℕ) (addr size place : ℕ) (kind : Option SymbolKind)
    (symbols : List Symbol) → 1 ≤ size
    → All HasNameAndSize symbols → All HasNameAndSize
    (cons_option (option_map (entry_symbol names addr size place) kind) symbols)
found_good names addr size place None symbols some all = all
found_good names addr size place (Some kind) symbols some all =
    All-cons HasNameAndSize (entry_symbol names addr size place kind) symbols
    (record { some = some; no_zero = no_zero names place }) all

one_good : (names : List ℕ) (addr size place section info : ℕ) (symbols : List Symbol)
    → All HasNameAndSize symbols
    → All HasNameAndSize (cons_option (option_map (entry_symbol names addr size place)
    (if not (section == 0) && nat_lt 0 size then kind_of info else None)) symbols)
one_good names addr size place section info symbols all =
    elim (cases_Bool (not (section == 0) && nat_lt 0 size)) [
      | inl is ↦ rw is (found_good names addr size place (kind_of info) symbols
          (some_size section size is) all)
      | inr is ↦ rw is all
    ]

table_good : (names : List ℕ) (entries : List _)
    → All HasNameAndSize (filter_map (symbol_in names) entries)
table_good names [] = All-nil HasNameAndSize
table_good names (s ∷ entries) =
    one_good names s.addr s.size s.name s.section s.info (filter_map (symbol_in names) entries)
    (table_good names entries)

good_in : (table : Option SymbolTable)
    → All HasNameAndSize (option_map_or (λ t. filter_map (symbol_in t.names) t.symbols) table [])
good_in None = All-nil HasNameAndSize
good_in (Some t) = table_good t.names t.symbols

pub symbols_good : (file : List ℕ) → All HasNameAndSize (symbols_of file)
symbols_good file = good_in (symbol_table file)

-- ---- how many there are

shorter : (o : Option Symbol) (symbols : List Symbol) → length (cons_option o symbols) ≤ suc
    (length symbols)
shorter None symbols = omega arith
shorter (Some s) symbols = omega arith

table_short : (names : List ℕ) (entries : List _)
    → length (filter_map (symbol_in names) entries) ≤ length entries
table_short names [] = omega arith
table_short names (s ∷ entries) = omega (
  arith,
  shorter (symbol_in names s) (filter_map (symbol_in names) entries),
  table_short names entries,
)

chunks_counted : (n k : ℕ) (xs : List ℕ) → length (first_chunks n k xs) ≡ k
chunks_counted n zero xs = refl
chunks_counted n (suc k) xs = ap suc (chunks_counted n k (drop n xs))

-- a table of rows that lies in the file is no longer than a sixteenth of it
row_count : (file : List ℕ) (s : _) → is_table file s ≡ true → length file ≤ 2 ^ 24
    → s.size / 16 ≤ 2 ^ 20
row_count file s is short =
    let aligned = and_parts (s.entry_size == 16)
    ((s.size % 16 == 0) && lies_in file s.offset s.size) is in
    let inside : lies_in file s.offset s.size
    ≡ true = (and_parts (s.size % 16 == 0) (lies_in file s.offset s.size) aligned.1).1 in
    omega (arith, leb-true (s.offset + s.size) (length file) inside, short)

few_of : (file : List ℕ) (size offset : ℕ) (names : Option (List ℕ)) → size / 16 ≤ 2 ^ 20
    → length (option_map_or (λ t. filter_map (symbol_in t.names) t.symbols)
    (option_map (λ n. let t : SymbolTable =
    record { symbols = map symbol_entry (rows 16 (size / 16) offset file); names = n } in t)
    names) []) ≤ 2 ^ 20
few_of file size offset None few = omega arith
few_of file size offset (Some n) few =
    let entries = map symbol_entry (rows 16 (size / 16) offset file) in
    let count : length entries ≡ size / 16 =
    length-map (rows 16 (size / 16) offset file) symbol_entry ∙ chunks_counted 16 (size / 16)
    (drop offset file) in
    omega (arith, table_short n entries, count, few)

few_in : (file : List ℕ) (section : Option _) → length file ≤ 2 ^ 24
    → length (option_map_or (λ t. filter_map (symbol_in t.names) t.symbols)
    (option_map_or (table_in file) section (Some (record { symbols = []; names = [] }))) []) ≤ 2 ^
    20
few_in file None short = omega arith
few_in file (Some s) short = elim (cases_Bool (is_table file s)) [
  | inl is ↦ rw is (few_of file s.size s.offset
      (option_and_then (names_in file) (slice_get (section_headers file) s.link))
      (row_count file s is short))
  | inr is ↦ rw is (omega arith)
]

pub symbols_few : (file : List ℕ) → length file ≤ 2 ^ 24 → length (symbols_of file) ≤ 2 ^ 20
symbols_few file short = few_in file (find is_symbols (section_headers file)) short

-- ---- their records

-- one symbol more is recorded
pub listed_more : (before after : List TraceRecord) (stated : TraceRecord) (symbols next : List Symbol)
    (s : Symbol) (all : List TraceRecord)
    → after ≡ before ++ stated ∷ [] → stated ≡ symbol_record s → symbols ≡ s ∷ next
    → before ++ map symbol_record symbols ≡ all → after ++ map symbol_record next ≡ all
listed_more before after stated symbols next s all pushed is first so =
    ap (λ (l : List TraceRecord). l ++ map symbol_record next) pushed
    ∙ append_assoc before (stated ∷ []) (map symbol_record next)
    ∙ ap (λ (r : TraceRecord). before ++ r ∷ map symbol_record next) is
    ∙ ap (λ (l : List Symbol). before ++ map symbol_record l) (sym first) ∙ so
