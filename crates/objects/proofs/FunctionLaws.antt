-- The first function of some symbols that are taken one after another.
use Rattle.std.proofs.Common.{◌≡◌, ℕ, ◌+◌, ◌<◌, true, false, List, [], ◌∷◌, ◌++◌, get_or, length}
use Rattle.std.proofs.Common.{take, drop, Option, None, Some, is_some, refl, sym, ap, ◌∙◌, inl, inr}
use Rattle.std.proofs.Common.{◌≤◌, ◌&&◌, arith, filter, leb, ltb}
use Rattle.objects.specs.declared.symbol.SymbolKind.TheVariants.{Function}
use Rattle.std.specs.Prelude.{max, min, filter_map, option_map, option_to_list, slice_get}
use Rattle.std.specs.List.{cons_option}
use Rattle.std.proofs.lemmas.Bool.{and_parts, cases_Bool, leb-true, lt-ltb, ltb-true}
use Rattle.std.proofs.lemmas.List.{take-append-drop, take_more}
use Rattle.std.proofs.lemmas.List.Elements.{filter_map-append}
use Rattle.objects.specs.AddressTrees.{meets}
use Rattle.objects.specs.Laws.Found.{find_within}
use Rattle.objects.specs.Symbols.{Symbol, function_at, is_function_at, is_same_kind}

behind : (pc : ℕ) (xs ys : List Symbol) → function_at xs pc ≡ None
    → function_at (xs ++ ys) pc ≡ function_at ys pc
behind pc [] ys none = refl
behind pc (x ∷ xs) ys none =
    elim (cases_Bool (is_function_at pc x)) [
      | inl holds ↦ let some : Some x.name ≡ None = rw holds at none in absurd cc
      | inr apart ↦ rw apart (behind pc xs ys (rw apart at none))
    ]

stays : (pc : ℕ) (xs ys : List Symbol) (name : List ℕ) → function_at xs pc ≡ Some name
    → function_at (xs ++ ys) pc ≡ Some name
stays pc [] ys name is = absurd cc
stays pc (x ∷ xs) ys name is =
    elim (cases_Bool (is_function_at pc x)) [
      | inl holds ↦ rw holds (rw holds at is)
      | inr apart ↦ rw apart (stays pc xs ys name (rw apart at is))
    ]

listed : {X : Type 0} (o : Option X) → cons_option o [] ≡ option_to_list o
listed None = refl
listed (Some x) = refl

-- one symbol more, where none so far is such a function
pub function_more : (pc : ℕ) (symbols : List Symbol) (ns : List ℕ) (i d : ℕ) (o : Option Symbol)
    → i < length ns → o ≡ slice_get symbols (get_or ns i d)
    → function_at (filter_map (slice_get symbols) (take i ns)) pc ≡ None
    → function_at (filter_map (slice_get symbols) (take (i + 1) ns)) pc
    ≡ function_at (option_to_list o) pc
function_more pc symbols ns i d o within is none =
    ap (λ ks. function_at (filter_map (slice_get symbols) ks) pc) (take_more ns i d within)
    ∙ ap (λ ss. function_at ss pc)
    (filter_map-append (slice_get symbols) (take i ns) (get_or ns i d ∷ []))
    ∙ behind pc (filter_map (slice_get symbols) (take i ns))
    (filter_map (slice_get symbols) (get_or ns i d ∷ [])) none
    ∙ ap (λ p. function_at (cons_option p []) pc) (sym is)
    ∙ ap (λ ss. function_at ss pc) (listed o)

-- the first that is one stays the first
found : (pc : ℕ) (symbols : List Symbol) (ns : List ℕ) (i d : ℕ) (o : Option Symbol)
    (name : Option (List ℕ)) → i < length ns → o ≡ slice_get symbols (get_or ns i d)
    → function_at (filter_map (slice_get symbols) (take i ns)) pc ≡ None
    → name ≡ function_at (option_to_list o) pc → is_some name ≡ true
    → name ≡ function_at (filter_map (slice_get symbols) ns) pc
found pc symbols ns i d o None within is none there some = absurd cc
found pc symbols ns i d o (Some name) within is none there some =
    let first : function_at (filter_map (slice_get symbols) (take (i + 1) ns)) pc ≡ Some name =
    function_more pc symbols ns i d o within is none ∙ sym there in
    sym (ap (λ ks. function_at (filter_map (slice_get symbols) ks) pc)
    (sym (take-append-drop (i + 1) ns))
    ∙ ap (λ ss. function_at ss pc)
    (filter_map-append (slice_get symbols) (take (i + 1) ns) (drop (i + 1) ns))
    ∙ stays pc (filter_map (slice_get symbols) (take (i + 1) ns))
    (filter_map (slice_get symbols) (drop (i + 1) ns)) name first)

some_name : {X Y : Type 0} (f : X → Y) (o : Option X) → is_some (option_map f o) ≡ is_some o
some_name f None = refl
some_name f (Some x) = refl

pub name_found : {X : Type 0} (f : X → List ℕ) (pc : ℕ) (symbols : List Symbol) (ns : List ℕ)
    (i d : ℕ) (o : Option Symbol) (name : Option X) → i < length ns
    → o ≡ slice_get symbols (get_or ns i d)
    → function_at (filter_map (slice_get symbols) (take i ns)) pc ≡ None
    → option_map f name ≡ function_at (option_to_list o) pc → is_some name ≡ true
    → option_map f name ≡ function_at (filter_map (slice_get symbols) ns) pc
name_found f pc symbols ns i d o name within is none there some =
    found pc symbols ns i d o (option_map f name) within is none there (some_name f name ∙ some)

-- no name, so no function
pub name_lost : {X : Type 0} (f : X → List ℕ) (pc : ℕ) (symbols : List Symbol) (ns : List ℕ)
    (i d : ℕ) (o : Option Symbol) (name : Option X) → i < length ns
    → o ≡ slice_get symbols (get_or ns i d)
    → function_at (filter_map (slice_get symbols) (take i ns)) pc ≡ None
    → option_map f name ≡ function_at (option_to_list o) pc → is_some name ≡ false
    → function_at (filter_map (slice_get symbols) (take (i + 1) ns)) pc ≡ None
name_lost f pc symbols ns i d o None within is none there some =
    function_more pc symbols ns i d o within is none ∙ sym there
name_lost f pc symbols ns i d o (Some x) within is none there some = absurd cc

holds_meets : (pc from to : ℕ) (s : Symbol) → from ≡ pc → to ≡ pc + 1 → is_function_at pc s ≡ true
    → meets from to s.addr s.size ≡ true
holds_meets pc from to s is_from is_to holds =
    let parts = and_parts (leb s.addr pc) (ltb pc (s.addr + s.size))
    (and_parts (is_same_kind s.kind Function) (leb s.addr pc && ltb pc (s.addr + s.size)) holds).1
    in
    let begins : s.addr ≤ pc = leb-true s.addr pc parts.0 in
    let ends : pc < s.addr + s.size = ltb-true pc (s.addr + s.size) parts.1 in
    lt-ltb (max from s.addr) (min to (s.addr + s.size))
    (omega (arith, is_from, is_to, begins, ends))

-- the functions that hold an address are among the symbols that meet it
pub near_function : (pc from to : ℕ) (symbols : List Symbol) → from ≡ pc → to ≡ pc + 1
    → function_at (filter (λ s. meets from to s.addr s.size) symbols) pc ≡ function_at symbols pc
near_function pc from to symbols is_from is_to =
    ap (option_map (λ (s : Symbol). s.name))
    (find_within (is_function_at pc) (λ s. meets from to s.addr s.size)
    (λ s holds. holds_meets pc from to s is_from is_to holds) symbols)
