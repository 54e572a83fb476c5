-- Lists of named files: the first file of a name, a write to it, and a new name behind all.
use Rattle.std.proofs.Common.{◌≡◌, ◌≢◌, ◌≤◌, ℕ, List, [], ◌∷◌, ◌++◌, length, Option, Some, None}
use Rattle.std.proofs.Common.{Bool, true, false, arith, sym, ◌∙◌, ap}
use Rattle.std.proofs.Common.{get_or, set, string_bytes, slice_get, find, position, refl, IsSome}
use Rattle.std.proofs.Common.{Result, Ok, Err, OnErr}
use Rattle.std.proofs.lemmas.Grind.{common_steps}
use Rattle.std.proofs.lemmas.List.Folds.{find_at, find-set, find_past, find-append}
use Rattle.std.proofs.lemmas.List.Quantifiers.{position-Some}
use Rattle.std.proofs.lemmas.List.Sums.{position_or_len_is}
use Rattle.std.proofs.lemmas.Slice.Eq.{bytes_eq-Decides}
use Rattle.std.proofs.lemmas.Bool.{false_from_ne_true}
use Rattle.std.proofs.lemmas.Option.{slice_get-get_or, slice_get_past}
use Rattle.std.specs.List.{position_or_len}
use Rattle.std.specs.Option.{option_or, option_map}
use Rattle.std.specs.Prelude.{unwrap_or}
use Rattle.std.specs.Str.{bytes_eq}
use Rattle.std.specs.Io.KnownBytes.{Appends}
use Rattle.shelf.specs.Shelf.{content, ChangesAt}
use Rattle.shelf.specs.HeldFile.{is_named, file_of}
use Rattle.shelf.specs.declared.files.HeldFile.{HeldFile}

-- the first file of a name stands at this place
pub record IsFirst (name : List ℕ) (files : List HeldFile) (i : ℕ) (file : HeldFile) : Type 0 where
  pub place : position (is_named name) files ≡ Some i
  pub at : get_or files i file ≡ file

-- no file has the name
abbrev pub IsAbsent : List ℕ → List HeldFile → Type 0
IsAbsent name files = (i : ℕ) → position (is_named name) files ≡ Some i → ⊥

-- a file with one name has no other
other_name : (file : HeldFile) (name n : List ℕ) → is_named name file ≡ true → n ≢ name
    → is_named n file ≡ false
other_name file name n named differs =
    let is_name : string_bytes file.name ≡ name = (bytes_eq-Decides (string_bytes file.name) name).0
    named in
    false_from_ne_true _ (λ also. differs
    (sym ((bytes_eq-Decides (string_bytes file.name) n).0 also) ∙ is_name))

place_is : (p : HeldFile → Bool) (xs : List HeldFile) (i : ℕ) (d : HeldFile) → position p xs
    ≡ Some i → i ≡ position_or_len p xs
place_is p xs i d e =
    let found = position-Some p xs i d e in
    sym (position_or_len_is p xs i d (omega (arith, found.0)) found.2 (λ _. found.1))

-- What stands under a name before and after a write to its first file.

pub was_here : (name : List ℕ) (files : List HeldFile) (i : ℕ) (old : HeldFile)
    → IsFirst name files i old
    → file_of files name ≡ Some old.content.items
was_here name files i old first =
    let found = position-Some (is_named name) files i old first.place in
    let place : slice_get files (position_or_len (is_named name) files) ≡ slice_get files i =
    ap (λ k. slice_get files k) (sym (place_is (is_named name) files i old first.place)) in
    let here : find (is_named name) files ≡ Some old =
    find_at (is_named name) files ∙ place ∙ slice_get-get_or files i old found.0
    ∙ ap (λ x. Some x) first.at in
    rw here refl

-- the bytes under a name are those of its first file
pub content_here : (name : List ℕ) (files : List HeldFile) (i : ℕ) (file : HeldFile)
    (bytes : List ℕ) → IsFirst name files i file
    → bytes ≡ file.content.items → bytes ≡ content (file_of files) name
content_here name files i file bytes first same =
    same ∙ sym (ap (λ o. unwrap_or o []) (was_here name files i file first))

written_here : (name : List ℕ) (files : List HeldFile) (i : ℕ) (old new : HeldFile)
    → IsFirst name files i old → new.name ≡ old.name
    → file_of (set files i new) name ≡ Some new.content.items
written_here name files i old new first same =
    let found = position-Some (is_named name) files i old first.place in
    let named : is_named name new ≡ true = cc (found.1, first.at, same) in
    let is = find-set (is_named name) files i new (place_is (is_named name) files i old first.place)
    found.0 named in
    rw is refl

written_other : (name : List ℕ) (files : List HeldFile) (i : ℕ) (old new : HeldFile)
    → IsFirst name files i old → new.name ≡ old.name
    → (n : List ℕ) → n ≢ name → file_of (set files i new) n ≡ file_of files n
written_other name files i old new first same n differs =
    let found = position-Some (is_named name) files i old first.place in
    let named : is_named name old ≡ true = cc (found.1, first.at) in
    let not_old : is_named n old ≡ false = other_name old name n named differs in
    let is = find_past (is_named n) files i new old (cc (not_old, first.at)) (cc (not_old, same)) in
    rw is refl

pub emptied : (name : List ℕ) (files : List HeldFile) (i : ℕ) (old new : HeldFile)
    → IsFirst name files i old → new.name ≡ old.name
    → new.content.items ≡ []
    → ChangesAt name (λ before now. now ≡ Some []) (file_of files) (file_of (set files i new))
emptied name files i old new first same empty =
    record {
      here = written_here name files i old new first same ∙ ap (λ x. Some x) empty;
      others = written_other name files i old new first same;
    }

grows : (before now : Option (List ℕ)) (old piece : List ℕ) → before ≡ Some old → now
    ≡ Some (old ++ piece) → Appends before now piece
grows None now old piece e f = tt
grows (Some x) None old piece e f = cc
grows (Some x) (Some y) old piece e f = cc

pub appended : (name : List ℕ) (files : List HeldFile) (i : ℕ) (old new : HeldFile) (piece : List ℕ)
    → IsFirst name files i old
    → new.name ≡ old.name → new.content.items ≡ old.content.items ++ piece
    → ChangesAt name (λ before now. Appends before now piece) (file_of files)
    (file_of (set files i new))
appended name files i old new piece first same grown =
    let now : file_of (set files i new) name ≡ Some (old.content.items ++ piece) =
    written_here name files i old new first same ∙ ap (λ x. Some x) grown in
    record {
      here = grows (file_of files name) (file_of (set files i new) name) old.content.items piece
          (was_here name files i old first) now;
      others = written_other name files i old new first same;
    }

-- a write that changes no bytes changes no file
pub same_bytes : (name : List ℕ) (files : List HeldFile) (i : ℕ) (old new : HeldFile)
    → IsFirst name files i old
    → new.name ≡ old.name → new.content.items ≡ old.content.items
    → (n : List ℕ) → file_of (set files i new) n ≡ file_of files n
same_bytes name files i old new first same kept n =
    elim (bytes_eq n name) as (λ b. bytes_eq n name ≡ b → file_of (set files i new) n
    ≡ file_of files n) [
      | true ↦ λ is. let here : n ≡ name = (bytes_eq-Decides n name).0 is in
          rw here (written_here name files i old new first same ∙ ap (λ x. Some x) kept
          ∙ sym (was_here name files i old first))
      | false ↦ λ is. written_other name files i old new first same n
          (λ here. cc (is, (bytes_eq-Decides n name).1 here))
    ] refl

-- A name without a file, and a file behind all.

past_all : (p : HeldFile → Bool) (xs : List HeldFile) (r : Option ℕ) → position p xs ≡ r
    → ((i : ℕ) → position p xs ≡ Some i → ⊥) → length xs ≤ position_or_len p xs
past_all p xs None e none = grind (arith, common_steps)
past_all p xs (Some i) e none = absurd (none i e)

none_named : (name : List ℕ) (files : List HeldFile) → IsAbsent name files
    → find (is_named name) files ≡ None
none_named name files absent =
    let past : length files ≤ position_or_len (is_named name) files =
    past_all (is_named name) files (position (is_named name) files) refl absent in
    find_at (is_named name) files ∙ slice_get_past files (position_or_len (is_named name) files)
    past

pub none_file : (name : List ℕ) (files : List HeldFile) → IsAbsent name files → file_of files name
    ≡ None
none_file name files absent = rw (none_named name files absent) refl

pub no_file : (name : List ℕ) (files : List HeldFile) → IsAbsent name files
    → IsSome (file_of files name) → ⊥
no_file name files absent some =
    let is : file_of files name ≡ None = none_file name files absent in
    cc (is, some)

or_none : (o : Option HeldFile) → option_map {T = HeldFile} {U = List ℕ}
    (λ file. file.content.items) (option_or o None)
    ≡ option_map {T = HeldFile} {U = List ℕ} (λ file. file.content.items) o
or_none None = refl
or_none (Some x) = refl

-- an empty file is added behind all
pub pushed : (name : List ℕ) (files : List HeldFile) (new : HeldFile) → IsAbsent name files
    → string_bytes new.name ≡ name
    → new.content.items ≡ []
    → ChangesAt name (λ before now. now ≡ Some []) (file_of files) (file_of (files ++ new ∷ []))
pushed name files new absent named empty =
    let none : find (is_named name) files ≡ None = none_named name files absent in
    let is_new : is_named name new ≡ true = (bytes_eq-Decides (string_bytes new.name) name).1 named
    in
    record {
      here = rw (find-append (is_named name) files (new ∷ []), none, is_new)
          (ap (λ x. Some x) empty);
      others = λ n differs.
          let is_other : is_named n new ≡ false = other_name new name n is_new differs in
          rw (find-append (is_named n) files (new ∷ []), is_other)
          (or_none (find (is_named n) files));
    }

-- what holds holds at an error
pub on_err : {T E P : Type 0} (r : Result T E) → P → OnErr r P
on_err (Ok x) p = tt
on_err (Err e) p = p
