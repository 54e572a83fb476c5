-- A file that begins behind others.
use Rattle.std.proofs.Common.{◌≡◌, ◌≢◌, ℕ, List, [], ◌∷◌, ◌++◌, length, refl, sym, ap, ◌∙◌, subst}
use Rattle.std.proofs.lemmas.List.{append-nil, length-map}
use Rattle.shelf.specs.Shelf.{Outside}
use Rattle.shelf.specs.Files.{GoOn, Output}
use Rattle.shelf.specs.OneFile.{Waiting}
use Rattle.shelf.specs.OnTheirWay.{IsNew, IsOutputs, names_of, outputs_with}
use Rattle.shelf.specs.Laws.Files.{sunk_names}
use Rattle.trace_format.specs.declared.record.Header.{Header}
use Rattle.trace_format.specs.declared.record.Version.{Version}
use Rattle.trace_format.specs.Spelling.{spell_header}
use Rattle.trace_format.specs.Writing.{begun_with}

put_last : (outputs : List Output) (name bytes : List ℕ)
    → outputs_with (outputs ++ record { name = name; bytes = [] } ∷ []) (length outputs) bytes
    ≡ outputs ++ record { name = name; bytes = bytes } ∷ []
put_last [] name bytes = refl
put_last (o ∷ outputs) name bytes = ap (λ (l : List Output). o ∷ l) (put_last outputs name bytes)

-- the last file, once a header was put into it
pub header_last : (outputs : List Output) (name : List ℕ) (v : Version) (h : Header) (place : ℕ)
    → length outputs ≡ place
    → outputs_with (outputs ++ record { name = name; bytes = [] } ∷ []) place (spell_header v h)
    ≡ outputs ++ record { name = name; bytes = begun_with v h [] } ∷ []
header_last outputs name v h place is =
    ap (λ (k : ℕ). outputs_with (outputs ++ record { name = name; bytes = [] } ∷ []) k
    (spell_header v h)) (sym is)
    ∙ put_last outputs name (spell_header v h)
    ∙ ap (λ (l : List ℕ). outputs ++ record { name = name; bytes = l } ∷ [])
    (sym (append-nil (spell_header v h)))

-- there are as many outputs as files
pub as_many : (files : List Waiting) (outputs : List Output) (before now : Outside)
    → IsOutputs files outputs before now
    → length outputs ≡ length files
as_many files outputs before now on =
    sym (length-map outputs (λ o. o.name)) ∙ ap length (sunk_names files outputs now on.sunk)
    ∙ length-map files (λ f. f.name)

-- more files come behind some
pub go_behind : (outputs more : List Output) → GoOn outputs (outputs ++ more)
go_behind [] more = tt
go_behind (o ∷ outputs) more = (refl, ([], sym (append-nil o.bytes)), go_behind outputs more)

-- a second name is new
pub second_new : (files : List Waiting) (first second bytes : List ℕ) (before now : Outside)
    → IsOutputs files (record { name = first; bytes = bytes } ∷ []) before now → first ≢ second
    → IsNew second (names_of files)
second_new files first second bytes before now on apart =
    subst (IsNew second) (sunk_names files (record { name = first; bytes = bytes } ∷ []) now
    on.sunk) (apart, tt)
