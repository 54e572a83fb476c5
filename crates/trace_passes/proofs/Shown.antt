-- What reads have given of a name, once a piece more is read.
use Rattle.std.proofs.Common.{◌≡◌, ◌≢◌, ◌<◌, ◌≤◌, ℕ, List, [], ◌∷◌, ◌++◌, length, take}
use Rattle.std.proofs.Common.{sym, ap, ◌∙◌, arith}
use Rattle.std.proofs.lemmas.List.{length-take-le}
use Rattle.shelf.specs.Agreeing.{HasReadFront, HasShown}
use Rattle.shelf.specs.Laws.Agreeing.{front_ends, front_next}
use Rattle.shelf.specs.Shelf.{Given, read_of}

-- a read that was answered Ok has given so many bytes
abbrev pub GaveSome : List ℕ → ℕ → List ℕ → List Given → List Given → ℕ → Type 0
GaveSome name at piece before now n =
    (room : ℕ) × (0 < room) × (now ≡ read_of name at room (take n piece) ∷ before)

-- a piece more
pub read_more : (name bytes into : List ℕ) (at n : ℕ) (before old new : List Given)
    → length bytes ≡ at → n ≤ length into → n ≢ 0 → GaveSome name at into old new n
    → HasReadFront name bytes before old → HasReadFront name (bytes ++ take n into) before new
read_more name bytes into at n before old new size fits some gave front =
    let piece = take n into in
    front_next name bytes piece gave.0 before old new
    (omega (arith, some, length-take-le n into fits))
    (gave.2 ∙ ap (λ (k : ℕ). read_of name k gave.0 piece ∷ old) (sym size)) front

-- none: those so far are all
pub read_none : (name bytes into : List ℕ) (at n : ℕ) (before old new : List Given)
    → length bytes ≡ at → n ≡ 0 → GaveSome name at into old new n
    → HasReadFront name bytes before old → HasShown name (λ file. bytes ≡ file) before new
read_none name bytes into at n before old new size none gave front =
    let no_bytes : take n into ≡ [] = ap (λ k. take k into) none in
    front_ends name bytes gave.0 before old new gave.1
    (gave.2 ∙ ap (λ (l : List ℕ). read_of name at gave.0 l ∷ old) no_bytes
    ∙ ap (λ (k : ℕ). read_of name k gave.0 [] ∷ old) (sym size)) front
