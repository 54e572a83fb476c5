-- What was written to a file stays where more is written.
use Rattle.std.proofs.Common.{◌≡◌, ℕ, List, [], ◌++◌, take, Option, Some, None, true, false}
use Rattle.std.proofs.Common.{◌∙◌, ap, append_assoc, refl, sym, ◌⊎◌, inl, inr, true≢false}
use Rattle.std.proofs.lemmas.Bool.{cases_Bool}
use Rattle.std.proofs.lemmas.List.{append-nil}
use Rattle.std.proofs.lemmas.Slice.Eq.{bytes_eq-Decides}
use Rattle.std.specs.Io.KnownBytes.{Appends}
use Rattle.std.specs.Str.{bytes_eq}
use Rattle.shelf.specs.Laws.Files.{goes_then}
use Rattle.shelf.specs.Laws.Known.{goes_map, goes_same}
use Rattle.shelf.specs.OneFile.{GoesOn, LosesNothing}
use Rattle.shelf.specs.Shelf.{AppendsPrefix, ChangesAt, Files, Goes, Outside}

equal : (before now : Option (List ℕ)) → now ≡ before → GoesOn before now
equal None now same = tt
equal (Some bytes) now same = ([], same ∙ ap (λ (b : List ℕ). Some b) (sym (append-nil bytes)))

longer : (before now : Option (List ℕ)) (piece : List ℕ) → Appends before now piece
    → GoesOn before now
longer None now piece added = tt
longer (Some bytes) None piece added = absurd added
longer (Some bytes) (Some more) piece added = (piece, ap (λ (b : List ℕ). Some b) added)

further : (a b c : Option (List ℕ)) → GoesOn a b → GoesOn b c → GoesOn a c
further None b c first then = tt
further (Some bytes) None c first then = cc (first.1)
further (Some bytes) (Some more) c first then =
    let same : more ≡ bytes ++ first.0 = cc (first.1) in (
      first.0 ++ then.0,
      then.1 ∙ ap (λ (b : List ℕ). Some b)
          (ap (λ (b : List ℕ). b ++ then.0) same ∙ append_assoc bytes first.0 then.0),
    )

changed : (name piece : List ℕ) (before now : Files)
    → ChangesAt name (λ old new. Appends old new piece) before now
    → (n : List ℕ) → GoesOn (before n) (now n)
changed name piece before now changes n = by_name (cases_Bool (bytes_eq n name))
  where
    by_name : (bytes_eq n name ≡ true) ⊎ (bytes_eq n name ≡ false) → GoesOn (before n) (now n)
    by_name (inl same) =
        let is : n ≡ name = (bytes_eq-Decides n name).0 same in
        rw is (longer (before name) (now name) piece changes.here)
    by_name (inr differs) = equal (before n) (now n) (changes.others n
        (λ same. true≢false (sym ((bytes_eq-Decides n name).1 same) ∙ differs)))

pub stays_same : (a : Outside) → LosesNothing a a
stays_same a = goes_same (λ before now. (name : List ℕ) → GoesOn (before name) (now name)) a.written
    (λ files name. equal (files name) (files name) refl)

pub stays_then : (a b c : Outside) → LosesNothing a b → LosesNothing b c → LosesNothing a c
stays_then a b c first then =
    let P : Files → Files → Type 0 = λ before now. (name : List ℕ) → GoesOn (before name) (now name) in
    goes_then P P P a.written b.written c.written
    (λ x y z f g name. further (x name) (y name) (z name) (f name) (g name)) first then

pub stays_added : (name piece : List ℕ) (a b : Outside)
    → Goes a.written b.written (ChangesAt name (λ old new. Appends old new piece))
    → LosesNothing a b
stays_added name piece a b goes =
    goes_map a.written b.written (λ before now. changed name piece before now) goes

pub stays_cut : (name piece : List ℕ) (a b : Outside)
    → Goes a.written b.written (ChangesAt name (λ old new. AppendsPrefix old new piece))
    → LosesNothing a b
stays_cut name piece a b goes =
    goes_map a.written b.written
    (λ before now changes. changed name (take changes.here.0 piece) before now
    (record { here = changes.here.1; others = changes.others })) goes
