-- What stands in a sink's file where a call gave up.
use Rattle.std.proofs.Common.{◌≡◌, ℕ, ◌+◌, List, ◌++◌, length, take, Option, Some, None, Result, Ok}
use Rattle.std.proofs.Common.{Err, OnErr, ◌∙◌, ap, sym, subst}
use Rattle.std.proofs.Common.{append_assoc}
use Rattle.std.proofs.Math.Seq.{take-append_seam, take-append-add}
use Rattle.std.specs.Io.KnownBytes.{Appends}
use Rattle.shelf.specs.Shelf.{Outside, Files, Known, Goes, ChangesAt, AppendsPrefix}
use Rattle.shelf.specs.OneFile.{Waiting, AddsUp, Sunk, HoldsFront}

-- what holds holds at an error
pub on_err : {T E P : Type 0} (r : Result T E) → P → OnErr r P
on_err (Ok x) p = tt
on_err (Err e) p = p

grown : (old new : Option (List ℕ)) (file piece : List ℕ) → old ≡ Some file → Appends old new piece
    → new ≡ Some (file ++ piece)
grown None new file piece was appends = cc
grown (Some x) None file piece was appends = absurd appends
grown (Some x) (Some y) file piece was appends = cc

part_sent : (sink : Waiting) (pushed : List ℕ) (old new : Option Files)
    → Known old (AddsUp sink pushed)
    → Goes old new (ChangesAt sink.name (λ before now. AppendsPrefix before now sink.kept))
    → Known new (λ files. (k : ℕ) × (files sink.name ≡ Some (take k pushed)))
part_sent sink pushed None None sunk goes = tt
part_sent sink pushed None (Some now) sunk goes = absurd goes
part_sent sink pushed (Some before) None sunk goes = absurd goes
part_sent sink pushed (Some before) (Some now) sunk goes =
    let k : ℕ = goes.here.0 in
    let is : now sink.name ≡ Some (sunk.0 ++ take k sink.kept) =
    grown (before sink.name) (now sink.name) sunk.0 (take k sink.kept) sunk.1 goes.here.1 in
    let front : take (length sunk.0 + k) pushed ≡ sunk.0 ++ take k sink.kept =
    ap (take (length sunk.0 + k)) (sym sunk.2) ∙ take-append-add sunk.0 sink.kept k in
    (length sunk.0 + k, is ∙ ap (λ x. Some x) (sym front))

-- where a prefix of what was kept went to the file
pub front_of_sent : (sink : Waiting) (pushed piece : List ℕ) (old new : Outside) → piece ≡ sink.kept
    → Sunk sink pushed old
    → Goes old.written new.written (ChangesAt sink.name
    (λ before now. AppendsPrefix before now piece))
    → HoldsFront sink.name pushed new
front_of_sent sink pushed piece old new same sunk goes =
    let P : List ℕ → Type 0 = λ bytes.
    Goes old.written new.written (ChangesAt sink.name
    (λ before now. AppendsPrefix before now bytes)) in
    part_sent sink pushed old.written new.written sunk (subst P same goes)

part_put : (sink : Waiting) (pushed bytes : List ℕ) (written : Option Files)
    → Known written (AddsUp sink pushed)
    → Known written (λ files. (k : ℕ) × (files sink.name ≡ Some (take k (pushed ++ bytes))))
part_put sink pushed bytes None sunk = tt
part_put sink pushed bytes (Some files) sunk =
    let joined : pushed ++ bytes ≡ sunk.0 ++ (sink.kept ++ bytes) = ap (λ x. x ++ bytes)
    (sym sunk.2) ∙ append_assoc sunk.0 sink.kept
    bytes in
    let front : take (length sunk.0) (pushed ++ bytes) ≡ sunk.0 =
    ap (take (length sunk.0)) joined ∙ take-append_seam sunk.0 (sink.kept ++ bytes) in
    (length sunk.0, sunk.1 ∙ ap (λ x. Some x) (sym front))

-- where more was to be put
pub front_of_more : (sink : Waiting) (pushed bytes : List ℕ) (outside : Outside)
    → Sunk sink pushed outside
    → HoldsFront sink.name (pushed ++ bytes) outside
front_of_more sink pushed bytes outside sunk = part_put sink pushed bytes outside.written sunk
