-- What is written under a name, if one is given.
use Rattle.std.proofs.Common.{List, ℕ, [], refl}
use Rattle.shelf.specs.Shelf.{Outside}
use Rattle.shelf.specs.declared.shelf.ShelfError.{ShelfError}
use Rattle.shelf.specs.Files.{AreCut, one_file}
use Rattle.shelf.specs.Laws.Files.{AreCut-longer}

-- an empty file is a front of each
pub begun_cut : (name bytes : List ℕ) (a b : Outside) (e : ShelfError)
    → AreCut (one_file name []) a b e → AreCut (one_file name bytes) a b e
begun_cut name bytes a b e cut = AreCut-longer (one_file name []) (one_file name bytes) a b e
    (refl, (bytes, refl), tt) cut
