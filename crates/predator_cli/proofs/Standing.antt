-- What stands in the files that are written.
use Rattle.std.proofs.Common.{◌≡◌, ℕ, List, Option, Some, None, length, refl, sym, ap, ◌∙◌}
use Rattle.std.proofs.Math.Seq.{take-length}
use Rattle.std.specs.Option.{option_or}
use Rattle.shelf.specs.Shelf.{Files, Outside, Goes}
use Rattle.shelf.specs.Laws.Files.{none_begun}
use Rattle.shelf.specs.Laws.Known.{goes_map, goes_same}
use Rattle.shelf.specs.Files.{AreWhole, BegunInOrder, IsFrontOf, Output, bytes_for}
use Rattle.predator_cli.specs.Written.{AreSame, OnlyAt}

pub only_same_names : (names : List (List ℕ)) (a b : Outside) → b.written ≡ a.written
    → OnlyAt names a b
only_same_names names a b same = rw same (goes_same _ a.written (λ files name not_there. refl))

-- files that are as they were may stand at a fault
pub same_stands : (outputs : List Output) (o n : Option Files) → Goes o n AreSame
    → Goes o n (BegunInOrder outputs)
same_stands outputs o n same = goes_map o n (none_begun outputs) same

whole_front : (bytes before now : Option (List ℕ)) → now ≡ option_or bytes before
    → IsFrontOf bytes before now
whole_front None before now is = is
whole_front (Some bytes) before now is =
    (length bytes, is ∙ ap (λ b. Some b) (sym (take-length bytes)))

-- whole outputs may stand at a fault that comes later
pub whole_stands : (outputs : List Output) (before now : Files) → AreWhole outputs before now
    → BegunInOrder outputs before now
whole_stands outputs before now whole = (
  length outputs,
  λ name. rw (take-length outputs) (whole_front (bytes_for outputs name) (before name) (now name)
      (whole name)),
)
