-- What is judged before a command writes is judged first of all.
use Rattle.std.proofs.Common.{◌≡◌, List, [], ◌∷◌, ◌++◌, Option, Some, None, refl, ap, subst, sym}
use Rattle.std.proofs.Common.{◌∙◌}
use Rattle.std.specs.Option.{option_map_or}
use Rattle.shelf.specs.Shelf.{Files, Outside}
use Rattle.command_io.specs.Laws.Readings.{accepted_first, refused_first, stopped_first}
use Rattle.command_io.specs.Readings.{IsStopped, Reading, first_refusal}
use Rattle.command_io.specs.Works.{Work, refused_with}
use Rattle.command_io.specs.declared.status.Status.{Status}
use Rattle.predator_cli.specs.Judged.{judged_leaving}
use Rattle.predator_cli.specs.Manners.{Manner, all_but_last, judged_before, judged_first, left_of}
use Rattle.predator_cli.specs.Manners.{read_again, read_along}

abbrev last_of : List Reading → List Reading
last_of [] = []
last_of (r ∷ []) = r ∷ []
last_of (r ∷ s ∷ later) = last_of (s ∷ later)

in_two : (readings : List Reading) → all_but_last readings ++ last_of readings ≡ readings
in_two [] = refl
in_two (r ∷ []) = refl
in_two (r ∷ s ∷ later) = ap (λ (l : List Reading). r ∷ l) (in_two (s ∷ later))

front_accepted : (readings : List Reading) (files : Files) → first_refusal readings files ≡ None
    → first_refusal (all_but_last readings) files ≡ None
front_accepted readings files none =
    accepted_first (all_but_last readings) (last_of readings) files
    (ap (λ (l : List Reading). first_refusal l files) (in_two readings) ∙ none)

front_refused : (readings : List Reading) (files : Files) (s : Status)
    → first_refusal (all_but_last readings) files ≡ Some s
    → first_refusal readings files ≡ Some s
front_refused readings files s is =
    ap (λ (l : List Reading). first_refusal l files) (sym (in_two readings))
    ∙ refused_first (all_but_last readings) (last_of readings) files s is

-- where no file is refused none is that is judged first
pub first_accepted : (m : Manner) (readings : List Reading) (files : Files)
    → first_refusal readings files ≡ None
    → first_refusal (judged_first m readings) files ≡ None
first_accepted judged_before readings files none = none
first_accepted read_again readings files none = none
first_accepted (read_along left) readings files none = front_accepted readings files none

-- what stops the reading of these stops the reading of all
pub all_stopped : (m : Manner) (readings : List Reading) (a b : Outside) (s : Status)
    → IsStopped (judged_first m readings) a b s → IsStopped readings a b s
all_stopped judged_before readings a b s stopped = stopped
all_stopped read_again readings a b s stopped = stopped
all_stopped (read_along left) readings a b s stopped =
    subst (λ (l : List Reading). IsStopped l a b s) (in_two readings)
    (stopped_first (all_but_last readings) (last_of readings) a b s stopped)

-- a refusal of one of these leaves nothing
pub first_refused : (m : Manner) (readings : List Reading) (work : Files → Work) (files : Files)
    (s : Status)
    → first_refusal (judged_first m readings) files ≡ Some s
    → judged_leaving (left_of m readings) readings work files ≡ refused_with s
first_refused judged_before readings work files s is = rw is refl
first_refused read_again readings work files s is = rw is refl
first_refused (read_along left) readings work files s is =
    ap (λ (o : Option Status). option_map_or (λ x. record (refused_with x) {
      outputs = left_of (read_along left) readings files;
    }) o (work files)) (front_refused readings files s is)
    ∙ ap (λ (o : Option Status). record (refused_with s) {
      outputs = option_map_or (λ x. []) o (left files);
    }) is
