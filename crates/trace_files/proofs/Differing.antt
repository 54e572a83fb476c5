-- Why a second reading is refused.
use Rattle.std.proofs.Common.{None, ◌≡◌, ℕ, List, Option, Some, ap, ◌∙◌}
use Rattle.std.specs.Option.{option_and_then, option_or}
use Rattle.shelf.specs.Agreeing.{HasShown}
use Rattle.shelf.specs.Laws.Agreeing.{shown_then}
use Rattle.shelf.specs.Shelf.{Given}
use Rattle.trace_passes.specs.declared.passes.Passed.{Passed}
use Rattle.trace_passes.specs.declared.wanted.Refusal.{Refusal}
use Rattle.trace_passes.specs.Passes.{near_refusal, HasParts, refusal_of, trace_of, trace_with}
use Rattle.trace_files.specs.Copies.{IsOther, unfiltered, difference, refusal_again, passed_of}
use Rattle.trace_files.specs.Laws.Copies.{plain_unrefused}

-- as no trace
pub no_trace_again : (name : List ℕ) (first : Passed) (refusal : Refusal) (before now : List Given)
    → HasShown name (λ file. refusal_of unfiltered file ≡ Some refusal) before now
    → IsOther name first refusal before now
no_trace_again name first refusal before now shown =
    shown_then name (λ file. refusal_of unfiltered file ≡ Some refusal)
    (λ file. refusal_again first file ≡ Some refusal) before now
    (λ file is. ap (λ (o : Option Refusal). option_or o
    (option_and_then (λ t. difference first (passed_of t)) (trace_of file))) is) shown

-- beside the first reading
pub other_again : (name : List ℕ) (first second : Passed) (refusal : Refusal)
    (before now : List Given) → HasShown name (HasParts second) before now
    → near_refusal None second.header.near ≡ None
    → difference first second ≡ Some refusal → IsOther name first refusal before now
other_again name first second refusal before now shown plain differs =
    shown_then name (HasParts second) (λ file. refusal_again first file ≡ Some refusal) before now
    (λ file found. ap (λ (o : Option Refusal). option_or o
    (option_and_then (λ t. difference first (passed_of t)) (trace_of file)))
    (plain_unrefused file (trace_with second found.0) found.1 plain)
    ∙ ap (option_and_then (λ t. difference first (passed_of t))) found.1 ∙ differs) shown
