-- How the reading of a trace stops.
use Rattle.std.proofs.Common.{◌≡◌, ◌≢◌, ◌⊎◌, inl, inr, ℕ, List, [], ◌∷◌, Option, Some, None, Err}
use Rattle.std.proofs.Common.{refl, ap}
use Rattle.std.specs.Option.{option_map}
use Rattle.shelf.specs.Shelf.{Files, OnlyReads, Outside, Known, content}
use Rattle.trace_format.specs.declared.fault.TraceFault.TheVariants as trace
use Rattle.trace_passes.specs.Passes.{HasPassCause, refusal_of}
use Rattle.trace_passes.specs.declared.passes.PassFault.{PassFault}
use Rattle.trace_passes.specs.declared.passes.PassFault.TheVariants.{NoMemory, ReadFault, Refused}
use Rattle.trace_passes.specs.declared.wanted.Refusal.{Refusal}
use Rattle.trace_passes.specs.declared.wanted.Refusal.TheVariants as refusals
use Rattle.trace_passes.specs.declared.wanted.Wanted.{Wanted}
use Rattle.command_io.specs.Readings.{IsRefusal, IsStopped, first_refusal}
use Rattle.command_io.specs.Laws.Readings.{accepted_alone, fault_stopped, memory_stopped}
use Rattle.command_io.specs.Laws.Readings.{refused_stopped}
use Rattle.shelf.specs.Laws.Known.{known_map}
use Rattle.predator_cli.specs.Replay.{refuses_trace, trace_reading}
use Rattle.predator_cli.specs.TraceFaults.{status_of_pass, status_of_refusal}

-- a refusal of a trace is want of memory, or a refusal of a file
pub refusal_cases : (r : Refusal) → (r ≡ refusals.Trace trace.NoMemory)
    ⊎ IsRefusal (status_of_refusal r)
refusal_cases (refusals.Trace trace.BadMagic) =
    inr (record { kind = refl; words = λ e. cc; memory = refl })
refusal_cases (refusals.Trace trace.BadHarts) =
    inr (record { kind = refl; words = λ e. cc; memory = refl })
refusal_cases (refusals.Trace (trace.BadTag place)) =
    inr (record { kind = refl; words = λ e. cc; memory = refl })
refusal_cases (refusals.Trace (trace.BadField place)) =
    inr (record { kind = refl; words = λ e. cc; memory = refl })
refusal_cases (refusals.Trace (trace.Truncated size)) =
    inr (record { kind = refl; words = λ e. cc; memory = refl })
refusal_cases (refusals.Trace (trace.CountMismatch stated counted)) =
    inr (record { kind = refl; words = λ e. cc; memory = refl })
refusal_cases (refusals.Trace (trace.AfterEnd place)) =
    inr (record { kind = refl; words = λ e. cc; memory = refl })
refusal_cases (refusals.Trace trace.TooLong) =
    inr (record { kind = refl; words = λ e. cc; memory = refl })
refusal_cases (refusals.Trace trace.NoMemory) = inl refl
refusal_cases refusals.NoPcs = inr (record { kind = refl; words = λ e. cc; memory = refl })
refusal_cases refusals.Filtered = inr (record { kind = refl; words = λ e. cc; memory = refl })
refusal_cases refusals.TooWide = inr (record { kind = refl; words = λ e. cc; memory = refl })
refusal_cases refusals.Harts = inr (record { kind = refl; words = λ e. cc; memory = refl })
refusal_cases (refusals.Position saved first) =
    inr (record { kind = refl; words = λ e. cc; memory = refl })

is_refusal : (r : Refusal) → r ≢ refusals.Trace trace.NoMemory → IsRefusal (status_of_refusal r)
is_refusal r other = elim (refusal_cases r) [ inl is ↦ absurd (other is) | inr judged ↦ judged ]

pub pass_accepted : (w : Wanted) (name : List ℕ) (o : Option Files)
    → Known o (λ files. refusal_of w (content files name) ≡ None)
    → Known o (λ files. first_refusal (trace_reading (λ _. w) name ∷ []) files ≡ None)
pass_accepted w name o none =
    accepted_alone name (refuses_trace w name) o
    (known_map o (λ files is. ap (option_map status_of_refusal) is) none)

pub pass_stopped : {T : Type 0} (w : Wanted) (name : List ℕ) (a b : Outside) (fault : PassFault)
    → ((r : Refusal) → fault ≡ Refused r → Known b.held (λ files. refusal_of w (content files name)
    ≡ Some r))
    → fault ≢ Refused (refusals.Trace trace.NoMemory) → HasPassCause {T = T} name a b (Err fault)
    → OnlyReads a b
    → IsStopped (trace_reading (λ _. w) name ∷ []) a b (status_of_pass fault)
pass_stopped {T} w name a b (Refused r) stated memory cause only =
    refused_stopped name (refuses_trace w name) a b (status_of_refusal r)
    (is_refusal r (λ e. memory (ap Refused e)))
    (known_map b.held (λ files is. ap (option_map status_of_refusal) is) (stated r refl))
    (cause.quiet (λ e. cc)) only
pass_stopped {T} w name a b ReadFault stated memory cause only =
    fault_stopped name (refuses_trace w name) a b (cause.failed refl) only
pass_stopped {T} w name a b NoMemory stated memory cause only = memory_stopped
    (trace_reading (λ _. w) name ∷ []) a b (cause.quiet (λ e. cc)) only
