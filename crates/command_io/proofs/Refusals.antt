-- Why a program file is refused, by its parts.
use Rattle.std.proofs.Common.{◌≡◌, ◌∙◌, ◌≤◌, ◌^◌, ℕ, Bool, false, List, length, Option, None, Some}
use Rattle.std.proofs.Common.{Result, Ok, Err, ap, arith, refl, subst, sym}
use Rattle.std.proofs.lemmas.Bool.Decides.{nat_tests}
use Rattle.std.specs.Prelude.{if◌then◌else◌, nat_lt, option_map, IfErr}
use Rattle.std.specs.Option.{option_or, unwrap_or}
use Rattle.std.specs.Result.{IsErrAnd}
use Rattle.settings.specs.declared.values.Settings.{Settings}
use Rattle.program_files.specs.Faults.{read_fault, symbols_fault}
use Rattle.program_files.specs.PlacedImages.{place_fault}
use Rattle.program_files.specs.declared.fault.ElfFault.{ElfFault}
use Rattle.program_files.specs.declared.image.PlaceFault.{PlaceFault}
use Rattle.program_files.specs.declared.image.PlaceFault.TheVariants as places
use Rattle.program_files.specs.declared.image.Space.{Space}
use Rattle.command_io.specs.ProgramFiles.{program_refusal, space_of}
use Rattle.command_io.specs.Readings.{IsJudged}
use Rattle.command_io.specs.Statuses.{status_of_placing}
use Rattle.command_io.specs.declared.status.Status.{Status}
use Rattle.command_io.specs.declared.status.Status.TheVariants as status

otherwise : (b : Bool) (x y : Option Status) → b ≡ false → (if b then x else y) ≡ y
otherwise b x y e = rw e refl

-- one that isn't too long is refused as it is read, as it is placed, and then by its symbols
pub refused_by : (settings : Settings) (file view : List ℕ) (space : Space)
    (read placed stated : Option ElfFault) → length file ≤ 2 ^ 24 → view ≡ file
    → space ≡ space_of settings → read_fault file ≡ read → place_fault space view ≡ placed
    → symbols_fault view ≡ stated
    → program_refusal settings file ≡ option_map status.Elf (option_or read (option_or placed stated))
refused_by settings file view space read placed stated short same is reads places keeps_held =
    let fits : nat_lt (2 ^ 24) (length file) ≡ false = grind (arith, nat_tests) in
    let at : place_fault (space_of settings) file ≡ placed =
    subst (λ (x : Space). place_fault x file ≡ placed) is
    (subst (λ (x : List ℕ). place_fault space x ≡ placed) same places) in
    let of : symbols_fault file ≡ stated = subst (λ (x : List ℕ). symbols_fault x ≡ stated) same keeps_held in
    otherwise _ _ _ fits
    ∙ ap (λ (x : Option ElfFault). option_map status.Elf (option_or x
    (option_or (place_fault (space_of settings) file) (symbols_fault file)))) reads
    ∙ ap (λ (x : Option ElfFault). option_map status.Elf (option_or read
    (option_or x (symbols_fault file)))) at
    ∙ ap (λ (x : Option ElfFault). option_map status.Elf (option_or read (option_or placed x))) of

-- ---- refused by a fault, or for want of memory

pub judged_elf : (refused : Option Status) (fault : ElfFault) → refused ≡ Some (status.Elf fault)
    → IsJudged refused (status.Elf fault)
judged_elf refused fault why =
    record { why = why; words = λ same. absurd cc; memory = refl }

pub judged_or : (refused : Option Status) (placed : Option ElfFault) (fault : ElfFault)
    → refused ≡ option_map status.Elf (option_or placed (Some fault))
    → IsJudged refused (status.Elf (unwrap_or placed fault))
judged_or refused None fault why = judged_elf refused fault why
judged_or refused (Some first) fault why = judged_elf refused first why

pub judged_placing : (refused : Option Status) (fault : PlaceFault)
    → ((e : ElfFault) → fault ≡ places.Refused e → refused ≡ Some (status.Elf e))
    → IsJudged refused (status_of_placing fault)
judged_placing refused (places.Refused e) why = judged_elf refused e (why e refl)
judged_placing refused places.NoMemory why =
    record { why = tt; words = λ same. absurd cc; memory = refl }

-- an error that is made of another one
pub err_of : {A : Type 0} (r : Result A Status) (s : Status) (Q : Status → Type 0)
    → IsErrAnd r (λ e. e ≡ s) → Q s → IfErr r Q
err_of (Ok x) s Q is given = absurd is
err_of (Err e) s Q is given = subst Q (sym is) given

pub no_memory_of : {A : Type 0} (r : Result A Status) (fault : PlaceFault) (refused : Option Status)
    → IsErrAnd r (λ e. e ≡ status_of_placing fault)
    → (fault ≡ places.NoMemory → refused ≡ None) → r ≡ Err status.NoMemory → refused ≡ None
no_memory_of (Ok x) fault refused is given same = absurd is
no_memory_of (Err e) (places.Refused f) refused is given same = absurd cc
no_memory_of (Err e) places.NoMemory refused is given same = given refl
