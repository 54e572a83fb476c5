-- How a saved state is judged, and read after the settings.
use Rattle.std.proofs.Common.{◌≡◌, ◌≢◌, ◌==◌, ℕ, ◌<◌, ◌≤◌, ◌^◌, List, Bool, true, false}
use Rattle.std.proofs.Common.{if◌then◌else◌, Option, Some, None, Result, Ok, Err}
use Rattle.std.proofs.Common.{refl, sym, ap, drop, ◌∙◌, lt-ltb, length}
use Rattle.std.proofs.lemmas.Bool.{le-ltb}
use Rattle.std.proofs.lemmas.Bool.Decides.{Decides-eqb}
use Rattle.std.proofs.lemmas.Option.{none-some}
use Rattle.std.specs.Option.{option_eq}
use Rattle.std.specs.Prelude.{nat_eq, IfOk, IsTrue, OnOk}
use Rattle.std.specs.Result.{result_ok}
use Rattle.shelf.specs.Shelf.{Files, Outside, Known, content}
use Rattle.detector.specs.Watch.{Watch}
use Rattle.saved_state.specs.Resuming.{Resumption, resumption_in}
use Rattle.objects.specs.Objects.{Objects}
use Rattle.base.specs.Levels.{Levels}
use Rattle.base.specs.Lines.{Grid}
use Rattle.base.specs.declared.faults.ResumeFault.{ResumeFault}
use Rattle.base.specs.declared.faults.ResumeFault.TheVariants as resume
use Rattle.saved_state.specs.ObjectJudging.{objects_judged}
use Rattle.sharing_rules.specs.Listed.{may_predict}
use Rattle.command_io.specs.Readings.{IsAccepted, IsJudged, IsReadFrom, IsStopped}
use Rattle.command_io.specs.Statuses.{status_of_resume}
use Rattle.command_io.specs.declared.status.StateFault.TheVariants as state
use Rattle.command_io.specs.declared.status.Status.{Status}
use Rattle.command_io.specs.declared.status.Status.TheVariants as status
use Rattle.command_io.specs.Laws.Readings.{alike_accepted, alike_stopped}
use Rattle.shelf.specs.Laws.Known.{known_map}
use Rattle.predator_cli.specs.Replay.{begun_under, state_readings}
use Rattle.predator_cli.specs.States.{begun_with, differing_field, judged_state, objects_then}
use Rattle.predator_cli.specs.States.{resumed_state, resumption_then}
use Rattle.predator_cli.specs.States.{state_refusal}
use Rattle.predator_cli.specs.declared.state_file.Begun.{Begun}

-- ---- a content that is judged

pub long_state : (g : Grid) (v : Levels) (bytes : List ℕ) → 2 ^ 40 < length bytes
    → state_refusal (judged_state g v bytes) ≡ Some (status.State state.TooLong)
unfolding judged_state
long_state g v bytes long = rw (lt-ltb (2 ^ 40) (length bytes) long) refl

judged_short : (g : Grid) (v : Levels) (bytes : List ℕ) → length bytes ≤ 2 ^ 40
    → judged_state g v bytes ≡ resumption_then g v bytes (resumption_in v.report bytes)
unfolding judged_state
judged_short g v bytes short = rw (le-ltb (2 ^ 40) (length bytes) short) refl

-- its detector was taken up again
pub state_resumed : (g : Grid) (v : Levels) (bytes : List ℕ) (r : Resumption)
    → length bytes ≤ 2 ^ 40
    → resumption_in v.report bytes ≡ Ok r → judged_state g v bytes ≡ resumed_state g v bytes r
state_resumed g v bytes r short is = judged_short g v bytes short
    ∙ ap (resumption_then g v bytes) is

-- a part of it is refused
fault_judged : (refused : Option Status) (fault : ResumeFault)
    → (fault ≢ resume.NoMemory → refused ≡ Some (status_of_resume fault))
    → IsJudged refused (status_of_resume fault)
fault_judged refused (resume.BadState place) is =
    record { why = is (λ e. cc); words = λ e. cc; memory = refl }
fault_judged refused resume.NoMemory is = record { why = tt; words = λ e. cc; memory = refl }

pub detector_judged : (g : Grid) (v : Levels) (bytes : List ℕ) (fault : ResumeFault)
    → length bytes ≤ 2 ^ 40
    → (fault ≢ resume.NoMemory → resumption_in v.report bytes ≡ Err fault)
    → IsJudged (state_refusal (judged_state g v bytes)) (status_of_resume fault)
detector_judged g v bytes fault short refused =
    fault_judged (state_refusal (judged_state g v bytes)) fault
    (λ other. ap state_refusal (judged_short g v bytes short ∙ ap (resumption_then g v bytes)
    (refused other)))

-- the objects behind what is used
pub objects_found : (g : Grid) (v : Levels) (bytes : List ℕ) (r : Resumption) (left : List ℕ)
    (o : Objects)
    → left ≡ drop r.used bytes → objects_judged r.used r.watch.position left ≡ Ok o
    → resumed_state g v bytes r ≡ begun_with g v r.watch r.harts o
unfolding resumed_state
objects_found g v bytes r left o is judged =
    ap (λ (b : List ℕ). objects_then g v r (objects_judged r.used r.watch.position b)) (sym is)
    ∙ ap (objects_then g v r) judged

pub objects_refused : (g : Grid) (v : Levels) (bytes : List ℕ) (r : Resumption) (left : List ℕ)
    (fault : ResumeFault)
    → left ≡ drop r.used bytes
    → (fault ≢ resume.NoMemory → objects_judged r.used r.watch.position left ≡ Err fault)
    → IsJudged (state_refusal (resumed_state g v bytes r)) (status_of_resume fault)
unfolding resumed_state
objects_refused g v bytes r left fault is refused =
    fault_judged (state_refusal (resumed_state g v bytes r)) fault (λ other. ap state_refusal
    (ap (λ (b : List ℕ). objects_then g v r (objects_judged r.used r.watch.position b)) (sym is)
    ∙ ap (objects_then g v r) (refused other)))

-- an accepted state is not refused
pub accepted_where : {E : Type 0} (r : Result Begun E) (judged : Result Begun Status)
    → IfOk r (λ begun. judged ≡ Ok begun)
    → OnOk r (state_refusal judged ≡ None)
accepted_where (Ok begun) judged is = ap state_refusal is
accepted_where (Err e) judged is = tt

-- ---- the fields

none_alone : (b : Bool) (x : Option ℕ) (place : ℕ) → (if b then x else Some place) ≡ None
    → (b ≡ true) × (x ≡ None)
none_alone true x place e = (refl, e)
none_alone false x place e = absurd (none-some place (sym e))

same_option : (x y : Option ℕ) → option_eq nat_eq x y ≡ true → x ≡ y
same_option None None e = refl
same_option None (Some y) e = cc
same_option (Some x) None e = cc
same_option (Some x) (Some y) e = ap Some ((Decides-eqb x y).0 e)

-- where no field differs, lines may be predicted as of the call
pub native_kept : (g : Grid) (v : Levels) (w : Watch) → differing_field g v w ≡ None
    → IsTrue (may_predict g v)
    → IsTrue (may_predict w.grid w.levels)
native_kept g v w same native =
    let last : Option ℕ = if option_eq nat_eq w.levels.prediction v.prediction then None else Some
    24 in
    let third : Option ℕ = if w.levels.tracking == v.tracking then last else Some 16 in
    let second : Option ℕ = if w.grid.offset == g.offset then third else Some 12 in
    let size = none_alone (w.grid.size == g.size) second 8 same in
    let offset = none_alone (w.grid.offset == g.offset) third 12 size.1 in
    let tracking = none_alone (w.levels.tracking == v.tracking) last 16 offset.1 in
    let prediction = none_alone (option_eq nat_eq w.levels.prediction v.prediction) None 24
    tracking.1 in
    rw (
      (Decides-eqb w.grid.size g.size).0 size.0,
      (Decides-eqb w.grid.offset g.offset).0 offset.0,
      same_option w.levels.prediction v.prediction prediction.0,
    ) native

-- ---- a state that is read

pub state_known : (g : Grid) (v : Levels) (name : List ℕ) (o : Option Files) (begun : Begun)
    → IsReadFrom o name (λ bytes. judged_state g v bytes ≡ Ok begun)
    → Known o (λ files. begun_under g v (Some name) files ≡ Some begun)
state_known g v name o begun read =
    known_map o (λ files whole. ap (λ (b : List ℕ). result_ok (judged_state g v b)) (sym whole)
    ∙ ap result_ok read.given) read.whole

alike : (grid : Files → Grid) (levels : Files → Levels) (g : Grid) (v : Levels) (n : List ℕ)
    (files : Files)
    → (grid files ≡ g) × (levels files ≡ v)
    → state_refusal (judged_state (grid files) (levels files) (content files n))
    ≡ state_refusal (judged_state g v (content files n))
alike grid levels g v n files same =
    ap (λ (x : Grid). state_refusal (judged_state x (levels files) (content files n))) same.0
    ∙ ap (λ (x : Levels). state_refusal (judged_state g x (content files n))) same.1

-- so under the layout and the thresholds that the files have
pub states_stopped : (grid : Files → Grid) (levels : Files → Levels) (g : Grid) (v : Levels)
    (name : Option (List ℕ)) (a b : Outside)
    (s : Status)
    → Known b.held (λ files. (grid files ≡ g) × (levels files ≡ v))
    → IsStopped (state_readings (λ x. g) (λ x. v) name) a b s
    → IsStopped (state_readings grid levels name) a b s
states_stopped grid levels g v None a b s same stopped = stopped
states_stopped grid levels g v (Some n) a b s same stopped =
    alike_stopped n (λ files. state_refusal (judged_state g v (content files n)))
    (λ files. state_refusal (judged_state (grid files) (levels files) (content files n))) a b s
    (known_map b.held (alike grid levels g v n) same) stopped

pub states_accepted : (grid : Files → Grid) (levels : Files → Levels) (g : Grid) (v : Levels)
    (name : Option (List ℕ)) (a b : Outside)
    → Known b.held (λ files. (grid files ≡ g) × (levels files ≡ v))
    → IsAccepted (state_readings (λ x. g) (λ x. v) name) a b
    → IsAccepted (state_readings grid levels name) a b
states_accepted grid levels g v None a b same accepted = accepted
states_accepted grid levels g v (Some n) a b same accepted =
    alike_accepted n (λ files. state_refusal (judged_state g v (content files n)))
    (λ files. state_refusal (judged_state (grid files) (levels files) (content files n))) a b
    (known_map b.held (alike grid levels g v n) same) accepted
