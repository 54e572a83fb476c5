-- What is known of a turn, by whether it was refused.
use Rattle.std.proofs.Common.{◌≡◌, ℕ, Result, Ok, Err, arith, sym, subst}
use Rattle.std.specs.Prelude.{IfOk, OnOk, OnErr}
use Rattle.guest.specs.declared.turn.Event.TheVariants.{Quiet, Touch, Alloc, Free, Output}
use Rattle.guest.specs.declared.turn.Turn.{Turn}
use Rattle.guest.specs.declared.turn.Turn.TheVariants.{Ran, Ended}
use Rattle.guest.specs.Configs.{Config, Fits}
use Rattle.guest.specs.SeenTurns.{IsSeen, MakesAccess}

pub if_ok-map : {A E : Type 0} (r : Result A E) (P Q : A → Type 0) → ((a : A) → P a → Q a)
    → IfOk r P → IfOk r Q
if_ok-map (Ok a) P Q go h = go a h
if_ok-map (Err e) P Q go h = tt

pub on_ok-if : {A E : Type 0} (r : Result A E) (P : A → Type 0) (Q : Type 0) → ((a : A) → P a → Q)
    → IfOk r P → OnOk r Q
on_ok-if (Ok a) P Q go h = go a h
on_ok-if (Err e) P Q go h = tt

pub on_err-map : {A E : Type 0} (r : Result A E) (P Q : Type 0) → (P → Q) → OnErr r P → OnErr r Q
on_err-map (Ok a) P Q go h = tt
on_err-map (Err e) P Q go h = go h

-- it fits after a step that was made, and after one that was refused
pub fits-either : {A E : Type 0} (r : Result A E) (h : ℕ) (c d : Config)
    → OnOk r ((n : ℕ) → Fits n c → Fits n d) → OnErr r (d ≡ c)
    → Fits h c → Fits h d
fits-either (Ok a) h c d go same f = go h f
fits-either (Err e) h c d go same f = subst (Fits h) (sym same) f

-- an access would be that of a hart, so that none is seen where there is no hart
no_access : (turn : Turn) (c : Config) → IsSeen 0 turn c → MakesAccess turn → ⊥
no_access (Ran Quiet) c seen made = made
no_access (Ran (Touch a pc)) c seen made = omega (arith, seen)
no_access (Ran (Alloc addr size sites)) c seen made = made
no_access (Ran (Free addr)) c seen made = made
no_access (Ran (Output addr len)) c seen made = made
no_access (Ended o) c seen made = made

-- what is seen however few harts there are is no access
pub no_access_seen : {E : Type 0} (r : Result Turn E) (c : Config) (P : Type 0)
    → IfOk r (λ turn. (harts : ℕ) → IsSeen harts turn c)
    → IfOk r (λ turn. MakesAccess turn → P)
no_access_seen r c P seen =
    if_ok-map r _ _ (λ turn h made. absurd (no_access turn c (h 0) made)) seen
