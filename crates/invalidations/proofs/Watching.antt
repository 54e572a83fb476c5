-- A run, as far as it is watched.
use Rattle.std.proofs.Common.{◌≡◌, ℕ, ◌+◌, ◌<◌, ◌≤◌, List, [], ◌∷◌, ◌++◌, Result, Ok, Err, length}
use Rattle.std.proofs.Common.{get_or, map, take}
use Rattle.std.proofs.Common.{append-nil, append_assoc, ap, arith, inl, inr, refl, subst, sym}
use Rattle.std.proofs.Common.{◌∙◌}
use Rattle.std.proofs.lemmas.Bool.{cases_Bool}
use Rattle.std.proofs.lemmas.List.{map-append, take_all, take_more}
use Rattle.std.specs.Prelude.{OnOk}
use Rattle.base.specs.declared.ending.Ending.{Ending}
use Rattle.base.specs.Touch.{Touch}
use Rattle.guest.specs.GuestCalls.{RunEvent, quiet, touch, alloc, free, output}
use Rattle.guest.specs.Runs.{Progress, Run, ended_run, led_by, led_with, rest_of}
use Rattle.guest.specs.Runs.{sited_among, sited_in, sited_of}
use Rattle.guest.specs.SeenTurns.{AreTouches, IsLedTo, event_of, seen_among}
use Rattle.guest.specs.declared.turn.Touched.{Touched}
use Rattle.rv32_hart.specs.Space.{Space}
use Rattle.sharing_rules.specs.Lines.{Line}
use Rattle.objects.specs.Symbols.{Symbol}
use Rattle.invalidations.specs.LineInvalidations.{LineInvalidations, StandsFor, kept_of}
use Rattle.invalidations.specs.LineInvalidations.{note_access}
use Rattle.invalidations.specs.Text.{explain_text}
use Rattle.invalidations.specs.Laws.KeptOf.{kept_of-push}
use Rattle.invalidations.specs.Invalidations.{is_in}
use Rattle.invalidations.specs.declared.sited.Sited.{Sited}
use Rattle.invalidations.specs.Watched.{sited, sited_at, sited_run, sited_touch}

-- the run from the start is what was noted, and then the rest
pub record Watches (start guest : Progress) (first now : LineInvalidations) : Type 0 where
  pub noted : List Sited
  pub stands : (l : Line) (from : ℕ) → first ≡ kept_of l from [] → now ≡ kept_of l from noted
  pub goes : sited_run (rest_of start) ≡ noted ++ sited_run (rest_of guest)
  pub ends : (rest_of start).ending ≡ (rest_of guest).ending
  pub budget : guest.setup.budget ≡ start.setup.budget
  pub early : now.position ≤ guest.config.accesses

pub watches_start : (start : Progress) (first : LineInvalidations) → first.position ≡ 0
    → Watches start start first first
watches_start start first fresh = record {
  noted = [];
  stands = λ l from is. is;
  goes = refl;
  ends = refl;
  budget = refl;
  early = omega (arith, fresh);
}

sited-led : (e : RunEvent) (r : Run) → sited_run (led_by e r) ≡ sited_at e ++ sited_run r
sited-led e r = map-append sited (sited_in e) (sited_of r)

-- a step without an access
pub noted-none : (l : Line) (from : ℕ) (u : List Sited) (k : LineInvalidations)
    → k ≡ kept_of l from u → k ≡ kept_of l from (u ++ [])
noted-none l from u k is = is ∙ ap (kept_of l from) (sym (append-nil u))

-- an access that the explainer notes
pub noted-one : (l : Line) (from : ℕ) (u : List Sited) (old new : LineInvalidations) (s : Sited)
    → old ≡ kept_of l from u → new ≡ note_access old s → new ≡ kept_of l from (u ++ s ∷ [])
noted-one l from u old new s is noted =
    noted ∙ ap (λ (k : LineInvalidations). note_access k s) is ∙ sym (kept_of-push l from u s)

pub noted-access : {T E : Type 0} (r : Result T E) (old new : LineInvalidations) (s : Sited)
    → OnOk r (new ≡ note_access old s)
    → OnOk r ((m : Space) (l : Line) (from : ℕ) (u : List Sited) → old ≡ kept_of l from u
    → new ≡ kept_of l from (u ++ s ∷ []))
noted-access (Ok x) old new s noted = λ m l from u is. noted-one l from u old new s is noted
noted-access (Err e) old new s noted = tt

position-more : (old new : LineInvalidations) (s : Sited) → new ≡ note_access old s
    → new.position ≡ old.position + 1
position-more old new s noted =
    ap (λ (k : LineInvalidations). k.position) noted
    ∙ elim (cases_Bool (is_in old.line s)) [
      | inl i ↦ rw i refl
      | inr out ↦ rw out refl
    ]

pub noted-position : {T E : Type 0} (r : Result T E) (old new : LineInvalidations) (s : Sited)
    → OnOk r (new ≡ note_access old s) → OnOk r (new.position ≡ old.position + 1)
noted-position (Ok x) old new s noted = position-more old new s noted
noted-position (Err e) old new s noted = tt

sited-append : (xs ys : List RunEvent) → sited_among (xs ++ ys) ≡ sited_among xs ++ sited_among ys
sited-append [] ys = refl
sited-append (x ∷ xs) ys =
    ap (λ (l : List (Touch × ℕ)). sited_in x ++ l) (sited-append xs ys)
    ∙ sym (append_assoc (sited_in x) (sited_among xs) (sited_among ys))

sited-with : (events : List RunEvent) (r : Run)
    → sited_run (led_with events r) ≡ map sited (sited_among events) ++ sited_run r
sited-with events r =
    ap (map sited) (sited-append events r.events)
    ∙ map-append sited (sited_among events) (sited_of r)

-- what was put by is what was made

sited-seen : (events : List RunEvent) → sited_among events ≡ sited_among (seen_among events)
sited-seen [] = refl
sited-seen (quiet ∷ events) = sited-seen events
sited-seen (touch a pc ∷ events) =
    ap (λ (l : List (Touch × ℕ)). (a, pc) ∷ l) (sited-seen events)
sited-seen (alloc at size sites ∷ events) = sited-seen events
sited-seen (free at ∷ events) = sited-seen events
sited-seen (output at bytes ∷ events) = sited-seen events

sited-put : (ts : List Touched) → map sited (sited_among (map event_of ts)) ≡ map sited_touch ts
sited-put [] = refl
sited-put (t ∷ ts) = ap (λ (l : List Sited). sited_touch t ∷ l) (sited-put ts)

sited-touched : (events : List RunEvent) (ts : List Touched) (r : Run) → AreTouches events ts
    → sited_run (led_with events r) ≡ map sited_touch ts ++ sited_run r
sited-touched events ts r touched =
    sited-with events r
    ∙ ap (λ (l : List Sited). l ++ sited_run r)
    (ap (map sited) (sited-seen events ∙ ap sited_among touched) ∙ sited-put ts)

-- some accesses that were put by, and one step more
pub watches_more : (start guest later : Progress) (first now new : LineInvalidations) (ts : List Touched)
    (e : RunEvent) (n : ℕ) → Watches start guest first now
    → IsLedTo (rest_of guest) ts (led_by e (rest_of later))
    → ((l : Line) (from : ℕ) (u : List Sited) → now ≡ kept_of l from u
    → new ≡ kept_of l from (u ++ (map sited_touch ts ++ sited_at e)))
    → new.position ≡ now.position + length ts + n
    → later.config.accesses ≡ guest.config.accesses + length ts + n
    → later.setup.budget ≡ guest.setup.budget
    → Watches start later first new
watches_more start guest later first now new ts e n on led more position accesses same =
    let rest = rest_of later in
    record {
      noted = on.noted ++ (map sited_touch ts ++ sited_at e);
      stands = λ l from is. more l from on.noted (on.stands l from is);
      goes = on.goes
          ∙ ap (λ (r : Run). on.noted ++ sited_run r) led.led
          ∙ ap (λ (s : List Sited). on.noted ++ s)
          (sited-touched led.events ts (led_by e rest) led.touched
          ∙ ap (λ (s : List Sited). map sited_touch ts ++ s) (sited-led e rest)
          ∙ sym (append_assoc (map sited_touch ts) (sited_at e) (sited_run rest)))
          ∙ sym (append_assoc on.noted (map sited_touch ts ++ sited_at e) (sited_run rest));
      ends = on.ends ∙ ap (λ (r : Run). r.ending) led.led;
      budget = same ∙ on.budget;
      early = omega (arith, on.early, position, accesses);
    }

-- the end: all of the run was noted, with the accesses that were put by
pub watched_all : (start guest : Progress) (first now new : LineInvalidations) (ts : List Touched) (end : Ending)
    → Watches start guest first now → IsLedTo (rest_of guest) ts (ended_run end)
    → ((l : Line) (from : ℕ) (u : List Sited) → now ≡ kept_of l from u
    → new ≡ kept_of l from (u ++ map sited_touch ts))
    → (l : Line) (from : ℕ) → first ≡ kept_of l from []
    → new ≡ kept_of l from (sited_run (rest_of start))
watched_all start guest first now new ts end on led more l from is =
    let all : sited_run (rest_of start) ≡ on.noted ++ map sited_touch ts =
    on.goes ∙ ap (λ (r : Run). on.noted ++ sited_run r) led.led
    ∙ ap (λ (s : List Sited). on.noted ++ s)
    (sited-touched led.events ts (ended_run end) led.touched
    ∙ append-nil (map sited_touch ts)) in
    more l from on.noted (on.stands l from is) ∙ ap (kept_of l from) (sym all)

-- ---- accesses that were put by, one after another

pub record TouchesWatched (touches : List Touched) (place : ℕ) (first now : LineInvalidations) : Type 0 where
  pub stands : (l : Line) (from : ℕ) (u : List Sited) → first ≡ kept_of l from u
      → now ≡ kept_of l from (u ++ map sited_touch (take place touches))
  pub position : now.position ≡ first.position + place

pub no_touches : (touches : List Touched) (first : LineInvalidations) → TouchesWatched touches 0 first first
no_touches touches first = record {
  stands = λ l from u is. noted-none l from u first is;
  position = omega arith;
}

pub touches_more : (touches : List Touched) (i : ℕ) (t : Touched) (first now new : LineInvalidations)
    → i < length touches → t ≡ get_or touches i t → TouchesWatched touches i first now
    → new ≡ note_access now (sited_touch t)
    → TouchesWatched touches (i + 1) first new
touches_more touches i t first now new below is so noted =
    let front = map sited_touch (take i touches) in
    let one : front ++ sited_touch t ∷ [] ≡ map sited_touch (take (i + 1) touches) =
    sym (map-append sited_touch (take i touches) (t ∷ []))
    ∙ ap (λ (x : Touched). map sited_touch (take i touches ++ x ∷ [])) is
    ∙ ap (map sited_touch) (sym (take_more touches i t below)) in
    record {
      stands = λ l from u same.
          noted-one l from (u ++ front) now new (sited_touch t) (so.stands l from u same) noted
          ∙ ap (kept_of l from)
          (append_assoc u front (sited_touch t ∷ []) ∙ ap (λ (s : List Sited). u ++ s) one);
      position = omega (arith, position-more now new (sited_touch t) noted, so.position);
    }

-- all of them
pub touches_watched : (touches : List Touched) (place : ℕ) (first now : LineInvalidations)
    → length touches ≤ place → TouchesWatched touches place first now
    → (l : Line) (from : ℕ) (u : List Sited) → first ≡ kept_of l from u
    → now ≡ kept_of l from (u ++ map sited_touch touches)
touches_watched touches place first now all so l from u is =
    so.stands l from u is
    ∙ ap (λ (ts : List Touched). kept_of l from (u ++ map sited_touch ts))
    (take_all place touches all)

-- the text of an explainer that stands for the run
pub reported_text_is : (ending end : Ending) (symbols : List Symbol) (l : Line) (from : ℕ)
    (u : List Sited) (k : LineInvalidations) (text : List ℕ) → ending ≡ end → k ≡ kept_of l from u
    → ((v : List Sited) → StandsFor v k
    → text ≡ explain_text ending symbols k.line k.start v)
    → text ≡ explain_text end symbols l from u
reported_text_is ending end symbols l from u k text same is keeps_held =
    keeps_held u (subst (StandsFor u) (sym is) refl)
    ∙ ap (λ (x : LineInvalidations). explain_text ending symbols x.line x.start u) is
    ∙ ap (λ e. explain_text e symbols l from u) same
