-- What a command is asked, from what `clap` makes of the words.
use Rattle.std.proofs.Common.{rules, ap, sym, refl, ◌≡◌, ◌≢◌, ◌∙◌, List, [], ◌∷◌, Option, Some}
use Rattle.std.proofs.Common.{None}
use Rattle.std.proofs.Common.{IfOk, IfErr, Result, if◌then◌else◌, subst}
use Rattle.clap.specs.Words.{App, Kinds, Row, Text, fault_of, matches_of}
use Rattle.clap.specs.Walk.{is_empty}
use Rattle.command_line.specs.Asked.{asked}
use Rattle.command_line.specs.Demands.{UnlessMemory}
use Rattle.command_line.specs.Words.{Demand, meaning}
use Rattle.command_line.specs.declared.demand.Demand as code
use Rattle.command_line.specs.declared.demand.WordsFault.{WordsFault}
use Rattle.command_line.specs.declared.demand.WordsFault.TheVariants.{Usage, NoMemory}

taken_by : (app : App) (of : List Row → Option Demand) (words : List Text) (rows : List Row)
    → fault_of app words ≡ [] → rows ≡ matches_of app words
    → asked app of words ≡ of rows
unfolding asked
taken_by app of words rows no_fault rows_are =
    ap (λ (kinds : Kinds). if is_empty kinds then of (matches_of app words) else None) no_fault
    ∙ sym (ap of rows_are)

-- words without a fault ask for what their values ask for, and are refused as these are
module _ (app : App) (of : List Row → Option Demand) (words : List Text) (rows : List Row)
    (asks : Option Demand) (meant : asks ≡ asked app of words)
    (no_fault : fault_of app words ≡ []) (rows_are : rows ≡ matches_of app words)
    (r : Result code.Demand WordsFault)
  where
    same : of rows ≡ asks
    same = sym (meant ∙ taken_by app of words rows no_fault rows_are)

    pub taken_accepted : IfOk r (λ d. of rows ≡ Some (meaning d))
        → IfOk r (λ d. asks ≡ Some (meaning d))
    taken_accepted accepted = subst (λ x. IfOk r (λ d. x ≡ Some (meaning d))) same accepted

    pub taken_refused : IfErr r (λ f. UnlessMemory f (of rows ≡ None))
        → IfErr r (λ f. UnlessMemory f (asks ≡ None))
    taken_refused refused = subst (λ x. IfErr r (λ f. UnlessMemory f (x ≡ None))) same refused

none_at_fault : (kinds : Kinds) (demand : Option Demand) → kinds ≢ []
    → (if is_empty kinds then demand else None) ≡ None
none_at_fault [] demand fault = absurd (fault refl)
none_at_fault (kind ∷ kinds) demand fault = search rules

refused_by : (app : App) (of : List Row → Option Demand) (words : List Text)
    → fault_of app words ≢ []
    → asked app of words ≡ None
unfolding asked
refused_by app of words fault =
    none_at_fault (fault_of app words) (of (matches_of app words)) fault

-- words with a fault are refused
pub asked_refused : (app : App) (of : List Row → Option Demand) (words : List Text)
    (asks : Option Demand) → asks ≡ asked app of words
    → (fault : WordsFault) → UnlessMemory fault (fault_of app words ≢ [])
    → UnlessMemory fault (asks ≡ None)
asked_refused app of words asks meant (Usage reason) refused =
    meant ∙ refused_by app of words refused
asked_refused app of words asks meant NoMemory refused = tt
