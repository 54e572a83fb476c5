-- What the words of the command line ask for. What a command refuses, and what each of its
-- arguments gets, is what `clap` says.
use Rattle.std.specs.Prelude.{Bool, false, true, if◌then◌else◌, List, [], ◌∷◌, map, flat_map, Option}
use Rattle.std.specs.Prelude.{◌≡◌, Result, Ok, Err}
use Rattle.std.specs.Prelude.{Some, None, IsTrue, ◌≤◌, ◌^◌, option_map, option_and_then, codes}
use Rattle.std.specs.Str.{bytes_eq}
use Rattle.clap.specs.Words.{Text}
use Rattle.base.specs.Lines.{is_line_size}
use Rattle.command_line.specs.Names.{are_apart, is_named}
use Rattle.command_line.specs.Replay.{replay_usage, ReplayDemand, asked_of_replay, replay_inputs}
use Rattle.command_line.specs.Replay.{replay_meaning, replay_outputs}
use Rattle.command_line.specs.Check.{check_usage, CheckDemand, asked_of_check, check_inputs}
use Rattle.command_line.specs.Check.{check_meaning, check_outputs}
use Rattle.command_line.specs.Run.{run_usage, RunDemand, asked_of_run, run_inputs, run_meaning}
use Rattle.command_line.specs.Run.{run_outputs}
use Rattle.command_line.specs.Split.{split_usage, SplitDemand, asked_of_split, split_inputs}
use Rattle.command_line.specs.Split.{split_meaning, split_outputs}
use Rattle.command_line.specs.Gen.{gen_usage, GenDemand, asked_of_gen, gen_inputs, gen_meaning}
use Rattle.command_line.specs.Gen.{gen_outputs}
use Rattle.command_line.specs.Convert.{convert_usage, ConvertDemand, asked_of_convert}
use Rattle.command_line.specs.Convert.{convert_inputs, convert_meaning, convert_outputs}
use Rattle.command_line.specs.Sweep.{sweep_usage, SweepDemand, asked_of_sweep, is_swept_size}
use Rattle.command_line.specs.Sweep.{sweep_inputs, sweep_meaning, sweep_outputs}
use Rattle.command_line.specs.Caches.{asked_of_caches, caches_inputs, caches_meaning}
use Rattle.command_line.specs.Caches.{CachesDemand, caches_outputs, caches_usage}
use Rattle.command_line.specs.Place.{place_usage, PlaceDemand, asked_of_place, place_inputs}
use Rattle.command_line.specs.Place.{place_meaning, place_outputs}
use Rattle.command_line.specs.Relocate.{move_usage, MoveDemand, asked_of_move, move_inputs}
use Rattle.command_line.specs.Relocate.{move_meaning, move_outputs}
use Rattle.command_line.specs.Filter.{filter_usage, FilterDemand, asked_of_filter, filter_inputs}
use Rattle.command_line.specs.Filter.{filter_meaning, filter_outputs}
use Rattle.command_line.specs.TraceLayouts.{LayoutDemand, layout_inputs, layout_meaning}
use Rattle.command_line.specs.TraceLayouts.{layout_outputs}
use Rattle.command_line.specs.Misses.{misses_usage, asked_of_misses}
use Rattle.command_line.specs.Blame.{blame_usage, asked_of_blame}
use Rattle.command_line.specs.Explain.{explain_usage, ExplainDemand, asked_of_explain}
use Rattle.command_line.specs.Explain.{explain_inputs, explain_meaning, explain_outputs}
use Rattle.command_line.specs.declared.demand.Demand as code
use Rattle.command_line.specs.declared.demand.Demand.TheVariants as code_demand
use Rattle.command_line.specs.declared.demand.WordsFault.{WordsFault}
use Rattle.command_line.specs.declared.demand.WordsFault.TheVariants.{Usage, NoMemory}

-- ---- the commands, a row each

-- a command with what is asked of it
pub data Demand : Type 0 where
  replay : ReplayDemand → Demand
  check : CheckDemand → Demand
  run : RunDemand → Demand
  split : SplitDemand → Demand
  gen : GenDemand → Demand
  convert : ConvertDemand → Demand
  sweep : SweepDemand → Demand
  caches : CachesDemand → Demand
  place : PlaceDemand → Demand
  relocate : MoveDemand → Demand
  filter : FilterDemand → Demand
  misses : LayoutDemand → Demand
  blame : LayoutDemand → Demand
  explain : ExplainDemand → Demand

abbrev pub meaning : code.Demand → Demand
meaning (code_demand.Replay options) = replay (replay_meaning options)
meaning (code_demand.Check options) = check (check_meaning options)
meaning (code_demand.Run options) = run (run_meaning options)
meaning (code_demand.Split options) = split (split_meaning options)
meaning (code_demand.Gen options) = gen (gen_meaning options)
meaning (code_demand.Convert options) = convert (convert_meaning options)
meaning (code_demand.Sweep options) = sweep (sweep_meaning options)
meaning (code_demand.Caches options) = caches (caches_meaning options)
meaning (code_demand.Place options) = place (place_meaning options)
meaning (code_demand.Move options) = relocate (move_meaning options)
meaning (code_demand.Filter options) = filter (filter_meaning options)
meaning (code_demand.Misses options) = misses (layout_meaning options)
meaning (code_demand.Blame options) = blame (layout_meaning options)
meaning (code_demand.Explain options) = explain (explain_meaning options)

-- a command as words name it: its name, its usage line, and what words ask of it
pub record Named : Type 0 where
  pub name : Text
  pub usage : Text
  pub asked : List Text → Option Demand

abbrev pub named : {D : Type 0} → Text → Text → (List Text → Option D) → (D → Demand) → Named
named name usage asked say =
    record { name = name; usage = usage; asked = λ words. option_map say (asked words) }

abbrev pub commands : List Named
commands =
    named (codes "run") run_usage asked_of_run run
    ∷ named (codes "replay") replay_usage asked_of_replay replay
    ∷ named (codes "check") check_usage asked_of_check check
    ∷ named (codes "split") split_usage asked_of_split split
    ∷ named (codes "gen") gen_usage asked_of_gen gen
    ∷ named (codes "convert") convert_usage asked_of_convert convert
    ∷ named (codes "sweep") sweep_usage asked_of_sweep sweep
    ∷ named (codes "caches") caches_usage asked_of_caches caches
    ∷ named (codes "place") place_usage asked_of_place place
    ∷ named (codes "move") move_usage asked_of_move relocate
    ∷ named (codes "filter") filter_usage asked_of_filter filter
    ∷ named (codes "misses") misses_usage asked_of_misses misses
    ∷ named (codes "blame") blame_usage asked_of_blame blame
    ∷ named (codes "explain") explain_usage asked_of_explain explain
    ∷ []

-- a trace that is read, and whether it is read again, from its front, once it was read to its end
pub record TraceRead : Type 0 where
  pub name : Text
  pub again : Bool

-- the files that a demand has read, in the order in which they are, those that it has written, in
-- the order in which they are begun, the trace among those that are read, and the bounds that it is
-- within
pub record Terms : Type 1 where
  pub inputs : List Text
  pub outputs : List Text
  pub trace : Option TraceRead
  pub IsWithin : Type 0

-- any demand is allowed
abbrev pub terms : List Text → List Text → Terms
terms inputs outputs = record {
  inputs = inputs;
  outputs = outputs;
  trace = None;
  IsWithin = Unit {0};
}

-- one of a trace that is read once, and one of a trace that is read again
abbrev pub terms_once : Text → List Text → List Text → Terms
terms_once name inputs outputs =
    record (terms inputs outputs) { trace = Some (record { name = name; again = false }) }

abbrev pub terms_again : Text → List Text → List Text → Terms
terms_again name inputs outputs =
    record (terms inputs outputs) { trace = Some (record { name = name; again = true }) }

abbrev pub terms_of : Demand → Terms
terms_of (run demand) = terms (run_inputs demand) (run_outputs demand)
terms_of (replay demand) = terms_once demand.trace (replay_inputs demand) (replay_outputs demand)
terms_of (check demand) = terms (check_inputs demand) (check_outputs demand)
terms_of (split demand) = terms_again demand.trace (split_inputs demand) (split_outputs demand)
terms_of (gen demand) =
    record (terms (gen_inputs demand) (gen_outputs demand)) { IsWithin = demand.count ≤ 10 ^ 9 }
terms_of (convert demand) =
    terms_again demand.trace (convert_inputs demand) (convert_outputs demand)
terms_of (sweep demand) =
    record (terms_once demand.trace (sweep_inputs demand) (sweep_outputs demand)) {
      IsWithin = IsTrue (is_swept_size demand.size);
    }
terms_of (caches demand) = terms_once demand.trace (caches_inputs demand) (caches_outputs demand)
terms_of (place demand) =
    record (terms_again demand.trace (place_inputs demand) (place_outputs demand)) {
      IsWithin = IsTrue (is_line_size demand.size);
    }
terms_of (relocate demand) = terms_once demand.trace (move_inputs demand) (move_outputs demand)
terms_of (filter demand) =
    record (terms_once demand.trace (filter_inputs demand) (filter_outputs demand)) {
      IsWithin = (6 ≤ demand.near) × (demand.near ≤ 16);
    }
terms_of (misses demand) = terms_once demand.trace (layout_inputs demand) (layout_outputs demand)
terms_of (blame demand) = terms_once demand.trace (layout_inputs demand) (layout_outputs demand)
terms_of (explain demand) = terms (explain_inputs demand) (explain_outputs demand)

-- ---- what follows from the rows

abbrev pub inputs : Demand → List Text
inputs demand = (terms_of demand).inputs

abbrev pub outputs : Demand → List Text
outputs demand = (terms_of demand).outputs

abbrev pub trace_of : Demand → Option TraceRead
trace_of demand = (terms_of demand).trace

abbrev pub IsBounded : code.Demand → Type 0
IsBounded demand = (terms_of (meaning demand)).IsWithin

-- what words ask of the command that the first of them names
abbrev pub asked_among : List Named → Text → List Text → Option Demand
asked_among [] command words = None
asked_among (c ∷ more) command words = if bytes_eq command c.name then c.asked words
    else asked_among more command words

abbrev pub asked_of : Text → List Text → Option Demand
asked_of command words = asked_among commands command words

-- the first word is the name of a command
abbrev pub is_command : List Text → Bool
is_command [] = false
is_command (command ∷ rest) = is_named command (map (λ (c : Named). c.name) commands)

-- a line for each command
abbrev pub usage_text : Text
usage_text = flat_map (λ (c : Named). c.usage) commands

-- the demand, unless it has one name for an output and for another output or an input
abbrev pub with_names_apart : Demand → Option Demand
with_names_apart demand = if are_apart (outputs demand) (inputs demand) then Some demand else None

-- the same of what one command is asked for
abbrev pub given_apart : {D : Type 0} → (D → Demand) → Option D → Option Demand
given_apart say asked = option_and_then with_names_apart (option_map say asked)

-- what the words ask for, unless they are refused
abbrev pub demand_of : List Text → Option Demand
demand_of [] = None
demand_of (command ∷ rest) = option_and_then with_names_apart (asked_of command (command ∷ rest))

-- words that ask for this, if for anything, were read so; want of memory says nothing of them
abbrev pub IsReadAs : Option Demand → Result code.Demand WordsFault → Type 0
IsReadAs asked (Ok demand) = asked ≡ Some (meaning demand)
IsReadAs asked (Err (Usage reason)) = asked ≡ None
IsReadAs asked (Err NoMemory) = Unit {0}
