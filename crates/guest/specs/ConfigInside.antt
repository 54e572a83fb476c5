-- What contracts see of the parts of a guest.
use Rattle.guest.specs.declared.configuration.Configuration.{Configuration}
use Rattle.guest.specs.Configs.{Config}

abbrev pub config_of : Configuration → Config
config_of x = record {
  memory = x.memory;
  states = x.states.items;
  held = x.held;
  phases =
      x.threads;
  calls = x.calls.items;
  heap = x.heap;
  notes = x.notes;
  plan = x.schedule;
  steps = x.steps;
  accesses = x.accesses;
  lacks_hart = x.lacks_hart;
}
