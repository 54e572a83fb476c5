use Rattle.std.proofs.Common.{[], refl}
use Rattle.predator_cli.specs.Parts.{Cut}
use Rattle.predator_cli.proofs.laws.two_halves_count_as_the_whole.Goals as goal

pub returns : goal.returns
returns c = λ demand files how t halves small is plain zero accepted layout.
    let cut : Cut = record {
      split = demand;
      state = halves.state;
      at_first = halves.at_first;
      at_second = halves.at_second;
    } in
    c.a_trace_counts_in_parts.ensures demand files how t cut [] small is plain zero accepted layout refl (
      refl,
      record {
        apart = halves.apart;
        first = halves.first;
        second = halves.second;
        begun = tt;
        state = halves.saved;
        short = halves.short;
        first_settings = halves.first_settings;
        second_settings = halves.second_settings;
      },
      tt,
    )
