use Rattle.std.proofs.Common.{◌≡◌, ◌∙◌, List, length, map, ap, arith, sym, subst}
use Rattle.std.proofs.lemmas.List.{length-map}
use Rattle.std.specs.List.{All}
use Rattle.program_files.specs.Symbols.{symbols_of}
use Rattle.objects.specs.Symbols.{Symbol}
use Rattle.predator_cli.specs.Run.{HasNameAndSize, symbol_record, symbol_records}
use Rattle.predator_cli.proofs.SymbolLaws.{symbols_few, symbols_good}
use Rattle.predator_cli.proofs.run.ProgramUnderJudge.judge.Goals as goal

pub records_of-requires : goal.records_of-requires
records_of-requires c =
    subst (λ (l : List Symbol). All HasNameAndSize l) (sym c.in-Ok.ensures.symbols)
    (symbols_good c.args.bytes.now)

pub returns-in-Ok-records_of-clause-given : goal.returns-in-Ok-records_of-clause-given
returns-in-Ok-records_of-clause-given c =
    let is = c.in-Ok.ensures in
    let stated : c.in-Ok-records_of.symbols.items ≡ symbol_records c.args.bytes.now =
    c.in-Ok-records_of.ensures.value ∙ ap (map symbol_record) is.symbols in
    let count : length c.in-Ok-records_of.symbols.items ≡ length (symbols_of c.args.bytes.now) =
    ap length stated ∙ length-map (symbols_of c.args.bytes.now) symbol_record in
    record {
      image = is.image;
      starts = is.starts;
      harts = ap (λ i. i.harts) is.image;
      symbols = stated;
      stated = c.in-Ok-records_of.ensures.good;
      few = omega (arith, count, symbols_few c.args.bytes.now c.requires.short);
    }
