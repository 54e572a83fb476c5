use Rattle.std.proofs.Common.{◌≡◌, ◌∙◌, List, sym, ap}
use Rattle.objects.specs.Objects.{Objects, no_objects}
use Rattle.objects.specs.Symbols.{Symbol}
use Rattle.saved_state.specs.ObjectJudging.{all_taken, blocks_read, symbols_at, symbols_read}
use Rattle.saved_state.specs.ObjectJudging.{units_judged, with_blocks}
use Rattle.saved_state.proofs.ObjectPartLaws.{bad_symbols, blocks_judged}
use Rattle.saved_state.proofs.objects_resume.read_units.Goals as goal
use Rattle.saved_state.proofs.objects_resume.read_units.Goals.{In-Ok}

pub returns-in-Err-clause-refused : goal.returns-in-Err-clause-refused
returns-in-Err-clause-refused c = λ memory.
    let n = c.u64_at-symbols.ensures in
    let t = c.requires.empty in
    let place = c.behind-units.ensures.place in
    let bytes = c.behind-units.ensures.bytes in
    bad_symbols c.args.place c.args.position c.args.part.now c.in-Err.fault
    ((λ i. symbols_read (sym n i) (sym t i) (sym place i) (sym bytes i))
    ∙ c.in-Err.ensures.refused memory)

-- what the part says once its symbols are read
blocks_said : (c : In-Ok) → units_judged c.args.place c.args.position c.args.part.now
    ≡ with_blocks c.read_symbols.new.table.symbols
    (blocks_read c.args.position c.u64_at-blocks.result c.read_symbols.new.table
    c.in-Ok.rest.place c.in-Ok.rest.bytes.now)
blocks_said c =
    let n = c.u64_at-symbols.ensures in
    let m = c.u64_at-blocks.ensures in
    let t = c.requires.empty in
    let place = c.behind-units.ensures.place in
    let bytes = c.behind-units.ensures.bytes in
    let none = c.in-Ok.ensures.others ∙ ap (λ (o : Objects). o.blocks) t in
    blocks_judged c.args.place c.args.position c.args.part.now
    (symbols_at c.read_symbols.new.table c.in-Ok.rest.place c.in-Ok.rest.bytes.now)
    ((λ i. symbols_read (sym n i) (sym t i) (sym place i) (sym bytes i))
    ∙ c.in-Ok.ensures.read)
    ∙ (λ i. with_blocks c.read_symbols.new.table.symbols (blocks_read c.args.position (sym m i)
    (record no_objects { blocks = sym none i }) c.in-Ok.rest.place c.in-Ok.rest.bytes.now))

pub returns-in-Ok-read_blocks-clause-read : goal.returns-in-Ok-read_blocks-clause-read
returns-in-Ok-read_blocks-clause-read c =
    let blocks = c.read_blocks.new.table.blocks in
    blocks_said (goal.at.returns-in-Ok-read_blocks-clause-read c).In-Ok
    ∙ ap (with_blocks c.read_symbols.new.table.symbols) c.in-Ok-read_blocks.ensures.read
    ∙ ap (λ (ss : List Symbol). all_taken c.in-Ok-read_blocks.rest.place
    (let o : Objects = record { symbols = ss; blocks = blocks } in o)
    c.in-Ok-read_blocks.rest.bytes.now) (sym c.in-Ok-read_blocks.ensures.others)

pub returns-in-Err-read_blocks-clause-refused : goal.returns-in-Err-read_blocks-clause-refused
returns-in-Err-read_blocks-clause-refused c = λ memory.
    blocks_said (goal.at.returns-in-Err-read_blocks-clause-refused c).In-Ok
    ∙ ap (with_blocks c.read_symbols.new.table.symbols) (c.in-Err-read_blocks.ensures.refused memory)
