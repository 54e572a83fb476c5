-- The tables are judged in their order.
use Rattle.std.proofs.Common.{◌≡◌, None, rules}
use Rattle.program_files.specs.Faults.{first_fault, header_faults}
use Rattle.program_files.proofs.FirstFaults.{first_of_header, first_of_tables}
use Rattle.program_files.proofs.view.read_fault.Goals as goal

pub returns-in-Some : goal.returns-in-Some
returns-in-Some c = first_of_header c.args.content.now c.in-Some.fault c.in-Some.ensures

pub returns-in-Some-tables_fault : goal.returns-in-Some-tables_fault
returns-in-Some-tables_fault c =
    let none : None ≡ first_fault header_faults c.args.content.now = search rules in
    first_of_tables c.args.content.now c.in-Some-tables_fault.fault none
    c.in-Some-tables_fault.ensures
