use Rattle.std.proofs.Common.{arith}
use Rattle.rv32_decode.proofs.Spelled.{some_spelled}
use Rattle.rv32_decode.proofs.Single.{none, made, length-rows_of}
use Rattle.rv32_decode.proofs.decoder.decode.Goals as goal

pub returns-clause-none : goal.returns-clause-none
returns-clause-none c = none _ _ c.row_of.ensures

pub returns-clause-single : goal.returns-clause-single
returns-clause-single c = length-rows_of _

pub returns-clause-made : goal.returns-clause-made
returns-clause-made c = made _ _ c.row_of.ensures

pub returns-clause-valid : goal.returns-clause-valid
returns-clause-valid c = (some_spelled _ _ (omega arith) c.row_of.ensures).0

pub returns-clause-spelled : goal.returns-clause-spelled
returns-clause-spelled c = (some_spelled _ _ (omega arith) c.row_of.ensures).1
