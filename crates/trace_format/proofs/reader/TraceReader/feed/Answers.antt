use Rattle.trace_format.proofs.Limits.{piece_after}
use Rattle.trace_format.proofs.reader.TraceReader.feed.Goals as goal

pub returns-clause-so_far : goal.returns-clause-so_far
returns-clause-so_far c = λ enough bytes first has. piece_after bytes first c.args.self.now
    c.read_piece.new.self c.args.piece.now
    c.args.into.now.items c.read_piece.new.into.items has (c.read_piece.ensures.read enough)
