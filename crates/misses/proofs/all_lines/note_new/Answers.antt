use Rattle.std.proofs.Common.{length, ap, arith}
use Rattle.misses.specs.MissCounts.{LineEntry}
use Rattle.misses.specs.Laws.MissCounts.{length-blank_words}
use Rattle.misses.proofs.all_lines.note_new.Goals as goal

pub note-requires-clause-within : goal.note-requires-clause-within
note-requires-clause-within c =
    let len = ap (λ (l : LineEntry). length l.words) c.in-Ok.ensures in
    omega (arith, len, length-blank_words c.args.words, c.requires.within)
