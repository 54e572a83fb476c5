-- The words of a call.
use Rattle.std.specs.Prelude.{List, [], drop, Result, Ok, Err}
use Rattle.std.specs.Vec.Iter.{into_iter_items}
use Rattle.std.specs.declared.alloc.Global.{Global}
use Rattle.std.specs.declared.string.String.{String}
use Rattle.std.specs.declared.vec.IntoIter.{IntoIter}

-- all arguments of the process but the first, which names the program; none where they are no text
abbrev pub words_in : {E : Type 0} → Result (IntoIter (String Global) Global) E
    → List (String Global)
words_in (Ok given) = drop 1 (into_iter_items given)
words_in (Err error) = []
