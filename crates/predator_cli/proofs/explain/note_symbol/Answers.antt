use Rattle.std.proofs.Common.{ap, append-nil, sym, ◌∙◌}
use Rattle.objects.specs.Symbols.{symbols_of}
use Rattle.predator_cli.proofs.explain.note_symbol.Goals as goal

pub returns-in-Symbol : goal.returns-in-Symbol
returns-in-Symbol c = λ seen is.
    rw c.in-Symbol.is (rw c.bytes.ensures.value at (c.note_symbol.ensures.whole seen is))

pub returns-in-Touch : goal.returns-in-Touch
returns-in-Touch c = λ seen is. rw c.in-Touch.is (is ∙ ap symbols_of (sym (append-nil seen)))

pub returns-in-Alloc : goal.returns-in-Alloc
returns-in-Alloc c = λ seen is. rw c.in-Alloc.is (is ∙ ap symbols_of (sym (append-nil seen)))

pub returns-in-Free : goal.returns-in-Free
returns-in-Free c = λ seen is. rw c.in-Free.is (is ∙ ap symbols_of (sym (append-nil seen)))

pub returns-in-End : goal.returns-in-End
returns-in-End c = λ seen is. rw c.in-End.is (is ∙ ap symbols_of (sym (append-nil seen)))
