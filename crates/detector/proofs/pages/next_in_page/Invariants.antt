use Rattle.detector.specs.Pages.{NoneWritten, page_entry}
use Rattle.detector.proofs.pages.next_in_page.Given as goal

abbrev pub invariant-loop-place : goal.invariant-loop-place
invariant-loop-place l = NoneWritten (page_entry l.page.items) l.fn.from l.place
