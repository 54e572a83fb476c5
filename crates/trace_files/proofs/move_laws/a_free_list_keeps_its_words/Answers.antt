use Rattle.trace_files.proofs.MovedWords.{accesses_kept, all_allowed, bytes_kept, none_moved}
use Rattle.trace_files.proofs.MovedWords.{words_kept}
use Rattle.trace_files.proofs.move_laws.a_free_list_keeps_its_words.Goals as goal

pub returns-clause-words : goal.returns-clause-words
returns-clause-words c = λ table accesses is allowed free. words_kept table accesses is free

pub returns-clause-bytes : goal.returns-clause-bytes
returns-clause-bytes c = bytes_kept

pub returns-clause-accesses : goal.returns-clause-accesses
returns-clause-accesses c = λ table accesses is allowed free. accesses_kept table accesses is free

pub returns-clause-allowed : goal.returns-clause-allowed
returns-clause-allowed c = all_allowed

pub returns-clause-none : goal.returns-clause-none
returns-clause-none c = none_moved
