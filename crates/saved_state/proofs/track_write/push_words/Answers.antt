use Rattle.saved_state.specs.Spelling.{spell_word}
use Rattle.saved_state.proofs.Appended.{spelled_more}
use Rattle.saved_state.proofs.track_write.push_words.Goals as goal

pub loop-i-preserved : goal.loop-i-preserved
loop-i-preserved c =
    spelled_more spell_word c.args.shadow.now.words c.loop-i.i c.word.result c.args.bytes.now.items
    c.loop-i.bytes.items
    c.extend_from_slice.new.self.items c.word.ensures.value c.loop-i.invariant
    (rw c.word_bytes.ensures at c.in_ok-extend_from_slice.ensures.items)
