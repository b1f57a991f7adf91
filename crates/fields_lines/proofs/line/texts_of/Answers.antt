use Rattle.fields_lines.proofs.CompletingLemmas.{texts_step}
use Rattle.fields_lines.proofs.line.texts_of.Goals as goal

pub loop-word-preserved : goal.loop-word-preserved
loop-word-preserved c =
    texts_step c.args.completed.now c.loop-word.word-index c.word-item.result c.loop-word.words.items c.push.new.self.items c.as_str.result
    c.loop-word-test.true c.word-item.is c.loop-word.invariant c.as_str.ensures
    c.in_ok-push.ensures.items
