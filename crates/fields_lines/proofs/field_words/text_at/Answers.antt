use Rattle.std.proofs.Common.{[]}
use Rattle.fields_lines.proofs.CompletingLemmas.{text_here, text_none}
use Rattle.fields_lines.proofs.field_words.text_at.Goals as goal

pub returns-then-index-words : goal.returns-then-index-words
returns-then-index-words c = text_here c.args.words.now c.args.index (record { ref_ptr = (0, 0); now = [] }) c.if-index-words.true

pub returns-else-index-words : goal.returns-else-index-words
returns-else-index-words c = text_none c.args.words.now c.args.index c.if-index-words.false
