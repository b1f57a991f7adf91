use Rattle.fields_text.specs.Octets.{IsBase64}
use Rattle.fields_text.proofs.theory.JoinedLemmas.{text_read, word_is}
use Rattle.fields_text.proofs.joined.read_base64_words.Goals as goal

pub returns-in-len1 : goal.returns-in-len1
returns-in-len1 c =
    text_read IsBase64 _ c.args.words.now c.read_base64.result (word_is c.args.words.now _ c.in-len1.len_at_least c.in-len1.len_below) c.read_base64.ensures.reads c.read_base64.ensures.full
