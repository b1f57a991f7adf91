use Rattle.fields_text.proofs.Base64Words.{symbols_counted}
use Rattle.fields_text.proofs.octets_word.octet_count.Goals as goal

pub returns : goal.returns
returns c = rw c.ok.ensures.value (symbols_counted c.args.characters.now c.decode_slice.result c.requires c.decode_slice.ensures.value)
