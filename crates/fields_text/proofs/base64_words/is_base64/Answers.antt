use Rattle.fields_text.proofs.Base64Groups.{group_tested}
use Rattle.fields_text.proofs.base64_words.is_base64.Goals as goal

pub returns : goal.returns
returns c = group_tested c.args.characters.now c.is_ok.result c.decode_slice.result c.requires c.decode_slice.ensures.value c.is_ok.ensures.value
