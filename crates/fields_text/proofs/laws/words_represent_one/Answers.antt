use Rattle.fields_text.proofs.theory.OneWords.{one_base64, one_hex}
use Rattle.fields_text.proofs.laws.words_represent_one.Goals as goal

pub returns-clause-hexadecimal : goal.returns-clause-hexadecimal
returns-clause-hexadecimal c = one_hex

pub returns-clause-base64 : goal.returns-clause-base64
returns-clause-base64 c = one_base64
