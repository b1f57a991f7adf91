use Rattle.std.proofs.Common.{arith}
use Rattle.std.proofs.lemmas.Bool.Decides.{nat_tests}
use Rattle.fields_text.proofs.Base64Groups.{alphabet}
use Rattle.fields_text.proofs.base64_words.is_symbol.Goals as goal

pub returns : goal.returns
returns c = grind (arith, nat_tests, alphabet c.args.character (omega arith))
