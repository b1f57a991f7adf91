use Rattle.std.proofs.Common.{refl, inr}
use Rattle.fields_text.proofs.theory.Base32Lemmas.{appends}
use Rattle.fields_text.proofs.base32_words.push_group.Goals as goal

pub returns-in_default : goal.returns-in_default
returns-in_default c = inr (refl, c.in_default.ensures)

pub returns : goal.returns
returns c =
    appends c.args.digits.now c.args.octets.now.items c.push_last.new.octets.items _ c.push_last.result c.push_last.ensures.ok c.push_last.ensures.err c.in-Some.ensures
