use Rattle.std.proofs.Common.{refl, inr}
use Rattle.dns_name.specs.NameReading.{name_labels}
use Rattle.fields_plain.specs.NameWords.{IsNameWord}
use Rattle.fields_text.proofs.theory.AppendLemmas.{appends}
use Rattle.fields_plain.proofs.name.push_name.Goals as goal

pub returns-in_default : goal.returns-in_default
returns-in_default c = inr (refl, λ octets is. c.in_default.ensures is.0 is.1)

pub returns : goal.returns
returns c =
    appends (IsNameWord c.args.word.now) c.as_slice.result.now c.args.octets.now.items c.push_octets.new.octets.items c.push_octets.result
    (name_labels c.in-Some.name, c.in-Some.ensures, c.as_slice.ensures) c.push_octets.ensures.ok c.push_octets.ensures.err
