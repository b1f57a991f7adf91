use Rattle.fields_plain.specs.LocatorWords.{IsLocatorWord}
use Rattle.fields_text.proofs.theory.AppendLemmas.{appends}
use Rattle.fields_plain.proofs.locator.push_locator.Goals as goal

pub returns-in-Some : goal.returns-in-Some
returns-in-Some c =
    appends (IsLocatorWord c.args.word.now) c.in-Some.locator c.args.octets.now.items c.push_octets.new.octets.items c.push_octets.result c.in-Some.ensures
    c.push_octets.ensures.ok c.push_octets.ensures.err
