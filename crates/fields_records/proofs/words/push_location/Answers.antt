use Rattle.std.proofs.Common.{refl, inr}
use Rattle.fields_forms.specs.LocationWords.{IsLocation}
use Rattle.fields_text.proofs.theory.AppendLemmas.{appends}
use Rattle.fields_records.proofs.words.push_location.Goals as goal

pub returns-in-Some : goal.returns-in-Some
returns-in-Some c =
    appends (IsLocation c.args.words.now) c.in-Some.location c.args.octets.now.items c.push_octets.new.octets.items c.push_octets.result c.in-Some.ensures c.push_octets.ensures.ok
    c.push_octets.ensures.err

pub returns-in-None : goal.returns-in-None
returns-in-None c = inr (refl, λ octets is. c.in-None.ensures octets is)
