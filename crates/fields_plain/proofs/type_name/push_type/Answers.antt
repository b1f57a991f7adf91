use Rattle.std.proofs.Common.{◌≡◌, refl, inr, rules}
use Rattle.fields_plain.proofs.theory.RegisteredLemmas.{type_appended}
use Rattle.fields_plain.proofs.type_name.push_type.Goals as goal

pub returns-in-Some : goal.returns-in-Some
returns-in-Some c =
    let same : c.from.result ≡ c.to_int.result = search rules in
    type_appended c.args.word.now c.args.octets.now.items c.push_last.new.octets.items c.in-Some.rtype c.to_int.result c.from.result c.push_last.result c.in-Some.ensures same c.to_int.ensures
    c.push_last.ensures.ok c.push_last.ensures.err

pub returns-in-None : goal.returns-in-None
returns-in-None c = inr (refl, λ octets is. let e = (c.in-None.ensures is.0).0 is.1 in cc e)
