use Rattle.std.proofs.Common.{◌∙◌, sym, subst}
use Rattle.dns_name.specs.Uncompressed.{WholeName}
use Rattle.dns_name.proofs.theory.NameLemmas.{parsed_whole, same_parsed}
use Rattle.dns_name.proofs.flatten.ParsedNameFlattenIntoNameVecU8.try_flatten_into.Goals as goal

pub of_whole-requires : goal.of_whole-requires
of_whole-requires c =
    let same = c.in_ok-octets.ensures.items ∙ c.as_slice.ensures.value ∙ c.uncompressed.ensures in
    subst WholeName (sym same) (parsed_whole c.args.self)

pub returns : goal.returns
returns c =
    let same = c.in_ok-octets.ensures.items ∙ c.as_slice.ensures.value ∙ c.uncompressed.ensures in
    (same_parsed c.of_whole.result c.args.self (c.of_whole.ensures ∙ same), λ h. h)
