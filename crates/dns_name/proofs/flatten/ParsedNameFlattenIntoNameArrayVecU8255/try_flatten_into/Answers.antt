use Rattle.std.proofs.Common.{◌∙◌, sym, subst}
use Rattle.dns_name.specs.Uncompressed.{WholeName}
use Rattle.dns_name.proofs.theory.NameLemmas.{parsed_whole, same_parsed}
use Rattle.dns_name.proofs.flatten.ParsedNameFlattenIntoNameArrayVecU8255.try_flatten_into.Goals as goal

pub of_whole-requires : goal.of_whole-requires
of_whole-requires c = subst WholeName (sym c.uncompressed.ensures) (parsed_whole c.args.self)

pub returns : goal.returns
returns c = (same_parsed c.of_whole.result c.args.self (c.of_whole.ensures ∙ c.uncompressed.ensures), λ h. h)
