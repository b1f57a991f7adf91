use Rattle.std.proofs.Common.{◌∙◌, sym, subst}
use Rattle.dns_name.specs.Uncompressed.{WholeName}
use Rattle.dns_name.proofs.theory.NameLemmas.{name_whole, same_names}
use Rattle.dns_name.proofs.name_octets.vec_name.Goals as goal

pub of_whole-requires : goal.of_whole-requires
of_whole-requires g c = subst WholeName (sym (c.in_ok-octets.ensures.items ∙ c.as_slice.ensures)) (name_whole c.args.source.now)

pub returns : goal.returns
returns g c = (same_names c.of_whole.result c.args.source.now (c.of_whole.ensures ∙ c.in_ok-octets.ensures.items ∙ c.as_slice.ensures), λ h. h)
