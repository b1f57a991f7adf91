use Rattle.std.proofs.Common.{◌∙◌, sym, subst, arith, ap, length}
use Rattle.dns_name.specs.Uncompressed.{WholeName}
use Rattle.dns_name.proofs.theory.NameLemmas.{name_whole, same_names}
use Rattle.dns_name.proofs.name_octets.array_name.Goals as goal

pub of_whole-requires : goal.of_whole-requires
of_whole-requires g c = subst WholeName (sym (c.in-Ok.ensures.0 ∙ c.as_slice.ensures)) (name_whole c.args.source.now)

pub returns : goal.returns
returns g c =
    let same = c.in-Ok.ensures.0 ∙ c.as_slice.ensures in (
      same_names c.of_whole.result c.args.source.now (c.of_whole.ensures ∙ same),
      λ long. omega (arith, c.in-Ok.ensures.1, ap length c.as_slice.ensures),
    )
