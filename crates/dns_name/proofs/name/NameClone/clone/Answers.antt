use Rattle.std.proofs.Common.{◌≡◌, ◌∙◌, subst, rules}
use Rattle.dns_name.specs.NameReading.{name_labels}
use Rattle.dns_name.specs.Uncompressed.{WholeName}
use Rattle.dns_name.specs.Names.{uncompressed}
use Rattle.dns_name.proofs.theory.NameLemmas.{name_whole, same_names}
use Rattle.dns_name.proofs.name.NameClone.clone.Goals as goal

pub of_whole-requires : goal.of_whole-requires
of_whole-requires g c =
    let same : uncompressed (name_labels c.args.self.now) ≡ g.Octs.Octets.octets c.in_ok-octets.octets = search rules in
    subst WholeName same (name_whole c.args.self.now)

pub returns : goal.returns
returns g c =
    let same : g.Octs.Octets.octets c.in_ok-octets.octets ≡ uncompressed (name_labels c.args.self.now) = search rules in
    record { cases = same_names c.of_whole.result c.args.self.now (c.of_whole.ensures ∙ same) }
