use Rattle.std.proofs.Common.{◌≡◌, ap, ◌∙◌}
use Rattle.std.specs.Option.{option_copied}
use Rattle.dns_iana.specs.Mnemonics.{mnemonic}
use Rattle.dns_iana.specs.Registry.{registered_types}
use Rattle.dns_iana.proofs.rtype.Rtype.registered_name.Goals as goal

pub returns : goal.returns
unfolding registered_types
returns c =
    let same : c.self.inside.0 ≡ c.args.self = c.self.view_is in
    let found : option_copied c.name_of.result ≡ mnemonic registered_types c.self.inside.0 = c.name_of.ensures in
    found ∙ ap (mnemonic registered_types) same
