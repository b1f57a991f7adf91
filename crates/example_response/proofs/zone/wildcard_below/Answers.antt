use Rattle.std.proofs.Common.{◌≡◌, ◌∷◌, []}
use Rattle.dns_message.specs.Names.{name_labels}
use Rattle.dns_message.specs.Names.{uncompressed}
use Rattle.dns_message.specs.Names.{labels}
use Rattle.example_response.proofs.WildcardLemmas.{asterisk, asterisk_is_uncompressed, never_none, only_asterisk, some_has, wildcard_made}
use Rattle.example_response.proofs.zone.wildcard_below.Goals as goal

pub returns-in_err-asterisk : goal.returns-in_err-asterisk
returns-in_err-asterisk c =
    absurd (never_none c.from_octets.result c.ok.result (c.from_octets.ensures.accepts asterisk_is_uncompressed) c.ok.ensures.value c.in_err-asterisk.was)

pub returns : goal.returns
returns c =
    let octets = some_has (λ name. uncompressed (name_labels name) ≡ 1 ∷ 42 ∷ 0 ∷ []) c.from_octets.result c.ok.result c.in_ok-asterisk.asterisk
    c.from_octets.ensures.name c.ok.ensures.value c.in_ok-asterisk.was in
    let name : name_labels c.in_ok-asterisk.asterisk ≡ asterisk = only_asterisk (name_labels c.in_ok-asterisk.asterisk) octets in
    wildcard_made (labels c.args.encloser.now) _ (rw (name, c.root_slice.ensures) at c.substitute.ensures)
