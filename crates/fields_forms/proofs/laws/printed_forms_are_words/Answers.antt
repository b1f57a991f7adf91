use Rattle.fields_forms.proofs.theory.LocationTexts.{locations_split}
use Rattle.fields_forms.proofs.theory.GatewayTexts.{gateways_split, identities_split, relays_split}
use Rattle.fields_text.proofs.theory.SpacedTexts.{words_are}
use Rattle.fields_forms.proofs.laws.printed_forms_are_words.Goals as goal

pub returns-clause-gateways : goal.returns-clause-gateways
returns-clause-gateways c = λ gateway_type algorithm octets text bytes e.
    let h = gateways_split gateway_type algorithm octets text bytes e in (h.0, h.1, h.2, words_are _ _ h.3)

pub returns-clause-relays : goal.returns-clause-relays
returns-clause-relays c = λ first octets text bytes e.
    let h = relays_split first octets text bytes e in (h.0, h.1, h.2, words_are _ _ h.3)

pub returns-clause-identities : goal.returns-clause-identities
returns-clause-identities c = λ tag_size algorithm high low octets text bytes e.
    let h = identities_split tag_size algorithm high low octets text bytes e in (h.0, h.2, words_are _ _ h.1)

pub returns-clause-locations : goal.returns-clause-locations
returns-clause-locations c = locations_split
