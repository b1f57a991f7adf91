use Rattle.fields_forms.proofs.theory.LocationLemmas.{one_location}
use Rattle.fields_forms.proofs.theory.OneFields.{one_gateway, one_identity, one_relay}
use Rattle.fields_forms.proofs.laws.words_represent_one.Goals as goal

pub returns-clause-gateways : goal.returns-clause-gateways
returns-clause-gateways c = one_gateway

pub returns-clause-relays : goal.returns-clause-relays
returns-clause-relays c = one_relay

pub returns-clause-identities : goal.returns-clause-identities
returns-clause-identities c = one_identity

pub returns-clause-locations : goal.returns-clause-locations
returns-clause-locations c = one_location
