use Rattle.fields_forms.proofs.GatewayLaws.{gateways_read_back, relays_read_back}
use Rattle.fields_forms.proofs.IdentityLaws.{identities_read_back}
use Rattle.fields_forms.proofs.LocationLaws.{locations_read_back}
use Rattle.fields_forms.proofs.laws.printed_forms_read_back.Goals as goal

pub returns-clause-locations : goal.returns-clause-locations
returns-clause-locations c = locations_read_back

pub returns-clause-gateways : goal.returns-clause-gateways
returns-clause-gateways c = gateways_read_back c.printed_values_read_back.ensures.base64

pub returns-clause-relays : goal.returns-clause-relays
returns-clause-relays c = relays_read_back

pub returns-clause-identities : goal.returns-clause-identities
returns-clause-identities c = identities_read_back c.printed_values_read_back.ensures.hexadecimal c.printed_values_read_back.ensures.base64
