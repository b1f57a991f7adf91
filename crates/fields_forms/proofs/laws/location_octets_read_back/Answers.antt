use Rattle.fields_forms.proofs.LocationLaws.{location_octets_are, octets_read}
use Rattle.fields_forms.proofs.laws.location_octets_read_back.Goals as goal

pub returns-clause-made : goal.returns-clause-made
returns-clause-made c = octets_read

pub returns-clause-read : goal.returns-clause-read
returns-clause-read c = location_octets_are
