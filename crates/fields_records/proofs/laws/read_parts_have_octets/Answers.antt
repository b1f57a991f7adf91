use Rattle.fields_records.proofs.ReadOctets.{data_octets, name_octets}
use Rattle.fields_records.proofs.laws.read_parts_have_octets.Goals as goal

pub returns-clause-rdata : goal.returns-clause-rdata
returns-clause-rdata c = λ b layout p q parts bytes at. data_octets b bytes layout p q parts at

pub returns-clause-names : goal.returns-clause-names
returns-clause-names c = λ b p name bytes at. name_octets b bytes at
