use Rattle.dns_code.proofs.OctetsLemmas.{fields_are_all_bits, counts_are_all_octets}
use Rattle.dns_code.proofs.theory.HeaderOctets.{octets_have_fields, octets_are_of_fields}
use Rattle.dns_code.proofs.laws.octets_of_fields.Goals as goal

pub returns-clause-fields : goal.returns-clause-fields
returns-clause-fields c = octets_have_fields

pub returns-clause-octets : goal.returns-clause-octets
returns-clause-octets c = octets_are_of_fields

pub returns-clause-header : goal.returns-clause-header
returns-clause-header c = fields_are_all_bits

pub returns-clause-counts : goal.returns-clause-counts
returns-clause-counts c = counts_are_all_octets
