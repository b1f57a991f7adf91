-- RDATA to write.
use Rattle.std.specs.Prelude.{ℕ, List, [], ◌∷◌}
use Rattle.dns_data.specs.UnknownData.{unknown_octets, unknown_rtype_of}
use Rattle.dns_wire.specs.Parts.{Part, Octets}
use Rattle.fields_table.specs.Data.{parts_of}
use Rattle.dnsm_make.specs.declared.new_data.NewData.{NewData}
use Rattle.dnsm_make.specs.declared.new_data.NewData.TheVariants.{Address, Fields}

-- the record type
abbrev pub new_rtype : NewData → ℕ
new_rtype (Address address) = unknown_rtype_of address
new_rtype (Fields rtype fields) = rtype

-- the parts: the octets of the address, or those of the fields
abbrev pub new_parts : NewData → List Part
new_parts (Address address) = Octets (unknown_octets address) ∷ []
new_parts (Fields rtype fields) = parts_of fields
