-- Values that an RFC rules out in RDATA whose octets are well-formed.
use Rattle.std.specs.Prelude.{◌≡◌, ℕ, ◌-◌, ◌==◌, ◌||◌, if◌then◌else◌, Option, Some, None, List, [], ◌∷◌, length, map, Result, Ok, Err}
use Rattle.fields_checks.specs.Digests.{digest_reason}
use Rattle.fields_checks.specs.Services.{parameters_reason}
use Rattle.fields_checks.specs.declared.check_error.ValueReason.{ValueReason}
use Rattle.fields_checks.specs.declared.check_error.CheckError.{CheckError}
use Rattle.fields_parameters.specs.ParameterItems.{parameters_of}
use Rattle.fields_table.specs.Data.{parts_of, rtype_of}
use Rattle.fields_table.specs.FieldParts.{NamedPart, named_parts}
use Rattle.fields_table.specs.Table.{definitions_of}
use Rattle.fields_table.specs.Values.{FieldValue, part_value}
use Rattle.fields_table.specs.Values.FieldValue.{Number, Octets}
use Rattle.fields_table.specs.declared.field_data.FieldData.{FieldData}

-- the values of fields, in order
abbrev pub field_values : List NamedPart → List FieldValue
field_values fields = map (λ field. part_value field.kind field.part) fields

-- the values of RDATA
abbrev pub values_of : FieldData → List FieldValue
values_of fields = field_values (named_parts (definitions_of (rtype_of fields)) (parts_of fields))

-- the number that a value is, or this one
abbrev pub number_or : FieldValue → ℕ → ℕ
number_or (Number next) number = next
number_or value number = number

-- the octets that a value is, or these
abbrev pub octets_or : FieldValue → List ℕ → List ℕ
octets_or (Octets next) octets = next
octets_or value octets = octets

-- the last number among values, or this one if there is none
abbrev pub last_number : ℕ → List FieldValue → ℕ
last_number number [] = number
last_number number (value ∷ values) = last_number (number_or value number) values

-- the last octets among values, or these if there are none
abbrev pub last_octets : List ℕ → List FieldValue → List ℕ
last_octets octets [] = octets
last_octets octets (value ∷ values) = last_octets (octets_or value octets) values

-- what is wrong with the values of RDATA of this type, by the number before them: with its parameters if it is SVCB or HTTPS, else with its digest
abbrev pub reason_of : ℕ → List FieldValue → Option ValueReason
reason_of rtype values =
    if (rtype == 64) || (rtype == 65) then parameters_reason (last_number 0 values) (parameters_of (last_octets [] values))
    else digest_reason rtype (last_number 0 values) (length (last_octets [] values))

-- the index of the last field of a type: the digest, or the parameters
abbrev pub last_field : ℕ → ℕ
last_field rtype = length (definitions_of rtype) - 1

-- nothing is wrong, or what is, in the last field
abbrev pub checked : ℕ → Option ValueReason → Result Unit CheckError
checked rtype None = Ok tt
checked rtype (Some reason) = Err (record { field = last_field rtype; reason = reason })

abbrev pub ChecksValues : ℕ → List FieldValue → Result Unit CheckError → Type 0
ChecksValues rtype values result = result ≡ checked rtype (reason_of rtype values)
