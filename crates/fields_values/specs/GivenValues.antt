-- Values that were read, as values to put in.
use Rattle.std.specs.Prelude.{◌≡◌, ℕ, List, [], ◌∷◌, length, if◌then◌else◌, nat_eq}
use Rattle.std.specs.Borrow.{Bor}
use Rattle.hex.specs.Hex.{IsBytes}
use Rattle.dns_wire.specs.Parts.{Part}
use Rattle.dns_wire.specs.Parts.Part.{Octets as OctetsPart}
use Rattle.fields_table.specs.Values.{part_value, value_shown}
use Rattle.fields_table.specs.declared.kind.Kind.{Kind}
use Rattle.fields_table.specs.declared.value.Value.{Value}
use Rattle.fields_table.specs.declared.value.Value.TheVariants as reads
use Rattle.fields_values.specs.declared.new_value.NewValue.{NewValue}
use Rattle.fields_values.specs.declared.new_value.NewValue.TheVariants as values

-- an address of this size, or else octets
abbrev pub address_or_octets : ℕ → (List ℕ → NewValue) → Bor (List ℕ) → NewValue
address_or_octets size address octets = if nat_eq (length octets.now) size then address octets.now else values.Octets octets

-- a value that was read, as a value to put in: the variant of the same name
abbrev pub given : Value → NewValue
given (reads.Number n) = values.Number n
given (reads.RecordType rtype) = values.RecordType rtype
given (reads.Ipv4 octets) = address_or_octets 4 values.Ipv4 octets
given (reads.Ipv6 octets) = address_or_octets 16 values.Ipv6 octets
given (reads.Name name) = values.Name name
given (reads.String octets) = values.String octets
given (reads.Sized octets) = values.Sized octets
given (reads.Octets octets) = values.Octets octets

-- the values are what is read from these parts, in fields of these kinds
abbrev pub AreReadFrom : List Kind → List Part → List Value → Type 0
AreReadFrom [] [] [] = Unit {0}
AreReadFrom (kind ∷ kinds) (part ∷ parts) (value ∷ values) = (value_shown value ≡ part_value kind part) × AreReadFrom kinds parts values
AreReadFrom kinds parts values = ⊥

-- the parts that are octets consist of octets
abbrev pub HaveOctets : List Part → Type 0
HaveOctets [] = Unit {0}
HaveOctets (OctetsPart octets ∷ parts) = IsBytes octets × HaveOctets parts
HaveOctets (part ∷ parts) = HaveOctets parts
