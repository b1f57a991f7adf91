-- What a record is to a transfer: the zone's SOA record with its serial, another record of the zone, or none that it may have. RFC 1035 section 3.3.13, RFC 5936 section 3.
use Rattle.std.specs.Prelude.{ℕ, Bool, ◌==◌, if◌then◌else◌, List, [], ◌∷◌, ◌++◌, Result, Ok, Err}
use Rattle.std.specs.Int.{w32}
use Rattle.std.specs.List.{list_any}
use Rattle.dns_name.specs.Names.{Fault, Labels}
use Rattle.dns_name.specs.NameOrders.{names_equal}
use Rattle.dns_name.specs.Parsers.{number_at}
use Rattle.dns_name.specs.Suffixes.{suffixes}
use Rattle.dns_wire.specs.Parts.{Part}
use Rattle.dns_wire.specs.Parts.Part.{Octets, CompressibleName, UncompressedName}
use Rattle.dns_data.specs.Layout.{Layout}
use Rattle.dns_data.specs.Layout.Layout.{DomainName, Fixed, End}
use Rattle.dns_item.specs.ParsedRecord.{EncodedRecord}
use Rattle.dns_item.specs.TypedRecords.{data_in}
use Rattle.dns_transfer.specs.Asked.{Asked}
use Rattle.dns_transfer.specs.Errors.{error_of}
use Rattle.dns_transfer.specs.declared.error.TransferError.{TransferError}
use Rattle.dns_transfer.specs.declared.error.TransferError.TheVariants.{Parse, WrongClass, OutsideZone, WrongSoa}
use Rattle.dns_transfer.specs.declared.grammar.Kind.{Kind}
use Rattle.dns_transfer.specs.declared.grammar.Kind.TheVariants.{Soa, Other}

-- whether a name is `zone` or a subdomain of it, ignoring ASCII case: one of its suffixes is `zone`. RFC 1034 section 3.1.
abbrev pub is_within : Labels → Labels → Bool
is_within name zone = list_any (λ suffix. names_equal suffix zone) (suffixes name)

-- SOA RDATA: two names, and five numbers of four octets
abbrev pub soa_layout : Layout
soa_layout = DomainName (DomainName (Fixed 20 End))

-- the octets of RDATA that aren't names
abbrev pub octets_in : List Part → List ℕ
octets_in [] = []
octets_in (Octets octets ∷ parts) = octets ++ octets_in parts
octets_in (CompressibleName name ∷ parts) = octets_in parts
octets_in (UncompressedName lowercased name ∷ parts) = octets_in parts

-- SERIAL: the first number after the names
abbrev pub serial_of : List Part → ℕ
serial_of parts = number_at w32 (octets_in parts) 0

-- what an SOA record of the zone is, by its RDATA
abbrev pub soa_kind : Result (List Part) Fault → Result Kind TransferError
soa_kind (Ok parts) = Ok (Soa (serial_of parts))
soa_kind (Err f) = Err (Parse (error_of f))

-- what a record is whose class is the zone's, and whose owner is within the zone: an SOA record needs the zone's name as its owner
abbrev pub kind_within : Labels → EncodedRecord → Result Kind TransferError
kind_within zone x =
    if x.entry.rtype == 6
    then (if names_equal x.entry.owner zone then soa_kind (data_in x soa_layout) else Err WrongSoa)
    else Ok Other

-- what a record is, or why a transfer of this zone may not have it
abbrev pub kind_of : Asked → EncodedRecord → Result Kind TransferError
kind_of asked x =
    if x.entry.class == asked.class
    then (if is_within x.entry.owner asked.zone then kind_within asked.zone x else Err OutsideZone)
    else Err WrongClass
