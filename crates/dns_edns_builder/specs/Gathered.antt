-- What an OPT builder has collected. RFC 6891 section 6.1.
use Rattle.std.specs.Prelude.{vec_capacity, ℕ, ◌+◌, ◌/◌, ◌%◌, ◌<◌, ◌≤◌, List, [], length, false}
use Rattle.dns_code.specs.Header.{HeaderFields, fields as header_fields}
use Rattle.dns_edns.specs.OptHeader.{OptFields, fields as opt_fields}
use Rattle.dns_edns.specs.Options.{OptionItem, AreOptions, encode_options}
use Rattle.dns_edns.specs.OptionsOf.{options_in}
use Rattle.dns_edns_builder.specs.declared.builder.OptBuilder.{OptBuilder}

-- the header of the message, the fields of the OPT record, and its options
pub record Gathered : Type 0 where
  pub header : HeaderFields
  pub fields : OptFields
  pub options : List OptionItem

-- the octets of the options that a builder holds, in order
abbrev pub option_octets : OptBuilder → List ℕ
option_octets builder = builder.octets.items

-- the capacity of a builder: the octets of options that fit without an allocation
abbrev pub option_capacity : OptBuilder → ℕ
option_capacity builder = vec_capacity builder.octets

-- what a builder has collected
abbrev pub gathered : OptBuilder → Gathered
gathered builder = record {
  header = header_fields builder.header;
  fields = opt_fields builder.opt_header;
  options = options_in (option_octets builder);
}

-- what a new builder has collected: the header, fields that are 0 or false, and no options
abbrev pub nothing_gathered : HeaderFields → Gathered
nothing_gathered header = record {
  header = header;
  fields = record { udp_payload_size = 0; ext = 0; version = 0; dnssec_ok = false; z = 0 };
  options = [];
}

-- the octets of the OPT record in a message: 11 for owner, which is the root, type, class, TTL and RDLENGTH, and those of the options (RFC 6891 section 6.1.2)
abbrev pub opt_size : Gathered → ℕ
opt_size g = 11 + length (encode_options g.options)

-- with another rcode: its lower four bits are in the header, the others in the record (RFC 6891 section 6.1.3)
abbrev pub with_extended_rcode : ℕ → Gathered → Gathered
with_extended_rcode rcode g = record g { header = record g.header { rcode = rcode % 16 }; fields = record g.fields { ext = rcode / 16 } }

-- What can be collected: fields within their 4, 8, 8 and 15 bits, and options whose octets, at most 65,535, read back as these options.
pub record IsGathered (g : Gathered) : Type 0 where
  pub rcode : g.header.rcode < 16
  pub ext : g.fields.ext < 256
  pub version : g.fields.version < 256
  pub z : g.fields.z < 32768
  pub listed : AreOptions (encode_options g.options) g.options
  pub short : length (encode_options g.options) ≤ 65535
