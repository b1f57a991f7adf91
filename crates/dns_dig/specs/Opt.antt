-- The lines of an OPT record. RFC 6891 section 6.1.
use Rattle.std.specs.Prelude.{ℕ, ◌/◌, ◌%◌, ◌==◌, ◌&&◌, Bool, false, if◌then◌else◌, List, ◌++◌, length, codes, decimal}
use Rattle.std.specs.List.{flat_map}
use Rattle.dns_print.specs.Digits.{hex_digits}
use Rattle.dns_edns.specs.OptHeader.{OptFields, fields_in}
use Rattle.dns_edns.specs.OptionsOf.{are_options, options_in}
use Rattle.dns_item.specs.ParsedRecord.{EncodedRecord}
use Rattle.dns_lines.specs.ZoneLines.{rdata_octets}
use Rattle.dns_dig.specs.Header.{if_set}
use Rattle.dns_dig.specs.OptionTexts.{option_line}

-- whether a record has the type OPT, 41, and its owner is the root
abbrev pub is_of_root : EncodedRecord → Bool
is_of_root x = (x.entry.rtype == 41) && (length x.entry.owner == 0)

-- whether it is an OPT record that prints by its fields: its RDATA is a list of options
abbrev pub is_opt : EncodedRecord → Bool
is_opt x = is_of_root x && are_options (rdata_octets x)

-- the 14 bits of Z after CO, which should be zero
abbrev pub reserved_text : ℕ → List ℕ
reserved_text bits = if bits == 0 then codes "; " else codes "; MBZ: 0x" ++ (hex_digits false (bits / 256) ++ (hex_digits false (bits % 256) ++ codes ", "))

-- DO, CO (the first bit of Z, RFC 9824 section 5.1), and the other bits of Z
abbrev pub opt_flags_text : OptFields → List ℕ
opt_flags_text f = if_set f.dnssec_ok (codes " do") ++ (if_set (f.z / 16384 == 1) (codes " co") ++ reserved_text (f.z % 16384))

-- the version
abbrev pub version_text : ℕ → List ℕ
version_text version = codes "; EDNS: version: " ++ (decimal version ++ codes ", flags:")

-- the UDP payload size
abbrev pub size_text : ℕ → List ℕ
size_text size = codes "udp: " ++ (decimal size ++ codes "\n")

-- the line of the version, the flags and the UDP payload size
abbrev pub edns_line : OptFields → List ℕ
edns_line f = version_text f.version ++ (opt_flags_text f ++ size_text f.udp_payload_size)

-- an OPT record: a heading, a line for its fields, and one for each option
abbrev pub opt_text : EncodedRecord → List ℕ
opt_text x = codes ";; OPT PSEUDOSECTION:\n" ++ (edns_line (fields_in x.entry.class x.entry.ttl) ++ flat_map option_line (options_in (rdata_octets x)))
