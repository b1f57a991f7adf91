-- The header section of a message: header, flags and counts.
pub use Rattle.dns_code.specs.Header.{HeaderFields, fields, fields_in, flags_in, header_octets, octets_of_fields, IsHeader}
pub use Rattle.dns_code.specs.Flags.{flags_text, flags_read}
pub use Rattle.dns_code.specs.HeaderCounts.{Counts, counts, counts_in, counts_octets, with_qdcount, with_ancount, with_nscount, with_arcount}
pub use Rattle.dns_code.specs.HeaderSection.{header_size, section_octets, section_header, section_counts}
