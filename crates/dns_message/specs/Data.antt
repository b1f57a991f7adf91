-- Record data (RDATA): the layouts that are read, the parts that are written, and the library's data types.
-- `OptHeader` is a module, as its names are also those of records.
pub use Rattle.dns_data.specs.Layout.{Layout, string_size, octets_size, may_be_encoded, IsLaidOut, DataAt, DataFaultAt}
pub use Rattle.dns_data.specs.Layout.Layout.{End, Rest, AtMost, Fixed, CharacterString, SizedOctets, DomainName, UncompressedDomainName}
pub use Rattle.dns_data.specs.RecordData.{IsData, only, canonical, canonical_part, ParsesLaidOut, ParsesTaken}
unfoldable pub use Rattle.dns_wire.specs.Parts.{encode_parts}
pub use Rattle.dns_wire.specs.Parts.{Part, encode_part, part_size, parts_size}
pub use Rattle.dns_wire.specs.Parts.Part.{Octets, CompressibleName, UncompressedName}
-- A, NS, CNAME and SOA data
pub use Rattle.dns_data.specs.A.{address_of}
pub use Rattle.dns_data.specs.NameData.{nsdname_of, cname_of}
unfoldable pub use Rattle.dns_data.specs.Soa.{number_octets}
pub use Rattle.dns_data.specs.Soa.{mname_of, rname_of, serial_of, refresh_of, retry_of, expire_of, minimum_of, soa_parts}
-- opaque RDATA
pub use Rattle.dns_data.specs.UnknownData.{unknown_rtype_of, unknown_octets, unknown_buffer, opaque_layout}
-- OPT data, and lists of options
pub use Rattle.dns_data.specs.Opt.{is_opt_data, opt_layout, opt_octets, opt_buffer, opt_options}
unfoldable pub use Rattle.dns_edns.specs.OptionsOf.{options_of}
pub use Rattle.dns_edns.specs.OptionsOf.{options_in, are_options}
pub use Rattle.dns_edns.specs.Options.{OptionItem, AreOptions, encode_option, encode_options}
pub use Rattle.dns_edns.specs.OptionIter.{option_item, options_left}
pub use Rattle.dns_edns.specs.OptHeader
-- options of known kinds, as they are read
pub use Rattle.dns_edns.specs.ReadOptions.{ReadsExactly, HasOnlyBits, EncodesClientSubnet, EncodesExpire, EncodesCookie, EncodesTcpKeepalive, EncodesError}
pub use Rattle.dns_edns.specs.ReadOptions.{CookieOctets, cookie_octets, ErrorOctets, error_octets}
pub use Rattle.dns_edns.specs.ReadOptions.{ReadsClientSubnet, ReadsExpire, ReadsCookie, ReadsTcpKeepalive, ReadsExtendedError}
pub use Rattle.dns_edns.specs.ReadKinds.{IsKnownCode, ReadsKnown, ReadsFirst, first_octets}
-- canonical order (RFC 4034 section 6.3) and texts
pub use Rattle.dns_data.specs.CanonicalOrders.{a_canonical_order, ns_canonical_order, cname_canonical_order, soa_canonical_order, unknown_canonical_order, opt_canonical_order}
pub use Rattle.dns_data.specs.Printing.{address_text, absolute_text, soa_text, opaque_text}
