-- The record types with known fields, as their RFCs define them.
use Prim.Native.String.{String}
use Rattle.std.specs.Prelude.{ℕ, List, [], ◌∷◌, codes}
use Rattle.fields_table.specs.declared.kind.Kind.{Kind}
use Rattle.fields_table.specs.declared.kind.Kind.TheVariants.{Number8, Number16, Number32, Number48, Number64, SyncScheme, Seconds, Time, Ipv4, Ipv6, Eui48, Eui64, Locator64, RecordType, CompressibleName, PointedName, LowercasedName, PlainName, CharacterString, Tag, Salt, Hash, SizedOctets, Strings, Text, Hexadecimal, Base64, Base64OrHyphen, TypeBitMap, SmallTypeBitMap, ServiceParameters, AddressPrefixes, Location, GatewayAndKey, Relay, HostIdentity, Opaque}

-- the definition of a field: its name and its kind
abbrev pub Definition : Type 0
Definition = List ℕ × Kind

-- the definition of a record type: its number, its mnemonic, and its fields in order
pub record TypeDefinition : Type 0 where
  pub number : ℕ
  pub mnemonic : List ℕ
  pub fields : List Definition

abbrev field : String → Kind → Definition
field name kind = (codes name, kind)

abbrev row : ℕ → String → List Definition → TypeDefinition
row number mnemonic fields = record { number = number; mnemonic = codes mnemonic; fields = fields }

-- The record types. RFC 3597 section 4 says which names may have a pointer when they are read; RFC 4034 section 6.2, and for NSEC RFC 6840 section 5.1, which names are lowercased in canonical form.
unfoldable pub record_types : List TypeDefinition
record_types =
    -- RFC 1035 section 3.4.1
    row 1 "A" (field "address" Ipv4 ∷ [])
    -- RFC 1035 section 3.3.11
    ∷ row 2 "NS" (field "nsdname" CompressibleName ∷ [])
    -- RFC 1035 section 3.3.4
    ∷ row 3 "MD" (field "madname" CompressibleName ∷ [])
    -- RFC 1035 section 3.3.5
    ∷ row 4 "MF" (field "madname" CompressibleName ∷ [])
    -- RFC 1035 section 3.3.1
    ∷ row 5 "CNAME" (field "cname" CompressibleName ∷ [])
    -- RFC 1035 section 3.3.13
    ∷ row 6 "SOA" (field "mname" CompressibleName ∷ field "rname" CompressibleName ∷ field "serial" Number32 ∷ field "refresh" Seconds ∷ field "retry" Seconds
    ∷ field "expire" Seconds ∷ field "minimum" Seconds ∷ [])
    -- RFC 1035 section 3.3.3
    ∷ row 7 "MB" (field "madname" CompressibleName ∷ [])
    -- RFC 1035 section 3.3.6
    ∷ row 8 "MG" (field "mgmname" CompressibleName ∷ [])
    -- RFC 1035 section 3.3.8
    ∷ row 9 "MR" (field "newname" CompressibleName ∷ [])
    -- RFC 1035 section 3.3.10
    ∷ row 10 "NULL" (field "data" Opaque ∷ [])
    -- RFC 1035 section 3.3.12
    ∷ row 12 "PTR" (field "ptrdname" CompressibleName ∷ [])
    -- RFC 1035 section 3.3.2
    ∷ row 13 "HINFO" (field "cpu" CharacterString ∷ field "os" CharacterString ∷ [])
    -- RFC 1035 section 3.3.7
    ∷ row 14 "MINFO" (field "rmailbx" CompressibleName ∷ field "emailbx" CompressibleName ∷ [])
    -- RFC 1035 section 3.3.9
    ∷ row 15 "MX" (field "preference" Number16 ∷ field "exchange" CompressibleName ∷ [])
    -- RFC 1035 section 3.3.14
    ∷ row 16 "TXT" (field "txt-data" Strings ∷ [])
    -- RFC 1183 section 2.2
    ∷ row 17 "RP" (field "mbox-dname" PointedName ∷ field "txt-dname" PointedName ∷ [])
    -- RFC 1183 section 1
    ∷ row 18 "AFSDB" (field "subtype" Number16 ∷ field "hostname" PointedName ∷ [])
    -- RFC 1183 section 3.1
    ∷ row 19 "X25" (field "psdn-address" CharacterString ∷ [])
    -- RFC 1183 section 3.3
    ∷ row 21 "RT" (field "preference" Number16 ∷ field "intermediate-host" PointedName ∷ [])
    -- RFC 1348
    ∷ row 23 "NSAP-PTR" (field "owner" PlainName ∷ [])
    -- RFC 2535 section 4.1
    ∷ row 24 "SIG" (field "type-covered" RecordType ∷ field "algorithm" Number8 ∷ field "labels" Number8 ∷ field "original-ttl" Seconds ∷ field "expiration"
    Time ∷ field "inception" Time ∷ field "key-tag" Number16 ∷ field "signer" PointedName ∷ field "signature" Base64 ∷ [])
    -- RFC 2535 section 3.1
    ∷ row 25 "KEY" (field "flags" Number16 ∷ field "protocol" Number8 ∷ field "algorithm" Number8 ∷ field "public-key" Base64 ∷ [])
    -- RFC 2163 section 4
    ∷ row 26 "PX" (field "preference" Number16 ∷ field "map822" PointedName ∷ field "mapx400" PointedName ∷ [])
    -- RFC 1712 section 3
    ∷ row 27 "GPOS" (field "longitude" CharacterString ∷ field "latitude" CharacterString ∷ field "altitude" CharacterString ∷ [])
    -- RFC 3596 section 2.2
    ∷ row 28 "AAAA" (field "address" Ipv6 ∷ [])
    -- RFC 1876 section 2
    ∷ row 29 "LOC" (field "location" Location ∷ [])
    -- RFC 2535 section 5.2
    ∷ row 30 "NXT" (field "next" PointedName ∷ field "types" SmallTypeBitMap ∷ [])
    -- the Nimrod proposal that the IANA registry names
    ∷ row 31 "EID" (field "identifier" Hexadecimal ∷ [])
    -- the Nimrod proposal that the IANA registry names
    ∷ row 32 "NIMLOC" (field "locator" Hexadecimal ∷ [])
    -- RFC 2782
    ∷ row 33 "SRV" (field "priority" Number16 ∷ field "weight" Number16 ∷ field "port" Number16 ∷ field "target" PointedName ∷ [])
    -- RFC 3403 section 4.1
    ∷ row 35 "NAPTR" (field "order" Number16 ∷ field "preference" Number16 ∷ field "flags" CharacterString ∷ field "services" CharacterString ∷ field "regexp"
    CharacterString ∷ field "replacement" PointedName ∷ [])
    -- RFC 2230 section 3.1
    ∷ row 36 "KX" (field "preference" Number16 ∷ field "exchanger" LowercasedName ∷ [])
    -- RFC 4398 section 2
    ∷ row 37 "CERT" (field "certificate-type" Number16 ∷ field "key-tag" Number16 ∷ field "algorithm" Number8 ∷ field "certificate" Base64 ∷ [])
    -- RFC 6672 section 2.1
    ∷ row 39 "DNAME" (field "target" LowercasedName ∷ [])
    -- RFC 3123 section 4
    ∷ row 42 "APL" (field "prefixes" AddressPrefixes ∷ [])
    -- RFC 4034 section 5.1
    ∷ row 43 "DS" (field "key-tag" Number16 ∷ field "algorithm" Number8 ∷ field "digest-type" Number8 ∷ field "digest" Hexadecimal ∷ [])
    -- RFC 4255 section 3.1
    ∷ row 44 "SSHFP" (field "algorithm" Number8 ∷ field "fp-type" Number8 ∷ field "fingerprint" Hexadecimal ∷ [])
    -- RFC 4025 section 2.1
    ∷ row 45 "IPSECKEY" (field "precedence" Number8 ∷ field "gateway-and-key" GatewayAndKey ∷ [])
    -- RFC 4034 section 3.1
    ∷ row 46 "RRSIG" (field "type-covered" RecordType ∷ field "algorithm" Number8 ∷ field "labels" Number8 ∷ field "original-ttl" Seconds ∷ field "expiration"
    Time ∷ field "inception" Time ∷ field "key-tag" Number16 ∷ field "signer" LowercasedName ∷ field "signature" Base64 ∷ [])
    -- RFC 4034 section 4.1
    ∷ row 47 "NSEC" (field "next" PlainName ∷ field "types" TypeBitMap ∷ [])
    -- RFC 4034 section 2.1
    ∷ row 48 "DNSKEY" (field "flags" Number16 ∷ field "protocol" Number8 ∷ field "algorithm" Number8 ∷ field "public-key" Base64 ∷ [])
    -- RFC 4701 section 3.1
    ∷ row 49 "DHCID" (field "identifier" Base64 ∷ [])
    -- RFC 5155 section 3.2
    ∷ row 50 "NSEC3" (field "hash-algorithm" Number8 ∷ field "flags" Number8 ∷ field "iterations" Number16 ∷ field "salt" Salt ∷ field "next-hashed-owner" Hash ∷ field "types" TypeBitMap ∷ [])
    -- RFC 5155 section 4.2
    ∷ row 51 "NSEC3PARAM" (field "hash-algorithm" Number8 ∷ field "flags" Number8 ∷ field "iterations" Number16 ∷ field "salt" Salt ∷ [])
    -- RFC 6698 section 2.1
    ∷ row 52 "TLSA" (field "usage" Number8 ∷ field "selector" Number8 ∷ field "matching-type" Number8 ∷ field "data" Hexadecimal ∷ [])
    -- RFC 8162 section 2
    ∷ row 53 "SMIMEA" (field "usage" Number8 ∷ field "selector" Number8 ∷ field "matching-type" Number8 ∷ field "data" Hexadecimal ∷ [])
    -- RFC 8005 section 5
    ∷ row 55 "HIP" (field "identity" HostIdentity ∷ [])
    -- the template of the IANA registry
    ∷ row 56 "NINFO" (field "zs-data" Strings ∷ [])
    -- the template of the IANA registry
    ∷ row 57 "RKEY" (field "flags" Number16 ∷ field "protocol" Number8 ∷ field "algorithm" Number8 ∷ field "public-key" Base64 ∷ [])
    -- the template of the IANA registry
    ∷ row 58 "TALINK" (field "previous" PlainName ∷ field "next" PlainName ∷ [])
    -- RFC 7344 section 3.1
    ∷ row 59 "CDS" (field "key-tag" Number16 ∷ field "algorithm" Number8 ∷ field "digest-type" Number8 ∷ field "digest" Hexadecimal ∷ [])
    -- RFC 7344 section 3.2
    ∷ row 60 "CDNSKEY" (field "flags" Number16 ∷ field "protocol" Number8 ∷ field "algorithm" Number8 ∷ field "public-key" Base64 ∷ [])
    -- RFC 7929 section 2.1
    ∷ row 61 "OPENPGPKEY" (field "public-key" Base64 ∷ [])
    -- RFC 7477 section 2.1
    ∷ row 62 "CSYNC" (field "serial" Number32 ∷ field "flags" Number16 ∷ field "types" TypeBitMap ∷ [])
    -- RFC 8976 section 2.2
    ∷ row 63 "ZONEMD" (field "serial" Number32 ∷ field "scheme" Number8 ∷ field "hash-algorithm" Number8 ∷ field "digest" Hexadecimal ∷ [])
    -- RFC 9460 section 2.2
    ∷ row 64 "SVCB" (field "priority" Number16 ∷ field "target" PlainName ∷ field "parameters" ServiceParameters ∷ [])
    -- RFC 9460 section 9
    ∷ row 65 "HTTPS" (field "priority" Number16 ∷ field "target" PlainName ∷ field "parameters" ServiceParameters ∷ [])
    -- RFC 9859 section 2.1
    ∷ row 66 "DSYNC" (field "rrtype" RecordType ∷ field "scheme" SyncScheme ∷ field "port" Number16 ∷ field "target" PlainName ∷ [])
    -- RFC 9886 section 5.1
    ∷ row 67 "HHIT" (field "data" Base64 ∷ [])
    -- RFC 9886 section 5.2
    ∷ row 68 "BRID" (field "data" Base64 ∷ [])
    -- RFC 4408 section 3.1.1
    ∷ row 99 "SPF" (field "txt-data" Strings ∷ [])
    -- RFC 6742 section 2.1
    ∷ row 104 "NID" (field "preference" Number16 ∷ field "node-id" Locator64 ∷ [])
    -- RFC 6742 section 2.2
    ∷ row 105 "L32" (field "preference" Number16 ∷ field "locator" Ipv4 ∷ [])
    -- RFC 6742 section 2.3
    ∷ row 106 "L64" (field "preference" Number16 ∷ field "locator" Locator64 ∷ [])
    -- RFC 6742 section 2.4
    ∷ row 107 "LP" (field "preference" Number16 ∷ field "fqdn" PlainName ∷ [])
    -- RFC 7043 section 3.1
    ∷ row 108 "EUI48" (field "address" Eui48 ∷ [])
    -- RFC 7043 section 4.1
    ∷ row 109 "EUI64" (field "address" Eui64 ∷ [])
    -- RFC 2930 section 2
    ∷ row 249 "TKEY" (field "algorithm" PlainName ∷ field "inception" Time ∷ field "expiration" Time ∷ field "mode" Number16 ∷ field "error" Number16 ∷ field
    "key" SizedOctets ∷ field "other" SizedOctets ∷ [])
    -- RFC 8945 section 4.2
    ∷ row 250 "TSIG" (field "algorithm" PlainName ∷ field "time-signed" Number48 ∷ field "fudge" Number16 ∷ field "mac" SizedOctets ∷ field "original-id"
    Number16 ∷ field "error" Number16 ∷ field "other" SizedOctets ∷ [])
    -- RFC 7553 section 4.5
    ∷ row 256 "URI" (field "priority" Number16 ∷ field "weight" Number16 ∷ field "target" Text ∷ [])
    -- RFC 8659 section 4.1
    ∷ row 257 "CAA" (field "flags" Number8 ∷ field "tag" Tag ∷ field "value" Text ∷ [])
    -- the template of the IANA registry
    ∷ row 258 "AVC" (field "txt-data" Strings ∷ [])
    -- the draft that the IANA registry names
    ∷ row 259 "DOA" (field "enterprise" Number32 ∷ field "type" Number32 ∷ field "location" Number8 ∷ field "media-type" CharacterString ∷ field "data" Base64OrHyphen ∷ [])
    -- RFC 8777 section 4.2
    ∷ row 260 "AMTRELAY" (field "precedence" Number8 ∷ field "relay" Relay ∷ [])
    -- RFC 9606 section 4
    ∷ row 261 "RESINFO" (field "txt-data" Strings ∷ [])
    -- the template of the IANA registry
    ∷ row 262 "WALLET" (field "txt-data" Strings ∷ [])
    -- the draft that the IANA registry names
    ∷ row 263 "CLA" (field "cla-data" Strings ∷ [])
    -- the draft that the IANA registry names
    ∷ row 264 "IPN" (field "node" Number64 ∷ [])
    -- the template of the IANA registry
    ∷ row 32768 "TA" (field "key-tag" Number16 ∷ field "algorithm" Number8 ∷ field "digest-type" Number8 ∷ field "digest" Hexadecimal ∷ [])
    -- RFC 4431 section 2
    ∷ row 32769 "DLV" (field "key-tag" Number16 ∷ field "algorithm" Number8 ∷ field "digest-type" Number8 ∷ field "digest" Hexadecimal ∷ [])
    ∷ []
