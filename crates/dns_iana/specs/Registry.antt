-- IANA's registry "Domain Name System (DNS) Parameters" (RFC 6895, as of 2026): numbers and their names. Beside each entry is its source.
use Rattle.std.specs.Prelude.{ℕ, Bool, true, ◌&&◌, List, [], ◌∷◌, ◌++◌, map, nat_lt, codes}
use Rattle.std.specs.List.{range_with_len}
use Rattle.dns_iana.specs.Mnemonics.{Mnemonics}

-- the registered record types; 255, which the registry writes `*`, is `ANY`
unfoldable pub registered_types : Mnemonics
registered_types =
    (1, codes "A")  -- RFC 1035 section 3.4.1
    ∷ (2, codes "NS")  -- RFC 1035 section 3.3.11
    ∷ (3, codes "MD")  -- RFC 1035 section 3.3.4
    ∷ (4, codes "MF")  -- RFC 1035 section 3.3.5
    ∷ (5, codes "CNAME")  -- RFC 1035 section 3.3.1
    ∷ (6, codes "SOA")  -- RFC 1035 section 3.3.13
    ∷ (7, codes "MB")  -- RFC 1035 section 3.3.3
    ∷ (8, codes "MG")  -- RFC 1035 section 3.3.6
    ∷ (9, codes "MR")  -- RFC 1035 section 3.3.8
    ∷ (10, codes "NULL")  -- RFC 1035 section 3.3.10
    ∷ (11, codes "WKS")  -- RFC 1035 section 3.4.2
    ∷ (12, codes "PTR")  -- RFC 1035 section 3.3.12
    ∷ (13, codes "HINFO")  -- RFC 1035 section 3.3.2
    ∷ (14, codes "MINFO")  -- RFC 1035 section 3.3.7
    ∷ (15, codes "MX")  -- RFC 1035 section 3.3.9
    ∷ (16, codes "TXT")  -- RFC 1035 section 3.3.14
    ∷ (17, codes "RP")  -- RFC 1183 section 2.2
    ∷ (18, codes "AFSDB")  -- RFC 1183 section 1, RFC 5864
    ∷ (19, codes "X25")  -- RFC 1183 section 3.1
    ∷ (20, codes "ISDN")  -- RFC 1183 section 3.2
    ∷ (21, codes "RT")  -- RFC 1183 section 3.3
    ∷ (22, codes "NSAP")  -- RFC 1706
    ∷ (23, codes "NSAP-PTR")  -- RFC 1706
    ∷ (24, codes "SIG")  -- RFC 2931
    ∷ (25, codes "KEY")  -- RFC 2535 section 3, RFC 3445
    ∷ (26, codes "PX")  -- RFC 2163
    ∷ (27, codes "GPOS")  -- RFC 1712
    ∷ (28, codes "AAAA")  -- RFC 3596 section 2.1
    ∷ (29, codes "LOC")  -- RFC 1876
    ∷ (30, codes "NXT")  -- RFC 2535 section 5, RFC 3755
    ∷ (31, codes "EID")  -- no RFC
    ∷ (32, codes "NIMLOC")  -- no RFC
    ∷ (33, codes "SRV")  -- RFC 2782
    ∷ (34, codes "ATMA")  -- no RFC
    ∷ (35, codes "NAPTR")  -- RFC 3403 section 4
    ∷ (36, codes "KX")  -- RFC 2230
    ∷ (37, codes "CERT")  -- RFC 4398
    ∷ (38, codes "A6")  -- RFC 2874, RFC 6563
    ∷ (39, codes "DNAME")  -- RFC 6672
    ∷ (40, codes "SINK")  -- no RFC
    ∷ (41, codes "OPT")  -- RFC 6891 section 6.1.1
    ∷ (42, codes "APL")  -- RFC 3123
    ∷ (43, codes "DS")  -- RFC 4034 section 5
    ∷ (44, codes "SSHFP")  -- RFC 4255
    ∷ (45, codes "IPSECKEY")  -- RFC 4025
    ∷ (46, codes "RRSIG")  -- RFC 4034 section 3
    ∷ (47, codes "NSEC")  -- RFC 4034 section 4
    ∷ (48, codes "DNSKEY")  -- RFC 4034 section 2
    ∷ (49, codes "DHCID")  -- RFC 4701
    ∷ (50, codes "NSEC3")  -- RFC 5155 section 3
    ∷ (51, codes "NSEC3PARAM")  -- RFC 5155 section 4
    ∷ (52, codes "TLSA")  -- RFC 6698
    ∷ (53, codes "SMIMEA")  -- RFC 8162
    ∷ (55, codes "HIP")  -- RFC 8005
    ∷ (56, codes "NINFO")  -- no RFC
    ∷ (57, codes "RKEY")  -- no RFC
    ∷ (58, codes "TALINK")  -- no RFC
    ∷ (59, codes "CDS")  -- RFC 7344 section 3.1
    ∷ (60, codes "CDNSKEY")  -- RFC 7344 section 3.2
    ∷ (61, codes "OPENPGPKEY")  -- RFC 7929
    ∷ (62, codes "CSYNC")  -- RFC 7477
    ∷ (63, codes "ZONEMD")  -- RFC 8976
    ∷ (64, codes "SVCB")  -- RFC 9460
    ∷ (65, codes "HTTPS")  -- RFC 9460 section 9
    ∷ (66, codes "DSYNC")  -- RFC 9859
    ∷ (67, codes "HHIT")  -- RFC 9886
    ∷ (68, codes "BRID")  -- RFC 9886
    ∷ (99, codes "SPF")  -- RFC 7208 section 3.1
    ∷ (100, codes "UINFO")  -- no RFC
    ∷ (101, codes "UID")  -- no RFC
    ∷ (102, codes "GID")  -- no RFC
    ∷ (103, codes "UNSPEC")  -- no RFC
    ∷ (104, codes "NID")  -- RFC 6742 section 2.1
    ∷ (105, codes "L32")  -- RFC 6742 section 2.2
    ∷ (106, codes "L64")  -- RFC 6742 section 2.3
    ∷ (107, codes "LP")  -- RFC 6742 section 2.4
    ∷ (108, codes "EUI48")  -- RFC 7043 section 3
    ∷ (109, codes "EUI64")  -- RFC 7043 section 4
    ∷ (128, codes "NXNAME")  -- RFC 9824
    ∷ (249, codes "TKEY")  -- RFC 2930
    ∷ (250, codes "TSIG")  -- RFC 8945
    ∷ (251, codes "IXFR")  -- RFC 1995
    ∷ (252, codes "AXFR")  -- RFC 1035 section 3.2.3
    ∷ (253, codes "MAILB")  -- RFC 1035 section 3.2.3
    ∷ (254, codes "MAILA")  -- RFC 1035 section 3.2.3
    ∷ (255, codes "ANY")  -- RFC 1035 section 3.2.3
    ∷ (256, codes "URI")  -- RFC 7553
    ∷ (257, codes "CAA")  -- RFC 8659
    ∷ (258, codes "AVC")  -- no RFC
    ∷ (259, codes "DOA")  -- no RFC
    ∷ (260, codes "AMTRELAY")  -- RFC 8777
    ∷ (261, codes "RESINFO")  -- RFC 9606
    ∷ (262, codes "WALLET")  -- no RFC
    ∷ (263, codes "CLA")  -- no RFC
    ∷ (264, codes "IPN")  -- no RFC
    ∷ (32768, codes "TA")  -- no RFC
    ∷ (32769, codes "DLV")  -- RFC 4431, RFC 8749
    ∷ []

-- the registered classes; 255, which the registry writes `*`, is `ANY`
unfoldable pub registered_classes : Mnemonics
registered_classes =
    (1, codes "IN")  -- RFC 1035 section 3.2.4
    ∷ (3, codes "CH")  -- RFC 1035 section 3.2.4
    ∷ (4, codes "HS")  -- RFC 1035 section 3.2.4
    ∷ (254, codes "NONE")  -- RFC 2136 section 2.4
    ∷ (255, codes "ANY")  -- RFC 1035 section 3.2.5
    ∷ []

-- the registered opcodes
unfoldable pub registered_opcodes : Mnemonics
registered_opcodes =
    (0, codes "Query")  -- RFC 1035 section 4.1.1
    ∷ (1, codes "IQuery")  -- RFC 1035 section 4.1.1, RFC 3425
    ∷ (2, codes "Status")  -- RFC 1035 section 4.1.1
    ∷ (4, codes "Notify")  -- RFC 1996
    ∷ (5, codes "Update")  -- RFC 2136 section 2.2
    ∷ (6, codes "DSO")  -- RFC 8490
    ∷ []

-- the registered rcodes of a header
unfoldable pub registered_rcodes : Mnemonics
registered_rcodes =
    (0, codes "NoError")  -- RFC 1035 section 4.1.1
    ∷ (1, codes "FormErr")  -- RFC 1035 section 4.1.1
    ∷ (2, codes "ServFail")  -- RFC 1035 section 4.1.1
    ∷ (3, codes "NXDomain")  -- RFC 1035 section 4.1.1
    ∷ (4, codes "NotImp")  -- RFC 1035 section 4.1.1
    ∷ (5, codes "Refused")  -- RFC 1035 section 4.1.1
    ∷ (6, codes "YXDomain")  -- RFC 2136 section 2.2
    ∷ (7, codes "YXRRSet")  -- RFC 2136 section 2.2
    ∷ (8, codes "NXRRSet")  -- RFC 2136 section 2.2
    ∷ (9, codes "NotAuth")  -- RFC 2136, RFC 8945
    ∷ (10, codes "NotZone")  -- RFC 2136 section 2.2
    ∷ (11, codes "DSOTYPENI")  -- RFC 8490
    ∷ []

-- the registered extended rcodes; in an OPT record 16 isn't TSIG's `BADSIG`
unfoldable pub registered_opt_rcodes : Mnemonics
registered_opt_rcodes =
    (0, codes "NoError")  -- RFC 1035 section 4.1.1
    ∷ (1, codes "FormErr")  -- RFC 1035 section 4.1.1
    ∷ (2, codes "ServFail")  -- RFC 1035 section 4.1.1
    ∷ (3, codes "NXDomain")  -- RFC 1035 section 4.1.1
    ∷ (4, codes "NotImp")  -- RFC 1035 section 4.1.1
    ∷ (5, codes "Refused")  -- RFC 1035 section 4.1.1
    ∷ (6, codes "YXDomain")  -- RFC 2136 section 2.2
    ∷ (7, codes "YXRRSet")  -- RFC 2136 section 2.2
    ∷ (8, codes "NXRRSet")  -- RFC 2136 section 2.2
    ∷ (9, codes "NotAuth")  -- RFC 2136, RFC 8945
    ∷ (10, codes "NotZone")  -- RFC 2136 section 2.2
    ∷ (11, codes "DSOTYPENI")  -- RFC 8490
    ∷ (16, codes "BADVERS")  -- RFC 6891 section 9
    ∷ (17, codes "BADKEY")  -- RFC 8945
    ∷ (18, codes "BADTIME")  -- RFC 8945
    ∷ (19, codes "BADMODE")  -- RFC 2930
    ∷ (20, codes "BADNAME")  -- RFC 2930
    ∷ (21, codes "BADALG")  -- RFC 2930
    ∷ (22, codes "BADTRUNC")  -- RFC 8945
    ∷ (23, codes "BADCOOKIE")  -- RFC 7873
    ∷ []

-- the registered codes of EDNS options
unfoldable pub registered_options : Mnemonics
registered_options =
    (1, codes "LLQ")  -- RFC 8764
    ∷ (2, codes "Update Lease")  -- RFC 9664
    ∷ (3, codes "NSID")  -- RFC 5001
    ∷ (5, codes "DAU")  -- RFC 6975
    ∷ (6, codes "DHU")  -- RFC 6975
    ∷ (7, codes "N3U")  -- RFC 6975
    ∷ (8, codes "edns-client-subnet")  -- RFC 7871
    ∷ (9, codes "EDNS EXPIRE")  -- RFC 7314
    ∷ (10, codes "COOKIE")  -- RFC 7873
    ∷ (11, codes "edns-tcp-keepalive")  -- RFC 7828
    ∷ (12, codes "Padding")  -- RFC 7830
    ∷ (13, codes "CHAIN")  -- RFC 7901
    ∷ (14, codes "edns-key-tag")  -- RFC 8145
    ∷ (15, codes "Extended DNS Error")  -- RFC 8914
    ∷ (16, codes "EDNS-Client-Tag")  -- no RFC
    ∷ (17, codes "EDNS-Server-Tag")  -- no RFC
    ∷ (18, codes "Report-Channel")  -- RFC 9567
    ∷ (19, codes "ZONEVERSION")  -- RFC 9660
    ∷ (20292, codes "Umbrella Ident")  -- no RFC
    ∷ (26946, codes "DeviceID")  -- no RFC
    ∷ []

-- the registered codes of extended errors
unfoldable pub registered_extended_errors : Mnemonics
registered_extended_errors =
    (0, codes "Other Error")  -- RFC 8914 section 4.1
    ∷ (1, codes "Unsupported DNSKEY Algorithm")  -- RFC 8914 section 4.2
    ∷ (2, codes "Unsupported DS Digest Type")  -- RFC 8914 section 4.3
    ∷ (3, codes "Stale Answer")  -- RFC 8914 section 4.4
    ∷ (4, codes "Forged Answer")  -- RFC 8914 section 4.5
    ∷ (5, codes "DNSSEC Indeterminate")  -- RFC 8914 section 4.6
    ∷ (6, codes "DNSSEC Bogus")  -- RFC 8914 section 4.7
    ∷ (7, codes "Signature Expired")  -- RFC 8914 section 4.8
    ∷ (8, codes "Signature Not Yet Valid")  -- RFC 8914 section 4.9
    ∷ (9, codes "DNSKEY Missing")  -- RFC 8914 section 4.10
    ∷ (10, codes "RRSIGs Missing")  -- RFC 8914 section 4.11
    ∷ (11, codes "No Zone Key Bit Set")  -- RFC 8914 section 4.12
    ∷ (12, codes "NSEC Missing")  -- RFC 8914 section 4.13
    ∷ (13, codes "Cached Error")  -- RFC 8914 section 4.14
    ∷ (14, codes "Not Ready")  -- RFC 8914 section 4.15
    ∷ (15, codes "Blocked")  -- RFC 8914 section 4.16
    ∷ (16, codes "Censored")  -- RFC 8914 section 4.17
    ∷ (17, codes "Filtered")  -- RFC 8914 section 4.18
    ∷ (18, codes "Prohibited")  -- RFC 8914 section 4.19
    ∷ (19, codes "Stale NXDomain Answer")  -- RFC 8914 section 4.20
    ∷ (20, codes "Not Authoritative")  -- RFC 8914 section 4.21
    ∷ (21, codes "Not Supported")  -- RFC 8914 section 4.22
    ∷ (22, codes "No Reachable Authority")  -- RFC 8914 section 4.23
    ∷ (23, codes "Network Error")  -- RFC 8914 section 4.24
    ∷ (24, codes "Invalid Data")  -- RFC 8914 section 4.25
    ∷ (25, codes "Signature Expired before Valid")  -- no RFC
    ∷ (26, codes "Too Early")  -- RFC 9250
    ∷ (27, codes "Unsupported NSEC3 Iterations Value")  -- RFC 9276
    ∷ (28, codes "Unable to conform to policy")  -- no RFC
    ∷ (29, codes "Synthesized")  -- no RFC
    ∷ (30, codes "Invalid Query Type")  -- RFC 9824
    ∷ []

-- the numbers of a table, in its order
abbrev pub numbers : Mnemonics → List ℕ
numbers names = map (λ entry. entry.0) names

-- the assigned record types: 1 to 53, 55 to 68, 99 to 109, 128, 249 to 264, 32,768 and 32,769
abbrev pub type_numbers : List ℕ
type_numbers = range_with_len 1 53 ++ range_with_len 55 14 ++ range_with_len 99 11 ++ (128 ∷ []) ++ range_with_len 249 16 ++ (32768 ∷ 32769 ∷ [])

-- each number is greater than the one before it, the first greater than this one
abbrev pub rises_from : ℕ → Mnemonics → Bool
rises_from n [] = true
rises_from n (entry ∷ names) = nat_lt n entry.0 && rises_from entry.0 names

-- each number is greater than the one before it
abbrev pub is_rising : Mnemonics → Bool
is_rising [] = true
is_rising (entry ∷ names) = rises_from entry.0 names
