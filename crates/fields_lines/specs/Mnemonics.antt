-- Names of numbers in RDATA.
use Rattle.std.specs.Prelude.{ℕ, ◌==◌, if◌then◌else◌, Option, Some, option_map, option_and_then, find, List, [], ◌∷◌, codes, bit_or}
use Rattle.std.specs.Str.{str_eq_ignore_ascii_case}
use Rattle.dns_iana.specs.Mnemonics.{Mnemonics}

-- algorithms. RFC 4034 appendix A.1: 1 to 5 and 252 to 254; RFC 5155 section 2: 6, 7; RFC 5702 section 7: 8, 10; RFC 5933 section 8: 12; RFC 6605 section 7: 13, 14; RFC 8080 section 5:
-- 15, 16; RFC 8078 section 4: 0; RFC 9563: 17; RFC 9558: 23. A second name is what BIND or dnspython reads
unfoldable pub algorithms : Mnemonics
algorithms =
    (0, codes "DELETE")
    ∷ (1, codes "RSAMD5")
    ∷ (2, codes "DH")
    ∷ (3, codes "DSA")
    ∷ (4, codes "ECC")
    ∷ (5, codes "RSASHA1")
    ∷ (6, codes "DSA-NSEC3-SHA1")
    ∷ (6, codes "DSANSEC3SHA1")
    ∷ (6, codes "NSEC3DSA")
    ∷ (7, codes "RSASHA1-NSEC3-SHA1")
    ∷ (7, codes "RSASHA1NSEC3SHA1")
    ∷ (7, codes "NSEC3RSASHA1")
    ∷ (8, codes "RSASHA256")
    ∷ (10, codes "RSASHA512")
    ∷ (12, codes "ECC-GOST")
    ∷ (12, codes "ECCGOST")
    ∷ (13, codes "ECDSAP256SHA256")
    ∷ (13, codes "ECDSA256")
    ∷ (14, codes "ECDSAP384SHA384")
    ∷ (14, codes "ECDSA384")
    ∷ (15, codes "ED25519")
    ∷ (16, codes "ED448")
    ∷ (17, codes "SM2SM3")
    ∷ (23, codes "ECC-GOST12")
    ∷ (252, codes "INDIRECT")
    ∷ (253, codes "PRIVATEDNS")
    ∷ (254, codes "PRIVATEOID")
    ∷ []

-- types of certificates. RFC 4398 section 2.1
unfoldable pub certificate_types : Mnemonics
certificate_types =
    (1, codes "PKIX")
    ∷ (2, codes "SPKI")
    ∷ (3, codes "PGP")
    ∷ (4, codes "IPKIX")
    ∷ (5, codes "ISPKI")
    ∷ (6, codes "IPGP")
    ∷ (7, codes "ACPKIX")
    ∷ (8, codes "IACPKIX")
    ∷ (253, codes "URI")
    ∷ (254, codes "OID")
    ∷ []

-- errors of TSIG and TKEY records. RFC 1035 section 4.1.1: 0 to 5; RFC 2136 section 2.2: 6 to 10; RFC 8945 section 3: 16 to 18, 22; RFC 2930 section 2.6: 19 to 21; RFC 7873 section 8: 23
unfoldable pub errors : Mnemonics
errors =
    (0, codes "NOERROR")
    ∷ (1, codes "FORMERR")
    ∷ (2, codes "SERVFAIL")
    ∷ (3, codes "NXDOMAIN")
    ∷ (4, codes "NOTIMP")
    ∷ (5, codes "REFUSED")
    ∷ (6, codes "YXDOMAIN")
    ∷ (7, codes "YXRRSET")
    ∷ (8, codes "NXRRSET")
    ∷ (9, codes "NOTAUTH")
    ∷ (10, codes "NOTZONE")
    ∷ (16, codes "BADSIG")
    ∷ (17, codes "BADKEY")
    ∷ (18, codes "BADTIME")
    ∷ (19, codes "BADMODE")
    ∷ (20, codes "BADNAME")
    ∷ (21, codes "BADALG")
    ∷ (22, codes "BADTRUNC")
    ∷ (23, codes "BADCOOKIE")
    ∷ []

-- flags of KEY, DNSKEY and CDNSKEY records. RFC 2535 section 7.1; KSK is the flag SEP of RFC 4034 section 2.1.1, as BIND reads it
unfoldable pub key_flags : Mnemonics
key_flags =
    (0x4000, codes "NOCONF")
    ∷ (0x8000, codes "NOAUTH")
    ∷ (0xc000, codes "NOKEY")
    ∷ (0x2000, codes "FLAG2")
    ∷ (0x1000, codes "EXTEND")
    ∷ (0x0800, codes "FLAG4")
    ∷ (0x0400, codes "FLAG5")
    ∷ (0x0000, codes "USER")
    ∷ (0x0100, codes "ZONE")
    ∷ (0x0200, codes "HOST")
    ∷ (0x0300, codes "NTYP3")
    ∷ (0x0080, codes "FLAG8")
    ∷ (0x0040, codes "FLAG9")
    ∷ (0x0020, codes "FLAG10")
    ∷ (0x0010, codes "FLAG11")
    ∷ (0, codes "SIG0")
    ∷ (1, codes "SIG1")
    ∷ (2, codes "SIG2")
    ∷ (3, codes "SIG3")
    ∷ (4, codes "SIG4")
    ∷ (5, codes "SIG5")
    ∷ (6, codes "SIG6")
    ∷ (7, codes "SIG7")
    ∷ (8, codes "SIG8")
    ∷ (9, codes "SIG9")
    ∷ (10, codes "SIG10")
    ∷ (11, codes "SIG11")
    ∷ (12, codes "SIG12")
    ∷ (13, codes "SIG13")
    ∷ (14, codes "SIG14")
    ∷ (15, codes "SIG15")
    ∷ (1, codes "KSK")
    ∷ []

-- the number of the first entry that has this name, ignoring ASCII case
abbrev pub named : Mnemonics → List ℕ → Option ℕ
named names name = option_map (λ entry. entry.0) (find (λ entry. str_eq_ignore_ascii_case entry.1 name) names)

-- a text with a character before its first part
abbrev pub with_first : ℕ → List (List ℕ) → List (List ℕ)
with_first c [] = (c ∷ []) ∷ []
with_first c (part ∷ parts) = (c ∷ part) ∷ parts

-- the parts of a text that have a vertical bar between them
abbrev pub parts_of : List ℕ → List (List ℕ)
parts_of [] = [] ∷ []
parts_of (c ∷ text) = if c == 0x7c then [] ∷ parts_of text else with_first c (parts_of text)

-- these flags and those of the names; none if one of them is no name
abbrev pub flags_after : ℕ → List (List ℕ) → Option ℕ
flags_after flags [] = Some flags
flags_after flags (name ∷ names) = option_and_then (λ flag. flags_after (bit_or flags flag) names) (named key_flags name)

-- the flags of a key by their names, with vertical bars between them
abbrev pub flags_of : List ℕ → Option ℕ
flags_of text = flags_after 0 (parts_of text)
