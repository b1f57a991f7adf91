-- The members for the header of a message, its counts, and a name with its type and class. RFC 8427 sections 2.1 and 2.2.
use Rattle.std.specs.Prelude.{ℕ, List, [], ◌∷◌, ◌++◌, codes}
use Rattle.json.specs.Json.{boolean, string}
use Rattle.dns_name.specs.Names.{Labels}
use Rattle.dns_iana.specs.Classes.{class_text}
use Rattle.dns_code.specs.Header.{HeaderFields}
use Rattle.dns_code.specs.HeaderCounts.{Counts}
use Rattle.fields_plain.specs.TypeNames.{type_word}
use Rattle.fields_plain.specs.ZoneNames.{zone_name_text}
use Rattle.json_print.specs.Values.{Member, numeral}

-- the fields of the header, but for Z, which has no member
abbrev pub header_members : HeaderFields → List Member
header_members f =
    (codes "ID", numeral f.id) ∷ (codes "QR", boolean f.qr) ∷ (codes "Opcode", numeral f.opcode) ∷ (codes "AA", boolean f.aa) ∷ (codes "TC", boolean f.tc)
    ∷ (codes "RD", boolean f.rd) ∷ (codes "RA", boolean f.ra) ∷ (codes "AD", boolean f.ad) ∷ (codes "CD", boolean f.cd) ∷ (codes "RCODE", numeral f.rcode) ∷ []

-- the four counts
abbrev pub count_members : Counts → List Member
count_members c =
    (codes "QDCOUNT", numeral c.qdcount) ∷ (codes "ANCOUNT", numeral c.ancount) ∷ (codes "NSCOUNT", numeral c.nscount) ∷ (codes "ARCOUNT", numeral c.arcount) ∷ []

-- a type as a number and by its registered name, else as TYPE and its number
abbrev pub type_members : List ℕ → List ℕ → ℕ → List Member
type_members number name rtype = (number, numeral rtype) ∷ (name, string (type_word rtype)) ∷ []

-- a class as a number and as IN, CH or HS, else as CLASS and its number
abbrev pub class_members : List ℕ → List ℕ → ℕ → List Member
class_members number name class = (number, numeral class) ∷ (name, string (class_text class)) ∷ []

-- a name with a type and a class, as of a record
abbrev pub owner_members : Labels → ℕ → ℕ → List Member
owner_members name rtype class =
    (codes "NAME", string (zone_name_text name)) ∷ (type_members (codes "TYPE") (codes "TYPEname") rtype ++ class_members (codes "CLASS") (codes "CLASSname") class)
