-- Which records of a reply count, by their owner, type and class. RFC 1034 sections 3.1 and 3.7.1, RFC 1035 sections 3.2.3 and 3.2.5.
use Rattle.std.specs.Prelude.{◌==◌, ◌&&◌, ◌||◌, ℕ, Bool, not, [], ◌∷◌}
use Rattle.dns_name.specs.Names.{Labels}
use Rattle.dns_name.specs.NameOrders.{names_equal}
use Rattle.dns_item.specs.Items.{RecordItem}
use Rattle.dns_item.specs.ParsedRecord.{EncodedRecord}
use Rattle.dns_item.specs.Questions.{QuestionItem}

-- whether a name is another name or below it, ignoring ASCII case: RFC 1034 section 3.1
unfoldable pub is_within : Labels → Labels → Bool
is_within [] other = names_equal [] other
is_within (label ∷ name) other = names_equal (label ∷ name) other || is_within name other

-- whether a name is below another name
abbrev pub is_below : Labels → Labels → Bool
is_below name other = is_within name other && not (names_equal name other)

-- whether QTYPE asks for records of all types: 255 does, and IXFR (251) and AXFR (252), which ask for all records of a zone (RFC 1035 section 3.2.3, RFC 1995)
abbrev pub asks_for_all : ℕ → Bool
asks_for_all qtype = (qtype == 255) || (qtype == 251) || (qtype == 252)

-- whether QTYPE is MAILB (253) and a type MB (7), MG (8) or MR (9), or QTYPE is MAILA (254) and the type MD (3) or MF (4): RFC 1035 section 3.2.3
abbrev pub asks_for_mail : ℕ → ℕ → Bool
asks_for_mail qtype rtype = ((qtype == 253) && ((rtype == 7) || (rtype == 8) || (rtype == 9))) || ((qtype == 254) && ((rtype == 3) || (rtype == 4)))

-- whether QTYPE asks for records of a type
abbrev pub asks_for_type : ℕ → ℕ → Bool
asks_for_type qtype rtype = (rtype == qtype) || asks_for_all qtype || asks_for_mail qtype rtype

-- whether QCLASS asks for records of a class: 255 asks for all classes (RFC 1035 section 3.2.5)
abbrev pub asks_for_class : ℕ → ℕ → Bool
asks_for_class qclass class = (class == qclass) || (qclass == 255)

-- whether a record is one that a question asks for of a name: the name owns it, and its type and class are asked for
abbrev pub is_asked_for : QuestionItem → Labels → EncodedRecord → Bool
is_asked_for q name x = names_equal x.entry.owner name && asks_for_type q.rtype x.entry.rtype && asks_for_class q.class x.entry.class

-- whether a name owns a record, in the classes of a question
abbrev pub is_owned : ℕ → Labels → RecordItem → Bool
is_owned qclass name x = names_equal x.owner name && asks_for_class qclass x.class

-- whether a record is owned by a name within a zone that a name is below: a DNAME record with such an owner redirects the name (RFC 6672 section 2.2)
abbrev pub is_owned_above : ℕ → Labels → Labels → RecordItem → Bool
is_owned_above qclass zone name x = is_below name x.owner && is_within x.owner zone && asks_for_class qclass x.class

-- whether a record is owned by a name within a zone that a name is within: an SOA record with such an owner begins a zone that the name is in (RFC 1034 section 4.2)
abbrev pub is_owned_by_zone : ℕ → Labels → Labels → RecordItem → Bool
is_owned_by_zone qclass zone name x = is_within name x.owner && is_within x.owner zone && asks_for_class qclass x.class

-- whether a record is owned by a name that a name is within, or that is within a zone: NS records with such an owner are of a zone that the name is in, or the zone's servers delegate (RFC 1034
-- section 4.2.1)
abbrev pub is_owned_by_related : ℕ → Labels → Labels → RecordItem → Bool
is_owned_by_related qclass zone name x = (is_within name x.owner || is_within x.owner zone) && asks_for_class qclass x.class

-- whether a record is owned by a name below a zone that a name is within: NS records with such an owner delegate the name (RFC 1034 section 4.2.1)
abbrev pub is_owned_by_cut : ℕ → Labels → Labels → RecordItem → Bool
is_owned_by_cut qclass zone name x = is_within name x.owner && is_below x.owner zone && asks_for_class qclass x.class
