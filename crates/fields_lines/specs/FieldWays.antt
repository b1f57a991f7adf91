-- How the words of fields are completed, and how many words a field has.
use Rattle.std.specs.Prelude.{ℕ, ◌==◌, ◌&&◌, ◌||◌, not, nat_le, min, Bool, if◌then◌else◌, List, [], ◌∷◌, length, codes, bytes_eq, unwrap_or, slice_get}
use Rattle.fields_table.specs.declared.kind.Kind.{Kind}
use Rattle.fields_table.specs.declared.kind.Kind.TheVariants as kinds
use Rattle.fields_lines.specs.declared.way.Way.{Way}
use Rattle.fields_lines.specs.declared.way.Way.TheVariants.{Same, Name, Duration, RecordType, RecordTypes, Tag, Hash, Algorithm, CertificateType, ErrorCode, KeyFlags, Gateway, Relay, HostIdentity}

abbrev pub Texts : Type 0
Texts = List (List ℕ)

-- numbers with names, by the index of the field and the record type: flags of KEY, DNSKEY and CDNSKEY; types of CERT; algorithms of SIG, DS, RRSIG, CDS, TA and DLV,
-- and of KEY, CERT, DNSKEY, RKEY and CDNSKEY; errors of TKEY and TSIG
abbrev pub number_way : ℕ → ℕ → Way
number_way rtype index =
    if (index == 0) && ((rtype == 25) || (rtype == 48) || (rtype == 60)) then KeyFlags
    else if (index == 0) && (rtype == 37) then CertificateType
    else if (index == 1) && ((rtype == 24) || (rtype == 43) || (rtype == 46) || (rtype == 59) || (rtype == 32768) || (rtype == 32769)) then Algorithm
    else if (index == 2) && ((rtype == 25) || (rtype == 37) || (rtype == 48) || (rtype == 57) || (rtype == 60)) then Algorithm
    else if ((index == 4) && (rtype == 249)) || ((index == 5) && (rtype == 250)) then ErrorCode
    else Same

-- how a field of this kind is completed, by the record type and the index of the field
abbrev pub way_of : ℕ → ℕ → Kind → Way
way_of rtype index kinds.Number8 = number_way rtype index
way_of rtype index kinds.Number16 = number_way rtype index
way_of rtype index kinds.Seconds = Duration
way_of rtype index kinds.RecordType = RecordType
way_of rtype index kinds.CompressibleName = Name
way_of rtype index kinds.PointedName = Name
way_of rtype index kinds.LowercasedName = Name
way_of rtype index kinds.PlainName = Name
way_of rtype index kinds.Tag = Tag
way_of rtype index kinds.Hash = Hash
way_of rtype index kinds.SmallTypeBitMap = RecordTypes
way_of rtype index kinds.GatewayAndKey = Gateway
way_of rtype index kinds.Relay = Relay
way_of rtype index kinds.HostIdentity = HostIdentity
way_of rtype index kind = Same

-- a word without zeros at its start
abbrev pub without_zeros : List ℕ → List ℕ
without_zeros [] = []
without_zeros (c ∷ word) = if c == 0x30 then without_zeros word else c ∷ word

-- the word at this index, or an empty one
abbrev pub text_at : Texts → ℕ → List ℕ
text_at words index = unwrap_or (slice_get words index) []

-- whether a word is the number 3, the type of gateways that are names. RFC 4025 section 2.3, RFC 8777 section 4.2.3
abbrev pub is_name_type : List ℕ → Bool
is_name_type word = bytes_eq (without_zeros word) (codes "3")

-- whether a word is the number 0
abbrev pub is_zero : List ℕ → Bool
is_zero word = not (length word == 0) && (length (without_zeros word) == 0)

-- a name, if the test holds
abbrev pub name_if : Bool → Way
name_if test = if test then Name else Same

-- how the word at this index of a field is completed
abbrev pub word_way : Way → Texts → ℕ → Way
word_way Gateway words index = name_if ((index == 2) && is_name_type (text_at words 0))
word_way Relay words index = name_if ((index == 2) && is_name_type (text_at words 1))
word_way HostIdentity words index = name_if (nat_le 3 index)
word_way RecordTypes words index = RecordType
word_way way words index = way

-- the number of words of sized octets, of these words: one if their number is zero, else two
abbrev pub sized_count : Texts → ℕ
sized_count (number ∷ word ∷ words) = if is_zero number then 1 else 2
sized_count words = length words

-- the number of words of a field of this kind, if these words are left: of sized octets one or two; all, if the field is several items, digits that may be split or a form of
-- several words; else one
abbrev pub own_count : Kind → Texts → ℕ
own_count kinds.SizedOctets words = sized_count words
own_count kinds.Strings words = length words
own_count kinds.Hexadecimal words = length words
own_count kinds.Base64 words = length words
own_count kinds.Base64OrHyphen words = length words
own_count kinds.TypeBitMap words = length words
own_count kinds.SmallTypeBitMap words = length words
own_count kinds.ServiceParameters words = length words
own_count kinds.AddressPrefixes words = length words
own_count kinds.Location words = length words
own_count kinds.GatewayAndKey words = length words
own_count kinds.Relay words = length words
own_count kinds.HostIdentity words = length words
own_count kinds.Opaque words = length words
own_count kind words = min (length words) 1
