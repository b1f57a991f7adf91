-- The words of a script's records. Names: RFC 1035 section 5.1; RDATA: RFC 1035 sections 3.3 and 3.4.1; opaque RDATA: RFC 3597 section 5.
use Rattle.std.specs.Prelude.{◌≡◌, ℕ, ◌==◌, List, [], ◌∷◌, length, Ok, codes}
use Rattle.std.specs.List.{slice_split, AllZip}
use Rattle.hex.specs.Hex.{decode_of}
use Rattle.dns_iana.specs.Classes.{SpellsClass}
use Rattle.dns_iana.specs.Types.{SpellsType}
use Rattle.dns_name.specs.NameTexts.{SpellsName}
use Rattle.dns_name.specs.Names.{Labels}
use Rattle.dns_data.specs.A.{address_of}
use Rattle.dns_data.specs.NameData.{cname_of, nsdname_of}
use Rattle.dns_data.specs.Soa.{mname_of, rname_of, serial_of, refresh_of, retry_of, expire_of, minimum_of}
use Rattle.dns_data.specs.UnknownData.{unknown_octets, unknown_rtype_of}
use Rattle.dns_data.specs.declared.soa.Soa.{Soa}
use Rattle.dns_item.specs.Record.{class_of, data_of, owner_of, ttl_of}
use Rattle.dns_item.specs.declared.record.Record.{Record}
use Rattle.dns_lines.specs.declared.known_data.KnownData.{KnownData}
use Rattle.dns_lines.specs.declared.known_data.KnownData.TheVariants as known
use Rattle.dns_name.specs.NameReading.{name_labels}
use Rattle.dnsmsg_tool.specs.ScriptData.{script_rtype_of}
use Rattle.dnsmsg_tool.specs.declared.script_data.ScriptData.{ScriptData}
use Rattle.dnsmsg_tool.specs.declared.script_data.ScriptData.TheVariants.{Known, Opaque}
use Rattle.dnsmsg_tool.specs.ScriptWords.{LineWords, IsNumberUpTo, IsOnly}

-- an IPv4 address: four decimal numbers up to 255, with dots between
abbrev pub IsAddressWord : List ℕ → List ℕ → Type 0
IsAddressWord word octets = AllZip (IsNumberUpTo 255) (slice_split (λ c. c == 46) word) octets × (length octets ≡ 4)

-- one word of hexadecimal digits, which is missing if there are no octets
abbrev pub AreDigits : LineWords → List ℕ → Type 0
AreDigits [] octets = octets ≡ []
AreDigits (word ∷ []) octets = decode_of word.now ≡ Ok octets
AreDigits (word ∷ other ∷ words) octets = ⊥

-- opaque RDATA: the number of octets, and the octets
abbrev pub AreOpaqueWords : List ℕ → LineWords → List ℕ → Type 0
AreOpaqueWords size digits octets = AreDigits digits octets × IsNumberUpTo 65535 size (length octets)

module _ {N : Type 0} (labels : N → Labels) where
  -- the words of the fields of SOA
  pub record AreZoneFields (mname_word rname_word serial_word refresh_word retry_word expire_word minimum_word : List ℕ) (zone : Soa N) : Type 0 where
    pub mname : SpellsName mname_word (labels (mname_of zone))
    pub rname : SpellsName rname_word (labels (rname_of zone))
    pub serial : IsNumberUpTo 4294967295 serial_word (serial_of zone)
    pub refresh : IsNumberUpTo 4294967295 refresh_word (refresh_of zone)
    pub retry : IsNumberUpTo 4294967295 retry_word (retry_of zone)
    pub expire : IsNumberUpTo 4294967295 expire_word (expire_of zone)
    pub minimum : IsNumberUpTo 4294967295 minimum_word (minimum_of zone)

  -- the RDATA of SOA: two names and five numbers
  abbrev pub AreZoneWords : LineWords → Soa N → Type 0
  AreZoneWords (mname ∷ rname ∷ serial ∷ refresh ∷ retry ∷ expire ∷ minimum ∷ []) zone =
      AreZoneFields mname.now rname.now serial.now refresh.now retry.now expire.now minimum.now zone
  AreZoneWords words zone = ⊥

  -- the RDATA of A, NS, CNAME or SOA, by its fields
  abbrev pub AreFieldWords : ℕ → LineWords → KnownData N → Type 0
  AreFieldWords rtype words (known.A address) = (rtype ≡ 1) × IsOnly IsAddressWord words (address_of address)
  AreFieldWords rtype words (known.Ns server) = (rtype ≡ 2) × IsOnly SpellsName words (labels (nsdname_of server))
  AreFieldWords rtype words (known.Cname alias) = (rtype ≡ 5) × IsOnly SpellsName words (labels (cname_of alias))
  AreFieldWords rtype words (known.Soa zone) = (rtype ≡ 6) × AreZoneWords words zone

-- RDATA that is opaque: `\#`, the number of octets, and the octets
abbrev pub AreMarkedWords : LineWords → List ℕ → Type 0
AreMarkedWords (mark ∷ size ∷ digits) octets = (mark.now ≡ codes "\\#") × AreOpaqueWords size.now digits octets
AreMarkedWords words octets = ⊥

-- whether RDATA is opaque: its first word of two or more is `\#`
abbrev pub AreMarked : LineWords → Type 0
AreMarked (mark ∷ size ∷ digits) = mark.now ≡ codes "\\#"
AreMarked words = ⊥

-- the RDATA of a record type, opaque or by its fields
abbrev pub AreDataWords : ℕ → LineWords → ScriptData → Type 0
AreDataWords rtype words (Known value) = ¬ (AreMarked words) × AreFieldWords name_labels rtype words value
AreDataWords rtype words (Opaque unknown) = (unknown_rtype_of unknown ≡ rtype) × AreMarkedWords words (unknown_octets unknown)

module _ {N : Type 0} (labels : N → Labels) where
  -- the words of a record's fields, and those of its RDATA
  pub record AreRecordFields (owner_word ttl_word class_word rtype_word : List ℕ) (words : LineWords) (r : Record N ScriptData) : Type 0 where
    pub owner : SpellsName owner_word (labels (owner_of r))
    pub ttl : IsNumberUpTo 4294967295 ttl_word (ttl_of r)
    pub class : SpellsClass class_word (class_of r)
    pub rtype : SpellsType rtype_word (script_rtype_of (data_of r))
    pub rdata : AreDataWords (script_rtype_of (data_of r)) words (data_of r)

  -- a record: the owner, the TTL in seconds, the class, the type and the RDATA
  abbrev pub AreRecordWords : LineWords → Record N ScriptData → Type 0
  AreRecordWords (owner ∷ ttl ∷ class ∷ rtype ∷ words) r = AreRecordFields owner.now ttl.now class.now rtype.now words r
  AreRecordWords words r = ⊥
