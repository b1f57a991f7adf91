-- The records of a reply that say something of a question, as functions of the readings of its sections. RFC 1035 sections 3.3 and 4.1.
--
-- `answers` is the reading of the answer section, and `authorities` that of the authority section. A reading that is used has no fault (`IsReadable`).
use Rattle.std.specs.Prelude.{◌≡◌, ℕ, Bool, false, true, List, [], ◌∷◌, ◌++◌, length, fold, min, map, filter, find, Option, Some, None, option_map, option_and_then, Result, Ok, Err, is_some}
use Rattle.std.specs.Int.{w32}
use Rattle.std.specs.List.{filter_map, list_any}
use Rattle.std.specs.Result.{result_ok}
use Rattle.dns_name.specs.Names.{Fault, Labels}
use Rattle.dns_name.specs.Parsers.{number_at}
use Rattle.dns_wire.specs.Parts.{Part}
use Rattle.dns_wire.specs.Parts.Part.{Octets, CompressibleName, UncompressedName}
use Rattle.dns_data.specs.Layout.{Layout}
use Rattle.dns_data.specs.Layout.Layout.{DomainName, UncompressedDomainName, Fixed, End}
use Rattle.dns_data.specs.Opt.{opt_layout}
use Rattle.dns_data.specs.RecordData.{only}
use Rattle.dns_item.specs.Items.{RecordItem}
use Rattle.dns_item.specs.ParsedRecord.{EncodedRecord}
use Rattle.dns_item.specs.Questions.{QuestionItem}
use Rattle.dns_read.specs.Limited.{limited}
use Rattle.dns_read.specs.RecordSearches.{cname_layout}
use Rattle.dns_read.specs.Sections.{AdditionalsStart, AdditionalsFault}
use Rattle.dns_read.specs.SectionStarts.{records_of}
use Rattle.dns_read.specs.declared.section.Section.TheVariants.{Answer, Authority, Additional}
use Rattle.dns_reply.specs.Owners.{is_asked_for, is_owned, is_owned_above, is_owned_by_zone, is_owned_by_cut, is_owned_by_related}

-- a reading of records
abbrev pub Records : Type 0
Records = List (Result EncodedRecord Fault)

-- the first fault of a reading
abbrev pub first_fault : {X : Type 0} → List (Result X Fault) → Option Fault
first_fault [] = None
first_fault (Ok x ∷ xs) = first_fault xs
first_fault (Err f ∷ xs) = Some f

-- what is read, without faults
abbrev pub values : {X : Type 0} → List (Result X Fault) → List X
values xs = filter_map result_ok xs

-- the layouts of SOA (RFC 1035 section 3.3.13), NS (section 3.3.11), DNAME (RFC 6672 section 2.1) and OPT (RFC 6891 section 6.1.2); that of CNAME is `cname_layout`
abbrev pub soa_layout : ℕ → Option Layout
soa_layout = only 6 (DomainName (DomainName (Fixed 20 End)))

abbrev pub ns_layout : ℕ → Option Layout
ns_layout = only 2 (DomainName End)

abbrev pub dname_layout : ℕ → Option Layout
dname_layout = only 39 (UncompressedDomainName false true End)

abbrev pub opt_records : Records → List (Result RecordItem Fault)
opt_records additionals = limited (only 41 opt_layout) additionals

-- the name that is the RDATA of a CNAME or DNAME record
abbrev pub target_in : List Part → Option Labels
target_in [] = None
target_in (Octets octets ∷ parts) = None
target_in (CompressibleName name ∷ parts) = Some name
target_in (UncompressedName lowercased name ∷ parts) = Some name

-- MINIMUM of SOA RDATA, the last of its five numbers of 32 bits: RFC 1035 section 3.3.13
abbrev pub minimum_in : List Part → ℕ
minimum_in (CompressibleName mname ∷ CompressibleName rname ∷ Octets numbers ∷ parts) = number_at w32 numbers 16
minimum_in _ = 0

-- Records of a name.

-- the records that a question asks for of a name, in order
abbrev pub asked_records : QuestionItem → Records → Labels → List EncodedRecord
asked_records q answers name = filter (is_asked_for q name) (values answers)

-- whether the name owns a record that the question asks for
abbrev pub owns_asked : QuestionItem → Records → Labels → Bool
owns_asked q answers name = list_any (is_asked_for q name) (values answers)

-- The least of a TTL and those of these records. RFC 2181 section 5.2: the records of a set are treated as if their TTLs were the lowest of them. A TTL with its highest bit set is a large
-- number: RFC 8767 section 4.
abbrev pub least_ttl : ℕ → List EncodedRecord → ℕ
least_ttl ttl xs = fold min ttl (map (λ (x : EncodedRecord). x.entry.ttl) xs)

-- the target of a CNAME or DNAME record, with its TTL
abbrev pub target_of : RecordItem → Option (Labels × ℕ)
target_of x = option_map (λ name. (name, x.ttl)) (target_in x.parts)

-- The name that a name is an alias of, with the TTL of its CNAME record: RFC 1034 section 3.6.2. A name has only one (RFC 2181 section 10.1). If a server sends
-- more, the first counts, as in `Message::canonical_name`.
abbrev pub alias_at : ℕ → Records → Labels → Option (Labels × ℕ)
alias_at qclass answers name = option_and_then target_of (find (is_owned qclass name) (values (limited cname_layout answers)))

-- The first DNAME record above a name, within the zone: RFC 6672 section 2.2. Only one can be above a name, as none is below another (section 2.4); if a server sends more, the first counts.
abbrev pub dname_above : ℕ → Labels → Records → Labels → Option RecordItem
dname_above qclass zone answers name = find (is_owned_above qclass zone name) (values (limited dname_layout answers))

-- The first SOA record of a zone that a name is in, within the zone that was asked. RFC 2308 section 3 asks for one. If a server sends more, the first that may deny the name counts; an SOA of
-- another zone says nothing of it.
abbrev pub soa_for : ℕ → Labels → Records → Labels → Option RecordItem
soa_for qclass zone authorities name = find (is_owned_by_zone qclass zone name) (values (limited soa_layout authorities))

-- The first NS record that delegates a name to a zone below the one that was asked: RFC 1034 section 4.2.1. The others of its owner are of the same set.
abbrev pub ns_for : ℕ → Labels → Records → Labels → Option RecordItem
ns_for qclass zone authorities name = find (is_owned_by_cut qclass zone name) (values (limited ns_layout authorities))

-- Whether there is an NS record of a zone that a name is in, or of one within the zone that was asked. Then a reply is no denial (RFC 2308 section 2.2, type 3), but a referral (RFC 1034 section
-- 4.3.2, step 3b), if perhaps one of no use. NS records of other owners say nothing, as the server speaks for no such name.
abbrev pub has_ns : ℕ → Labels → Records → Labels → Bool
has_ns qclass zone authorities name = is_some (find (is_owned_by_related qclass zone name) (values (limited ns_layout authorities)))

-- For how long a denial may be cached, in seconds: the lesser of the SOA's TTL and its MINIMUM, or 0 without an SOA. RFC 2308 section 5.
abbrev pub negative_ttl : Option RecordItem → ℕ
negative_ttl None = 0
negative_ttl (Some x) = min x.ttl (minimum_in x.parts)

-- Reading a reply.

-- what is read of the three sections: all records, and the RDATA of CNAME and DNAME records in the answer section, of SOA and NS records in the authority
-- section, and of OPT records in the additional section
abbrev pub reply_items : Records → Records → Records → List (Result RecordItem Fault)
reply_items answers authorities additionals =
    limited cname_layout answers ++ (limited dname_layout answers ++ (limited soa_layout authorities ++ (limited ns_layout authorities ++ opt_records additionals)))

-- the first fault in what is read of the message `b`
abbrev pub reply_fault : List ℕ → Option Fault
reply_fault b = first_fault (reply_items (records_of Answer b) (records_of Authority b) (records_of Additional b))

-- each section of the message starts, and what is read of it has no fault
pub record IsReadable (b : List ℕ) : Type 0 where
  pub start : ℕ
  pub starts : AdditionalsStart b start
  pub readable : reply_fault b ≡ None

-- Why the message isn't readable: the fault of the first entry before the additional section that can't be skipped; else the first fault in what is read.
pub data IsUnreadable (b : List ℕ) (f : Fault) : Type 0 where
  before : AdditionalsFault b f → IsUnreadable b f
  within : (start : ℕ) → AdditionalsStart b start → reply_fault b ≡ Some f → IsUnreadable b f

-- the number of OPT records: RFC 6891 section 6.1.1 allows one
abbrev pub opt_count : List ℕ → ℕ
opt_count b = length (opt_records (records_of Additional b))
