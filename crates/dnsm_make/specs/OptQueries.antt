-- Queries with an OPT record that are returned to C, and why there is none. RFC 6891 section 6.1.
use Rattle.std.specs.Prelude.{◌≡◌, ◌<◌, ◌≤◌, ◌⊎◌, ℕ, Bool, List, [], ◌∷◌, length}
use Rattle.dns_name.specs.Names.{Labels}
use Rattle.dns_name.specs.NameTexts.{SpellsName}
use Rattle.dns_wire.specs.Parts.{Octets}
use Rattle.dns_wire.specs.Encoders.{Plain}
use Rattle.dns_code.specs.Header.{HeaderFields}
use Rattle.dns_edns.specs.Options.{OptionItem, AreOptions}
use Rattle.dns_item.specs.Questions.{QuestionItem}
use Rattle.dns_item.specs.Items.{RecordItem}
use Rattle.dns_build.specs.State.{State, InAdditional}
use Rattle.dns_build.specs.MessageOf.{IsMessageOf}
use Rattle.dnsm_read.specs.Opts.{HasFields}
use Rattle.dnsm_read.specs.declared.opts.Opt.{Opt}
use Rattle.dnsm_status.specs.Codes.{number_of}
use Rattle.dnsm_status.specs.declared.code.CallError.TheVariants as faults
use Rattle.dnsm_text.specs.Texts.{SpellsNoName}
use Rattle.dnsm_make.specs.Made.{asking, query_header}

-- the OPT record with a UDP payload size, a TTL and the octets of its options; its owner is the root. RFC 6891 section 6.1.2
abbrev pub opt_record : Opt → ℕ → List ℕ → RecordItem
opt_record opt ttl options = record { owner = []; rtype = 41; class = opt.udp_size; ttl = ttl; parts = Octets options ∷ [] }

-- the state with a header, one question, and one record in the additional section
abbrev pub asking_with : HeaderFields → QuestionItem → RecordItem → State
asking_with header x opt = record (asking header x) { stage = InAdditional; additionals = opt ∷ [] }

-- The octets of a query with an OPT record: its header, one question for the name that the text spells, and the record with these fields and options.
pub record IsOptQuery (id : ℕ) (rd : Bool) (text : List ℕ) (qtype qclass : ℕ) (opt : Opt) (options octets : List ℕ) : Type 0 where
  pub name : Labels
  pub spelled : SpellsName text name
  pub ttl : ℕ
  pub fields : HasFields opt.udp_size ttl opt
  pub listed : List OptionItem
  pub are_options : AreOptions options listed
  pub message : IsMessageOf Plain (asking_with (query_header id rd) (record { name = name; rtype = qtype; class = qclass }) (opt_record opt ttl options)) octets

-- No such query is written, and the number says why. It is the first of: a text that spells no name, more than 65,535 octets of options, octets that aren't options.
abbrev pub LacksOptQuery : List ℕ → List ℕ → ℕ → Type 0
LacksOptQuery text options n =
    (SpellsNoName text × (n ≡ number_of faults.BadText))
    ⊎ (((name : Labels) × SpellsName text name) × (65535 < length options) × (n ≡ number_of faults.LongData))
    ⊎ (((name : Labels) × SpellsName text name) × (length options ≤ 65535) × ((xs : List OptionItem) → AreOptions options xs → ⊥) × (n ≡ number_of faults.BadOption))
