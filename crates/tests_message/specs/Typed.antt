-- What the contracts of the proved callers that read by data types cite.
use Rattle.std.specs.Prelude.{◌≡◌, ℕ, List, [], ◌∷◌, Option, Ok}
use Rattle.dns_message.specs.Names.{Labels}
use Rattle.dns_message.specs.Data.{Octets, CompressibleName, Layout}
use Rattle.dns_message.specs.Records.{RecordItem}
use Rattle.dns_message.specs.Messages.{records_of}
use Rattle.dns_message.specs.Sections.{limited, AnswersStart}
use Rattle.dns_message.specs.declared.message.Section.TheVariants.{Answer}
use Rattle.dns_message.specs.Builders.{ReadsBack, State, IsTakenBy}

-- the answer section has a start, and reading it with a data type yields this record and nothing else, without a fault
pub record HasOneAnswer (layouts : ℕ → Option Layout) (b : List ℕ) (x : RecordItem) : Type 0 where
  pub start : ℕ
  pub starts : AnswersStart b start
  pub only : limited layouts (records_of Answer b) ≡ Ok x ∷ []

-- an NS record
abbrev pub server_record : Labels → ℕ → ℕ → Labels → RecordItem
server_record owner class ttl server = record { owner = owner; rtype = 2; class = class; ttl = ttl; parts = CompressibleName server ∷ [] }

-- an A record
abbrev pub address_record : Labels → ℕ → ℕ → List ℕ → RecordItem
address_record owner class ttl octets = record { owner = owner; rtype = 1; class = class; ttl = ttl; parts = Octets octets ∷ [] }

-- the octets read back as a state whose first answer is this record, whose type the data type accepts, and whose parts are laid out by it
pub record WasPushedFirst (layouts : ℕ → Option Layout) (b : List ℕ) (x : RecordItem) : Type 0 where
  pub s : State
  pub reads_back : ReadsBack s b
  pub after : List RecordItem
  pub first : s.answers ≡ x ∷ after
  pub fits_layout : IsTakenBy layouts x
