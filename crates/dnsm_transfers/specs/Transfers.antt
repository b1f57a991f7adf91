-- Transfers whose state C keeps: what their numbers say, and what the calls do. RFC 5936 section 2.2, RFC 1995 section 4.
--
-- `b` are the octets of a message.
use Rattle.std.specs.Prelude.{◌≡◌, ℕ, ◌<◌, ◌⊎◌, ◌==◌, if◌then◌else◌, List, length, take, Option, None, Some}
use Rattle.dns_octets.specs.declared.error.TheConstants.FormError.{TRAILING_DATA}
use Rattle.dns_name.specs.Names.{Fault, IsName, fault_of, uncompressed}
use Rattle.dns_name.specs.Names.Fault.{Form}
use Rattle.dns_name.specs.Uncompressed.{IsUncompressed}
use Rattle.dns_code.specs.HeaderSection.{header_size}
use Rattle.dns_item.specs.ParsedRecord.{EncodedRecord}
use Rattle.dns_read.specs.RecordsFrom.{records_in}
use Rattle.dns_read.specs.SectionStarts.{records_of}
use Rattle.dns_read.specs.declared.section.Section.TheVariants.{Answer}
use Rattle.dns_transfer.specs.Acts.{run_at}
use Rattle.dns_transfer.specs.Asked.{Asked}
use Rattle.dns_transfer.specs.Messages.{RefusesMessage}
use Rattle.dns_transfer.specs.Runs.{RunOf, after_step, step_of, stopped}
use Rattle.dns_transfer.specs.Transfers.{IsTaken}
use Rattle.dns_transfer.specs.declared.error.TransferError.{TransferError}
use Rattle.dns_transfer.specs.declared.error.TransferError.TheVariants as errors
use Rattle.dns_transfer.specs.declared.grammar.Act.{Act}
use Rattle.dns_transfer.specs.declared.grammar.Act.TheVariants.{Begin, UpToDate, FallBack, Remove, Add, End}
use Rattle.dns_transfer.specs.declared.grammar.Request.{Request}
use Rattle.dns_transfer.specs.declared.grammar.Request.TheVariants.{Axfr, Ixfr}
use Rattle.dns_transfer.specs.declared.grammar.State.{State}
use Rattle.dns_transfer.specs.declared.grammar.State.TheVariants.{Wanted, First, Whole, Removing, Adding, Ended}
use Rattle.dnsm_status.specs.Codes.{IsReported, ReportsFault, number_of}
use Rattle.dnsm_status.specs.declared.code.CallError.TheVariants as faults
use Rattle.dnsm_read.specs.Steps.{ReportsRecord}
use Rattle.dnsm_read.specs.declared.walk.Cursor.{Cursor}
use Rattle.dnsm_transfers.specs.declared.step.Step.{Step}
use Rattle.dnsm_transfers.specs.declared.transfer.Transfer.{Transfer}

-- the octets of the zone's name, uncompressed
abbrev pub zone_octets : Transfer → List ℕ
zone_octets t = take t.zone_len t.zone

-- what is asked for
abbrev pub request_of : Transfer → Request
request_of t = if t.changes == 0 then Axfr else Ixfr t.known

-- the same, by the serial of the version that is known, if changes are asked for
abbrev pub request_from : Option ℕ → Request
request_from None = Axfr
request_from (Some known) = Ixfr known

-- what was read, by the number of the state
abbrev pub state_of : Transfer → State
state_of t =
    if t.state == 0 then Wanted
    else (if t.state == 1 then First t.last
    else (if t.state == 2 then Whole t.last
    else (if t.state == 3 then Removing t.version t.last
    else (if t.state == 4 then Adding t.version t.last
    else Ended))))

-- This is what the query asked for. It is one, as no two names have the same octets.
pub record IsAskedBy (t : Transfer) (asked : Asked) : Type 0 where
  pub is_name : IsName asked.zone
  pub zone : uncompressed asked.zone ≡ zone_octets t
  pub class : asked.class ≡ t.class
  pub id : asked.id ≡ t.id
  pub request : asked.request ≡ request_of t

-- The number reports what is wrong with octets, as all calls do; or that octets follow the RDATA of an SOA record.
pub record ReportsOctets (f : Fault) (n : ℕ) : Type 0 where
  pub known : IsReported f → ReportsFault f n
  pub left_over : f ≡ Form TRAILING_DATA → n ≡ number_of faults.Form

-- the number reports why a message isn't the next one of a transfer
abbrev pub ReportsTransfer : TransferError → ℕ → Type 0
ReportsTransfer (errors.Parse e) n = ReportsOctets (fault_of e) n
ReportsTransfer errors.WrongId n = n ≡ number_of faults.OtherQuery
ReportsTransfer errors.NoResponse n = n ≡ number_of faults.NoResponse
ReportsTransfer (errors.Rcode rcode) n = n ≡ number_of faults.BadRcode
ReportsTransfer errors.Truncated n = n ≡ number_of faults.Truncated
ReportsTransfer errors.WrongQuestion n = n ≡ number_of faults.OtherQuery
ReportsTransfer errors.WrongClass n = n ≡ number_of faults.WrongClass
ReportsTransfer errors.OutsideZone n = n ≡ number_of faults.OutsideZone
ReportsTransfer errors.NoSoa n = n ≡ number_of faults.NoSoa
ReportsTransfer errors.WrongSoa n = n ≡ number_of faults.WrongSoa
ReportsTransfer errors.AfterEnd n = n ≡ number_of faults.AfterEnd
ReportsTransfer errors.Incomplete n = n ≡ number_of faults.Incomplete

-- A transfer that asks for this, of which nothing was read.
pub record Begins (id class : ℕ) (request : Request) (zone : List ℕ) (t : Transfer) : Type 0 where
  pub same_id : t.id ≡ id
  pub same_class : t.class ≡ class
  pub same_request : request_of t ≡ request
  pub is_zone : IsUncompressed zone
  pub same_zone : zone_octets t ≡ zone
  pub nothing : state_of t ≡ Wanted
  pub goes_on : t.status ≡ 0

-- the transfer doesn't say what is asked for: the octets of the zone's name are none
abbrev pub LacksZone : Transfer → Type 0
LacksZone t = IsUncompressed (zone_octets t) → ⊥

-- The message is taken, and the cursor is before the first record of its answer section.
pub record OpensMessage (asked : Asked) (state : State) (b : List ℕ) (cursor : Cursor) : Type 0 where
  pub taken : IsTaken asked state b
  pub records : records_in b cursor.left cursor.place ≡ records_of Answer b
  pub section : cursor.section ≡ 1
  pub status : cursor.status ≡ 0
  pub owner : cursor.owner ≡ 0

-- Nothing is taken from a message, and the number says why.
abbrev pub RefusesToOpen : Transfer → List ℕ → ℕ → Type 0
RefusesToOpen t b n =
    ((length b < header_size) × (n ≡ number_of faults.ShortInput))
    ⊎ (LacksZone t × (n ≡ number_of faults.BadText))
    ⊎ ((asked : Asked) × IsAskedBy t asked × ((e : TransferError) × RefusesMessage asked (state_of t) b e × ReportsTransfer e n))

-- what the records that are left at a cursor give, from a state on
abbrev pub run_left : Asked → List ℕ → Cursor → State → RunOf EncodedRecord
run_left asked b cursor = run_at asked b cursor.left cursor.place

-- the number of what a record does, as in dnsm.h
abbrev pub act_number : Act → ℕ
act_number (Begin serial) = 0
act_number (UpToDate serial) = 1
act_number FallBack = 2
act_number Remove = 3
act_number Add = 4
act_number (End serial) = 5

-- the serial of what a record does, or 0 if it has none
abbrev pub act_serial : Act → ℕ
act_serial (Begin serial) = serial
act_serial (UpToDate serial) = serial
act_serial FallBack = 0
act_serial Remove = 0
act_serial Add = 0
act_serial (End serial) = serial

-- Of what the records at the cursor `old` give in the state `before`, this is the first step. The records at the cursor `new` give the others, in the state `after`.
pub record GivesStep (asked : Asked) (b : List ℕ) (old new : Cursor) (before after : State) (step : Step) : Type 0 where
  pub act : Act
  pub taken : EncodedRecord
  pub gives : run_left asked b old before ≡ after_step (step_of act taken) (run_left asked b new after)
  pub octets : taken.octets ≡ b
  pub item : ReportsRecord b step.item taken.entry
  pub kind : step.kind ≡ act_number act
  pub serial : step.serial ≡ act_serial act

-- The records at the cursor give an error, and the number says which.
pub record GivesError (asked : Asked) (b : List ℕ) (cursor : Cursor) (state : State) (n : ℕ) : Type 0 where
  pub error : TransferError
  pub gives : run_left asked b cursor state ≡ stopped error
  pub reported : ReportsTransfer error n

-- There is no step, as the octets of the zone's name are none, or the records give an error.
abbrev pub LacksStep : Transfer → List ℕ → Cursor → ℕ → Type 0
LacksStep t b cursor n = (LacksZone t × (n ≡ number_of faults.BadText)) ⊎ ((asked : Asked) × IsAskedBy t asked × GivesError asked b cursor (state_of t) n)

-- Two transfers ask for the same, if their zone has a name.
abbrev pub AskAlike : Transfer → Transfer → Type 0
AskAlike old new = (asked : Asked) → IsAskedBy old asked → IsAskedBy new asked
