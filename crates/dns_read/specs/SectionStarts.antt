-- Where the sections of a message start, and what reading them gives, as functions. RFC 1035 section 4.1.
--
-- `b` is the octets of the message.
use Rattle.std.proofs.Common.{inl, inr}
use Rattle.std.specs.Prelude.{◌≡◌, ◌↔◌, ◌⊎◌, ℕ, List, [], Option, Some, None, Result}
use Rattle.std.specs.Option.{option_map_or}
use Rattle.dns_name.specs.Names.{Fault}
use Rattle.dns_item.specs.ParsedRecord.{EncodedRecord}
use Rattle.dns_read.specs.RecordsFrom.{records_in}
use Rattle.dns_read.specs.Sections.{record_count, StartsAt}
use Rattle.dns_read.specs.declared.section.Section.{Section}
use Rattle.dns_read.specs.declared.section.Section.TheVariants.{Answer, Authority, Additional}
use Rattle.dns_read.specs.StartOrFault.{start_or_fault}

-- the start, of a start or a fault
abbrev pub found : {Start : ℕ → Type 0} {FaultOf : Fault → Type 0} → ((p : ℕ) × Start p) ⊎ ((f : Fault) × FaultOf f) → Option ℕ
found (inl start) = Some start.0
found (inr fault) = None

-- the offset where a section of records starts, if it has a start
unfoldable pub start_of : Section → List ℕ → Option ℕ
start_of Answer b = found (start_or_fault.answers b).some
start_of Authority b = found (start_or_fault.authorities b).some
start_of Additional b = found (start_or_fault.additionals b).some

-- the reading of a section of records; empty if it has no start
abbrev pub records_of : Section → List ℕ → List (Result EncodedRecord Fault)
records_of which b = option_map_or (records_in b (record_count which b)) (start_of which b) []

-- `start_of` finds an offset exactly if the section starts there
abbrev pub StartsAreFound : Type 0
StartsAreFound = (which : Section) (b : List ℕ) (p : ℕ) → (start_of which b ≡ Some p) ↔ StartsAt which b p
