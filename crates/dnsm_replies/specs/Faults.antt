-- Messages with an entry that can't be skipped. RFC 1035 section 4.1.
use Rattle.std.specs.Prelude.{◌≡◌, ◌⊎◌, ◌<◌, ◌≤◌, ℕ, List, length}
use Rattle.dns_name.specs.Names.{Fault}
use Rattle.dns_code.specs.HeaderSection.{header_size}
use Rattle.dns_edit.specs.Edits.{RecordsFault}
use Rattle.dnsm_status.specs.Codes.{ReportsFault, number_of}
use Rattle.dnsm_status.specs.declared.code.CallError.TheVariants as faults

-- The message is shorter than a header section, or a question or record can't be skipped, and the number says why the first such can't.
abbrev pub LacksRecords : List ℕ → ℕ → Type 0
LacksRecords b n =
    ((length b < header_size) × (n ≡ number_of faults.ShortInput))
    ⊎ ((header_size ≤ length b) × ((f : Fault) × RecordsFault b f × ReportsFault f n))
