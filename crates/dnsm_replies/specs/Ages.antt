-- Messages whose TTLs can't be lowered. RFC 1035 sections 4.1 and 4.1.4.
use Rattle.std.specs.Prelude.{◌≡◌, ◌⊎◌, ◌<◌, ◌≤◌, ℕ, List, length}
use Rattle.dns_name.specs.Names.{fault_of}
use Rattle.dns_code.specs.HeaderSection.{header_size}
use Rattle.dns_edit.specs.Acceptance.{RefusesTtls}
use Rattle.dns_edit.specs.declared.error.EditError.{EditError}
use Rattle.dns_edit.specs.declared.error.EditError.TheVariants as errors
use Rattle.dnsm_status.specs.Codes.{ReportsFault, number_of}
use Rattle.dnsm_status.specs.declared.code.CallError.TheVariants as faults

-- The number reports why the TTLs of a message can't be changed: an entry can't be skipped, or a pointer leads to no label of an earlier name.
abbrev pub ReportsEdit : EditError → ℕ → Type 0
ReportsEdit (errors.Parse e) n = ReportsFault (fault_of e) n
ReportsEdit errors.Pointer n = n ≡ number_of faults.BadPointer
ReportsEdit errors.NotLast n = ⊥
ReportsEdit errors.OptionLength n = ⊥

-- a number reports this error
abbrev pub IsReportedEdit : EditError → Type 0
IsReportedEdit e = (n : ℕ) × ReportsEdit e n

-- The message is shorter than a header section, or its TTLs can't be changed, and the number says why.
abbrev pub RefusesAge : List ℕ → ℕ → Type 0
RefusesAge b n =
    ((length b < header_size) × (n ≡ number_of faults.ShortInput))
    ⊎ ((header_size ≤ length b) × ((e : EditError) × RefusesTtls b e × ReportsEdit e n))
