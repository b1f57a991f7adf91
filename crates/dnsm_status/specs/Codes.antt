-- The numbers by which C sees errors, as in dnsm.h.
use Rattle.std.specs.Prelude.{ℕ, Bool, true, false, Result, Ok, Err}
use Rattle.dns_octets.specs.declared.error.AppendError.{AppendError}
use Rattle.dns_octets.specs.declared.error.AppendError.TheVariants as appending
use Rattle.dns_octets.specs.declared.error.TheConstants.FormError.{BAD_LABEL, BAD_POINTER, LONG_NAME}
use Rattle.dns_name.specs.Names.{Fault as FaultThere}
use Rattle.dns_name.specs.Names.Fault.{ShortInput, Form}
use Rattle.dns_build.specs.declared.push_error.PushError.{PushError}
use Rattle.dns_build.specs.declared.push_error.PushError.TheVariants as pushing
use Rattle.dnsm_status.specs.declared.code.CallError.{CallError}
use Rattle.dnsm_status.specs.declared.code.CallError.TheVariants as faults

-- the number of a fault
abbrev pub number_of : CallError → ℕ
number_of faults.ShortInput = 2
number_of faults.BadLabel = 3
number_of faults.BadPointer = 4
number_of faults.LongName = 5
number_of faults.Form = 6
number_of faults.NoRoom = 7
number_of faults.BadText = 8
number_of faults.NoQuestion = 9
number_of faults.BadSection = 10
number_of faults.NoMemory = 11
number_of faults.LongData = 12
number_of faults.TooMany = 13
number_of faults.IsResponse = 14
number_of faults.OtherOpcode = 15
number_of faults.OtherClass = 16
number_of faults.OtherType = 17
number_of faults.NotOpt = 18
number_of faults.BadOption = 19
number_of faults.NoName = 20
number_of faults.BadData = 21
number_of faults.NoOpt = 22
number_of faults.TwoOpts = 23
number_of faults.BadOwner = 24
number_of faults.NoResponse = 25
number_of faults.OtherQuery = 26
number_of faults.BadRcode = 27
number_of faults.Truncated = 28
number_of faults.WrongClass = 29
number_of faults.OutsideZone = 30
number_of faults.NoSoa = 31
number_of faults.WrongSoa = 32
number_of faults.AfterEnd = 33
number_of faults.Incomplete = 34

-- the status of a call: 0 if there is an item, 1 at the end, otherwise the number of the fault
abbrev pub code_of : Result Bool CallError → ℕ
code_of (Ok true) = 0
code_of (Ok false) = 1
code_of (Err fault) = number_of fault

-- The number reports this fault of octets: 2 that an octet is missing, 3 to 5 how a name is malformed.
pub data ReportsFault : FaultThere → ℕ → Type 0 where
  missing : ReportsFault ShortInput 2
  label : ReportsFault (Form BAD_LABEL) 3
  pointer : ReportsFault (Form BAD_POINTER) 4
  name : ReportsFault (Form LONG_NAME) 5

-- a number reports this fault
abbrev pub IsReported : FaultThere → Type 0
IsReported f = (n : ℕ) × ReportsFault f n

-- the fault that reports an append error
abbrev pub append_fault : AppendError → CallError
append_fault appending.ShortBuf = faults.NoRoom
append_fault appending.OutOfMemory = faults.NoMemory

-- the fault that reports a push error; builders keep the default limit of 2^64 - 1 octets, so exceeding it means out of memory
abbrev pub push_fault : PushError → CallError
push_fault pushing.ShortBuf = faults.NoRoom
push_fault pushing.OutOfMemory = faults.NoMemory
push_fault pushing.LimitExceeded = faults.NoMemory
push_fault pushing.CountOverflow = faults.TooMany
