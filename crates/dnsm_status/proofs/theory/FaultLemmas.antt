-- Which faults have a number.
use Rattle.std.proofs.Common.{◌≡◌, ◌+◌, ℕ, Bool, true, false, List, Option, Some, None, subst, arith, ◌≤◌}
use Rattle.std.specs.Prelude.{Result, Ok, Err, if◌then◌else◌, nat_lt, slice_get}
use Rattle.dns_octets.specs.declared.error.TheConstants.FormError.{BAD_LABEL}
use Rattle.dns_name.specs.Names.{Fault, Faulty, head_at, head_of, pointer_of}
use Rattle.dns_name.specs.Names.Fault.{ShortInput, Form}
use Rattle.dns_name.specs.declared.head.Head.{Head}
use Rattle.dns_name.specs.declared.head.Head.TheVariants.{Root, Label}
use Rattle.dns_item.specs.AfterNames.{FieldsFaultAt}
use Rattle.dnsm_status.specs.Codes.{ReportsFault, IsReported}

-- nothing begins at an offset if an octet is missing or has the high bits 01 or 10
missing : (f : Fault) → ShortInput ≡ f → IsReported f
missing f e = subst IsReported e (2, ReportsFault.missing)

pointer_reported : (first : ℕ) (second : Option ℕ) (f : Fault) → pointer_of first second ≡ Err f → IsReported f
pointer_reported first None f h = missing f (cc h)
pointer_reported first (Some y) f h = absurd (cc h)

abbrev octet_head : ℕ → Option ℕ → Bool → Bool → Bool → Result Head Fault
octet_head first second zero low middle = if zero then Ok Root else if low then Ok (Label first) else if middle then Err (Form BAD_LABEL) else pointer_of first second

octet_reported : (first : ℕ) (second : Option ℕ) (f : Fault) (zero low middle : Bool) → octet_head first second zero low middle ≡ Err f → IsReported f
octet_reported first second f true low middle h = absurd (cc h)
octet_reported first second f false true middle h = absurd (cc h)
octet_reported first second f false false true h = let e : Form BAD_LABEL ≡ f = cc h in subst IsReported e (3, ReportsFault.label)
octet_reported first second f false false false h = pointer_reported first second f h

head_reported : (first second : Option ℕ) (f : Fault) → head_of first second ≡ Err f → IsReported f
head_reported None second f h = missing f (cc h)
head_reported (Some x) second f h = octet_reported x second f (nat_lt x 1) (nat_lt x 64) (nat_lt x 192) h

at_reported : (b : List ℕ) (p : ℕ) (f : Fault) → head_at b p ≡ Err f → IsReported f
unfolding head_at
at_reported b p f h = head_reported (slice_get b p) (slice_get b (p + 1)) f h

-- the fault of a name has a number
pub reported_name : {b : List ℕ} {p s : ℕ} {f : Fault} → Faulty b p s f → IsReported f
reported_name {b = b} (Faulty.head {p = p} {f = f} h) = at_reported b p f h
reported_name (Faulty.long h past) = (5, ReportsFault.name)
reported_name (Faulty.cut h fits past) = (2, ReportsFault.missing)
reported_name (Faulty.ahead h far) = (4, ReportsFault.pointer)
reported_name (Faulty.label h fits there rest) = reported_name rest
reported_name (Faulty.pointer h back rest) = reported_name rest

-- so has that of a name with fields after it
pub reported_fields : {b : List ℕ} {Lacks : ℕ → Type 0} {p : ℕ} {f : Fault} → FieldsFaultAt b Lacks p f → IsReported f
reported_fields (FieldsFaultAt.name h) = reported_name h
reported_fields (FieldsFaultAt.short encoded name_ends lacks) = (2, ReportsFault.missing)

-- these numbers are at most 5
pub reported_small : {f : Fault} {n : ℕ} → ReportsFault f n → n ≤ 5
reported_small ReportsFault.missing = omega arith
reported_small ReportsFault.label = omega arith
reported_small ReportsFault.pointer = omega arith
reported_small ReportsFault.name = omega arith
