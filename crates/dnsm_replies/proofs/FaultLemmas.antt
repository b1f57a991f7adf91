-- Which faults of skipping have a number.
use Rattle.std.proofs.Common.{ℕ, List, inl, inr}
use Rattle.dns_name.specs.Names.{Fault}
use Rattle.dns_name.proofs.theory.Names.{skip_faults}
use Rattle.dns_item.specs.AfterNames.{FieldsSkipFaultAt}
use Rattle.dns_read.specs.Reading.{StopsSkipping}
use Rattle.dns_edit.specs.Edits.{RecordsFault}
use Rattle.dnsm_status.specs.Codes.{IsReported, ReportsFault}
use Rattle.dnsm_status.proofs.theory.FaultLemmas.{reported_name}

-- The fault of an entry that can't be skipped has a number.
pub reported_skip : (b : List ℕ) (Lacks : ℕ → Type 0) (p : ℕ) (f : Fault) → FieldsSkipFaultAt b Lacks p f → IsReported f
reported_skip b Lacks p f (FieldsSkipFaultAt.name h) = reported_name (skip_faults b p f h)
reported_skip b Lacks p f (FieldsSkipFaultAt.short ends lacks) = (2, ReportsFault.missing)

reported_stop : {Skips : ℕ → ℕ → Type 0} {FaultOf : ℕ → Fault → Type 0} {n p : ℕ} {f : Fault} → ((q : ℕ) (g : Fault) → FaultOf q g → IsReported g)
    → StopsSkipping Skips FaultOf n p f → IsReported f
reported_stop k (StopsSkipping.here {p = p} {f = f} h) = k p f h
reported_stop k (StopsSkipping.after skips stops) = reported_stop k stops

-- The fault of the first entry that can't be skipped has a number.
pub reported_records : (b : List ℕ) (f : Fault) → RecordsFault b f → IsReported f
reported_records b f (inl h) = reported_stop (reported_skip b _) h
reported_records b f (inr h) = reported_stop (reported_skip b _) h.2
