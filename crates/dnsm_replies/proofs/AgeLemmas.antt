-- Which refusals of a change of TTLs have a number.
use Rattle.std.proofs.Common.{ℕ, List, refl}
use Rattle.dns_name.specs.Names.{fault_of}
use Rattle.dns_name.proofs.theory.Names.{skip_faults}
use Rattle.dns_edit.specs.Acceptance.{OneRefused, RefusesData, RefusesQuestion, RefusesRecord, RefusesTtls}
use Rattle.dns_edit.specs.Pointers.{RefusesName}
use Rattle.dns_edit.specs.declared.error.EditError.{EditError}
use Rattle.dns_edit.specs.declared.error.EditError.TheVariants as errors
use Rattle.dnsm_status.specs.Codes.{ReportsFault}
use Rattle.dnsm_status.proofs.theory.FaultLemmas.{reported_name}
use Rattle.dnsm_replies.specs.Ages.{IsReportedEdit}
use Rattle.dnsm_replies.proofs.FaultLemmas.{reported_skip}

reported_refusal : (b names : List ℕ) (p : ℕ) (e : EditError) → RefusesName b names p e → IsReportedEdit e
reported_refusal b names p (errors.Parse e) h = reported_name (skip_faults b p (fault_of e) h)
reported_refusal b names p errors.Pointer h = (4, refl)
reported_refusal b names p errors.NotLast h = absurd h
reported_refusal b names p errors.OptionLength h = absurd h

-- the first entry that is refused
reported_first : {Accepts : List ℕ → ℕ → ℕ → List ℕ → Type 0} {Refuses : List ℕ → ℕ → EditError → Type 0} {n p : ℕ} {names : List ℕ} {e : EditError}
    → ((names : List ℕ) (p : ℕ) (e : EditError) → Refuses names p e → IsReportedEdit e) → OneRefused Accepts Refuses n names p e → IsReportedEdit e
reported_first k (OneRefused.here {p = p} {names = names} {e = e} h) = k names p e h
reported_first k (OneRefused.after accepts rest) = reported_first k rest

reported_question : (b names : List ℕ) (p : ℕ) (e : EditError) → RefusesQuestion b names p e → IsReportedEdit e
reported_question b names p e (RefusesQuestion.name h) = reported_refusal b names p e h
reported_question b names p e (RefusesQuestion.short h less) = (2, ReportsFault.missing)

reported_data : (b names : List ℕ) (rtype start end : ℕ) (e : EditError) → RefusesData b names rtype start end e → IsReportedEdit e
reported_data b names rtype start end e (RefusesData.name some h) = reported_first (reported_refusal b) h
reported_data b names rtype start end e (RefusesData.past some h past) = (2, ReportsFault.missing)

reported_record : (b names : List ℕ) (p : ℕ) (e : EditError) → RefusesRecord b names p e → IsReportedEdit e
reported_record b names p e (RefusesRecord.skip {e = f} h) = reported_skip b _ p (fault_of f) h
reported_record b names p e (RefusesRecord.owner s h) = reported_refusal b names p e h
reported_record b names p e (RefusesRecord.rdata {mid = mid} s owner h) = reported_data b mid _ _ _ e h

-- The error with which a change of TTLs is refused has a number.
pub reported_change : (b : List ℕ) (e : EditError) → RefusesTtls b e → IsReportedEdit e
reported_change b e (RefusesTtls.question h) = reported_first (reported_question b) h
reported_change b e (RefusesTtls.entry asked h) = reported_first (reported_record b) h
