use Rattle.std.proofs.Common.{List, ℕ, ◌+◌, subst, sym}
use Rattle.std.specs.Prelude.{Result, Ok, Err, OnOk}
use Rattle.dns_edit.specs.Edits.{ChangesTtls}
use Rattle.dns_edit.specs.Readings.{DataReadsAlike, RdataReadsAlike}
use Rattle.dns_edit.specs.Ttls.{changed}
use Rattle.dns_edit.specs.declared.change.TtlChange.TheVariants.{Age}
use Rattle.dns_edit.specs.declared.error.EditError.{EditError}
use Rattle.tests_read.specs.Ttls.{KeepsData}
use Rattle.tests_read.proofs.ttls.lowers_under_data.Goals as goal

kept : {T : Type 0} (change : ℕ → ℕ) (b c : List ℕ) (r : Result T EditError) → RdataReadsAlike → OnOk r (ChangesTtls change b c) → OnOk r (KeepsData b c)
kept change b c (Ok v) law x = (
  x.0,
  x.1,
  λ k p q less skipped s.
      subst (λ (c : List ℕ). DataReadsAlike b c x.0 (s.name_end + 10) q) (sym x.2) (law change b x.0 x.1 k p q less skipped s).1,
)
kept change b c (Err e) law x = x

pub returns : goal.returns
returns c = kept (changed (Age c.args.age)) _ _ c.age_ttls.result c.rdata_reads_alike.ensures c.age_ttls.ensures.changes
