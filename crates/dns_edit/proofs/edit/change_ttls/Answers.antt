use Rattle.std.proofs.Common.{ℕ, List, arith, rules}
use Rattle.std.specs.Prelude.{OnOk, Result, Ok, Err}
use Rattle.dns_edit.specs.declared.change.TtlChange.{TtlChange}
use Rattle.dns_edit.specs.declared.change.TtlChange.TheVariants.{Age, Cap}
use Rattle.dns_edit.specs.declared.error.EditError.{EditError}
use Rattle.dns_edit.specs.Edits.{ChangesTtls}
use Rattle.dns_edit.specs.Readings.{ReadsAlike, ReadsMapped}
use Rattle.dns_edit.specs.Ttls.{Computes, GivesTtls, changed}
use Rattle.dns_edit.proofs.edit.change_ttls.Goals as goal

gives_ttls : (change : TtlChange) → GivesTtls (changed change)
gives_ttls (Age by) n l = omega arith
gives_ttls (Cap most) n l = omega arith

mapped : {T : Type 0} {Gives : ℕ → ℕ → Type 0} {change : ℕ → ℕ} (b c : List ℕ) (r : Result T EditError) → OnOk r (ReadsMapped Gives b c) → Computes Gives change
    → OnOk r (ChangesTtls change b c) × OnOk r (ReadsAlike change b c)
mapped b c (Ok x) h is = h _ is
mapped b c (Err e) h is = (h, h)

pub returns-clause-changes : goal.returns-clause-changes
returns-clause-changes g c =
    (mapped {change = changed c.args.change} _ _ c.map_ttls.result c.map_ttls.ensures.reads (record { value = λ ttl after h. search rules; ttls = gives_ttls c.args.change })).0

pub returns-clause-reads : goal.returns-clause-reads
returns-clause-reads g c =
    (mapped {change = changed c.args.change} _ _ c.map_ttls.result c.map_ttls.ensures.reads (record { value = λ ttl after h. search rules; ttls = gives_ttls c.args.change })).1
