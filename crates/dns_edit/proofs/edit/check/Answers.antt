use Rattle.std.proofs.Common.{arith}
use Rattle.dns_edit.proofs.MarkLemmas.{none_marked}
use Rattle.dns_edit.proofs.edit.check.Goals as goal

pub check_with-requires-clause-none : goal.check_with-requires-clause-none
check_with-requires-clause-none c = none_marked _ 2048 (omega arith)
