use Rattle.dns_edit.proofs.CaseLemmas.{case_stays_regular}
use Rattle.dns_edit.proofs.RegularStays.{header_stays_regular, removed_stays_regular}
use Rattle.dns_edit.proofs.RegularTtls.{ttls_stay_regular}
use Rattle.dns_edit.proofs.ReplaceLemmas.{replaced_stays_regular}
use Rattle.dns_edit.proofs.laws.stays_regular.Goals as goal

pub returns-clause-header : goal.returns-clause-header
returns-clause-header c = header_stays_regular

pub returns-clause-case : goal.returns-clause-case
returns-clause-case c = case_stays_regular

pub returns-clause-ttls : goal.returns-clause-ttls
returns-clause-ttls c = ttls_stay_regular

pub returns-clause-opt : goal.returns-clause-opt
returns-clause-opt c = removed_stays_regular

pub returns-clause-option : goal.returns-clause-option
returns-clause-option c = replaced_stays_regular
