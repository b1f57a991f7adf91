use Rattle.dns_build.proofs.KnownByState.{builders_are_known, rewinds_leave_nothing}
use Rattle.dns_build.proofs.SetLemmas.{rewinds_to_marks}
use Rattle.dns_build.proofs.laws.builders_are_known_by_states.Goals as goal

pub returns-clause-known : goal.returns-clause-known
returns-clause-known c = builders_are_known

pub returns-clause-rewound : goal.returns-clause-rewound
returns-clause-rewound c = rewinds_leave_nothing

pub returns-clause-marked : goal.returns-clause-marked
returns-clause-marked c = rewinds_to_marks
