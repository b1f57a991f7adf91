use Rattle.dns_build.proofs.TypedReading.{pushed_records_are_encoded, typed_records_read_back, typed_records_in_read_back, any_records_read_back}
use Rattle.dns_build.proofs.laws.records_read_back.Goals as goal

pub returns-clause-encoded : goal.returns-clause-encoded
returns-clause-encoded c = pushed_records_are_encoded

pub returns-clause-typed : goal.returns-clause-typed
returns-clause-typed c = typed_records_read_back

pub returns-clause-any : goal.returns-clause-any
returns-clause-any c = any_records_read_back

pub returns-clause-typed_in : goal.returns-clause-typed_in
returns-clause-typed_in c = typed_records_in_read_back
