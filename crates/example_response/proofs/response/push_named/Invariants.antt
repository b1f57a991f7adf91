use Rattle.std.proofs.Common.{◌≡◌, map, take}
use Rattle.dns_message.specs.Names.{name_labels}
use Rattle.example_response.specs.Sets.{renamed}
use Rattle.example_response.proofs.Fitting.{pushed_record}
use Rattle.example_response.proofs.response.push_named.Given as goal

abbrev pub invariant-loop-record : goal.invariant-loop-record
invariant-loop-record l = map pushed_record l.records.items ≡ map (renamed (name_labels l.name)) (take l.record-index l.record-items)
