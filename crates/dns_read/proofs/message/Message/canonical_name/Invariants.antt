use Rattle.std.proofs.Common.{◌≡◌}
use Rattle.std.specs.Prelude.{Some}
use Rattle.dns_name.specs.ParsedName.{labels}
use Rattle.dns_read.specs.Message.{message_octets}
use Rattle.dns_read.specs.RecordSearches.{nth_name}
use Rattle.dns_read.proofs.message.Message.canonical_name.Given as goal

abbrev pub invariant-loop-name : goal.invariant-loop-name
invariant-loop-name g l = nth_name (message_octets l.fn.self) l._name ≡ Some (labels l.name)
