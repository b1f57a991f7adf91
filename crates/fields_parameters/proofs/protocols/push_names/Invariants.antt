use Rattle.std.proofs.Common.{length}
use Rattle.fields_parameters.specs.ProtocolNames.{ContinuesNames}
use Rattle.fields_parameters.proofs.protocols.push_names.Given as goal

abbrev pub invariant-octets : goal.invariant-octets
invariant-octets g l = ContinuesNames g.row.N l.fn.name.items l.fn.text l.fn.value.items l.name.items l.left l.value.items

abbrev pub decreases-octets : goal.decreases-octets
decreases-octets g l = length l.left
