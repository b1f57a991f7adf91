use Rattle.std.proofs.Common.{◌≡◌, drop}
use Rattle.fields_parameters.specs.Parameters.{are_protocols_from}
use Rattle.fields_parameters.proofs.parameter.are_protocols.Given as goal

abbrev pub invariant-loop-octet : goal.invariant-loop-octet
invariant-loop-octet l = are_protocols_from 0 l.value ≡ are_protocols_from l.name_left (drop l.octet-index l.value)
