use Rattle.std.proofs.Common.{◌≡◌, ◌<◌, ◌^◌, drop}
use Rattle.fields_table.specs.Values.{number_after}
use Rattle.fields_table.proofs.value.number_by_octets.Given as goal

abbrev pub invariant-loop-octet : goal.invariant-loop-octet
invariant-loop-octet l = (number_after 0 l.octets ≡ number_after l.number (drop l.octet-index l.octets)) × (l.number < 256 ^ l.octet-index)
