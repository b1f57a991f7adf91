use Rattle.std.proofs.Common.{◌≡◌, ◌<◌, ◌^◌, take}
use Rattle.fields_text.specs.Number.{number_of}
use Rattle.fields_text.proofs.number.number_of.Given as goal

abbrev pub invariant-loop-octet : goal.invariant-loop-octet
invariant-loop-octet l = record { value : l.number ≡ number_of (take l.octet-index l.octets); small : l.number < 256 ^ l.octet-index }
