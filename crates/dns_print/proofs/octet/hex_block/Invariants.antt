use Rattle.std.proofs.Common.{◌≡◌, ◌*◌, IsAscii, length, take}
use Rattle.std.specs.List.{flat_map}
use Rattle.dns_print.specs.Digits.{hex_digits}
use Rattle.dns_print.proofs.octet.hex_block.Given as goal

abbrev pub invariant-loop-octet : goal.invariant-loop-octet
invariant-loop-octet l = (l.digits.items ≡ flat_map (hex_digits l.upper) (take l.octet-index l.octets)) × (length l.digits.items ≡ 2 * l.octet-index) × IsAscii l.digits.items
