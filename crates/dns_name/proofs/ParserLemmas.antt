-- The octets that a parser sees.
use Rattle.std.proofs.Common.{◌≡◌, length, length-take, arith}
use Rattle.dns_name.specs.Parsers.{seen}
use Rattle.dns_name.specs.declared.parser.Parser.{Parser}

-- A parser sees as many octets as its end says.
pub length-seen : (p : Parser) → length (seen p) ≡ p.end
length-seen p = let w = p.within in simp length-take (omega (arith, w))
