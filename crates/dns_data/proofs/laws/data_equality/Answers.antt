use Rattle.std.specs.Cmp.Lexicographic.{bytes_decides}
use Rattle.dns_data.specs.A.{address_of}
use Rattle.dns_data.proofs.laws.data_equality.Goals as goal

pub returns-clause-address : goal.returns-clause-address
returns-clause-address g c = λ a b. bytes_decides (address_of a) (address_of b)
