-- Octets: the parser over them, and conversions between types that hold them.
pub use Rattle.dns_name.specs.Parsers.{input, seen, offset, number_at, MovesTo, Takes, Peeks}
pub use Rattle.dns_octets.specs.Octets.{overwritten, ClonesSurely}
pub use Rattle.dns_octets.specs.Converts.{Converts, joined}
