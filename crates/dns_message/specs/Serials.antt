-- Serial numbers of zones. RFC 1982.
pub use Rattle.dns_iana.specs.Serials.{serial_sum, IsLess, IsGreater}
