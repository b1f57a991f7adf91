-- Queries that a caller has. RFC 1035 section 4.1.1.
use Rattle.std.specs.Prelude.{◌≡◌, ◌≤◌, ℕ, List, false, length, take}
use Rattle.dns_code.specs.Header.{fields_in}
use Rattle.dns_code.specs.HeaderSection.{header_size}

-- the octets have a header section, and it is a query's: QR isn't set. RFC 1035 section 4.1.1
pub record HoldsQuery (b : List ℕ) : Type 0 where
  pub long : header_size ≤ length b
  pub query : (fields_in (take 4 b)).qr ≡ false
