-- MINIMUM of an SOA record that was read.
use Rattle.std.proofs.Common.{◌≡◌, ◌<◌, ◌^◌}
use Rattle.std.proofs.lemmas.Nat.{from_be_bytes-to_be_bytes_4}
use Rattle.dns_data.specs.Soa.{minimum_of, number_octets, soa_parts}
use Rattle.dns_data.specs.declared.soa.Soa.{Soa}
use Rattle.dns_name.specs.ParsedName.{labels}
use Rattle.dns_name.specs.declared.parsed_name.ParsedName.{ParsedName}
use Rattle.dns_reply.specs.Records.{minimum_in}

-- MINIMUM is the last of the five numbers that the RDATA has.
pub minimum_read : (soa : Soa ParsedName) → minimum_of soa < 2 ^ 32 → minimum_in (soa_parts labels soa) ≡ minimum_of soa
unfolding number_octets
minimum_read soa fits = from_be_bytes-to_be_bytes_4 (minimum_of soa) fits
