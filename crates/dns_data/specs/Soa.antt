-- The fields of SOA data. RFC 1035 section 3.3.13.
use Rattle.std.specs.Prelude.{◌≡◌, ℕ, List, [], ◌∷◌, length}
use Rattle.std.proofs.Common.{arith}
use Rattle.std.specs.Int.{to_be_bytes, w32}
use Rattle.std.specs.List.{flat_map}
use Rattle.dns_name.specs.Names.{Labels}
use Rattle.dns_wire.specs.Parts.{Part}
use Rattle.dns_wire.specs.Parts.Part.{Octets, CompressibleName}
use Rattle.dns_data.specs.declared.soa.Soa.{Soa}

module _ {N : Type 0} where
  -- the fields
  abbrev pub mname_of : Soa N → N
  mname_of soa = soa.mname

  abbrev pub rname_of : Soa N → N
  rname_of soa = soa.rname

  abbrev pub serial_of : Soa N → ℕ
  serial_of soa = soa.serial

  abbrev pub refresh_of : Soa N → ℕ
  refresh_of soa = soa.refresh

  abbrev pub retry_of : Soa N → ℕ
  retry_of soa = soa.retry

  abbrev pub expire_of : Soa N → ℕ
  expire_of soa = soa.expire

  abbrev pub minimum_of : Soa N → ℕ
  minimum_of soa = soa.minimum

  -- the five numbers, in order
  abbrev pub numbers_of : Soa N → List ℕ
  numbers_of soa = serial_of soa ∷ refresh_of soa ∷ retry_of soa ∷ expire_of soa ∷ minimum_of soa ∷ []

  -- the octets of the numbers, four for each, big-endian
  unfoldable pub number_octets : Soa N → List ℕ
  number_octets soa = flat_map (to_be_bytes w32) (numbers_of soa)

  -- they are twenty octets
  pub length-number_octets : (soa : Soa N) → length (number_octets soa) ≡ 20
  unfolding number_octets
  length-number_octets soa = omega arith

  -- the parts of SOA data: two names, and the octets of the numbers
  abbrev pub soa_parts : (N → Labels) → Soa N → List Part
  soa_parts name soa = CompressibleName (name (mname_of soa)) ∷ CompressibleName (name (rname_of soa)) ∷ Octets (number_octets soa) ∷ []
