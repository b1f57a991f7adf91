-- The fields of opaque data. RFC 3597 section 4.
use Rattle.std.specs.Prelude.{ℕ, nat_le, List, length}
use Rattle.dns_octets.specs.declared.octets.Octets.{Ghosts}
use Rattle.dns_data.specs.Layout.{Layout}
use Rattle.dns_data.specs.Layout.Layout.{Rest}
use Rattle.dns_data.specs.declared.unknown.UnknownRecordData.{UnknownRecordData}

module _ {X : Type 0} {holds : Ghosts X} where
  -- the record type
  abbrev pub unknown_rtype_of : UnknownRecordData X holds → ℕ
  unknown_rtype_of unknown = unknown.rtype

  -- the value that holds the octets
  abbrev pub unknown_buffer : UnknownRecordData X holds → X
  unknown_buffer unknown = unknown.octets

  -- the octets
  abbrev pub unknown_octets : UnknownRecordData X holds → List ℕ
  unknown_octets unknown = holds.octets (unknown_buffer unknown)

-- all remaining octets, if they are at most 65,535, the most that RDLENGTH can say
abbrev pub opaque_layout : Layout
opaque_layout = Rest (λ octets. nat_le (length octets) 65535)
