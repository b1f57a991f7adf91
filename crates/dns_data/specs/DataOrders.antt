-- How SOA data compares, field by field; how opaque data and OPT data compare, by their octets, whatever type holds them; what these and addresses feed a hasher; and what a clone of SOA data is.
use Rattle.std.specs.Prelude.{◌≡◌, ℕ, Bool, List, ◌==◌, ◌++◌}
use Rattle.std.specs.Cmp.Lexicographic.{pointwise}
use Rattle.std.specs.Ordering.{nat_cmp, on, then_cmp, eq_of_both}
use Rattle.std.specs.declared.cmp.Ordering.{Ordering}
use Rattle.std.specs.Hash as fed
use Rattle.dns_octets.specs.declared.octets.Octets.{Ghosts}
use Rattle.dns_data.specs.A.{address_of}
use Rattle.dns_data.specs.CanonicalOrders.{octet_order}
use Rattle.dns_data.specs.Opt.{opt_octets}
use Rattle.dns_data.specs.Soa.{mname_of, rname_of, serial_of, refresh_of, retry_of, expire_of, minimum_of}
use Rattle.dns_data.specs.UnknownData.{unknown_rtype_of, unknown_octets}
use Rattle.dns_data.specs.declared.a.A.{A}
use Rattle.dns_data.specs.declared.opt.Opt.{Opt}
use Rattle.dns_data.specs.declared.soa.Soa.{Soa}
use Rattle.dns_data.specs.declared.unknown.UnknownRecordData.{UnknownRecordData}

-- whether octets are the same
abbrev pub octets_equal : List ℕ → List ℕ → Bool
octets_equal = pointwise ◌==◌

-- what octets feed a hasher: their number, and then each
abbrev pub octets_hash_input : List ℕ → fed.HashWrites
octets_hash_input = fed.slice fed.u8

-- what an address feeds a hasher: its octets
abbrev pub address_hash_input : A → fed.HashWrites
address_hash_input a = octets_hash_input (address_of a)

module _ {X : Type 0} {holds : Ghosts X} where
  -- opaque data is equal if the types and the octets are
  abbrev pub unknown_equal : UnknownRecordData X holds → UnknownRecordData X holds → Bool
  unknown_equal = eq_of_both (on unknown_rtype_of ◌==◌) (on unknown_octets octets_equal)

  -- the order of opaque data: by the type, then by the octets
  abbrev pub unknown_order : UnknownRecordData X holds → UnknownRecordData X holds → Ordering
  unknown_order = then_cmp (on unknown_rtype_of nat_cmp) (on unknown_octets octet_order)

  -- what opaque data feeds a hasher: the type, then the octets
  abbrev pub unknown_hash_input : UnknownRecordData X holds → fed.HashWrites
  unknown_hash_input unknown = fed.u16 (unknown_rtype_of unknown) ++ octets_hash_input (unknown_octets unknown)

  -- OPT data is equal if the octets are
  abbrev pub opt_equal : Opt X holds → Opt X holds → Bool
  opt_equal = on opt_octets octets_equal

  -- the order of OPT data: by the octets
  abbrev pub opt_order : Opt X holds → Opt X holds → Ordering
  opt_order = on opt_octets octet_order

  -- what OPT data feeds a hasher: the octets
  abbrev pub opt_hash_input : Opt X holds → fed.HashWrites
  opt_hash_input opt = octets_hash_input (opt_octets opt)

module _ {N : Type 0} where
  -- SOA data is equal if all fields are
  abbrev pub zones_equal : (N → N → Bool) → Soa N → Soa N → Bool
  zones_equal same_name =
      eq_of_both (on mname_of same_name)
      (eq_of_both (on rname_of same_name)
      (eq_of_both (on serial_of ◌==◌)
      (eq_of_both (on refresh_of ◌==◌) (eq_of_both (on retry_of ◌==◌) (eq_of_both (on expire_of ◌==◌) (on minimum_of ◌==◌))))))

  -- the order of SOA data: by the two names, then by the five numbers, in the order of the wire (RFC 1035 section 3.3.13)
  abbrev pub zone_order : (N → N → Ordering) → Soa N → Soa N → Ordering
  zone_order name_order =
      then_cmp (on mname_of name_order)
      (then_cmp (on rname_of name_order)
      (then_cmp (on serial_of nat_cmp)
      (then_cmp (on refresh_of nat_cmp) (then_cmp (on retry_of nat_cmp) (then_cmp (on expire_of nat_cmp) (on minimum_of nat_cmp))))))

  -- what SOA data feeds a hasher: its fields, in the order of the wire
  abbrev pub zone_hash_input : (N → fed.HashWrites) → Soa N → fed.HashWrites
  zone_hash_input of_name zone =
      of_name (mname_of zone)
      ++ (of_name (rname_of zone)
      ++ (fed.u32 (serial_of zone)
      ++ (fed.u32 (refresh_of zone) ++ (fed.u32 (retry_of zone) ++ (fed.u32 (expire_of zone) ++ fed.u32 (minimum_of zone))))))

  -- a clone of SOA data: the names are clones, and the numbers are the same
  pub record IsZoneClone (IsNameClone : N → N → Type 0) (zone clone : Soa N) : Type 0 where
    pub mname : IsNameClone (mname_of zone) (mname_of clone)
    pub rname : IsNameClone (rname_of zone) (rname_of clone)
    pub serial : serial_of clone ≡ serial_of zone
    pub refresh : refresh_of clone ≡ refresh_of zone
    pub retry : retry_of clone ≡ retry_of zone
    pub expire : expire_of clone ≡ expire_of zone
    pub minimum : minimum_of clone ≡ minimum_of zone
