-- The canonical order of RDATA. RFC 4034 section 6.3.
use Rattle.std.specs.Prelude.{ℕ, List}
use Rattle.std.specs.Cmp.Lexicographic.{slice_cmp}
use Rattle.std.specs.Ordering.{nat_cmp, on, then_cmp}
use Rattle.std.specs.declared.cmp.Ordering.{Ordering}
use Rattle.dns_name.specs.Names.{Labels}
use Rattle.dns_name.specs.NameOrders.{composed_order}
use Rattle.dns_octets.specs.declared.octets.Octets.{Ghosts}
use Rattle.dns_data.specs.A.{address_of}
use Rattle.dns_data.specs.NameData.{nsdname_of, cname_of}
use Rattle.dns_data.specs.Opt.{opt_octets}
use Rattle.dns_data.specs.Soa.{mname_of, rname_of, serial_of, refresh_of, retry_of, expire_of, minimum_of}
use Rattle.dns_data.specs.UnknownData.{unknown_rtype_of, unknown_octets}
use Rattle.dns_data.specs.declared.a.A.{A}
use Rattle.dns_data.specs.declared.name_data.Cname.{Cname}
use Rattle.dns_data.specs.declared.name_data.Ns.{Ns}
use Rattle.dns_data.specs.declared.opt.Opt.{Opt}
use Rattle.dns_data.specs.declared.soa.Soa.{Soa}
use Rattle.dns_data.specs.declared.unknown.UnknownRecordData.{UnknownRecordData}

-- octets: the first octet that differs decides, and a proper prefix sorts first
abbrev pub octet_order : List ℕ → List ℕ → Ordering
octet_order = slice_cmp nat_cmp

-- addresses: by their octets
abbrev pub a_canonical_order : A → A → Ordering
a_canonical_order = on address_of octet_order

module _ {N : Type 0} where
  -- the five numbers of SOA data, in the order of the wire
  abbrev pub numbers_order : Soa N → Soa N → Ordering
  numbers_order = then_cmp (on serial_of nat_cmp) (then_cmp (on refresh_of nat_cmp)
      (then_cmp (on retry_of nat_cmp) (then_cmp (on expire_of nat_cmp) (on minimum_of nat_cmp))))

module _ {N : Type 0} (name : N → Labels) where
  -- a field that is a name: by the octets of the uncompressed name, lowercased
  abbrev pub field_order : {D : Type 0} → (D → N) → D → D → Ordering
  field_order field = on (λ d. name (field d)) composed_order

  -- NS data: by its name
  abbrev pub ns_canonical_order : Ns N → Ns N → Ordering
  ns_canonical_order = field_order nsdname_of

  -- CNAME data: by its name
  abbrev pub cname_canonical_order : Cname N → Cname N → Ordering
  cname_canonical_order = field_order cname_of

  -- SOA data: by its two names, then by its five numbers
  abbrev pub soa_canonical_order : Soa N → Soa N → Ordering
  soa_canonical_order = then_cmp (field_order mname_of) (then_cmp (field_order rname_of) numbers_order)

module _ {X : Type 0} {holds : Ghosts X} where
  -- opaque data: by the type, then by the octets
  abbrev pub unknown_canonical_order : UnknownRecordData X holds → UnknownRecordData X holds → Ordering
  unknown_canonical_order = then_cmp (on unknown_rtype_of nat_cmp) (on unknown_octets octet_order)

  -- OPT data: by its octets
  abbrev pub opt_canonical_order : Opt X holds → Opt X holds → Ordering
  opt_canonical_order = on opt_octets octet_order
