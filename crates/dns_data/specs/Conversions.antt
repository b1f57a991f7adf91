-- What a conversion of RDATA keeps.
use Rattle.std.specs.Prelude.{◌≡◌}
use Rattle.dns_octets.specs.declared.octets.Octets.{Ghosts}
use Rattle.dns_data.specs.Opt.{opt_octets}
use Rattle.dns_data.specs.Soa.{mname_of, rname_of, numbers_of}
use Rattle.dns_data.specs.UnknownData.{unknown_rtype_of, unknown_octets}
use Rattle.dns_data.specs.declared.opt.Opt.{Opt}
use Rattle.dns_data.specs.declared.soa.Soa.{Soa}
use Rattle.dns_data.specs.declared.unknown.UnknownRecordData.{UnknownRecordData}

-- SOA data: what `keeps` says of its two names, and its five numbers
abbrev pub keeps_soa : {M N : Type 0} → (M → N → Type 0) → Soa M → Soa N → Type 0
keeps_soa keeps source soa =
    keeps (mname_of source) (mname_of soa) × keeps (rname_of source) (rname_of soa) × (numbers_of soa ≡ numbers_of source)

module _ {X Y : Type 0} {holds : Ghosts X} {holds_too : Ghosts Y} where
  -- opaque data: the type and the octets
  abbrev pub keeps_unknown : UnknownRecordData X holds → UnknownRecordData Y holds_too → Type 0
  keeps_unknown source unknown =
      (unknown_rtype_of unknown ≡ unknown_rtype_of source) × (unknown_octets unknown ≡ unknown_octets source)

  -- OPT data: the octets
  abbrev pub keeps_opt : Opt X holds → Opt Y holds_too → Type 0
  keeps_opt source opt = opt_octets opt ≡ opt_octets source
