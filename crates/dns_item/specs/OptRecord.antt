-- An OPT record and its fields. RFC 6891 sections 6.1.2 and 6.1.3.
use Rattle.std.specs.Prelude.{◌≡◌, ℕ, List}
use Rattle.dns_octets.specs.declared.octets.Octets.{Ghosts}
use Rattle.dns_edns.specs.OptHeader.{OptFields, fields_in}
use Rattle.dns_edns.specs.OptHeader as header
use Rattle.dns_edns.specs.Options.{OptionItem}
use Rattle.dns_edns.specs.OptionsOf.{options_in}
use Rattle.dns_data.specs.Opt.{opt_octets}
use Rattle.dns_data.specs.declared.opt.Opt.{Opt}
use Rattle.dns_item.specs.declared.opt_record.OptRecord.{OptRecord}

-- an OPT record as a value: the fields in its class and TTL, and its options
pub record OptItem : Type 0 where
  pub fields : OptFields
  pub options : List OptionItem

-- the OPT record in a class, a TTL and the octets of RDATA
abbrev pub opt_item_in : ℕ → ℕ → List ℕ → OptItem
opt_item_in class ttl octets = record { fields = fields_in class ttl; options = options_in octets }

module _ {X : Type 0} {holds : Ghosts X} where
  -- the class, the TTL and the RDATA
  abbrev pub opt_class : OptRecord X holds → ℕ
  opt_class opt = header.class_of opt.header

  abbrev pub opt_ttl : OptRecord X holds → ℕ
  opt_ttl opt = header.ttl_of opt.header

  abbrev pub opt_data : OptRecord X holds → Opt X holds
  opt_data opt = opt.«data»

  -- the OPT record as a value
  abbrev pub opt_item : OptRecord X holds → OptItem
  opt_item opt = opt_item_in (opt_class opt) (opt_ttl opt) (opt_octets (opt_data opt))

  -- the OPT record with this class, TTL and RDATA
  pub record HasOptFields (opt : OptRecord X holds) (class ttl : ℕ) (value : Opt X holds) : Type 0 where
    pub same_class : opt_class opt ≡ class
    pub same_ttl : opt_ttl opt ≡ ttl
    pub same_data : opt_data opt ≡ value
