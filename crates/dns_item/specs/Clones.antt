-- What a clone of a record or of its parts is, and when errors of parsing a record are equal. RFC 1035 section 4.1.3.
use Rattle.std.specs.Prelude.{◌≡◌, ⊤, Bool, true, false}
use Rattle.dns_octets.specs.declared.octets.Octets.{Ghosts}
use Rattle.dns_data.specs.Opt.{opt_octets}
use Rattle.dns_item.specs.OptRecord.{opt_class, opt_ttl, opt_data}
use Rattle.dns_item.specs.Record as r
use Rattle.dns_item.specs.RecordHeader as h
use Rattle.dns_item.specs.declared.opt_record.OptRecord.{OptRecord}
use Rattle.dns_item.specs.declared.record.Record.{Record}
use Rattle.dns_item.specs.declared.record_error.RecordParseError.{RecordParseError}
use Rattle.dns_item.specs.declared.record_error.RecordParseError.TheVariants.{Name, Data, ShortBuf}
use Rattle.dns_item.specs.declared.record_header.RecordHeader.{RecordHeader}

-- a clone of a header: the owner is a clone, and the numbers are the same
pub record IsHeaderClone {N : Type 0} (IsNameClone : N → N → Type 0) (header clone : RecordHeader N) : Type 0 where
  pub owner : IsNameClone (h.owner_of header) (h.owner_of clone)
  pub rtype : h.rtype_of clone ≡ h.rtype_of header
  pub same_class : h.class_of clone ≡ h.class_of header
  pub ttl : h.ttl_of clone ≡ h.ttl_of header
  pub rdlen : h.rdlen_of clone ≡ h.rdlen_of header

-- a clone of an OPT record: class, TTL and octets are the same
pub record IsOptRecordClone {X : Type 0} {holds : Ghosts X} (opt clone : OptRecord X holds) : Type 0 where
  pub same_class : opt_class clone ≡ opt_class opt
  pub ttl : opt_ttl clone ≡ opt_ttl opt
  pub octets : opt_octets (opt_data clone) ≡ opt_octets (opt_data opt)

module _ {N D : Type 0} where
  -- a clone of a record: owner and RDATA are clones, and class and TTL are the same
  pub record IsRecordClone (IsNameClone : N → N → Type 0) (IsDataClone : D → D → Type 0) (record_ clone : Record N D) : Type 0 where
    pub owner : IsNameClone (r.owner_of record_) (r.owner_of clone)
    pub same_class : r.class_of clone ≡ r.class_of record_
    pub ttl : r.ttl_of clone ≡ r.ttl_of record_
    pub rdata : IsDataClone (r.data_of record_) (r.data_of clone)

  -- errors of parsing a record are equal if they are of one kind and the errors in them are equal
  abbrev pub parse_errors_equal : (N → N → Bool) → (D → D → Bool) → RecordParseError N D → RecordParseError N D → Bool
  parse_errors_equal same_name same_data (Name x) (Name y) = same_name x y
  parse_errors_equal same_name same_data (Data x) (Data y) = same_data x y
  parse_errors_equal same_name same_data ShortBuf ShortBuf = true
  parse_errors_equal same_name same_data _ _ = false

  -- a clone of such an error: one of the same kind, with a clone of the error in it
  abbrev pub IsParseErrorClone : (N → N → Type 0) → (D → D → Type 0) → RecordParseError N D → RecordParseError N D → Type 0
  IsParseErrorClone IsNameClone IsDataClone (Name x) (Name y) = IsNameClone x y
  IsParseErrorClone IsNameClone IsDataClone (Data x) (Data y) = IsDataClone x y
  IsParseErrorClone IsNameClone IsDataClone ShortBuf ShortBuf = ⊤
  IsParseErrorClone IsNameClone IsDataClone _ _ = ⊥

  -- cloning the error in it never fails
  abbrev pub ParseErrorClones : (N → Type 0) → (D → Type 0) → RecordParseError N D → Type 0
  ParseErrorClones NameClones DataClones (Name x) = NameClones x
  ParseErrorClones NameClones DataClones (Data x) = DataClones x
  ParseErrorClones NameClones DataClones ShortBuf = ⊤
