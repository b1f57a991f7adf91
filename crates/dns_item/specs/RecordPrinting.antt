-- Records, and the errors of parsing one, as texts. RFC 1035 section 5.1.
use Rattle.std.specs.Prelude.{ℕ, List, ◌++◌, Option, Some, option_map, codes}
use Rattle.std.specs.Fmt.{decimal}
use Rattle.std.specs.Option.{option_and_then}
use Rattle.dns_iana.specs.Classes.{class_text}
use Rattle.dns_iana.specs.Types.{type_text}
use Rattle.dns_item.specs.Record.{owner_of, class_of, ttl_of, data_of}
use Rattle.dns_item.specs.declared.record.Record.{Record}
use Rattle.dns_item.specs.declared.record_error.RecordParseError.{RecordParseError}
use Rattle.dns_item.specs.declared.record_error.RecordParseError.TheVariants.{Name, Data, ShortBuf}

-- the text of a record whose owner and RDATA have these texts
abbrev pub record_fields_text : List ℕ → ℕ → ℕ → ℕ → List ℕ → List ℕ
record_fields_text owner ttl class rtype value =
    owner ++ codes ". " ++ decimal ttl ++ codes " " ++ class_text class ++ codes " " ++ type_text rtype ++ codes " " ++ value

-- the text of a record, if the texts of its owner and its RDATA are known
abbrev pub record_text : {N D : Type 0} → (N → Option (List ℕ)) → (D → ℕ) → (D → Option (List ℕ)) → Record N D → Option (List ℕ)
record_text owner_text rtype_of data_text r =
    option_and_then (λ owner. option_map (λ value. record_fields_text owner (ttl_of r) (class_of r) (rtype_of (data_of r)) value) (data_text (data_of r))) (owner_text (owner_of r))

-- the text of an error: that of the owner's or the RDATA's error, or that of missing octets
abbrev pub parse_error_text : {N D : Type 0} → (N → Option (List ℕ)) → (D → Option (List ℕ)) → RecordParseError N D → Option (List ℕ)
parse_error_text name_text data_text (Name error) = name_text error
parse_error_text name_text data_text (Data error) = data_text error
parse_error_text name_text data_text ShortBuf = Some (codes "unexpected end of buffer")
