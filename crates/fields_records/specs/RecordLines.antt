-- Records as lines. RFC 1035 section 5.1.
use Rattle.std.specs.Prelude.{ℕ, List, ◌++◌, codes, decimal}
use Rattle.dns_name.specs.Names.{Labels}
use Rattle.fields_table.specs.Data.{rtype_of}
use Rattle.fields_table.specs.declared.field_data.FieldData.{FieldData}
use Rattle.dns_item.specs.Record.{owner_of, class_of, ttl_of, data_of}
use Rattle.dns_item.specs.declared.record.Record.{Record}
use Rattle.fields_records.specs.DataTexts.{data_line}
use Rattle.fields_plain.specs.TypeNames.{class_word, type_word}
use Rattle.fields_plain.specs.ZoneNames.{zone_name_text}

-- a record whose owner and RDATA have these texts: the owner, the TTL in seconds, the class, the type and the RDATA, separated by spaces
abbrev pub record_text : List ℕ → ℕ → ℕ → ℕ → List ℕ → List ℕ
record_text owner ttl class rtype value =
    owner ++ codes " " ++ decimal ttl ++ codes " " ++ class_word class ++ codes " " ++ type_word rtype ++ codes " " ++ value

-- the line of a record, whose owner `name` maps to its labels
abbrev pub record_line : {N : Type 0} → (N → Labels) → Record N FieldData → List ℕ
record_line name r = record_text (zone_name_text (name (owner_of r))) (ttl_of r) (class_of r) (rtype_of (data_of r)) (data_line (data_of r))
