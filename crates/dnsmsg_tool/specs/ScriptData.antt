-- The RDATA of a record of a script, as a type and parts. RFC 1035 section 3.3.
use Rattle.std.specs.Prelude.{ℕ, List, [], ◌∷◌}
use Rattle.dns_name.specs.NameReading.{name_labels}
use Rattle.dns_wire.specs.Parts.{Part}
use Rattle.dns_wire.specs.Parts.Part.{Octets}
use Rattle.dns_data.specs.UnknownData.{unknown_rtype_of, unknown_octets}
use Rattle.dns_lines.specs.KnownData.{rtype_of, parts_of}
use Rattle.dnsmsg_tool.specs.declared.script_data.ScriptData.{ScriptData}
use Rattle.dnsmsg_tool.specs.declared.script_data.ScriptData.TheVariants.{Known, Opaque}

-- the record type
abbrev pub script_rtype_of : ScriptData → ℕ
script_rtype_of (Known known) = rtype_of known
script_rtype_of (Opaque opaque) = unknown_rtype_of opaque

-- the parts of the RDATA
abbrev pub script_parts_of : ScriptData → List Part
script_parts_of (Known known) = parts_of name_labels known
script_parts_of (Opaque opaque) = Octets (unknown_octets opaque) ∷ []
