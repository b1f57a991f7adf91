-- The texts of numbers, and texts that spell no name. RFC 1035 section 5.1, RFC 3597 section 5.
use Rattle.std.specs.Prelude.{ℕ, List, codes}
use Rattle.dns_name.specs.Names.{Labels}
use Rattle.dns_name.specs.NameTexts.{SpellsName}
use Rattle.dns_iana.specs.NumberTexts.{number_text}
use Rattle.dns_iana.specs.Registry.{registered_classes, registered_extended_errors, registered_opcodes, registered_opt_rcodes, registered_options, registered_types}

-- the text of a record type: the name that IANA has registered for it, or TYPE and its number. RFC 3597 section 5
abbrev pub type_text : ℕ → List ℕ
type_text n = number_text registered_types (codes "TYPE") n

-- the text of a class: the name that IANA has registered for it, or CLASS and its number. RFC 3597 section 5
abbrev pub class_text : ℕ → List ℕ
class_text n = number_text registered_classes (codes "CLASS") n

-- the text of an opcode: the name that IANA has registered for it, or OPCODE and its number
abbrev pub opcode_text : ℕ → List ℕ
opcode_text n = number_text registered_opcodes (codes "OPCODE") n

-- the text of an extended rcode: the name that IANA has registered for it, or RCODE and its number
abbrev pub rcode_text : ℕ → List ℕ
rcode_text n = number_text registered_opt_rcodes (codes "RCODE") n

-- the text of an option's code: the name that IANA has registered for it, or OPTION and its number
abbrev pub option_text : ℕ → List ℕ
option_text n = number_text registered_options (codes "OPTION") n

-- the text of the code of an extended error: the name that IANA has registered for it, or EDE and its number. RFC 8914
abbrev pub extended_error_text : ℕ → List ℕ
extended_error_text n = number_text registered_extended_errors (codes "EDE") n

-- a text spells no name
abbrev pub SpellsNoName : List ℕ → Type 0
SpellsNoName text = (name : Labels) → SpellsName text name → ⊥
