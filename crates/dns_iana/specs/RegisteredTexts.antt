-- Texts of numbers by the names that IANA has registered, ignoring ASCII case. A number without a name is a word and its decimal digits: for types and classes
-- that of RFC 3597 section 5.
use Rattle.std.specs.Prelude.{ℕ, ◌<◌, ◌^◌, List, codes}
use Rattle.dns_iana.specs.Mnemonics.{Mnemonics}
use Rattle.dns_iana.specs.NumberTexts.{number_text, Spells}
use Rattle.dns_iana.specs.Rcodes.{IsRcode, IsOptRcode}
use Rattle.dns_iana.specs.Registry.{registered_types, registered_classes, registered_opcodes, registered_rcodes, registered_opt_rcodes, registered_options}
use Rattle.dns_iana.specs.Registry.{registered_extended_errors}

-- the text is one of the record type. RFC 3597 section 5.
abbrev pub SpellsRegisteredType : List ℕ → ℕ → Type 0
SpellsRegisteredType text n = Spells registered_types (codes "TYPE") text n

-- the text is one of the class. RFC 3597 section 5.
abbrev pub SpellsRegisteredClass : List ℕ → ℕ → Type 0
SpellsRegisteredClass text n = Spells registered_classes (codes "CLASS") text n

-- the text is one of the opcode, an 8-bit number
abbrev pub SpellsOpcode : List ℕ → ℕ → Type 0
SpellsOpcode text n = Spells registered_opcodes (codes "OPCODE") text n × (n < 2 ^ 8)

-- the text is one of the rcode
abbrev pub SpellsRcode : List ℕ → ℕ → Type 0
SpellsRcode text n = Spells registered_rcodes (codes "RCODE") text n × IsRcode n

-- the text is one of the extended rcode
abbrev pub SpellsOptRcode : List ℕ → ℕ → Type 0
SpellsOptRcode text n = Spells registered_opt_rcodes (codes "RCODE") text n × IsOptRcode n

-- the text is one of the option code
abbrev pub SpellsOption : List ℕ → ℕ → Type 0
SpellsOption text n = Spells registered_options (codes "OPTION") text n

-- the text is one of the code of an extended error
abbrev pub SpellsExtendedError : List ℕ → ℕ → Type 0
SpellsExtendedError text n = Spells registered_extended_errors (codes "EDE") text n

-- the printed text of each 16-bit number is one of that number
abbrev pub TextsReadBack : Mnemonics → List ℕ → Type 0
TextsReadBack names word = (n : ℕ) → n < 2 ^ 16 → Spells names word (number_text names word n) n
