use Rattle.std.specs.Prelude.{ℕ, List, codes}
use Rattle.dns_iana.specs.Mnemonics.{type_mnemonics}
use Rattle.dns_iana.specs.NumberTexts.{number_text, Spells}

-- the printed text of a record type. RFC 3597 section 5.
abbrev pub type_text : ℕ → List ℕ
type_text n = number_text type_mnemonics (codes "TYPE") n

-- the text is one of the record type. RFC 3597 section 5.
abbrev pub SpellsType : List ℕ → ℕ → Type 0
SpellsType text n = Spells type_mnemonics (codes "TYPE") text n
