use Rattle.std.specs.Prelude.{ℕ, List, codes}
use Rattle.dns_iana.specs.Mnemonics.{class_mnemonics}
use Rattle.dns_iana.specs.NumberTexts.{number_text, Spells}

-- the printed text of a class. RFC 3597 section 5.
abbrev pub class_text : ℕ → List ℕ
class_text n = number_text class_mnemonics (codes "CLASS") n

-- the text is one of the class. RFC 3597 section 5.
abbrev pub SpellsClass : List ℕ → ℕ → Type 0
SpellsClass text n = Spells class_mnemonics (codes "CLASS") text n
