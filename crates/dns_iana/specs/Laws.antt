-- The printed texts of numbers read back. RFC 3597 section 5.
use Rattle.std.specs.Prelude.{◌≡◌, ℕ, ◌<◌, ◌^◌, Result, Ok}
use Rattle.dns_iana.specs.NumberTexts.{ReadsNumber}
use Rattle.dns_iana.specs.Types.{type_text, SpellsType}
use Rattle.dns_iana.specs.Classes.{class_text, SpellsClass}
use Rattle.dns_iana.specs.declared.rtype.FromStrError.{FromStrError as TypeError}
use Rattle.dns_iana.specs.declared.class.FromStrError.{FromStrError as ClassError}

-- the printed text of each record type reads back as that type
abbrev pub TypesReadBack : Type 0
TypesReadBack = (n : ℕ) (r : Result ℕ TypeError) → n < 2 ^ 16 → ReadsNumber (SpellsType (type_text n)) r → r ≡ Ok n

-- the printed text of each class reads back as that class
abbrev pub ClassesReadBack : Type 0
ClassesReadBack = (n : ℕ) (r : Result ℕ ClassError) → n < 2 ^ 16 → ReadsNumber (SpellsClass (class_text n)) r → r ≡ Ok n
