-- Record types and classes as words, by the names that IANA has registered. RFC 3597 section 5.
use Rattle.std.specs.Prelude.{ℕ, List, codes}
use Rattle.dns_iana.specs.NumberTexts.{number_text}
use Rattle.dns_iana.specs.Registry.{registered_classes, registered_types}

-- the registered name of the type, else TYPE and its number
abbrev pub type_word : ℕ → List ℕ
type_word rtype = number_text registered_types (codes "TYPE") rtype

-- the registered name of the class, else CLASS and its number
abbrev pub class_word : ℕ → List ℕ
class_word class = number_text registered_classes (codes "CLASS") class
