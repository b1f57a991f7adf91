-- How long the texts of types, classes and codes are.
use Rattle.std.proofs.Common.{ℕ, ◌^◌, ◌<◌, length, refl, arith}
use Rattle.std.specs.Prelude.{codes}
use Rattle.dns_iana.specs.Registry.{registered_classes, registered_extended_errors, registered_opcodes, registered_opt_rcodes, registered_options, registered_types}
use Rattle.dnsm_status.proofs.theory.NumberTextSizes.{number_text_short}
use Rattle.dnsm_text.specs.Texts.{class_text, extended_error_text, opcode_text, option_text, rcode_text, type_text}

-- The text of a type fits 15 octets.
pub type_text_short : (n : ℕ) → n < 2 ^ 16 → length (type_text n) < 16
unfolding registered_types
type_text_short n fits = number_text_short registered_types (codes "TYPE") 16 5 n refl (omega arith) (omega arith) (omega arith) (omega arith)

-- The text of a class fits 15 octets.
pub class_text_short : (n : ℕ) → n < 2 ^ 16 → length (class_text n) < 16
unfolding registered_classes
class_text_short n fits = number_text_short registered_classes (codes "CLASS") 16 5 n refl (omega arith) (omega arith) (omega arith) (omega arith)

-- The text of an opcode fits 15 octets.
pub opcode_text_short : (n : ℕ) → n < 2 ^ 8 → length (opcode_text n) < 16
unfolding registered_opcodes
opcode_text_short n fits = number_text_short registered_opcodes (codes "OPCODE") 16 3 n refl (omega arith) (omega arith) (omega arith) (omega arith)

-- The text of an rcode fits 15 octets.
pub rcode_text_short : (n : ℕ) → n < 2 ^ 16 → length (rcode_text n) < 16
unfolding registered_opt_rcodes
rcode_text_short n fits = number_text_short registered_opt_rcodes (codes "RCODE") 16 5 n refl (omega arith) (omega arith) (omega arith) (omega arith)

-- The text of an option code fits 31 octets.
pub option_text_short : (n : ℕ) → n < 2 ^ 16 → length (option_text n) < 32
unfolding registered_options
option_text_short n fits = number_text_short registered_options (codes "OPTION") 32 5 n refl (omega arith) (omega arith) (omega arith) (omega arith)

-- The text of an extended DNS error fits 63 octets.
pub extended_error_text_short : (n : ℕ) → n < 2 ^ 16 → length (extended_error_text n) < 64
unfolding registered_extended_errors
extended_error_text_short n fits = number_text_short registered_extended_errors (codes "EDE") 64 5 n refl (omega arith) (omega arith) (omega arith) (omega arith)
