-- Texts of numbers are ASCII.
use Rattle.std.proofs.Common.{◌≡◌, ℕ, zero, suc, ◌<◌, Bool, true, false, not, ◌&&◌, List, [], ◌∷◌, refl, sym, ap, ◌∙◌, inl, inr, arith}
use Rattle.std.specs.Prelude.{nat_lt}
use Rattle.std.specs.Char.{digit_value, to_ascii_lowercase}
use Rattle.std.specs.List.{list_all}
use Rattle.std.specs.Str.{IsAscii, IsUtf8, str_to_ascii_lowercase}
use Rattle.std.specs.Str.Parse.{AllDigits}
use Rattle.std.proofs.lemmas.Bool.{and_parts, ltb-true}
use Rattle.std.proofs.lemmas.Bool.Decides.{nat_tests}
use Rattle.std.proofs.lemmas.List.Folds.{list_all-append}
use Rattle.std.proofs.lemmas.Str.{IsUtf8-from_ascii}
use Rattle.dns_iana.specs.Mnemonics.{Mnemonics}
use Rattle.dns_iana.specs.NumberTexts.{IsMnemonic, IsNumbered, Spells}
use Rattle.dns_iana.specs.Registry.{registered_types, registered_classes, registered_opcodes, registered_opt_rcodes, registered_options}
use Rattle.dns_iana.specs.Registry.{registered_extended_errors}
use Rattle.dns_iana.proofs.theory.MnemonicLemmas.{no_mnemonic}

-- Whether all octets of a text are ASCII.
abbrev pub is_ascii : List ℕ → Bool
is_ascii text = list_all (λ c. nat_lt c 128) text

-- Whether all names of a table are ASCII, as `no_mnemonic` asks.
abbrev pub are_ascii : Mnemonics → Bool
are_ascii names = list_all (λ entry. not (not (is_ascii (str_to_ascii_lowercase entry.1)))) names

-- an octet that is lowercased is ASCII if it was
low-lower : (c : ℕ) → nat_lt (to_ascii_lowercase c) 128 ≡ nat_lt c 128
low-lower c = grind (arith, nat_tests)

-- so is a text
is_ascii-lower : (text : List ℕ) → is_ascii (str_to_ascii_lowercase text) ≡ is_ascii text
is_ascii-lower [] = refl
is_ascii-lower (c ∷ text) =
    ap (λ b. b && is_ascii (str_to_ascii_lowercase text)) (low-lower c) ∙ ap (λ b. nat_lt c 128 && b) (is_ascii-lower text)

-- a digit is ASCII
low_digit : (c : ℕ) → digit_value c < 10 → nat_lt c 128 ≡ true
low_digit c h = grind (arith, nat_tests)

-- so are digits
digits_ascii : (digits : List ℕ) → AllDigits 10 digits → is_ascii digits ≡ true
digits_ascii [] h = refl
digits_ascii (c ∷ digits) h = ap (λ b. b && is_ascii digits) (low_digit c h.0) ∙ digits_ascii digits h.1

-- a test that isn't false is true
true_from : (b : Bool) → (not b ≡ true → ⊥) → b ≡ true
true_from true h = refl
true_from false h = absurd (h refl)

-- a mnemonic of an ASCII table is ASCII
mnemonic_ascii : (names : Mnemonics) (text : List ℕ) (n : ℕ) → are_ascii names ≡ true → IsMnemonic names text n → is_ascii text ≡ true
mnemonic_ascii names text n all is =
    sym (is_ascii-lower text) ∙ true_from (is_ascii (str_to_ascii_lowercase text)) (no_mnemonic text (λ m. not (is_ascii m)) names n all is)

-- an ASCII word with digits after it is ASCII
numbered_ascii : (word text : List ℕ) (n : ℕ) → is_ascii word ≡ true → IsNumbered word text n → is_ascii text ≡ true
numbered_ascii word text n ascii is =
    ap is_ascii is.whole ∙ list_all-append (λ c. nat_lt c 128) is.front is.digits
    ∙ ap (λ b. b && is_ascii is.digits) (sym (is_ascii-lower is.front) ∙ ap is_ascii is.same ∙ is_ascii-lower word ∙ ascii)
    ∙ digits_ascii is.digits is.numeral.1

-- the octets of a text that is ASCII
octets_ascii : (text : List ℕ) → is_ascii text ≡ true → IsAscii text
octets_ascii [] h i = omega arith
octets_ascii (c ∷ text) h zero = ltb-true c 128 (and_parts (nat_lt c 128) (is_ascii text) h).0
octets_ascii (c ∷ text) h (suc i) = octets_ascii text (and_parts (nat_lt c 128) (is_ascii text) h).1 i

module _ (names : Mnemonics) (word : List ℕ) (all : are_ascii names ≡ true) (ascii : is_ascii word ≡ true) where
  -- A text of a number is UTF-8.
  pub spelled_utf8 : (text : List ℕ) (n : ℕ) → Spells names word text n → IsUtf8 text
  spelled_utf8 text n (inl is) = IsUtf8-from_ascii text (octets_ascii text (mnemonic_ascii names text n all is))
  spelled_utf8 text n (inr is) = IsUtf8-from_ascii text (octets_ascii text (numbered_ascii word text n ascii is))

-- The names of registered types are ASCII.
pub types_ascii : are_ascii registered_types ≡ true
unfolding registered_types
types_ascii = refl

-- Those of classes are.
pub classes_ascii : are_ascii registered_classes ≡ true
unfolding registered_classes
classes_ascii = refl

-- Those of opcodes are.
pub opcodes_ascii : are_ascii registered_opcodes ≡ true
unfolding registered_opcodes
opcodes_ascii = refl

-- Those of extended rcodes are.
pub opt_rcodes_ascii : are_ascii registered_opt_rcodes ≡ true
unfolding registered_opt_rcodes
opt_rcodes_ascii = refl

-- Those of options are.
pub options_ascii : are_ascii registered_options ≡ true
unfolding registered_options
options_ascii = refl

-- Those of extended errors are.
pub extended_errors_ascii : are_ascii registered_extended_errors ≡ true
unfolding registered_extended_errors
extended_errors_ascii = refl
