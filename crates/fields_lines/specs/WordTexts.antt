-- Words that are completed before they are read.
use Rattle.std.specs.Prelude.{ℕ, ◌%◌, ◌==◌, ◌&&◌, not, if◌then◌else◌, Option, Some, None, option_map, unwrap_or, List, [], ◌∷◌, ◌++◌, length, reverse, codes, decimal, string_bytes}
use Rattle.std.specs.Char.{is_ascii_digit}
use Rattle.std.specs.List.{list_all}
use Rattle.fields_text.specs.String.{quote}
use Rattle.fields_lines.specs.Durations.{duration}
use Rattle.fields_lines.specs.Mnemonics.{algorithms, certificate_types, errors, flags_of, named}
use Rattle.fields_lines.specs.NameWords.{completed_name}
use Rattle.fields_lines.specs.declared.way.Way.{Way}
use Rattle.fields_lines.specs.declared.way.Way.TheVariants as ways
use Rattle.fields_lines.specs.declared.word.Word.{Word}
use Rattle.fields_lines.specs.declared.word.Word.TheVariants.{Given, Made}

-- the text of a word
abbrev pub text_of : Word → List ℕ
text_of (Given text) = text.now
text_of (Made text) = string_bytes text

-- the number that a word stands for
abbrev pub word_number : Way → List ℕ → Option ℕ
word_number ways.Duration word = duration word
word_number ways.Algorithm word = named algorithms word
word_number ways.CertificateType word = named certificate_types word
word_number ways.ErrorCode word = named errors word
word_number ways.KeyFlags word = flags_of word
word_number way word = None

-- a number in decimal digits; the word if it stands for none
abbrev pub number_or : Option ℕ → List ℕ → List ℕ
number_or (Some number) word = decimal number
number_or None word = word

-- a record type by its number alone: that after TYPE. RFC 3597 section 5
abbrev pub numbered_type : List ℕ → List ℕ
numbered_type word = if not (length word == 0) && list_all is_ascii_digit word then codes "TYPE" ++ word else word

-- the text before the quote at its end, if it has one
abbrev pub before_quote : List ℕ → Option (List ℕ)
before_quote [] = None
before_quote (c ∷ []) = if c == quote then Some [] else None
before_quote (c ∷ d ∷ text) = option_map (λ before. c ∷ before) (before_quote (d ∷ text))

-- the text between the quotes of a word, or the word if it isn't in quotes
abbrev pub opened : List ℕ → List ℕ
opened [] = []
opened (c ∷ text) = if c == quote then unwrap_or (before_quote text) (c ∷ text) else c ∷ text

-- a text without equals signs at its start
abbrev pub after_padding : List ℕ → List ℕ
after_padding [] = []
after_padding (c ∷ text) = if c == 0x3d then after_padding text else c ∷ text

-- a text without equals signs at its end
abbrev pub without_padding : List ℕ → List ℕ
without_padding text = reverse (after_padding (reverse text))

-- base32 without its padding, which makes the characters a multiple of eight. RFC 4648 section 6
abbrev pub unpadded : List ℕ → List ℕ
unpadded word = if length word % 8 == 0 then without_padding word else word

-- the word that is read for a word of this way; none if it is a relative name and there is no origin
abbrev pub completed_word : Option (List ℕ) → Way → List ℕ → Option (List ℕ)
completed_word origin ways.Name word = completed_name origin word
completed_word origin ways.RecordType word = Some (numbered_type word)
completed_word origin ways.Tag word = Some (opened word)
completed_word origin ways.Hash word = Some (unpadded word)
completed_word origin way word = Some (number_or (word_number way word) word)
