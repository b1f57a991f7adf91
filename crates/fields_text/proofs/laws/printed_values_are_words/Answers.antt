use Rattle.fields_text.proofs.theory.WordTexts.{quoted_word}
use Rattle.fields_text.proofs.theory.Words.{base64_word, decimal_word, hex_word, tag_word}
use Rattle.fields_text.proofs.laws.printed_values_are_words.Goals as goal

pub returns-clause-numbers : goal.returns-clause-numbers
returns-clause-numbers c = decimal_word

pub returns-clause-strings : goal.returns-clause-strings
returns-clause-strings c = quoted_word

pub returns-clause-tags : goal.returns-clause-tags
returns-clause-tags c = tag_word

pub returns-clause-hexadecimal : goal.returns-clause-hexadecimal
returns-clause-hexadecimal c = hex_word

pub returns-clause-base64 : goal.returns-clause-base64
returns-clause-base64 c = λ octets bytes some. base64_word octets some
