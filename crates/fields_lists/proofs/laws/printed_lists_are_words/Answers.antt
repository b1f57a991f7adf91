use Rattle.fields_lists.proofs.theory.ListTexts.{prefixes_split, strings_split, types_split}
use Rattle.fields_text.proofs.theory.SpacedTexts.{words_are}
use Rattle.fields_lists.proofs.theory.Words.{prefix_is_word}
use Rattle.fields_lists.proofs.laws.printed_lists_are_words.Goals as goal

pub returns-clause-strings : goal.returns-clause-strings
returns-clause-strings c = λ octets. words_are _ _ (strings_split octets)

pub returns-clause-types : goal.returns-clause-types
returns-clause-types c = λ types all. words_are _ _ (types_split types all)

pub returns-clause-prefixes : goal.returns-clause-prefixes
returns-clause-prefixes c = λ octets text bytes e. words_are _ _ (prefixes_split octets text bytes e)

pub returns-clause-prefix : goal.returns-clause-prefix
returns-clause-prefix c = prefix_is_word
