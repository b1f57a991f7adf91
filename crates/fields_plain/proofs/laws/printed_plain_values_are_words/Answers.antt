use Rattle.fields_plain.proofs.theory.Words.{class_is_word, eui_word, hash_word, ipv4_word, ipv6_word, locator_word, name_word, salt_word, time_word, type_is_word}
use Rattle.fields_plain.proofs.theory.Words.{sized_split}
use Rattle.fields_text.proofs.theory.SpacedTexts.{words_are}
use Rattle.fields_plain.proofs.laws.printed_plain_values_are_words.Goals as goal

pub returns-clause-types : goal.returns-clause-types
returns-clause-types c = type_is_word

pub returns-clause-classes : goal.returns-clause-classes
returns-clause-classes c = class_is_word

pub returns-clause-times : goal.returns-clause-times
returns-clause-times c = time_word

pub returns-clause-names : goal.returns-clause-names
returns-clause-names c = name_word

pub returns-clause-salts : goal.returns-clause-salts
returns-clause-salts c = salt_word

pub returns-clause-ipv4 : goal.returns-clause-ipv4
returns-clause-ipv4 c = ipv4_word

pub returns-clause-ipv6 : goal.returns-clause-ipv6
returns-clause-ipv6 c = ipv6_word

pub returns-clause-locators : goal.returns-clause-locators
returns-clause-locators c = locator_word

pub returns-clause-eui : goal.returns-clause-eui
returns-clause-eui c = eui_word

pub returns-clause-hashes : goal.returns-clause-hashes
returns-clause-hashes c = λ octets bytes some. hash_word octets some

pub returns-clause-sized : goal.returns-clause-sized
returns-clause-sized c = λ octets small. words_are _ _ (sized_split octets small)
