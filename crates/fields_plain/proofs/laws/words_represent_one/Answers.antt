use Rattle.fields_plain.proofs.theory.OneWords.{one_eui, one_hash, one_ipv4, one_ipv6, one_locator, one_name, one_salt, one_sized, one_time}
use Rattle.fields_plain.proofs.theory.RegisteredLemmas.{one_word}
use Rattle.fields_plain.proofs.laws.words_represent_one.Goals as goal

pub returns-clause-types : goal.returns-clause-types
returns-clause-types c = one_word

pub returns-clause-times : goal.returns-clause-times
returns-clause-times c = one_time

pub returns-clause-ipv4 : goal.returns-clause-ipv4
returns-clause-ipv4 c = one_ipv4

pub returns-clause-ipv6 : goal.returns-clause-ipv6
returns-clause-ipv6 c = one_ipv6

pub returns-clause-eui : goal.returns-clause-eui
returns-clause-eui c = one_eui

pub returns-clause-locators : goal.returns-clause-locators
returns-clause-locators c = one_locator

pub returns-clause-names : goal.returns-clause-names
returns-clause-names c = one_name

pub returns-clause-salts : goal.returns-clause-salts
returns-clause-salts c = one_salt

pub returns-clause-hashes : goal.returns-clause-hashes
returns-clause-hashes c = one_hash

pub returns-clause-sized : goal.returns-clause-sized
returns-clause-sized c = one_sized
