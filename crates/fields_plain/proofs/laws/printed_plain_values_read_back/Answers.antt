use Rattle.std.proofs.Common.{refl, inl}
use Rattle.std.proofs.NetLemmas.Texts.{IsDotted-ipv4_text}
use Rattle.fields_plain.proofs.theory.AddressLaws.{ipv6_reads_back}
use Rattle.fields_plain.proofs.EuiLemmas.{eui_reads_back}
use Rattle.fields_plain.proofs.theory.LocatorLemmas.{locators_read_back}
use Rattle.fields_plain.proofs.theory.NameLaws.{names_read_back}
use Rattle.fields_plain.proofs.SaltLaws.{hashes_read_back, salts_read_back}
use Rattle.fields_plain.proofs.theory.SizedLaws.{sized_read_back}
use Rattle.fields_plain.proofs.theory.RegisteredLemmas.{types_read_back}
use Rattle.fields_plain.proofs.laws.printed_plain_values_read_back.Goals as goal

pub returns-clause-types : goal.returns-clause-types
returns-clause-types c = types_read_back

pub returns-clause-ipv4 : goal.returns-clause-ipv4
returns-clause-ipv4 c = IsDotted-ipv4_text

pub returns-clause-ipv6 : goal.returns-clause-ipv6
returns-clause-ipv6 c = ipv6_reads_back

pub returns-clause-names : goal.returns-clause-names
returns-clause-names c = names_read_back

pub returns-clause-salts : goal.returns-clause-salts
returns-clause-salts c = salts_read_back c.printed_values_read_back.ensures.hexadecimal

pub returns-clause-hashes : goal.returns-clause-hashes
returns-clause-hashes c = hashes_read_back

pub returns-clause-eui : goal.returns-clause-eui
returns-clause-eui c = eui_reads_back

pub returns-clause-locators : goal.returns-clause-locators
returns-clause-locators c = locators_read_back

pub returns-clause-times : goal.returns-clause-times
returns-clause-times c = λ seconds small. inl (small, refl)

pub returns-clause-sized : goal.returns-clause-sized
returns-clause-sized c = sized_read_back c.printed_values_read_back.ensures.base64
