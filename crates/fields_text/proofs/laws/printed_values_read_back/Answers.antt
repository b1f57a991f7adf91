use Rattle.std.proofs.Common.{refl}
use Rattle.std.proofs.lemmas.Fmt.{decimal_is_IsNumeral}
use Rattle.base64.proofs.EngineFacts.{decode_of-encode_of}
use Rattle.base64.specs.Engines.{standard}
use Rattle.fields_text.proofs.HexTexts.{hex_reads_back}
use Rattle.fields_text.proofs.theory.StringLaws.{string_reads_back, tag_reads_back}
use Rattle.fields_text.proofs.laws.printed_values_read_back.Goals as goal

pub returns-clause-numbers : goal.returns-clause-numbers
returns-clause-numbers c = decimal_is_IsNumeral

pub returns-clause-hexadecimal : goal.returns-clause-hexadecimal
returns-clause-hexadecimal c = hex_reads_back

pub returns-clause-base64 : goal.returns-clause-base64
returns-clause-base64 c = λ octets bytes. decode_of-encode_of standard octets refl bytes

pub returns-clause-strings : goal.returns-clause-strings
returns-clause-strings c = string_reads_back

pub returns-clause-tags : goal.returns-clause-tags
returns-clause-tags c = tag_reads_back
