use Rattle.std.proofs.Common.{◌≡◌, ◌<◌, ◌^◌, take}
use Rattle.std.specs.Str.{str_to_ascii_uppercase}
use Rattle.fields_text.specs.Base32.{base32_digits}
use Rattle.fields_text.proofs.base32_words.read_digits.Given as goal

abbrev pub invariant-loop-digit : goal.invariant-loop-digit
invariant-loop-digit l = record { small : l.number < 32 ^ l.digit-index; text : str_to_ascii_uppercase (take l.digit-index l.digits) ≡ base32_digits l.digit-index l.number }
