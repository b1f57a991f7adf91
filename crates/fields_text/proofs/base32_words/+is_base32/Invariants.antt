use Rattle.std.proofs.Common.{length}
use Rattle.fields_text.proofs.base32_words.+is_base32.Given as goal

abbrev pub decreases-is_base32 : goal.decreases-is_base32
decreases-is_base32 l = length l.digits.now
