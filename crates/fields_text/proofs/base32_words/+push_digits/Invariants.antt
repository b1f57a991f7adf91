use Rattle.std.proofs.Common.{length}
use Rattle.fields_text.proofs.base32_words.+push_digits.Given as goal

abbrev pub decreases-push_digits : goal.decreases-push_digits
decreases-push_digits l = length l.digits.now
