use Rattle.std.proofs.Common.{Contains, refl, lit<}
use Rattle.dns_octets.specs.Causes.{causes}
use Rattle.dns_octets.specs.declared.error.FormError.{FormError}
use Rattle.dns_octets.specs.declared.error.Cause.{Cause}
use Rattle.dns_octets.specs.declared.error.Cause.TheVariants.{BadLabel, BadPointer, LongName, TrailingData, NoQuestion, MultipleQuestions}
use Rattle.dns_octets.proofs.laws.causes_differ.Goals as goal

-- Each text is that of one of the constants.
is_cause : (text : Cause) → let cause : FormError = record { 0 = text } in Contains causes cause
is_cause BadLabel = (0, lit< tt, refl)
is_cause BadPointer = (1, lit< tt, refl)
is_cause LongName = (2, lit< tt, refl)
is_cause TrailingData = (3, lit< tt, refl)
is_cause NoQuestion = (4, lit< tt, refl)
is_cause MultipleQuestions = (5, lit< tt, refl)

pub returns-clause-all : goal.returns-clause-all
returns-clause-all c = λ cause. is_cause cause.0
