-- At each offset: one name or one fault, and one end of an encoding or one skip fault.
use Rattle.std.proofs.Common.{arith, inl, inr, refl, Ok, Err}
use Rattle.dns_name.specs.Laws.{NameOrFault, NameOrFaultNotBoth, OneName, OneFault, EndOrSkipFault, EndOrSkipFaultNotBoth}
use Rattle.dns_name.specs.Laws.{OneEnd, EncodedNamesEnd, SkipFaultsAreFaults, SkippingEndsAlike, SkippingFailsAlike}
use Rattle.dns_name.specs.Parsers.{seen}
use Rattle.dns_name.specs.Unique.{same_name as same, encoded_short}
use Rattle.dns_name.proofs.theory.NameOrFaultLaws as answers
use Rattle.dns_name.proofs.theory.ExtentLaws as walks

-- Each offset has a name or a fault.
pub name_or_fault : NameOrFault
name_or_fault b p = elim (answers.one_answer b p) [ inl a ↦ inl (a.0, a.1) | inr a ↦ inr a ]

-- No offset has both.
pub not_both : NameOrFaultNotBoth
not_both b p name f x y = answers.not_both b y name x (omega (arith, encoded_short x))

-- An offset has at most one name.
pub one_name : OneName
one_name b p m n x y = same b x y

-- An offset has at most one fault.
pub one_fault : OneFault
one_fault b p f g x y = answers.one_fault b x y

-- From each offset a name can be skipped to an end, or there is a skip fault.
pub end_or_skip_fault : EndOrSkipFault
end_or_skip_fault b p = walks.end_or_skip_fault b p

-- No offset has both.
pub end_not_both : EndOrSkipFaultNotBoth
end_not_both b p q f x y = walks.end_or_fault b x y

-- A name is skipped to at most one end.
pub one_end : OneEnd
one_end b p q r x y = walks.one_end b x y

-- A name that is encoded has an end.
pub names_end : EncodedNamesEnd
names_end b p name x = walks.encoded_end 0 x (omega (arith, encoded_short x))

-- A skip fault is a fault of the name.
pub skip_faults : SkipFaultsAreFaults
skip_faults b p f x = walks.skip_fault b x

-- The results of parsing and skipping at one offset agree.
pub ends_alike : SkippingEndsAlike
ends_alike old parsed skipped name (Ok done) h k = (refl, walks.one_end (seen old) k.0 h.1.0)
ends_alike old parsed skipped name (Err e) h k = absurd (walks.end_or_fault (seen old) h.1.0 k.0)

-- If skipping fails, parsing fails with the same error.
pub fails_alike : SkippingFailsAlike
fails_alike old parsed skipped e (Ok name) k h = absurd (walks.end_or_fault (seen old) h.1.0 k.0)
fails_alike old parsed skipped e (Err f) k h = answers.one_fault (seen old) h.0 (walks.skip_fault (seen old) k.0)
