-- What a call leaves in the buffer of its caller.
use Rattle.std.proofs.Common.{◌≡◌, ℕ, List, ◌∙◌, length, refl, sym, arith}
use Rattle.dnsm_status.specs.CallerBuffers.{WritesOctets, WritesText}
use Rattle.dnsm_status.specs.Codes.{number_of}
use Rattle.dnsm_status.specs.declared.code.CallError.{CallError}
use Rattle.dnsm_status.specs.declared.code.CallError.TheVariants.{ShortInput, BadLabel, BadPointer, LongName, Form, NoRoom, BadText, NoQuestion, BadSection, NoMemory}
use Rattle.dnsm_status.specs.declared.code.CallError.TheVariants.{LongData, TooMany, IsResponse, OtherOpcode, OtherClass, OtherType, NotOpt, BadOption, NoName}
use Rattle.dnsm_status.specs.declared.code.CallError.TheVariants.{BadData, NoOpt, TwoOpts, BadOwner, NoResponse, OtherQuery, BadRcode, Truncated, WrongClass, OutsideZone, NoSoa, WrongSoa}
use Rattle.dnsm_status.specs.declared.code.CallError.TheVariants.{AfterEnd, Incomplete}

-- the number of a fault isn't that of success
no_success : (fault : CallError) → number_of fault ≡ 0 → ⊥
no_success ShortInput is = omega arith
no_success BadLabel is = omega arith
no_success BadPointer is = omega arith
no_success LongName is = omega arith
no_success Form is = omega arith
no_success NoRoom is = omega arith
no_success BadText is = omega arith
no_success NoQuestion is = omega arith
no_success BadSection is = omega arith
no_success NoMemory is = omega arith
no_success LongData is = omega arith
no_success TooMany is = omega arith
no_success IsResponse is = omega arith
no_success OtherOpcode is = omega arith
no_success OtherClass is = omega arith
no_success OtherType is = omega arith
no_success NotOpt is = omega arith
no_success BadOption is = omega arith
no_success NoName is = omega arith
no_success BadData is = omega arith
no_success NoOpt is = omega arith
no_success TwoOpts is = omega arith
no_success BadOwner is = omega arith
no_success NoResponse is = omega arith
no_success OtherQuery is = omega arith
no_success BadRcode is = omega arith
no_success Truncated is = omega arith
no_success WrongClass is = omega arith
no_success OutsideZone is = omega arith
no_success NoSoa is = omega arith
no_success WrongSoa is = omega arith
no_success AfterEnd is = omega arith
no_success Incomplete is = omega arith

module _ (out : List ℕ) (len status : ℕ) (none : len ≡ 0) where
  -- a call that fails writes nothing
  pub refused_octets : WritesOctets out out len status
  refused_octets = record { same_length = refl; within = λ done. omega arith; empty = λ failed other. none }

  -- a call that fails writes no text
  pub refused_text : (fault : CallError) → status ≡ number_of fault → WritesText out out len status
  refused_text fault is = record { octets = refused_octets; within = λ done. absurd (no_success fault (sym is ∙ done)) }

-- what is written after the buffer was changed, by its length
pub moved_octets : {old mid new : List ℕ} {len status : ℕ} → WritesOctets mid new len status → length mid ≡ length old → WritesOctets old new len status
moved_octets w same = record { same_length = w.same_length ∙ same; within = w.within; empty = w.empty }

-- the same of a text
pub moved_text : {old mid new : List ℕ} {len status : ℕ} → WritesText mid new len status → length mid ≡ length old → WritesText old new len status
moved_text w same = record { octets = moved_octets w.octets same; within = w.within }
