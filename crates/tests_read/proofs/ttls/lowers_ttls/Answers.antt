use Rattle.std.proofs.Common.{◌≡◌, ◌↔◌, List, ℕ, Bool}
use Rattle.std.specs.Prelude.{Result, Ok, Err, is_ok, IsTrue, IfErr, OnOk}
use Rattle.dns_edit.specs.Acceptance.{AcceptsTtls, NeverBoth, RefusesTtls}
use Rattle.dns_edit.specs.declared.error.EditError.{EditError}
use Rattle.tests_read.proofs.ttls.lowers_ttls.Goals as goal

exact : {T : Type 0} (b : List ℕ) (r : Result T EditError) (x : Bool) → NeverBoth → OnOk r (AcceptsTtls b) → IfErr r (RefusesTtls b) → x ≡ is_ok r → IsTrue x ↔ AcceptsTtls b
exact b (Ok v) x never accepted refused e = (λ t. accepted, λ a. e)
exact b (Err error) x never accepted refused e = (λ t. absurd (cc), λ a. absurd (never b error a refused))

pub returns : goal.returns
returns c = exact _ c.age_ttls.result _ c.never_both.ensures c.age_ttls.ensures.accepted c.age_ttls.ensures.refused c.is_ok.ensures.value
