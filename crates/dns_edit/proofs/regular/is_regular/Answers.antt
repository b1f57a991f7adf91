use Rattle.std.proofs.Common.{◌≡◌, ℕ, Bool, List, subst, sym, refl}
use Rattle.std.specs.Prelude.{◌↔◌, Result, Ok, Err, IfErr, IfOk, IsTrue, is_ok}
use Rattle.dns_read.specs.Message.{message_octets}
use Rattle.dns_edit.specs.declared.error.EditError.{EditError}
use Rattle.dns_edit.specs.Acceptance.{AcceptsFrom, IsRegular, RefusesTtls}
use Rattle.dns_edit.proofs.OnceLemmas.{never_both}
use Rattle.dns_edit.proofs.regular.is_regular.Goals as goal

regular_if_ok : (b slice : List ℕ) (r : Result ℕ EditError) → slice ≡ b → IfOk r (AcceptsFrom slice) → IfErr r (RefusesTtls slice) → IsTrue (is_ok r) ↔ IsRegular b
regular_if_ok b slice (Ok start) e a f = (λ t. (start, subst (λ (b : List ℕ). AcceptsFrom b start) e a), λ x. refl)
regular_if_ok b slice (Err error) e a f = (λ t. absurd (cc), λ x. absurd (never_both b error x (subst (λ (b : List ℕ). RefusesTtls b error) e f)))

pub returns : goal.returns
returns g c =
    let b = message_octets c.args.message.now in
    let x = regular_if_ok b c.as_slice.result.now c.check.result c.as_slice.ensures.octets c.check.ensures.accepts c.check.ensures.refuses in
    subst (λ (is : Bool). IsTrue is ↔ IsRegular b) (sym c.is_ok.ensures.value) x
