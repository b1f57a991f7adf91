use Rattle.std.proofs.Common.{◌≡◌, ◌∙◌, ℕ, ap, subst, sym}
use Rattle.std.specs.Prelude.{Bool, ◌&&◌, ◌==◌}
use Rattle.dnsm_put.specs.Refusals.{put_fault}
use Rattle.dnsm_put.specs.declared.draft.PutError.TheVariants.{NoRoom}
use Rattle.dnsm_status.specs.Codes.{number_of}
use Rattle.dnsm_put.specs.Sets.{IsLeftOut, is_no_room}
use Rattle.dnsm.proofs.ReasonLemmas.{no_room_number, not_both, same_error}
use Rattle.dnsm.proofs.drafting.dnsm_put_set.Goals as goal

pub returns-in-Ok-clause-truncated : goal.returns-in-Ok-clause-truncated
returns-in-Ok-clause-truncated c = λ tc. absurd (not_both _ _ NoRoom c.in-Ok.is (c.put_set.ensures.truncated tc))

pub returns-in-Err-clause-truncated : goal.returns-in-Err-clause-truncated
returns-in-Err-clause-truncated c = λ tc.
    c.of_fault.ensures.number ∙ ap number_of (c.into.ensures ∙ ap put_fault (same_error _ NoRoom _ c.in-Err.is (c.put_set.ensures.truncated tc)))

pub returns-in-Err-clause-left_out : goal.returns-in-Err-clause-left_out
returns-in-Err-clause-left_out c = λ failed.
    let number = c.of_fault.ensures.number ∙ ap number_of c.into.ensures in
    let same : (c.of_fault.result == 7) ≡ is_no_room c.in-Err.error = ap (λ (n : ℕ). n == 7) number ∙ no_room_number c.in-Err.error in
    subst (λ (r : Bool). IsLeftOut (c.args.required && r) c.args.draft.now c.put_set.new.draft) (sym same) c.in-Err.ensures.left_out
