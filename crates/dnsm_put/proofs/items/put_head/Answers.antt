use Rattle.std.proofs.Common.{List, ℕ, arith, ◌∙◌, subst}
use Rattle.dns_wire.specs.Targets.{At}
use Rattle.dnsm_put.proofs.Buffers.{kept_put, length_put}
use Rattle.dnsm_put.proofs.FieldsWritten.{put_flat}
use Rattle.dnsm_put.proofs.NamesWritten.{named_kept}
use Rattle.dnsm_put.proofs.items.put_head.Goals as goal

pub returns-clause-owner : goal.returns-clause-owner
returns-clause-owner c = λ n is e.
    let at = c.args.at in
    let after = c.in_ok-after.after in
    let l = c.put_name.ensures.length in
    let a = c.in_ok-after.ensures.after in
    let w = c.in_ok-after.ensures.within in
    let put = c.in_ok-_start.ensures.put in
    let long = length_put c.put_name.new.out c.put_octets.new.out after c.args.most _ _ (omega arith) put in
    let kept = kept_put c.put_octets.result c.put_name.new.out c.put_octets.new.out after after c.args.most _ (omega arith) (omega arith) c.put_octets.ensures.put c.put_octets.ensures.same in
    named_kept c.put_name.new.out c.put_octets.new.out at at after n (omega arith) (omega arith) (omega arith) kept (c.in_ok-after.ensures.named n is e)

pub returns-clause-fields : goal.returns-clause-fields
returns-clause-fields c =
    let l = c.put_name.ensures.length in
    let P : List ℕ → Type 0 = λ octets. At c.put_octets.new.out c.in_ok-after.after octets in
    let flat = put_flat c.put_name.new.out c.put_octets.new.out c.in_ok-after.after c.args.most _ _ (omega arith) c.in_ok-_start.ensures.put in
    subst P c.record_fields_of.ensures flat.1

pub returns-clause-kept : goal.returns-clause-kept
returns-clause-kept c =
    let l = c.put_name.ensures.length in
    kept_put c.put_octets.result c.put_name.new.out c.put_octets.new.out c.in_ok-after.after c.args.at c.args.most c.record_fields_of.result
    c.in_ok-after.ensures.after (omega arith) c.put_octets.ensures.put c.put_octets.ensures.same
    ∙ c.put_name.ensures.kept
