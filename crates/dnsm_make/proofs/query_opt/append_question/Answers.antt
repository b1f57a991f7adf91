use Rattle.std.proofs.Common.{◌∙◌, ◌++◌, append_assoc}
use Rattle.dns_wire.specs.Encoders.{encode_name}
use Rattle.dns_item.specs.Questions.{encode_question}
use Rattle.dnsm_status.proofs.theory.PieceLemmas.{holds_as}
use Rattle.dnsm_make.proofs.query_opt.append_question.Goals as goal

pub returns : goal.returns
unfolding encode_question encode_name
returns c =
    λ octets held.
    holds_as _ _ _ _
    ((λ i. ((octets ++ c.as_slice.ensures i) ++ c.to_be_bytes.ensures i) ++ c.to_be_bytes-2.ensures i) ∙ simp append_assoc)
    (c.append_octets.ensures _ (c.append_octets-end-2.ensures _ (c.append_octets-end.ensures octets held)))
