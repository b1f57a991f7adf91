use Rattle.std.proofs.Common.{◌∙◌, [], ◌∷◌, ◌++◌, ap, append_assoc, append-nil, arith}
use Rattle.std.specs.Int.{to_be_bytes, w16}
use Rattle.dns_wire.specs.Encoders.{encode_name}
use Rattle.dns_wire.specs.Parts.{encode_parts}
use Rattle.dns_item.specs.Items.{encode_record}
use Rattle.dnsm_status.proofs.theory.PieceLemmas.{holds_as}
use Rattle.dnsm_make.proofs.theory.OptQueryLemmas.{root_name}
use Rattle.dnsm_make.proofs.query_opt.append_opt.Goals as goal

pub returns-clause-opt : goal.returns-clause-opt
unfolding encode_record encode_name encode_parts
returns-clause-opt c =
    λ octets held.
    let rtype = c.to_be_bytes.ensures ∙ ap (to_be_bytes w16) c.to_int.ensures in
    holds_as _ _ _ _
    ((λ i.
    ((((octets ++ (0 ∷ [])) ++ rtype i) ++ c.to_be_bytes-2.ensures i) ++ c.to_be_bytes-3.ensures i) ++ c.to_be_bytes-4.ensures i ++ c.args.options.now)
    ∙ simp (append_assoc, append-nil))
    (c.append_octets.ensures _
    (c.append_octets-end-5.ensures _ (c.append_octets-end-4.ensures _ (c.append_octets-end-3.ensures _ (c.append_octets-end-2.ensures _ (c.append_octets-end.ensures octets held))))))

pub returns-clause-is_record : goal.returns-clause-is_record
returns-clause-is_record c =
    record { owner = root_name; rtype = omega arith; class = omega arith; ttl = omega arith; parts = tt; short = omega arith }
