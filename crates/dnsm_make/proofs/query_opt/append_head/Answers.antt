use Rattle.std.proofs.Common.{◌<◌, [], ◌∷◌, ◌++◌, arith, sym}
use Rattle.std.proofs.lemmas.List.Elements.{All-from_get_or}
use Rattle.dns_code.specs.Laws.{AreOctets}
use Rattle.dns_code.proofs.theory.HeaderOctets.{octets_of_fields-fields_in}
use Rattle.dnsm_status.proofs.theory.PieceLemmas.{empty_held, holds_as}
use Rattle.dnsm_make.proofs.query_opt.append_head.Goals as goal

pub returns : goal.returns
returns c =
    λ x opt.
    let header = c.args.header.now in
    let are : AreOctets header 4 = record {
      length = c.requires;
      below = All-from_get_or (λ octet. octet < 256) header 0 (λ i within. omega (arith, c.type_inv.header i));
    } in
    let octets = sym (octets_of_fields-fields_in header are) in
    holds_as _ _ _ _ (λ i. octets i ++ (0 ∷ 1 ∷ 0 ∷ 0 ∷ 0 ∷ 0 ∷ 0 ∷ 1 ∷ [])) (c.append_octets.ensures _ (c.append_octets-end.ensures [] (empty_held _)))
