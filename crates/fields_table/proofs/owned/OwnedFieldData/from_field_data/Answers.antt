use Rattle.std.proofs.Common.{List, ℕ, ap, ◌∙◌}
use Rattle.dns_wire.specs.Encoders.{Plain}
use Rattle.dns_wire.specs.Parts.{encode_parts}
use Rattle.dns_wire.specs.Targets.{append, with_empty_table}
use Rattle.fields_table.specs.Data.{parts_of}
use Rattle.fields_table.proofs.OwnedCopies.{copied}
use Rattle.fields_table.proofs.owned.OwnedFieldData.from_field_data.Goals as goal

pub invariant_of-result : goal.invariant_of-result
invariant_of-result c =
    let source = c.args.source.now in
    let written = c.in_ok-compose_rdata.ensures.composes.ok ∙ ap (λ (xs : List ℕ). append (encode_parts Plain (parts_of source)) (with_empty_table xs)) c.new-octets.ensures.items in
    let copy = copied source c.compose_rdata.new.target.items written c.to_int.result (c.to_int.ensures ∙ c.rtype.ensures) in
    record { encoded = copy.there; short = copy.short }

pub returns : goal.returns
returns c =
    let source = c.args.source.now in
    let written = c.in_ok-compose_rdata.ensures.composes.ok ∙ ap (λ (xs : List ℕ). append (encode_parts Plain (parts_of source)) (with_empty_table xs)) c.new-octets.ensures.items in
    let copy = copied source c.compose_rdata.new.target.items written c.to_int.result (c.to_int.ensures ∙ c.rtype.ensures) in
    ((c.to_int.ensures ∙ c.rtype.ensures, copy.parts), λ h. h)
