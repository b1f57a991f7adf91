use Rattle.std.proofs.Common.{Err, [], ◌∷◌, ap, ◌∙◌}
use Rattle.std.proofs.lemmas.Result.{err_from_is_err_and}
use Rattle.dns_wire.specs.Parts.{Octets, CompressibleName}
use Rattle.dns_data.specs.RecordData.{canonical_part}
use Rattle.dns_data.specs.Soa.{mname_of, rname_of, number_octets}
use Rattle.dns_data.proofs.ComposedParts.{one_part_composes, parts_compose_after, refused_part_composes}
use Rattle.dns_data.proofs.soa.SoaComposeRecordData.compose_canonical_rdata.Goals as goal

pub returns-in_err-compose_canonical : goal.returns-in_err-compose_canonical
returns-in_err-compose_canonical g c =
    let p = err_from_is_err_and c.from_residual.result c.from_residual.ensures.1 in
    let soa = c.args.self.now in
    let mname = canonical_part (CompressibleName (g.N.ToName.name (mname_of soa))) in
    let rname = canonical_part (CompressibleName (g.N.ToName.name (rname_of soa))) in
    refused_part_composes _ _ _ mname (rname ∷ Octets (number_octets soa) ∷ []) _ _
    c.compose_canonical.result c.from_residual.result c.in_err-compose_canonical.field-0.0 c.in_err-compose_canonical.was (p.1 ∙ ap Err p.2)
    c.compose_canonical.ensures

pub returns-in_err-compose_canonical-2 : goal.returns-in_err-compose_canonical-2
returns-in_err-compose_canonical-2 g c =
    let p = err_from_is_err_and c.from_residual-in_err-compose_canonical-2.result c.from_residual-in_err-compose_canonical-2.ensures.1 in
    let soa = c.args.self.now in
    let mname = canonical_part (CompressibleName (g.N.ToName.name (mname_of soa))) in
    let rname = canonical_part (CompressibleName (g.N.ToName.name (rname_of soa))) in
    parts_compose_after _ _ _ mname (rname ∷ Octets (number_octets soa) ∷ []) _ _ _ _ c.in_ok-compose_canonical.ensures.ok
    (refused_part_composes _ _ _ rname (Octets (number_octets soa) ∷ []) _ _
    c.compose_canonical-2.result c.from_residual-in_err-compose_canonical-2.result c.in_err-compose_canonical-2.field-0.0 c.in_err-compose_canonical-2.was (p.1 ∙ ap Err p.2)
    c.compose_canonical-2.ensures)

pub returns : goal.returns
returns g c =
    let soa = c.args.self.now in
    let mname = canonical_part (CompressibleName (g.N.ToName.name (mname_of soa))) in
    let rname = canonical_part (CompressibleName (g.N.ToName.name (rname_of soa))) in
    let numbers = Octets (number_octets soa) in
    parts_compose_after _ _ _ mname (rname ∷ numbers ∷ []) _ _ _ _ c.in_ok-compose_canonical.ensures.ok
    (parts_compose_after _ _ _ rname (numbers ∷ []) _ _ _ _ c.in_ok-compose_canonical-2.ensures.ok
    (one_part_composes _ _ _ numbers _ _ _ (rw c.number_octets.ensures at c.append_slice.ensures)))
