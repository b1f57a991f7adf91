use Rattle.std.proofs.Common.{Err, [], ◌∷◌, ap, ◌∙◌}
use Rattle.std.proofs.lemmas.Result.{err_from_is_err_and}
use Rattle.dns_wire.specs.Parts.{Octets, CompressibleName}
use Rattle.dns_data.specs.Soa.{mname_of, rname_of, number_octets}
use Rattle.dns_data.proofs.ComposedParts.{one_part_composes, parts_compose_after, refused_part_composes}
use Rattle.dns_data.proofs.SoaNumbers.{soa_is_data}
use Rattle.dns_data.proofs.soa.SoaComposeRecordData.compose_rdata.Goals as goal

pub returns-in_err-append_compressed_name-clause-composes :
    goal.returns-in_err-append_compressed_name-clause-composes
returns-in_err-append_compressed_name-clause-composes g c =
    let p = err_from_is_err_and c.from_residual.result c.from_residual.ensures.1 in
    let soa = c.args.self.now in
    refused_part_composes _ _ _ (CompressibleName (g.N.ToName.name (mname_of soa))) (CompressibleName (g.N.ToName.name (rname_of soa)) ∷ Octets (number_octets soa) ∷ []) _ _
    c.append_compressed_name.result c.from_residual.result c.in_err-append_compressed_name.field-0.0 c.in_err-append_compressed_name.was (p.1 ∙ ap Err p.2)
    c.append_compressed_name.ensures

pub returns-in_err-append_compressed_name-clause-is_data :
    goal.returns-in_err-append_compressed_name-clause-is_data
returns-in_err-append_compressed_name-clause-is_data g c = soa_is_data g.N.ToName.name c.args.self.now (g.met.N.ToName.is_name (mname_of c.args.self.now))
    (g.met.N.ToName.is_name (rname_of c.args.self.now))

pub returns-in_err-append_compressed_name-2-clause-composes :
    goal.returns-in_err-append_compressed_name-2-clause-composes
returns-in_err-append_compressed_name-2-clause-composes g c =
    let p = err_from_is_err_and c.from_residual-in_err-append_compressed_name-2.result c.from_residual-in_err-append_compressed_name-2.ensures.1 in
    let soa = c.args.self.now in
    let rname = CompressibleName (g.N.ToName.name (rname_of soa)) in
    parts_compose_after _ _ _ (CompressibleName (g.N.ToName.name (mname_of soa))) (rname ∷ Octets (number_octets soa) ∷ []) _ _ _ _
    c.in_ok-append_compressed_name.ensures.ok
    (refused_part_composes _ _ _ rname (Octets (number_octets soa) ∷ []) _ _
    c.append_compressed_name-2.result c.from_residual-in_err-append_compressed_name-2.result c.in_err-append_compressed_name-2.field-0.0 c.in_err-append_compressed_name-2.was (p.1 ∙ ap Err p.2)
    c.append_compressed_name-2.ensures)

pub returns-in_err-append_compressed_name-2-clause-is_data :
    goal.returns-in_err-append_compressed_name-2-clause-is_data
returns-in_err-append_compressed_name-2-clause-is_data g c = soa_is_data g.N.ToName.name c.args.self.now (g.met.N.ToName.is_name (mname_of c.args.self.now))
    (g.met.N.ToName.is_name (rname_of c.args.self.now))

pub returns-clause-composes : goal.returns-clause-composes
returns-clause-composes g c =
    let soa = c.args.self.now in
    let rname = CompressibleName (g.N.ToName.name (rname_of soa)) in
    let numbers = Octets (number_octets soa) in
    parts_compose_after _ _ _ (CompressibleName (g.N.ToName.name (mname_of soa))) (rname ∷ numbers ∷ []) _ _ _ _
    c.in_ok-append_compressed_name.ensures.ok
    (parts_compose_after _ _ _ rname (numbers ∷ []) _ _ _ _
    c.in_ok-append_compressed_name-2.ensures.ok
    (one_part_composes _ _ _ numbers _ _ _ (rw c.number_octets.ensures at c.append_slice.ensures)))

pub returns-clause-is_data : goal.returns-clause-is_data
returns-clause-is_data g c = soa_is_data g.N.ToName.name c.args.self.now (g.met.N.ToName.is_name (mname_of c.args.self.now)) (g.met.N.ToName.is_name (rname_of c.args.self.now))
