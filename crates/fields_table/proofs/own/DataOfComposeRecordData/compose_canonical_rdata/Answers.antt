use Rattle.std.proofs.Common.{List, subst}
use Rattle.dns_wire.specs.Parts.{Part, encode_parts}
use Rattle.dns_wire.specs.Targets.{Composes}
use Rattle.fields_table.specs.OwnTypes.{own_parts_of}
use Rattle.fields_table.proofs.OwnTypes.{data_at}
use Rattle.fields_table.proofs.Views.{in_canonical_form}
use Rattle.fields_table.proofs.own.DataOfComposeRecordData.compose_canonical_rdata.Goals as goal

pub returns : goal.returns
returns g c =
    let T = g.C.Composer in
    let d = c.args.self.now in
    let h = data_at c.fields.result.now _ c.fields.ensures.defined d.parser d.encoded in
    subst (λ (ps : List Part). Composes T.capacity T.grows (encode_parts T.rule ps) (T.written c.args.target.now) (T.written c.compose.new.target) {X = Unit {0}} c.compose.result)
    (in_canonical_form (own_parts_of d)) (c.compose.ensures h.0 (own_parts_of d) h.1)
