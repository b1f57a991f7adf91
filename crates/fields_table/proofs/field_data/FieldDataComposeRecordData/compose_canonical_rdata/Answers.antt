use Rattle.std.proofs.Common.{List, ap, subst}
use Rattle.dns_wire.specs.Parts.{Part, encode_parts}
use Rattle.dns_wire.specs.Targets.{Composes}
use Rattle.fields_table.specs.Data.{parts_of}
use Rattle.fields_table.specs.Table.{kinds_in}
use Rattle.fields_table.proofs.Views.{in_canonical_form, value_at}
use Rattle.fields_table.proofs.field_data.FieldDataComposeRecordData.compose_canonical_rdata.Goals as goal

pub returns : goal.returns
returns g c =
    let T = g.T.Composer in
    let h = value_at c.args.self.now _ (ap kinds_in c.args.self.now.defined) in
    subst (λ (ps : List Part). Composes T.capacity T.grows (encode_parts T.rule ps) (T.written c.args.target.now) (T.written c.compose.new.target) {X = Unit {0}} c.compose.result)
    (in_canonical_form (parts_of c.args.self.now)) (c.compose.ensures h.0 (parts_of c.args.self.now) h.1)
