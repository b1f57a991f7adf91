use Rattle.std.proofs.Common.{List, ap, subst}
use Rattle.dns_wire.specs.Parts.{Part, encode_parts}
use Rattle.dns_wire.specs.Targets.{Composes}
use Rattle.fields_table.specs.Data.{parts_of}
use Rattle.fields_table.specs.LaidOut.{encoded_parts}
use Rattle.fields_table.specs.Table.{kinds_in}
use Rattle.fields_table.proofs.Views.{as_they_are, value_at}
use Rattle.fields_table.proofs.field_data.FieldDataComposeRecordData.compose_rdata.Goals as goal

pub returns-clause-composes : goal.returns-clause-composes
returns-clause-composes g c =
    let T = g.T.Composer in
    let h = value_at c.args.self.now _ (ap kinds_in c.args.self.now.defined) in
    subst (λ (ps : List Part). Composes T.capacity T.grows (encode_parts T.rule ps) (T.written c.args.target.now) (T.written c.compose.new.target) {X = Unit {0}} c.compose.result)
    (as_they_are (parts_of c.args.self.now)) (c.compose.ensures h.0 (parts_of c.args.self.now) h.1)

pub returns-clause-is_data : goal.returns-clause-is_data
returns-clause-is_data g c =
    let h = value_at c.args.self.now _ (ap kinds_in c.args.self.now.defined) in
    record { names = encoded_parts _ _ _ _ _ h.1; short = c.args.self.now.short }
