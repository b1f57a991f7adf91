use Rattle.std.proofs.Common.{◌∙◌, sym}
use Rattle.fields_table.specs.Table as table
use Rattle.dnsview_rows.specs.Walks.{CoversAllTexts, CoversField, CoversName, CoversOctets, MissesField, MissesName, MissesOctets, MissesText}
use Rattle.dnsview_rows.specs.declared.row.RowField.TheVariants.{Named}
use Rattle.dnsview_rows.specs.declared.row.NameOf.TheVariants as names
use Rattle.dnsview_rows.proofs.DataRows.{covers_name, covers_octets, covers_texts, misses_name, misses_octets, misses_texts}
use Rattle.dnsview_rows.proofs.Stops.{on_fault, on_ok}
use Rattle.dnsview_rows.proofs.walk.Walk.field.Goals as goal

pub returns-in-Name-clause-covers : goal.returns-in-Name-clause-covers
returns-in-Name-clause-covers c =
    let old = c.args.self.now in
    let new = c.name.new.self in
    let field : table.Field = (c.args.name, c.args.kind) in
    on_ok c.name.result (CoversName (names.Field c.args.name) old new) (CoversField field old new) (covers_name field old new (sym c.in-Name.is ∙ c.form.ensures)) c.name.ensures.covers

pub returns-in-Name-clause-misses : goal.returns-in-Name-clause-misses
returns-in-Name-clause-misses c =
    let old = c.args.self.now in
    let new = c.name.new.self in
    let field : table.Field = (c.args.name, c.args.kind) in
    on_fault c.name.result (MissesName (names.Field c.args.name) old new) (MissesField field old new)
    (λ fault h. misses_name field old new fault (sym c.in-Name.is ∙ c.form.ensures) h) c.name.ensures.misses

pub returns-in-Texts-clause-covers : goal.returns-in-Texts-clause-covers
returns-in-Texts-clause-covers c =
    let old = c.args.self.now in
    let new = c.texts.new.self in
    let field : table.Field = (c.args.name, c.args.kind) in
    on_ok c.texts.result (CoversAllTexts old new) (CoversField field old new) (covers_texts field old new (sym c.in-Texts.is ∙ c.form.ensures)) c.texts.ensures.covers

pub returns-in-Texts-clause-misses : goal.returns-in-Texts-clause-misses
returns-in-Texts-clause-misses c =
    let old = c.args.self.now in
    let new = c.texts.new.self in
    let field : table.Field = (c.args.name, c.args.kind) in
    on_fault c.texts.result (MissesText old new) (MissesField field old new)
    (λ fault h. misses_texts field old new fault (sym c.in-Texts.is ∙ c.form.ensures) h) c.texts.ensures.misses

pub returns-in-Octets-clause-covers : goal.returns-in-Octets-clause-covers
returns-in-Octets-clause-covers c =
    let old = c.args.self.now in
    let new = c.some_octets.new.self in
    let n = c.in-Octets.n in
    let field : table.Field = (c.args.name, c.args.kind) in
    on_ok c.some_octets.result (CoversOctets (Named c.args.name c.args.kind) n old new) (CoversField field old new)
    (covers_octets field n old new (sym c.in-Octets.is ∙ c.form.ensures)) c.some_octets.ensures.covers

pub returns-in-Octets-clause-misses : goal.returns-in-Octets-clause-misses
returns-in-Octets-clause-misses c =
    let old = c.args.self.now in
    let new = c.some_octets.new.self in
    let n = c.in-Octets.n in
    let field : table.Field = (c.args.name, c.args.kind) in
    on_fault c.some_octets.result (MissesOctets (Named c.args.name c.args.kind) n old new) (MissesField field old new)
    (λ fault h. misses_octets field n old new fault (sym c.in-Octets.is ∙ c.form.ensures) h) c.some_octets.ensures.misses
