use Rattle.std.proofs.Common.{List, ap, ◌∙◌}
use Rattle.fields_table.specs.declared.range.TypeRange.{TypeRange}
use Rattle.fields_table.specs.Ranges.{range_types}
use Rattle.fields_table.specs.RecordTypes.{TypeDefinition}
use Rattle.fields_table.specs.Table.{fields_in, definitions_of}
use Rattle.fields_table.proofs.RangeLemmas.{fields_in_range}
use Rattle.fields_table.proofs.table.fields_of.Goals as goal

pub fields_in-requires : goal.fields_in-requires
fields_in-requires c = c.rows.ensures.increasing

pub returns : goal.returns
unfolding definitions_of
returns c =
    let rtype = c.args.rtype in
    c.fields_in.ensures
    ∙ ap (λ (types : List TypeDefinition). fields_in types rtype) c.rows.ensures.types
    ∙ ap (λ (range : TypeRange). fields_in (range_types range) rtype) c.of.ensures
    ∙ fields_in_range rtype
    ∙ ap (λ (types : List TypeDefinition). fields_in types rtype) c.table_is_specified.ensures
