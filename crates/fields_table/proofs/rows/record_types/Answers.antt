use Rattle.fields_table.proofs.rows.record_types.Goals as goal

pub returns : goal.returns
returns c = c.table_is_specified.ensures
